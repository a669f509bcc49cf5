use Rattle.std.proofs.Common.{◌≡◌, ◌∙◌, ◌++◌, ◌∷◌, ◌+◌, All, List, ℕ, [], ap, append_assoc, arith, drop, subst, sym}
use Rattle.std.proofs.lemmas.List.{append-nil}
use Rattle.std.proofs.lemmas.List.Elements.{All-head, All-tail}
use Rattle.proof_tree.specs.declared.weights.SumWeight.{SumWeight}
use Rattle.bound_certificate.specs.Grammar.{weights_of}
use Rattle.bound_certificate.proofs.TailLoops.{weight-is, weight_at, weights-end, weights-more}
use Rattle.bound_certificate.proofs.WeightFacts.{IsSum}
use Rattle.bound_certificate.proofs.tail.list_weights.Goals as goal

pub overflow_cast-numbers : goal.overflow_cast-numbers
overflow_cast-numbers c =
    let numbers : List ℕ = c.args.numbers.now in
    let place : ℕ = c.loop-place.place in
    let P : List SumWeight → Type 0 = λ ws. All IsSum ws in
    let all : All IsSum (weight_at numbers place ∷ weights_of (drop (place + 3) numbers)) =
    subst P (weights-more numbers place c.loop-place-test.true) c.loop-place.invariant.few in
    let here : IsSum (weight_at numbers place) = All-head IsSum (weight_at numbers place) (weights_of (drop (place + 3) numbers)) all in
    omega (arith, here)

pub loop-place-preserved : goal.loop-place-preserved
loop-place-preserved c =
    let i = c.loop-place.invariant in
    let numbers : List ℕ = c.args.numbers.now in
    let place : ℕ = c.loop-place.place in
    let more : weights_of (drop place numbers) ≡ weight_at numbers place ∷ weights_of (drop (place + 3) numbers) = weights-more numbers place c.loop-place-test.true in
    let P : List SumWeight → Type 0 = λ ws. All IsSum ws in
    record {
      room = omega (arith, i.room, c.push.ensures.len);
      within = omega (arith, c.loop-place-test.true);
      few = All-tail IsSum (weight_at numbers place) (weights_of (drop (place + 3) numbers)) (subst P more i.few);
      so_far =
          ap (λ (ws : List SumWeight). ws ++ weights_of (drop (place + 3) numbers)) c.push.ensures.items
          ∙ ap (λ (own : SumWeight). (c.loop-place.weights.items ++ own ∷ []) ++ weights_of (drop (place + 3) numbers))
          (weight-is numbers place c.saturating_sub.result c.side_said.result c.saturating_sub.ensures c.side_said.ensures)
          ∙ append_assoc c.loop-place.weights.items (weight_at numbers place ∷ []) (weights_of (drop (place + 3) numbers))
          ∙ ap (λ (ws : List SumWeight). c.loop-place.weights.items ++ ws) (sym more) ∙ i.so_far;
    }

pub returns : goal.returns
returns c =
    let numbers : List ℕ = c.args.numbers.now in
    sym (append-nil c.loop-place.weights.items)
    ∙ ap (λ (ws : List SumWeight). c.loop-place.weights.items ++ ws) (sym (weights-end numbers c.loop-place.place (omega (arith, c.loop-place-test.false))))
    ∙ c.loop-place.invariant.so_far
