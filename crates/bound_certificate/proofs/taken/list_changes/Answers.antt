use Rattle.std.proofs.Common.{◌≡◌, ◌∙◌, ◌++◌, ◌∷◌, ◌+◌, ◌≤◌, List, ℕ, [], ap, append_assoc, arith, drop, subst, sym}
use Rattle.std.proofs.lemmas.List.{append-nil}
use Rattle.std.proofs.lemmas.List.Elements.{All-head, All-tail}
use Rattle.bound_certificate.specs.declared.packed.Change.{Change}
use Rattle.bound_certificate.specs.Grammar.{ArePlaces, changes_of}
use Rattle.bound_certificate.proofs.LoopFacts.{change_at, changes-end, changes-more}
use Rattle.bound_certificate.proofs.taken.list_changes.Goals as goal

abbrev IsPlace : Change → Type 0
IsPlace change = (1 ≤ change.place) × (change.place ≤ 65_535)

pub overflow_cast-numbers : goal.overflow_cast-numbers
overflow_cast-numbers g c =
    let numbers : List ℕ = c.args.numbers.now in
    let place : ℕ = c.loop-place.place in
    let P : List Change → Type 0 = λ cs. ArePlaces 65_535 cs in
    let all : ArePlaces 65_535 (change_at numbers place ∷ changes_of (drop (place + 2) numbers)) =
    subst P (changes-more numbers place c.loop-place-test.true) c.loop-place.invariant.few in
    let here : IsPlace (change_at numbers place) = All-head IsPlace (change_at numbers place) (changes_of (drop (place + 2) numbers)) all in
    omega (arith, here.1)

pub loop-place-preserved : goal.loop-place-preserved
loop-place-preserved g c =
    let i = c.loop-place.invariant in
    let numbers : List ℕ = c.args.numbers.now in
    let place : ℕ = c.loop-place.place in
    let more : changes_of (drop place numbers) ≡ change_at numbers place ∷ changes_of (drop (place + 2) numbers) = changes-more numbers place c.loop-place-test.true in
    let P : List Change → Type 0 = λ cs. ArePlaces 65_535 cs in
    record {
      room = omega (arith, i.room, c.push.ensures.len);
      within = omega (arith, c.loop-place-test.true);
      few = All-tail IsPlace (change_at numbers place) (changes_of (drop (place + 2) numbers)) (subst P more i.few);
      so_far =
          ap (λ (cs : List Change). cs ++ changes_of (drop (place + 2) numbers)) c.push.ensures.items
          ∙ append_assoc c.loop-place.changes.items (change_at numbers place ∷ []) (changes_of (drop (place + 2) numbers))
          ∙ ap (λ (cs : List Change). c.loop-place.changes.items ++ cs) (sym more) ∙ i.so_far;
    }

pub returns : goal.returns
returns g c =
    let numbers : List ℕ = c.args.numbers.now in
    sym (append-nil c.loop-place.changes.items)
    ∙ ap (λ (cs : List Change). c.loop-place.changes.items ++ cs) (sym (changes-end numbers c.loop-place.place (omega (arith, c.loop-place-test.false))))
    ∙ c.loop-place.invariant.so_far
