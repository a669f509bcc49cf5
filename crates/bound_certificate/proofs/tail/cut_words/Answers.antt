use Rattle.std.proofs.Common.{◌≡◌, ◌∙◌, ◌+◌, ◌≤◌, nat_eq, true, false, List, ℕ, length, refl, sym, ap, arith}
use lib.Pointwise.{pointwise}
use Rattle.bound_certificate.specs.Grammar.{is_tail}
use Rattle.bound_certificate.proofs.TailLoops.{first-left, left-size, next-left, none-left, tail-at}
use Rattle.bound_certificate.proofs.tail.cut_words.Goals as goal

pub loop-rest-init : goal.loop-rest-init
loop-rest-init c = first-left c.args.line.now c.cut_at.result.front.now c.cut_at.result.rest c.cut_at.ensures c.requires

pub overflow_sub-result : goal.overflow_sub-result
overflow_sub-result c =
    let size : length c.in-Some.words.now + 1 ≤ length c.args.line.now = left-size c.args.line.now c.in-Some.words c.loop-rest.rest c.in-Some.is c.loop-rest.invariant in
    omega (arith, size)

pub slice_bounds-result-count : goal.slice_bounds-result-count
slice_bounds-result-count c =
    let size : length c.in-Some.words.now + 1 ≤ length c.args.line.now = left-size c.args.line.now c.in-Some.words c.loop-rest.rest c.in-Some.is c.loop-rest.invariant in
    omega (arith, size)

pub returns-then-eq : goal.returns-then-eq
returns-then-eq c =
    let named : is_tail c.cut_at-word.result.front.now ≡ true =
    ap (λ (w : List ℕ). pointwise nat_eq w c.cut_at-word.result.front.now) (sym c.as_slice.ensures) ∙ sym c.eq.ensures ∙ c.if-eq.true in
    tail-at c.args.line.now _ c.in-Some.words c.cut_at-word.result.front.now c.loop-rest.rest c.cut_at-word.result.rest c.in-Some.is c.loop-rest.invariant c.cut_at-word.ensures named refl

pub loop-rest-preserved : goal.loop-rest-preserved
loop-rest-preserved c =
    let bare : is_tail c.cut_at-word.result.front.now ≡ false =
    ap (λ (w : List ℕ). pointwise nat_eq w c.cut_at-word.result.front.now) (sym c.as_slice.ensures) ∙ sym c.eq.ensures ∙ c.if-eq.false in
    next-left c.args.line.now c.in-Some.words c.cut_at-word.result.front.now c.loop-rest.rest c.cut_at-word.result.rest c.in-Some.is c.loop-rest.invariant c.cut_at-word.ensures bare

pub returns : goal.returns
returns c = none-left c.args.line.now c.loop-rest.rest c.in_default.is c.loop-rest.invariant
