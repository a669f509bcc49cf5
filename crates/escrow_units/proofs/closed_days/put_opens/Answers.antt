use Rattle.std.proofs.Common.{◌≡◌, ◌∙◌, ℕ, ◌+◌, ◌-◌, ap, subst, arith, ℤ, pos, ◌+ℤ◌}
use Rattle.std.proofs.lemmas.List.{length-set}
use Rattle.jiff_core.proofs.SignedLemmas.{signed_casts}
use Rattle.escrow_units.proofs.OpenTableFacts.{KnownFrom, put-more}
use Rattle.escrow_units.proofs.closed_days.put_opens.Goals as goal

pub loop-place-preserved : goal.loop-place-preserved
loop-place-preserved c =
    let place = c.loop-place.place - 1 in
    let d = c.index-ordered-place.result in
    let same : c.loop-place.place ≡ place + 1 = omega (arith, c.loop-place-test.true) in
    let next : c.new-next.result ≡ d +ℤ pos 1 = omega (arith, signed_casts, c.new-next.ensures, c.number.ensures.value, c.number.ensures.bound) in
    record {
      count = length-set c.loop-place.opens place c.open_from.result ∙ c.loop-place.invariant.count;
      within = omega (arith, c.loop-place.invariant.within);
      known = λ closed weekends order k a e from inside.
          put-more closed c.args.ordered.now c.loop-place.opens place d c.new-next.result c.open_from.result order
          (omega (arith, c.loop-place-test.true, c.loop-place.invariant.within)) c.loop-place.invariant.count
          (next ∙ ap (λ (z : ℤ). z +ℤ pos 1) c.index-ordered-place.is)
          (subst (λ (n : ℕ). KnownFrom closed c.args.ordered.now c.loop-place.opens n) same (c.loop-place.invariant.known closed weekends order))
          (c.open_from.ensures closed weekends order) k a e from inside;
    }

pub returns-clause-opens : goal.returns-clause-opens
returns-clause-opens c = λ closed weekends order day place d e within from.
    c.loop-place.invariant.known closed weekends order place d e (omega (arith, c.loop-place-test.false)) within
