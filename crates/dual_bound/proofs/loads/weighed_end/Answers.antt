use Rattle.std.proofs.Common.{◌≡◌, ◌∙◌, ℕ, ◌*◌, ◌*ℤ◌, get_or, map, pos, sym, ap, arith}
use mir.Syntax.{w128}
use Rattle.std.proofs.lemmas.Int.{to_z-of_z}
use Rattle.std.proofs.Math.Nat.{mul-le-mul_left}
use Rattle.offer_book.specs.Sums.{counted, depths}
use Rattle.offer_book.specs.declared.coefficients.TheConstants.{COEFFICIENT_SCALE}
use Rattle.offer_book.specs.declared.line.Line.{Line}
use Rattle.dual_bound.specs.LeafBound.{by_side, sum_at}
use Rattle.proof_tree.specs.declared.interval.Interval.{Interval}
use Rattle.proof_tree.specs.declared.weights.Side.{Side}
use Rattle.dual_bound.proofs.LoadFacts.{counted-small, end-counted, sums-length_of}
use Rattle.dual_bound.proofs.Signed.{read-again}
use Rattle.dual_bound.proofs.loads.weighed_end.Goals.{in-AtLeast, in-AtMost}
use Rattle.dual_bound.proofs.loads.weighed_end.Goals as goal

pub bounds-sums-from : goal.bounds-sums-from
bounds-sums-from c = omega (arith, c.from.ensures, c.requires.own.sum, sums-length_of c.args.book.now c.args.sums.now c.requires.sums)

-- the end that is taken is that of the weight's side
end-is : (c : goal.After-signed_weight) → c.match-own.end ≡ by_side c.args.own.side (sum_at c.args.sums.now c.args.own.sum).low (sum_at c.args.sums.now c.args.own.sum).high
end-is c =
    let at : get_or c.args.sums.now c.from.result (record { low = 0; high = 0 }) ≡ sum_at c.args.sums.now c.args.own.sum =
    ap (λ (k : ℕ). get_or c.args.sums.now k (record { low = 0; high = 0 })) c.from.ensures in
    elim c.match-own.branch [
      | in-AtLeast w ↦
          w.end-is ∙ ap (λ (i : Interval). i.low) at
          ∙ ap (λ (side : Side). by_side side (sum_at c.args.sums.now c.args.own.sum).low (sum_at c.args.sums.now c.args.own.sum).high) (sym w.in-AtLeast.is)
      | in-AtMost w ↦
          w.end-is ∙ ap (λ (i : Interval). i.high) at
          ∙ ap (λ (side : Side). by_side side (sum_at c.args.sums.now c.args.own.sum).low (sum_at c.args.sums.now c.args.own.sum).high) (sym w.in-AtMost.is)
    ]

pub scaled_end-requires-clause-end : goal.scaled_end-requires-clause-end
scaled_end-requires-clause-end c =
    let most = end-counted c.args.book.now c.args.sums.now c.args.own.sum c.args.own.side c.requires.sums c.requires.ordered c.requires.own.sum in
    omega (
      arith,
      ap (λ (n : ℕ). c.args.coarse * n) (end-is c),
      mul-le-mul_left c.args.coarse most,
      ap (λ (n : ℕ). n * counted c.args.own.sum (depths c.args.book.now) (map (λ (line : Line). line.most) c.args.book.now.lines)) c.requires.coarse,
      counted-small c.args.book.now c.args.own.sum c.requires.limits,
    )

pub returns-clause-value : goal.returns-clause-value
returns-clause-value c =
    let weight = read-again c.signed_weight.result (omega (arith, c.signed_weight.ensures.small)) ∙ c.signed_weight.ensures.value in
    to_z-of_z w128 c.scaled_end.result (record { sfits = c.scaled_end.type_inv }) ∙ c.scaled_end.ensures.value
    ∙ (λ i. pos (COEFFICIENT_SCALE * c.requires.coarse i) *ℤ (weight i *ℤ pos (end-is c.before i)))
