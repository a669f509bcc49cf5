use Rattle.std.proofs.Common.{◌<◌, ◌≤◌, All, length, sym, ap, subst, arith}
use Rattle.std.proofs.lemmas.List.{length-map}
use Rattle.std.proofs.lemmas.Slice.Zip.{AllZip-long}
use Rattle.fixed_powers.specs.DiscountPowers.{one}
use Rattle.cash_table.proofs.PaymentFacts.{count_lines}
use Rattle.dual_bound.specs.Columns.{IsColumn, IsLightWorth, IsStopWithin, worth_on}
use Rattle.dual_bound.specs.declared.column.Column.{Column}
use Rattle.proof_tree.specs.declared.tree.Leaf.{Leaf}
use Rattle.dual_bound.proofs.TableauFacts.{columns-there, worths-light}
use Rattle.dual_bound.proofs.tableau.Tableau.make.Goals as goal

pub columns_of-requires-clause-table : goal.columns_of-requires-clause-table
columns_of-requires-clause-table c = c.in_ok-table.ensures.table c.args.powers.now.yield_units c.args.book.now

pub make-requires-clause-lines : goal.make-requires-clause-lines
make-requires-clause-lines c =
    omega (
      arith,
      count_lines c.args.book.now.days c.args.book.now.lines c.need_count.ensures.limits.lines,
      AllZip-long (IsColumn c.args.powers.now.yield_units c.args.book.now c.columns_of.new.table.days.items) c.args.book.now.lines c.in_ok-columns.columns.items c.in_ok-columns.ensures.columns,
      ap length c.as_slice-4.ensures.value,
    )

pub make-requires-clause-there : goal.make-requires-clause-there
make-requires-clause-there c =
    subst (λ days. All (λ (column : Column). All (λ place. place < length days) column.places.items) c.as_slice-4.result.now) (sym c.as_slice-3.ensures.value)
    (subst (All (λ (column : Column). All (λ place. place < length c.columns_of.new.table.days.items) column.places.items)) (sym c.as_slice-4.ensures.value)
    (columns-there c.args.powers.now.yield_units c.args.book.now c.columns_of.new.table.days.items c.args.book.now.lines c.in_ok-columns.columns.items c.in_ok-columns.ensures.columns))

pub sums_of-requires-clause-there : goal.sums_of-requires-clause-there
sums_of-requires-clause-there c =
    subst (All (IsStopWithin (length c.as_slice-6.result.now))) (sym c.as_slice-5.ensures.value)
    (subst (λ n. All (IsStopWithin n) c.in_ok-series.series.stops.items)
    (omega (
      arith,
      ap length c.as_slice-6.ensures.value,
      ap length c.in_ok-worths.ensures,
      length-map c.as_slice-2.result.now (worth_on c.in_ok-leaf.leaf),
      ap length c.as_slice-2.ensures.value,
      ap length c.as_slice-3.ensures.value,
    )) c.in_ok-series.ensures.laid.there)

pub sums_of-requires-clause-light : goal.sums_of-requires-clause-light
sums_of-requires-clause-light c =
    subst (All IsLightWorth) (sym c.as_slice-6.ensures.value)
    (worths-light c.need_count.result c.in_ok-leaf.leaf c.as_slice-2.result.now c.in_ok-worths.worths.items c.in_ok-leaf.ensures.leaf
    (subst (All (λ priced. priced.power ≤ one)) (sym c.as_slice-2.ensures.value) c.in_ok-columns.ensures.table.powers) c.in_ok-worths.ensures)

pub returns-clause-tableau : goal.returns-clause-tableau
returns-clause-tableau c = record {
  limits = c.need_count.ensures.limits;
  leaf = rw (← c.need_count.ensures.value) c.in_ok-leaf.ensures.leaf;
  unweighted = ap (λ (leaf : Leaf). leaf.weights) c.in_ok-leaf.ensures.value;
  powers = c.in_ok-columns.ensures.table.powers;
  columns = rw (c.yield_units.ensures) c.in_ok-columns.ensures.columns;
  small = c.in_ok-columns.ensures.small;
  date_days = rw (← c.need_count-2.ensures.value, ← c.as_slice.ensures.value) c.in_ok-date_days.ensures;
  worths = rw (← c.as_slice-2.ensures.value) c.in_ok-worths.ensures;
  series = rw (← c.need_count-3.ensures.value, ← c.as_slice-3.ensures.value, ← c.as_slice-4.ensures.value) c.in_ok-series.ensures.laid;
  sums = rw (← c.as_slice-5.ensures.value, ← c.as_slice-6.ensures.value) c.in_ok-sums.ensures;
  needs = rw (← c.needs.ensures.value, ← c.as_slice-7.ensures) c.priced_needs-needs.ensures.value;
}
