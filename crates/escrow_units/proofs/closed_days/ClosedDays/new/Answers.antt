use Rattle.std.proofs.Common.{◌≡◌, ◌∙◌, ◌++◌, ap, refl, sym, subst, arith, length, drop, take, List, ℤ}
use Rattle.std.specs.Prelude.{All, IsPermutation}
use Rattle.std.proofs.lemmas.List.Sorted.{All-permutation}
use Rattle.escrow_units.specs.OpenDays.{Closings, IsBy2190}
use Rattle.escrow_units.specs.OpenTable.{AreInOrder, IsOpenTable}
use Rattle.escrow_units.proofs.OpenTableFacts.{given-back}
use Rattle.escrow_units.proofs.closed_days.ClosedDays.new.Goals as goal

pub put_opens-requires-clause-by : goal.put_opens-requires-clause-by
put_opens-requires-clause-by c =
    let same : IsPermutation c.args.days.items c.sort_unstable.new.self.items = subst (λ (xs : List ℤ). IsPermutation xs c.sort_unstable.new.self.items) (c.in_ok-ordered.ensures.items ∙ c.as_slice.ensures.value) c.sort_unstable.ensures.permutation in
    subst (All IsBy2190) (sym c.as_slice-2.ensures.value)
    (All-permutation IsBy2190 c.args.days.items c.sort_unstable.new.self.items same c.requires)

pub invariant_of-result : goal.invariant_of-result
invariant_of-result c =
    let closed : Closings = record { weekends = c.args.weekends; days = c.args.days.items } in
    let ordered = c.sort_unstable.new.self.items in
    let same : IsPermutation c.args.days.items ordered = subst (λ (xs : List ℤ). IsPermutation xs ordered) (c.in_ok-ordered.ensures.items ∙ c.as_slice.ensures.value) c.sort_unstable.ensures.permutation in
    let order : AreInOrder closed ordered = record { same = same; rise = c.sort_unstable.ensures.sorted } in
    let count : length c.put_opens.new.opens ≡ length ordered = c.put_opens.ensures.count ∙ ap length c.as_slice-2.ensures.value in
    let back : take c.in_ok-opens.opens.len (c.put_opens.new.opens ++ drop (length c.put_opens.new.opens) c.in_ok-opens.opens.items) ≡ c.put_opens.new.opens =
    given-back c.in_ok-opens.opens.len c.put_opens.new.opens (drop (length c.put_opens.new.opens) c.in_ok-opens.opens.items)
    (omega (arith, c.put_opens.ensures.count, c.as_slice-2.ensures.len, c.len.ensures, c.in_ok-opens.ensures.len)) in
    subst (IsOpenTable closed ordered) (sym back) (record {
      by = c.requires;
      order = order;
      count = count;
      all = rw c.as_slice-2.ensures.value at (c.put_opens.ensures.opens closed refl (rw c.as_slice-2.ensures.value order));
    })
