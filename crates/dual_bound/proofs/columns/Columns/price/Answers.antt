use Rattle.std.proofs.Common.{ℕ, All, sym, ap, subst, arith}
use Rattle.dual_bound.specs.Leasts.{AreLeasts}
use Rattle.dual_bound.specs.Loads.{unweighted}
use Rattle.dual_bound.specs.Rooms.{IsRoom}
use Rattle.dual_bound.specs.declared.tableau.Tableau.{Tableau}
use Rattle.proof_tree.specs.declared.tree.Leaf.{Leaf}
use Rattle.dual_bound.proofs.LeastFacts.{leasts-unweighted}
use Rattle.dual_bound.proofs.columns.Columns.price.Goals as goal

pub invariant_of-self : goal.invariant_of-self
invariant_of-self c =
    let book = c.self.inside.book.now in
    let tableau = c.self.inside.tableau in
    let known = c.self.invariant.0.known in
    let leasts = c.price.ensures tableau.yield_units.0 book known.of_book.leaf.every_date known.right in (
      record {
        known = record {
          of_book = c.price-then-few.ensures.tableau;
          right = subst (λ (leaf : Leaf). AreLeasts c.price-then-few.new.self.yield_units.0 book leaf c.price.new.self) (sym c.price-then-few.ensures.leaf)
              (subst (λ (n : ℕ). AreLeasts n book (unweighted c.args.leaf.now) c.price.new.self) (sym (ap (λ (t : Tableau). t.yield_units.0) c.price-then-few.ensures.frame))
              (leasts-unweighted tableau.yield_units.0 book c.args.leaf.now c.price.new.self leasts));
        };
        besides = subst (λ (t : Tableau). All (IsRoom book t) c.self.inside.rooms.rooms.items) (sym c.price-then-few.ensures.frame) c.self.invariant.0.besides;
        room = omega (arith, c.self.invariant.0.room, c.take-few.ensures.room);
      },
      c.take.ensures.loads,
      c.self.invariant.2,
    )
