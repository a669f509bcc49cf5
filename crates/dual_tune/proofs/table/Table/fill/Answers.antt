use mir.Syntax.{w128}
use Rattle.std.proofs.Common.{◌≡◌, ◌∙◌, ◌*◌, List, length, pos, sym, ap, subst, arith}
use Rattle.std.proofs.lemmas.Int.{to_z-of_z}
use Rattle.std.proofs.lemmas.List.{with_items_is}
use Rattle.std.specs.Vec.{with_items}
use Rattle.offer_book.specs.Book.{BookContents}
use Rattle.offer_book.specs.declared.coefficients.TheConstants.{COEFFICIENT_SCALE}
use Rattle.dual_bound.specs.LeafBound.{priced_needs}
use Rattle.dual_bound.specs.Columns.{ColumnsContents}
use Rattle.proof_tree.specs.Tree.{IsLeaf}
use Rattle.proof_tree.specs.declared.tree.Leaf.{Leaf}
use Rattle.dual_tune.specs.Table.{AreStepForms, AreMultiplierForms, HasRoomForPayers, HasMultiplierRoom}
use Rattle.dual_tune.specs.declared.payers.Payers.{Payers}
use Rattle.dual_tune.proofs.table.Table.fill.Goals as goal

pub returns-clause-table : goal.returns-clause-table
returns-clause-table c =
    let n = c.args.columns.now.yield_units in
    let book = c.args.columns.now.book in
    let room = c.requires.room in
    let payers = c.args.self.now.payers.items in
    let put_dates = c.put_dates.new.dates in
    let dates = c.args.self.now.dates in
    let long : length put_dates ≡ dates.len = omega (arith, c.put_dates.auto.dates, ap length c.deref_mut.ensures.value, dates.ok.0) in
    let items : put_dates ≡ (with_items dates put_dates).items = sym (with_items_is dates put_dates long) in
    let leaf_is = c.put.ensures.leaf ∙ c.copy_leaf.ensures in
    let lines : HasMultiplierRoom (length book.lines) c.put.new.self = subst (λ m. HasMultiplierRoom m c.put.new.self) (c.line_count.ensures.value ∙ ap (λ (b : BookContents). length b.lines) room.own) c.put.ensures.room in
    record {
      room = record {
        own = room.own;
        payers = room.payers;
        prices = ap (λ (l : Leaf). length l.prices) leaf_is ∙ c.requires.leaf.every_date;
        lines = lines;
        dates = sym (with_items dates put_dates).ok.0 ∙ dates.ok.0 ∙ room.dates;
        steps = subst (HasRoomForPayers payers) items (subst (λ (p : List Payers). HasRoomForPayers p put_dates) c.as_slice.ensures.value c.put_dates.ensures.room);
      };
      leaf = subst (IsLeaf (length book.needs)) (sym leaf_is) c.requires.leaf;
      unweighted = ap (λ (l : Leaf). l.weights) leaf_is ∙ c.requires.unweighted;
      needs = to_z-of_z w128 c.needs_worth-self.result (record { sfits = c.needs_worth-self.type_inv }) ∙ c.needs_worth-self.ensures
          ∙ (λ i. pos (COEFFICIENT_SCALE * priced_needs (room.own i).needs (sym leaf_is i).prices));
      lines = subst (λ (l : Leaf). AreMultiplierForms n book l c.put.new.self) (sym c.put.ensures.leaf) (record { room = lines; given = c.put.ensures.given; multipliers = c.put.ensures.multipliers });
      steps = subst (AreStepForms n book c.put.new.leaf payers) items
          (subst (λ (l : Leaf). AreStepForms n book l payers put_dates) (sym leaf_is)
          (subst (λ (p : List Payers). AreStepForms n book c.args.leaf.now p put_dates) c.as_slice.ensures.value
          (subst (λ (s : ColumnsContents). AreStepForms s.yield_units s.book c.args.leaf.now c.as_slice.result.now put_dates) c.put.ensures.columns c.put_dates.ensures.forms)));
    }
