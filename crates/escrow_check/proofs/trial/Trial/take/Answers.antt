use Rattle.std.proofs.Common.{sym, subst}
use Rattle.bound_certificate.specs.Draft.{with_item}
use Rattle.bound_certificate.specs.Step.{due_after}
use Rattle.bound_certificate.specs.declared.item.Item.{Item}
use Rattle.case_file.specs.Case.{CaseContents, case_view}
use Rattle.proof_tree.specs.declared.tree.Leaf.{Leaf}
use Rattle.escrow_check.specs.Knows.{Comes, Knows}
use Rattle.escrow_check.proofs.TakeFacts.{comes_gap, comes_leaf, comes_point, comes_split, knows-buy, knows-gap, knows-leaf, knows-point, knows-split, ready-of}
use Rattle.escrow_check.proofs.trial.Trial.take.Goals as goal

pub take_split-requires : goal.take_split-requires
take_split-requires c =
    let case : CaseContents = case_view c.args.case.now in
    let leaf : Leaf = c.args.leaf.now in
    let P : Item → Type 0 = λ i. Comes case c.requires.comes.0 c.requires.comes.1 i leaf c.args.self.now in
    ready-of case c.requires.comes.0 c.args.self.now (comes_split case c.requires.comes.0 c.requires.comes.1 c.in-Split.part c.in-Split.at leaf c.args.self.now (subst P c.in-Split.is c.requires.comes.2))

pub take_point-requires : goal.take_point-requires
take_point-requires c =
    let case : CaseContents = case_view c.args.case.now in
    let leaf : Leaf = c.args.leaf.now in
    let P : Item → Type 0 = λ i. Comes case c.requires.comes.0 c.requires.comes.1 i leaf c.args.self.now in
    ready-of case c.requires.comes.0 c.args.self.now (comes_point case c.requires.comes.0 c.requires.comes.1 leaf c.args.self.now (subst P c.in-Point.is c.requires.comes.2))

pub take_leaf-requires-clause-ready : goal.take_leaf-requires-clause-ready
take_leaf-requires-clause-ready c =
    let case : CaseContents = case_view c.args.case.now in
    let leaf : Leaf = c.args.leaf.now in
    let P : Item → Type 0 = λ i. Comes case c.requires.comes.0 c.requires.comes.1 i leaf c.args.self.now in
    ready-of case c.requires.comes.0 c.args.self.now (comes_leaf case c.requires.comes.0 c.requires.comes.1 leaf c.args.self.now (subst P c.in-Leaf.is c.requires.comes.2)).0

pub returns-in-Buy-clause-knows : goal.returns-in-Buy-clause-knows
returns-in-Buy-clause-knows c = λ cert d comes.
    (let case : CaseContents = case_view c.args.case.now in
    let leaf : Leaf = c.args.leaf.now in
    let P : Item → Type 0 = λ i. Comes case cert d i leaf c.args.self.now in
    let Q : Item → Type 0 = λ i. Knows case (with_item cert i leaf) (due_after d i) c.take_buy.new.self in
    subst Q (sym c.in-Buy.is) (knows-buy case cert d c.in-Buy.buy leaf c.args.self.now c.take_buy.new.self (subst P c.in-Buy.is comes) c.take_buy.ensures))

pub returns-in_ok-take_gap-in-Gap-clause-knows : goal.returns-in_ok-take_gap-in-Gap-clause-knows
returns-in_ok-take_gap-in-Gap-clause-knows c = λ cert d comes.
    (let case : CaseContents = case_view c.args.case.now in
    let leaf : Leaf = c.args.leaf.now in
    let P : Item → Type 0 = λ i. Comes case cert d i leaf c.args.self.now in
    let Q : Item → Type 0 = λ i. Knows case (with_item cert i leaf) (due_after d i) c.take_gap.new.self in
    subst Q (sym c.in-Gap.is) (knows-gap case cert d c.in-Gap.cents leaf c.args.self.now c.take_gap.new.self c.requires.book (subst P c.in-Gap.is comes) c.in_ok-take_gap-in-Gap.ensures))

pub returns-in-Split-clause-knows : goal.returns-in-Split-clause-knows
returns-in-Split-clause-knows c = λ cert d comes.
    (let case : CaseContents = case_view c.args.case.now in
    let leaf : Leaf = c.args.leaf.now in
    let P : Item → Type 0 = λ i. Comes case cert d i leaf c.args.self.now in
    let Q : Item → Type 0 = λ i. Knows case (with_item cert i leaf) (due_after d i) c.take_split.new.self in
    subst Q (sym c.in-Split.is) (knows-split case cert d c.in-Split.part c.in-Split.at leaf c.args.self.now c.take_split.new.self (subst P c.in-Split.is comes) c.take_split.ensures))

pub returns-in-Point-clause-knows : goal.returns-in-Point-clause-knows
returns-in-Point-clause-knows c = λ cert d comes.
    (let case : CaseContents = case_view c.args.case.now in
    let leaf : Leaf = c.args.leaf.now in
    let P : Item → Type 0 = λ i. Comes case cert d i leaf c.args.self.now in
    let Q : Item → Type 0 = λ i. Knows case (with_item cert i leaf) (due_after d i) c.take_point.new.self in
    subst Q (sym c.in-Point.is) (knows-point case cert d leaf c.args.self.now c.take_point.new.self (subst P c.in-Point.is comes) c.take_point.ensures))

pub returns-in-Leaf-clause-knows : goal.returns-in-Leaf-clause-knows
returns-in-Leaf-clause-knows c = λ cert d comes.
    (let case : CaseContents = case_view c.args.case.now in
    let leaf : Leaf = c.args.leaf.now in
    let P : Item → Type 0 = λ i. Comes case cert d i leaf c.args.self.now in
    let Q : Item → Type 0 = λ i. Knows case (with_item cert i leaf) (due_after d i) c.take_leaf.new.self in
    subst Q (sym c.in-Leaf.is) (knows-leaf case cert d leaf c.args.self.now c.take_leaf.new.self (subst P c.in-Leaf.is comes) c.take_leaf.ensures))

pub take_gap-requires-clause-columns : goal.take_gap-requires-clause-columns
take_gap-requires-clause-columns c =
    let case : CaseContents = case_view c.args.case.now in
    let leaf : Leaf = c.args.leaf.now in
    let P : Item → Type 0 = λ i. Comes case c.requires.comes.0 c.requires.comes.1 i leaf c.args.self.now in
    (comes_gap case c.requires.comes.0 c.requires.comes.1 c.in-Gap.cents leaf c.args.self.now (subst P c.in-Gap.is c.requires.comes.2)).0.columns
