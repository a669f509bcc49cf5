-- What is known behind each line.
use Rattle.std.proofs.Common.{◌≡◌, ℕ, ◌+◌, ◌-◌, ◌<◌, ◌≤◌, ◌==◌, Bool, true, false, not, ◌&&◌, ◌||◌, if◌then◌else◌, List, [], ◌∷◌, ◌++◌, length, Option, Some, None, is_some, is_none, option_map, refl, arith}
use Rattle.bound_certificate.specs.Draft.{with_item}
use Rattle.bound_certificate.specs.Step.{due_after}
use Rattle.bound_certificate.specs.declared.certificate.Buy.{Buy}
use Rattle.bound_certificate.specs.declared.certificate.Certificate.{Certificate}
use Rattle.bound_certificate.specs.declared.due.Due.{Due}
use Rattle.bound_certificate.specs.declared.due.Due.TheVariants as due
use Rattle.bound_certificate.specs.declared.item.Item.TheVariants as item
use Rattle.bound_certificate.specs.declared.limits.TheConstants.{GREATEST_GAP, MOST_NODES}
use Rattle.case_file.specs.Case.{CaseContents}
use Rattle.dual_bound.specs.Closing.{is_closed_leaf, is_closed_point}
use Rattle.node_ranges.specs.Ranges.{RangesContents, narrowed, root_of}
use Rattle.node_ranges.specs.Claims.{placed}
use Rattle.proof_tree.specs.Tree.{IsLeaf}
use Rattle.proof_tree.specs.declared.tree.Leaf.{Leaf}
use Rattle.proof_tree.specs.declared.tree.Part.{Part}
use Rattle.proof_tree.specs.declared.tree.TreeNode.{TreeNode}
use Rattle.proof_tree.specs.declared.tree.TreeNode.TheVariants as node
use Rattle.offer_book.specs.Book.{BookContents, IsBook}
use Rattle.escrow_check.specs.Knows.{Comes, IsBuying, IsGoing, IsJudging, Knows}
use Rattle.escrow_check.specs.Trial.{IsReady, TakesEnd, TakesSplit, closed_leaf, closed_point, with_buy, with_gap}
use Rattle.escrow_check.specs.declared.trial.Trial.{Trial}
use Rattle.escrow_check.specs.declared.verdict.Reason.{Reason}
use Rattle.escrow_check.proofs.BuyFacts.{bought-known, gap-known}
use Rattle.escrow_check.proofs.NodeFacts.{end-known, split-known}

-- ---- what a line finds
pub comes_buy : (case : CaseContents) (cert : Certificate) (d : Due) (buy : Buy) (leaf : Leaf) (trial : Trial) → Comes case cert d (item.Buy buy) leaf trial →
    (is_some cert.buys ≡ true) × IsBuying case cert trial
comes_buy case cert (due.Buy left least) buy leaf trial c = c.knows
comes_buy case cert d buy leaf trial c = absurd c.suited

pub comes_gap : (case : CaseContents) (cert : Certificate) (d : Due) (cents : ℕ) (leaf : Leaf) (trial : Trial) → Comes case cert d (item.Gap cents) leaf trial →
    IsBuying case cert trial × (cents ≤ GREATEST_GAP)
comes_gap case cert (due.Gap most) cents leaf trial c = (c.knows, c.suited)
comes_gap case cert d cents leaf trial c = absurd c.suited

abbrev Judges : CaseContents → Certificate → Trial → Type 0
Judges case cert trial = IsJudging case cert trial × (length cert.nodes < MOST_NODES)

pub comes_split : (case : CaseContents) (cert : Certificate) (d : Due) (part : Part) (at : ℕ) (leaf : Leaf) (trial : Trial) → Comes case cert d (item.Split part at) leaf trial → Judges case cert trial
comes_split case cert (due.Node left trees) part at leaf trial c = (c.knows, c.few left trees refl)
comes_split case cert d part at leaf trial c = absurd c.suited

pub comes_point : (case : CaseContents) (cert : Certificate) (d : Due) (leaf : Leaf) (trial : Trial) → Comes case cert d item.Point leaf trial → Judges case cert trial
comes_point case cert (due.Node left trees) leaf trial c = (c.knows, c.few left trees refl)
comes_point case cert d leaf trial c = absurd c.suited

pub comes_leaf : (case : CaseContents) (cert : Certificate) (d : Due) (leaf : Leaf) (trial : Trial) → Comes case cert d item.Leaf leaf trial →
    Judges case cert trial × IsLeaf (length case.book.needs) leaf
comes_leaf case cert (due.Node left trees) leaf trial c = ((c.knows, c.few left trees refl), c.suited)
comes_leaf case cert d leaf trial c = absurd c.suited

-- ---- room for one more node
placed-length : (book : BookContents) (waiting : List RangesContents) (nodes : List TreeNode) → length (placed book waiting nodes) ≤ length nodes
placed-length book waiting [] = omega arith
placed-length book [] (next ∷ nodes) = omega arith
placed-length book (ranges ∷ waiting) (node.Split part at ∷ nodes) =
    omega (arith, placed-length book (narrowed book ranges part at false ∷ narrowed book ranges part at true ∷ waiting) nodes)
placed-length book (ranges ∷ waiting) (node.Point ∷ nodes) = omega (arith, placed-length book waiting nodes)
placed-length book (ranges ∷ waiting) (node.Closed leaf ∷ nodes) = omega (arith, placed-length book waiting nodes)

none_of : (o : Option Reason) (b : Bool) → (is_none o && b) ≡ true → o ≡ None
none_of None b e = refl
none_of (Some why) b e = absurd (cc)

pub ready-of : (case : CaseContents) (cert : Certificate) (trial : Trial) → Judges case cert trial → IsReady case trial
ready-of case cert trial judges =
    let is : IsJudging case cert trial = judges.0 in
    record {
      powers = is.powers;
      columns = is.columns;
      claim = is.size;
      point = is.point;
      walk = is.walk;
      count = λ may. (let going : IsGoing case cert trial = is.going (none_of trial.reason (not trial.walk.over) may) in
          omega (arith, going.count, placed-length case.book (root_of case.book ∷ []) cert.nodes, judges.1));
      depth = λ may. (is.going (none_of trial.reason (not trial.walk.over) may)).depth;
      room = is.room;
    }

-- ---- what is due next
by_buys : (case : CaseContents) (cert : Certificate) (trial : Trial) (left least : ℕ) (b : Bool) → is_some cert.buys ≡ true → IsBuying case cert trial →
    Knows case cert (if b then due.Gap GREATEST_GAP else due.Buy left least) trial
by_buys case cert trial left least true some is = is
by_buys case cert trial left least false some is = (some, is)

by_nodes : (case : CaseContents) (cert : Certificate) (trial : Trial) (left trees : ℕ) (b : Bool) → IsJudging case cert trial → Knows case cert (if b then due.End trees else due.Node left trees) trial
by_nodes case cert trial left trees true is = is
by_nodes case cert trial left trees false is = is

-- ---- behind each line
pub knows-buy : (case : CaseContents) (cert : Certificate) (d : Due) (buy : Buy) (leaf : Leaf) (old new : Trial) → Comes case cert d (item.Buy buy) leaf old →
    new ≡ with_buy case.book old buy → Knows case (with_item cert (item.Buy buy) leaf) (due_after d (item.Buy buy)) new
knows-buy case cert (due.Buy left least) buy leaf old new c rest =
    by_buys case (with_item cert (item.Buy buy) leaf) new (left - 1) (buy.line + 1) (left - 1 == 0) (some_more cert.buys c.knows.0) (bought-known case cert old new buy c.knows.0 c.knows.1 rest)
  where
    some_more : (o : Option (List Buy)) → is_some o ≡ true → is_some (option_map (λ buys. buys ++ buy ∷ []) o) ≡ true
    some_more None e = absurd (cc)
    some_more (Some buys) e = refl
knows-buy case cert d buy leaf old new c rest = absurd c.suited

pub knows-gap : (case : CaseContents) (cert : Certificate) (d : Due) (cents : ℕ) (leaf : Leaf) (old new : Trial) → IsBook case.book → Comes case cert d (item.Gap cents) leaf old →
    new ≡ with_gap case old cents → Knows case (with_item cert (item.Gap cents) leaf) (due_after d (item.Gap cents)) new
knows-gap case cert (due.Gap most) cents leaf old new limits c rest = gap-known case cert old new cents limits c.knows c.suited rest
knows-gap case cert d cents leaf old new limits c rest = absurd c.suited

pub knows-split : (case : CaseContents) (cert : Certificate) (d : Due) (part : Part) (at : ℕ) (leaf : Leaf) (old new : Trial) → Comes case cert d (item.Split part at) leaf old →
    TakesSplit case.book part at old new → Knows case (with_item cert (item.Split part at) leaf) (due_after d (item.Split part at)) new
knows-split case cert (due.Node left trees) part at leaf old new c takes =
    by_nodes case (with_item cert (item.Split part at) leaf) new (left - 1) (trees + 1) (left - 1 == 0) (split-known case cert old new part at c.knows takes)
knows-split case cert d part at leaf old new c takes = absurd c.suited

not_not : (a b : Bool) → (a || b) ≡ (a || not (not b))
not_not true b = refl
not_not false true = refl
not_not false false = refl

pub knows-point : (case : CaseContents) (cert : Certificate) (d : Due) (leaf : Leaf) (old new : Trial) → Comes case cert d item.Point leaf old →
    TakesEnd case.book (closed_point case old) old new → Knows case (with_item cert item.Point leaf) (due_after d item.Point) new
knows-point case cert (due.Node left trees) leaf old new c takes =
    by_nodes case (with_item cert item.Point leaf) new (left - 1) (trees - 1) (left - 1 == 0)
    (end-known case cert old new node.Point (closed_point case old) tt c.knows (not_not (is_some old.weak) (is_closed_point case old.claim old.walk.ranges)) takes)
knows-point case cert d leaf old new c takes = absurd c.suited

pub knows-leaf : (case : CaseContents) (cert : Certificate) (d : Due) (leaf : Leaf) (old new : Trial) → Comes case cert d item.Leaf leaf old →
    TakesEnd case.book (closed_leaf case old leaf) old new → Knows case (with_item cert item.Leaf leaf) (due_after d item.Leaf) new
knows-leaf case cert (due.Node left trees) leaf old new c takes =
    by_nodes case (with_item cert item.Leaf leaf) new (left - 1) (trees - 1) (left - 1 == 0)
    (end-known case cert old new (node.Closed leaf) (closed_leaf case old leaf) tt c.knows (not_not (is_some old.weak) (is_closed_leaf case old.claim old.walk.ranges leaf)) takes)
knows-leaf case cert d leaf old new c takes = absurd c.suited
