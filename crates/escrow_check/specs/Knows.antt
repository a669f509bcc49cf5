-- What a trial has to know of a certificate so far: this ties what a checker keeps to the verdict's definition.
use Rattle.std.specs.Prelude.{◌≡◌, ℕ, ◌≤◌, ◌<◌, true, false, List, [], ◌∷◌, ◌++◌, length, is_some, Option, Some, None, option_map, vec_len, vec_capacity}
use Rattle.std.specs.List.{position}
use Rattle.bound_certificate.specs.Step.{IsSuited}
use Rattle.bound_certificate.specs.declared.certificate.Buy.{Buy}
use Rattle.bound_certificate.specs.declared.certificate.Certificate.{Certificate}
use Rattle.bound_certificate.specs.declared.due.Due.{Due}
use Rattle.bound_certificate.specs.declared.due.Due.TheVariants as due
use Rattle.bound_certificate.specs.declared.item.Item.{Item}
use Rattle.bound_certificate.specs.declared.limits.TheConstants.{MOST_NODES}
use Rattle.case_file.specs.Case.{CaseContents}
use Rattle.cash_table.specs.Points.{plan_yield}
use Rattle.dual_bound.specs.Closing.{is_weak}
use Rattle.node_ranges.specs.Ranges.{RangesContents, narrowed, root_of}
use Rattle.node_ranges.specs.Claims.{is_bad_split, placed_nodes}
use Rattle.proof_tree.specs.declared.tree.Leaf.{Leaf}
use Rattle.proof_tree.specs.declared.tree.TreeNode.{TreeNode}
use Rattle.proof_tree.specs.declared.tree.TreeNode.TheVariants as node
use Rattle.offer_book.specs.Book.{BookContents}
use Rattle.offer_book.specs.Portfolio.{IsPermitted}
use Rattle.escrow_check.specs.Acceptance.{claim_of, first_not_offered, numbered, plan_of, portfolio_reason, reason_of}
use Rattle.escrow_check.specs.Trial.{AreColumnsOf, ArePowersOf, IsClaim}
use Rattle.escrow_check.specs.Walk.{IsWalk, waiting_of}
use Rattle.escrow_check.specs.declared.trial.Trial.{Trial}
use Rattle.escrow_check.specs.declared.verdict.Reason.{Reason}
use Rattle.escrow_check.specs.declared.verdict.Reason.TheVariants as reason

-- the purchases so far
abbrev pub buys_in : Option (List Buy) → List Buy
buys_in None = []
buys_in (Some buys) = buys

-- the ranges that wait behind nodes
abbrev pub still_waiting : BookContents → List RangesContents → List TreeNode → List RangesContents
still_waiting book waiting [] = waiting
still_waiting book [] (next ∷ nodes) = []
still_waiting book (ranges ∷ waiting) (node.Split part at ∷ nodes) =
    still_waiting book (narrowed book ranges part at false ∷ narrowed book ranges part at true ∷ waiting) nodes
still_waiting book (ranges ∷ waiting) (node.Point ∷ nodes) = still_waiting book waiting nodes
still_waiting book (ranges ∷ waiting) (node.Closed leaf ∷ nodes) = still_waiting book waiting nodes

-- before the gap: the purchases are known, and the tree stands at its root
pub record IsBuying (case : CaseContents) (cert : Certificate) (trial : Trial) : Type 0 where
  pub powers : ArePowersOf case trial.powers
  pub columns : AreColumnsOf case trial.columns
  pub point : length trial.point ≡ length case.book.lines
  pub walk : IsWalk case.book trial.walk
  pub waiting : waiting_of case.book trial.walk ≡ root_of case.book ∷ []
  pub depth : vec_len trial.walk.splits ≡ 0
  pub room : MOST_NODES ≤ vec_capacity trial.walk.splits
  pub count : trial.nodes ≡ 0
  pub weak : trial.weak ≡ None
  pub claim : trial.claim ≡ None
  pub named : trial.named ≡ is_some cert.buys
  pub found : trial.reason ≡ option_map (λ buy. reason.NotPermitted buy.line) (first_not_offered case.book.lines (buys_in cert.buys))
  pub plan : trial.reason ≡ None → trial.plan ≡ plan_of case.book (buys_in cert.buys)
  pub permitted : IsPermitted case.book trial.plan
  pub none : cert.nodes ≡ []

-- behind the gap, where no reason was found but those of leaves and points
pub record IsGoing (case : CaseContents) (cert : Certificate) (trial : Trial) : Type 0 where
  pub portfolio : (buys : List Buy) → cert.buys ≡ Some buys → portfolio_reason case buys ≡ None
  pub plan : trial.plan ≡ plan_of case.book (buys_in cert.buys)
  pub claim : trial.claim ≡ claim_of case.book cert
  pub answer : is_some cert.buys ≡ true → trial.answer ≡ plan_yield case.book trial.plan
  pub proper : position is_bad_split (placed_nodes case.book cert.nodes) ≡ None
  pub weak : trial.weak ≡ numbered (position (is_weak case (claim_of case.book cert)) (placed_nodes case.book cert.nodes))
  pub waiting : waiting_of case.book trial.walk ≡ still_waiting case.book (root_of case.book ∷ []) cert.nodes
  pub count : trial.nodes ≡ length (placed_nodes case.book cert.nodes)
  pub depth : vec_len trial.walk.splits ≤ trial.nodes

-- behind the gap: a reason that was found stays, whatever nodes follow
pub record IsJudging (case : CaseContents) (cert : Certificate) (trial : Trial) : Type 0 where
  pub powers : ArePowersOf case trial.powers
  pub columns : AreColumnsOf case trial.columns
  pub size : IsClaim trial.claim
  pub point : length trial.point ≡ length case.book.lines
  pub walk : IsWalk case.book trial.walk
  pub room : MOST_NODES ≤ vec_capacity trial.walk.splits
  pub named : trial.named ≡ is_some cert.buys
  pub gap : trial.gap ≡ cert.gap
  pub permitted : IsPermitted case.book trial.plan
  pub found : (why : Reason) → trial.reason ≡ Some why → (more : List TreeNode) → reason_of case (record cert { nodes = cert.nodes ++ more }) ≡ Some why
  pub going : trial.reason ≡ None → IsGoing case cert trial

-- what is known where something is due
abbrev pub Knows : CaseContents → Certificate → Due → Trial → Type 0
Knows case cert due.Title trial = (cert.buys ≡ None) × IsBuying case cert trial
Knows case cert due.Portfolio trial = (cert.buys ≡ None) × IsBuying case cert trial
Knows case cert (due.Buy left least) trial = (is_some cert.buys ≡ true) × IsBuying case cert trial
Knows case cert (due.Gap most) trial = IsBuying case cert trial
Knows case cert other trial = IsJudging case cert trial

-- a line comes where it is due
pub record Comes (case : CaseContents) (cert : Certificate) (d : Due) (told : Item) (leaf : Leaf) (trial : Trial) : Type 0 where
  pub knows : Knows case cert d trial
  pub suited : IsSuited (length case.book.needs) d told leaf
  pub few : (left trees : ℕ) → d ≡ due.Node left trees → length cert.nodes < MOST_NODES
