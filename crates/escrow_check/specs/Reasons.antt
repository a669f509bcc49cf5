-- What each reason against a certificate means, and when none stands.
use Rattle.std.specs.Prelude.{◌≡◌, ◌↔◌, ℕ, ◌+◌, ◌<◌, ◌≤◌, true, false, List, ◌∷◌, ◌++◌, All, length, Option, Some, None, ℤ}
use Rattle.bound_certificate.specs.declared.certificate.Buy.{Buy}
use Rattle.bound_certificate.specs.declared.certificate.Certificate.{Certificate}
use Rattle.case_file.specs.Case.{CaseContents}
use Rattle.cash_table.specs.Points.{is_within_limit}
use Rattle.dual_bound.specs.Closing.{is_weak}
use Rattle.node_ranges.specs.Claims.{IsProper, placed_nodes}
use Rattle.node_ranges.specs.Ranges.{RangesContents}
use Rattle.proof_tree.specs.declared.tree.TreeNode.{TreeNode}
use Rattle.offer_book.specs.Book.{BookContents}
use Rattle.offer_book.specs.Portfolio.{IsFirstShort, IsPermitted, Meets}
use Rattle.escrow_check.specs.Acceptance.{claim_of, judged, reason_of}
use Rattle.escrow_check.specs.Meaning.{Bought, IsHeard, IsOffered}
use Rattle.escrow_check.specs.declared.verdict.Reason.{Reason}
use Rattle.escrow_check.specs.declared.verdict.Reason.TheVariants as reason
use Rattle.escrow_check.specs.declared.verdict.Verdict.TheVariants as verdict

-- purchases make a portfolio that is permitted
pub record Makes (book : BookContents) (buys : List Buy) (plan : List ℕ) : Type 0 where
  pub bought : Bought book buys plan
  pub permitted : IsPermitted book plan

-- which meets the needs
pub record MakesCovered (book : BookContents) (buys : List Buy) (plan : List ℕ) : Type 0 where
  pub made : Makes book buys plan
  pub covered : Meets book plan

-- and whose yield is within the limit
pub record IsSound (case : CaseContents) (buys : List Buy) : Type 0 where
  pub plan : List ℕ
  pub made : MakesCovered case.book buys plan
  pub within : is_within_limit case.limit case.book plan ≡ true

-- a certificate buys a sound portfolio, or none
abbrev pub HasSound : CaseContents → Option (List Buy) → Type 0
HasSound case None = Unit {0}
HasSound case (Some buys) = IsSound case buys

-- the nodes of a tree with their ranges
abbrev pub nodes_of : CaseContents → Certificate → List (TreeNode × RangesContents)
nodes_of case cert = placed_nodes case.book cert.nodes

-- a leaf or point bears the claim of its certificate out over its own ranges; splits have nothing to bear out
abbrev pub IsClosed : CaseContents → Certificate → TreeNode × RangesContents → Type 0
IsClosed case cert p = is_weak case (claim_of case.book cert) p ≡ false

-- a tree whose splits are all proper, and whose leaves and points are all closed
pub record IsSoundTree (case : CaseContents) (cert : Certificate) : Type 0 where
  pub proper : All IsProper (nodes_of case cert)
  pub closed : All (IsClosed case cert) (nodes_of case cert)

-- the gap is allowed where there is a portfolio
abbrev pub IsAllowed : CaseContents → Certificate → Option (List Buy) → Type 0
IsAllowed case cert None = Unit {0}
IsAllowed case cert (Some buys) = cert.gap ≤ case.allowance

-- no reason stands against a certificate
pub record IsUnopposed (case : CaseContents) (cert : Certificate) : Type 0 where
  pub portfolio : HasSound case cert.buys
  pub tree : IsSoundTree case cert
  pub allowed : IsAllowed case cert cert.buys

-- a purchase of this line isn't offered, or its units aren't permitted, and it is the first such purchase
pub record IsFirstNotOffered (book : BookContents) (buys : List Buy) (line : ℕ) : Type 0 where
  pub before : List Buy
  pub buy : Buy
  pub after : List Buy
  pub place : buys ≡ before ++ buy ∷ after
  pub offered : All (IsOffered book.lines) before
  pub not_offered : ¬ (IsOffered book.lines buy)
  pub named : line ≡ buy.line

-- the node of this number, from 1, is the first of its kind
pub record IsFirstNode (IsOf : TreeNode × RangesContents → Type 0) (nodes : List (TreeNode × RangesContents)) (number : ℕ) : Type 0 where
  pub before : List (TreeNode × RangesContents)
  pub here : TreeNode × RangesContents
  pub after : List (TreeNode × RangesContents)
  pub place : nodes ≡ before ++ here ∷ after
  pub count : number ≡ length before + 1
  pub good : All IsOf before
  pub not_good : ¬ (IsOf here)

-- the purchases of a certificate, of which this holds
pub record OfBuys (Holds : List Buy → Type 0) (cert : Certificate) : Type 0 where
  pub buys : List Buy
  pub named : cert.buys ≡ Some buys
  pub holds : Holds buys

-- the permitted portfolio of purchases is short, first on a day
pub record IsShortOn (book : BookContents) (day : ℤ) (buys : List Buy) : Type 0 where
  pub plan : List ℕ
  pub made : Makes book buys plan
  pub short : IsFirstShort book plan day

-- it meets the needs, and its yield isn't within the limit
pub record YieldsAbove (case : CaseContents) (buys : List Buy) : Type 0 where
  pub plan : List ℕ
  pub made : MakesCovered case.book buys plan
  pub above : is_within_limit case.limit case.book plan ≡ false

-- a reason stands, and none that comes before it: purchases come before the tree, its bad splits before its weak nodes, and the gap last
abbrev pub Stands : CaseContents → Certificate → Reason → Type 0
Stands case cert (reason.Grammar fault) = ⊥
Stands case cert (reason.NotPermitted line) = OfBuys (λ buys. IsFirstNotOffered case.book buys line) cert
Stands case cert (reason.ShortOn day) = OfBuys (IsShortOn case.book day) cert
Stands case cert reason.YieldAbove = OfBuys (YieldsAbove case) cert
Stands case cert (reason.BadSplit number) = HasSound case cert.buys × IsFirstNode IsProper (nodes_of case cert) number
Stands case cert (reason.WeakLeaf number) =
    HasSound case cert.buys × All IsProper (nodes_of case cert) × IsFirstNode (IsClosed case cert) (nodes_of case cert) number
Stands case cert reason.GapAbove = OfBuys (λ buys. IsSound case buys × IsSoundTree case cert × (case.allowance < cert.gap)) cert

-- a no gives the first reason that stands
abbrev pub NoNamesReason : Type 0
NoNamesReason =
    (case : CaseContents) (cert : Certificate) (why : Reason) → IsHeard case cert → judged case cert ≡ verdict.No why → Stands case cert why

-- and yes comes exactly where none does
abbrev pub YesWhereUnopposed : Type 0
YesWhereUnopposed =
    (case : CaseContents) (cert : Certificate) → IsHeard case cert → (reason_of case cert ≡ None) ↔ IsUnopposed case cert
