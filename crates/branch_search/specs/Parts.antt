-- What a search holds. It is this project's own.
use Rattle.std.specs.Prelude.{◌≡◌, ℕ, ◌-◌, true, List, length, Option, option_map, IfSome}
use Rattle.case_file.specs.Case.{CaseContents}
use Rattle.cash_table.specs.Points.{is_within_limit}
use Rattle.node_ranges.specs.Ranges.{AreTight, RangesContents, root_of}
use Rattle.proof_tree.specs.Tree.{IsLeaf}
use Rattle.proof_tree.specs.declared.tree.Leaf.{Leaf}
use Rattle.dual_tune.specs.Tuner.{TunerContents}
use Rattle.halving_tree.specs.Base.{base_leaf}
use Rattle.offer_book.specs.Portfolio.{Meets, cost}
use Rattle.plan_finder.specs.Dive.{SearchContents as FinderContents}
use Rattle.search_tree.specs.Best.{IsAtMost}
use Rattle.search_tree.specs.Growing.{IsBought}
use Rattle.branch_search.specs.Search.{IsSearchable}
use Rattle.branch_search.specs.declared.found.Best.{Best}

pub record SearchContents : Type 0 where
  pub case : CaseContents
  pub ranges : RangesContents
  pub best : Option Best

-- what the best plan costs
abbrev pub best_cents : Option Best → Option ℕ
best_cents best = option_map (λ own. own.cost.0) best

-- the parts of a search are for one case
pub record AreParts (case : CaseContents) (tuner : TunerContents) (base reach : Leaf) (root ranges : RangesContents) (plan : List ℕ) (best : Option Best) (finder : FinderContents) : Type 0 where
  pub limits : IsSearchable case
  pub tuned : tuner ≡ record { book = case.book; yield_units = case.limit - 1 }
  pub based : base ≡ base_leaf case.book
  pub base_is : IsLeaf (length case.book.needs) base
  pub reaches : length reach.prices ≡ length case.book.needs
  pub lined : length plan ≡ length case.book.lines
  pub rooted : root ≡ root_of case.book
  pub tight : AreTight case.book ranges
  pub bought : IfSome best (λ own. IsBought case.limit case.book own.plan own.cost.0)
  pub finds : finder ≡ record { book = case.book; limit = case.limit }

-- a search goes on with the same case and ranges
pub record AreSameBut (before after : SearchContents) : Type 0 where
  pub case : after.case ≡ before.case
  pub ranges : after.ranges ≡ before.ranges

-- a portfolio that meets the needs within the limit counts: the best plan costs no more
abbrev pub IsCounted : CaseContents → List ℕ → Option ℕ → Type 0
IsCounted case plan best = Meets case.book plan → is_within_limit case.limit case.book plan ≡ true → IsAtMost best (cost case.book plan)
