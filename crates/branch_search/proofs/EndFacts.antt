-- How a search starts and ends: the tree of the root alone, and what a tree comes to once it has ended.
use Rattle.std.proofs.Common.{◌≡◌, ℕ, zero, suc, ◌-◌, ◌^◌, ◌<◌, ℤ, pos, ◌≤ℤ◌, List, [], ◌∷◌, refl, sym, subst, arith, Option, Some, None, unsigned_abs}
use Rattle.std.proofs.lemmas.Int.{ints}
use Rattle.std.proofs.lemmas.List.Elements.{All-get_or}
use Rattle.case_file.specs.Case.{CaseContents}
use Rattle.dual_bound.proofs.BoundSizes.{bound-small}
use Rattle.node_ranges.specs.Ranges.{AreTight, RangesContents, root_of}
use Rattle.proof_tree.specs.declared.tree.TreeNode.{TreeNode}
use Rattle.node_pool.specs.Pool.{IsOneTree, SplitsAreWhole, state_at}
use Rattle.node_pool.specs.Way.{IsWay, Step, ranges_at}
use Rattle.node_pool.specs.declared.node.NodeId.{NodeId}
use Rattle.node_pool.specs.declared.node.State.{State}
use Rattle.node_pool.specs.declared.node.State.TheVariants as state
use Rattle.offer_book.specs.Book.{IsBook}
use Rattle.search_tree.proofs.Ways.{some-way}
use Rattle.search_tree.specs.Growing.{HasGrown, IsAt, IsNodeAt, IsPriced, IsStuck, no_node, node_of}
use Rattle.search_tree.specs.Laws.{IsClosedTree, IsFull}
use Rattle.search_tree.specs.Tree.{AreNodesOf, IsDrained, TreeContents, new_tree, open_node}
use Rattle.search_tree.specs.declared.node.Priced.{Priced}
use Rattle.search_tree.specs.declared.node.SearchNode.{SearchNode}
use Rattle.branch_search.proofs.GrowthFacts.{bounds-small, drained-ended, shown-small}
use Rattle.branch_search.specs.Growth.{IsClosedTree as IsClosedGrowth, IsFullTree}

-- ---- the root
pub priced-small : (case : CaseContents) (ranges : RangesContents) (priced : Priced) → IsBook case.book → AreTight case.book ranges → IsPriced case ranges priced → unsigned_abs priced.bound < 10 ^ 28
priced-small case ranges priced limits tight is =
    subst (λ (b : ℤ). unsigned_abs b < 10 ^ 28) (sym is.bound)
    (shown-small (case.limit - 1) case.book ranges priced.leaf limits tight is.improved.well_formed is.weighs)

no-split : (key : ℤ) (parent line at : ℕ) (left right : NodeId) → state_at (state.Waiting key ∷ []) parent ≡ state.Split line at left right → ⊥
no-split key zero line at left right split = (let clash : state.Waiting key ≡ state.Split line at left right = split in cc)
no-split key (suc parent) line at left right split = (let clash : state.InHand ≡ state.Split line at left right = split in cc)

-- the tree of the root alone
pub start-grown : (case : CaseContents) (Obeys : RangesContents → ℕ → ℕ → Type 0) (best : Option ℕ) (capacity : ℕ) (root : Priced) → IsPriced case (root_of case.book) root
    → HasGrown case Obeys best (new_tree capacity root).pool.states (new_tree capacity root).nodes
start-grown case Obeys best capacity root is = (
  root.bound,
  record {
    grown = record { same = refl; each = λ number way few is_way. by-way number way is_way };
    none = λ number few held. by-number number few held;
  },
)
  where
    states : List State
    states = state.Waiting root.bound ∷ []

    nodes : List SearchNode
    nodes = open_node root ∷ []

    at-root : IsNodeAt case Obeys best root.bound 0 (root_of case.book) (open_node root) (state.Waiting root.bound)
    at-root = record { priced = is; stands = (refl, omega (arith, ints), refl) }

    by-way : (number : ℕ) (way : List Step) → IsWay states number way → IsNodeAt case Obeys best root.bound number (ranges_at case.book way) (node_of nodes number) (state_at states number)
    by-way number [] is_way = subst (λ (n : ℕ). IsNodeAt case Obeys best root.bound n (root_of case.book) (node_of nodes n) (state_at states n)) (sym is_way) at-root
    by-way number (step ∷ above) is_way = absurd (no-split root.bound is_way.0 step.line step.at is_way.1.left is_way.1.right is_way.1.split)

    by-number : (number : ℕ) → number < 1 → state_at states number ≡ state.InHand → ⊥
    by-number zero few held = (let clash : state.Waiting root.bound ≡ state.InHand = held in cc)
    by-number (suc number) few held = omega (arith, few)

-- ---- a tree whose budget is spent
-- the node that is to be split waits with its own bound
stuck-bound : (case : CaseContents) (Obeys : RangesContents → ℕ → ℕ → Type 0) (best : Option ℕ) (bound : ℤ) (number : ℕ) (ranges : RangesContents) (own : SearchNode) (s : State) → s ≡ state.Waiting bound → IsNodeAt case Obeys best bound number ranges own s → bound ≡ own.priced.bound
stuck-bound case Obeys best bound number ranges own s waits is = (subst (IsAt case Obeys best bound number ranges own) waits is.stands).0

pub record IsStuckBound (case : CaseContents) (bound : ℤ) : Type 0 where
  pub small : unsigned_abs bound < 10 ^ 28
  pub some : pos 0 ≤ℤ bound

pub stuck-small : (case : CaseContents) (Obeys : RangesContents → ℕ → ℕ → Type 0) (best : Option ℕ) (bound : ℤ) (states : List State) (nodes : List SearchNode) → IsBook case.book → IsOneTree states → IsStuck case Obeys best bound states nodes → IsStuckBound case bound
stuck-small case Obeys best bound states nodes limits one stuck =
    let way = some-way states stuck.number one stuck.there in
    let own = stuck.kept.grown.each stuck.number way.0 stuck.there way.1 in
    let is : bound ≡ (node_of nodes stuck.number).priced.bound = stuck-bound case Obeys best bound stuck.number (ranges_at case.book way.0) (node_of nodes stuck.number) (state_at states stuck.number) stuck.waits own in
    record {
      small = subst (λ (b : ℤ). unsigned_abs b < 10 ^ 28) (sym is)
          (All-get_or (λ (n : SearchNode). unsigned_abs n.priced.bound < 10 ^ 28) nodes stuck.number no_node (omega (arith, stuck.there, stuck.kept.grown.same)) (bounds-small case Obeys best bound states nodes limits one stuck.kept.grown));
      some = subst (λ (b : ℤ). pos 0 ≤ℤ b) (sym is) own.priced.some;
    }

pub full-is : (case : CaseContents) (Obeys : RangesContents → ℕ → ℕ → Type 0) (best : Option ℕ) (bound : ℤ) (before after : TreeContents) → IsBook case.book → IsOneTree before.pool.states → IsFullTree case Obeys best bound before → IsDrained before after → IsOneTree after.pool.states
    → SplitsAreWhole after.pool.states → IsFull case Obeys best bound before after
full-is case Obeys best bound before after limits tree is drained one whole = record {
  limits = limits;
  tree = tree;
  stuck = is.stuck;
  full = is.full;
  drained = drained;
  one = one;
  whole = whole;
  ended = drained-ended before after is.stuck.kept.none drained;
}

-- ---- a tree without a waiting node
pub closed-is : (case : CaseContents) (Obeys : RangesContents → ℕ → ℕ → Type 0) (best : Option ℕ) (tree : TreeContents) (nodes : List TreeNode) → IsBook case.book → IsOneTree tree.pool.states → SplitsAreWhole tree.pool.states
    → (is : IsClosedGrowth case Obeys best tree) → AreNodesOf case.book.needs tree nodes → IsClosedTree case Obeys best is.grown.0 tree nodes
closed-is case Obeys best tree nodes limits one whole is written = record { limits = limits; one = one; whole = whole; ended = is.ended; kept = is.grown.1; written = written }

-- an option that holds nothing is none
pub none-by : {X : Type 0} → (o : Option X) → ((x : X) → o ≡ Some x → ⊥) → o ≡ None
none-by None not-some = refl
none-by (Some x) not-some = absurd (not-some x refl)
