-- The walk over a tree.
use Rattle.std.proofs.Common.{◌≡◌, ◌∙◌, ◌⊎◌, ℕ, zero, suc, ◌+◌, ◌-◌, ◌*◌, ◌^◌, ◌<◌, ◌≤◌, List, [], ◌∷◌, ◌++◌, length, refl, sym, subst, ap, arith, append_assoc, inl, inr}
use Rattle.std.specs.List.{sum_by}
use Rattle.std.proofs.Math.Nat.{one-le-pow, pow-le-pow_right, pow-succ'}
use Rattle.std.proofs.lemmas.List.{append-nil, get_or_past, length-map}
use Rattle.std.proofs.lemmas.List.Sums.{sum_by-append, sum_by-cons}
use Rattle.std.proofs.lemmas.Bool.{cases_lt}
use Rattle.node_pool.specs.declared.node.Link.{Link}
use Rattle.node_pool.specs.declared.node.Node.{Node}
use Rattle.node_pool.specs.declared.node.NodeId.{NodeId}
use Rattle.node_pool.specs.declared.node.State.{State}
use Rattle.node_pool.specs.declared.node.State.TheVariants as state
use Rattle.node_pool.specs.Pool.{AreChildren, SplitsAreWhole, state_at}
use Rattle.node_pool.specs.Heap.{node_at}
use Rattle.node_pool.specs.Queue.{states_of}
use Rattle.node_pool.proofs.QueueFacts.{state-at}
use Rattle.node_pool.specs.Tree.{AreEnded, IsEnded, IsTreeOf, Leaf, Split, Tree, link_of, preorder, sides_of}

-- each ended node has a tree
abbrev pub SomeTree : List State → ℕ → Type 0
SomeTree states number = (tree : Tree) × IsTreeOf states number tree

tree_by : (states : List State) (number : ℕ) (s : State) → state_at states number ≡ s → IsEnded s →
    ((line at : ℕ) (left right : NodeId) → s ≡ state.Split line at left right → SomeTree states left.0 × SomeTree states right.0) → SomeTree states number
tree_by states number (state.Waiting key) e ended sides = absurd ended
tree_by states number state.InHand e ended sides = absurd ended
tree_by states number (state.Closed leaf) e ended sides = (Leaf leaf, e)
tree_by states number (state.Split line at left right) e ended sides =
    let both : SomeTree states left.0 × SomeTree states right.0 = sides line at left right refl in
    (Split line at both.0.0 both.1.0, (left, right, e, both.0.1, both.1.1))

pub tree-exists : (fuel : ℕ) (states : List State) (number : ℕ) → length states ≤ number + fuel → number < length states → AreEnded states → SplitsAreWhole states → SomeTree states number
tree-exists zero states number enough there ended whole = absurd (omega (arith, enough, there))
tree-exists (suc fuel) states number enough there ended whole =
    tree_by states number (state_at states number) refl (ended number there)
    (λ line at left right e.
    (let are : AreChildren states number left right = whole number line at left right e in (
      tree-exists fuel states left.0 (let l = are.later in omega (arith, enough, l)) (let l = are.there in let n = are.next in omega (arith, l, n)) ended whole,
      tree-exists fuel states right.0 (let l = are.later in let n = are.next in omega (arith, enough, l, n)) are.there ended whole,
    )))

-- the trees of open nodes, and what is still to come: the last first
abbrev pub AreTreesOf : List State → List NodeId → List Tree → Type 0
AreTreesOf states [] [] = Unit {0}
AreTreesOf states [] (tree ∷ trees) = ⊥
AreTreesOf states (node ∷ nodes) [] = ⊥
AreTreesOf states (node ∷ nodes) (tree ∷ trees) = IsTreeOf states node.0 tree × AreTreesOf states nodes trees

abbrev pub pending : List Tree → List Link
pending [] = []
pending (tree ∷ trees) = pending trees ++ preorder tree

pub record IsWalk (states : List State) (nodes : List NodeId) (links : List Link) (whole : Tree) : Type 0 where
  pub trees : List Tree
  pub are : AreTreesOf states nodes trees
  pub text : links ++ pending trees ≡ preorder whole

-- the last of them
pub record HasLast (states : List State) (nodes : List NodeId) (node : NodeId) (trees : List Tree) : Type 0 where
  pub front : List Tree
  pub last : Tree
  pub front_are : AreTreesOf states nodes front
  pub last_is : IsTreeOf states node.0 last
  pub trees_are : trees ≡ front ++ last ∷ []

no_more : (states : List State) (nodes : List NodeId) (node : NodeId) (trees : List Tree) → AreTreesOf states [] trees → trees ≡ []
no_more states nodes node [] are = refl
no_more states nodes node (tree ∷ trees) are = absurd are

has_last : (states : List State) (nodes : List NodeId) (node : NodeId) (trees : List Tree) → AreTreesOf states (nodes ++ node ∷ []) trees → HasLast states nodes node trees
has_last states [] node [] are = absurd are
has_last states [] node (tree ∷ trees) are = record {
  front = [];
  last = tree;
  front_are = tt;
  last_is = are.0;
  trees_are = ap (λ (ts : List Tree). tree ∷ ts) (no_more states [] node trees are.1);
}
has_last states (first ∷ nodes) node [] are = absurd are
has_last states (first ∷ nodes) node (tree ∷ trees) are =
    let rest : HasLast states nodes node trees = has_last states nodes node trees are.1 in
    record {
      front = tree ∷ rest.front;
      last = rest.last;
      front_are = (are.0, rest.front_are);
      last_is = rest.last_is;
      trees_are = ap (λ (ts : List Tree). tree ∷ ts) rest.trees_are;
    }

more_are : (states : List State) (nodes : List NodeId) (trees : List Tree) (node : NodeId) (tree : Tree) → AreTreesOf states nodes trees → IsTreeOf states node.0 tree →
    AreTreesOf states (nodes ++ node ∷ []) (trees ++ tree ∷ [])
more_are states [] [] node tree are is = (is, tt)
more_are states [] (t ∷ trees) node tree are is = absurd are
more_are states (n ∷ nodes) [] node tree are is = absurd are
more_are states (n ∷ nodes) (t ∷ trees) node tree are is = (are.0, more_are states nodes trees node tree are.1 is)

pub pending-more : (trees : List Tree) (tree : Tree) → pending (trees ++ tree ∷ []) ≡ preorder tree ++ pending trees
pending-more [] tree = sym (append-nil (preorder tree))
pending-more (first ∷ trees) tree =
    ap (λ (ls : List Link). ls ++ preorder first) (pending-more trees tree) ∙ append_assoc (preorder tree) (pending trees) (preorder first)

-- one step: the last open node is taken, and its sides are opened
step_by : (states : List State) (nodes : List NodeId) (node : NodeId) (links : List Link) (whole : Tree) (front : List Tree) (last : Tree) → AreTreesOf states nodes front →
    IsTreeOf states node.0 last → links ++ (preorder last ++ pending front) ≡ preorder whole →
    IsWalk states (nodes ++ sides_of (state_at states node.0)) (links ++ link_of (state_at states node.0) ∷ []) whole
step_by states nodes node links whole front (Leaf leaf) are is text =
    let P : State → Type 0 = λ s. IsWalk states (nodes ++ sides_of s) (links ++ link_of s ∷ []) whole in
    let N : List NodeId → Type 0 = λ ns. AreTreesOf states ns front in
    subst P (sym is) (record {
      trees = front;
      are = subst N (sym (append-nil nodes)) are;
      text = append_assoc links (link_of (state.Closed leaf) ∷ []) (pending front) ∙ text;
    })
step_by states nodes node links whole front (Split line at left right) are is text =
    let P : State → Type 0 = λ s. IsWalk states (nodes ++ sides_of s) (links ++ link_of s ∷ []) whole in
    let first : NodeId = is.0 in
    let second : NodeId = is.1 in
    let s : State = state.Split line at first second in
    let trees : List Tree = (front ++ right ∷ []) ++ left ∷ [] in
    let opened : AreTreesOf states ((nodes ++ second ∷ []) ++ first ∷ []) trees =
    more_are states (nodes ++ second ∷ []) (front ++ right ∷ []) first left (more_are states nodes front second right are is.4) is.3 in
    let N : List NodeId → Type 0 = λ ns. AreTreesOf states ns trees in
    let come : pending trees ≡ preorder left ++ (preorder right ++ pending front) =
    pending-more (front ++ right ∷ []) left ∙ ap (λ (ls : List Link). preorder left ++ ls) (pending-more front right) in
    subst P (sym is.2) (record {
      trees = trees;
      are = subst N (append_assoc nodes (second ∷ []) (first ∷ [])) opened;
      text =
          append_assoc links (link_of s ∷ []) (pending trees)
          ∙ ap (λ (ls : List Link). links ++ link_of s ∷ ls) (come ∙ sym (append_assoc (preorder left) (preorder right) (pending front)))
          ∙ text;
    })

pub walk-step : (states : List State) (nodes : List NodeId) (node : NodeId) (links : List Link) (whole : Tree) → IsWalk states (nodes ++ node ∷ []) links whole →
    IsWalk states (nodes ++ sides_of (state_at states node.0)) (links ++ link_of (state_at states node.0) ∷ []) whole
walk-step states nodes node links whole walk =
    let split : HasLast states nodes node walk.trees = has_last states nodes node walk.trees walk.are in
    step_by states nodes node links whole split.front split.last split.front_are split.last_is
    (ap (λ (ls : List Link). links ++ ls) (sym (pending-more split.front split.last)) ∙ ap (λ (ts : List Tree). links ++ pending ts) (sym split.trees_are) ∙ walk.text)

pub walk-end : (states : List State) (links : List Link) (whole : Tree) → IsWalk states [] links whole → links ≡ preorder whole
walk-end states links whole walk =
    sym (append-nil links) ∙ ap (λ (ts : List Tree). links ++ pending ts) (sym (no_more states [] (record { 0 = 0 }) walk.trees walk.are)) ∙ walk.text

pub walk-start : (states : List State) (whole : Tree) → IsTreeOf states 0 whole → IsWalk states (record { 0 = 0 } ∷ []) [] whole
walk-start states whole is = record { trees = whole ∷ []; are = (is, tt); text = refl }

-- an open node is one of the pool
there_by : (states : List State) (number : ℕ) (tree : Tree) → IsTreeOf states number tree → (number < length states) ⊎ (length states ≤ number) → number < length states
there_by states number tree is (inl inside) = inside
there_by states number (Leaf leaf) is (inr past) = let bad : state.InHand ≡ state.Closed leaf = sym (get_or_past states number state.InHand past) ∙ is in absurd (cc)
there_by states number (Split line at left right) is (inr past) =
    let bad : state.InHand ≡ state.Split line at is.0 is.1 = sym (get_or_past states number state.InHand past) ∙ is.2 in absurd (cc)

pub walk-there : (states : List State) (nodes : List NodeId) (node : NodeId) (links : List Link) (whole : Tree) → IsWalk states (nodes ++ node ∷ []) links whole → node.0 < length states
walk-there states nodes node links whole walk =
    let split : HasLast states nodes node walk.trees = has_last states nodes node walk.trees walk.are in
    there_by states node.0 split.last split.last_is (cases_lt node.0 (length states))

-- how long the walk may still be
abbrev pub weight : ℕ → NodeId → ℕ
weight count node = 3 ^ (count - node.0)

abbrev pub weight_of : ℕ → List NodeId → ℕ
weight_of count nodes = sum_by (weight count) nodes

triple : (n : ℕ) → 3 ^ (suc n) ≡ 3 * 3 ^ n
triple n = pow-succ' 3 n

lighter : (count number other : ℕ) → number < count → number < other → 3 * 3 ^ (count - other) ≤ 3 ^ (count - number)
lighter count number other there later =
    let more : 3 ^ (suc (count - other)) ≤ 3 ^ (count - number) = pow-le-pow_right {n = 3} (omega arith) (omega (arith, there, later)) in
    rw (sym (triple (count - other))) more

weight_more : (count : ℕ) (nodes : List NodeId) (node : NodeId) → weight_of count (nodes ++ node ∷ []) ≡ weight_of count nodes + weight count node
weight_more count nodes node = sum_by-append (weight count) nodes (node ∷ []) ∙ ap (λ (k : ℕ). weight_of count nodes + k) (one_weight count node)
  where
    none : (count : ℕ) → weight_of count [] ≡ 0
    none count = refl

    one_weight : (count : ℕ) (node : NodeId) → weight_of count (node ∷ []) ≡ weight count node
    one_weight count node = let sum : weight_of count (node ∷ []) ≡ weight count node + weight_of count [] = sum_by-cons (weight count) node [] in omega (arith, sum, none count)

light_by : (count : ℕ) (states : List State) (nodes : List NodeId) (node : NodeId) (s : State) → node.0 < count → state_at states node.0 ≡ s → SplitsAreWhole states →
    weight_of count (nodes ++ sides_of s) < weight_of count nodes + weight count node
light_by count states nodes node (state.Waiting key) there e whole =
    let some : 1 ≤ weight count node = one-le-pow (count - node.0) 3 (omega arith) in
    let same : weight_of count (nodes ++ []) ≡ weight_of count nodes = ap (λ (ns : List NodeId). weight_of count ns) (append-nil nodes) in omega (arith, some, same)
light_by count states nodes node state.InHand there e whole =
    let some : 1 ≤ weight count node = one-le-pow (count - node.0) 3 (omega arith) in
    let same : weight_of count (nodes ++ []) ≡ weight_of count nodes = ap (λ (ns : List NodeId). weight_of count ns) (append-nil nodes) in omega (arith, some, same)
light_by count states nodes node (state.Closed leaf) there e whole =
    let some : 1 ≤ weight count node = one-le-pow (count - node.0) 3 (omega arith) in
    let same : weight_of count (nodes ++ []) ≡ weight_of count nodes = ap (λ (ns : List NodeId). weight_of count ns) (append-nil nodes) in omega (arith, some, same)
light_by count states nodes node (state.Split line at left right) there e whole =
    let are : AreChildren states node.0 left right = whole node.0 line at left right e in
    let some : 1 ≤ weight count node = one-le-pow (count - node.0) 3 (omega arith) in
    let first : 3 * weight count left ≤ weight count node = lighter count node.0 left.0 there are.later in
    let second : 3 * weight count right ≤ weight count node = lighter count node.0 right.0 there (let l = are.later in let n = are.next in omega (arith, l, n)) in
    let sum : weight_of count (nodes ++ right ∷ left ∷ []) ≡ (weight_of count nodes + weight count right) + weight count left =
    ap (λ (ns : List NodeId). weight_of count ns) (sym (append_assoc nodes (right ∷ []) (left ∷ []))) ∙ weight_more count (nodes ++ right ∷ []) left
    ∙ ap (λ (k : ℕ). k + weight count left) (weight_more count nodes right) in
    omega (arith, some, first, second, sum)

pub lighter-step : (count : ℕ) (states : List State) (nodes : List NodeId) (node : NodeId) → node.0 < count → SplitsAreWhole states →
    weight_of count (nodes ++ sides_of (state_at states node.0)) < weight_of count (nodes ++ node ∷ [])
lighter-step count states nodes node there whole = rw (weight_more count nodes node) (light_by count states nodes node (state_at states node.0) there refl whole)

-- the same for nodes
pub walk-on : (nodes : List Node) (now front next : List NodeId) (node : NodeId) (links more : List Link) (own : Link) (whole : Tree) → now ≡ front ++ node ∷ [] →
    next ≡ front ++ sides_of (node_at nodes node.0).state → more ≡ links ++ own ∷ [] → own ≡ link_of (node_at nodes node.0).state →
    IsWalk (states_of nodes) now links whole → IsWalk (states_of nodes) next more whole
walk-on nodes now front next node links more own whole now_is next_is more_is own_is walk =
    let P : List NodeId → Type 0 = λ ns. IsWalk (states_of nodes) ns links whole in
    let s : (node_at nodes node.0).state ≡ state_at (states_of nodes) node.0 = sym (state-at nodes node.0) in
    let stepped : IsWalk (states_of nodes) (front ++ sides_of (state_at (states_of nodes) node.0)) (links ++ link_of (state_at (states_of nodes) node.0) ∷ []) whole =
    walk-step (states_of nodes) front node links whole (subst P now_is walk) in
    let Q : List NodeId → Type 0 = λ ns. IsWalk (states_of nodes) ns (links ++ link_of (state_at (states_of nodes) node.0) ∷ []) whole in
    let R : List Link → Type 0 = λ ls. IsWalk (states_of nodes) next ls whole in
    subst R (sym (more_is ∙ ap (λ (l : Link). links ++ l ∷ []) (own_is ∙ ap link_of s)))
    (subst Q (sym (next_is ∙ ap (λ (t : State). front ++ sides_of t) s)) stepped)

pub open-there : (nodes : List Node) (now front : List NodeId) (node : NodeId) (links : List Link) (whole : Tree) → now ≡ front ++ node ∷ [] → IsWalk (states_of nodes) now links whole →
    node.0 < length nodes
open-there nodes now front node links whole now_is walk =
    let P : List NodeId → Type 0 = λ ns. IsWalk (states_of nodes) ns links whole in
    let there : node.0 < length (states_of nodes) = walk-there (states_of nodes) front node links whole (subst P now_is walk) in
    omega (arith, there, length-map nodes (λ (n : Node). n.state))

pub walk-lighter : (nodes : List Node) (now front next : List NodeId) (node : NodeId) → now ≡ front ++ node ∷ [] → next ≡ front ++ sides_of (node_at nodes node.0).state →
    node.0 < length nodes → SplitsAreWhole (states_of nodes) → weight_of (length nodes) next < weight_of (length nodes) now
walk-lighter nodes now front next node now_is next_is there whole =
    let light : weight_of (length nodes) (front ++ sides_of (state_at (states_of nodes) node.0)) < weight_of (length nodes) (front ++ node ∷ []) =
    lighter-step (length nodes) (states_of nodes) front node there whole in
    let after : weight_of (length nodes) next ≡ weight_of (length nodes) (front ++ sides_of (state_at (states_of nodes) node.0)) =
    ap (λ (ns : List NodeId). weight_of (length nodes) ns) (next_is ∙ ap (λ (t : State). front ++ sides_of t) (sym (state-at nodes node.0))) in
    let before : weight_of (length nodes) now ≡ weight_of (length nodes) (front ++ node ∷ []) = ap (λ (ns : List NodeId). weight_of (length nodes) ns) now_is in
    omega (arith, light, after, before)

pub root-tree : (nodes : List Node) → 1 ≤ length nodes → AreEnded (states_of nodes) → SplitsAreWhole (states_of nodes) → SomeTree (states_of nodes) 0
root-tree nodes some ended whole =
    let same : length (states_of nodes) ≡ length nodes = length-map nodes (λ (n : Node). n.state) in
    tree-exists (length nodes) (states_of nodes) 0 (omega (arith, same)) (omega (arith, same, some)) ended whole

pub walk-at-start : (states : List State) (now : List NodeId) (links : List Link) (whole : Tree) → now ≡ record { 0 = 0 } ∷ [] → links ≡ [] → IsTreeOf states 0 whole → IsWalk states now links whole
walk-at-start states now links whole now_is links_is is =
    let P : List NodeId → Type 0 = λ ns. IsWalk states ns links whole in
    let Q : List Link → Type 0 = λ ls. IsWalk states (record { 0 = 0 } ∷ []) ls whole in
    subst P (sym now_is) (subst Q (sym links_is) (walk-start states whole is))
