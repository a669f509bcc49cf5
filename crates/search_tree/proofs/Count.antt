-- How many nodes a tree has in preorder: as many as there are.
use Rattle.std.proofs.Common.{◌≡◌, ◌≢◌, ◌∙◌, ◌⊎◌, inl, inr, ℕ, zero, suc, ◌+◌, ◌<◌, ◌≤◌, Bool, true, false, if◌then◌else◌, List, [], ◌∷◌, ◌++◌, length, refl, sym, ap, subst, arith, length-append}
use Rattle.std.proofs.lemmas.Bool.{cases_lt}
use Rattle.halving_tree.proofs.Distinct.{AreDistinct, Member, distinct-append, distinct-few, member-append}
use Rattle.node_pool.specs.Pool.{AreChildren, IsChildOf, IsOneTree, SplitsAreWhole, state_at}
use Rattle.node_pool.specs.Tree.{IsTreeOf, Leaf, Split, Tree, preorder}
use Rattle.node_pool.specs.Way.{IsStep, IsWay, Step}
use Rattle.node_pool.specs.declared.node.NodeId.{NodeId}
use Rattle.node_pool.specs.declared.node.State.{State}
use Rattle.node_pool.specs.declared.node.State.TheVariants as state
use Rattle.search_tree.proofs.Ways.{some-way}

-- a path up from a node to another
abbrev IsPath : List State → ℕ → ℕ → List Step → Type 0
IsPath states x top [] = x ≡ top
IsPath states x top (step ∷ above) = (parent : ℕ) × IsStep states x parent step × IsPath states parent top above

abbrev IsBelow : List State → ℕ → ℕ → Type 0
IsBelow states x top = (path : List Step) × IsPath states x top path

way-path : (states : List State) (x : ℕ) (way : List Step) → IsWay states x way → IsPath states x 0 way
way-path states x [] way = way
way-path states x (step ∷ above) way = (way.0, way.1, way-path states way.0 above way.2)

step-child : (states : List State) (x parent : ℕ) (step : Step) → IsStep states x parent step → IsChildOf states x parent
step-child states x parent step is = record {
  line = step.line;
  at = step.at;
  left = is.left;
  right = is.right;
  split = is.split;
  side = by step.right is.side;
}
  where
    by : (b : Bool) → x ≡ (if b then is.right.0 else is.left.0) → (is.left.0 ≡ x) ⊎ (is.right.0 ≡ x)
    by true e = inr (sym e)
    by false e = inl (sym e)

-- children come later
child-later : (states : List State) (x parent : ℕ) → SplitsAreWhole states → IsChildOf states x parent → parent < x
child-later states x parent whole is =
    let are : AreChildren states parent is.left is.right = whole parent is.line is.at is.left is.right is.split in
    let later = are.later in let next = are.next in
    elim is.side [ inl left ↦ omega (arith, left, later) | inr right ↦ omega (arith, right, later, next) ]

child-inside : (states : List State) (x parent : ℕ) → SplitsAreWhole states → IsChildOf states x parent → x < length states
child-inside states x parent whole is =
    let are : AreChildren states parent is.left is.right = whole parent is.line is.at is.left is.right is.split in
    let next = are.next in let there = are.there in
    elim is.side [ inl left ↦ omega (arith, left, next, there) | inr right ↦ omega (arith, right, there) ]

path-order : (states : List State) (x top : ℕ) (path : List Step) → SplitsAreWhole states → IsPath states x top path → top ≤ x
path-order states x top [] whole path = omega (arith, path)
path-order states x top (step ∷ above) whole path =
    omega (arith, path-order states path.0 top above whole path.2, child-later states x path.0 whole (step-child states x path.0 step path.1))

-- a path goes over a child of its top
record LastStep (states : List State) (x top : ℕ) : Type 0 where
  child : ℕ
  step : Step
  is : IsStep states child top step
  below : IsBelow states x child

last-step : (states : List State) (x top : ℕ) (step : Step) (above : List Step) → IsPath states x top (step ∷ above) → LastStep states x top
last-step states x top step [] path =
    record { child = x; step = step; is = subst (λ (n : ℕ). IsStep states x n step) path.2 path.1; below = ([], refl) }
last-step states x top step (next ∷ above) path =
    let up = last-step states path.0 top next above path.2 in
    record { child = up.child; step = up.step; is = up.is; below = (step ∷ up.below.0, (path.0, path.1, up.below.1)) }

path-longer : (states : List State) (x mid top : ℕ) (path : List Step) (step : Step) → IsPath states x mid path → IsStep states mid top step → IsBelow states x top
path-longer states x mid top [] step path is = (step ∷ [], (top, subst (λ (n : ℕ). IsStep states n top step) (sym path) is, refl))
path-longer states x mid top (own ∷ above) step path is =
    let rest = path-longer states path.0 mid top above step path.2 is in
    (own ∷ rest.0, (path.0, path.1, rest.1))

-- of two nodes above one, one is above the other
comparable : (states : List State) (x a b : ℕ) (p q : List Step) → IsOneTree states → IsPath states x a p → IsPath states x b q → IsBelow states a b ⊎ IsBelow states b a
comparable states x a b [] q one p q_is = inl (q, subst (λ (n : ℕ). IsPath states n b q) p q_is)
comparable states x a b (step ∷ p) [] one p_is q_is = inr (step ∷ p, subst (λ (n : ℕ). IsPath states n a (step ∷ p)) q_is p_is)
comparable states x a b (step ∷ p) (other ∷ q) one p_is q_is =
    let same : q_is.0 ≡ p_is.0 = one.one x q_is.0 p_is.0 (step-child states x q_is.0 other q_is.1) (step-child states x p_is.0 step p_is.1) in
    comparable states p_is.0 a b p q one p_is.2 (subst (λ (n : ℕ). IsPath states n b q) same q_is.2)

-- the two children of a split have nothing below in common
sibling-not-below : (states : List State) (a b parent : ℕ) → IsOneTree states → SplitsAreWhole states → IsChildOf states a parent → IsChildOf states b parent → a ≢ b → IsBelow states a b → ⊥
sibling-not-below states a b parent one whole first second apart (path_ab) = by path_ab.0 path_ab.1
  where
    by : (path : List Step) → IsPath states a b path → ⊥
    by [] path = apart path
    by (step ∷ above) path =
        let same : path.0 ≡ parent = one.one a path.0 parent (step-child states a path.0 step path.1) first in
        let up = path-order states path.0 b above whole path.2 in
        absurd (omega (arith, same, up, child-later states b parent whole second))

apart-below : (states : List State) (x a b parent : ℕ) → IsOneTree states → SplitsAreWhole states → IsChildOf states a parent → IsChildOf states b parent → a ≢ b → IsBelow states x a → IsBelow states x b → ⊥
apart-below states x a b parent one whole first second apart one_below other_below =
    elim (comparable states x a b one_below.0 other_below.0 one one_below.1 other_below.1) [
      | inl up ↦ sibling-not-below states a b parent one whole first second apart up
      | inr up ↦ sibling-not-below states b a parent one whole second first (λ same. apart (sym same)) up
    ]

-- ---- the nodes below a node
record Visited (states : List State) (number count : ℕ) : Type 0 where
  numbers : List ℕ
  many : length numbers ≡ count
  distinct : AreDistinct numbers
  below : (x : ℕ) → Member numbers x → IsBelow states x number
  all : (x : ℕ) → IsBelow states x number → Member numbers x

visited-leaf : (states : List State) (number leaf : ℕ) → state_at states number ≡ state.Closed leaf → Visited states number 1
visited-leaf states number leaf closed = record {
  numbers = number ∷ [];
  many = refl;
  distinct = (λ y m same. m, tt);
  below = λ x m. elim m [ inl same ↦ ([], same) | inr none ↦ absurd none ];
  all = λ x under. by x under.0 under.1;
}
  where
    by : (x : ℕ) (path : List Step) → IsPath states x number path → (x ≡ number) ⊎ ⊥
    by x [] path = inl path
    by x (step ∷ above) path =
        let last = last-step states x number step above path in
        let clash : state.Closed leaf ≡ state.Split last.step.line last.step.at last.is.left last.is.right = sym closed ∙ last.is.split in absurd (cc)

record IsSplitAt (states : List State) (number : ℕ) (left right : NodeId) : Type 0 where
  line : ℕ
  at : ℕ
  split : state_at states number ≡ state.Split line at left right

visited-split : (states : List State) (number one other : ℕ) (left right : NodeId) → IsOneTree states → SplitsAreWhole states → IsSplitAt states number left right
    → Visited states left.0 one → Visited states right.0 other → Visited states number (1 + (one + other))
visited-split states number one other left right tree whole is first second =
    let are : AreChildren states number left right = whole number is.line is.at left right is.split in
    let later = are.later in let next = are.next in
    let left_child : IsChildOf states left.0 number = record { line = is.line; at = is.at; left = left; right = right; split = is.split; side = inl refl } in
    let right_child : IsChildOf states right.0 number = record { line = is.line; at = is.at; left = left; right = right; split = is.split; side = inr refl } in
    let left_step : IsStep states left.0 number (record { line = is.line; at = is.at; right = false }) = record { left = left; right = right; split = is.split; side = refl } in
    let right_step : IsStep states right.0 number (record { line = is.line; at = is.at; right = true }) = record { left = left; right = right; split = is.split; side = refl } in
    record {
      numbers = number ∷ (first.numbers ++ second.numbers);
      many = omega (arith, length-append first.numbers second.numbers, first.many, second.many);
      distinct = (
        λ y m same. elim (member-append first.numbers second.numbers y m) [
          | inl in_left ↦ (let under = first.below y in_left in absurd (omega (arith, same, later, path-order states y left.0 under.0 whole under.1)))
          | inr in_right ↦ (let under = second.below y in_right in absurd (omega (arith, same, later, next, path-order states y right.0 under.0 whole under.1)))
        ],
        distinct-append first.numbers second.numbers first.distinct second.distinct
            (λ x y m n same.
            apart-below states y left.0 right.0 number tree whole left_child right_child (λ equal. absurd (omega (arith, equal, next)))
            (subst (λ (k : ℕ). IsBelow states k left.0) same (first.below x m)) (second.below y n)),
      );
      below = λ x m. elim m [
        | inl same ↦ ([], same)
        | inr within ↦ elim (member-append first.numbers second.numbers x within) [
          | inl in_left ↦ (let under = first.below x in_left in path-longer states x left.0 number under.0 (record { line = is.line; at = is.at; right = false }) under.1 left_step)
          | inr in_right ↦ (let under = second.below x in_right in path-longer states x right.0 number under.0 (record { line = is.line; at = is.at; right = true }) under.1 right_step)
        ]
      ];
      all = λ x under. by x under.0 under.1;
    }
  where
    member-left : (xs ys : List ℕ) (x : ℕ) → Member xs x → Member (xs ++ ys) x
    member-left [] ys x m = absurd m
    member-left (y ∷ xs) ys x (inl same) = inl same
    member-left (y ∷ xs) ys x (inr after) = inr (member-left xs ys x after)

    member-right : (xs ys : List ℕ) (x : ℕ) → Member ys x → Member (xs ++ ys) x
    member-right [] ys x m = m
    member-right (y ∷ xs) ys x m = inr (member-right xs ys x m)

    from-child : (x child : ℕ) (step : Step) → IsStep states child number step → IsBelow states x child → Member (first.numbers ++ second.numbers) x
    from-child x child step down under =
        let same : state.Split is.line is.at left right ≡ state.Split step.line step.at down.left down.right = sym is.split ∙ down.split in
        let left_is : left ≡ down.left = cc in
        let right_is : right ≡ down.right = cc in
        pick step.right down.side left_is right_is
      where
        pick : (b : Bool) → child ≡ (if b then down.right.0 else down.left.0) → left ≡ down.left → right ≡ down.right → Member (first.numbers ++ second.numbers) x
        pick false side left_is right_is =
            member-left first.numbers second.numbers x (first.all x (subst (λ (n : ℕ). IsBelow states x n) (side ∙ sym (ap (λ (n : NodeId). n.0) left_is)) under))
        pick true side left_is right_is =
            member-right first.numbers second.numbers x (second.all x (subst (λ (n : ℕ). IsBelow states x n) (side ∙ sym (ap (λ (n : NodeId). n.0) right_is)) under))

    by : (x : ℕ) (path : List Step) → IsPath states x number path → (x ≡ number) ⊎ Member (first.numbers ++ second.numbers) x
    by x [] path = inl path
    by x (step ∷ above) path =
        let last = last-step states x number step above path in
        inr (from-child x last.child last.step last.is last.below)

visited : (states : List State) (tree : Tree) (number : ℕ) → IsOneTree states → SplitsAreWhole states → IsTreeOf states number tree → Visited states number (length (preorder tree))
visited states (Leaf leaf) number one whole is = visited-leaf states number leaf is
visited states (Split line at left right) number one whole is =
    let both = visited-split states number (length (preorder left)) (length (preorder right)) is.0 is.1 one whole (record { line = line; at = at; split = is.2 })
    (visited states left is.0.0 one whole is.3) (visited states right is.1.0 one whole is.4) in
    subst (λ (n : ℕ). Visited states number n) (omega (arith, length-append (preorder left) (preorder right))) both

-- ---- the first numbers
abbrev upto : ℕ → List ℕ
upto zero = []
upto (suc n) = n ∷ upto n

upto-below : (n x : ℕ) → Member (upto n) x → x < n
upto-below zero x m = absurd m
upto-below (suc n) x (inl same) = omega (arith, same)
upto-below (suc n) x (inr later) = omega (arith, upto-below n x later)

upto-all : (n x : ℕ) → x < n → Member (upto n) x
upto-all zero x few = absurd (omega arith)
upto-all (suc n) x few = elim (cases_lt x n) [ inl below ↦ inr (upto-all n x below) | inr from ↦ inl (omega (arith, few, from)) ]

upto-distinct : (n : ℕ) → AreDistinct (upto n)
upto-distinct zero = tt
upto-distinct (suc n) = (λ y m same. absurd (omega (arith, same, upto-below n y m)), upto-distinct n)

upto-long : (n : ℕ) → length (upto n) ≡ n
upto-long zero = refl
upto-long (suc n) = ap suc (upto-long n)

-- a tree has as many nodes as there are
pub nodes-all : (states : List State) (tree : Tree) → IsOneTree states → SplitsAreWhole states → IsTreeOf states 0 tree → length (preorder tree) ≡ length states
nodes-all states tree one whole is =
    let seen = visited states tree 0 one whole is in
    let few = distinct-few seen.numbers (upto (length states)) seen.distinct (λ x m. upto-all (length states) x (inside x (seen.below x m))) in
    let many = distinct-few (upto (length states)) seen.numbers (upto-distinct (length states)) (λ x m.
    let way = some-way states x one (upto-below (length states) x m) in seen.all x (way.0, way-path states x way.0 way.1)) in
    omega (arith, few, many, seen.many, upto-long (length states))
  where
    inside : (x : ℕ) → IsBelow states x 0 → x < length states
    inside x under = by x under.0 under.1
      where
        by : (x : ℕ) (path : List Step) → IsPath states x 0 path → x < length states
        by x [] path = omega (arith, path, one.some)
        by x (step ∷ above) path = child-inside states x path.0 whole (step-child states x path.0 step path.1)
