-- One more node of a tree.
use Rattle.std.proofs.Common.{◌≡◌, ◌∙◌, ℕ, suc, ◌+◌, Bool, true, false, not, cond, nat_lt, List, [], ◌∷◌, ◌++◌, length, Option, Some, None, option_map, refl, sym, ap, arith, inl, inr}
use Rattle.std.specs.List.{position, position_or_len}
use Rattle.std.specs.Option.{option_or}
use Rattle.std.proofs.lemmas.Bool.{cases_lt}
use Rattle.std.proofs.lemmas.Bool.Decides.{nat_tests}
use Rattle.node_ranges.specs.Ranges.{RangesContents, narrowed}
use Rattle.node_ranges.specs.Claims.{placed}
use Rattle.proof_tree.specs.declared.tree.TreeNode.{TreeNode}
use Rattle.proof_tree.specs.declared.tree.TreeNode.TheVariants as node
use Rattle.offer_book.specs.Book.{BookContents}
use Rattle.escrow_check.specs.Knows.{still_waiting}

-- ---- first places
later : (k n : ℕ) → cond (nat_lt (1 + k) (suc n)) (Some (1 + k)) None ≡ option_map suc (cond (nat_lt k n) (Some k) None)
later k n = elim (cases_lt k n) [
  | inl less ↦
      let here : nat_lt k n ≡ true = grind (arith, nat_tests, less) in
      let there : nat_lt (1 + k) (suc n) ≡ true = grind (arith, nat_tests, less) in
      let next : 1 + k ≡ suc k = omega arith in
      ap (λ (b : Bool). cond b (Some (1 + k)) None) there ∙ ap (λ (m : ℕ). Some m) next ∙ sym (ap (λ (b : Bool). option_map suc (cond b (Some k) None)) here)
  | inr more ↦
      let here : nat_lt k n ≡ false = grind (arith, nat_tests, more) in
      let there : nat_lt (1 + k) (suc n) ≡ false = grind (arith, nat_tests, more) in
      ap (λ (b : Bool). cond b (Some (1 + k)) None) there ∙ sym (ap (λ (b : Bool). option_map suc (cond b (Some k) None)) here)
]

pub position-next : {X : Type 0} (p : X → Bool) (x : X) (xs : List X) → position p (x ∷ xs) ≡ cond (p x) (Some 0) (option_map suc (position p xs))
position-next p x xs = by (p x)
  where
    by : (b : Bool) → cond (nat_lt (cond (not b) (1 + position_or_len p xs) 0) (suc (length xs))) (Some (cond (not b) (1 + position_or_len p xs) 0)) None
        ≡ cond b (Some 0) (option_map suc (position p xs))
    by true = (let e : nat_lt 0 (suc (length xs)) ≡ true = grind (arith, nat_tests) in ap (λ (b : Bool). cond b (Some 0) None) e)
    by false = later (position_or_len p xs) (length xs)

shifted : (n : ℕ) (o : Option ℕ) → option_map suc (option_map (λ k. n + k) o) ≡ option_map (λ k. suc n + k) o
shifted n None = refl
shifted n (Some k) = ap (λ (m : ℕ). Some m) (omega arith)

unshifted : (o : Option ℕ) → o ≡ option_map (λ k. 0 + k) o
unshifted None = refl
unshifted (Some k) = ap (λ (m : ℕ). Some m) (omega arith)

pub position-more : {X : Type 0} (p : X → Bool) (xs ys : List X) → position p (xs ++ ys) ≡ option_or (position p xs) (option_map (λ k. length xs + k) (position p ys))
position-more p [] ys = unshifted (position p ys)
position-more p (x ∷ xs) ys =
    position-next p x (xs ++ ys)
    ∙ ap (λ (o : Option ℕ). cond (p x) (Some 0) (option_map suc o)) (position-more p xs ys)
    ∙ by (p x) (position p xs)
    ∙ ap (λ (o : Option ℕ). option_or o (option_map (λ k. suc (length xs) + k) (position p ys))) (sym (position-next p x xs))
  where
    by : (b : Bool) (o : Option ℕ) → cond b (Some 0) (option_map suc (option_or o (option_map (λ k. length xs + k) (position p ys))))
        ≡ option_or (cond b (Some 0) (option_map suc o)) (option_map (λ k. suc (length xs) + k) (position p ys))
    by true o = refl
    by false None = shifted (length xs) (position p ys)
    by false (Some k) = refl

-- ---- places of nodes
pub placed-more : (book : BookContents) (waiting : List RangesContents) (nodes more : List TreeNode) →
    placed book waiting (nodes ++ more) ≡ placed book waiting nodes ++ placed book (still_waiting book waiting nodes) more
placed-more book waiting [] more = refl
placed-more book [] (next ∷ nodes) more = sym (placed_none book more)
  where
    placed_none : (book : BookContents) (more : List TreeNode) → placed book [] more ≡ []
    placed_none book [] = refl
    placed_none book (next ∷ more) = refl
placed-more book (ranges ∷ waiting) (node.Split part at ∷ nodes) more =
    ap (λ (ps : List (TreeNode × RangesContents)). (node.Split part at, ranges) ∷ ps)
    (placed-more book (narrowed book ranges part at false ∷ narrowed book ranges part at true ∷ waiting) nodes more)
placed-more book (ranges ∷ waiting) (node.Point ∷ nodes) more =
    ap (λ (ps : List (TreeNode × RangesContents)). (node.Point, ranges) ∷ ps) (placed-more book waiting nodes more)
placed-more book (ranges ∷ waiting) (node.Closed leaf ∷ nodes) more =
    ap (λ (ps : List (TreeNode × RangesContents)). (node.Closed leaf, ranges) ∷ ps) (placed-more book waiting nodes more)

pub waiting-more : (book : BookContents) (waiting : List RangesContents) (nodes more : List TreeNode) →
    still_waiting book waiting (nodes ++ more) ≡ still_waiting book (still_waiting book waiting nodes) more
waiting-more book waiting [] more = refl
waiting-more book [] (next ∷ nodes) more = sym (waiting_none book more)
  where
    waiting_none : (book : BookContents) (more : List TreeNode) → still_waiting book [] more ≡ []
    waiting_none book [] = refl
    waiting_none book (next ∷ more) = refl
waiting-more book (ranges ∷ waiting) (node.Split part at ∷ nodes) more =
    waiting-more book (narrowed book ranges part at false ∷ narrowed book ranges part at true ∷ waiting) nodes more
waiting-more book (ranges ∷ waiting) (node.Point ∷ nodes) more = waiting-more book waiting nodes more
waiting-more book (ranges ∷ waiting) (node.Closed leaf ∷ nodes) more = waiting-more book waiting nodes more
