-- The least gap that a tree supports, node by node.
use Rattle.std.proofs.Common.{◌≡◌, ◌⊎◌, inl, inr, ℕ, ◌+◌, ◌<◌, ◌≤◌, ℤ, pos, ◌-ℤ◌, Bool, true, false, List, Some, refl, sym, subst, ◌∙◌, arith}
use Rattle.std.specs.Prelude.{nat_le}
use Rattle.std.proofs.lemmas.Bool.Decides.{leb_tells}
use Rattle.std.proofs.lemmas.Bool.{cases_lt}
use Rattle.std.proofs.lemmas.Int.{ints}
use Rattle.node_ranges.specs.Claims.{bears_out}
use Rattle.search_tree.specs.Growing.{node_of}
use Rattle.search_tree.specs.Tree.{IsBorneBy, IsLeastGap, IsNeededFor, SomeNeeds}
use Rattle.search_tree.specs.declared.node.SearchNode.{SearchNode}

-- what a bound bears out with a gap, it bears out with a greater one
pub bears-wider : (bound : ℤ) (cents gap wider : ℕ) → gap ≤ wider → bears_out bound (Some (pos cents -ℤ pos gap)) ≡ true → bears_out bound (Some (pos cents -ℤ pos wider)) ≡ true
bears-wider bound cents gap wider le borne = grind (arith, ints)

pub gap-grown : (nodes : List SearchNode) (count cents gap next : ℕ) → IsLeastGap nodes count cents gap → gap ≤ next → IsBorneBy (node_of nodes count) cents next
    → (next ≡ gap) ⊎ IsNeededFor (node_of nodes count) cents next → IsLeastGap nodes (count + 1) cents next
gap-grown nodes count cents gap next is no_less own least = record {
  borne = λ number few. by-number number few;
  least = by-cause least is.least;
}
  where
    by-number : (number : ℕ) → number < count + 1 → IsBorneBy (node_of nodes number) cents next
    by-number number few = elim (cases_lt number count) [
      | inl before ↦ λ closed. bears-wider (node_of nodes number).priced.bound cents gap next no_less (is.borne number before closed)
      | inr last ↦ subst (λ (n : ℕ). IsBorneBy (node_of nodes n) cents next) (omega (arith, few, last)) own
    ]

    by-cause : (next ≡ gap) ⊎ IsNeededFor (node_of nodes count) cents next → (gap ≡ 0) ⊎ SomeNeeds nodes count cents gap → (next ≡ 0) ⊎ SomeNeeds nodes (count + 1) cents next
    by-cause (inl same) (inl none) = inl (same ∙ none)
    by-cause (inl same) (inr some) = inr (record { number = some.number; there = omega (arith, some.there); needs = subst (IsNeededFor (node_of nodes some.number) cents) (sym same) some.needs })
    by-cause (inr needed) old = inr (record { number = count; there = omega arith; needs = needed })

-- a bound bears out what a plan costs with the allowance just where the least gap is allowed
pub gap-decides : (bound : ℤ) (cents gap allowance : ℕ) → bears_out bound (Some (pos cents -ℤ pos gap)) ≡ true → ((other : ℕ) → bears_out bound (Some (pos cents -ℤ pos other)) ≡ true → gap ≤ other)
    → nat_le gap allowance ≡ bears_out bound (Some (pos cents -ℤ pos allowance))
gap-decides bound cents gap allowance supported least = elim (leb_tells gap allowance) [
  | inl few ↦ few.0 ∙ sym (bears-wider bound cents gap allowance few.1 supported)
  | inr more ↦ more.0 ∙ sym (free more.1 (bears_out bound (Some (pos cents -ℤ pos allowance))) refl)
]
  where
    free : allowance < gap → (b : Bool) → bears_out bound (Some (pos cents -ℤ pos allowance)) ≡ b → bears_out bound (Some (pos cents -ℤ pos allowance)) ≡ false
    free few true borne = absurd (omega (arith, few, least allowance borne))
    free few false borne = borne
