-- Lines by what they save.
use Rattle.std.proofs.Common.{◌≡◌, List, get_or, refl, arith, ℤ, ◌≤ℤ◌, false}
use Rattle.std.specs.List.{AllPairs}
use Rattle.std.specs.List.Sorted.{IsSortedBy}
use Rattle.std.specs.Ordering.{int_cmp, is_lt}
use Rattle.std.proofs.lemmas.Cmp.{int_cmp_total, int_ranked}
use Rattle.std.proofs.lemmas.Int.{ints}
use Rattle.std.proofs.lemmas.List.Sorted.{IsStrictWeakOrder-flip, ranks_by, sorted_far}
use Rattle.backward_build.specs.declared.order.Candidate.{Candidate}

-- a list that is sorted by what is saved, the most first
abbrev pub saved : Candidate → ℤ
saved candidate = candidate.saving

pub falls : (order : List Candidate) → IsSortedBy (λ x y. is_lt (int_cmp (saved y) (saved x))) order → AllPairs (λ earlier later. later.saving ≤ℤ earlier.saving) order
falls order sorted = λ i j d below within.
    let far = sorted_far (λ x y. is_lt (int_cmp (saved y) (saved x))) (IsStrictWeakOrder-flip (λ x y. is_lt (int_cmp (saved x) (saved y))) (ranks_by int_cmp_total saved)) order sorted i j d (omega arith) within in
    no_less (saved (get_or order i d)) (saved (get_or order j d)) far
  where
    no_less : (a b : ℤ) → is_lt (int_cmp a b) ≡ false → b ≤ℤ a
    no_less a b test = grind (arith, ints, int_ranked a b (int_cmp a b) refl)
