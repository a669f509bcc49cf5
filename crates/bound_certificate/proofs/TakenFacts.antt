-- What the numbers of a leaf say.
use Rattle.std.proofs.Common.{◌≡◌, ◌∙◌, ℕ, ◌-◌, ◌≤◌, List, [], ◌∷◌, drop, get_or, length, take, sym, ap, arith, Option, Ok, Err}
use Rattle.std.proofs.lemmas.List.{take_all}
use Rattle.bound_certificate.specs.declared.fault.FaultKind.{FaultKind}
use Rattle.bound_certificate.specs.declared.item.Item.TheVariants as item
use Rattle.bound_certificate.specs.declared.limits.TheConstants.{MOST_DATES, MOST_VECTORS}
use Rattle.bound_certificate.specs.declared.packed.Change.{Change}
use Rattle.bound_certificate.specs.declared.row.Row.TheVariants as row
use Rattle.bound_certificate.specs.declared.weighing.Weighing.{Weighing}
use Rattle.bound_certificate.specs.Grammar.{changes_of, leaf_said, said_by}
use Rattle.bound_certificate.specs.Packed.{vector_of}
use Rattle.bound_certificate.specs.Row.{AreRowNumbers}
use Rattle.bound_certificate.specs.Taken.{AreFaulty, AreOfLeaf, ArePricesAfter, IsOfNumbers, line_with}
use Rattle.bound_certificate.proofs.ChangeFacts.{leaf-changes, leaf-vector, leaf_three, up-to}

-- the numbers of a leaf's line
leaf_row : (how : Weighing) (dates vectors : ℕ) (numbers : List ℕ) → dates ≤ MOST_DATES → vectors ≤ MOST_VECTORS → AreRowNumbers dates vectors (row.Leaf how) numbers → AreOfLeaf numbers
leaf_row how dates vectors numbers short few are =
    let three = leaf_three how dates (length numbers) are.fits in
    record {
      some = three.0;
      few = omega (arith, three.1, short);
      vector = omega (arith, (leaf-vector how dates vectors numbers are).1, few);
      places = up-to dates 65_535 (changes_of (drop 3 numbers)) (omega (arith, short)) (leaf-changes how dates vectors numbers are);
    }

-- a leaf's numbers: three, and those of its changes
three : (numbers : List ℕ) → 3 ≤ length numbers →
    numbers ≡ get_or numbers 0 0 ∷ get_or numbers 1 0 ∷ get_or numbers 2 0 ∷ take (length numbers - 3) (drop 3 numbers)
three [] some = absurd (omega (arith, some))
three (rho ∷ []) some = absurd (omega (arith, some))
three (rho ∷ mu ∷ []) some = absurd (omega (arith, some))
three (rho ∷ mu ∷ vector ∷ numbers) some = ap (λ (ns : List ℕ). rho ∷ mu ∷ vector ∷ ns) (sym (take_all (length (rho ∷ mu ∷ vector ∷ numbers) - 3) numbers (omega arith)))

leaf_by : (how : Weighing) (dates : ℕ) (vectors : List (List ℕ)) (numbers : List ℕ) (prices : Option (List ℕ)) → 3 ≤ length numbers → prices ≡ vector_of vectors (get_or numbers 2 0) →
    said_by dates vectors (row.Leaf how) numbers ≡ leaf_said how dates prices (get_or numbers 0 0) (get_or numbers 1 0) (get_or numbers 2 0) (changes_of (take (length numbers - 3) (drop 3 numbers)))
leaf_by how dates vectors numbers prices some same =
    let changes : List Change = changes_of (take (length numbers - 3) (drop 3 numbers)) in
    ap (said_by dates vectors (row.Leaf how)) (three numbers some)
    ∙ ap (λ (ps : Option (List ℕ)). leaf_said how dates ps (get_or numbers 0 0) (get_or numbers 1 0) (get_or numbers 2 0) changes) (sym same)

pub leaf-numbers : (how : Weighing) (dates : ℕ) (vectors : List (List ℕ)) (numbers : List ℕ) (prices : Option (List ℕ)) (after : List ℕ) → dates ≤ MOST_DATES → length vectors ≤ MOST_VECTORS →
    AreRowNumbers dates (length vectors) (row.Leaf how) numbers → prices ≡ vector_of vectors (get_or numbers 2 0) →
    ArePricesAfter dates prices (changes_of (take (length numbers - 3) (drop 3 numbers))) after → IsOfNumbers how (said_by dates vectors (row.Leaf how) numbers) numbers [] item.Leaf
leaf-numbers how dates vectors numbers prices after short few are same taken =
    let of_leaf : AreOfLeaf numbers = leaf_row how dates (length vectors) numbers short few are in
    record {
      is = leaf_by how dates vectors numbers prices of_leaf.some same
          ∙ taken.leaf how (get_or numbers 0 0) (get_or numbers 1 0) (get_or numbers 2 0)
          ∙ ap (λ (ns : List ℕ). Ok (line_with how item.Leaf ns [])) (sym (three numbers of_leaf.some));
      leaf = λ _. of_leaf;
    }

-- numbers that are no leaf
pub leaf-fault : (how : Weighing) (dates : ℕ) (vectors : List (List ℕ)) (numbers : List ℕ) (prices : Option (List ℕ)) (found : FaultKind) → AreRowNumbers dates (length vectors) (row.Leaf how) numbers →
    prices ≡ vector_of vectors (get_or numbers 2 0) → AreFaulty dates prices (changes_of (take (length numbers - 3) (drop 3 numbers))) found →
    said_by dates vectors (row.Leaf how) numbers ≡ Err found
leaf-fault how dates vectors numbers prices found are same fault =
    leaf_by how dates vectors numbers prices (leaf_three how dates (length numbers) are.fits).0 same ∙ fault how (get_or numbers 0 0) (get_or numbers 1 0) (get_or numbers 2 0)
