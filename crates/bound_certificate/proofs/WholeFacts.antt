-- A line whose bytes came in parts.
use Rattle.std.proofs.Common.{◌≡◌, ◌∙◌, ℕ, ◌<◌, ◌==◌, nat_lt, true, false, List, [], ◌∷◌, ◌++◌, length, take, refl, sym, subst, ap, arith, Result, Ok, Err, IfOk, IfErr}
use Rattle.std.proofs.lemmas.List.{length-take, take_all}
use Rattle.proof_tree.specs.declared.tree.Leaf.{Leaf}
use Rattle.bound_certificate.specs.declared.fault.FaultKind.{FaultKind}
use Rattle.bound_certificate.specs.declared.item.Item.TheVariants as item
use Rattle.bound_certificate.specs.declared.limits.TheConstants.{LINE_ROOM}
use Rattle.bound_certificate.specs.declared.line_step.Step.{Step}
use Rattle.bound_certificate.specs.declared.text_reading.Stage.{Stage}
use Rattle.bound_certificate.specs.Kept.{IsKept, Kept}
use Rattle.bound_certificate.specs.Moves.{Moves, Stops}

none_of : (bytes : List ℕ) (most : ℕ) → 0 < most → (length (take most bytes) == 0) ≡ true → bytes ≡ []
none_of [] most some h = refl
none_of (byte ∷ bytes) most some h = absurd (grind (arith, some, h, length-take most (byte ∷ bytes)))

pub empty-part : (part : List ℕ) (kept : Kept) → IsKept part kept → true ≡ (length kept.head == 0) → part ≡ []
empty-part part kept is h =
    none_of part LINE_ROOM (omega arith) (ap (λ (bs : List ℕ). length bs == 0) (sym is.head_is) ∙ sym h)

short_of : (bytes : List ℕ) (most : ℕ) → nat_lt most (length bytes) ≡ false → take most bytes ≡ bytes
short_of bytes most h = take_all most bytes (grind (arith, h))

pub short-part : (part : List ℕ) (kept : Kept) → IsKept part kept → false ≡ kept.long → kept.head ≡ part
short-part part kept is h = is.head_is ∙ short_of part LINE_ROOM (sym (h ∙ is.long_is))

long_of : (bytes : List ℕ) (most : ℕ) → nat_lt most (length bytes) ≡ true → most < length bytes
long_of bytes most h = grind (arith, h)

pub long-part : (part : List ℕ) (kept : Kept) → IsKept part kept → true ≡ kept.long → LINE_ROOM < length part
long-part part kept is h = long_of part LINE_ROOM (sym (h ∙ is.long_is))

pub line-ok : (n dates : ℕ) (old : Stage) (vectors after : List (List ℕ)) (line front : List ℕ) (kept : Kept) (leaf : Leaf) (r : Result Step FaultKind) → n ≡ dates →
    ((part : List ℕ) → IsKept part kept → line ≡ part ++ front) → IfOk r (λ step. Moves n old step.stage vectors after line step.item leaf) →
    IfOk r (λ step. (part : List ℕ) → IsKept part kept → Moves dates old step.stage vectors after (part ++ front) step.item leaf)
line-ok n dates old vectors after line front kept leaf (Ok step) same whole moves = λ part is.
    let P : ℕ → Type 0 = λ k. Moves k old step.stage vectors after (part ++ front) step.item leaf in
    let Q : List ℕ → Type 0 = λ bs. Moves n old step.stage vectors after bs step.item leaf in
    subst P same (subst Q (whole part is) moves)
line-ok n dates old vectors after line front kept leaf (Err found) same whole moves = tt

pub line-err : (n dates : ℕ) (old : Stage) (vectors : List (List ℕ)) (line front : List ℕ) (kept : Kept) (r : Result Step FaultKind) → n ≡ dates →
    ((part : List ℕ) → IsKept part kept → line ≡ part ++ front) → IfErr r (λ cause. Stops n old vectors line cause) →
    IfErr r (λ cause. (part : List ℕ) → IsKept part kept → Stops dates old vectors (part ++ front) cause)
line-err n dates old vectors line front kept (Ok step) same whole stops = tt
line-err n dates old vectors line front kept (Err found) same whole stops = λ part is.
    let P : ℕ → Type 0 = λ k. Stops k old vectors (part ++ front) found in
    let Q : List ℕ → Type 0 = λ bs. Stops n old vectors bs found in
    subst P same (subst Q (whole part is) stops)

pub line-ended : (dates : ℕ) (old : Stage) (vectors after : List (List ℕ)) (line : List ℕ) (leaf : Leaf) (r : Result Step FaultKind) →
    IfOk r (λ step. Moves dates old step.stage vectors after line step.item leaf) → IfOk r (λ step. step.item ≡ item.Nothing → ⊥)
line-ended dates old vectors after line leaf (Ok step) moves = moves.ended
line-ended dates old vectors after line leaf (Err found) moves = tt
