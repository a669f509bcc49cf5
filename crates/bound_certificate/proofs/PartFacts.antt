-- What is kept of the part of a line.
use Rattle.std.proofs.Common.{◌≡◌, ◌∙◌, ℕ, ◌+◌, ◌<◌, ◌≤◌, ◌||◌, nat_lt, if◌then◌else◌, Bool, true, false, List, ◌++◌, length, take, refl, sym, ap, arith, length-append}
use Rattle.std.specs.List.{fold}
use Rattle.std.proofs.lemmas.List.{append-nil, length-take, take-append-le}
use Rattle.std.proofs.lemmas.List.Sums.{fold-append}
use Rattle.std.proofs.Math.Seq.{take-append-add, take_all}
use Rattle.bound_certificate.specs.declared.limits.TheConstants.{LINE_ROOM}
use Rattle.bound_certificate.specs.declared.seen.Seen.{Seen}
use Rattle.bound_certificate.specs.Kept.{IsKept, Kept}
use Rattle.bound_certificate.specs.LongLine.{nothing_seen, seen_of, seen_with}

more_head : (before bytes : List ℕ) (most left : ℕ) (b : Bool) → nat_lt most (length before) ≡ b → left + length (take most before) ≡ most →
    take most before ++ take left bytes ≡ take most (before ++ bytes)
more_head before bytes most left true e room =
    let long : most < length before = grind (arith, e) in
    let none : left ≡ 0 = omega (arith, room, length-take most before, long) in
    ap (λ (k : ℕ). take most before ++ take k bytes) none ∙ append-nil (take most before) ∙ sym (take-append-le most before bytes (omega (arith, long)))
more_head before bytes most left false e room =
    let short : length before ≤ most = grind (arith, e) in
    let all : take most before ≡ before = take_all most before short in
    let size : length before + left ≡ most = omega (arith, room, ap length all) in
    ap (λ (bs : List ℕ). bs ++ take left bytes) all ∙ sym (take-append-add before bytes left) ∙ ap (λ (k : ℕ). take k (before ++ bytes)) size

more_long : (before bytes : List ℕ) (most left : ℕ) (b : Bool) → nat_lt most (length before) ≡ b → left + length (take most before) ≡ most →
    (b || nat_lt left (length bytes)) ≡ nat_lt most (length (before ++ bytes))
more_long before bytes most left true e room =
    let long : most < length before = grind (arith, e) in
    grind (arith, long, length-append before bytes)
more_long before bytes most left false e room =
    let short : length before ≤ most = grind (arith, e) in
    let size : length before + left ≡ most = omega (arith, room, length-take most before, short) in
    grind (arith, size, length-append before bytes)

-- what was seen of the bytes before
short_of : (m n : ℕ) → nat_lt m n ≡ false → n ≤ m
short_of m n h = grind (arith, h)

seen_by : (before : List ℕ) (kept : Kept) (b : Bool) → IsKept before kept → kept.long ≡ b → (if b then kept.seen else seen_of kept.head) ≡ seen_of before
seen_by before kept true is e = is.seen_is e
seen_by before kept false is e =
    let short : length before ≤ LINE_ROOM = short_of LINE_ROOM (length before) (sym is.long_is ∙ e) in ap seen_of (is.head_is ∙ take_all LINE_ROOM before short)

pub more-seen : (before bytes : List ℕ) (kept : Kept) (seen : Seen) → IsKept before kept → seen ≡ (if kept.long then kept.seen else seen_of kept.head) →
    fold seen_with seen bytes ≡ seen_of (before ++ bytes)
more-seen before bytes kept seen is same =
    ap (λ (s : Seen). fold seen_with s bytes) (same ∙ seen_by before kept kept.long is refl) ∙ sym (fold-append seen_with nothing_seen before bytes)

pub kept-more : (before bytes : List ℕ) (kept after : Kept) (left : ℕ) → IsKept before kept → left + length kept.head ≡ LINE_ROOM → after.head ≡ kept.head ++ take left bytes →
    after.long ≡ (kept.long || nat_lt left (length bytes)) → (after.long ≡ true → after.seen ≡ seen_of (before ++ bytes)) → IsKept (before ++ bytes) after
kept-more before bytes kept after left is room head long seen =
    let same : left + length (take LINE_ROOM before) ≡ LINE_ROOM = ap (λ (bs : List ℕ). left + length bs) (sym is.head_is) ∙ room in
    record {
      head_is = head ∙ ap (λ (bs : List ℕ). bs ++ take left bytes) is.head_is ∙ more_head before bytes LINE_ROOM left (nat_lt LINE_ROOM (length before)) refl same;
      long_is =
          long ∙ ap (λ (b : Bool). b || nat_lt left (length bytes)) is.long_is ∙ more_long before bytes LINE_ROOM left (nat_lt LINE_ROOM (length before)) refl same;
      seen_is = seen;
    }
