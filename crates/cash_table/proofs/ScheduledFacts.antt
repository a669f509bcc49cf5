-- What is kept of schedules.
use Rattle.std.proofs.Common.{◌≡◌, ◌∙◌, ◌==◌, ◌+◌, ◌<◌, ◌≤◌, true, false, Bool, ℕ, List, [], ◌∷◌, ◌++◌, length, map, take, drop, get_or, if◌then◌else◌, inl, inr, refl, ap, subst, sym, arith, length-drop}
use Rattle.std.proofs.lemmas.List.{map-append, take_more, get_or-drop, get_or-map, length-map}
use Rattle.escrow_units.specs.SlgsTerms.{IsSettlement}
use Rattle.payment_schedule.specs.declared.schedule.ScheduledPayment.{ScheduledPayment}
use Rattle.offer_book.specs.Book.{IsLine}
use Rattle.offer_book.specs.Schedule.{kind_rate, kind_schedule, schedule_of}
use Rattle.offer_book.specs.declared.line.Line.{Line}
use Rattle.offer_book.specs.declared.payment_days.PaymentDays.{PaymentDays}
use Rattle.offer_book.proofs.LineFacts.{schedule-few}
use Rattle.cash_table.specs.Schedules.{kept_of}

-- of a line that bears interest all payments are kept
pub kept-all : (days : PaymentDays) (line : Line) → (kind_rate line.kind == 0) ≡ false → kept_of days line ≡ schedule_of days line
kept-all days line some = rw some refl

few-unless : (none : Bool) (payments : List ScheduledPayment) → length payments ≤ 84 → length (if none then [] else payments) ≤ 84
few-unless true payments few = omega arith
few-unless false payments few = few

-- a line keeps at most 84 payments
pub kept-few : (days : PaymentDays) (line : Line) → IsSettlement days.settle → IsLine days line → length (kept_of days line) ≤ 84
kept-few days line h (inl cash) =
    subst (λ kind. length (if kind_rate kind == 0 then [] else kind_schedule days kind) ≤ 84) (sym cash.kind) (omega arith)
kept-few days line h (inr own) = few-unless (kind_rate line.kind == 0) (schedule_of days line) (schedule-few days line h own)

-- one line more
pub kept-more : {V : Type 0} (items : V → List ScheduledPayment) (days : PaymentDays) (lines : List Line) (i : ℕ) (line : Line) (so_far more : List V) (kept : V) → i < length lines → line ≡ get_or lines i line
    → map items so_far ≡ map (kept_of days) (take i lines) → items kept ≡ kept_of days line → more ≡ so_far ++ kept ∷ [] → map items more ≡ map (kept_of days) (take (i + 1) lines)
kept-more items days lines i line so_far more kept within at before own put =
    let joined : take (i + 1) lines ≡ take i lines ++ line ∷ [] = take_more lines i line within ∙ ap (λ x. take i lines ++ x ∷ []) (sym at) in
    ap (map items) put ∙ map-append items so_far (kept ∷ [])
    ∙ ap (λ xs. xs ++ items kept ∷ []) before ∙ ap (λ xs. map (kept_of days) (take i lines) ++ xs ∷ []) own
    ∙ sym (map-append (kept_of days) (take i lines) (line ∷ [])) ∙ ap (map (kept_of days)) (sym joined)

-- behind the first line
pub kept-after-cash : (days : PaymentDays) (lines : List Line) → drop 1 (map (kept_of days) lines) ≡ map (kept_of days) (drop 1 lines)
kept-after-cash days [] = refl
kept-after-cash days (line ∷ lines) = refl

pub kept-there : (days : PaymentDays) (lines : List Line) (kept : List (List ScheduledPayment)) (i : ℕ) → drop 1 kept ≡ map (kept_of days) lines → i < length lines → i + 1 < length kept
kept-there days lines kept i e within = omega (arith, length-drop 1 kept, ap length e, length-map lines (kept_of days), within)

pub kept-at : (days : PaymentDays) (lines : List Line) (kept : List (List ScheduledPayment)) (i : ℕ) (line : Line) → drop 1 kept ≡ map (kept_of days) lines → i < length lines → ((d : Line) → line ≡ get_or lines i d)
    → get_or kept (i + 1) [] ≡ kept_of days line
kept-at days lines kept i line e within at =
    let turned : i + 1 ≡ 1 + i = omega arith in
    ap (λ n. get_or kept n []) turned ∙ sym (get_or-drop 1 kept i []) ∙ ap (λ ks. get_or ks i []) e ∙ get_or-map (kept_of days) lines i line [] within ∙ ap (kept_of days) (sym (at line))
