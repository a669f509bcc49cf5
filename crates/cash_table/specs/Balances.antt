-- The cash of an escrow, day by day. A receipt serves a need of its day, and carried cash earns nothing: this project's own.
use Rattle.std.specs.Prelude.{◌≡◌, ◌⊎◌, ℕ, ◌+◌, ◌-◌, Bool, ◌||◌, nat_lt, List, map, filter, ℤ, pos, ◌+ℤ◌, ◌<ℤ◌}
use Rattle.std.specs.Ordering.{int_eq}
use Rattle.std.specs.List.{All, AllPairs, Any, range_with_len}
use Rattle.escrow_units.specs.Calendar.{years_after_of}
use Rattle.escrow_units.specs.Series.{days_between_of}
use Rattle.escrow_units.specs.declared.security.Flow.{Flow}
use Rattle.day_sums.specs.Summed.{cents_on, total_by}
use Rattle.offer_book.specs.Book.{BookContents}
use Rattle.offer_book.specs.Portfolio.{payments, security_flows}
use Rattle.cash_table.specs.declared.day_balances.Balance.{Balance}

-- the entry of a day: what is received and what is needed on it, and what is left of all receipts up to and on it
abbrev pub entry_on : List Flow → List Flow → ℤ → Balance
entry_on receipts needs day = record {
  day = day;
  receipts = record { 0 = cents_on day receipts };
  needs = record { 0 = cents_on day needs };
  balance = record { 0 = total_by day receipts - total_by day needs };
}

-- an entry stands where its day is that of settlement, or where something is received or needed on it
abbrev pub is_listed : ℤ → Balance → Bool
is_listed settle entry = int_eq entry.day settle || nat_lt 0 entry.receipts.0 || nat_lt 0 entry.needs.0

-- the days from settlement to 40 years later
abbrev pub escrow_days : ℤ → List ℤ
escrow_days settle = map (λ place. settle +ℤ pos place) (range_with_len 0 (days_between_of settle (years_after_of settle 40) + 1))

-- the entries of receipts and needs, in order of day
abbrev pub entries_of : ℤ → List Flow → List Flow → List Balance
entries_of settle receipts needs = filter (is_listed settle) (map (entry_on receipts needs) (escrow_days settle))

-- the balances of a portfolio. Opening cash is received on the settlement day
unfoldable pub balances_of : BookContents → List ℕ → List Balance
balances_of book plan = entries_of book.days.settle (payments book plan) book.needs

-- the settlement day, a need date, or a day on which securities pay
abbrev pub IsCashDay : BookContents → List ℕ → ℤ → Type 0
IsCashDay book plan day =
    (day ≡ book.days.settle) ⊎ Any (λ need. need.day ≡ day) book.needs ⊎ Any (λ flow. flow.day ≡ day) (security_flows book plan)

-- entries are those of the cash days, each once, in order, and with each balance the needs so far come to the receipts so far
pub record AreBalances (book : BookContents) (plan : List ℕ) (entries : List Balance) : Type 0 where
  pub rise : AllPairs (λ earlier later. earlier.day <ℤ later.day) entries
  pub days : All (λ entry. IsCashDay book plan entry.day) entries
  pub complete : (day : ℤ) → IsCashDay book plan day → Any (λ entry. entry.day ≡ day) entries
  pub amounts : All (λ entry. entry ≡ entry_on (payments book plan) book.needs entry.day) entries
  pub balanced : All (λ entry. total_by entry.day book.needs + entry.balance.0 ≡ total_by entry.day (payments book plan)) entries
