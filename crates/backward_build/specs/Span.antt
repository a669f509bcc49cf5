-- The span of a need date: the days after the need date before it, up to and on it. What is paid on them serves that date first.
use Rattle.std.specs.Prelude.{ℕ, zero, suc, Bool, true, ◌&&◌, if◌then◌else◌, int_le, int_lt, List, sum_by, Option, Some, None, ℤ}
use Rattle.escrow_units.specs.declared.security.Flow.{Flow}
use Rattle.backward_build.specs.OwnOffer.{need_at}
use Rattle.backward_build.specs.declared.span.Span.{Span}

-- the need date before that at a place; the first has none before it
abbrev pub date_before : List Flow → ℕ → Option ℤ
date_before needs zero = None
date_before needs (suc place) = Some (need_at needs place).day

-- the span of the need date at a place
abbrev pub span_of : List Flow → ℕ → Span
span_of needs place = record { after = date_before needs place; until = (need_at needs place).day }

-- a day is after another, if there is another
abbrev pub is_after : Option ℤ → ℤ → Bool
is_after None day = true
is_after (Some before) day = int_lt before day

-- a day falls in a span
abbrev pub falls_in : Span → ℤ → Bool
falls_in span day = is_after span.after day && int_le day span.until

-- what is paid in a span
abbrev pub paid_in : Span → List Flow → ℕ
paid_in span flows = sum_by (λ flow. if falls_in span flow.day then flow.cents.0 else 0) flows
