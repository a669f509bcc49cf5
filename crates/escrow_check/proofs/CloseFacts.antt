-- Tight ranges, and the portfolio of their low ends.
use Rattle.std.proofs.Common.{◌≡◌, ◌∙◌, ℕ, suc, ◌+◌, ◌<◌, List, [], ◌∷◌, length, map, get_or, set, refl, sym, ap, arith, inl, inr}
use Rattle.std.specs.List.{All, AllZip, zip}
use Rattle.std.proofs.lemmas.List.Elements.{All-cons, All-nil}
use Rattle.node_ranges.proofs.RangeFacts.{tight-length}
use Rattle.node_ranges.specs.Claims.{low_ends}
use Rattle.offer_book.specs.Book.{BookContents}
use Rattle.offer_book.specs.Portfolio.{IsPermitted, IsPermittedUnits}
use Rattle.std.proofs.lemmas.Bool.{cases_lt}
use Rattle.std.proofs.lemmas.List.{get_or-set_same, get_or-set_other, length-map, length-set}
use Rattle.node_ranges.specs.Ranges.{AreTight, IsTight, RangesContents}
use Rattle.proof_tree.specs.declared.interval.Interval.{Interval}
use Rattle.offer_book.specs.declared.line.Line.{Line}

abbrev IsPair : Line × ℕ → Type 0
IsPair p = IsPermittedUnits p.0 p.1

-- so many numbers are the low ends
pub record AreLowUpTo (count : ℕ) (intervals : List Interval) (plan : List ℕ) : Type 0 where
  pub same : length plan ≡ length intervals
  pub lows : (k : ℕ) (d : Interval) → k < count → get_or plan k 0 ≡ (get_or intervals k d).low

pub lows-more : (line low : ℕ) (intervals : List Interval) (plan : List ℕ) → AreLowUpTo line intervals plan → line < length intervals → ((d : Interval) → low ≡ (get_or intervals line d).low) →
    AreLowUpTo (line + 1) intervals (set plan line low)
lows-more line low intervals plan are there low_is = record {
  same = length-set plan line low ∙ are.same;
  lows = λ k d few. elim (cases_lt k line) [
    | inl less ↦ get_or-set_other plan line k low 0 (λ e. absurd (omega (arith, e, less))) ∙ are.lows k d less
    | inr more ↦ here k d (omega (arith, few, more))
  ];
}
  where
    here : (k : ℕ) (d : Interval) → k ≡ line → get_or (set plan line low) k 0 ≡ (get_or intervals k d).low
    here k d e =
        ap (λ (n : ℕ). get_or (set plan line low) n 0) e ∙ get_or-set_same plan line low 0 (omega (arith, are.same, there)) ∙ low_is d
        ∙ ap (λ (n : ℕ). (get_or intervals n d).low) (sym e)

pub lows-all : (intervals : List Interval) (plan : List ℕ) → AreLowUpTo (length intervals) intervals plan → plan ≡ map (λ (i : Interval). i.low) intervals
lows-all [] [] are = refl
lows-all [] (units ∷ plan) are = absurd (omega (arith, are.same))
lows-all (interval ∷ intervals) [] are = absurd (omega (arith, are.same))
lows-all (interval ∷ intervals) (units ∷ plan) are =
    let first : units ≡ interval.low = are.lows 0 interval (omega arith) in
    let rest : plan ≡ map (λ (i : Interval). i.low) intervals = lows-all intervals plan (record { same = omega (arith, are.same); lows = λ k d few. are.lows (suc k) d (omega (arith, few)) }) in
    (λ i. first i ∷ rest i)

lows_units : (lines : List Line) (intervals : List Interval) → AllZip IsTight lines intervals → All IsPair (zip lines (map (λ (i : Interval). i.low) intervals))
lows_units [] [] tight = All-nil IsPair
lows_units [] (interval ∷ intervals) tight = absurd tight
lows_units (line ∷ lines) [] tight = absurd tight
lows_units (line ∷ lines) (interval ∷ intervals) tight =
    All-cons IsPair (line, interval.low) (zip lines (map (λ (i : Interval). i.low) intervals)) tight.0.low (lows_units lines intervals tight.1)

pub lows-permitted : (book : BookContents) (ranges : RangesContents) → AreTight book ranges → IsPermitted book (low_ends ranges)
lows-permitted book ranges tight = record {
  same_length = length-map ranges.lines (λ (interval : Interval). interval.low) ∙ sym (tight-length book.lines ranges.lines tight.lines);
  units = lows_units book.lines ranges.lines tight.lines;
}
