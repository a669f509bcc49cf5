use Rattle.std.proofs.Common.{◌≡◌, ◌∙◌, ℕ, ◌+◌, ◌^◌, ◌<◌, ◌≤◌, List, IfOk, Vec, Global, drop, get_or, length, map, sym, ap, subst, arith}
use Rattle.std.proofs.lemmas.List.{with_items_is}
use Rattle.std.proofs.lemmas.List.Elements.{All-same}
use Rattle.std.specs.List.{sum}
use Rattle.offer_book.specs.Book.{BookContents}
use Rattle.offer_book.specs.Sums.{depths}
use Rattle.offer_book.specs.declared.line.Line.{Line}
use Rattle.node_ranges.specs.Depths.{most_at}
use Rattle.node_ranges.specs.Ranges.{up_to}
use Rattle.proof_tree.specs.declared.interval.Interval.{Interval}
use Rattle.node_ranges.proofs.SumFacts.{AreCountsOf, counts-fit, depths-within, sums-found}
use Rattle.node_ranges.proofs.sums.whole_sums.Goals as goal

-- counts that were found by the depths and the lines of a book are the book's
counts-of : (book : BookContents) (dates : ℕ) (own : List ℕ) (lines : List Line) (counts : List ℕ) → dates ≡ length book.needs → own ≡ depths book → lines ≡ book.lines → length counts ≡ dates
    → ((k d : ℕ) → k < dates → get_or counts k d ≡ most_at (k + 1) own lines) → AreCountsOf book counts
counts-of book dates own lines counts dates_is own_is lines_is same each = record {
  same = same ∙ dates_is;
  each = λ k d few. each k d (omega (arith, same, few)) ∙ (λ i. most_at (k + 1) (own_is i) (lines_is i));
}

pub most_by_depth-requires-clause-deep : goal.most_by_depth-requires-clause-deep
most_by_depth-requires-clause-deep c = λ k d few.
    subst (λ (n : ℕ). get_or c.as_slice.result.now k d ≤ n) (sym c.need_count.ensures.value)
    (All-same (λ (depth : ℕ). depth ≤ length c.args.book.now.needs) c.as_slice.result.now (depths c.args.book.now) (c.as_slice.ensures.value ∙ c.in_ok-depths.ensures)
    (depths-within c.args.book.now c.args.book.now.lines) k d few)

pub sum_up-requires : goal.sum_up-requires
sum_up-requires c =
    let are = counts-of c.args.book.now c.need_count.result c.as_slice.result.now c.lines.result.now c.in_ok-counts.counts.items c.need_count.ensures.value
    (c.as_slice.ensures.value ∙ c.in_ok-depths.ensures) c.lines.ensures.value c.in_ok-counts.ensures.every c.in_ok-counts.ensures.counts in
    subst (λ (counts : List ℕ). sum counts < 2 ^ 64) (sym c.as_mut_slice.ensures.value) (counts-fit c.args.book.now c.in_ok-counts.counts.items c.lines.ensures.limits are)

pub returns : goal.returns
returns c =
    let are = counts-of c.args.book.now c.need_count.result c.as_slice.result.now c.lines.result.now c.in_ok-counts.counts.items c.need_count.ensures.value
    (c.as_slice.ensures.value ∙ c.in_ok-depths.ensures) c.lines.ensures.value c.in_ok-counts.ensures.every c.in_ok-counts.ensures.counts in
    let was = c.as_mut_slice.ensures.value in
    let long = ap length was in
    let own = with_items_is c.in_ok-counts.counts c.sum_up.new.counts (omega (arith, c.sum_up.ensures.same, c.as_mut_slice.ensures.len)) in
    let found = sums-found c.args.book.now c.in_ok-counts.counts.items c.sum_up.new.counts are (c.sum_up.ensures.same ∙ long)
    (λ k d few. subst (λ (counts : List ℕ). (k d : ℕ) → k < length counts → get_or c.sum_up.new.counts k d ≡ sum (drop k counts)) was c.sum_up.ensures.sums k d few) in
    subst (λ (most : List ℕ). IfOk c.intervals_up_to.result (λ (intervals : Vec Interval Global). intervals.items ≡ map up_to most)) (c.as_slice-2.ensures.value ∙ own ∙ found) c.intervals_up_to.ensures
