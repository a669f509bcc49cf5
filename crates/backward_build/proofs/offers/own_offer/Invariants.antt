use Rattle.std.proofs.Common.{◌≡◌, ℕ, ◌<◌, false, slice_index_or}
use Rattle.offer_book.specs.declared.line.Line.{Line}
use Rattle.backward_build.specs.OwnOffer.{ends_on}
use Rattle.backward_build.proofs.offers.own_offer.Given as goal

abbrev pub invariant-loop-number : goal.invariant-loop-number
invariant-loop-number l = (k : ℕ) (d : Line) → k < l.number → ends_on l.book.days l.day (slice_index_or l.book.lines k d).kind ≡ false
