use Rattle.std.proofs.Common.{◌≡◌, ◌+◌, ◌-◌, ◌++◌}
use Rattle.case_maker.specs.Draws.{state_after}
use Rattle.case_maker.specs.Files.{lower_offer_row, lower_rate, rows_up_to, text_of}
use Rattle.case_maker.proofs.files.push_lower_offers.Given as goal

abbrev pub invariant-loop-k : goal.invariant-loop-k
invariant-loop-k g l = record {
  state : l.draws.state ≡ state_after g.number (l.k + 40);
  text : l.text.items ≡ l.fn.text.items ++ text_of (rows_up_to (l.k - 1) (λ k. lower_offer_row k (lower_rate g.number k)));
}
