use Rattle.std.proofs.Common.{◌≡◌, ◌-◌, ◌++◌}
use Rattle.case_maker.specs.Files.{greatest_offer_row, rows_up_to, text_of}
use Rattle.case_maker.proofs.files.push_greatest_offers.Given as goal

abbrev pub invariant-loop-k : goal.invariant-loop-k
invariant-loop-k l =
    l.text.items ≡ l.fn.text.items ++ text_of (rows_up_to (l.k - 1) greatest_offer_row)
