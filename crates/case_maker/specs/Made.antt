-- What holds of the files of each made-up case.
use Rattle.std.specs.Prelude.{◌≤◌, length}
use Rattle.escrow_desk.specs.declared.limits.TheConstants.{FILE_LIMIT}
use Rattle.case_maker.specs.declared.files.Made.{Made}

-- no file has more bytes than an input file may have
pub record KeepsToLimit (made : Made) : Type 0 where
  pub issue : length made.issue.items ≤ FILE_LIMIT
  pub rates : length made.rates.items ≤ FILE_LIMIT
  pub prices : length made.prices.items ≤ FILE_LIMIT
