-- What is read of the input files, proved.
use Rattle.std.proofs.Common.{◌≡◌, ℕ, ◌≤◌, ◌<◌, List, [], length, Option, Some, None, true, false, refl, arith}
use Rattle.std.specs.Prelude.{IfSome, nat_lt}
use Rattle.std.proofs.lemmas.Bool.{lt-ltb}
use Rattle.std.proofs.lemmas.Bool.Decides.{nat_tests}
use Rattle.escrow_desk.specs.declared.limits.TheConstants.{FILE_LIMIT}
use Rattle.escrow_desk.specs.Content.{Content, file_of}
use Rattle.escrow_desk.specs.Rows.{rows_of}
use Rattle.escrow_desk.specs.declared.refusal.FileKind.TheVariants as file
use Rattle.certificate_answers.specs.InputFiles.{InputFiles, FileNames, are_holdings_long, first_too_long, holdings_in, inputs_of, three_files}
use Rattle.case_file.specs.Case.{rows_case}
use Rattle.certificate_answers.specs.Answer.{case_of}
use Rattle.certificate_answers.specs.CaseOf.{AreWithin}
use Rattle.certificate_answers.specs.Reading.{AreThere}

under : (n : ℕ) → n ≤ FILE_LIMIT → nat_lt FILE_LIMIT n ≡ false
under n h = grind arith

-- holdings within their limit
pub holdings-short : (held : Option (List ℕ)) → IfSome held (λ bytes. length bytes ≤ FILE_LIMIT) → are_holdings_long held ≡ false
holdings-short None within = refl
holdings-short (Some bytes) within = under (length bytes) within

-- and over it
pub holdings-within : (held : Option (List ℕ)) → are_holdings_long held ≡ false → IfSome held (λ bytes. length bytes ≤ FILE_LIMIT)
holdings-within None short = tt
holdings-within (Some bytes) short = grind (arith, nat_tests)

-- files within their limit
pub within-issue : (issue : List ℕ) → length issue ≤ FILE_LIMIT → first_too_long (three_files issue [] []) ≡ None
within-issue issue h = rw (under (length issue) h) refl

pub within-rates : (issue rates : List ℕ) → length issue ≤ FILE_LIMIT → length rates ≤ FILE_LIMIT → first_too_long (three_files issue rates []) ≡ None
within-rates issue rates h k = rw (under (length issue) h, under (length rates) k) refl

pub within-three : (issue rates prices : List ℕ) → length issue ≤ FILE_LIMIT → length rates ≤ FILE_LIMIT → length prices ≤ FILE_LIMIT → first_too_long (three_files issue rates prices) ≡ None
within-three issue rates prices h k m = rw (under (length issue) h, under (length rates) k, under (length prices) m) refl

pub within-all : (texts : InputFiles) → AreWithin texts → first_too_long texts ≡ None
within-all texts within =
    rw (under (length texts.issue) within.issue, under (length texts.rates) within.rates, under (length texts.prices) within.prices, holdings-short texts.held within.held) refl

-- the first file over its limit
pub over-issue : (texts : InputFiles) → FILE_LIMIT < length texts.issue → first_too_long texts ≡ Some file.Issue
over-issue texts h = rw (lt-ltb FILE_LIMIT (length texts.issue) h) refl

pub over-rates : (texts : InputFiles) → length texts.issue ≤ FILE_LIMIT → FILE_LIMIT < length texts.rates → first_too_long texts ≡ Some file.Rates
over-rates texts h k = rw (under (length texts.issue) h, lt-ltb FILE_LIMIT (length texts.rates) k) refl

pub over-prices : (texts : InputFiles) → length texts.issue ≤ FILE_LIMIT → length texts.rates ≤ FILE_LIMIT → FILE_LIMIT < length texts.prices → first_too_long texts ≡ Some file.Prices
over-prices texts h k m = rw (under (length texts.issue) h, under (length texts.rates) k, lt-ltb FILE_LIMIT (length texts.prices) m) refl

pub over-held : (texts : InputFiles) → length texts.issue ≤ FILE_LIMIT → length texts.rates ≤ FILE_LIMIT → length texts.prices ≤ FILE_LIMIT → are_holdings_long texts.held ≡ true
    → first_too_long texts ≡ Some file.Held
over-held texts h k m long = rw (under (length texts.issue) h, under (length texts.rates) k, under (length texts.prices) m, long) refl

-- where the files are there, and the first three within their limit, they are read
pub record AreThreeWithin (texts : InputFiles) : Type 0 where
  pub issue : length texts.issue ≤ FILE_LIMIT
  pub rates : length texts.rates ≤ FILE_LIMIT
  pub prices : length texts.prices ≤ FILE_LIMIT

pub read-there : (content : Content) (names : FileNames) (texts : InputFiles) → AreThere content names texts → AreThreeWithin texts → inputs_of content names ≡ Some texts
read-there content names texts there within =
    let issue = there.issue in
    let rates = there.rates in
    let prices = there.prices in
    let held = there.held in
    rw (
      issue,
      within-issue texts.issue within.issue,
      rates,
      within-rates texts.issue texts.rates within.issue within.rates,
      prices,
      within-three texts.issue texts.rates texts.prices within.issue within.rates within.prices,
      held,
    ) refl

pub read-all : (content : Content) (names : FileNames) (texts : InputFiles) → AreThere content names texts → AreWithin texts → inputs_of content names ≡ Some texts
read-all content names texts there within = read-there content names texts there (record { issue = within.issue; rates = within.rates; prices = within.prices })

pub read-long_issue : (content : Content) (names : FileNames) (issue : List ℕ) → file_of content names.issue ≡ Some issue → FILE_LIMIT < length issue → inputs_of content names ≡ Some (three_files issue [] [])
read-long_issue content names issue is long =
    let over = over-issue (three_files issue [] []) long in
    rw (is, over, over, over) refl

pub read-long_rates : (content : Content) (names : FileNames) (issue rates : List ℕ) → file_of content names.issue ≡ Some issue → file_of content names.rates ≡ Some rates → length issue ≤ FILE_LIMIT → FILE_LIMIT < length rates → inputs_of content names ≡ Some (three_files issue rates [])
read-long_rates content names issue rates is is_rates within long =
    let over = over-rates (three_files issue rates []) within long in
    rw (is, within-issue issue within, is_rates, over, over) refl

pub read-long_prices : (content : Content) (names : FileNames) (issue rates prices : List ℕ) → file_of content names.issue ≡ Some issue → file_of content names.rates ≡ Some rates → file_of content names.prices ≡ Some prices → length issue ≤ FILE_LIMIT → length rates ≤ FILE_LIMIT
    → FILE_LIMIT < length prices → inputs_of content names ≡ Some (three_files issue rates prices)
read-long_prices content names issue rates prices is is_rates is_prices within within_rates long =
    rw (is, within-issue issue within, is_rates, within-rates issue rates within within_rates, is_prices, over-prices (three_files issue rates prices) within within_rates long) refl

pub lacks-issue : (content : Content) (names : FileNames) → file_of content names.issue ≡ None → inputs_of content names ≡ None
lacks-issue content names none = rw none refl

pub lacks-rates : (content : Content) (names : FileNames) (issue : List ℕ) → file_of content names.issue ≡ Some issue → length issue ≤ FILE_LIMIT → file_of content names.rates ≡ None → inputs_of content names ≡ None
lacks-rates content names issue is within none = rw (is, within-issue issue within, none) refl

pub lacks-prices : (content : Content) (names : FileNames) (issue rates : List ℕ) → file_of content names.issue ≡ Some issue → file_of content names.rates ≡ Some rates → length issue ≤ FILE_LIMIT → length rates ≤ FILE_LIMIT → file_of content names.prices ≡ None → inputs_of content names ≡ None
lacks-prices content names issue rates is is_rates within within_rates none =
    rw (is, within-issue issue within, is_rates, within-rates issue rates within within_rates, none) refl

pub lacks-held : (content : Content) (names : FileNames) (issue rates prices : List ℕ) → file_of content names.issue ≡ Some issue → file_of content names.rates ≡ Some rates → file_of content names.prices ≡ Some prices → length issue ≤ FILE_LIMIT → length rates ≤ FILE_LIMIT
    → length prices ≤ FILE_LIMIT → holdings_in content names.held ≡ None → inputs_of content names ≡ None
lacks-held content names issue rates prices is is_rates is_prices within within_rates within_prices none =
    rw (
      is,
      within-issue issue within,
      is_rates,
      within-rates issue rates within within_rates,
      is_prices,
      within-three issue rates prices within within_rates within_prices,
      none,
    ) refl

-- the case of files within their limit is that of their rows
pub rows_alone : (texts : InputFiles) → AreWithin texts → case_of texts ≡ rows_case (rows_of texts.issue) (rows_of texts.rates) (rows_of texts.prices)
rows_alone texts within = rw (within-all texts within) refl
