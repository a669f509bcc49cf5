-- Which command words are.
use Rattle.std.specs.Prelude.{ℕ, ◌%◌, ◌==◌, nat_eq, List, [], ◌∷◌, Option, Some, None, Result, Ok, Err, if◌then◌else◌, codes, option_map}
use Rattle.std.specs.Bool.{then_some}
use lib.Pointwise.{pointwise}
use Rattle.escrow_units.specs.NumberText.{rate_of}
use Rattle.escrow_units.specs.declared.amount.Rate.{Rate}
use Rattle.escrow_units.specs.declared.fault.NumberFault.{NumberFault}
use Rattle.certificate_answers.specs.Answer.{Asking}
use Rattle.certificate_answers.specs.InputFiles.{FileNames}
use Rattle.certificate_answers.specs.Reading.{asking_view, names_view}
use Rattle.certificate_answers.specs.declared.inquiry.Inquiry.TheVariants as inquiry
use Rattle.escrow_top.specs.MakeWords.{Making, number_of_word}
use Rattle.escrow_top.specs.Making.{making_view}
use Rattle.escrow_top.specs.declared.command.Command.{Command as CodeCommand}
use Rattle.escrow_top.specs.declared.command.Command.TheVariants as code

-- a command with the names of its files: `structure`, or `structure-held` where holdings are named; `cap`; one of the five that ask
-- something of a certificate; or `make`
pub data Command : Type 0 where
  Structure : FileNames → Command
  Cap : FileNames → Command
  Ask : Asking → Command
  Make : Making → Command

-- the cap that a word is: a rate in percent, in whole hundredths, up to 30
abbrev pub cap_of : Result Rate NumberFault → Option Rate
cap_of (Ok rate) = then_some (rate.0 % 10 == 0) rate
cap_of (Err fault) = None

-- the command whose word this is, of three input files and a certificate
abbrev pub command_on : List ℕ → FileNames → Option Command
command_on word names =
    if pointwise nat_eq word (codes "structure") then Some (Structure names) else
    (if pointwise nat_eq word (codes "cap") then Some (Cap names) else
    (if pointwise nat_eq word (codes "check") then Some (Ask (record { inquiry = inquiry.Check; names = names })) else
    (if pointwise nat_eq word (codes "savings") then Some (Ask (record { inquiry = inquiry.Savings; names = names })) else
    (if pointwise nat_eq word (codes "roll") then Some (Ask (record { inquiry = inquiry.Roll; names = names })) else None))))

-- the same of four input files, of which the last are the holdings
abbrev pub command_beside : List ℕ → FileNames → Option Command
command_beside word names =
    if pointwise nat_eq word (codes "structure-held") then Some (Structure names) else
    (if pointwise nat_eq word (codes "check-held") then Some (Ask (record { inquiry = inquiry.Check; names = names })) else None)

-- the command of five words: `make NUMBER ISSUE RATES PRICES`, or one of `ISSUE RATES PRICES CERT`
abbrev pub command_of_five : List ℕ → List ℕ → List ℕ → List ℕ → List ℕ → Option Command
command_of_five word first second third last =
    if pointwise nat_eq word (codes "make")
    then option_map (λ n. Make (record { number = n; names = record { issue = second; rates = third; prices = last } })) (number_of_word first)
    else command_on word (record { issue = first; rates = second; prices = third; held = None; cert = last })

-- that of six words: `check-cap RATE ISSUE RATES PRICES CERT`, or one of `ISSUE RATES PRICES HELD CERT`
abbrev pub command_of_six : List ℕ → List ℕ → List ℕ → List ℕ → List ℕ → List ℕ → Option Command
command_of_six word first second third fourth last =
    if pointwise nat_eq word (codes "check-cap")
    then option_map (λ cap. Ask (record { inquiry = inquiry.AtCap cap; names = record { issue = second; rates = third; prices = fourth; held = None; cert = last } })) (cap_of (rate_of first))
    else command_beside word (record { issue = first; rates = second; prices = third; held = Some fourth; cert = last })

-- the command that words are, by their places; None where they are none
abbrev pub command_of_words : List (List ℕ) → Option Command
command_of_words (word ∷ first ∷ second ∷ third ∷ last ∷ []) = command_of_five word first second third last
command_of_words (word ∷ first ∷ second ∷ third ∷ fourth ∷ last ∷ []) = command_of_six word first second third fourth last
command_of_words words = None

-- a command as it was read
abbrev pub command_view : CodeCommand → Command
command_view (code.Structure names) = Structure (names_view names)
command_view (code.Cap names) = Cap (names_view names)
command_view (code.Ask asking) = Ask (asking_view asking)
command_view (code.Make making) = Make (making_view making)
