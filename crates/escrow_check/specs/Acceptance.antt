-- When a certificate is accepted for a case. The form of the proof that a tree gives is this project's own.
use Rattle.std.specs.Prelude.{◌≡◌, ℕ, ◌+◌, Bool, not, ◌&&◌, nat_lt, List, length, replicate, slice_index_or, slice_set, Option, Some, None, option_map, pos, ◌-ℤ◌}
use Rattle.std.specs.Bool.{then_some}
use Rattle.std.specs.List.{find, fold, position}
use Rattle.std.specs.Option.{option_or}
use Rattle.bound_certificate.specs.declared.certificate.Buy.{Buy}
use Rattle.bound_certificate.specs.declared.certificate.Certificate.{Certificate}
use Rattle.bound_certificate.specs.Versions.{IsCertificateText, certificate_fault}
use Rattle.case_file.specs.Case.{CaseContents}
use Rattle.cash_table.specs.First.{first_short_of}
use Rattle.cash_table.specs.Points.{is_within_limit, plan_yield}
use Rattle.offer_book.specs.Book.{BookContents}
use Rattle.offer_book.specs.CaseBook.{cash_line}
use Rattle.offer_book.specs.Portfolio.{cost, permits}
use Rattle.offer_book.specs.declared.line.Line.{Line}
use Rattle.escrow_check.specs.declared.verdict.Reason.{Reason}
use Rattle.escrow_check.specs.declared.verdict.Reason.TheVariants as reason
use Rattle.escrow_check.specs.declared.verdict.Portfolio.{Portfolio}
use Rattle.escrow_check.specs.declared.verdict.Verdict.{Verdict}
use Rattle.escrow_check.specs.declared.verdict.Verdict.TheVariants as verdict
use Rattle.node_ranges.specs.Claims.{Claim, is_bad_split, placed_nodes}
use Rattle.dual_bound.specs.Closing.{is_weak}

-- ---- the portfolio
-- a purchase names a line of the book, and its units are permitted
abbrev pub is_offered : List Line → Buy → Bool
is_offered lines buy = nat_lt buy.line (length lines) && permits (slice_index_or lines buy.line (cash_line 0)) buy.units

-- the first purchase that isn't offered
abbrev pub first_not_offered : List Line → List Buy → Option Buy
first_not_offered lines buys = find (λ buy. not (is_offered lines buy)) buys

-- the plan of purchases over a book: 0 units of each line, but for those that are bought
abbrev pub plan_of : BookContents → List Buy → List ℕ
plan_of book buys = fold (λ plan buy. slice_set plan buy.line buy.units) (replicate (length book.lines) 0) buys

-- why purchases aren't accepted: one isn't offered; they leave a day short; or their yield isn't within the limit
abbrev pub portfolio_reason : CaseContents → List Buy → Option Reason
portfolio_reason case buys =
    option_or (option_map (λ buy. reason.NotPermitted buy.line) (first_not_offered case.book.lines buys))
    (option_or (option_map reason.ShortOn (first_short_of case.book (plan_of case.book buys)))
    (then_some (not (is_within_limit case.limit case.book (plan_of case.book buys))) reason.YieldAbove))

-- ---- the tree
-- a portfolio claims that no rival costs less than its cost less the gap
abbrev pub claim_of : BookContents → Certificate → Claim
claim_of book cert = option_map (λ buys. pos (cost book (plan_of book buys)) -ℤ pos cert.gap) cert.buys

-- nodes count from 1
abbrev pub numbered : Option ℕ → Option ℕ
numbered place = option_map (λ before. before + 1) place

-- why a tree isn't accepted: its first bad split, or else its first weak node
abbrev pub tree_reason : CaseContents → Certificate → Option Reason
tree_reason case cert =
    option_or (option_map reason.BadSplit (numbered (position is_bad_split (placed_nodes case.book cert.nodes))))
    (option_map reason.WeakLeaf (numbered (position (is_weak case (claim_of case.book cert)) (placed_nodes case.book cert.nodes))))

-- ---- the whole
-- the reasons of a portfolio, in their order: its own, those of the tree, and a gap over what the issue allows. Without a portfolio
-- there are those of the tree alone
abbrev pub reason_by : CaseContents → Certificate → Option (List Buy) → Option Reason
reason_by case cert None = tree_reason case cert
reason_by case cert (Some buys) =
    option_or (portfolio_reason case buys) (option_or (tree_reason case cert) (then_some (nat_lt case.allowance cert.gap) reason.GapAbove))

-- why a certificate isn't accepted: the first reason that stands
abbrev pub reason_of : CaseContents → Certificate → Option Reason
reason_of case cert = reason_by case cert cert.buys

-- the portfolio that a certificate buys
abbrev pub portfolio_of : CaseContents → List Buy → ℕ → Portfolio
portfolio_of case buys gap = record {
  plan = plan_of case.book buys;
  cost = record { 0 = cost case.book (plan_of case.book buys) };
  answer = plan_yield case.book (plan_of case.book buys);
  gap = record { 0 = gap };
}

-- yes, with the portfolio where there is one
abbrev pub yes_of : CaseContents → Option (List Buy) → ℕ → Verdict
yes_of case None gap = verdict.YesNone
yes_of case (Some buys) gap = verdict.Yes (portfolio_of case buys gap)

-- no for the reason that stands, or else yes
abbrev pub verdict_by : CaseContents → Certificate → Option Reason → Verdict
verdict_by case cert None = yes_of case cert.buys cert.gap
verdict_by case cert (Some why) = verdict.No why

-- the verdict on a certificate
unfoldable pub judged : CaseContents → Certificate → Verdict
judged case cert = verdict_by case cert (reason_of case cert)

-- the verdict on bytes: the first fault of a text that isn't that of a certificate; and else that on the certificate whose text
-- they are
abbrev pub IsVerdict : CaseContents → List ℕ → Verdict → Type 0
IsVerdict case bytes (verdict.No (reason.Grammar fault)) = certificate_fault (length case.book.needs) bytes ≡ Some fault
IsVerdict case bytes told = (cert : Certificate) × IsCertificateText (length case.book.needs) cert bytes × (told ≡ judged case cert)
