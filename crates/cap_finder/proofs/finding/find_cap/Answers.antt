use Rattle.std.proofs.Common.{◌≡◌, refl, sym, subst, Option, Some, None}
use Rattle.case_file.specs.Case.{case_view}
use Rattle.escrow_units.specs.declared.amount.Rate.{Rate}
use Rattle.rate_cap.specs.CaseAt.{IsTopOf, slgs_rates}
use Rattle.cap_finder.proofs.ProgressFacts.{plain-ends}
use Rattle.cap_finder.proofs.finding.find_cap.Goals as goal

none-by : (cap : Option Rate) → ((other : Rate) → cap ≡ Some other → ⊥) → cap ≡ None
none-by None other = refl
none-by (Some cap) other = absurd (other cap refl)

some-not_none : (cap : Rate) → Some cap ≡ None → ⊥
some-not_none cap same = cc

pub loop-cap-init : goal.loop-cap-init
loop-cap-init g c = record {
  progress = c.start-progress.ensures.progress (case_view c.args.case.now);
  top = subst (IsTopOf (slgs_rates c.args.case.now.book.lines)) (sym c.start-progress.ensures.top) c.top_rate.ensures.top;
}

pub try_cap-requires-clause-asked : goal.try_cap-requires-clause-asked
try_cap-requires-clause-asked g c = record {
  kept = c.in-Some.ensures.kept;
  unsettled = λ settled. some-not_none c.in-Some.cap (c.in-Some.ensures.settled.1 settled);
  up_to = c.in-Some.ensures.cap;
  next = c.in-Some.ensures.next;
}

pub end-requires-clause-settled : goal.end-requires-clause-settled
end-requires-clause-settled g c = c.ask.ensures.settled.0 (none-by c.ask.result c.in_default.not-Some)

pub returns-clause-plain : goal.returns-clause-plain
returns-clause-plain g c =
    plain-ends c.cap_laws.ensures.one c.settled_laws.ensures.settled (case_view c.args.case.now) c.end.result c.line_count.ensures.limits c.requires.terms c.end.ensures
