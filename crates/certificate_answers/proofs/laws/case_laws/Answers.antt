use Rattle.certificate_answers.proofs.CaseLaws.{gives_book, works_out}
use Rattle.certificate_answers.proofs.SaidIssueLaws.{issues-said}
use Rattle.certificate_answers.proofs.SaidPriceLaws.{note_files-said}
use Rattle.certificate_answers.proofs.SaidRateLaws.{rate_files-said}
use Rattle.certificate_answers.proofs.laws.case_laws.Goals as goal

pub returns-clause-issues : goal.returns-clause-issues
returns-clause-issues c = issues-said

pub returns-clause-rates : goal.returns-clause-rates
returns-clause-rates c = rate_files-said

pub returns-clause-notes : goal.returns-clause-notes
returns-clause-notes c = note_files-said

pub returns-clause-worked_out : goal.returns-clause-worked_out
returns-clause-worked_out c = works_out

pub returns-clause-limits : goal.returns-clause-limits
returns-clause-limits c = gives_book
