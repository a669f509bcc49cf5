use Rattle.escrow_units.proofs.DateFacts.{date_of-stands}
use Rattle.escrow_units.proofs.DayFacts.{date_of-number}
use Rattle.escrow_units.proofs.TextFacts.{day_of-text, text-day_of}
use Rattle.escrow_units.proofs.calendar_laws.date_laws.Goals as goal

pub returns-clause-dated : goal.returns-clause-dated
returns-clause-dated c = λ n h. let s = date_of-stands n h in record { civil = s.0; number = s.1 }

pub returns-clause-unique : goal.returns-clause-unique
returns-clause-unique c = λ n date h of. date_of-number n date h of.civil of.number

pub returns-clause-texts : goal.returns-clause-texts
returns-clause-texts c = λ bytes n. (text-day_of bytes n, λ h. rw h.1 (day_of-text n h.0))
