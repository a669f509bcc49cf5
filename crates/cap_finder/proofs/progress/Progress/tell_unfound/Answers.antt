use Rattle.cap_finder.proofs.ProgressFacts.{unfound-kept}
use Rattle.cap_finder.proofs.ToldFacts.{not_found-more}
use Rattle.cap_finder.proofs.progress.Progress.tell_unfound.Goals as goal

pub returns-clause-progress : goal.returns-clause-progress
returns-clause-progress c = λ case was own. unfound-kept case c.args.self.now c.tell.new.self c.args.unfound (c.tell.ensures c.args.unfound.cap c.requires.next) c.requires was own

pub returns-clause-told : goal.returns-clause-told
returns-clause-told c = not_found-more c.args.self.now.search c.tell.new.self c.args.unfound.cap (c.tell.ensures c.args.unfound.cap c.requires.next)
