use Rattle.cap_finder.proofs.ProgressFacts.{found-kept}
use Rattle.cap_finder.proofs.ToldFacts.{found-more}
use Rattle.cap_finder.proofs.progress.Progress.tell_found.Goals as goal

pub returns-clause-progress : goal.returns-clause-progress
returns-clause-progress c = λ case was own. found-kept case c.args.self.now c.tell.new.self c.args.escrow (c.tell.ensures c.args.escrow.cap c.requires.next) c.requires was own

pub returns-clause-told : goal.returns-clause-told
returns-clause-told c = found-more c.args.self.now.search c.tell.new.self c.args.escrow.cap (c.tell.ensures c.args.escrow.cap c.requires.next)
