use Rattle.bound_certificate.proofs.ChangeFacts.{places-rising}
use Rattle.bound_certificate.proofs.face_write.unpacked_prices.Goals as goal

pub stairs-requires-clause-rising : goal.stairs-requires-clause-rising
stairs-requires-clause-rising c = places-rising c.args.changes.now c.requires.rising
