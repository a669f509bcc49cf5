use Rattle.std.proofs.Common.{◌∙◌, if◌then◌else◌, Bool, List, ℕ, ap}
use Rattle.bound_certificate.specs.declared.seen.Seen.{Seen}
use Rattle.bound_certificate.specs.Kept.{Kept}
use Rattle.bound_certificate.specs.LongLine.{seen_of}
use Rattle.bound_certificate.proofs.PartFacts.{more-seen}
use Rattle.bound_certificate.proofs.part.Part.seen_more.Goals as goal

pub returns : goal.returns
returns c before is long =
    c.with_all.ensures
    ∙ more-seen before c.args.bytes.now c.args.self.now c.seen_before.result is
    (c.seen_before.ensures
    ∙ ap (λ (bs : List ℕ). if c.self.inside.long then c.self.inside.seen else seen_of bs) c.head-head.ensures
    ∙ ap (λ (b : Bool). if b then c.self.inside.seen else seen_of c.args.self.now.head) (ap (λ (k : Kept). k.long) c.self.view_is)
    ∙ ap (λ (s : Seen). if c.args.self.now.long then s else seen_of c.args.self.now.head) (ap (λ (k : Kept). k.seen) c.self.view_is))
