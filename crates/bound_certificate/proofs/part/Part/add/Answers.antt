use Rattle.std.proofs.Common.{◌≡◌, ◌∙◌, ◌++◌, ◌||◌, ◌-◌, nat_lt, Bool, List, ℕ, length, take, sym, ap, arith}
use Rattle.std.proofs.lemmas.List.{length-take-le}
use Rattle.bound_certificate.specs.Kept.{Kept}
use Rattle.bound_certificate.specs.declared.limits.TheConstants.{LINE_ROOM}
use Rattle.bound_certificate.proofs.PartFacts.{kept-more}
use Rattle.bound_certificate.proofs.part.Part.add.Goals as goal

pub returns : goal.returns
returns c = λ before is.
    let head : c.args.self.now.head ≡ take c.self.inside.size c.self.inside.room.items = sym (ap (λ (k : Kept). k.head) c.self.view_is) in
    let size : length c.args.self.now.head ≡ c.self.inside.size = ap length head ∙ length-take-le c.self.inside.size c.self.inside.room.items (omega arith) in
    kept-more before c.args.bytes.now c.args.self.now _ (LINE_ROOM - c.self.inside.size) is
    (omega (arith, size))
    (c.put_at.ensures.value ∙ ap (λ (bs : List ℕ). bs ++ c.front_of-fitting.result.now) (sym head) ∙ ap (λ (bs : List ℕ). c.args.self.now.head ++ bs) c.front_of-fitting.ensures)
    (c.is_longer-long.ensures ∙ ap (λ (b : Bool). b || nat_lt (LINE_ROOM - c.self.inside.size) (length c.args.bytes.now)) (ap (λ (k : Kept). k.long) c.self.view_is))
    (c.seen_more-self-inside.ensures before is)
