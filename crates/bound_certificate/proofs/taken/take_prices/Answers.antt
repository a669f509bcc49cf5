use Rattle.std.proofs.Common.{◌≡◌, ◌∙◌, List, Option, ℕ, ap, length, option_map, subst, sym}
use denote.Ref.{Bor}
use Rattle.bound_certificate.specs.Grammar.{ArePlaces}
use Rattle.bound_certificate.proofs.ChangeFacts.{base-length, changed-length}
use Rattle.bound_certificate.proofs.taken.take_prices.Goals as goal

pub rises_near-requires : goal.rises_near-requires
rises_near-requires c =
    let vector : Option (List ℕ) = option_map (λ (v : Bor (List ℕ)). v.now) c.args.vector in
    let long : length c.as_slice.result.now ≡ c.args.dates =
    ap length c.as_slice.ensures ∙ ap length c.put_prices.ensures ∙ changed-length c.args.dates c.args.changes.now vector (base-length c.args.dates vector c.requires.vector) in
    subst (λ (last : ℕ). ArePlaces last c.args.changes.now) (sym long) c.requires.places

pub returns-then-rises_near-clause-dates : goal.returns-then-rises_near-clause-dates
returns-then-rises_near-clause-dates c =
    let vector : Option (List ℕ) = option_map (λ (v : Bor (List ℕ)). v.now) c.args.vector in
    ap length c.put_prices.ensures ∙ changed-length c.args.dates c.args.changes.now vector (base-length c.args.dates vector c.requires.vector)

pub returns-clause-dates : goal.returns-clause-dates
returns-clause-dates c =
    let vector : Option (List ℕ) = option_map (λ (v : Bor (List ℕ)). v.now) c.args.vector in
    ap length c.put_prices.ensures ∙ changed-length c.args.dates c.args.changes.now vector (base-length c.args.dates vector c.requires.vector)
