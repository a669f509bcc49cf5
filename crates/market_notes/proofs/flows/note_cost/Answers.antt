use Rattle.std.proofs.Common.{◌≡◌, ◌∙◌, arith, ◌+◌}
use Rattle.market_notes.specs.NoteFlows.{accrued_interest}
use Rattle.market_notes.proofs.FlowFacts.{accrued-is, costs-price, costs-more}
use Rattle.market_notes.proofs.flows.note_cost.Goals as goal

pub returns-clause-value : goal.returns-clause-value
returns-clause-value c =
    let accrued : c.earned-accrued.result.0 ≡ accrued_interest c.args.note.now c.args.face.0 = c.earned-accrued.ensures.value
    ∙ accrued-is c.args.note.now c.args.face.0 c.accrual-accrual.result c.accrual-accrual.ensures.value in
    omega (arith, c.face_price.ensures.value, accrued)

pub returns-clause-on_coupon_date : goal.returns-clause-on_coupon_date
returns-clause-on_coupon_date c =
    costs-price c.args.note.now c.args.face.0 (c.face_price.result.0 + c.earned-accrued.result.0) c.accrual-accrual.ensures.half_year (returns-clause-value c)

pub returns-clause-more_face : goal.returns-clause-more_face
returns-clause-more_face c =
    λ more le. omega (arith, returns-clause-value c, costs-more c.args.note.now c.args.face.0 more c.accrual-accrual.ensures.half_year le)
