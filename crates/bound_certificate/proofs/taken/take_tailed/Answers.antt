use Rattle.std.proofs.Common.{◌∙◌, List, Ok, ap, refl, sym}
use Rattle.proof_tree.specs.declared.weights.SumWeight.{SumWeight}
use Rattle.bound_certificate.specs.declared.weighing.Weighing.TheVariants as weighing
use Rattle.bound_certificate.proofs.TailedFacts.{ok-of, tailed-given, tailed-item, tailed-numbers}
use Rattle.bound_certificate.proofs.taken.take_tailed.Goals as goal

pub returns-in-Ok-Ok-clause-item : goal.returns-in-Ok-Ok-clause-item
returns-in-Ok-Ok-clause-item c =
    tailed-item c.args.dates c.args.vectors.now c.take_row-front.new.vectors c.args.may c.cut_tail-cut.result.front.now c.take_row-front.new.leaf c.in-Ok-Ok.item
    (ok-of c.take_row-front.result c.in-Ok-Ok.item _ c.in-Ok-Ok.is-0 c.take_row-front.ensures.ok)

pub returns-in-Ok-Ok-clause-ok : goal.returns-in-Ok-Ok-clause-ok
returns-in-Ok-Ok-clause-ok c =
    tailed-given c.args.dates c.args.vectors.now c.take_row-front.new.vectors c.args.may c.args.line.now c.cut_tail-cut.result.front.now c.cut_tail-cut.result.rest
    c.take_row-front.new.leaf c.weigh_sums.new.self c.in-Ok-Ok.item c.cut_tail-cut.ensures
    (ok-of c.take_row-front.result c.in-Ok-Ok.item _ c.in-Ok-Ok.is-0 c.take_row-front.ensures.ok)
    (record {
      weights = c.as_slice.result.now;
      is = ok-of c.take_tail-tail.result c.in-Ok-Ok.field-0-1 _ c.in-Ok-Ok.is-1 c.take_tail-tail.ensures.ok
          ∙ ap (λ (ws : List SumWeight). Ok ws) (sym c.as_slice.ensures.value);
      leaf_is = c.weigh_sums.ensures;
    })

pub returns-in-Ok-Ok-clause-numbers : goal.returns-in-Ok-Ok-clause-numbers
returns-in-Ok-Ok-clause-numbers c =
    tailed-numbers c.args.dates c.args.vectors.now c.take_row-front.new.vectors c.args.may c.args.line.now c.cut_tail-cut.result.front.now c.cut_tail-cut.result.rest
    c.take_row-front.new.leaf c.weigh_sums.new.self c.in-Ok-Ok.item c.take_row-front.new.numbers.items c.cut_tail-cut.ensures
    (ok-of c.take_row-front.result c.in-Ok-Ok.item _ c.in-Ok-Ok.is-0 c.take_row-front.ensures.ok)
    (ok-of c.take_row-front.result c.in-Ok-Ok.item _ c.in-Ok-Ok.is-0 (c.take_row-front.ensures.numbers weighing.Number refl))
    (record {
      weights = c.as_slice.result.now;
      is = ok-of c.take_tail-tail.result c.in-Ok-Ok.field-0-1 _ c.in-Ok-Ok.is-1 c.take_tail-tail.ensures.ok
          ∙ ap (λ (ws : List SumWeight). Ok ws) (sym c.as_slice.ensures.value);
      leaf_is = c.weigh_sums.ensures;
    })
