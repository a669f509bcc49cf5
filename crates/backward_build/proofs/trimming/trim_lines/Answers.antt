use Rattle.std.proofs.Common.{◌≡◌, ◌<◌, ◌∙◌, length, get_or, ap, subst, sym, inl, inr, pos, arith}
use Rattle.std.proofs.lemmas.Bool.{cases_lt}
use Rattle.std.proofs.lemmas.List.{get_or_default}
use Rattle.backward_build.specs.Trim.{IsFewest}
use Rattle.backward_build.specs.declared.order.Candidate.{Candidate}
use Rattle.backward_build.proofs.TrimFacts.{still_fewest}
use Rattle.backward_build.proofs.trimming.trim_lines.Goals as goal

abbrev first : Candidate
first = record { saving = pos 0; line = 0 }

pub loop-candidate-preserved : goal.loop-candidate-preserved
loop-candidate-preserved c = record {
  permitted = c.trim_line.ensures.permitted;
  spare = c.trim_line.ensures.spare;
  no_more = λ k. omega (arith, c.trim_line.ensures.no_more k, c.loop-candidate.invariant.no_more k);
  fewest = λ k d below. elim (cases_lt k c.loop-candidate.candidate-index) [
    | inl less ↦ still_fewest c.args.book.now c.trim_line.new.plan c.loop-candidate.plan (get_or c.args.order.now k d).line
        (c.requires.lines k d (omega arith)) c.trim_line.ensures.permitted.same_length c.loop-candidate.invariant.permitted.same_length
        c.trim_line.ensures.no_more (c.loop-candidate.invariant.fewest k d less)
    | inr more ↦ (let here : k ≡ c.loop-candidate.candidate-index = omega arith in
        let within : k < length c.args.order.now = omega arith in
        let at : get_or c.args.order.now k d ≡ get_or c.args.order.now c.loop-candidate.candidate-index first = ap (λ n. get_or c.args.order.now n d) here ∙ get_or_default c.args.order.now c.loop-candidate.candidate-index d first (omega arith) in
        subst (λ (candidate : Candidate). IsFewest c.args.book.now c.trim_line.new.plan candidate.line) (sym at) c.trim_line.ensures.fewest)
  ];
}

pub returns-clause-fewest : goal.returns-clause-fewest
returns-clause-fewest c = λ k d within. c.loop-candidate.invariant.fewest k d (omega (arith, within))
