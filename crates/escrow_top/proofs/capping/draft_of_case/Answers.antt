use Rattle.case_file.specs.Case.{case_view}
use Rattle.escrow_top.proofs.CappingLaws.{AreSearchLaws, cap_texts, capped_terms, is_uncapped}
use Rattle.escrow_top.proofs.capping.draft_of_case.Goals as goal

pub texts_of-requires-clause-terms : goal.texts_of-requires-clause-terms
texts_of-requires-clause-terms g c =
    let own = c.in-Found.greatest.escrow in
    let end = rw c.in-Found.is at c.in_ok-greatest.ensures.end in
    capped_terms c.cap_laws.ensures.one (case_view c.args.case.now) (case_view own.case) own.cap end.comes_to.escrow.at c.requires.terms

pub returns-in_ok-texts_of-in-Found-clause-draft : goal.returns-in_ok-texts_of-in-Found-clause-draft
returns-in_ok-texts_of-in-Found-clause-draft g c =
    let laws : AreSearchLaws = record { within = c.halving_laws.ensures.within; few = c.halving_laws.ensures.few; plain = c.settled_laws.ensures.settled; none = c.found_laws.ensures.none } in
    let texts = c.in_ok-texts_of-in-Found in
    let end = rw c.in-Found.is at c.in_ok-greatest.ensures.end in
    cap_texts laws (case_view c.args.case.now) end.top c.in-Found.greatest texts.field-0.cert.items texts.field-0.said.items c.line_count.ensures.limits c.requires.terms
    end.is_top end.comes_to texts.ensures.cert texts.ensures.said

pub returns-in_ok-uncapped-in-NoneFound-clause-draft : goal.returns-in_ok-uncapped-in-NoneFound-clause-draft
returns-in_ok-uncapped-in-NoneFound-clause-draft g c =
    let laws : AreSearchLaws = record { within = c.halving_laws.ensures.within; few = c.halving_laws.ensures.few; plain = c.settled_laws.ensures.settled; none = c.found_laws.ensures.none } in
    let said = c.in_ok-uncapped-in-NoneFound in
    let end = rw c.in-NoneFound.is at c.in_ok-greatest.ensures.end in
    is_uncapped laws c.cap_laws.ensures.one (case_view c.args.case.now) end.top c.in-NoneFound.zero said.field-0 c.line_count.ensures.limits c.requires.terms
    end.is_top end.comes_to said.ensures.answer
