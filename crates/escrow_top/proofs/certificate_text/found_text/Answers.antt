use Rattle.std.proofs.Common.{length, inr, arith}
use Rattle.branch_search.proofs.FoundFacts.{found_are_accepted}
use Rattle.branch_search.specs.Purchases.{certificate_of}
use Rattle.case_file.specs.Case.{case_view}
use Rattle.escrow_top.proofs.StructureLaws.{text_accepted}
use Rattle.escrow_top.proofs.certificate_text.found_text.Goals as goal

pub certificate_text-requires : goal.certificate_text-requires
certificate_text-requires c =
    let case = case_view c.args.case.now in
    let cert = certificate_of c.args.found.plan c.args.found.tree c.args.found.gap in
    rw c.in_ok-certificate.ensures
    (length case.book.needs, omega (arith, c.requires.book.needs.few), c.requires.found.packable)

pub returns : goal.returns
returns c =
    let case = case_view c.args.case.now in
    let cert = certificate_of c.args.found.plan c.args.found.tree c.args.found.gap in
    let writes = rw c.in_ok-certificate.ensures at c.in_ok-text.ensures in
    let is = writes (length case.book.needs) c.requires.found.packable in
    record {
      is_text = is;
      accepted = text_accepted case c.args.found.plan c.args.found.tree c.args.found.gap c.in_ok-text.text.items
          found_are_accepted c.requires.book c.requires.terms c.requires.found (inr is);
    }
