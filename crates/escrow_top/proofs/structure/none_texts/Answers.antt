use Rattle.std.proofs.Common.{length, inr, arith}
use Rattle.branch_search.proofs.FoundFacts.{none_found_are_accepted}
use Rattle.case_file.specs.Case.{case_view}
use Rattle.escrow_top.proofs.StructureLaws.{none_accepted}
use Rattle.escrow_top.proofs.structure.none_texts.Goals as goal

pub certificate_text-requires : goal.certificate_text-requires
certificate_text-requires c =
    let dates = length (case_view c.args.case.now).book.needs in
    (dates, omega (arith, c.requires.book.needs.few), c.requires.none.packable)

pub returns : goal.returns
returns c =
    let case = case_view c.args.case.now in
    let dates = length case.book.needs in
    let is = c.in_ok-cert.ensures dates c.requires.none.packable in
    record {
      nodes = c.args.nodes;
      none = c.requires.none;
      is_cert = is;
      is_said = c.in_ok-said.ensures;
      accepted = none_accepted case c.args.nodes c.in_ok-cert.cert.items none_found_are_accepted c.requires.book c.requires.terms c.requires.none (inr is);
    }
