use Rattle.std.proofs.Common.{rules, ◌≡◌, ◌≤◌, ◌<◌, ◌∙◌, Err, length, take, refl, subst, ap, arith}
use Rattle.bound_certificate.specs.declared.limits.TheConstants.{MOST_DATES}
use Rattle.escrow_desk.specs.declared.limits.TheConstants.{CERTIFICATE_LIMIT}
use Rattle.case_file.specs.Case.{case_view}
use Rattle.escrow_desk.specs.Content.{Given}
use Rattle.certificate_answers.proofs.HearingFacts.{heard-long, heard-right, heard-whole, out-of-memory, read-more, read-nothing}
use Rattle.certificate_answers.proofs.hearing.hear.Goals as goal

pub pieces-init : goal.pieces-init
pieces-init g c = record {
  so_far =
      read-nothing (g.D.Desk.told c.args.desk.now) c.args.name.now (case_view c.args.case.now) c.in_ok-checker.checker
      c.in_ok-checker.ensures.heard c.in_ok-checker.ensures.case;
  told = refl;
  room = search rules;
  counts = refl;
}

pub returns-in-Ok-eq0-clause-heard : goal.returns-in-Ok-eq0-clause-heard
returns-in-Ok-eq0-clause-heard g c =
    let few_dates = c.requires.book.needs.few in
    let few : length c.args.case.now.book.needs ≤ MOST_DATES = omega (arith, few_dates) in
    let short : c.pieces.read ≤ CERTIFICATE_LIMIT = search rules in
    let some : 0 < length (take c.room_after-most.result c.pieces.piece) = search rules in
    let zero : c.in-Ok-eq0.field-0 ≡ 0 = search rules in
    let given_count : Given (g.D.Desk.told c.args.desk.now) c.args.name.now c.pieces.read (take c.room_after-most.result c.pieces.piece) c.in-Ok-eq0.field-0 c.read.new.into =
    rw c.pieces.invariant.told at c.in-Ok-eq0.ensures.given in
    let given : Given (g.D.Desk.told c.args.desk.now) c.args.name.now c.pieces.read (take c.room_after-most.result c.pieces.piece) 0 c.read.new.into =
    subst (λ n. Given (g.D.Desk.told c.args.desk.now) c.args.name.now c.pieces.read (take c.room_after-most.result c.pieces.piece) n c.read.new.into) zero given_count in
    heard-whole (g.D.Desk.told c.args.desk.now) c.args.name.now (take c.room_after-most.result c.pieces.piece) c.read.new.into (case_view c.args.case.now) c.pieces.checker c.pieces.read
    c.in_ok-finish-in-Ok-eq0.field-0 few c.pieces.invariant.so_far short given some c.in_ok-finish-in-Ok-eq0.ensures.verdict

pub returns-in-Ok-eq0-clause-right : goal.returns-in-Ok-eq0-clause-right
returns-in-Ok-eq0-clause-right g c =
    heard-right (g.D.Desk.told c.args.desk.now) c.args.name.now (case_view c.args.case.now) c.pieces.checker c.pieces.read
    c.in_ok-finish-in-Ok-eq0.field-0 (c.requires.book, c.requires.terms) c.pieces.invariant.so_far c.in_ok-finish-in-Ok-eq0.ensures.verdict

pub returns-in_err-feed-in-Ok-clause-counts : goal.returns-in_err-feed-in-Ok-clause-counts
returns-in_err-feed-in-Ok-clause-counts g c =
    let same : g.D.Desk.counts c.read.new.self ≡ g.D.Desk.counts c.args.desk.now = c.in-Ok.ensures.counts ∙ c.pieces.invariant.counts in
    rw same (out-of-memory c.from_residual-in_err-feed-in-Ok.result (g.D.Desk.counts c.args.desk.now) c.from_residual-in_err-feed-in-Ok.ensures.1)

pub pieces-preserved : goal.pieces-preserved
pieces-preserved g c =
    let given : Given (g.D.Desk.told c.args.desk.now) c.args.name.now c.pieces.read (take c.room_after-most.result c.pieces.piece) c.in-Ok.count c.read.new.into =
    rw c.pieces.invariant.told at c.in-Ok.ensures.given in
    record {
      so_far =
          read-more (g.D.Desk.told c.args.desk.now) c.args.name.now (case_view c.args.case.now) c.pieces.checker c.feed.new.self c.pieces.read c.in-Ok.count c.room_after-most.result c.pieces.piece c.read.new.into
          c.pieces.invariant.so_far given c.in-Ok.ensures.count c.feed.ensures.heard c.feed.ensures.case;
      told = c.read.ensures.told ∙ c.pieces.invariant.told;
      room = search rules;
      counts = c.in-Ok.ensures.counts ∙ c.pieces.invariant.counts;
    }

pub returns-clause-heard : goal.returns-clause-heard
returns-clause-heard g c =
    let long : CERTIFICATE_LIMIT < c.pieces.read = search rules in
    heard-long (g.D.Desk.told c.args.desk.now) c.args.name.now (case_view c.args.case.now) c.pieces.checker c.pieces.read c.pieces.invariant.so_far long

pub returns-in-Err-NoFile-clause-absent : goal.returns-in-Err-NoFile-clause-absent
returns-in-Err-NoFile-clause-absent g c = λ stopped. rw c.pieces.invariant.told at (c.in-Err-NoFile.ensures.absent (ap (λ fault. Err fault) c.in-Err-NoFile.field-0-is))
