use Rattle.std.proofs.Common.{◌≡◌, ◌∙◌, Bool, true, ◌==◌, List, ℕ, [], ◌++◌, length, take, sym, ap, arith, append_assoc}
use Rattle.std.proofs.lemmas.List.{append-nil, nil_from_length}
use Rattle.std.proofs.lemmas.Result.{err_from_is_err_and}
use Rattle.case_file.specs.Case.{CaseContents, case_view}
use Rattle.escrow_check.specs.Heard.{HasHeard, cert_in}
use Rattle.escrow_check.proofs.HearFacts.{gap-ends, heard-as, heard-comes, heard-fault, heard-more, rest-drop, rest-few, still-before}
use Rattle.escrow_check.proofs.hearing.Hearing.feed.Goals as goal

-- nothing of the piece is left
all_came : (front rest piece : List ℕ) (empty : Bool) → empty ≡ (length rest == 0) → empty ≡ true → front ++ rest ≡ piece → front ≡ piece
all_came front rest piece empty is none parts =
    let nil : rest ≡ [] = nil_from_length rest (grind (arith, is, none)) in
    sym (append-nil front) ∙ ap (λ (bs : List ℕ). front ++ bs) (sym nil) ∙ parts

pub returns-in_default-clause-heard : goal.returns-in_default-clause-heard
returns-in_default-clause-heard c = λ bytes heard.
    (let case : CaseContents = case_view c.args.case.now in
    let i = c.loop-rest.invariant in
    heard-as case (record { reader = c.feed.new.self; trial = c.loop-rest.self.trial }) ((bytes ++ i.front) ++ c.loop-rest.rest.now) (bytes ++ c.args.piece.now)
    (append_assoc bytes i.front c.loop-rest.rest.now ∙ ap (λ (bs : List ℕ). bytes ++ bs) i.bytes)
    (heard-fault case c.loop-rest.self (bytes ++ i.front) c.loop-rest.rest.now c.feed.new.self c.in_default.field-0
    (c.in_default.ensures.err (length case.book.needs) (bytes ++ i.front) (i.heard bytes heard).read)))

pub take-requires-clause-comes : goal.take-requires-clause-comes
take-requires-clause-comes c =
    let case : CaseContents = case_view c.args.case.now in
    let bytes : List ℕ = c.requires.heard.0 ++ c.loop-rest.invariant.front in
    let heard : HasHeard case c.loop-rest.self bytes = c.loop-rest.invariant.heard c.requires.heard.0 c.requires.heard.1 in (
      cert_in case bytes,
      _,
      heard-comes case c.loop-rest.self bytes c.loop-rest.rest.now c.in-Ok.fed c.feed.new.self c.leaf.result.now heard c.in-Ok.ensures.going
          (c.in-Ok.ensures.ok (length case.book.needs) bytes heard.read) c.leaf.ensures,
    )

pub loop-rest-preserved : goal.loop-rest-preserved
loop-rest-preserved c =
    let case : CaseContents = case_view c.args.case.now in
    let i = c.loop-rest.invariant in
    let used : ℕ = c.in-Ok.fed.used in
    record {
      front = i.front ++ take used c.loop-rest.rest.now;
      bytes = rest-drop i.front c.loop-rest.rest.now c.args.piece.now used (length c.loop-rest.rest.now) (omega arith) i.bytes;
      few = rest-few c.loop-rest.rest.now used (length c.loop-rest.rest.now) i.few;
      before = λ e. i.before (still-before (length case.book.needs) (c.requires.heard.0 ++ i.front) c.loop-rest.rest.now c.in-Ok.fed c.loop-rest.self.reader c.feed.new.self
          (c.in-Ok.ensures.ok (length case.book.needs) (c.requires.heard.0 ++ i.front) (i.heard c.requires.heard.0 c.requires.heard.1).read) e);
      heard = λ bytes heard.
          heard-as case (record { reader = c.feed.new.self; trial = c.take.new.self }) ((bytes ++ i.front) ++ take used c.loop-rest.rest.now) (bytes ++ (i.front ++ take used c.loop-rest.rest.now))
          (append_assoc bytes i.front (take used c.loop-rest.rest.now))
          (heard-more case c.loop-rest.self (bytes ++ i.front) c.loop-rest.rest.now c.in-Ok.fed c.feed.new.self c.leaf.result.now c.take.new.self (i.heard bytes heard)
          c.in-Ok.ensures.going (c.in-Ok.ensures.ok (length case.book.needs) (bytes ++ i.front) (i.heard bytes heard).read) c.leaf.ensures c.in_ok-take.ensures.knows);
    }

pub returns-clause-heard : goal.returns-clause-heard
returns-clause-heard c = λ bytes heard.
    (let case : CaseContents = case_view c.args.case.now in
    let i = c.loop-rest.invariant in
    heard-as case c.loop-rest.self (bytes ++ i.front) (bytes ++ c.args.piece.now)
    (ap (λ (bs : List ℕ). bytes ++ bs) (all_came i.front c.loop-rest.rest.now c.args.piece.now c.is_empty.result
    c.is_empty.ensures c.loop-rest-test.false i.bytes)) (i.heard bytes heard))

pub returns-in_err-take-clause-err : goal.returns-in_err-take-clause-err
returns-in_err-take-clause-err c =
    let case : CaseContents = case_view c.args.case.now in
    let i = c.loop-rest.invariant in
    let bytes : List ℕ = c.requires.heard.0 ++ i.front in
    let gap = gap-ends (length case.book.needs) bytes c.loop-rest.rest.now c.in-Ok.fed c.loop-rest.self.reader c.feed.new.self c.in_err-take.ensures.err.0
    (c.in-Ok.ensures.ok (length case.book.needs) bytes (i.heard c.requires.heard.0 c.requires.heard.1).read) c.in_err-take.ensures.err.1 in
    let p = err_from_is_err_and c.from_residual.result c.from_residual.ensures.1 in
    rw p.1 (record { before = i.before gap.0; behind = gap.1 })
