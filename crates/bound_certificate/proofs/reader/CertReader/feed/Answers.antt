use Rattle.std.proofs.Common.{ℕ, List, refl, sym, arith}
use Rattle.std.proofs.lemmas.Result.{err_from_is_err_and}
use Rattle.bound_certificate.specs.TextReading.{HasRead, ReadsFault}
use Rattle.bound_certificate.proofs.ReadFacts.{Piece, line-fault, line-read, no-fault, over-err, over-ok, part-read, piece-of, piece-size, piece-whole}
use Rattle.bound_certificate.proofs.TakeFacts.{all-taken, line-taken, over-taken}
use Rattle.bound_certificate.proofs.reader.CertReader.feed.Goals as goal

pub returns-then-is_over-clause-err : goal.returns-then-is_over-clause-err
returns-then-is_over-clause-err c =
    over-err c.args.piece.now c.args.self.now c.self.inside.reading c.feed_over.new.self c.feed_over.result c.self.view_is
    (no-fault c.self.inside.reading.fault c.in_default.not-Some) (sym c.if-is_over.ensures) c.feed_over.ensures.err

pub returns-then-is_over-clause-ok : goal.returns-then-is_over-clause-ok
returns-then-is_over-clause-ok c =
    over-ok c.args.piece.now c.args.self.now c.self.inside.reading c.feed_over.new.self c.feed_over.result c.self.view_is
    (no-fault c.self.inside.reading.fault c.in_default.not-Some) c.feed_over.ensures.ok

pub returns-then-is_over-clause-takes : goal.returns-then-is_over-clause-takes
returns-then-is_over-clause-takes c = over-taken c.args.piece.now c.self.inside.reading c.feed_over.new.self c.feed_over.result c.feed_over.ensures.ok

pub returns-then-is_none-clause-takes : goal.returns-then-is_none-clause-takes
returns-then-is_none-clause-takes c =
    all-taken c.args.piece.now c.nothing.result
    (piece-whole c.args.piece.now c.cut_line-cut.result.front.now c.cut_line-cut.result.rest c.cut_line-cut.ensures c.if-is_none.ensures)
    c.nothing.ensures.used c.nothing.ensures.item

pub returns-then-is_none-clause-ok : goal.returns-then-is_none-clause-ok
returns-then-is_none-clause-ok c =
    part-read c.args.piece.now c.nothing.result c.args.self.now c.self.inside.reading c.add.new.self c.self.view_is
    (no-fault c.self.inside.reading.fault c.in_default.not-Some) (sym c.if-is_over.ensures)
    (piece-whole c.args.piece.now c.cut_line-cut.result.front.now c.cut_line-cut.result.rest c.cut_line-cut.ensures c.if-is_none.ensures)
    c.nothing.ensures.used c.nothing.ensures.item c.add.ensures

pub end_line-requires-clause-front : goal.end_line-requires-clause-front
end_line-requires-clause-front c =
    let cut : Piece c.args.piece.now c.cut_line-cut.result.front.now =
    piece-of c.args.piece.now c.cut_line-cut.result.front.now c.cut_line-cut.result.rest c.cut_line-cut.ensures c.if-is_none.ensures in
    omega (arith, c.requires, piece-size c.args.piece.now c.cut_line-cut.result.front.now cut)

pub returns-in_err-item-clause-err : goal.returns-in_err-item-clause-err
returns-in_err-item-clause-err c =
    let cut : Piece c.args.piece.now c.cut_line-cut.result.front.now =
    piece-of c.args.piece.now c.cut_line-cut.result.front.now c.cut_line-cut.result.rest c.cut_line-cut.ensures c.if-is_none.ensures in
    let given : (dates : ℕ) (bytes : List ℕ) → HasRead dates bytes c.args.self.now → ReadsFault dates bytes c.args.piece.now c.in_err-item.field-0.0 c.end_line.new.self =
    line-fault c.args.piece.now c.cut_line-cut.result.front.now c.in_err-item.field-0.0 c.args.self.now c.self.inside.reading c.end_line.new.self c.self.view_is
    (no-fault c.self.inside.reading.fault c.in_default.not-Some) cut c.in_err-item.ensures.err in
    let p = err_from_is_err_and c.from_residual.result c.from_residual.ensures.1 in
    rw (p.1, p.2) given

pub overflow_cast-result : goal.overflow_cast-result
overflow_cast-result c =
    let cut : Piece c.args.piece.now c.cut_line-cut.result.front.now =
    piece-of c.args.piece.now c.cut_line-cut.result.front.now c.cut_line-cut.result.rest c.cut_line-cut.ensures c.if-is_none.ensures in
    omega (arith, c.requires, piece-size c.args.piece.now c.cut_line-cut.result.front.now cut)

pub overflow_add-result : goal.overflow_add-result
overflow_add-result c =
    let cut : Piece c.args.piece.now c.cut_line-cut.result.front.now =
    piece-of c.args.piece.now c.cut_line-cut.result.front.now c.cut_line-cut.result.rest c.cut_line-cut.ensures c.if-is_none.ensures in
    omega (arith, c.requires, piece-size c.args.piece.now c.cut_line-cut.result.front.now cut)

pub returns-clause-used : goal.returns-clause-used
returns-clause-used c =
    let cut : Piece c.args.piece.now c.cut_line-cut.result.front.now =
    piece-of c.args.piece.now c.cut_line-cut.result.front.now c.cut_line-cut.result.rest c.cut_line-cut.ensures c.if-is_none.ensures in
    (piece-size c.args.piece.now c.cut_line-cut.result.front.now cut, λ some. omega arith)

pub returns-clause-takes : goal.returns-clause-takes
returns-clause-takes c =
    let cut : Piece c.args.piece.now c.cut_line-cut.result.front.now =
    piece-of c.args.piece.now c.cut_line-cut.result.front.now c.cut_line-cut.result.rest c.cut_line-cut.ensures c.if-is_none.ensures in
    line-taken c.args.piece.now c.cut_line-cut.result.front.now _ cut refl c.in_ok-item.ensures.ok.ended

pub returns-clause-ok : goal.returns-clause-ok
returns-clause-ok c =
    let cut : Piece c.args.piece.now c.cut_line-cut.result.front.now =
    piece-of c.args.piece.now c.cut_line-cut.result.front.now c.cut_line-cut.result.rest c.cut_line-cut.ensures c.if-is_none.ensures in
    line-read c.args.piece.now c.cut_line-cut.result.front.now _ c.args.self.now c.self.inside.reading c.end_line.new.self c.self.view_is
    (no-fault c.self.inside.reading.fault c.in_default.not-Some) cut refl c.in_ok-item.ensures.ok
