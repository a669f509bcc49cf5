use Rattle.std.proofs.Common.{◌<◌, arith}
use Rattle.std.proofs.lemmas.List.Elements.{All-from_get_or}
use Rattle.line_words.proofs.LaneFacts.{lanes-number}
use Rattle.line_words.proofs.digits.digits_together.Goals as goal

pub returns-clause-number : goal.returns-clause-number
returns-clause-number c =
    let piece = c.args.piece.now in
    lanes-number piece _ c.if-piece-lt-TOGETHER.false (All-from_get_or (λ byte. byte < 256) piece 0 (λ k inside. (c.type_inv.piece k).fits)) c.if-piece-eq48.false (omega arith) (omega arith)
    (c.lead.ensures c.if-not-lead.false) c.together.ensures.number c.together.ensures.small
