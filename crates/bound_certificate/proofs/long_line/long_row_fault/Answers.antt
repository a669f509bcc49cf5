use Rattle.std.proofs.Common.{◌≡◌, ◌∙◌, ap, sym, true, ℕ, List}
use Rattle.bound_certificate.specs.Grammar.{begins_with}
use Rattle.bound_certificate.specs.Row.{row_word}
use Rattle.bound_certificate.proofs.LongLeafFacts.{long-row-closed, long-row-header, long-row-number, long-row-unfit}
use Rattle.bound_certificate.proofs.long_line.long_row_fault.Goals as goal
use Rattle.bound_certificate.proofs.long_line.long_row_fault.Goals.{then-not-may-via-then-not-may, then-not-may-via-else-not-may+then-not-fits}

pub returns-then-not-begins_with : goal.returns-then-not-begins_with
returns-then-not-begins_with c vectors line is =
    long-row-header c.args.dates vectors c.args.row c.args.may c.args.head.now line c.args.seen is
    (ap (λ (w : List ℕ). begins_with w c.args.head.now) (sym c.word.ensures) ∙ sym c.begins_with.ensures ∙ c.if-not-begins_with.true)

pub returns-then-not-may : goal.returns-then-not-may
returns-then-not-may c vectors line is =
    let begins : begins_with (row_word c.args.row) c.args.head.now ≡ true =
    ap (λ (w : List ℕ). begins_with w c.args.head.now) (sym c.word.ensures) ∙ sym c.begins_with.ensures ∙ c.if-not-begins_with.false in
    elim c.then-not-may.branch [
      | then-not-may-via-then-not-may w ↦
          long-row-closed c.args.dates vectors c.args.row c.args.may c.args.head.now line c.args.seen is begins w.if-not-may.true
      | then-not-may-via-else-not-may+then-not-fits w ↦
          long-row-unfit c.args.dates vectors c.args.row c.args.may c.args.head.now line c.args.seen is begins (sym (w.fits.ensures line is.words) ∙ w.if-not-fits.true)
    ]

pub returns : goal.returns
returns c vectors line is =
    long-row-number c.args.dates vectors c.args.row c.args.may c.args.head.now line c.args.seen is
    (ap (λ (w : List ℕ). begins_with w c.args.head.now) (sym c.word.ensures) ∙ sym c.begins_with.ensures ∙ c.if-not-begins_with.false)
    c.requires c.if-not-may.false (sym (c.fits.ensures line is.words) ∙ c.if-not-fits.false)
