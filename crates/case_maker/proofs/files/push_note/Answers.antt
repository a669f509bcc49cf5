use Rattle.case_maker.proofs.RowFacts.{note_row-parts}
use Rattle.case_maker.proofs.files.push_note.Goals as goal

pub returns : goal.returns
returns c =
    rw (
      c.in_ok-extend_from_slice-2.ensures.items,
      c.in_ok-push_price.ensures,
      c.in_ok-push_rate.ensures,
      c.in_ok-push_date.ensures,
      c.in_ok-extend_from_slice.ensures.items,
    )
    (note_row-parts c.args.text.now.items c.args.note c.args.coupon.0 c.args.thirty_seconds)
