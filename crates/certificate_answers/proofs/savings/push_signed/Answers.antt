use Rattle.std.proofs.Common.{rules, ◌≡◌}
use Rattle.savings_table.specs.SignedText.{signed_cents}
use Rattle.certificate_answers.proofs.savings.push_signed.Goals as goal

pub returns : goal.returns
returns c =
    let lo : c.as_bytes.result.now ≡ signed_cents c.args.range.now.lo = search rules in
    let hi : c.as_bytes-2.result.now ≡ signed_cents c.args.range.now.hi = search rules in
    rw (lo, hi) at c.push_pair.ensures
