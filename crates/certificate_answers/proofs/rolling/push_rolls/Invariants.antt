use Rattle.std.proofs.Common.{◌≡◌, ◌++◌, drop}
use Rattle.std.specs.List.{flat_map}
use Rattle.certificate_answers.specs.RollsText.{roll_text}
use Rattle.certificate_answers.proofs.rolling.push_rolls.Given as goal

abbrev pub invariant-loop-roll : goal.invariant-loop-roll
invariant-loop-roll l = l.text.items ++ flat_map roll_text (drop l.roll-index l.rolls) ≡ l.fn.text.items ++ flat_map roll_text l.rolls
