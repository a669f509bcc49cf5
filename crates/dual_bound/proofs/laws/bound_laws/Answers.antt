use Rattle.dual_bound.proofs.Soundness.{bounds-all, bounds-rivals}
use Rattle.dual_bound.proofs.laws.bound_laws.Goals as goal

pub returns : goal.returns
returns c = record { rivals = bounds-rivals; all = bounds-all }
