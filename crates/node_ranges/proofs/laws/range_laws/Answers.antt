use Rattle.node_ranges.proofs.RangeLaws.{root_holds_all, root_is_tight, sides_are_tight, single_hold_one, splits_cover, tight_hold}
use Rattle.node_ranges.proofs.laws.range_laws.Goals as goal

pub returns : goal.returns
returns c = record {
  root = root_holds_all;
  root_tight = root_is_tight;
  covers = splits_cover;
  tight = sides_are_tight;
  held = tight_hold;
  single = single_hold_one;
}
