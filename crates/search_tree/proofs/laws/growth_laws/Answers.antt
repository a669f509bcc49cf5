use Rattle.search_tree.proofs.GrowFacts.{grown-cheaper, popped-kept, stuck-kept}
use Rattle.search_tree.proofs.LawFacts.{closed_is_kept, split_is_kept}
use Rattle.search_tree.proofs.SpentFacts.{goes-on}
use Rattle.search_tree.proofs.Ways.{some-way}
use Rattle.search_tree.specs.Growing.{obeys}
use Rattle.search_tree.proofs.laws.growth_laws.Goals as goal

pub returns : goal.returns
returns c = record {
  ways = some-way;
  cheaper = λ case rule. grown-cheaper case (obeys case rule);
  popped = λ case rule. popped-kept case (obeys case rule);
  closed = closed_is_kept;
  split = split_is_kept;
  stuck = λ case rule. stuck-kept case (obeys case rule);
  goes_on = goes-on;
}
