use Rattle.escrow_top.proofs.structure.texts_of.Goals as goal

pub returns : goal.returns
returns c = record {
  plan = c.args.found.plan;
  nodes = c.args.found.tree;
  gap = c.args.found.gap;
  found = c.requires.found;
  found_by = c.requires.found_by;
  is_cert = c.in_ok-cert.ensures;
  is_said = c.in_ok-said.ensures;
}
