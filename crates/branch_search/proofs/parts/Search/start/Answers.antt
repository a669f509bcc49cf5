use Rattle.std.proofs.Common.{◌∙◌, ℕ, length, sym, ap, subst, None}
use Rattle.std.proofs.lemmas.List.{length-replicate}
use Rattle.node_ranges.proofs.RangeLaws.{root_is_tight}
use Rattle.node_ranges.specs.Ranges.{AreTight}
use Rattle.offer_book.specs.Book.{BookContents}
use Rattle.branch_search.specs.Search.{IsSearchable, searched}
use Rattle.branch_search.proofs.parts.Search.start.Goals as goal

pub invariant_of-result : goal.invariant_of-result
invariant_of-result c =
    let book : BookContents = c.args.book.now in
    record {
      limits = subst (λ (n : ℕ). IsSearchable (searched book n c.args.allowance.0 c.args.budget)) (sym c.in_ok-limit.ensures) c.requires;
      tuned = c.in_ok-tuner.ensures;
      based = c.in_ok-base.ensures.value;
      base_is = c.in_ok-base.ensures.leaf;
      reaches = c.in_ok-reach.ensures.leaf.every_date ∙ c.need_count.ensures.value;
      lined = ap length c.in_ok-plan.ensures ∙ length-replicate (length book.lines) 0;
      rooted = c.in_ok-root.ensures;
      tight = subst (AreTight book) (sym c.in_ok-ranges.ensures) (root_is_tight book c.line_count.ensures.limits);
      bought = tt;
      finds = c.in_ok-finder.ensures;
    }

pub returns : goal.returns
returns c = (λ i. record { case = searched c.args.book.now (c.in_ok-limit.ensures i) c.args.allowance.0 c.args.budget; ranges = c.in_ok-ranges.ensures i; best = None })
