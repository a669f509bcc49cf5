-- What is known behind one more node.
use Rattle.std.proofs.Common.{◌≡◌, ◌∙◌, ℕ, suc, ◌+◌, ◌≤◌, Bool, true, false, not, nat_lt, ◌&&◌, ◌||◌, cond, if◌then◌else◌, List, [], ◌∷◌, ◌++◌, length, Option, Some, None, is_some, is_none, option_map, refl, sym, subst, ap, arith, append_assoc, length-append, vec_capacity}
use Rattle.std.specs.List.{position}
use Rattle.std.specs.Bool.{then_some}
use Rattle.std.specs.Option.{option_or}
use Rattle.std.proofs.lemmas.List.{append-nil}
use Rattle.bound_certificate.specs.declared.certificate.Buy.{Buy}
use Rattle.bound_certificate.specs.declared.certificate.Certificate.{Certificate}
use Rattle.bound_certificate.specs.declared.limits.TheConstants.{MOST_NODES}
use Rattle.case_file.specs.Case.{CaseContents}
use Rattle.cash_table.specs.Points.{plan_yield}
use Rattle.dual_bound.specs.Columns.{ColumnsContents}
use Rattle.dual_bound.specs.Closing.{is_weak}
use Rattle.node_ranges.specs.Ranges.{RangesContents, is_proper, narrowed, root_of}
use Rattle.node_ranges.specs.Claims.{Claim, is_bad_split, placed, placed_nodes}
use Rattle.proof_tree.specs.declared.tree.Part.{Part}
use Rattle.proof_tree.specs.declared.tree.TreeNode.{TreeNode}
use Rattle.proof_tree.specs.declared.tree.TreeNode.TheVariants as node
use Rattle.offer_book.specs.Book.{BookContents}
use Rattle.offer_book.specs.Portfolio.{IsPermitted}
use Rattle.escrow_check.specs.Acceptance.{claim_of, numbered, portfolio_reason, reason_by, reason_of, tree_reason}
use Rattle.escrow_check.specs.Knows.{IsGoing, IsJudging, still_waiting}
use Rattle.escrow_check.specs.Trial.{AreColumnsOf, Ends, IsClaim, SplitsWell, TakesEnd, TakesSplit, may_go}
use Rattle.escrow_check.specs.Walk.{IsWalk, after_subtree, waiting_of}
use Rattle.escrow_check.specs.declared.trial.Trial.{Trial}
use Rattle.escrow_check.specs.declared.verdict.Reason.{Reason}
use Rattle.escrow_check.specs.declared.verdict.Reason.TheVariants as reason
use Rattle.escrow_check.proofs.PlacedFacts.{placed-more, position-more, position-next, waiting-more}
use Rattle.escrow_check.proofs.WalkFacts.{waiting-going}

abbrev Placed : Type 0
Placed = TreeNode × RangesContents

-- columns whose leaf alone changes are still those of the case
columns-stay : (case : CaseContents) (old new : ColumnsContents) → new ≡ record old { leaf = new.leaf } → AreColumnsOf case old → AreColumnsOf case new
columns-stay case old new same are = record {
  book = ap (λ (c : ColumnsContents). c.book) same ∙ are.book;
  yield_units = ap (λ (c : ColumnsContents). c.yield_units) same ∙ are.yield_units;
}

abbrev with_node : Certificate → TreeNode → Certificate
with_node cert next = record cert { nodes = cert.nodes ++ next ∷ [] }

second : (a b c : Option Reason) (why : Reason) → a ≡ None → b ≡ Some why → option_or a (option_or b c) ≡ Some why
second a b c why none found = (λ i. option_or (none i) (option_or (found i) c))

-- a reason of the tree is the certificate's, where its portfolio has none
pub tree-found : (case : CaseContents) (cert : Certificate) (why : Reason) → ((buys : List Buy) → cert.buys ≡ Some buys → portfolio_reason case buys ≡ None) →
    tree_reason case cert ≡ Some why → reason_of case cert ≡ Some why
tree-found case cert why portfolio found = by cert.buys refl
  where
    by : (o : Option (List Buy)) → cert.buys ≡ o → reason_by case cert o ≡ Some why
    by None e = found
    by (Some buys) e = second (portfolio_reason case buys) (tree_reason case cert) (then_some (nat_lt case.allowance cert.gap) reason.GapAbove) why (portfolio buys e) found

-- nothing follows a reason that was found
stays : (case : CaseContents) (cert : Certificate) (trial : Trial) (next : TreeNode) (why : Reason) → IsJudging case cert trial → trial.reason ≡ Some why →
    IsJudging case (with_node cert next) trial
stays case cert trial next why is found = record {
  powers = is.powers;
  columns = is.columns;
  size = is.size;
  point = is.point;
  walk = is.walk;
  room = is.room;
  named = is.named;
  gap = is.gap;
  permitted = is.permitted;
  found = λ w e more. ap (λ (ns : List TreeNode). reason_of case (record cert { nodes = ns })) (append_assoc cert.nodes (next ∷ []) more) ∙ is.found w e (next ∷ more);
  going = λ none. (let bad : Some why ≡ None = sym found ∙ none in absurd (cc));
}

-- nor a tree that is over
over-stays : (case : CaseContents) (cert : Certificate) (trial : Trial) (next : TreeNode) → IsJudging case cert trial → trial.reason ≡ None → trial.walk.over ≡ true →
    IsJudging case (with_node cert next) trial
over-stays case cert trial next is none over =
    let book : BookContents = case.book in
    let root : List RangesContents = root_of book ∷ [] in
    let going : IsGoing case cert trial = is.going none in
    let waits : waiting_of book trial.walk ≡ [] = ap (λ (b : Bool). if b then [] else trial.walk.ranges ∷ after_subtree book trial.walk) over in
    let still : still_waiting book root cert.nodes ≡ [] = sym going.waiting ∙ waits in
    let same : placed_nodes case.book (cert.nodes ++ next ∷ []) ≡ placed_nodes case.book cert.nodes =
    placed-more book root cert.nodes (next ∷ [])
    ∙ ap (λ (ws : List RangesContents). placed_nodes case.book cert.nodes ++ placed book ws (next ∷ [])) still
    ∙ append-nil (placed_nodes case.book cert.nodes) in
    record {
      powers = is.powers;
      columns = is.columns;
      size = is.size;
      point = is.point;
      walk = is.walk;
      room = is.room;
      named = is.named;
      gap = is.gap;
      permitted = is.permitted;
      found = λ w e more. (let bad : Some w ≡ None = sym e ∙ none in absurd (cc));
      going = λ e. record {
        portfolio = going.portfolio;
        plan = going.plan;
        claim = going.claim;
        answer = going.answer;
        proper = ap (λ (ps : List Placed). position is_bad_split ps) same ∙ going.proper;
        weak = going.weak ∙ ap (λ (ps : List Placed). numbered (position (is_weak case (claim_of case.book cert)) ps)) (sym same);
        waiting = waits ∙ sym (waiting-more book root cert.nodes (next ∷ []) ∙ ap (λ (ws : List RangesContents). still_waiting book ws (next ∷ [])) still);
        count = going.count ∙ ap (λ (ps : List Placed). length ps) (sym same);
        depth = going.depth;
      };
    }

-- the node is placed at the ranges that the walk has come to
place_one : (book : BookContents) (ranges : RangesContents) (rest : List RangesContents) (next : TreeNode) → placed book (ranges ∷ rest) (next ∷ []) ≡ (next, ranges) ∷ []
place_one book ranges rest (node.Split part at) = refl
place_one book ranges rest node.Point = refl
place_one book ranges rest (node.Closed leaf) = refl

place_first : (book : BookContents) (ranges : RangesContents) (rest : List RangesContents) (part : Part) (at : ℕ) (more : List TreeNode) →
    placed book (ranges ∷ rest) (node.Split part at ∷ more) ≡ (node.Split part at, ranges) ∷ placed book (narrowed book ranges part at false ∷ narrowed book ranges part at true ∷ rest) more
place_first book ranges rest part at more = refl

pub record Here (case : CaseContents) (cert : Certificate) (trial : Trial) (next : TreeNode) : Type 0 where
  pub still : still_waiting case.book (root_of case.book ∷ []) cert.nodes ≡ trial.walk.ranges ∷ after_subtree case.book trial.walk
  pub placed : placed_nodes case.book (cert.nodes ++ next ∷ []) ≡ placed_nodes case.book cert.nodes ++ (next, trial.walk.ranges) ∷ []

here : (case : CaseContents) (cert : Certificate) (trial : Trial) (next : TreeNode) → IsGoing case cert trial → trial.walk.over ≡ false → Here case cert trial next
here case cert trial next going on =
    let book : BookContents = case.book in
    let root : List RangesContents = root_of book ∷ [] in
    let still : still_waiting book root cert.nodes ≡ trial.walk.ranges ∷ after_subtree book trial.walk =
    sym going.waiting ∙ waiting-going trial.walk.over trial.walk.ranges (after_subtree book trial.walk) on in
    record {
      still = still;
      placed =
          placed-more book root cert.nodes (next ∷ [])
          ∙ ap (λ (ws : List RangesContents). placed_nodes case.book cert.nodes ++ placed book ws (next ∷ [])) still
          ∙ ap (λ (ps : List Placed). placed_nodes case.book cert.nodes ++ ps) (place_one book trial.walk.ranges (after_subtree book trial.walk) next);
    }

-- the first place of a test, with one more node
more_place : (p : Placed → Bool) (ps : List Placed) (x : Placed) → position p (ps ++ x ∷ []) ≡ option_or (position p ps) (option_map (λ k. length ps + k) (cond (p x) (Some 0) None))
more_place p ps x = position-more p ps (x ∷ []) ∙ ap (λ (o : Option ℕ). option_or (position p ps) (option_map (λ k. length ps + k) o)) (position-next p x [])

no_more : (place : Option ℕ) (count : ℕ) (b : Bool) → b ≡ false → option_or place (option_map (λ k. count + k) (cond b (Some 0) None)) ≡ place
no_more None count b e = ap (λ (t : Bool). option_or None (option_map (λ k. count + k) (cond t (Some 0) None))) e
no_more (Some k) count b e = refl

weak_now : (old : Option ℕ) (place : Option ℕ) (nodes count : ℕ) (weak closed : Bool) → old ≡ numbered place → nodes ≡ count → closed ≡ (is_some old || not weak) →
    (if is_none old && not closed then Some (nodes + 1) else old) ≡ numbered (option_or place (option_map (λ k. count + k) (cond weak (Some 0) None)))
weak_now old place nodes count weak closed old_is nodes_is closed_is =
    (λ i. if is_none (old_is i) && not (closed_all i) then Some (nodes_is i + 1) else old_is i) ∙ by place weak
  where
    closed_all : closed ≡ (is_some (numbered place) || not weak)
    closed_all = closed_is ∙ ap (λ (o : Option ℕ). is_some o || not weak) old_is

    by : (p : Option ℕ) (w : Bool) → (if is_none (numbered p) && not (is_some (numbered p) || not w) then Some (count + 1) else numbered p)
        ≡ numbered (option_or p (option_map (λ k. count + k) (cond w (Some 0) None)))
    by None true = ap (λ (n : ℕ). Some n) (omega arith)
    by None false = refl
    by (Some k) w = refl

-- a leaf or a point
abbrev pub IsEnd : TreeNode → Type 0
IsEnd (node.Split part at) = ⊥
IsEnd node.Point = Unit {0}
IsEnd (node.Closed leaf) = Unit {0}

end_good : (next : TreeNode) (ranges : RangesContents) → IsEnd next → is_bad_split (next, ranges) ≡ false
end_good (node.Split part at) ranges end = absurd end
end_good node.Point ranges end = refl
end_good (node.Closed leaf) ranges end = refl

end_waits : (book : BookContents) (ranges : RangesContents) (rest : List RangesContents) (next : TreeNode) → IsEnd next → still_waiting book (ranges ∷ rest) (next ∷ []) ≡ rest
end_waits book ranges rest (node.Split part at) end = absurd end
end_waits book ranges rest node.Point end = refl
end_waits book ranges rest (node.Closed leaf) end = refl

ends : (case : CaseContents) (cert : Certificate) (old new : Trial) (next : TreeNode) (closed : Bool) → IsEnd next → IsJudging case cert old → old.reason ≡ None → old.walk.over ≡ false →
    closed ≡ (is_some old.weak || not (is_weak case old.claim (next, old.walk.ranges))) → Ends case.book closed old new → IsJudging case (with_node cert next) new
ends case cert old new next closed end is none on closed_is ended =
    let book : BookContents = case.book in
    let root : List RangesContents = root_of book ∷ [] in
    let going : IsGoing case cert old = is.going none in
    let at : Here case cert old next = here case cert old next going on in
    let ps : List Placed = placed_nodes case.book cert.nodes in
    let weak : Placed → Bool = is_weak case (claim_of case.book cert) in
    let closed_now : closed ≡ (is_some old.weak || not (weak (next, old.walk.ranges))) =
    closed_is ∙ ap (λ (c : Claim). is_some old.weak || not (is_weak case c (next, old.walk.ranges))) going.claim in
    record {
      powers = ap (λ (t : Trial). t.powers) ended.rest ∙ is.powers;
      columns = columns-stay case old.columns new.columns ended.goes.columns is.columns;
      size = subst IsClaim (sym (ap (λ (t : Trial). t.claim) ended.rest)) is.size;
      point = ended.goes.point ∙ is.point;
      walk = ended.goes.walk;
      room = omega (arith, is.room, ended.goes.room);
      named = ap (λ (t : Trial). t.named) ended.rest ∙ is.named;
      gap = ap (λ (t : Trial). t.gap) ended.rest ∙ is.gap;
      permitted = subst (IsPermitted case.book) (sym (ap (λ (t : Trial). t.plan) ended.rest)) is.permitted;
      found = λ w e more. (let bad : Some w ≡ None = sym e ∙ ap (λ (t : Trial). t.reason) ended.rest ∙ none in absurd (cc));
      going = λ e. record {
        portfolio = going.portfolio;
        plan = ap (λ (t : Trial). t.plan) ended.rest ∙ going.plan;
        claim = ap (λ (t : Trial). t.claim) ended.rest ∙ going.claim;
        answer = λ some. ap (λ (t : Trial). t.answer) ended.rest ∙ going.answer some ∙ ap (λ (t : Trial). plan_yield case.book t.plan) (sym ended.rest);
        proper = ap (λ (qs : List Placed). position is_bad_split qs) at.placed ∙ more_place is_bad_split ps (next, old.walk.ranges)
            ∙ no_more (position is_bad_split ps) (length ps) (is_bad_split (next, old.walk.ranges)) (end_good next old.walk.ranges end) ∙ going.proper;
        weak = ap (λ (t : Trial). t.weak) ended.rest
            ∙ weak_now old.weak (position weak ps) old.nodes (length ps) (weak (next, old.walk.ranges)) closed going.weak going.count closed_now
            ∙ ap (λ (o : Option ℕ). numbered o) (sym (more_place weak ps (next, old.walk.ranges)))
            ∙ ap (λ (qs : List Placed). numbered (position weak qs)) (sym at.placed);
        waiting = ended.goes.waiting
            ∙ sym (waiting-more book root cert.nodes (next ∷ []) ∙ ap (λ (ws : List RangesContents). still_waiting book ws (next ∷ [])) at.still
            ∙ end_waits book old.walk.ranges (after_subtree book old.walk) next end);
        count = ap (λ (t : Trial). t.nodes) ended.rest ∙ ap (λ (n : ℕ). n + 1) going.count ∙ sym (ap (λ (qs : List Placed). length qs) at.placed ∙ length-append ps ((next, old.walk.ranges) ∷ []));
        depth = omega (arith, ended.goes.depth, going.depth, ap (λ (t : Trial). t.nodes) ended.rest);
      };
    }

-- ---- the cases of a leaf or a point
may_not : (trial : Trial) (why : Reason) → trial.reason ≡ Some why → may_go trial ≡ false
may_not trial why found = ap (λ (o : Option Reason). is_none o && not trial.walk.over) found

may_over : (trial : Trial) → trial.reason ≡ None → trial.walk.over ≡ true → may_go trial ≡ false
may_over trial none over = (λ i. is_none (none i) && not (over i))

may : (trial : Trial) → trial.reason ≡ None → trial.walk.over ≡ false → may_go trial ≡ true
may trial none on = (λ i. is_none (none i) && not (on i))

same_known : (case : CaseContents) (cert : Certificate) (old new : Trial) → new ≡ old → IsJudging case cert old → IsJudging case cert new
same_known case cert old new same is = subst (IsJudging case cert) (sym same) is

pub end-known : (case : CaseContents) (cert : Certificate) (old new : Trial) (next : TreeNode) (closed : Bool) → IsEnd next → IsJudging case cert old →
    closed ≡ (is_some old.weak || not (is_weak case old.claim (next, old.walk.ranges))) → TakesEnd case.book closed old new → IsJudging case (with_node cert next) new
end-known case cert old new next closed end is closed_is takes = by old.reason refl
  where
    by_over : old.reason ≡ None → (b : Bool) → old.walk.over ≡ b → IsJudging case (with_node cert next) new
    by_over none true over = same_known case (with_node cert next) old new (takes.over (may_over old none over)) (over-stays case cert old next is none over)
    by_over none false on = ends case cert old new next closed end is none on closed_is (takes.going (may old none on))

    by : (o : Option Reason) → old.reason ≡ o → IsJudging case (with_node cert next) new
    by (Some why) found = same_known case (with_node cert next) old new (takes.over (may_not old why found)) (stays case cert old next why is found)
    by None none = by_over none old.walk.over refl

-- ---- a split
splits : (case : CaseContents) (cert : Certificate) (old new : Trial) (part : Part) (at : ℕ) → IsJudging case cert old → old.reason ≡ None → old.walk.over ≡ false →
    is_proper old.walk.ranges part at ≡ true → SplitsWell case.book part at old new → IsJudging case (with_node cert (node.Split part at)) new
splits case cert old new part at is none on proper split =
    let next : TreeNode = node.Split part at in
    let book : BookContents = case.book in
    let root : List RangesContents = root_of book ∷ [] in
    let going : IsGoing case cert old = is.going none in
    let place : Here case cert old next = here case cert old next going on in
    let ps : List Placed = placed_nodes case.book cert.nodes in
    let weak : Placed → Bool = is_weak case (claim_of case.book cert) in
    let good : is_bad_split (next, old.walk.ranges) ≡ false = ap (λ (b : Bool). not b) proper in
    record {
      powers = ap (λ (t : Trial). t.powers) split.rest ∙ is.powers;
      columns = columns-stay case old.columns new.columns split.goes.columns is.columns;
      size = subst IsClaim (sym (ap (λ (t : Trial). t.claim) split.rest)) is.size;
      point = split.goes.point ∙ is.point;
      walk = split.goes.walk;
      room = omega (arith, is.room, split.goes.room);
      named = ap (λ (t : Trial). t.named) split.rest ∙ is.named;
      gap = ap (λ (t : Trial). t.gap) split.rest ∙ is.gap;
      permitted = subst (IsPermitted case.book) (sym (ap (λ (t : Trial). t.plan) split.rest)) is.permitted;
      found = λ w e more. (let bad : Some w ≡ None = sym e ∙ ap (λ (t : Trial). t.reason) split.rest ∙ none in absurd (cc));
      going = λ e. record {
        portfolio = going.portfolio;
        plan = ap (λ (t : Trial). t.plan) split.rest ∙ going.plan;
        claim = ap (λ (t : Trial). t.claim) split.rest ∙ going.claim;
        answer = λ some. ap (λ (t : Trial). t.answer) split.rest ∙ going.answer some ∙ ap (λ (t : Trial). plan_yield case.book t.plan) (sym split.rest);
        proper = ap (λ (qs : List Placed). position is_bad_split qs) place.placed ∙ more_place is_bad_split ps (next, old.walk.ranges)
            ∙ no_more (position is_bad_split ps) (length ps) (is_bad_split (next, old.walk.ranges)) good ∙ going.proper;
        weak = ap (λ (t : Trial). t.weak) split.rest ∙ going.weak
            ∙ ap (λ (o : Option ℕ). numbered o) (sym (more_place weak ps (next, old.walk.ranges) ∙ no_more (position weak ps) (length ps) false refl))
            ∙ ap (λ (qs : List Placed). numbered (position weak qs)) (sym place.placed);
        waiting = split.goes.waiting
            ∙ sym (waiting-more book root cert.nodes (next ∷ []) ∙ ap (λ (ws : List RangesContents). still_waiting book ws (next ∷ [])) place.still);
        count = ap (λ (t : Trial). t.nodes) split.rest ∙ ap (λ (n : ℕ). n + 1) going.count ∙ sym (ap (λ (qs : List Placed). length qs) place.placed ∙ length-append ps ((next, old.walk.ranges) ∷ []));
        depth = omega (arith, split.goes.depth, going.depth, ap (λ (t : Trial). t.nodes) split.rest);
      };
    }

-- the first split that isn't proper is a reason, whatever nodes follow
first_bad : (ps rest : List Placed) (bad : Placed) → position is_bad_split ps ≡ None → is_bad_split bad ≡ true → numbered (position is_bad_split (ps ++ bad ∷ rest)) ≡ Some (length ps + 1)
first_bad ps rest bad none is =
    ap (λ (o : Option ℕ). numbered o) (position-more is_bad_split ps (bad ∷ rest))
    ∙ (λ i. numbered (option_or (none i) (option_map (λ k. length ps + k) (position is_bad_split (bad ∷ rest)))))
    ∙ ap (λ (o : Option ℕ). numbered (option_map (λ k. length ps + k) o)) (position-next is_bad_split bad rest ∙ ap (λ (b : Bool). cond b (Some 0) (option_map suc (position is_bad_split rest))) is)
    ∙ ap (λ (n : ℕ). Some n) (let same : length ps + 0 + 1 ≡ length ps + 1 = omega arith in same)

bad_reason : (case : CaseContents) (cert : Certificate) (n : ℕ) → numbered (position is_bad_split (placed_nodes case.book cert.nodes)) ≡ Some n → tree_reason case cert ≡ Some (reason.BadSplit n)
bad_reason case cert n found =
    ap (λ (o : Option ℕ). option_or (option_map reason.BadSplit o)
    (option_map reason.WeakLeaf (numbered (position (is_weak case (claim_of case.book cert)) (placed_nodes case.book cert.nodes))))) found

bad_split : (case : CaseContents) (cert : Certificate) (old new : Trial) (part : Part) (at : ℕ) → IsJudging case cert old → old.reason ≡ None → old.walk.over ≡ false →
    is_proper old.walk.ranges part at ≡ false → new ≡ record old { nodes = old.nodes + 1; reason = Some (reason.BadSplit (old.nodes + 1)) } →
    IsJudging case (with_node cert (node.Split part at)) new
bad_split case cert old new part at is none on improper rest =
    let next : TreeNode = node.Split part at in
    let book : BookContents = case.book in
    let root : List RangesContents = root_of book ∷ [] in
    let going : IsGoing case cert old = is.going none in
    let place : Here case cert old next = here case cert old next going on in
    let ps : List Placed = placed_nodes case.book cert.nodes in
    let bad : is_bad_split (next, old.walk.ranges) ≡ true = ap (λ (b : Bool). not b) improper in
    let says : new.reason ≡ Some (reason.BadSplit (length ps + 1)) =
    ap (λ (t : Trial). t.reason) rest ∙ ap (λ (n : ℕ). Some (reason.BadSplit (n + 1))) going.count in
    record {
      powers = ap (λ (t : Trial). t.powers) rest ∙ is.powers;
      columns = subst (λ (t : Trial). AreColumnsOf case t.columns) (sym rest) is.columns;
      size = subst IsClaim (sym (ap (λ (t : Trial). t.claim) rest)) is.size;
      point = ap (λ (t : Trial). length t.point) rest ∙ is.point;
      walk = subst (λ (t : Trial). IsWalk book t.walk) (sym rest) is.walk;
      room = subst (λ (t : Trial). MOST_NODES ≤ vec_capacity t.walk.splits) (sym rest) is.room;
      named = ap (λ (t : Trial). t.named) rest ∙ is.named;
      gap = ap (λ (t : Trial). t.gap) rest ∙ is.gap;
      permitted = subst (IsPermitted case.book) (sym (ap (λ (t : Trial). t.plan) rest)) is.permitted;
      found = λ w e more.
          (let after : Certificate = record cert { nodes = (cert.nodes ++ next ∷ []) ++ more } in
          let nodes_are : (cert.nodes ++ next ∷ []) ++ more ≡ cert.nodes ++ (next ∷ more) = append_assoc cert.nodes (next ∷ []) more in
          let tail : List Placed = placed book (narrowed book old.walk.ranges part at false ∷ narrowed book old.walk.ranges part at true ∷ after_subtree book old.walk) more in
          let placed_are : placed_nodes case.book after.nodes ≡ ps ++ (next, old.walk.ranges) ∷ tail =
          ap (λ (ns : List TreeNode). placed_nodes case.book ns) nodes_are ∙ placed-more book root cert.nodes (next ∷ more)
          ∙ ap (λ (ws : List RangesContents). ps ++ placed book ws (next ∷ more)) place.still in
          let number : numbered (position is_bad_split (placed_nodes case.book after.nodes)) ≡ Some (length ps + 1) =
          ap (λ (qs : List Placed). numbered (position is_bad_split qs)) placed_are ∙ first_bad ps tail (next, old.walk.ranges) going.proper bad in
          let same : Some w ≡ Some (reason.BadSplit (length ps + 1)) = sym e ∙ says in
          tree-found case after (reason.BadSplit (length ps + 1)) going.portfolio (bad_reason case after (length ps + 1) number) ∙ sym same);
      going = λ e. (let wrong : Some (reason.BadSplit (length ps + 1)) ≡ None = sym says ∙ e in absurd (cc));
    }

pub split-known : (case : CaseContents) (cert : Certificate) (old new : Trial) (part : Part) (at : ℕ) → IsJudging case cert old → TakesSplit case.book part at old new →
    IsJudging case (with_node cert (node.Split part at)) new
split-known case cert old new part at is takes = by old.reason refl
  where
    by_proper : old.reason ≡ None → old.walk.over ≡ false → (b : Bool) → is_proper old.walk.ranges part at ≡ b → IsJudging case (with_node cert (node.Split part at)) new
    by_proper none on true proper = splits case cert old new part at is none on proper (takes.going (may old none on) proper)
    by_proper none on false improper = bad_split case cert old new part at is none on improper (takes.bad (may old none on) improper)

    by_over : old.reason ≡ None → (b : Bool) → old.walk.over ≡ b → IsJudging case (with_node cert (node.Split part at)) new
    by_over none true over =
        same_known case (with_node cert (node.Split part at)) old new (takes.over (may_over old none over)) (over-stays case cert old (node.Split part at) is none over)
    by_over none false on = by_proper none on (is_proper old.walk.ranges part at) refl

    by : (o : Option Reason) → old.reason ≡ o → IsJudging case (with_node cert (node.Split part at)) new
    by (Some why) found = same_known case (with_node cert (node.Split part at)) old new (takes.over (may_not old why found)) (stays case cert old (node.Split part at) why is found)
    by None none = by_over none old.walk.over refl
