-- What is known behind a purchase and behind the gap, and what a trial's verdict is.
use Rattle.std.proofs.Common.{◌≡◌, ◌∙◌, ℕ, ◌*◌, ◌^◌, ◌≤◌, Bool, true, false, not, nat_lt, ◌||◌, cond, if◌then◌else◌, List, [], ◌∷◌, ◌++◌, length, replicate, Option, Some, None, is_some, option_map, slice_set, refl, sym, subst, ap, arith, pos, ◌-ℤ◌, unsigned_abs, vec_len, vec_capacity}
use Rattle.std.specs.Bool.{then_some}
use Rattle.std.specs.List.{position}
use Rattle.std.specs.Option.{option_or}
use Rattle.std.proofs.lemmas.Int.{ints}
use Rattle.std.proofs.lemmas.List.{append-nil}
use Rattle.std.proofs.lemmas.List.Folds.{find-append}
use Rattle.std.proofs.lemmas.List.Sums.{fold-append}
use Rattle.bound_certificate.specs.declared.certificate.Buy.{Buy}
use Rattle.bound_certificate.specs.declared.certificate.Certificate.{Certificate}
use Rattle.bound_certificate.specs.declared.limits.TheConstants.{GREATEST_GAP, MOST_NODES}
use Rattle.case_file.specs.Case.{CaseContents}
use Rattle.cash_table.specs.Points.{plan_yield}
use Rattle.cash_table.proofs.CostFacts.{cost_at_most}
use Rattle.dual_bound.specs.Closing.{is_weak}
use Rattle.node_ranges.specs.Ranges.{RangesContents, root_of}
use Rattle.node_ranges.specs.Claims.{is_bad_split, placed_nodes}
use Rattle.proof_tree.specs.declared.tree.TreeNode.{TreeNode}
use Rattle.offer_book.specs.Book.{BookContents, IsBook}
use Rattle.offer_book.specs.Portfolio.{IsPermitted, cost}
use Rattle.offer_book.specs.declared.line.Line.{Line}
use Rattle.escrow_check.specs.Acceptance.{claim_of, first_not_offered, is_offered, judged, numbered, plan_of, portfolio_reason, reason_by, reason_of, tree_reason, yes_of}
use Rattle.escrow_check.specs.Acceptance as accept
use Rattle.escrow_check.specs.Knows.{IsBuying, IsGoing, IsJudging, buys_in, still_waiting}
use Rattle.escrow_check.specs.Trial.{AreColumnsOf, IsClaim, IsNew, last_verdict, plan_reason, verdict_by, verdict_on, with_buy, with_gap}
use Rattle.escrow_check.specs.Walk.{IsWalk, waiting_of}
use Rattle.escrow_check.specs.declared.trial.Trial.{Trial}
use Rattle.escrow_check.specs.declared.verdict.Reason.{Reason}
use Rattle.escrow_check.specs.declared.verdict.Reason.TheVariants as reason
use Rattle.escrow_check.specs.declared.verdict.Verdict.{Verdict}
use Rattle.escrow_check.specs.declared.verdict.Verdict.TheVariants as verdict
use Rattle.escrow_check.proofs.NodeFacts.{tree-found}
use Rattle.escrow_check.proofs.PurchaseFacts.{put_permitted, zero_permitted}

-- ---- before the first line
pub new-known : (case : CaseContents) (cert : Certificate) (trial : Trial) → cert.buys ≡ None → cert.nodes ≡ [] → IsNew case trial → IsBuying case cert trial
new-known case cert trial unnamed none new = record {
  powers = new.powers;
  columns = new.columns;
  point = new.point;
  walk = new.walk;
  waiting = new.waiting;
  depth = new.depth;
  room = new.room;
  count = new.nodes;
  weak = new.weak;
  claim = new.claim;
  named = new.named ∙ ap (λ (o : Option (List Buy)). is_some o) (sym unnamed);
  found = new.reason ∙ ap (λ (o : Option (List Buy)). option_map (λ (buy : Buy). reason.NotPermitted buy.line) (first_not_offered case.book.lines (buys_in o))) (sym unnamed);
  plan = λ e. new.plan ∙ ap (λ (o : Option (List Buy)). plan_of case.book (buys_in o)) (sym unnamed);
  permitted = subst (IsPermitted case.book) (sym new.plan) (zero_permitted case.book);
  none = none;
}

-- ---- a purchase
abbrev told : Option Buy → Option Reason
told found = option_map (λ buy. reason.NotPermitted buy.line) found

abbrev bought_plan : BookContents → List ℕ → Buy → List ℕ
bought_plan book plan buy = slice_set plan buy.line buy.units

-- what a purchase adds, where the purchases so far are known
pub record Adds (case : CaseContents) (buys : List Buy) (buy : Buy) (old new : Trial) : Type 0 where
  pub rest : new ≡ record old { plan = new.plan; reason = new.reason }
  pub found : new.reason ≡ told (first_not_offered case.book.lines (buys ++ buy ∷ []))
  pub plan : new.reason ≡ None → new.plan ≡ plan_of case.book (buys ++ buy ∷ [])
  pub permitted : IsPermitted case.book new.plan

not_none : (why : Reason) (o : Option Buy) → told o ≡ Some why → (buy : Buy) × (o ≡ Some buy)
not_none why None e = absurd (cc)
not_none why (Some buy) e = (buy, refl)

is_none_told : (o : Option Buy) → told o ≡ None → o ≡ None
is_none_told None e = refl
is_none_told (Some buy) e = absurd (cc)

adds : (case : CaseContents) (buys : List Buy) (buy : Buy) (old : Trial) → old.reason ≡ told (first_not_offered case.book.lines buys) →
    (old.reason ≡ None → old.plan ≡ plan_of case.book buys) → IsPermitted case.book old.plan → Adds case buys buy old (with_buy case.book old buy)
adds case buys buy old found plan permitted = by old.reason refl
  where
    lines : List Line
    lines = case.book.lines

    all : first_not_offered lines (buys ++ buy ∷ []) ≡ option_or (first_not_offered lines buys) (first_not_offered lines (buy ∷ []))
    all = find-append (λ (b : Buy). not (is_offered lines b)) buys (buy ∷ [])

    kept : (why : Reason) → old.reason ≡ Some why → old.reason ≡ told (first_not_offered lines (buys ++ buy ∷ []))
    kept why e =
        let found_one = not_none why (first_not_offered lines buys) (sym found ∙ e) in
        found ∙ ap told (found_one.1 ∙ sym (all ∙ ap (λ (o : Option Buy). option_or o (first_not_offered lines (buy ∷ []))) found_one.1))

    by_test : old.reason ≡ None → (b : Bool) → is_offered lines buy ≡ b →
        Adds case buys buy old (if b then record old { plan = slice_set old.plan buy.line buy.units } else record old { reason = Some (reason.NotPermitted buy.line) })
    by_test none true offered =
        let so_far : first_not_offered lines buys ≡ None = is_none_told (first_not_offered lines buys) (sym found ∙ none) in
        record {
          rest = refl;
          found = none ∙ sym (ap told (all ∙ ap (λ (o : Option Buy). option_or o (first_not_offered lines (buy ∷ []))) so_far
              ∙ ap (λ (t : Bool). cond (not t) (Some buy) None) offered));
          plan = λ e. ap (λ (p : List ℕ). slice_set p buy.line buy.units) (plan none)
              ∙ sym (fold-append (λ (p : List ℕ) (b : Buy). slice_set p b.line b.units) (replicate (length case.book.lines) 0) buys (buy ∷ []));
          permitted = put_permitted case.book old.plan buy permitted offered;
        }
    by_test none false offered =
        let so_far : first_not_offered lines buys ≡ None = is_none_told (first_not_offered lines buys) (sym found ∙ none) in
        record {
          rest = refl;
          found = sym (ap told (all ∙ ap (λ (o : Option Buy). option_or o (first_not_offered lines (buy ∷ []))) so_far
              ∙ ap (λ (t : Bool). cond (not t) (Some buy) None) offered));
          plan = λ e. absurd (cc);
          permitted = permitted;
        }

    by : (o : Option Reason) → old.reason ≡ o → Adds case buys buy old
        (if is_some o then old else if is_offered lines buy then record old { plan = slice_set old.plan buy.line buy.units } else record old { reason = Some (reason.NotPermitted buy.line) })
    by (Some why) e = record {
      rest = refl;
      found = kept why e;
      plan = λ none. (let bad : Some why ≡ None = sym e ∙ none in absurd (cc));
      permitted = permitted;
    }
    by None e = by_test e (is_offered lines buy) refl

bought_by : (case : CaseContents) (cert : Certificate) (old new : Trial) (buy : Buy) (o : Option (List Buy)) → cert.buys ≡ o → is_some cert.buys ≡ true → IsBuying case cert old →
    new ≡ with_buy case.book old buy → IsBuying case (record cert { buys = option_map (λ buys. buys ++ buy ∷ []) o }) new
bought_by case cert old new buy None e some is rest = (let bad : is_some {T = List Buy} None ≡ true = sym (ap (λ (x : Option (List Buy)). is_some x) e) ∙ some in absurd (cc))
bought_by case cert old new buy (Some buys) e some is rest =
    let found : old.reason ≡ told (first_not_offered case.book.lines buys) = is.found ∙ ap (λ (x : Option (List Buy)). told (first_not_offered case.book.lines (buys_in x))) e in
    let more : Adds case buys buy old (with_buy case.book old buy) =
    adds case buys buy old found (λ none. is.plan none ∙ ap (λ (x : Option (List Buy)). plan_of case.book (buys_in x)) e) is.permitted in
    let next : Trial = with_buy case.book old buy in
    let P : Trial → Type 0 = λ t. IsBuying case (record cert { buys = Some (buys ++ buy ∷ []) }) t in
    subst P (sym rest) (record {
      powers = ap (λ (t : Trial). t.powers) more.rest ∙ is.powers;
      columns = subst (λ (t : Trial). AreColumnsOf case t.columns) (sym more.rest) is.columns;
      point = ap (λ (t : Trial). length t.point) more.rest ∙ is.point;
      walk = subst (λ (t : Trial). IsWalk case.book t.walk) (sym more.rest) is.walk;
      waiting = ap (λ (t : Trial). waiting_of case.book t.walk) more.rest ∙ is.waiting;
      depth = ap (λ (t : Trial). vec_len t.walk.splits) more.rest ∙ is.depth;
      room = subst (λ (t : Trial). MOST_NODES ≤ vec_capacity t.walk.splits) (sym more.rest) is.room;
      count = ap (λ (t : Trial). t.nodes) more.rest ∙ is.count;
      weak = ap (λ (t : Trial). t.weak) more.rest ∙ is.weak;
      claim = ap (λ (t : Trial). t.claim) more.rest ∙ is.claim;
      named = ap (λ (t : Trial). t.named) more.rest ∙ is.named ∙ some;
      found = more.found;
      plan = more.plan;
      permitted = more.permitted;
      none = is.none;
    })

pub bought-known : (case : CaseContents) (cert : Certificate) (old new : Trial) (buy : Buy) → is_some cert.buys ≡ true → IsBuying case cert old → new ≡ with_buy case.book old buy →
    IsBuying case (record cert { buys = option_map (λ buys. buys ++ buy ∷ []) cert.buys }) new
bought-known case cert old new buy some is rest = bought_by case cert old new buy cert.buys refl some is rest

-- ---- the gap
claim_small : (cents gap : ℕ) → cents ≤ 172 * 10 ^ 12 → gap ≤ GREATEST_GAP → unsigned_abs (pos cents -ℤ pos gap) ≤ 11 * 10 ^ 14
claim_small cents gap few less = omega (arith, ints, few, less)

-- what is known of the portfolio, where it has no reason
pub record Stands (case : CaseContents) (cert : Certificate) (trial : Trial) : Type 0 where
  pub portfolio : (buys : List Buy) → cert.buys ≡ Some buys → portfolio_reason case buys ≡ None
  pub plan : trial.plan ≡ plan_of case.book (buys_in cert.buys)
  pub claim : trial.claim ≡ claim_of case.book cert
  pub answer : is_some cert.buys ≡ true → trial.answer ≡ plan_yield case.book trial.plan

judging : (case : CaseContents) (cert : Certificate) (old new : Trial) (gap : ℕ) → IsBuying case cert old →
    new ≡ record old { gap = gap; answer = new.answer; claim = new.claim; reason = new.reason } → IsClaim new.claim →
    ((why : Reason) → new.reason ≡ Some why → (more : List TreeNode) → reason_of case (record cert { gap = gap; nodes = cert.nodes ++ more }) ≡ Some why) →
    (new.reason ≡ None → Stands case (record cert { gap = gap }) new) → IsJudging case (record cert { gap = gap }) new
judging case cert old new gap is rest size found stands =
    let root : List RangesContents = root_of case.book ∷ [] in
    record {
      powers = ap (λ (t : Trial). t.powers) rest ∙ is.powers;
      columns = subst (λ (t : Trial). AreColumnsOf case t.columns) (sym rest) is.columns;
      size = size;
      point = ap (λ (t : Trial). length t.point) rest ∙ is.point;
      walk = subst (λ (t : Trial). IsWalk case.book t.walk) (sym rest) is.walk;
      room = subst (λ (t : Trial). MOST_NODES ≤ vec_capacity t.walk.splits) (sym rest) is.room;
      named = ap (λ (t : Trial). t.named) rest ∙ is.named;
      gap = ap (λ (t : Trial). t.gap) rest;
      permitted = subst (IsPermitted case.book) (sym (ap (λ (t : Trial). t.plan) rest)) is.permitted;
      found = found;
      going = λ e.
          (let here : Stands case (record cert { gap = gap }) new = stands e in
          record {
            portfolio = here.portfolio;
            plan = here.plan;
            claim = here.claim;
            answer = here.answer;
            proper = ap (λ (ns : List TreeNode). position is_bad_split (placed_nodes case.book ns)) is.none;
            weak = ap (λ (t : Trial). t.weak) rest ∙ is.weak
                ∙ ap (λ (ns : List TreeNode). numbered (position (is_weak case (claim_of case.book (record cert { gap = gap }))) (placed_nodes case.book ns))) (sym is.none);
            waiting = ap (λ (t : Trial). waiting_of case.book t.walk) rest ∙ is.waiting ∙ ap (λ (ns : List TreeNode). still_waiting case.book root ns) (sym is.none);
            count = ap (λ (t : Trial). t.nodes) rest ∙ is.count ∙ ap (λ (ns : List TreeNode). length (placed_nodes case.book ns)) (sym is.none);
            depth = omega (arith, ap (λ (t : Trial). vec_len t.walk.splits) rest, is.depth);
          });
    }

-- the reason of a portfolio whose purchases are offered
offered_reason : (case : CaseContents) (buys : List Buy) → first_not_offered case.book.lines buys ≡ None →
    portfolio_reason case buys ≡ plan_reason case (plan_of case.book buys) (plan_yield case.book (plan_of case.book buys))
offered_reason case buys none = ap (λ (o : Option Buy). option_or (told o) (plan_reason case (plan_of case.book buys) (plan_yield case.book (plan_of case.book buys)))) none

-- a reason of the portfolio is the certificate's
first_reason : (case : CaseContents) (cert : Certificate) (buys : List Buy) (why : Reason) → cert.buys ≡ Some buys → portfolio_reason case buys ≡ Some why → reason_of case cert ≡ Some why
first_reason case cert buys why named found =
    ap (λ (o : Option (List Buy)). reason_by case cert o) named
    ∙ ap (λ (o : Option Reason). option_or o (option_or (tree_reason case cert) (then_some (nat_lt case.allowance cert.gap) reason.GapAbove))) found

abbrev judged_trial : CaseContents → Trial → ℕ → Trial
judged_trial case trial gap = record trial {
  gap = gap;
  answer = plan_yield case.book trial.plan;
  claim = Some (pos (cost case.book trial.plan) -ℤ pos gap);
  reason = plan_reason case trial.plan (plan_yield case.book trial.plan);
}

gap_by : (case : CaseContents) (cert : Certificate) (old : Trial) (gap : ℕ) → IsBook case.book → IsBuying case cert old → gap ≤ GREATEST_GAP →
    (o : Option (List Buy)) → cert.buys ≡ o → (why : Option Reason) → old.reason ≡ why →
    IsJudging case (record cert { gap = gap }) (if not (is_some o) || is_some why then record old { gap = gap } else judged_trial case old gap)
gap_by case cert old gap limits is less None unnamed why reason_is =
    let new : Trial = record old { gap = gap } in
    let none : old.reason ≡ None = is.found ∙ ap (λ (x : Option (List Buy)). told (first_not_offered case.book.lines (buys_in x))) unnamed in
    judging case cert old new gap is refl (subst IsClaim (sym is.claim) tt)
    (λ w e more. (let bad : Some w ≡ None = sym e ∙ none in absurd (cc)))
    (λ e. record {
      portfolio = λ buys named. (let bad : Some buys ≡ None = sym named ∙ unnamed in absurd (cc));
      plan = is.plan none;
      claim = is.claim ∙ ap (λ (x : Option (List Buy)). claim_of case.book (record cert { buys = x; gap = gap })) (sym unnamed);
      answer = λ some. (let bad : is_some {T = List Buy} None ≡ true = ap (λ (x : Option (List Buy)). is_some x) (sym unnamed) ∙ some in absurd (cc));
    })
gap_by case cert old gap limits is less (Some buys) named (Some why) reason_is =
    let new : Trial = record old { gap = gap } in
    let found : told (first_not_offered case.book.lines buys) ≡ Some why =
    ap (λ (x : Option (List Buy)). told (first_not_offered case.book.lines (buys_in x))) (sym named) ∙ sym is.found ∙ reason_is in
    judging case cert old new gap is refl (subst IsClaim (sym is.claim) tt)
    (λ w e more.
    (let same : Some w ≡ Some why = sym e ∙ reason_is in
    first_reason case (record cert { gap = gap; nodes = cert.nodes ++ more }) buys why named
    (ap (λ (o : Option Reason). option_or o (plan_reason case (plan_of case.book buys) (plan_yield case.book (plan_of case.book buys)))) found) ∙ sym same))
    (λ e. (let bad : Some why ≡ None = sym reason_is ∙ e in absurd (cc)))
gap_by case cert old gap limits is less (Some buys) named None reason_is =
    let new : Trial = judged_trial case old gap in
    let plan_is : old.plan ≡ plan_of case.book buys = is.plan reason_is ∙ ap (λ (x : Option (List Buy)). plan_of case.book (buys_in x)) named in
    let none : first_not_offered case.book.lines buys ≡ None =
    is_none_told (first_not_offered case.book.lines buys)
    (ap (λ (x : Option (List Buy)). told (first_not_offered case.book.lines (buys_in x))) (sym named) ∙ sym is.found ∙ reason_is) in
    let reason_of_plan : portfolio_reason case buys ≡ new.reason =
    offered_reason case buys none ∙ ap (λ (p : List ℕ). plan_reason case p (plan_yield case.book p)) (sym plan_is) in
    judging case cert old new gap is refl (claim_small (cost case.book old.plan) gap (cost_at_most case.book old.plan limits is.permitted) less)
    (λ w e more. first_reason case (record cert { gap = gap; nodes = cert.nodes ++ more }) buys w named (reason_of_plan ∙ e))
    (λ e. record {
      portfolio = λ others others_named.
          (let same : Some others ≡ Some buys = sym others_named ∙ named in
          let equal : others ≡ buys = cc in
          ap (λ (bs : List Buy). portfolio_reason case bs) equal ∙ reason_of_plan ∙ e);
      plan = plan_is ∙ ap (λ (x : Option (List Buy)). plan_of case.book (buys_in x)) (sym named);
      claim = ap (λ (p : List ℕ). Some (pos (cost case.book p) -ℤ pos gap)) plan_is ∙ ap (λ (x : Option (List Buy)). claim_of case.book (record cert { buys = x; gap = gap })) (sym named);
      answer = λ some. refl;
    })

pub gap-known : (case : CaseContents) (cert : Certificate) (old new : Trial) (gap : ℕ) → IsBook case.book → IsBuying case cert old → gap ≤ GREATEST_GAP →
    new ≡ with_gap case old gap → IsJudging case (record cert { gap = gap }) new
gap-known case cert old new gap limits is less rest =
    let at : with_gap case old gap ≡ (if not (is_some cert.buys) || is_some old.reason then record old { gap = gap } else judged_trial case old gap) =
    ap (λ (b : Bool). if not b || is_some old.reason then record old { gap = gap } else judged_trial case old gap) is.named in
    subst (IsJudging case (record cert { gap = gap })) (sym (rest ∙ at)) (gap_by case cert old gap limits is less cert.buys refl old.reason refl)

-- ---- the verdict
tree_weak : (case : CaseContents) (cert : Certificate) (weak : Option ℕ) → position is_bad_split (placed_nodes case.book cert.nodes) ≡ None →
    weak ≡ numbered (position (is_weak case (claim_of case.book cert)) (placed_nodes case.book cert.nodes)) → tree_reason case cert ≡ option_map reason.WeakLeaf weak
tree_weak case cert weak proper weak_is =
    ap (λ (o : Option ℕ). option_or (option_map reason.BadSplit (numbered o))
    (option_map reason.WeakLeaf (numbered (position (is_weak case (claim_of case.book cert)) (placed_nodes case.book cert.nodes))))) proper
    ∙ ap (λ (o : Option ℕ). option_map reason.WeakLeaf o) (sym weak_is)

abbrev told_on : CaseContents → Certificate → Option Reason → Verdict
told_on case cert why = accept.verdict_by case cert why

good_by : (case : CaseContents) (cert : Certificate) (trial : Trial) → IsJudging case cert trial → IsGoing case cert trial → tree_reason case cert ≡ None →
    (o : Option (List Buy)) → cert.buys ≡ o → last_verdict case trial ≡ told_on case cert (reason_by case cert o)
good_by case cert trial is going none None unnamed =
    ap (λ (b : Bool). if not b then verdict.YesNone else (if nat_lt case.allowance trial.gap then verdict.No reason.GapAbove
    else verdict.Yes (record { plan = trial.plan; cost = record { 0 = cost case.book trial.plan }; answer = trial.answer; gap = record { 0 = trial.gap } })))
    (is.named ∙ ap (λ (x : Option (List Buy)). is_some x) unnamed)
    ∙ ap (λ (x : Option (List Buy)). yes_of case x cert.gap) (sym unnamed)
    ∙ ap (λ (o : Option Reason). told_on case cert o) (sym none)
good_by case cert trial is going none (Some buys) named =
    let some : is_some cert.buys ≡ true = ap (λ (x : Option (List Buy)). is_some x) named in
    let plan_is : trial.plan ≡ plan_of case.book buys = going.plan ∙ ap (λ (x : Option (List Buy)). plan_of case.book (buys_in x)) named in
    let answer_is : trial.answer ≡ plan_yield case.book (plan_of case.book buys) = going.answer some ∙ ap (λ (p : List ℕ). plan_yield case.book p) plan_is in
    ap (λ (b : Bool). if not b then verdict.YesNone else (if nat_lt case.allowance trial.gap then verdict.No reason.GapAbove
    else verdict.Yes (record { plan = trial.plan; cost = record { 0 = cost case.book trial.plan }; answer = trial.answer; gap = record { 0 = trial.gap } }))) (is.named ∙ some)
    ∙ (λ i. if nat_lt case.allowance (is.gap i) then verdict.No reason.GapAbove
    else verdict.Yes (record { plan = plan_is i; cost = record { 0 = cost case.book (plan_is i) }; answer = answer_is i; gap = record { 0 = is.gap i } }))
    ∙ by (nat_lt case.allowance cert.gap)
    ∙ ap (λ (o : Option Reason). told_on case cert o) (sym (λ i. option_or (going.portfolio buys named i) (option_or (none i) (then_some (nat_lt case.allowance cert.gap) reason.GapAbove))))
  where
    by : (b : Bool) → (if b then verdict.No reason.GapAbove else verdict.Yes (accept.portfolio_of case buys cert.gap)) ≡ told_on case cert (then_some b reason.GapAbove)
    by true = refl
    by false = ap (λ (x : Option (List Buy)). yes_of case x cert.gap) (sym named)

verdict_at : (case : CaseContents) (cert : Certificate) (trial : Trial) → IsJudging case cert trial → verdict_on case trial ≡ told_on case cert (reason_of case cert)
verdict_at case cert trial is = by trial.reason refl
  where
    by_weak : IsGoing case cert trial → trial.reason ≡ None → (o : Option ℕ) → trial.weak ≡ o → verdict_by case trial None o ≡ told_on case cert (reason_of case cert)
    by_weak going none (Some place) weak =
        ap (λ (o : Option Reason). told_on case cert o) (sym (tree-found case cert (reason.WeakLeaf place) going.portfolio
        (tree_weak case cert trial.weak going.proper going.weak ∙ ap (λ (o : Option ℕ). option_map reason.WeakLeaf o) weak)))
    by_weak going none None weak =
        good_by case cert trial is going (tree_weak case cert trial.weak going.proper going.weak ∙ ap (λ (o : Option ℕ). option_map reason.WeakLeaf o) weak) cert.buys refl

    by : (o : Option Reason) → trial.reason ≡ o → verdict_on case trial ≡ told_on case cert (reason_of case cert)
    by (Some why) e =
        ap (λ (o : Option Reason). verdict_by case trial o trial.weak) e
        ∙ ap (λ (o : Option Reason). told_on case cert o)
        (sym (ap (λ (ns : List TreeNode). reason_of case (record cert { nodes = ns })) (sym (append-nil cert.nodes)) ∙ is.found why e []))
    by None e =
        ap (λ (o : Option Reason). verdict_by case trial o trial.weak) e ∙ ap (λ (o : Option ℕ). verdict_by case trial None o) refl
        ∙ by_weak (is.going e) e trial.weak refl

pub judged-known : (case : CaseContents) (cert : Certificate) (trial : Trial) → IsJudging case cert trial → verdict_on case trial ≡ judged case cert
unfolding judged
judged-known case cert trial is = verdict_at case cert trial is
