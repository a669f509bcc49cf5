-- What each reason means, proved; and that none stands exactly where a certificate is accepted.
use Rattle.std.proofs.Common.{◌≡◌, ◌∙◌, ℕ, zero, suc, ◌+◌, ◌<◌, refl, sym, ap, subst, arith, List, [], ◌∷◌, get_or, length, Option, Some, None, MatchOption, Bool, true, false, not, cond, nat_lt, ℤ}
use Rattle.std.specs.Prelude.{option_map}
use Rattle.std.specs.Bool.{then_some}
use Rattle.std.specs.List.{position}
use Rattle.std.specs.Option.{option_or}
use Rattle.std.proofs.lemmas.Bool.{ltb-false, ltb-true}
use Rattle.std.proofs.lemmas.List.Elements.{All-cons, All-nil}
use Rattle.std.proofs.lemmas.List.Quantifiers.{position-Some}
use Rattle.bound_certificate.specs.declared.certificate.Buy.{Buy}
use Rattle.bound_certificate.specs.declared.certificate.Certificate.{Certificate}
use Rattle.case_file.specs.Case.{CaseContents}
use Rattle.cash_table.proofs.DayFacts.{first_short_is}
use Rattle.cash_table.proofs.PermitFacts.{position_fails, position_none}
use Rattle.cash_table.specs.First.{first_short_of}
use Rattle.cash_table.specs.Points.{is_within_limit}
use Rattle.dual_bound.specs.Closing.{is_weak}
use Rattle.node_ranges.specs.Claims.{is_bad_split, placed_nodes}
use Rattle.node_ranges.specs.Ranges.{RangesContents}
use Rattle.proof_tree.specs.declared.tree.TreeNode.{TreeNode}
use Rattle.proof_tree.specs.declared.tree.TreeNode.TheVariants as node
use Rattle.offer_book.specs.Book.{BookContents, IsBook}
use Rattle.offer_book.specs.Portfolio.{IsFirstShort, Meets}
use Rattle.escrow_check.specs.Acceptance.{claim_of, first_not_offered, is_offered, judged, numbered, plan_of, portfolio_reason, reason_by, reason_of, tree_reason, verdict_by, yes_of}
use Rattle.escrow_check.specs.Meaning.{IsHeard, IsOffered}
use Rattle.escrow_check.specs.Reasons.{HasSound, IsAllowed, IsFirstNode, IsFirstNotOffered, IsSound, IsSoundTree, IsUnopposed, Makes, NoNamesReason, OfBuys, Stands, YesWhereUnopposed}
use Rattle.escrow_check.specs.declared.verdict.Reason.{Reason}
use Rattle.escrow_check.specs.declared.verdict.Reason.TheVariants as reason
use Rattle.escrow_check.specs.declared.verdict.Verdict.TheVariants as verdict
use Rattle.escrow_check.proofs.PurchaseFacts.{none-found, not-offered, offered-from_test, one-plan, plan-buys, plan_permitted, rise-pairs}
use Rattle.escrow_check.proofs.VerdictFacts.{option_map-none, option_or-none, sound_buys, then_some-none, well_bought}

same_reason : (a b : Reason) → Some a ≡ Some b → a ≡ b
same_reason a b is = cc

-- ---- the first purchase that isn't offered has its place
same_buy : (a b : Buy) → Some a ≡ Some b → a ≡ b
same_buy a b is = cc

first_placed : (book : BookContents) (buys : List Buy) (found : Buy) → first_not_offered book.lines buys ≡ Some found → IsFirstNotOffered book buys found.line
first_placed book [] found is = absurd (cc)
first_placed book (first ∷ others) found is = by (is_offered book.lines first) refl is (λ rest. first_placed book others found rest)
  where
    by : (offered : Bool) → is_offered book.lines first ≡ offered → cond (not offered) (Some first) (first_not_offered book.lines others) ≡ Some found
        → (first_not_offered book.lines others ≡ Some found → IsFirstNotOffered book others found.line) → IsFirstNotOffered book (first ∷ others) found.line
    by true offered is rest =
        let there = rest is in
        record {
          before = first ∷ there.before;
          buy = there.buy;
          after = there.after;
          place = ap (λ buys. first ∷ buys) there.place;
          offered = All-cons (IsOffered book.lines) first there.before (offered-from_test book.lines first offered) there.offered;
          not_offered = there.not_offered;
          named = there.named;
        }
    by false offered is rest = record {
      before = [];
      buy = first;
      after = others;
      place = refl;
      offered = All-nil (IsOffered book.lines);
      not_offered = not-offered book.lines first offered;
      named = ap (λ (b : Buy). b.line) (sym (same_buy first found is));
    }

-- ---- the first node of a kind
clash : true ≡ false → ⊥
clash e = absurd (cc)

first-node : (test : TreeNode × RangesContents → Bool) (nodes : List (TreeNode × RangesContents)) (place : ℕ) → place < length nodes
    → ((d : TreeNode × RangesContents) → test (get_or nodes place d) ≡ true) → ((k : ℕ) (d : TreeNode × RangesContents) → k < place → test (get_or nodes k d) ≡ false)
    → IsFirstNode (λ p. test p ≡ false) nodes (place + 1)
first-node test [] place few here before = absurd (omega arith)
first-node test (first ∷ nodes) zero few here before = record {
  before = [];
  here = first;
  after = nodes;
  place = refl;
  count = refl;
  good = All-nil (λ (p : TreeNode × RangesContents). test p ≡ false);
  not_good = λ bad. clash (sym (here first) ∙ bad);
}
first-node test (first ∷ nodes) (suc place) few here before =
    let rest = first-node test nodes place (omega arith) here (λ k d less. before (suc k) d (omega arith)) in
    record {
      before = first ∷ rest.before;
      here = rest.here;
      after = rest.after;
      place = ap (λ others. first ∷ others) rest.place;
      count = omega (arith, rest.count);
      good = All-cons (λ (p : TreeNode × RangesContents). test p ≡ false) first rest.before (before 0 first (omega arith)) rest.good;
      not_good = rest.not_good;
    }

first-placed : (test : TreeNode × RangesContents → Bool) (nodes : List (TreeNode × RangesContents)) (place : ℕ) → position test nodes ≡ Some place → IsFirstNode (λ p. test p ≡ false) nodes (place + 1)
first-placed test nodes place found =
    first-node test nodes place (position-Some test nodes place (node.Point, record { lines = []; sums = [] }) found).0
    (λ d. (position-Some test nodes place d found).1) (λ k d less. (position-Some test nodes place d found).2 k less)

-- ---- a reason that is found stands
no-told : (case : CaseContents) (cert : Certificate) (why : Reason) → judged case cert ≡ verdict.No why → reason_of case cert ≡ Some why
unfolding judged
no-told case cert why said = by (reason_of case cert) refl said
  where
    bare : (found : Option (List Buy)) → yes_of case found cert.gap ≡ verdict.No why → ⊥
    bare None told = absurd (cc)
    bare (Some buys) told = absurd (cc)

    by : (found : Option Reason) → reason_of case cert ≡ found → verdict_by case cert found ≡ verdict.No why → reason_of case cert ≡ Some why
    by None is told = absurd (bare cert.buys told)
    by (Some other) is told = is ∙ cc

tree-stands : (case : CaseContents) (cert : Certificate) (why : Reason) → HasSound case cert.buys → tree_reason case cert ≡ Some why → Stands case cert why
tree-stands case cert why sound found =
    by (position is_bad_split (placed_nodes case.book cert.nodes)) refl (position (is_weak case (claim_of case.book cert)) (placed_nodes case.book cert.nodes)) refl found
  where
    by : (bad : Option ℕ) → position is_bad_split (placed_nodes case.book cert.nodes) ≡ bad
        → (weak : Option ℕ) → position (is_weak case (claim_of case.book cert)) (placed_nodes case.book cert.nodes) ≡ weak
        → option_or (option_map reason.BadSplit (numbered bad)) (option_map reason.WeakLeaf (numbered weak)) ≡ Some why → Stands case cert why
    by (Some place) bad_is weak weak_is is =
        subst (Stands case cert) (same_reason (reason.BadSplit (place + 1)) why is) (sound, first-placed is_bad_split (placed_nodes case.book cert.nodes) place bad_is)
    by None bad_is (Some place) weak_is is =
        subst (Stands case cert) (same_reason (reason.WeakLeaf (place + 1)) why is) (
          sound,
          position_fails is_bad_split (placed_nodes case.book cert.nodes) bad_is,
          first-placed (is_weak case (claim_of case.book cert)) (placed_nodes case.book cert.nodes) place weak_is,
        )
    by None bad_is None weak_is is = absurd (cc)

-- the portfolio of purchases that are all offered
makes : (case : CaseContents) (cert : Certificate) (buys : List Buy) → IsHeard case cert → cert.buys ≡ Some buys → first_not_offered case.book.lines buys ≡ None → Makes case.book buys (plan_of case.book buys)
makes case cert buys heard named none = record {
  bought = plan-buys case.book buys (rise-pairs buys (well_bought case cert buys heard named).rising 0 (λ k d few. omega arith)) none;
  permitted = plan_permitted case.book buys none;
}

of_buys : {Holds : List Buy → Type 0} (cert : Certificate) (buys : List Buy) → cert.buys ≡ Some buys → Holds buys → OfBuys Holds cert
of_buys cert buys named holds = record { buys = buys; named = named; holds = holds }

portfolio-stands : (case : CaseContents) (cert : Certificate) (buys : List Buy) (why : Reason) → IsHeard case cert → cert.buys ≡ Some buys → portfolio_reason case buys ≡ Some why → Stands case cert why
portfolio-stands case cert buys why heard named found =
    by (first_not_offered case.book.lines buys) refl (first_short_of case.book plan) (first_short_is case.book plan heard.book.needs.rising) (is_within_limit case.limit case.book plan) refl found
  where
    plan : List ℕ
    plan = plan_of case.book buys

    above : (within : Bool) → is_within_limit case.limit case.book plan ≡ within → first_not_offered case.book.lines buys ≡ None → Meets case.book plan
        → then_some (not within) reason.YieldAbove ≡ Some why → Stands case cert why
    above true within none covered is = absurd (cc)
    above false within none covered is =
        subst (Stands case cert) (same_reason reason.YieldAbove why is)
        (of_buys cert buys named (record { plan = plan; made = record { made = makes case cert buys heard named none; covered = covered }; above = within }))

    by : (missing : Option Buy) → first_not_offered case.book.lines buys ≡ missing → (short : Option ℤ) → MatchOption short (Meets case.book plan) (IsFirstShort case.book plan)
        → (within : Bool) → is_within_limit case.limit case.book plan ≡ within
        → option_or (option_map (λ buy. reason.NotPermitted buy.line) missing) (option_or (option_map reason.ShortOn short) (then_some (not within) reason.YieldAbove)) ≡ Some why → Stands case cert why
    by (Some buy) missing_is short short_is within within_is is =
        subst (Stands case cert) (same_reason (reason.NotPermitted buy.line) why is) (of_buys cert buys named (first_placed case.book buys buy missing_is))
    by None missing_is (Some day) short_is within within_is is =
        subst (Stands case cert) (same_reason (reason.ShortOn day) why is)
        (of_buys cert buys named (record { plan = plan; made = makes case cert buys heard named missing_is; short = short_is }))
    by None missing_is None short_is within within_is is = above within within_is missing_is short_is is

meets-none : (book : BookContents) (plan : List ℕ) → IsBook book → first_short_of book plan ≡ None → Meets book plan
meets-none book plan limits none =
    let P : Option ℤ → Type 0 = λ found. MatchOption found (Meets book plan) (IsFirstShort book plan) in
    subst P none (first_short_is book plan limits.needs.rising)

sound-of : (case : CaseContents) (cert : Certificate) (buys : List Buy) → IsHeard case cert → cert.buys ≡ Some buys → portfolio_reason case buys ≡ None → IsSound case buys
sound-of case cert buys heard named none =
    let tests = sound_buys case buys none in
    record {
      plan = plan_of case.book buys;
      made = record { made = makes case cert buys heard named tests.offered; covered = meets-none case.book (plan_of case.book buys) heard.book tests.covered };
      within = tests.within;
    }

has-sound : (case : CaseContents) (cert : Certificate) (buys : List Buy) → cert.buys ≡ Some buys → IsSound case buys → HasSound case cert.buys
has-sound case cert buys named sound = subst (HasSound case) (sym named) sound

tree-sound : (case : CaseContents) (cert : Certificate) → tree_reason case cert ≡ None → IsSoundTree case cert
tree-sound case cert none =
    let bad = numbered (position is_bad_split (placed_nodes case.book cert.nodes)) in
    let weak = numbered (position (is_weak case (claim_of case.book cert)) (placed_nodes case.book cert.nodes)) in
    let both = option_or-none (option_map reason.BadSplit bad) (option_map reason.WeakLeaf weak) none in
    record {
      proper = position_fails is_bad_split (placed_nodes case.book cert.nodes) (option_map-none (λ n. n + 1) _ (option_map-none reason.BadSplit bad both.0));
      closed = position_fails (is_weak case (claim_of case.book cert)) (placed_nodes case.book cert.nodes) (option_map-none (λ n. n + 1) _ (option_map-none reason.WeakLeaf weak both.1));
    }

pub no_names_reason : NoNamesReason
no_names_reason case cert why heard said = start cert.buys refl (no-told case cert why said)
  where
    last : (buys : List Buy) → cert.buys ≡ Some buys → portfolio_reason case buys ≡ None → tree_reason case cert ≡ None → (over : Bool) → nat_lt case.allowance cert.gap ≡ over
        → then_some over reason.GapAbove ≡ Some why → Stands case cert why
    last buys named none sound true over is =
        subst (Stands case cert) (same_reason reason.GapAbove why is)
        (of_buys cert buys named (sound-of case cert buys heard named none, tree-sound case cert sound, ltb-true case.allowance cert.gap over))
    last buys named none sound false over is = absurd (cc)

    middle : (buys : List Buy) → cert.buys ≡ Some buys → portfolio_reason case buys ≡ None → (found : Option Reason) → tree_reason case cert ≡ found
        → option_or found (then_some (nat_lt case.allowance cert.gap) reason.GapAbove) ≡ Some why → Stands case cert why
    middle buys named none None tree_is is = last buys named none tree_is (nat_lt case.allowance cert.gap) refl is
    middle buys named none (Some other) tree_is is =
        tree-stands case cert why (has-sound case cert buys named (sound-of case cert buys heard named none)) (tree_is ∙ is)

    first : (buys : List Buy) → cert.buys ≡ Some buys → (found : Option Reason) → portfolio_reason case buys ≡ found
        → option_or found (option_or (tree_reason case cert) (then_some (nat_lt case.allowance cert.gap) reason.GapAbove)) ≡ Some why → Stands case cert why
    first buys named None reason_is is = middle buys named reason_is (tree_reason case cert) refl is
    first buys named (Some other) reason_is is = portfolio-stands case cert buys why heard named (reason_is ∙ is)

    start : (found : Option (List Buy)) → cert.buys ≡ found → reason_by case cert found ≡ Some why → Stands case cert why
    start None named is = tree-stands case cert why (subst (HasSound case) (sym named) tt) is
    start (Some buys) named is = first buys named (portfolio_reason case buys) refl is

-- ---- no reason stands exactly where a certificate is unopposed
short-none : (book : BookContents) (plan : List ℕ) → IsBook book → Meets book plan → first_short_of book plan ≡ None
short-none book plan limits covered = by (first_short_of book plan) (first_short_is book plan limits.needs.rising)
  where
    by : (short : Option ℤ) → MatchOption short (Meets book plan) (IsFirstShort book plan) → short ≡ None
    by None is = refl
    by (Some day) is = absurd (omega (arith, is.short, covered day))

then_some-false : {A : Type 0} (test : Bool) (x : A) → test ≡ false → then_some test x ≡ None
then_some-false test x is = rw is refl

sound-none : (case : CaseContents) (cert : Certificate) (buys : List Buy) → IsHeard case cert → cert.buys ≡ Some buys → IsSound case buys → portfolio_reason case buys ≡ None
sound-none case cert buys heard named sound =
    let missing = none-found case.book.lines buys sound.made.made.bought.offered in
    let plan = one-plan case.book buys (plan_of case.book buys) sound.plan (makes case cert buys heard named missing).bought sound.made.made.bought in
    let covered : first_short_of case.book (plan_of case.book buys) ≡ None = ap (first_short_of case.book) plan ∙ short-none case.book sound.plan heard.book sound.made.covered in
    let within : is_within_limit case.limit case.book (plan_of case.book buys) ≡ true = ap (is_within_limit case.limit case.book) plan ∙ sound.within in
    rw (missing, covered, within) refl

tree-none : (case : CaseContents) (cert : Certificate) → IsSoundTree case cert → tree_reason case cert ≡ None
tree-none case cert sound =
    let proper = position_none is_bad_split (placed_nodes case.book cert.nodes) sound.proper in
    let closed = position_none (is_weak case (claim_of case.book cert)) (placed_nodes case.book cert.nodes) sound.closed in
    rw (proper, closed) refl

unopposed-none : (case : CaseContents) (cert : Certificate) → IsHeard case cert → IsUnopposed case cert → reason_of case cert ≡ None
unopposed-none case cert heard sound = by cert.buys refl sound.portfolio sound.allowed
  where
    by : (found : Option (List Buy)) → cert.buys ≡ found → HasSound case found → IsAllowed case cert found → reason_by case cert found ≡ None
    by None named portfolio allowed = tree-none case cert sound.tree
    by (Some buys) named portfolio allowed =
        let not_over : nat_lt case.allowance cert.gap ≡ false = grind arith in
        rw (sound-none case cert buys heard named portfolio, tree-none case cert sound.tree, not_over) refl

none-unopposed : (case : CaseContents) (cert : Certificate) → IsHeard case cert → reason_of case cert ≡ None → IsUnopposed case cert
none-unopposed case cert heard none = by cert.buys refl none
  where
    by : (found : Option (List Buy)) → cert.buys ≡ found → reason_by case cert found ≡ None → IsUnopposed case cert
    by None named none = record {
      portfolio = subst (HasSound case) (sym named) tt;
      tree = tree-sound case cert none;
      allowed = subst (IsAllowed case cert) (sym named) tt;
    }
    by (Some buys) named none =
        let over = then_some (nat_lt case.allowance cert.gap) reason.GapAbove in
        let first = option_or-none (portfolio_reason case buys) (option_or (tree_reason case cert) over) none in
        let second = option_or-none (tree_reason case cert) over first.1 in
        record {
          portfolio = has-sound case cert buys named (sound-of case cert buys heard named first.0);
          tree = tree-sound case cert second.0;
          allowed = subst (IsAllowed case cert) (sym named) (ltb-false case.allowance cert.gap (then_some-none (nat_lt case.allowance cert.gap) reason.GapAbove second.1));
        }

pub yes_where_unopposed : YesWhereUnopposed
yes_where_unopposed case cert heard = (none-unopposed case cert heard, unopposed-none case cert heard)
