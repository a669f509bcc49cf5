-- What is heard, piece by piece.
use Rattle.std.proofs.Common.{◌≡◌, ◌∙◌, inl, inr, ◌∷◌, ℕ, ◌+◌, ◌≤◌, ◌==◌, if◌then◌else◌, Bool, true, false, not, nat_lt, ℤ, List, [], ◌++◌, length, take, drop, Option, Some, None, option_map, refl, sym, subst, ap, arith, append_assoc, length-drop, ◌-◌}
use Rattle.std.specs.Bool.{then_some}
use Rattle.std.specs.List.{fold, position}
use Rattle.std.specs.Option.{option_or}
use Rattle.std.proofs.lemmas.List.{length-take, take-append-drop, take_all}
use Rattle.bound_certificate.specs.Draft.{no_lines, with_item}
use Rattle.bound_certificate.specs.Due.{is_over, nodes_due, vectors_due}
use Rattle.bound_certificate.specs.Step.{IsSuited, due_after}
use Rattle.bound_certificate.specs.TextReading.{EndsText, HasRead, Reads, ReadsFault, stage_due}
use Rattle.bound_certificate.specs.Told.{Tells, Told, certificate_told, told_in}
use Rattle.bound_certificate.specs.Versions.{IsCertificateText}
use Rattle.bound_certificate.specs.declared.certificate.Buy.{Buy}
use Rattle.bound_certificate.specs.declared.certificate.Certificate.{Certificate}
use Rattle.bound_certificate.specs.declared.due.Due.{Due}
use Rattle.bound_certificate.specs.declared.due.Due.TheVariants as due
use Rattle.bound_certificate.specs.declared.fault.CertFault.{CertFault}
use Rattle.bound_certificate.specs.declared.item.Fed.{Fed}
use Rattle.bound_certificate.specs.declared.item.Item.{Item}
use Rattle.bound_certificate.specs.declared.item.Item.TheVariants as item
use Rattle.bound_certificate.specs.declared.text_reading.TextReading.{TextReading}
use Rattle.bound_certificate.proofs.ToldFacts.{with_told}
use Rattle.case_file.specs.Case.{CaseContents}
use Rattle.cash_table.specs.First.{first_short_of}
use Rattle.cash_table.specs.Points.{is_within_limit}
use Rattle.dual_bound.specs.Closing.{is_weak}
use Rattle.node_ranges.specs.Claims.{is_bad_split, placed_nodes}
use Rattle.proof_tree.specs.declared.tree.Leaf.{Leaf}
use Rattle.escrow_check.specs.Acceptance.{IsVerdict, claim_of, first_not_offered, judged, numbered, plan_of, portfolio_reason, reason_by, reason_of, tree_reason}
use Rattle.escrow_check.specs.Acceptance as accept
use Rattle.escrow_check.specs.Heard.{HasHeard, cert_in, is_before_gap}
use Rattle.escrow_check.specs.Knows.{Comes, IsJudging, Knows}
use Rattle.escrow_check.specs.Trial.{IsNew, verdict_on}
use Rattle.escrow_check.specs.declared.hearing.Hearing.{Hearing}
use Rattle.escrow_check.specs.declared.trial.Trial.{Trial}
use Rattle.escrow_check.specs.declared.verdict.Reason.{Reason}
use Rattle.escrow_check.specs.declared.verdict.Reason.TheVariants as reason
use Rattle.escrow_check.specs.declared.verdict.Verdict.{Verdict}
use Rattle.escrow_check.specs.declared.verdict.Verdict.TheVariants as verdict
use Rattle.escrow_check.proofs.BuyFacts.{judged-known, new-known}

-- nothing yet
told_nothing : (dates : ℕ) → certificate_told (told_in dates []) ≡ no_lines
unfolding told_in
told_nothing dates = refl

pub heard-nothing : (case : CaseContents) (hearing : Hearing) → HasRead (length case.book.needs) [] hearing.reader → stage_due hearing.reader.stage ≡ due.Title →
    IsNew case hearing.trial → HasHeard case hearing []
heard-nothing case hearing read first new =
    let P : Certificate → Type 0 = λ cert. Knows case cert due.Title hearing.trial in
    let Q : Due → Type 0 = λ d. Knows case (cert_in case []) d hearing.trial in
    record {
      read = read;
      lines = λ going. subst Q (sym first) (subst P (sym (told_nothing (length case.book.needs))) (refl, new-known case no_lines hearing.trial refl refl new));
    }

-- ---- what a piece adds
-- what is said of a certificate is the same for a line's own leaf, where it is a leaf's line
same_leaf : (cert : Certificate) (told : Item) (leaf own : Leaf) → (told ≡ item.Leaf → leaf ≡ own) → with_item cert told own ≡ with_item cert told leaf
same_leaf cert item.Leaf leaf own same = ap (λ (l : Leaf). with_item cert item.Leaf l) (sym (same refl))
same_leaf cert (item.Portfolio None) leaf own same = refl
same_leaf cert (item.Portfolio (Some count)) leaf own same = refl
same_leaf cert told leaf own same = refl

one_more : (cert : Certificate) (before : List Told) (said : Told) → fold with_told cert (before ++ said ∷ []) ≡ with_told (fold with_told cert before) said
one_more cert [] said = refl
one_more cert (first ∷ before) said = one_more (with_item cert first.item first.leaf) before said

-- what is told adds to the certificate what it says
more_told : (before after : List Told) (told : Item) (leaf : Leaf) → Tells before told leaf after → certificate_told after ≡ with_item (certificate_told before) told leaf
more_told before after told leaf (inl is) =
    ap certificate_told is.last ∙ one_more no_lines before is.said
    ∙ ap (λ (i : Item). with_item (certificate_told before) i is.said.leaf) (sym is.item_is) ∙ same_leaf (certificate_told before) told leaf is.said.leaf is.leaf_is
more_told before after told leaf (inr (nothing, same)) =
    ap certificate_told same ∙ ap (λ (i : Item). with_item (certificate_told before) i leaf) (sym nothing)

-- a line that comes is due
pub heard-comes : (case : CaseContents) (hearing : Hearing) (bytes piece : List ℕ) (fed : Fed) (new : TextReading) (leaf : Leaf) → HasHeard case hearing bytes →
    hearing.reader.fault ≡ None → Reads (length case.book.needs) bytes piece fed hearing.reader new → leaf ≡ new.leaf →
    Comes case (cert_in case bytes) (stage_due hearing.reader.stage) fed.item leaf hearing.trial
heard-comes case hearing bytes piece fed new leaf heard going reads lent =
    let P : Leaf → Type 0 = λ l. IsSuited (length case.book.needs) (stage_due hearing.reader.stage) fed.item l in
    record { knows = heard.lines going; suited = subst P (sym lent) reads.suited; few = reads.few }

-- and what it says is known then
pub heard-more : (case : CaseContents) (hearing : Hearing) (bytes piece : List ℕ) (fed : Fed) (new : TextReading) (leaf : Leaf) (trial : Trial) → HasHeard case hearing bytes →
    hearing.reader.fault ≡ None → Reads (length case.book.needs) bytes piece fed hearing.reader new → leaf ≡ new.leaf →
    ((cert : Certificate) (d : Due) → Comes case cert d fed.item leaf hearing.trial → Knows case (with_item cert fed.item leaf) (due_after d fed.item) trial) →
    HasHeard case (record { reader = new; trial = trial }) (bytes ++ take fed.used piece)
heard-more case hearing bytes piece fed new leaf trial heard going reads lent takes =
    let dates : ℕ = length case.book.needs in
    let more : List ℕ = bytes ++ take fed.used piece in
    let told : cert_in case more ≡ with_item (cert_in case bytes) fed.item leaf =
    more_told (told_in dates bytes) (told_in dates more) fed.item new.leaf reads.tells ∙ ap (λ (l : Leaf). with_item (cert_in case bytes) fed.item l) (sym lent) in
    let P : Certificate → Type 0 = λ cert. Knows case cert (stage_due new.stage) trial in
    let Q : Due → Type 0 = λ d. Knows case (with_item (cert_in case bytes) fed.item leaf) d trial in
    record {
      read = reads.read;
      lines = λ still. subst P (sym told) (subst Q (sym reads.due_is)
          (takes (cert_in case bytes) (stage_due hearing.reader.stage) (heard-comes case hearing bytes piece fed new leaf heard going reads lent)));
    }

-- a fault ends what is heard
pub heard-fault : (case : CaseContents) (hearing : Hearing) (bytes rest : List ℕ) (new : TextReading) (fault : CertFault) →
    ReadsFault (length case.book.needs) bytes rest fault new → HasHeard case (record { reader = new; trial = hearing.trial }) (bytes ++ rest)
heard-fault case hearing bytes rest new fault reads = record {
  read = reads.read;
  lines = λ going. (let bad : Some fault ≡ None = sym reads.stopped ∙ going in absurd (cc));
}

-- ---- the verdict
-- no reason of a certificate is of its grammar
abbrev NotGrammar : Option Reason → Type 0
NotGrammar None = Unit {0}
NotGrammar (Some (reason.Grammar fault)) = ⊥
NotGrammar (Some other) = Unit {0}

not_or : (a b : Option Reason) → NotGrammar a → NotGrammar b → NotGrammar (option_or a b)
not_or None b x y = y
not_or (Some why) b x y = x

not_bad : (o : Option ℕ) → NotGrammar (option_map reason.BadSplit o)
not_bad None = tt
not_bad (Some n) = tt

not_weak : (o : Option ℕ) → NotGrammar (option_map reason.WeakLeaf o)
not_weak None = tt
not_weak (Some n) = tt

not_gap : (b : Bool) → NotGrammar (then_some b reason.GapAbove)
not_gap true = tt
not_gap false = tt

not_permitted : (o : Option Buy) → NotGrammar (option_map (λ buy. reason.NotPermitted buy.line) o)
not_permitted None = tt
not_permitted (Some buy) = tt

not_short : (o : Option ℤ) → NotGrammar (option_map reason.ShortOn o)
not_short None = tt
not_short (Some day) = tt

not_above : (b : Bool) → NotGrammar (then_some b reason.YieldAbove)
not_above true = tt
not_above false = tt

not_tree : (case : CaseContents) (cert : Certificate) → NotGrammar (tree_reason case cert)
not_tree case cert =
    not_or (option_map reason.BadSplit (numbered (position is_bad_split (placed_nodes case.book cert.nodes))))
    (option_map reason.WeakLeaf (numbered (position (is_weak case (claim_of case.book cert)) (placed_nodes case.book cert.nodes))))
    (not_bad (numbered (position is_bad_split (placed_nodes case.book cert.nodes))))
    (not_weak (numbered (position (is_weak case (claim_of case.book cert)) (placed_nodes case.book cert.nodes))))

not_portfolio : (case : CaseContents) (buys : List Buy) → NotGrammar (portfolio_reason case buys)
not_portfolio case buys =
    not_or (option_map (λ (buy : Buy). reason.NotPermitted buy.line) (first_not_offered case.book.lines buys))
    (option_or (option_map reason.ShortOn (first_short_of case.book (plan_of case.book buys))) (then_some (not (is_within_limit case.limit case.book (plan_of case.book buys))) reason.YieldAbove))
    (not_permitted (first_not_offered case.book.lines buys))
    (not_or (option_map reason.ShortOn (first_short_of case.book (plan_of case.book buys))) (then_some (not (is_within_limit case.limit case.book (plan_of case.book buys))) reason.YieldAbove)
    (not_short (first_short_of case.book (plan_of case.book buys))) (not_above (not (is_within_limit case.limit case.book (plan_of case.book buys)))))

not_reason : (case : CaseContents) (cert : Certificate) (o : Option (List Buy)) → NotGrammar (reason_by case cert o)
not_reason case cert None = not_tree case cert
not_reason case cert (Some buys) =
    not_or (portfolio_reason case buys) (option_or (tree_reason case cert) (then_some (nat_lt case.allowance cert.gap) reason.GapAbove)) (not_portfolio case buys)
    (not_or (tree_reason case cert) (then_some (nat_lt case.allowance cert.gap) reason.GapAbove) (not_tree case cert) (not_gap (nat_lt case.allowance cert.gap)))

not_said : (case : CaseContents) (cert : Certificate) (fault : CertFault) (o : Option Reason) → NotGrammar o → verdict.No (reason.Grammar fault) ≡ accept.verdict_by case cert o → ⊥
not_said case cert fault None not_it e = by cert.buys e
  where
    by : (o : Option (List Buy)) → verdict.No (reason.Grammar fault) ≡ accept.yes_of case o cert.gap → ⊥
    by None e = absurd (cc)
    by (Some buys) e = absurd (cc)
not_said case cert fault (Some why) not_it e =
    let same : reason.Grammar fault ≡ why = cc in
    let P : Reason → Type 0 = λ w. NotGrammar (Some w) in
    subst P (sym same) not_it

not_judged : (case : CaseContents) (cert : Certificate) (fault : CertFault) → verdict.No (reason.Grammar fault) ≡ judged case cert → ⊥
unfolding judged
not_judged case cert fault e = not_said case cert fault (reason_of case cert) (not_reason case cert cert.buys) e

-- what is told of a certificate is the verdict on its text
told_verdict : (case : CaseContents) (bytes : List ℕ) (cert : Certificate) (told : Verdict) → IsCertificateText (length case.book.needs) cert bytes → told ≡ judged case cert → IsVerdict case bytes told
told_verdict case bytes cert (verdict.No (reason.Grammar fault)) is e = absurd (not_judged case cert fault e)
told_verdict case bytes cert told is e = (cert, is, e)

over_judges : (case : CaseContents) (cert : Certificate) (d : Due) (trial : Trial) → is_over d ≡ true → Knows case cert d trial → IsJudging case cert trial
over_judges case cert due.Nothing trial over knows = knows
over_judges case cert d trial over knows = absurd (cc)

pub heard-judges : (case : CaseContents) (hearing : Hearing) (bytes : List ℕ) → HasHeard case hearing bytes → EndsText (length case.book.needs) bytes hearing.reader →
    IsJudging case (cert_in case bytes) hearing.trial
heard-judges case hearing bytes heard ends = over_judges case (cert_in case bytes) (stage_due hearing.reader.stage) hearing.trial ends.over (heard.lines ends.going)

pub heard-verdict : (case : CaseContents) (hearing : Hearing) (bytes : List ℕ) (told : Verdict) → HasHeard case hearing bytes → EndsText (length case.book.needs) bytes hearing.reader →
    told ≡ verdict_on case hearing.trial → IsVerdict case bytes told
heard-verdict case hearing bytes told heard ends told_is =
    let judges : IsJudging case (cert_in case bytes) hearing.trial = heard-judges case hearing bytes heard ends in
    told_verdict case bytes (cert_in case bytes) told ends.text (told_is ∙ judged-known case (cert_in case bytes) hearing.trial judges)

-- ---- what is left of a piece
pub rest-drop : (front rest bytes : List ℕ) (used size : ℕ) → length rest ≤ size → front ++ rest ≡ bytes →
    (front ++ take used rest) ++ take (size - used) (drop used rest) ≡ bytes
rest-drop front rest bytes used size within h =
    let left : take (size - used) (drop used rest) ≡ drop used rest = take_all (size - used) (drop used rest) (omega (arith, length-drop used rest, within)) in
    append_assoc front (take used rest) (take (size - used) (drop used rest))
    ∙ ap (λ (bs : List ℕ). front ++ (take used rest ++ bs)) left
    ∙ ap (λ (bs : List ℕ). front ++ bs) (take-append-drop used rest) ∙ h

pub rest-few : (rest : List ℕ) (used size : ℕ) → length rest ≤ 65_536 → length (take (size - used) (drop used rest)) ≤ 65_536
rest-few rest used size few = omega (arith, length-take (size - used) (drop used rest), length-drop used rest, few)

pub heard-as : (case : CaseContents) (hearing : Hearing) (some other : List ℕ) → some ≡ other → HasHeard case hearing some → HasHeard case hearing other
heard-as case hearing some other same heard = subst (HasHeard case hearing) same heard

-- ---- the line of the gap
nodes_behind : (left trees : ℕ) (b : Bool) → is_before_gap (if b then due.End trees else due.Node left trees) ≡ false
nodes_behind left trees true = refl
nodes_behind left trees false = refl

not_both : (b : Bool) → b ≡ false → b ≡ true → ⊥
not_both b e h = absurd (cc)

-- once it ended, no line before it is due again
vectors_behind : (left : ℕ) (b : Bool) → is_before_gap (if b then due.Count else due.Vector left) ≡ false
vectors_behind left true = refl
vectors_behind left false = refl

before_back : (d : Due) (told : Item) → is_before_gap (due_after d told) ≡ true → is_before_gap d ≡ true
before_back d item.Nothing e = e
before_back d (item.Vectors count) e = e
before_back d item.Vector e = e
before_back due.Title told e = refl
before_back due.Portfolio told e = refl
before_back (due.Buy left least) told e = refl
before_back (due.Gap most) told e = refl
before_back due.VectorCount told e = absurd (cc)
before_back (due.Vector left) told e = absurd (not_both (is_before_gap (vectors_due (left - 1))) (vectors_behind (left - 1) (left - 1 == 0)) e)
before_back due.Count (item.Nodes count) e = absurd (not_both (is_before_gap (nodes_due count 1)) (nodes_behind count 1 (count == 0)) e)
before_back due.Count told e = absurd (cc)
before_back (due.Node left trees) (item.Split part at) e = absurd (not_both (is_before_gap (nodes_due (left - 1) (trees + 1))) (nodes_behind (left - 1) (trees + 1) (left - 1 == 0)) e)
before_back (due.Node left trees) told e = absurd (not_both (is_before_gap (nodes_due (left - 1) (trees - 1))) (nodes_behind (left - 1) (trees - 1) (left - 1 == 0)) e)
before_back (due.End trees) told e = absurd (cc)
before_back due.Nothing told e = absurd (cc)

pub still-before : (dates : ℕ) (bytes piece : List ℕ) (fed : Fed) (old new : TextReading) → Reads dates bytes piece fed old new → is_before_gap (stage_due new.stage) ≡ true → is_before_gap (stage_due old.stage) ≡ true
still-before dates bytes piece fed old new reads e = before_back (stage_due old.stage) fed.item (ap (λ (d : Due). is_before_gap d) (sym reads.due_is) ∙ e)

gap_due : (dates : ℕ) (d : Due) (cents : ℕ) (leaf : Leaf) → IsSuited dates d (item.Gap cents) leaf → (is_before_gap d ≡ true) × (due_after d (item.Gap cents) ≡ due.Count)
gap_due dates (due.Gap most) cents leaf suited = (refl, refl)
gap_due dates d cents leaf suited = absurd suited

pub gap-ends : (dates : ℕ) (bytes piece : List ℕ) (fed : Fed) (old new : TextReading) (cents : ℕ) → Reads dates bytes piece fed old new → fed.item ≡ item.Gap cents →
    (is_before_gap (stage_due old.stage) ≡ true) × (stage_due new.stage ≡ due.Count)
gap-ends dates bytes piece fed old new cents reads gap =
    let P : Item → Type 0 = λ i. IsSuited dates (stage_due old.stage) i new.leaf in
    let here = gap_due dates (stage_due old.stage) cents new.leaf (subst P gap reads.suited) in
    (here.0, reads.due_is ∙ ap (λ (i : Item). due_after (stage_due old.stage) i) gap ∙ here.1)
