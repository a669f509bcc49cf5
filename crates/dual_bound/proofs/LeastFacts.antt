-- What a line adds at least, while prices change that don't count for it.
use Rattle.std.proofs.Common.{◌≡◌, ◌∙◌, ◌⊎◌, ℕ, zero, suc, ◌+◌, ◌*◌, ◌<◌, ◌≤◌, ◌==◌, if◌then◌else◌, List, [], ◌∷◌, All, get_or, length, map, set, refl, sym, ap, subst, arith, inl, inr, ℤ, pos, ◌+ℤ◌, ◌-ℤ◌, ◌*ℤ◌, neg_ℤ, unsigned_abs}
use Rattle.std.specs.List.{AllZip, Contains, filter, sum_by}
use Rattle.std.proofs.lemmas.Bool.{cases_eq, cases_lt}
use Rattle.std.proofs.lemmas.List.{get_or-map, get_or-set_other, get_or_default, get_or_past}
use Rattle.std.proofs.lemmas.List.Sums.{sum_by-cons}
use Rattle.escrow_units.specs.Interest.{earned_of}
use Rattle.offer_book.specs.Book.{BookContents}
use Rattle.offer_book.specs.Portfolio.{line_cost, par}
use Rattle.offer_book.specs.Schedule.{kind_rate}
use Rattle.offer_book.specs.declared.coefficients.TheConstants.{COEFFICIENT_SCALE}
use Rattle.offer_book.specs.declared.line.Line.{Line}
use Rattle.offer_book.specs.declared.line.LineKind.{LineKind}
use Rattle.offer_book.specs.declared.line.LineKind.TheVariants.{Cash, Market, Security}
use Rattle.payment_schedule.specs.Schedule.{flow_by}
use Rattle.dual_bound.specs.Changes.{AreChangedDates}
use Rattle.dual_bound.specs.Columns.{IsColumn, IsOther, IsPlace, column_form, column_reduced, form_plus, is_other, is_regular, other_forms, paying, regular_form, signed_worth, worth_at, worth_on, worth_together}
use Rattle.dual_bound.specs.LeafBound.{cost_worth, credited, least_by, least_of_form, least_side, priced_cost, priced_form, signed_sum}
use Rattle.dual_bound.specs.Leasts.{AgreeInside, AreApart, AreLeasts, IsInside, IsLeast, IsPricedBy, IsPricedInside, IsRight, IsSpanOf}
use Rattle.dual_bound.specs.Loads.{unweighted, with_weights}
use Rattle.proof_tree.specs.Tree.{AreSumWeights, IsLeaf, with_price}
use Rattle.dual_bound.specs.declared.column.Column.{Column}
use Rattle.dual_bound.specs.declared.column.OtherPayment.{OtherPayment}
use Rattle.dual_bound.specs.declared.leasts.Least.{Least}
use Rattle.dual_bound.specs.declared.leasts.Leasts.{Leasts}
use Rattle.dual_bound.specs.declared.leasts.Span.{Span}
use Rattle.dual_bound.specs.declared.leasts.TheConstants.{PAST_DATES}
use Rattle.proof_tree.specs.declared.interval.Interval.{Interval}
use Rattle.proof_tree.specs.declared.tree.Leaf.{Leaf}
use Rattle.proof_tree.specs.declared.weights.SumWeight.{SumWeight}
use Rattle.dual_bound.specs.declared.worth.PricedDay.{PricedDay}
use Rattle.dual_bound.specs.declared.worth.Worth.{Worth}
use Rattle.dual_bound.proofs.ColumnLinks.{column-form, column-reduced}
use Rattle.dual_bound.proofs.ColumnMade.{zip-weaker}
use Rattle.dual_bound.proofs.DateFacts.{worth-stays}
use Rattle.dual_bound.proofs.TableauFacts.{zip-get, zip-right}

-- ---- sums of the same terms
same-sum : {X : Type 0} (f g : X → ℕ) (xs : List X) → All (λ x. f x ≡ g x) xs → sum_by f xs ≡ sum_by g xs
same-sum f g [] h = refl
same-sum f g (x ∷ xs) h = omega (arith, sum_by-cons f x xs, sum_by-cons g x xs, h 0 x (omega arith), same-sum f g xs (λ k d lt. h (suc k) d (omega arith)))

same-signed : {X : Type 0} (f g : X → ℤ) (xs : List X) → All (λ x. f x ≡ g x) xs → signed_sum f xs ≡ signed_sum g xs
same-signed f g [] h = refl
same-signed f g (x ∷ xs) h = λ i. h 0 x (omega arith) i +ℤ same-signed f g xs (λ k d lt. h (suc k) d (omega arith)) i

-- ---- columns at worths that are the same at their places
record AreSame (worths others : List Worth) (column : Column) : Type 0 where
  pub regular : All (λ place. worth_at worths place ≡ worth_at others place) column.places.items
  pub rest : All (λ (other : OtherPayment). worth_at worths other.place ≡ worth_at others other.place) column.others.items

same-together : (worths others : List Worth) (column : Column) → AreSame worths others column → worth_together worths column.places.items ≡ worth_together others column.places.items
same-together worths others column h =
    let above = same-sum (λ k. (worth_at worths k).above) (λ k. (worth_at others k).above) column.places.items (λ k d lt. ap (λ (w : Worth). w.above) (h.regular k d lt)) in
    let below = same-sum (λ k. (worth_at worths k).below) (λ k. (worth_at others k).below) column.places.items (λ k d lt. ap (λ (w : Worth). w.below) (h.regular k d lt)) in
    λ i. record { above = above i; below = below i }

same-regular : (worths others : List Worth) (column : Column) → AreSame worths others column → regular_form worths column ≡ regular_form others column
same-regular worths others column h =
    let together = same-together worths others column h in
    λ i. record {
      slope = pos (column.regular.low * (together i).below) -ℤ pos (column.regular.high * (together i).above);
      slack = column.regular.slack * ((together i).above + (together i).below);
    }

same-others : (worths others : List Worth) (column : Column) → AreSame worths others column → other_forms worths column.others.items ≡ other_forms others column.others.items
same-others worths others column h =
    let slope =
    same-signed (λ (o : OtherPayment). least_side (neg_ℤ (signed_worth (worth_at worths o.place))) o.coefficients.low o.coefficients.high)
    (λ (o : OtherPayment). least_side (neg_ℤ (signed_worth (worth_at others o.place))) o.coefficients.low o.coefficients.high) column.others.items
    (λ k d lt. ap (λ w. least_side (neg_ℤ (signed_worth w)) (get_or column.others.items k d).coefficients.low (get_or column.others.items k d).coefficients.high) (h.rest k d lt)) in
    let slack =
    same-sum (λ (o : OtherPayment). unsigned_abs (signed_worth (worth_at worths o.place)) * o.coefficients.slack)
    (λ (o : OtherPayment). unsigned_abs (signed_worth (worth_at others o.place)) * o.coefficients.slack) column.others.items
    (λ k d lt. ap (λ w. unsigned_abs (signed_worth w) * (get_or column.others.items k d).coefficients.slack) (h.rest k d lt)) in
    λ i. record { slope = slope i; slack = slack i }

same-form : (own : ℤ) (worths others : List Worth) (column : Column) → AreSame worths others column → column_form own worths column ≡ column_form own others column
same-form own worths others column h =
    let regular = same-regular worths others column h in
    let rest = same-others worths others column h in
    λ i. form_plus (form_plus (record { slope = least_side own column.cost_low column.cost_high; slack = unsigned_abs own * column.cost_slack }) (regular i)) (rest i)

same-reduced : (own : ℤ) (rate cost amount : ℕ) (worths others : List Worth) (column : Column) → AreSame worths others column
    → column_reduced own rate cost amount worths column ≡ column_reduced own rate cost amount others column
same-reduced own rate cost amount worths others column h =
    let together = same-together worths others column h in
    let paid =
    same-signed (λ (o : OtherPayment). signed_worth (worth_at worths o.place) *ℤ pos (flow_by rate amount o.payment).cents.0)
    (λ (o : OtherPayment). signed_worth (worth_at others o.place) *ℤ pos (flow_by rate amount o.payment).cents.0) column.others.items
    (λ k d lt. ap (λ w. signed_worth w *ℤ pos (flow_by rate amount (get_or column.others.items k d).payment).cents.0) (h.rest k d lt)) in
    λ i. pos COEFFICIENT_SCALE *ℤ (own *ℤ pos cost -ℤ (signed_worth (together i) *ℤ pos (earned_of amount rate 1 2) +ℤ paid i))

-- ---- lines at leaves that agree within a span
same-cost : (old new : Leaf) → old.rho ≡ new.rho → old.mu ≡ new.mu → (kind : LineKind) → cost_worth old kind ≡ cost_worth new kind
same-cost old new cost limit Cash = λ i. pos (cost i) -ℤ pos 0
same-cost old new cost limit (Security slgs) = λ i. pos (cost i) -ℤ pos (limit i)
same-cost old new cost limit (Market note) = λ i. pos (cost i) -ℤ pos (limit i)

same-at : (days : List PricedDay) (span : Span) (old new : Leaf) (place : ℕ) → AgreeInside span old new → IsPricedInside days span place → place < length days
    → worth_at (map (worth_on old) days) place ≡ worth_at (map (worth_on new) days) place
same-at days span old new place agree inside few =
    get_or-map (worth_on old) days place none nothing few ∙ worth-stays old new (get_or days place none) agree.limit (agree.prices (get_or days place none).need (inside none))
    ∙ sym (get_or-map (worth_on new) days place none nothing few)
  where
    none : PricedDay
    none = record { need = 0; power = 0 }

    nothing : Worth
    nothing = record { above = 0; below = 0 }

-- the places of a column are those of days
pub places-there : (n : ℕ) (book : BookContents) (line : Line) (days : List PricedDay) (column : Column) → IsColumn n book days line column → All (λ place. place < length days) column.places.items
places-there n book line days column own =
    zip-right (IsPlace n book line.kind days) (λ place. place < length days) (filter is_regular (paying book.days line)) column.places.items (λ p k at. at.there) own.places

pub others-there : (n : ℕ) (book : BookContents) (line : Line) (days : List PricedDay) (column : Column) → IsColumn n book days line column
    → All (λ (o : OtherPayment). o.place < length days) column.others.items
others-there n book line days column own =
    zip-right (IsOther n book line days) (λ (o : OtherPayment). o.place < length days) (filter is_other (paying book.days line)) column.others.items (λ p o at. at.place.there) own.others

same-worths : (n : ℕ) (book : BookContents) (line : Line) (days : List PricedDay) (column : Column) (span : Span) (old new : Leaf) → IsColumn n book days line column → IsSpanOf days column span
    → AgreeInside span old new → AreSame (map (worth_on old) days) (map (worth_on new) days) column
same-worths n book line days column span old new own inside agree = record {
  regular = λ k d lt. same-at days span old new (get_or column.places.items k d) agree (inside.places k d lt) (places-there n book line days column own k d lt);
  rest = λ k d lt. same-at days span old new (get_or column.others.items k d).place agree (inside.others k d lt) (others-there n book line days column own k d lt);
}

same-least : (n : ℕ) (book : BookContents) (old new : Leaf) (line : Line) (own_load : ℤ) (interval : Interval) → priced_form n book old line ≡ priced_form n book new line
    → ((units : ℕ) → priced_cost n book old line units ≡ priced_cost n book new line units) → least_by n book old line own_load interval ≡ least_by n book new line own_load interval
same-least n book old new line own_load interval form reduced =
    λ i. if interval.low == interval.high
    then reduced interval.low i -ℤ own_load *ℤ pos interval.low
    else least_of_form (credited (form i) own_load) line interval

-- weights of sums count for a line by its load alone
pub least-weighted : (n : ℕ) (book : BookContents) (leaf : Leaf) (weights : List SumWeight) (line : Line) (own_load : ℤ) (interval : Interval)
    → least_by n book leaf line own_load interval ≡ least_by n book (with_weights leaf weights) line own_load interval
unfolding priced_form priced_cost
least-weighted n book leaf weights line own_load interval = refl

pub form-weighted : (n : ℕ) (book : BookContents) (leaf : Leaf) (weights : List SumWeight) (line : Line) → priced_form n book leaf line ≡ priced_form n book (with_weights leaf weights) line
unfolding priced_form
form-weighted n book leaf weights line = refl

pub with-weights : (dates : ℕ) (leaf : Leaf) (weights : List SumWeight) → IsLeaf dates leaf → AreSumWeights dates weights → IsLeaf dates (with_weights leaf weights)
with-weights dates leaf weights well are = record { cost = well.cost; limit = well.limit; every_date = well.every_date; range = well.range; falling = well.falling; weights = are }

-- a span of a column's payments holds what prices its line
pub priced-by : (n : ℕ) (book : BookContents) (line : Line) (days : List PricedDay) (column : Column) (span : Span) → IsColumn n book days line column → IsSpanOf days column span
    → IsPricedBy n book line span
priced-by n book line days column span own inside =
    λ old new old_long new_long agree own_load interval.
    let worths = map (worth_on old) days in
    let others = map (worth_on new) days in
    let cost = same-cost old new agree.cost agree.limit line.kind in
    let same = same-worths n book line days column span old new own inside agree in
    same-least n book old new line own_load interval
    (sym (column-form n book old line days worths column old_long refl own) ∙ same-form (cost_worth old line.kind) worths others column same
    ∙ ap (λ z. column_form z others column) cost ∙ column-form n book new line days others column new_long refl own)
    (λ units.
    sym (column-reduced n book old line days worths column units old_long refl own)
    ∙ same-reduced (cost_worth old line.kind) (kind_rate line.kind) (line_cost line units) (par line units) worths others column same
    ∙ ap (λ z. column_reduced z (kind_rate line.kind) (line_cost line units) (par line units) others column) cost ∙ column-reduced n book new line days others column units new_long refl own)

-- ---- what changes
-- a span that is apart from a wider one is apart
pub still-apart : (span changed wider : Span) → wider.first ≤ changed.first → changed.last ≤ wider.last → AreApart span wider → AreApart span changed
still-apart span changed wider first last (inl before) = inl (omega (arith, before, first))
still-apart span changed wider first last (inr behind) = inr (omega (arith, behind, last))

-- no span is apart from that of all need dates
pub never-apart : (span wider : Span) → wider ≡ record { first = 0; last = PAST_DATES } → span.first ≤ PAST_DATES → AreApart span wider → ⊥
never-apart span wider all start (inl before) = omega (arith, before, ap (λ (s : Span). s.first) all)
never-apart span wider all start (inr behind) = omega (arith, behind, start, ap (λ (s : Span). s.last) all)

-- what is known stays known at another leaf, where the leaves agree within each span that is apart from what changed
pub all-stay : (n : ℕ) (book : BookContents) (old new : Leaf) (changed wider : Span) (leasts : List Least) → length old.prices ≡ length book.needs → length new.prices ≡ length book.needs
    → ((span : Span) → span.first ≤ PAST_DATES → AreApart span wider → AreApart span changed × AgreeInside span old new)
    → AllZip (IsLeast n book old changed) book.lines leasts → AllZip (IsLeast n book new wider) book.lines leasts
all-stay n book old new changed wider leasts old_long new_long agree h =
    zip-weaker (IsLeast n book old changed) (IsLeast n book new wider) book.lines leasts (λ line own is. stays line own is) h
  where
    stays : (line : Line) (own : Least) → IsLeast n book old changed line own → IsLeast n book new wider line own
    stays line own is = record {
      start = is.start;
      load = is.load;
      priced = is.priced;
      right = λ apart.
          is.right (agree own.span is.start apart).0
          ∙ is.priced old new old_long new_long (agree own.span is.start apart).1 own.unit_load own.interval;
    }

-- what is priced within a span is priced within a wider one, one payment more
pub inside-wider : (span wider : Span) (date : ℕ) → wider.first ≤ span.first → span.last ≤ wider.last → IsInside span date → IsInside wider date
inside-wider span wider date first last inside = (omega (arith, first, inside.0), omega (arith, last, inside.1))

pub inside-more : {X : Type 0} (place : X → ℕ) (days : List PricedDay) (span wider : Span) (xs : List X) (i : ℕ) (x : X) → i < length xs → x ≡ get_or xs i x → wider.first ≤ span.first
    → span.last ≤ wider.last → IsPricedInside days wider (place x) → ((k : ℕ) (d : X) → k < i → IsPricedInside days span (place (get_or xs k d)))
    → (k : ℕ) (d : X) → k < i + 1 → IsPricedInside days wider (place (get_or xs k d))
inside-more {X} place days span wider xs i x there is first last own before k d few =
    elim (cases_lt k i) [
      | inl earlier ↦ λ e. inside-wider span wider (get_or days (place (get_or xs k d)) e).need first last (before k d earlier e)
      | inr late ↦
          let at : i ≡ k = omega (arith, few, late) in
          subst (λ (y : X). IsPricedInside days wider (place y)) (is ∙ get_or_default xs i x d there ∙ ap (λ j. get_or xs j d) at) own
    ]

-- leaves of which one has another price agree within a span without its date
pub agree-without : (span wider : Span) (leaf : Leaf) (place price : ℕ) → wider.first ≤ place → place ≤ wider.last → AreApart span wider → AgreeInside span leaf (with_price leaf place price)
agree-without span wider leaf place price first last apart = record {
  cost = refl;
  limit = refl;
  prices = λ date inside. sym (get_or-set_other leaf.prices place date price 0 (other date inside apart));
}
  where
    other : (date : ℕ) → IsInside span date → AreApart span wider → date ≡ place → ⊥
    other date inside (inl before) at = omega (arith, inside.1, before, first, at)
    other date inside (inr behind) at = omega (arith, inside.0, behind, last, at)

-- leaves agree within a span that lies apart from all need dates whose prices differ
pub agree-apart : (span wider : Span) (old new : Leaf) (dates : List ℕ) → old.rho ≡ new.rho → old.mu ≡ new.mu → length old.prices ≡ length new.prices → AreChangedDates old.prices new.prices dates
    → All (IsInside wider) dates → AreApart span wider → AgreeInside span old new
agree-apart span wider old new dates cost limit long changes inside apart = record {
  cost = cost;
  limit = limit;
  prices = λ date within. same date within (cases_lt date (length old.prices)) (cases_eq (get_or old.prices date 0) (get_or new.prices date 0));
}
  where
    outside : (date : ℕ) → IsInside span date → IsInside wider date → AreApart span wider → ⊥
    outside date within at (inl before) = omega (arith, within.1, before, at.0)
    outside date within at (inr behind) = omega (arith, within.0, behind, at.1)

    among : (date : ℕ) → Contains dates date → IsInside wider date
    among date at = subst (IsInside wider) at.2 (inside at.0 date at.1)

    same : (date : ℕ) → IsInside span date → (date < length old.prices) ⊎ (length old.prices ≤ date) → (get_or old.prices date 0 ≡ get_or new.prices date 0) ⊎ ¬ (get_or old.prices date 0 ≡ get_or new.prices date 0)
        → get_or old.prices date 0 ≡ get_or new.prices date 0
    same date within few (inl is) = is
    same date within (inl few) (inr differ) = absurd (outside date within (among date (changes.every date few differ)) apart)
    same date within (inr past) (inr differ) = get_or_past old.prices date 0 past ∙ sym (get_or_past new.prices date 0 (omega (arith, past, long)))

-- ---- the leasts of lines
-- where each is right, each is known, whatever changes
pub all-right : (n : ℕ) (book : BookContents) (leaf : Leaf) (changed after : Span) (lines : List Line) (leasts : List Least) → AllZip (IsLeast n book leaf changed) lines leasts
    → ((k : ℕ) (d : Line) (e : Least) → k < length lines → IsRight n book leaf (get_or lines k d) (get_or leasts k e)) → AllZip (IsLeast n book leaf after) lines leasts
all-right n book leaf changed after [] [] h right = tt
all-right n book leaf changed after [] (own ∷ leasts) h right = absurd h
all-right n book leaf changed after (line ∷ lines) [] h right = absurd h
all-right n book leaf changed after (line ∷ lines) (own ∷ leasts) h right = (
  record { start = h.0.start; load = h.0.load; priced = h.0.priced; right = λ apart. right 0 line own (omega arith) },
  all-right n book leaf changed after lines leasts h.1 (λ k d e lt. right (suc k) d e (omega arith)),
)

-- pairs, of which one is put
pub zip-set : {A B : Type 0} (R : A → B → Type 0) (xs : List A) (ys : List B) (i : ℕ) (x : A) (y : B) → AllZip R xs ys → i < length xs → R (get_or xs i x) y → AllZip R xs (set ys i y)
zip-set R [] ys i x y h few own = absurd (omega arith)
zip-set R (a ∷ xs) [] i x y h few own = absurd h
zip-set R (a ∷ xs) (b ∷ ys) zero x y h few own = (own, h.1)
zip-set R (a ∷ xs) (b ∷ ys) (suc i) x y h few own = (h.0, zip-set R xs ys i x y h.1 (omega arith) own)

-- what is known of a line
pub known-least : (n : ℕ) (book : BookContents) (leaf : Leaf) (leasts : Leasts) (line : ℕ) (own : Least) → AreLeasts n book leaf leasts → line < length book.lines
    → own ≡ get_or leasts.lines.items line own → (d : Line) → IsLeast n book leaf leasts.changed (get_or book.lines line d) own
known-least n book leaf leasts line own h few is d =
    subst (IsLeast n book leaf leasts.changed (get_or book.lines line d)) (sym is) (zip-get (IsLeast n book leaf leasts.changed) book.lines leasts.lines.items line d own h few)

pub same-interval : (first second : Interval) → first.low ≡ second.low → first.high ≡ second.high → first ≡ second
same-interval first second low high = λ i. record { low = low i; high = high i }

-- what was found of the lines so far is right, one line more
pub right-more : (n : ℕ) (book : BookContents) (leaf : Leaf) (old new : List Least) (line : ℕ)
    → ((k : ℕ) (d : Line) (e : Least) → k < line → IsRight n book leaf (get_or book.lines k d) (get_or old k e))
    → ((d : Line) (e : Least) → IsRight n book leaf (get_or book.lines line d) (get_or new line e)) → ((k : ℕ) (e : Least) → (k ≡ line → ⊥) → get_or new k e ≡ get_or old k e)
    → (k : ℕ) (d : Line) (e : Least) → k < line + 1 → IsRight n book leaf (get_or book.lines k d) (get_or new k e)
right-more n book leaf old new line before own others k d e few =
    elim (cases_lt k line) [
      | inl earlier ↦ subst (IsRight n book leaf (get_or book.lines k d)) (sym (others k e (λ at. omega (arith, earlier, at)))) (before k d e earlier)
      | inr late ↦
          let at : line ≡ k = omega (arith, few, late) in
          subst (λ j. IsRight n book leaf (get_or book.lines j d) (get_or new j e)) at (own d e)
    ]

-- what is known of lines doesn't rest on the weights of sums of a leaf: a least has its load with it
pub leasts-unweighted : (n : ℕ) (book : BookContents) (leaf : Leaf) (leasts : Leasts) → AreLeasts n book leaf leasts → AreLeasts n book (unweighted leaf) leasts
leasts-unweighted n book leaf leasts are =
    zip-weaker (IsLeast n book leaf leasts.changed) (IsLeast n book (unweighted leaf) leasts.changed) book.lines leasts.lines.items
    (λ line own is.
    record {
      start = is.start;
      load = is.load;
      priced = is.priced;
      right = λ apart. is.right apart ∙ least-weighted n book leaf [] line own.unit_load own.interval;
    }) are
