-- A tableau, a line at a time.
use Rattle.std.proofs.Common.{◌≡◌, ◌∙◌, ℕ, None, Some, zero, suc, ◌+◌, ◌*◌, ◌/◌, ◌<◌, ◌≤◌, List, [], ◌∷◌, ◌++◌, All, get_or, length, map, take, sym, ap, subst, arith, inl, inr, ◌⊎◌, ℤ, ◌+ℤ◌, ◌-ℤ◌, pos, set}
use Rattle.std.specs.List.{AllZip, filter, zip}
use Rattle.std.proofs.lemmas.Int.{ints}
use Rattle.std.proofs.Math.Nat.{mul-le-mul_left}
use Rattle.std.proofs.lemmas.Bool.{cases_lt}
use Rattle.std.proofs.lemmas.List.{get_or_past, length-map, take_more}
use Rattle.std.proofs.lemmas.List.Elements.{All-cons, All-map, All-nil, All-same}
use Rattle.std.proofs.lemmas.Slice.Zip.{AllZip-long}
use Rattle.fixed_powers.specs.DiscountPowers.{one}
use Rattle.offer_book.specs.Book.{BookContents, IsBook, IsLine}
use Rattle.offer_book.specs.declared.coefficients.TheConstants.{COEFFICIENT_SCALE}
use Rattle.offer_book.specs.declared.line.Line.{Line}
use Rattle.offer_book.specs.declared.line.LineKind.TheVariants.{Cash}
use Rattle.dual_bound.specs.Columns.{Extends, IsColumn, IsLightWorth, IsOther, IsPlace, IsRun, IsRunOf, IsSmallColumn, IsTableau, is_other, is_regular, paying, worth_at, worth_between, worth_on, worth_together}
use Rattle.dual_bound.specs.LeafBound.{bound_of, least_within, priced_needs, signed_sum, weighed_ends}
use Rattle.proof_tree.specs.Tree.{IsLeaf}
use Rattle.dual_bound.specs.declared.column.Column.{Column}
use Rattle.dual_bound.specs.declared.column.OtherPayment.{OtherPayment}
use Rattle.proof_tree.specs.declared.prices.TheConstants.{PRICE_SCALE}
use Rattle.node_ranges.specs.Ranges.{RangesContents, with_interval}
use Rattle.proof_tree.specs.declared.interval.Interval.{Interval}
use Rattle.proof_tree.specs.declared.tree.Part.TheVariants as part
use Rattle.dual_bound.specs.declared.series.Run.{Run}
use Rattle.dual_bound.specs.declared.tableau.Tableau.{Tableau}
use Rattle.proof_tree.specs.declared.tree.Leaf.{Leaf}
use Rattle.dual_bound.specs.declared.worth.PricedDay.{PricedDay}
use Rattle.dual_bound.specs.declared.worth.Worth.{Worth}
use Rattle.dual_bound.proofs.ColumnMade.{column-stays, zip-push, zip-weaker}
use Rattle.dual_bound.proofs.Soundness.{all-lines}
use Rattle.dual_bound.proofs.SumFacts.{joined, run-worth, together-light}

pub zip-get : {A B : Type 0} (R : A → B → Type 0) (xs : List A) (ys : List B) (i : ℕ) (d : A) (e : B) → AllZip R xs ys → i < length xs → R (get_or xs i d) (get_or ys i e)
zip-get R [] ys i d e h few = absurd (omega arith)
zip-get R (x ∷ xs) [] i d e h few = absurd h
zip-get R (x ∷ xs) (y ∷ ys) zero d e h few = h.0
zip-get R (x ∷ xs) (y ∷ ys) (suc i) d e h few = zip-get R xs ys i d e h.1 (omega arith)

pub zip-right : {A B : Type 0} (R : A → B → Type 0) (P : B → Type 0) (xs : List A) (ys : List B) → ((x : A) (y : B) → R x y → P y) → AllZip R xs ys → All P ys
zip-right R P [] [] f h = All-nil P
zip-right R P [] (y ∷ ys) f h = absurd h
zip-right R P (x ∷ xs) [] f h = absurd h
zip-right R P (x ∷ xs) (y ∷ ys) f h = All-cons P y ys (f x y h.0) (zip-right R P xs ys f h.1)

-- a worth is at most 2
light-worth : (dates : ℕ) (leaf : Leaf) (day : PricedDay) → IsLeaf dates leaf → day.power ≤ one → IsLightWorth (worth_on leaf day)
light-worth dates leaf day well power =
    light (get_or leaf.prices day.need 0) (leaf.mu * day.power / one) (price (cases_lt day.need (length leaf.prices))) (omega (arith, well.limit, mul-le-mul_left leaf.mu power))
  where
    light : (price limit : ℕ) → price ≤ 2 * PRICE_SCALE → limit ≤ PRICE_SCALE → IsLightWorth (worth_between price limit)
    light price limit a b = omega arith

    price : (day.need < length leaf.prices) ⊎ (length leaf.prices ≤ day.need) → get_or leaf.prices day.need 0 ≤ 2 * PRICE_SCALE
    price (inl there) = well.range day.need 0 there
    price (inr past) = omega (arith, get_or_past leaf.prices day.need 0 past)

-- what is known of a line and its column
pub record IsReady (book : BookContents) (tableau : Tableau) (line : Line) (column : Column) : Type 0 where
  pub is_line : IsLine book.days line
  pub is_column : IsColumn tableau.yield_units.0 book tableau.days.items line column
  pub small : IsSmallColumn column
  pub there : All (λ place. place < length tableau.priced.worths.items) column.places.items
  pub others_there : All (λ (other : OtherPayment). other.place < length tableau.priced.worths.items) column.others.items
  pub light : All IsLightWorth tableau.priced.worths.items

pub ready : (book : BookContents) (t : Tableau) (place : ℕ) (line : Line) (column : Column) → IsBook book → IsTableau book t → place < length book.lines
    → line ≡ get_or book.lines place line → column ≡ get_or t.columns.items place column → IsReady book t line column
ready book t place line column limits h few is column_is = record {
  is_line = subst (IsLine book.days) (sym is) (all-lines book.days book.lines limits.lines place line few);
  is_column = own;
  small = subst IsSmallColumn (sym column_is) (h.small place column (omega (arith, few, columns-long)));
  there = zip-right (IsPlace t.yield_units.0 book line.kind t.days.items) (λ place. place < length t.priced.worths.items) (filter is_regular (paying book.days line)) column.places.items
      (λ p k at. omega (arith, at.there, days)) own.places;
  others_there = zip-right (IsOther t.yield_units.0 book line t.days.items) (λ (o : OtherPayment). o.place < length t.priced.worths.items) (filter is_other (paying book.days line)) column.others.items
      (λ p o at. omega (arith, at.place.there, days)) own.others;
  light = All-same IsLightWorth t.priced.worths.items (map (worth_on t.priced.leaf) t.days.items) h.worths
      (All-map IsLightWorth (worth_on t.priced.leaf) t.days.items (λ k d lt. light-worth (length book.needs) t.priced.leaf (get_or t.days.items k d) h.leaf (h.powers k d lt)));
}
  where
    own : IsColumn t.yield_units.0 book t.days.items line column
    own =
        subst (λ l. IsColumn t.yield_units.0 book t.days.items l column) (sym is)
        (subst (IsColumn t.yield_units.0 book t.days.items (get_or book.lines place line)) (sym column_is)
        (zip-get (IsColumn t.yield_units.0 book t.days.items) book.lines t.columns.items place line column h.columns few))

    columns-long : length t.columns.items ≡ length book.lines
    columns-long = AllZip-long (IsColumn t.yield_units.0 book t.days.items) book.lines t.columns.items h.columns

    days : length t.priced.worths.items ≡ length t.days.items
    days = ap length h.worths ∙ length-map t.days.items (worth_on t.priced.leaf)

-- the places of columns are those of days
pub columns-there : (n : ℕ) (book : BookContents) (days : List PricedDay) (lines : List Line) (columns : List Column) → AllZip (IsColumn n book days) lines columns
    → All (λ (column : Column). All (λ place. place < length days) column.places.items) columns
columns-there n book days lines columns h =
    zip-right (IsColumn n book days) (λ (column : Column). All (λ place. place < length days) column.places.items) lines columns
    (λ line column own.
    zip-right (IsPlace n book line.kind days) (λ place. place < length days) (filter is_regular (paying book.days line)) column.places.items (λ p k at. at.there) own.places) h

-- days are worth at most 2 each
pub worths-light : (dates : ℕ) (leaf : Leaf) (days : List PricedDay) (worths : List Worth) → IsLeaf dates leaf → All (λ (priced : PricedDay). priced.power ≤ one) days
    → worths ≡ map (worth_on leaf) days → All IsLightWorth worths
worths-light dates leaf days worths well powers is =
    All-same IsLightWorth worths (map (worth_on leaf) days) is (All-map IsLightWorth (worth_on leaf) days (λ k d lt. light-worth dates leaf (get_or days k d) well (powers k d lt)))

-- the run of a line, and what it is worth
pub record IsRunWorth (t : Tableau) (column : Column) (run : Run) : Type 0 where
  pub to : run.to < length t.priced.sums.items
  pub from : run.from < length t.priced.sums.items
  pub worth : worth_at t.priced.sums.items run.to ≡ joined (worth_at t.priced.sums.items run.from) (worth_together t.priced.worths.items column.places.items)
  pub light : (worth_together t.priced.worths.items column.places.items).above + (worth_together t.priced.worths.items column.places.items).below ≤ 84 * (2 * PRICE_SCALE)

pub runs-long : (book : BookContents) (t : Tableau) → IsTableau book t → length t.series.runs.items ≡ length book.lines
runs-long book t h =
    AllZip-long (IsRunOf t.series.stops.items) t.columns.items t.series.runs.items h.series.runs
    ∙ AllZip-long (IsColumn t.yield_units.0 book t.days.items) book.lines t.columns.items h.columns

pub run-of : (book : BookContents) (t : Tableau) (place : ℕ) (d : Column) (run : Run) → IsTableau book t → place < length book.lines → get_or t.series.runs.items place None ≡ Some run
    → IsRunWorth t (get_or t.columns.items place d) run
run-of book t place d run h few is = record {
  to = omega (arith, own.there, h.sums.every);
  from = omega (arith, own.there, own.long, h.sums.every);
  worth = run-worth t.priced.worths.items t.series.stops.items t.priced.sums.items column.places.items run h.sums own;
  light = omega (
    arith,
    together-light t.priced.worths.items column.places.items (worths-light (length book.needs) t.priced.leaf t.days.items t.priced.worths.items h.leaf h.powers h.worths)
        (λ k e lt. omega (arith, columns-there t.yield_units.0 book t.days.items book.lines t.columns.items h.columns place d there k e lt, ap length h.worths, length-map t.days.items (worth_on t.priced.leaf))),
    (h.small place d there).few,
  );
}
  where
    column : Column
    column = get_or t.columns.items place d

    there : place < length t.columns.items
    there = omega (arith, few, AllZip-long (IsColumn t.yield_units.0 book t.days.items) book.lines t.columns.items h.columns)

    own : IsRun t.series.stops.items column.places.items run
    own =
        subst (IsRunOf t.series.stops.items column) is
        (zip-get (IsRunOf t.series.stops.items) t.columns.items t.series.runs.items place d None h.series.runs there)

pub columns-long : (book : BookContents) (t : Tableau) → IsTableau book t → length t.columns.items ≡ length book.lines
columns-long book t h = AllZip-long (IsColumn t.yield_units.0 book t.days.items) book.lines t.columns.items h.columns

-- what is known of the regular days of a line
pub record AreReadyDays (t : Tableau) (column : Column) : Type 0 where
  pub there : All (λ place. place < length t.priced.worths.items) column.places.items
  pub light : All IsLightWorth t.priced.worths.items
  pub few : length column.places.items ≤ 84

pub ready-days : (book : BookContents) (t : Tableau) (place : ℕ) (column : Column) → IsTableau book t → place < length book.lines → column ≡ get_or t.columns.items place column → AreReadyDays t column
ready-days book t place column h few is = record {
  there = λ k d lt. omega (arith, days k d lt, ap length h.worths, length-map t.days.items (worth_on t.priced.leaf));
  light = worths-light (length book.needs) t.priced.leaf t.days.items t.priced.worths.items h.leaf h.powers h.worths;
  few = (subst IsSmallColumn (sym is) (h.small place column there)).few;
}
  where
    there : place < length t.columns.items
    there = omega (arith, few, columns-long book t h)

    days : All (λ place. place < length t.days.items) column.places.items
    days =
        subst (λ (own : Column). All (λ place. place < length t.days.items) own.places.items) (sym is)
        (columns-there t.yield_units.0 book t.days.items book.lines t.columns.items h.columns place column there)

-- a line, where none is named
pub some-line : Line
some-line = record { kind = Cash; step = 1; least = 1; most = 0 }

-- an element of a list that reaches so far
one-of : {A : Type 0} (xs : List A) (i : ℕ) → i < length xs → A
one-of [] i few = absurd (omega arith)
one-of (x ∷ xs) i few = x

-- a line's column, where none is named
pub some-column : (book : BookContents) (t : Tableau) (place : ℕ) → IsTableau book t → place < length book.lines → Column
some-column book t place h few = one-of t.columns.items place (omega (arith, few, columns-long book t h))

-- columns, one more
pub columns-more : (n : ℕ) (book : BookContents) (days more : List PricedDay) (lines : List Line) (i : ℕ) (line : Line) (columns : List Column) (column : Column) → i < length lines
    → line ≡ get_or lines i line → Extends days more → AllZip (IsColumn n book days) (take i lines) columns → IsColumn n book more line column
    → AllZip (IsColumn n book more) (take (i + 1) lines) (columns ++ column ∷ [])
columns-more n book days more lines i line columns column few is e h own =
    subst (λ ls. AllZip (IsColumn n book more) ls (columns ++ column ∷ [])) (sym (take_more lines i line few ∙ ap (λ l. take i lines ++ l ∷ []) (sym is)))
    (zip-push (IsColumn n book more) (take i lines) columns line column
    (zip-weaker (IsColumn n book days) (IsColumn n book more) (take i lines) columns (column-stays n book days more e) h) own)

-- a sum over the lines, where one interval is put
sum-set : (f : Line × Interval → ℤ) (lines : List Line) (ranges : List Interval) (place : ℕ) (interval : Interval) (d : Line) (e : Interval) → place < length lines → length lines ≡ length ranges
    → (signed_sum f (zip lines ranges) -ℤ f (get_or lines place d, get_or ranges place e)) +ℤ f (get_or lines place d, interval) ≡ signed_sum f (zip lines (set ranges place interval))
sum-set f [] ranges place interval d e few same = absurd (omega arith)
sum-set f (line ∷ lines) [] place interval d e few same = absurd (omega arith)
sum-set f (line ∷ lines) (own ∷ ranges) zero interval d e few same = omega (arith, ints)
sum-set f (line ∷ lines) (own ∷ ranges) (suc place) interval d e few same =
    joined (f (line, own)) _ _ _ _ (sum-set f lines ranges place interval d e (omega arith) (omega arith))
  where
    joined : (first sum old new rest : ℤ) → (sum -ℤ old) +ℤ new ≡ rest → ((first +ℤ sum) -ℤ old) +ℤ new ≡ first +ℤ rest
    joined first sum old new rest h = omega (arith, ints)

-- the bound, where one interval is put
pub bound-set : (n : ℕ) (book : BookContents) (leaf : Leaf) (ranges : RangesContents) (place : ℕ) (interval : Interval) (d : Line) (e : Interval) → place < length book.lines
    → length book.lines ≡ length ranges.lines
    → (bound_of n book ranges leaf -ℤ least_within n book leaf (get_or book.lines place d) (get_or ranges.lines place e)) +ℤ least_within n book leaf (get_or book.lines place d) interval
    ≡ bound_of n book (with_interval ranges (part.Line place) interval) leaf
unfolding bound_of
bound-set n book leaf ranges place interval d e few same =
    joined (pos (COEFFICIENT_SCALE * priced_needs book.needs leaf.prices) +ℤ weighed_ends book ranges.sums leaf.weights)
    (signed_sum (λ (p : Line × Interval). least_within n book leaf p.0 p.1) (zip book.lines ranges.lines))
    (least_within n book leaf (get_or book.lines place d) (get_or ranges.lines place e))
    (least_within n book leaf (get_or book.lines place d) interval)
    (signed_sum (λ (p : Line × Interval). least_within n book leaf p.0 p.1) (zip book.lines (set ranges.lines place interval)))
    (sum-set (λ (p : Line × Interval). least_within n book leaf p.0 p.1) book.lines ranges.lines place interval d e few same)
  where
    joined : (first sum old new rest : ℤ) → (sum -ℤ old) +ℤ new ≡ rest → ((first +ℤ sum) -ℤ old) +ℤ new ≡ first +ℤ rest
    joined first sum old new rest h = omega (arith, ints)
