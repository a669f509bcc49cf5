-- A column is its line: at the worths of a leaf, its form and its reduced cost are the line's.
use Rattle.std.proofs.Common.{◌≡◌, ◌∙◌, ℕ, ◌+◌, ◌-◌, ◌*◌, ◌/◌, ◌==◌, List, [], ◌∷◌, cond, length, map, refl, sym, ap, arith, ℤ, pos, ◌+ℤ◌, ◌-ℤ◌, ◌*ℤ◌, neg_ℤ, int_le, unsigned_abs, Bool, true, false, not, ◌&&◌, if◌then◌else◌}
use Rattle.std.specs.List.{AllZip, filter, sum_by}
use Rattle.std.proofs.lemmas.Bool.Decides.{nat_tests}
use Rattle.std.proofs.lemmas.Int.{ints}
use Rattle.std.proofs.lemmas.List.{get_or-map}
use Rattle.std.proofs.lemmas.List.Sums.{sum_by-cons}
use Rattle.escrow_units.specs.Interest.{earned_of}
use Rattle.escrow_units.specs.declared.security.Flow.{Flow}
use Rattle.fixed_powers.specs.DiscountPowers.{one}
use Rattle.offer_book.specs.Book.{BookContents}
use Rattle.offer_book.specs.Coefficients.{cost_coefficients, interest_high, interest_low, pay_coefficients, pay_by}
use Rattle.offer_book.specs.Portfolio.{line_cost, line_payments, par}
use Rattle.offer_book.specs.Schedule.{kind_rate, schedule_of}
use Rattle.offer_book.specs.declared.coefficients.PayCoefficients.{PayCoefficients}
use Rattle.offer_book.specs.declared.coefficients.TheConstants.{COEFFICIENT_SCALE}
use Rattle.offer_book.specs.declared.line.Line.{Line}
use Rattle.offer_book.specs.declared.line.LineKind.{LineKind}
use Rattle.payment_schedule.specs.Schedule.{flow_by, half_year_accrual}
use Rattle.offer_book.specs.declared.line.LineKind.TheVariants.{Cash, Market, Security}
use Rattle.payment_schedule.specs.declared.schedule.ScheduledPayment.{ScheduledPayment}
use Rattle.dual_bound.specs.Columns.{IsColumn, IsOther, IsPlace, column_form, column_paid, column_reduced, is_other, is_regular, kind_power, other_forms, paying, pays_at, signed_worth, worth_at, worth_between, worth_on, worth_together}
use Rattle.dual_bound.specs.LeafBound.{cost_worth, priced_form, least_side, limit_price, limit_multiplier, paid_worth, price_on, priced_cost, signed_sum}
use Rattle.dual_bound.specs.declared.column.Column.{Column}
use Rattle.dual_bound.specs.declared.column.OtherPayment.{OtherPayment}
use Rattle.proof_tree.specs.declared.tree.Leaf.{Leaf}
use Rattle.dual_bound.specs.declared.worth.PricedDay.{PricedDay}
use Rattle.dual_bound.specs.declared.worth.Worth.{Worth}
use Rattle.dual_bound.proofs.FormFacts.{priced_form-is}
use Rattle.dual_bound.proofs.PayingFacts.{kept-count, kept-sum, no-side, unpaid-cents, unpaid-high, unpaid-low, unpaid-slack}
use Rattle.dual_bound.proofs.Signed.{mul-comm, neg-mul, pos-mul, signed_sum-difference, signed_sum-scaled}
use Rattle.dual_bound.proofs.Sizes.{pay_slack, pays_slope}

-- ---- what a cent is worth on the day at a place
limited : (n : ℕ) (settle : ℤ) (leaf : Leaf) (kind : LineKind) (day : ℤ) → leaf.mu * kind_power n settle kind day / one ≡ limit_price n settle (limit_multiplier leaf kind) day
limited n settle leaf Cash day = omega arith
limited n settle leaf (Security slgs) day = refl
limited n settle leaf (Market note) day = refl

none : Worth
none = record { above = 0; below = 0 }

placed : (n : ℕ) (book : BookContents) (leaf : Leaf) (kind : LineKind) (days : List PricedDay) (payment : ScheduledPayment) (place : ℕ) → length leaf.prices ≡ length book.needs
    → IsPlace n book kind days payment place
    → worth_at (map (worth_on leaf) days) place
    ≡ worth_between (price_on book.needs leaf.prices payment.day) (limit_price n book.days.settle (limit_multiplier leaf kind) payment.day)
placed n book leaf kind days payment place same at =
    let d : PricedDay = record { need = 0; power = 0 } in
    let limit = ap (λ power. leaf.mu * power / one) (at.priced d).power ∙ limited n book.days.settle leaf kind payment.day in
    get_or-map (worth_on leaf) days place d (record { above = 0; below = 0 }) at.there ∙ (λ i. worth_between ((at.priced d).need leaf.prices same i) (limit i))

-- a price less what the limit takes
signed-between : (price limit : ℕ) → signed_worth (worth_between price limit) ≡ pos price -ℤ pos limit
signed-between price limit = omega (arith, ints)

-- the least that a payment can add, by what is above nothing and what is below
side-split : (price limit low high : ℕ) → least_side (neg_ℤ (pos price -ℤ pos limit)) low high ≡ pos (low * (limit - price)) -ℤ pos (high * (price - limit))
side-split price limit low high = at (int_le (pos 0) (neg_ℤ (pos price -ℤ pos limit))) refl
  where
    weight : ℤ
    weight = neg_ℤ (pos price -ℤ pos limit)

    at : (t : Bool) → int_le (pos 0) (neg_ℤ (pos price -ℤ pos limit)) ≡ t
        → (if t then neg_ℤ (pos price -ℤ pos limit) *ℤ pos low else neg_ℤ (pos price -ℤ pos limit) *ℤ pos high) ≡ pos (low * (limit - price)) -ℤ pos (high * (price - limit))
    at true test =
        let is : neg_ℤ (pos price -ℤ pos limit) ≡ pos (limit - price) = omega (arith, ints) in
        let nothing : price - limit ≡ 0 = omega (arith, ints) in
        ap (λ z. z *ℤ pos low) is ∙ pos-mul (limit - price) low ∙ omega (arith, ints, ap (λ k. high * k) nothing)
    at false test =
        let is : neg_ℤ (pos price -ℤ pos limit) ≡ neg_ℤ (pos (price - limit)) = omega (arith, ints) in
        let nothing : limit - price ≡ 0 = omega (arith, ints) in
        let product = neg-mul (pos (price - limit)) (pos high) ∙ ap (λ z. neg_ℤ z) (pos-mul (price - limit) high) in
        ap (λ z. z *ℤ pos high) is ∙ product ∙ omega (arith, ints, ap (λ k. low * k) nothing)

abs-split : (price limit : ℕ) → unsigned_abs (pos price -ℤ pos limit) ≡ (price - limit) + (limit - price)
abs-split price limit = omega (arith, ints)

-- ---- sums over a schedule, by the column's two parts of it
shared-sum : (f : ScheduledPayment → ℤ) (g : ℕ → ℤ) (h : OtherPayment → ℤ) (R : ScheduledPayment → ℕ → Type 0) (S : ScheduledPayment → OtherPayment → Type 0)
    → ((p : ScheduledPayment) (k : ℕ) → is_regular p ≡ true → R p k → f p ≡ g k) → ((p : ScheduledPayment) (o : OtherPayment) → S p o → f p ≡ h o)
    → (schedule : List ScheduledPayment) (places : List ℕ) (others : List OtherPayment) → AllZip R (filter is_regular schedule) places → AllZip S (filter is_other schedule) others
    → signed_sum f schedule ≡ signed_sum g places +ℤ signed_sum h others
shared-sum f g h R S fg fh [] [] [] r s = omega (arith, ints)
shared-sum f g h R S fg fh [] [] (o ∷ others) r s = absurd s
shared-sum f g h R S fg fh [] (k ∷ places) others r s = absurd r
shared-sum f g h R S fg fh (p ∷ ps) places others r s = at (is_regular p) refl places others r s (λ places others r s. shared-sum f g h R S fg fh ps places others r s)
  where
    at : (t : Bool) → is_regular p ≡ t → (places : List ℕ) (others : List OtherPayment)
        → AllZip R (cond t (p ∷ filter is_regular ps) (filter is_regular ps)) places → AllZip S (cond (not t) (p ∷ filter is_other ps) (filter is_other ps)) others
        → ((places : List ℕ) (others : List OtherPayment) → AllZip R (filter is_regular ps) places → AllZip S (filter is_other ps) others
        → signed_sum f ps ≡ signed_sum g places +ℤ signed_sum h others)
        → f p +ℤ signed_sum f ps ≡ signed_sum g places +ℤ signed_sum h others
    at true e [] others r s rest = absurd r
    at true e (k ∷ places) others r s rest = omega (arith, ints, fg p k e r.0, rest places others r.1 s)
    at false e places [] r s rest = absurd s
    at false e places (o ∷ others) r s rest = omega (arith, ints, fh p o s.0, rest places others r s.1)

shared-count : (f : ScheduledPayment → ℕ) (g : ℕ → ℕ) (h : OtherPayment → ℕ) (R : ScheduledPayment → ℕ → Type 0) (S : ScheduledPayment → OtherPayment → Type 0)
    → ((p : ScheduledPayment) (k : ℕ) → is_regular p ≡ true → R p k → f p ≡ g k) → ((p : ScheduledPayment) (o : OtherPayment) → S p o → f p ≡ h o)
    → (schedule : List ScheduledPayment) (places : List ℕ) (others : List OtherPayment) → AllZip R (filter is_regular schedule) places → AllZip S (filter is_other schedule) others
    → sum_by f schedule ≡ sum_by g places + sum_by h others
shared-count f g h R S fg fh [] [] [] r s = omega arith
shared-count f g h R S fg fh [] [] (o ∷ others) r s = absurd s
shared-count f g h R S fg fh [] (k ∷ places) others r s = absurd r
shared-count f g h R S fg fh (p ∷ ps) places others r s = at (is_regular p) refl places others r s (λ places others r s. shared-count f g h R S fg fh ps places others r s)
  where
    at : (t : Bool) → is_regular p ≡ t → (places : List ℕ) (others : List OtherPayment)
        → AllZip R (cond t (p ∷ filter is_regular ps) (filter is_regular ps)) places → AllZip S (cond (not t) (p ∷ filter is_other ps) (filter is_other ps)) others
        → ((places : List ℕ) (others : List OtherPayment) → AllZip R (filter is_regular ps) places → AllZip S (filter is_other ps) others
        → sum_by f ps ≡ sum_by g places + sum_by h others)
        → sum_by f (p ∷ ps) ≡ sum_by g places + sum_by h others
    at true e [] others r s rest = absurd r
    at true e (k ∷ places) others r s rest = omega (arith, fg p k e r.0, rest places others r.1 s, sum_by-cons f p ps, sum_by-cons g k places)
    at false e places [] r s rest = absurd s
    at false e places (o ∷ others) r s rest = omega (arith, fh p o s.0, rest places others r s.1, sum_by-cons f p ps, sum_by-cons h o others)

-- a factor of each term
times-sum : (c : ℕ) (f : ℕ → ℕ) (xs : List ℕ) → sum_by (λ x. c * f x) xs ≡ c * sum_by f xs
times-sum c f [] = omega arith
times-sum c f (x ∷ xs) = omega (arith, sum_by-cons (λ y. c * f y) x xs, ap (λ n. c * n) (sum_by-cons f x xs), times-sum c f xs)

plus-sum : (f g : ℕ → ℕ) (xs : List ℕ) → sum_by (λ x. f x + g x) xs ≡ sum_by f xs + sum_by g xs
plus-sum f g [] = omega arith
plus-sum f g (x ∷ xs) = omega (arith, sum_by-cons (λ y. f y + g y) x xs, sum_by-cons f x xs, sum_by-cons g x xs, plus-sum f g xs)

mapped-sum : {X Y : Type 0} (f : Y → ℤ) (m : X → Y) (xs : List X) → signed_sum f (map m xs) ≡ signed_sum (λ x. f (m x)) xs
mapped-sum f m [] = refl
mapped-sum f m (x ∷ xs) = ap (λ z. f (m x) +ℤ z) (mapped-sum f m xs)

mapped-count : {X Y : Type 0} (f : Y → ℕ) (m : X → Y) (xs : List X) → sum_by f (map m xs) ≡ sum_by (λ x. f (m x)) xs
mapped-count f m [] = refl
mapped-count f m (x ∷ xs) = omega (arith, sum_by-cons f (m x) (map m xs), sum_by-cons (λ y. f (m y)) x xs, mapped-count f m xs)

-- ---- a regular payment
record IsHalfYear (p : ScheduledPayment) : Type 0 where
  accrual : p.accrual ≡ half_year_accrual
  principal : p.principal ≡ false

half-year : (p : ScheduledPayment) → is_regular p ≡ true → IsHalfYear p
half-year p e = by (p.accrual.parts == 1) (p.accrual.year == 2) p.principal refl refl refl e
  where
    by : (a b t : Bool) → (p.accrual.parts == 1) ≡ a → (p.accrual.year == 2) ≡ b → p.principal ≡ t → (a && (b && not t)) ≡ true → IsHalfYear p
    by true true false x y z e =
        let parts : p.accrual.parts ≡ 1 = grind (arith, nat_tests) in
        let year : p.accrual.year ≡ 2 = grind (arith, nat_tests) in
        record { accrual = (λ i. record { parts = parts i; year = year i }); principal = z }
    by true true true x y z e = absurd (cc)
    by true false t x y z e = absurd (cc)
    by false b t x y z e = absurd (cc)

-- ---- a column's payments
worth-is : (n : ℕ) (book : BookContents) (leaf : Leaf) (kind : LineKind) (days : List PricedDay) (worths : List Worth) (p : ScheduledPayment) (place : ℕ)
    → length leaf.prices ≡ length book.needs → worths ≡ map (worth_on leaf) days → IsPlace n book kind days p place
    → worth_at worths place ≡ worth_between (price_on book.needs leaf.prices p.day) (limit_price n book.days.settle (limit_multiplier leaf kind) p.day)
worth-is n book leaf kind days worths p place same is at = ap (λ ws. worth_at ws place) is ∙ placed n book leaf kind days p place same at

-- so it is worth what the definition says
worth-signed : (n : ℕ) (book : BookContents) (leaf : Leaf) (kind : LineKind) (days : List PricedDay) (worths : List Worth) (p : ScheduledPayment) (place : ℕ)
    → length leaf.prices ≡ length book.needs → worths ≡ map (worth_on leaf) days → IsPlace n book kind days p place
    → paid_worth n book leaf kind p.day ≡ signed_worth (worth_at worths place)
worth-signed n book leaf kind days worths p place same is at =
    sym (ap signed_worth (worth-is n book leaf kind days worths p place same is at)
    ∙ signed-between (price_on book.needs leaf.prices p.day) (limit_price n book.days.settle (limit_multiplier leaf kind) p.day))

slope-shared : (n : ℕ) (book : BookContents) (leaf : Leaf) (line : Line) (days : List PricedDay) (worths : List Worth) (column : Column)
    → length leaf.prices ≡ length book.needs → worths ≡ map (worth_on leaf) days → IsColumn n book days line column
    → pays_slope (paid_worth n book leaf line.kind) (pay_coefficients book.days line)
    ≡ (pos (column.regular.low * (worth_together worths column.places.items).below) -ℤ pos (column.regular.high * (worth_together worths column.places.items).above))
    +ℤ (other_forms worths column.others.items).slope
slope-shared n book leaf line days worths column same is h =
    mapped-sum side pay (schedule_of book.days line)
    ∙ kept-sum (λ p. side (pay p)) (pays_at (kind_rate line.kind)) nothing (schedule_of book.days line)
    ∙ shared-sum (λ p. side (pay p)) g other (IsPlace n book line.kind days) (IsOther n book line days) regular others (paying book.days line) column.places.items column.others.items h.places h.others
    ∙ ap (λ z. z +ℤ signed_sum other column.others.items) together
  where
    pay : ScheduledPayment → PayCoefficients
    pay = pay_by (kind_rate line.kind) line.step

    side : PayCoefficients → ℤ
    side = λ pay. least_side (neg_ℤ (paid_worth n book leaf line.kind pay.day)) pay.low pay.high

    nothing : (p : ScheduledPayment) → pays_at (kind_rate line.kind) p ≡ false → side (pay p) ≡ pos 0
    nothing p e =
        no-side (neg_ℤ (paid_worth n book leaf line.kind p.day)) (pay p).low (pay p).high (unpaid-low (kind_rate line.kind) line.step p e) (unpaid-high (kind_rate line.kind) line.step p e)

    above : ℕ → ℕ
    above = λ k. (worth_at worths k).above

    below : ℕ → ℕ
    below = λ k. (worth_at worths k).below

    g : ℕ → ℤ
    g = λ k. pos (column.regular.low * (worth_at worths k).below) -ℤ pos (column.regular.high * (worth_at worths k).above)

    other : OtherPayment → ℤ
    other = λ o. least_side (neg_ℤ (signed_worth (worth_at worths o.place))) o.coefficients.low o.coefficients.high

    regular : (p : ScheduledPayment) (k : ℕ) → is_regular p ≡ true → IsPlace n book line.kind days p k
        → least_side (neg_ℤ (paid_worth n book leaf line.kind p.day)) (pay_by (kind_rate line.kind) line.step p).low (pay_by (kind_rate line.kind) line.step p).high
        ≡ pos (column.regular.low * (worth_at worths k).below) -ℤ pos (column.regular.high * (worth_at worths k).above)
    regular p k test at =
        let half = half-year p test in
        let price = price_on book.needs leaf.prices p.day in
        let limit = limit_price n book.days.settle (limit_multiplier leaf line.kind) p.day in
        let worth = worth-is n book leaf line.kind days worths p k same is at in
        let low : (pay_by (kind_rate line.kind) line.step p).low ≡ column.regular.low =
        (λ i. interest_low line.step (kind_rate line.kind) (half.accrual i) + COEFFICIENT_SCALE * (if half.principal i then line.step else 0)) ∙ ap (λ (c : PayCoefficients). c.low) (sym h.regular) in
        let high : (pay_by (kind_rate line.kind) line.step p).high ≡ column.regular.high =
        (λ i. interest_high line.step (kind_rate line.kind) (half.accrual i) + COEFFICIENT_SCALE * (if half.principal i then line.step else 0)) ∙ ap (λ (c : PayCoefficients). c.high) (sym h.regular) in
        side-split price limit (pay_by (kind_rate line.kind) line.step p).low (pay_by (kind_rate line.kind) line.step p).high
        ∙ (λ i. pos (low i * (sym worth i).below) -ℤ pos (high i * (sym worth i).above))

    others : (p : ScheduledPayment) (o : OtherPayment) → IsOther n book line days p o
        → least_side (neg_ℤ (paid_worth n book leaf line.kind p.day)) (pay_by (kind_rate line.kind) line.step p).low (pay_by (kind_rate line.kind) line.step p).high
        ≡ least_side (neg_ℤ (signed_worth (worth_at worths o.place))) o.coefficients.low o.coefficients.high
    others p o at =
        let worth = worth-signed n book leaf line.kind days worths p o.place same is at.place in
        (λ i. least_side (neg_ℤ (worth i)) (sym at.coefficients i).low (sym at.coefficients i).high)

    together : signed_sum (λ k. pos (column.regular.low * (worth_at worths k).below) -ℤ pos (column.regular.high * (worth_at worths k).above)) column.places.items
        ≡ pos (column.regular.low * (worth_together worths column.places.items).below) -ℤ pos (column.regular.high * (worth_together worths column.places.items).above)
    together =
        signed_sum-difference (λ k. column.regular.low * (worth_at worths k).below) (λ k. column.regular.high * (worth_at worths k).above) column.places.items
        ∙ (λ i. pos (times-sum column.regular.low (λ k. (worth_at worths k).below) column.places.items i) -ℤ pos (times-sum column.regular.high (λ k. (worth_at worths k).above) column.places.items i))

slack-shared : (n : ℕ) (book : BookContents) (leaf : Leaf) (line : Line) (days : List PricedDay) (worths : List Worth) (column : Column)
    → length leaf.prices ≡ length book.needs → worths ≡ map (worth_on leaf) days → IsColumn n book days line column
    → sum_by (pay_slack (paid_worth n book leaf line.kind)) (pay_coefficients book.days line)
    ≡ column.regular.slack * ((worth_together worths column.places.items).above + (worth_together worths column.places.items).below)
    + (other_forms worths column.others.items).slack
slack-shared n book leaf line days worths column same is h =
    mapped-count (pay_slack (paid_worth n book leaf line.kind)) (pay_by (kind_rate line.kind) line.step) (schedule_of book.days line)
    ∙ kept-count (λ p. pay_slack (paid_worth n book leaf line.kind) (pay_by (kind_rate line.kind) line.step p)) (pays_at (kind_rate line.kind)) nothing (schedule_of book.days line)
    ∙ shared-count (λ p. pay_slack (paid_worth n book leaf line.kind) (pay_by (kind_rate line.kind) line.step p)) g other (IsPlace n book line.kind days) (IsOther n book line days) regular others
    (paying book.days line) column.places.items column.others.items h.places h.others
    ∙ ap (λ z. z + sum_by other column.others.items) together
  where
    g : ℕ → ℕ
    g = λ k. column.regular.slack * ((worth_at worths k).above + (worth_at worths k).below)

    other : OtherPayment → ℕ
    other = λ o. unsigned_abs (signed_worth (worth_at worths o.place)) * o.coefficients.slack

    nothing : (p : ScheduledPayment) → pays_at (kind_rate line.kind) p ≡ false → unsigned_abs (paid_worth n book leaf line.kind p.day) * (pay_by (kind_rate line.kind) line.step p).slack ≡ 0
    nothing p e = ap (λ s. unsigned_abs (paid_worth n book leaf line.kind p.day) * s) (unpaid-slack (kind_rate line.kind) line.step p e) ∙ omega arith

    regular : (p : ScheduledPayment) (k : ℕ) → is_regular p ≡ true → IsPlace n book line.kind days p k
        → unsigned_abs (paid_worth n book leaf line.kind p.day) * (pay_by (kind_rate line.kind) line.step p).slack
        ≡ column.regular.slack * ((worth_at worths k).above + (worth_at worths k).below)
    regular p k test at =
        let price = price_on book.needs leaf.prices p.day in
        let limit = limit_price n book.days.settle (limit_multiplier leaf line.kind) p.day in
        let worth = worth-is n book leaf line.kind days worths p k same is at in
        let size = abs-split price limit ∙ (λ i. (sym worth i).above + (sym worth i).below) in
        let slack : (pay_by (kind_rate line.kind) line.step p).slack ≡ column.regular.slack = ap (λ (c : PayCoefficients). c.slack) (sym h.regular) in
        (λ i. size i * slack i) ∙ swap ((worth_at worths k).above + (worth_at worths k).below) column.regular.slack
      where
        swap : (a b : ℕ) → a * b ≡ b * a
        swap a b = omega arith

    others : (p : ScheduledPayment) (o : OtherPayment) → IsOther n book line days p o
        → unsigned_abs (paid_worth n book leaf line.kind p.day) * (pay_by (kind_rate line.kind) line.step p).slack
        ≡ unsigned_abs (signed_worth (worth_at worths o.place)) * o.coefficients.slack
    others p o at =
        let worth = worth-signed n book leaf line.kind days worths p o.place same is at.place in
        (λ i. unsigned_abs (worth i) * (sym at.coefficients i).slack)

    together : sum_by (λ k. column.regular.slack * ((worth_at worths k).above + (worth_at worths k).below)) column.places.items
        ≡ column.regular.slack * ((worth_together worths column.places.items).above + (worth_together worths column.places.items).below)
    together =
        times-sum column.regular.slack (λ k. (worth_at worths k).above + (worth_at worths k).below) column.places.items
        ∙ ap (λ s. column.regular.slack * s) (plus-sum (λ k. (worth_at worths k).above) (λ k. (worth_at worths k).below) column.places.items)

-- the form of a column is that of its line
pub column-form : (n : ℕ) (book : BookContents) (leaf : Leaf) (line : Line) (days : List PricedDay) (worths : List Worth) (column : Column)
    → length leaf.prices ≡ length book.needs → worths ≡ map (worth_on leaf) days → IsColumn n book days line column
    → column_form (cost_worth leaf line.kind) worths column ≡ priced_form n book leaf line
column-form n book leaf line days worths column same is h =
    (λ i. record { slope = slope i; slack = slack i }) ∙ sym (priced_form-is n book leaf line)
  where
    own : ℤ
    own = cost_worth leaf line.kind

    joined : (a a' b c s : ℤ) → a ≡ a' → s ≡ b +ℤ c → (a +ℤ b) +ℤ c ≡ a' +ℤ s
    joined a a' b c s e f = omega (arith, ints)

    joined-count : (a a' b c s : ℕ) → a ≡ a' → s ≡ b + c → a + b + c ≡ a' + s
    joined-count a a' b c s e f = omega arith

    slope : (column_form (cost_worth leaf line.kind) worths column).slope
        ≡ least_side (cost_worth leaf line.kind) (cost_coefficients line).low (cost_coefficients line).high +ℤ pays_slope (paid_worth n book leaf line.kind) (pay_coefficients book.days line)
    slope = joined _ _ _ _ _ (λ i. least_side (cost_worth leaf line.kind) (sym h.costs i).low (sym h.costs i).high) (slope-shared n book leaf line days worths column same is h)

    slack : (column_form (cost_worth leaf line.kind) worths column).slack
        ≡ unsigned_abs (cost_worth leaf line.kind) * (cost_coefficients line).slack + sum_by (pay_slack (paid_worth n book leaf line.kind)) (pay_coefficients book.days line)
    slack = joined-count _ _ _ _ _ (λ i. unsigned_abs (cost_worth leaf line.kind) * (sym h.costs i).slack) (slack-shared n book leaf line days worths column same is h)

-- what a column pays is what its line pays
paid-shared : (n : ℕ) (book : BookContents) (leaf : Leaf) (line : Line) (days : List PricedDay) (worths : List Worth) (column : Column) (units : ℕ)
    → length leaf.prices ≡ length book.needs → worths ≡ map (worth_on leaf) days → IsColumn n book days line column
    → signed_sum (λ (flow : Flow). paid_worth n book leaf line.kind flow.day *ℤ pos flow.cents.0) (line_payments book.days line units)
    ≡ column_paid (kind_rate line.kind) (par line units) worths column
paid-shared n book leaf line days worths column units same is h =
    mapped-sum (λ (flow : Flow). paid_worth n book leaf line.kind flow.day *ℤ pos flow.cents.0) (flow_by (kind_rate line.kind) (par line units)) (schedule_of book.days line)
    ∙ kept-sum (λ p. paid_worth n book leaf line.kind p.day *ℤ pos (flow_by (kind_rate line.kind) (par line units) p).cents.0) (pays_at (kind_rate line.kind)) nothing (schedule_of book.days line)
    ∙ shared-sum (λ p. paid_worth n book leaf line.kind p.day *ℤ pos (flow_by (kind_rate line.kind) (par line units) p).cents.0) g other (IsPlace n book line.kind days) (IsOther n book line days) regular others
    (paying book.days line) column.places.items column.others.items h.places h.others
    ∙ ap (λ z. z +ℤ signed_sum other column.others.items) (together (earned_of (par line units) (kind_rate line.kind) 1 2))
  where
    g : ℕ → ℤ
    g = λ k. signed_worth (worth_at worths k) *ℤ pos (earned_of (par line units) (kind_rate line.kind) 1 2)

    other : OtherPayment → ℤ
    other = λ o. signed_worth (worth_at worths o.place) *ℤ pos (flow_by (kind_rate line.kind) (par line units) o.payment).cents.0

    nothing : (p : ScheduledPayment) → pays_at (kind_rate line.kind) p ≡ false
        → paid_worth n book leaf line.kind p.day *ℤ pos (flow_by (kind_rate line.kind) (par line units) p).cents.0 ≡ pos 0
    nothing p e =
        ap (λ cents. paid_worth n book leaf line.kind p.day *ℤ pos cents) (unpaid-cents (kind_rate line.kind) (par line units) p e) ∙ omega (arith, ints)

    no-more : (a : ℕ) → a + 0 ≡ a
    no-more a = omega arith

    regular : (p : ScheduledPayment) (k : ℕ) → is_regular p ≡ true → IsPlace n book line.kind days p k
        → paid_worth n book leaf line.kind p.day *ℤ pos (flow_by (kind_rate line.kind) (par line units) p).cents.0
        ≡ signed_worth (worth_at worths k) *ℤ pos (earned_of (par line units) (kind_rate line.kind) 1 2)
    regular p k test at =
        let half = half-year p test in
        let worth = worth-signed n book leaf line.kind days worths p k same is at in
        let cents = (λ i. earned_of (par line units) (kind_rate line.kind) (half.accrual i).parts (half.accrual i).year + (if half.principal i then par line units else 0))
        ∙ no-more (earned_of (par line units) (kind_rate line.kind) 1 2) in
        (λ i. worth i *ℤ pos (cents i))

    others : (p : ScheduledPayment) (o : OtherPayment) → IsOther n book line days p o
        → paid_worth n book leaf line.kind p.day *ℤ pos (flow_by (kind_rate line.kind) (par line units) p).cents.0
        ≡ signed_worth (worth_at worths o.place) *ℤ pos (flow_by (kind_rate line.kind) (par line units) o.payment).cents.0
    others p o at =
        let worth = worth-signed n book leaf line.kind days worths p o.place same is at.place in
        (λ i. worth i *ℤ pos (flow_by (kind_rate line.kind) (par line units) (sym at.same i)).cents.0)

    together : (c : ℕ) → signed_sum (λ k. signed_worth (worth_at worths k) *ℤ pos c) column.places.items ≡ signed_worth (worth_together worths column.places.items) *ℤ pos c
    together c =
        (λ i. signed_sum (λ k. mul-comm (signed_worth (worth_at worths k)) (pos c) i) column.places.items)
        ∙ sym (signed_sum-scaled (pos c) (λ k. signed_worth (worth_at worths k)) column.places.items)
        ∙ ap (λ z. pos c *ℤ z) (signed_sum-difference (λ k. (worth_at worths k).above) (λ k. (worth_at worths k).below) column.places.items)
        ∙ mul-comm (pos c) (signed_worth (worth_together worths column.places.items))

-- the reduced cost of a column is that of its line
pub column-reduced : (n : ℕ) (book : BookContents) (leaf : Leaf) (line : Line) (days : List PricedDay) (worths : List Worth) (column : Column) (units : ℕ)
    → length leaf.prices ≡ length book.needs → worths ≡ map (worth_on leaf) days → IsColumn n book days line column
    → column_reduced (cost_worth leaf line.kind) (kind_rate line.kind) (line_cost line units) (par line units) worths column ≡ priced_cost n book leaf line units
unfolding priced_cost
column-reduced n book leaf line days worths column units same is h =
    ap (λ paid. pos COEFFICIENT_SCALE *ℤ (cost_worth leaf line.kind *ℤ pos (line_cost line units) -ℤ paid)) (sym (paid-shared n book leaf line days worths column units same is h))
