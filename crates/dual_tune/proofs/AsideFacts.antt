-- A line that pays nothing for a need adds the same, whatever that need's price is.
use Rattle.std.proofs.Common.{◌≡◌, ◌∙◌, ℕ, zero, suc, ◌*◌, ◌+◌, ◌==◌, if◌then◌else◌, List, [], ◌∷◌, All, get_or, set, length, map, sym, ap, refl, arith, ℤ, pos, ◌+ℤ◌, ◌-ℤ◌, ◌*ℤ◌, neg_ℤ, unsigned_abs}
use Rattle.std.specs.List.{sum_by}
use Rattle.std.proofs.lemmas.List.Elements.{All-cons}
use Rattle.std.proofs.lemmas.List.Sums.{sum_by-cons}
use Rattle.escrow_units.specs.declared.security.Flow.{Flow}
use Rattle.offer_book.specs.Book.{BookContents}
use Rattle.offer_book.specs.Coefficients.{cost_coefficients, pay_coefficients, pay_by}
use Rattle.offer_book.specs.Portfolio.{line_cost, line_payments, par}
use Rattle.offer_book.specs.Schedule.{kind_rate, schedule_of}
use Rattle.offer_book.specs.declared.coefficients.TheConstants.{COEFFICIENT_SCALE}
use Rattle.offer_book.specs.declared.coefficients.PayCoefficients.{PayCoefficients}
use Rattle.offer_book.specs.declared.line.Line.{Line}
use Rattle.offer_book.specs.declared.line.LineKind.{LineKind}
use Rattle.payment_schedule.specs.Schedule.{flow_by}
use Rattle.offer_book.specs.declared.line.LineKind.TheVariants.{Cash, Market, Security}
use Rattle.dual_bound.specs.LeafBound.{cost_worth, credited, least_of_form, least_side, least_within, limit_multiplier, limit_price, paid_worth, price_on, priced_cost, priced_form, signed_sum, unit_load}
use Rattle.proof_tree.specs.declared.interval.Interval.{Interval}
use Rattle.proof_tree.specs.declared.tree.Leaf.{Leaf}
use Rattle.proof_tree.specs.Tree.{with_price}
use Rattle.dual_tune.specs.Payers.{IsAside, IsElsewhere}
use Rattle.offer_book.specs.declared.payment_days.PaymentDays.{PaymentDays}

set-other : (xs : List ℕ) (place other v : ℕ) → ¬ (other ≡ place) → get_or (set xs place v) other 0 ≡ get_or xs other 0
set-other [] place other v apart = refl
set-other (x ∷ xs) zero zero v apart = absurd (apart refl)
set-other (x ∷ xs) zero (suc other) v apart = refl
set-other (x ∷ xs) (suc place) zero v apart = refl
set-other (x ∷ xs) (suc place) (suc other) v apart = set-other xs place other v (λ e. apart (ap suc e))

pub set-length : {A : Type 0} (xs : List A) (place : ℕ) (v : A) → length (set xs place v) ≡ length xs
set-length [] place v = refl
set-length (x ∷ xs) zero v = refl
set-length (x ∷ xs) (suc place) v = ap suc (set-length xs place v)

-- a day that another place prices
price-elsewhere : (needs : List Flow) (prices : List ℕ) (place price : ℕ) (day : ℤ) → length prices ≡ length needs → IsElsewhere needs place day
    → price_on needs (set prices place price) day ≡ price_on needs prices day
price-elsewhere needs prices place price day same e =
    sym (e.2 (set prices place price) (set-length prices place price ∙ same)) ∙ (set-other prices place e.0 price e.1 ∙ e.2 prices same)

weight-same : (leaf : Leaf) (place price : ℕ) (kind : LineKind) → limit_multiplier (with_price leaf place price) kind ≡ limit_multiplier leaf kind
weight-same leaf place price Cash = refl
weight-same leaf place price (Security slgs) = refl
weight-same leaf place price (Market note) = refl

worth-elsewhere : (n : ℕ) (book : BookContents) (leaf : Leaf) (place price : ℕ) (kind : LineKind) (day : ℤ) → length leaf.prices ≡ length book.needs → IsElsewhere book.needs place day
    → paid_worth n book (with_price leaf place price) kind day ≡ paid_worth n book leaf kind day
worth-elsewhere n book leaf place price kind day same e =
    λ i. pos (price-elsewhere book.needs leaf.prices place price day same e i) -ℤ pos (limit_price n book.days.settle (weight-same leaf place price kind i) day)

cost-same : (leaf : Leaf) (place price : ℕ) (kind : LineKind) → cost_worth (with_price leaf place price) kind ≡ cost_worth leaf kind
cost-same leaf place price kind = λ i. pos leaf.rho -ℤ pos (weight-same leaf place price kind i)

-- sums of the same terms
signed-same : {X : Type 0} (P : X → Type 0) (f g : X → ℤ) (xs : List X) → ((x : X) → P x → f x ≡ g x) → All P xs → signed_sum f xs ≡ signed_sum g xs
signed-same P f g [] same h = refl
signed-same P f g (x ∷ xs) same h =
    λ i. same x (h 0 x (omega arith)) i +ℤ signed-same P f g xs same (λ k d lt. h (suc k) d (omega arith)) i

sum-same : {X : Type 0} (P : X → Type 0) (f g : X → ℕ) (xs : List X) → ((x : X) → P x → f x ≡ g x) → All P xs → sum_by f xs ≡ sum_by g xs
sum-same P f g [] same h = refl
sum-same P f g (x ∷ xs) same h =
    sum_by-cons f x xs ∙ ((λ i. same x (h 0 x (omega arith)) i + sum-same P f g xs same (λ k d lt. h (suc k) d (omega arith)) i) ∙ sym (sum_by-cons g x xs))

-- what a line pays on its days, elsewhere
mapped : {X Y : Type 0} (P : Y → Type 0) (f : X → Y) (xs : List X) → All (λ x. P (f x)) xs → All P (map f xs)
mapped P f [] h = λ k d lt. absurd (omega arith)
mapped P f (x ∷ xs) h = All-cons P (f x) (map f xs) (h 0 x (omega arith)) (mapped P f xs (λ k d lt. h (suc k) d (omega arith)))

pays-elsewhere : (days : PaymentDays) (needs : List Flow) (place : ℕ) (line : Line) → IsAside days needs place line
    → All (λ (pay : PayCoefficients). IsElsewhere needs place pay.day) (pay_coefficients days line)
pays-elsewhere days needs place line aside =
    mapped (λ (pay : PayCoefficients). IsElsewhere needs place pay.day) (pay_by (kind_rate line.kind) line.step) (schedule_of days line) aside

flows-elsewhere : (days : PaymentDays) (needs : List Flow) (place : ℕ) (line : Line) (units : ℕ) → IsAside days needs place line
    → All (λ (flow : Flow). IsElsewhere needs place flow.day) (line_payments days line units)
flows-elsewhere days needs place line units aside =
    mapped (λ (flow : Flow). IsElsewhere needs place flow.day) (flow_by (kind_rate line.kind) (par line units)) (schedule_of days line) aside

form-aside : (n : ℕ) (book : BookContents) (leaf : Leaf) (place price : ℕ) (line : Line) → length leaf.prices ≡ length book.needs → IsAside book.days book.needs place line
    → priced_form n book (with_price leaf place price) line ≡ priced_form n book leaf line
unfolding priced_form
form-aside n book leaf place price line same aside =
    let own = cost-same leaf place price line.kind in
    let pays = pays-elsewhere book.days book.needs place line aside in
    let slope = signed-same (λ (pay : PayCoefficients). IsElsewhere book.needs place pay.day)
    (λ (pay : PayCoefficients). least_side (neg_ℤ (paid_worth n book (with_price leaf place price) line.kind pay.day)) pay.low pay.high)
    (λ (pay : PayCoefficients). least_side (neg_ℤ (paid_worth n book leaf line.kind pay.day)) pay.low pay.high)
    (pay_coefficients book.days line) (λ pay e. ap (λ z. least_side (neg_ℤ z) pay.low pay.high) (worth-elsewhere n book leaf place price line.kind pay.day same e)) pays in
    let slack = sum-same (λ (pay : PayCoefficients). IsElsewhere book.needs place pay.day)
    (λ (pay : PayCoefficients). unsigned_abs (paid_worth n book (with_price leaf place price) line.kind pay.day) * pay.slack)
    (λ (pay : PayCoefficients). unsigned_abs (paid_worth n book leaf line.kind pay.day) * pay.slack)
    (pay_coefficients book.days line) (λ pay e. ap (λ z. unsigned_abs z * pay.slack) (worth-elsewhere n book leaf place price line.kind pay.day same e)) pays in
    λ i. record {
      slope = least_side (own i) (cost_coefficients line).low (cost_coefficients line).high +ℤ slope i;
      slack = unsigned_abs (own i) * (cost_coefficients line).slack + slack i;
    }

reduced-aside : (n : ℕ) (book : BookContents) (leaf : Leaf) (place price : ℕ) (line : Line) (units : ℕ) → length leaf.prices ≡ length book.needs → IsAside book.days book.needs place line
    → priced_cost n book (with_price leaf place price) line units ≡ priced_cost n book leaf line units
unfolding priced_cost
reduced-aside n book leaf place price line units same aside =
    let own = cost-same leaf place price line.kind in
    let paid = signed-same (λ (flow : Flow). IsElsewhere book.needs place flow.day)
    (λ (flow : Flow). paid_worth n book (with_price leaf place price) line.kind flow.day *ℤ pos flow.cents.0)
    (λ (flow : Flow). paid_worth n book leaf line.kind flow.day *ℤ pos flow.cents.0)
    (line_payments book.days line units) (λ flow e. ap (λ z. z *ℤ pos flow.cents.0) (worth-elsewhere n book leaf place price line.kind flow.day same e))
    (flows-elsewhere book.days book.needs place line units aside) in
    λ i. pos COEFFICIENT_SCALE *ℤ (own i *ℤ pos (line_cost line units) -ℤ paid i)

pub least-aside : (n : ℕ) (book : BookContents) (leaf : Leaf) (place price : ℕ) (line : Line) (interval : Interval) → length leaf.prices ≡ length book.needs
    → IsAside book.days book.needs place line
    → least_within n book (with_price leaf place price) line interval ≡ least_within n book leaf line interval
least-aside n book leaf place price line interval same aside =
    let form = form-aside n book leaf place price line same aside in
    let reduced = reduced-aside n book leaf place price line interval.low same aside in
    λ i. if interval.low == interval.high then reduced i -ℤ unit_load book leaf.weights line *ℤ pos interval.low
    else least_of_form (credited (form i) (unit_load book leaf.weights line)) line interval
