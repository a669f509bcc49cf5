-- Amounts passed in order of day, and growths one by one.
use Rattle.std.proofs.Common.{◌≡◌, ◌∙◌, inl, inr, ℕ, ◌+◌, ◌-◌, ◌<◌, ◌≤◌, max, sym, ap, arith, ℤ, ◌≤ℤ◌, ◌<ℤ◌, List, [], ◌∷◌, ◌++◌, append_assoc, length, get_or, take, drop}
use Rattle.std.specs.List.{All}
use Rattle.std.proofs.lemmas.Bool.{cases_lt}
use Rattle.std.proofs.lemmas.Int.{ints}
use Rattle.std.proofs.lemmas.List.{append-nil, drop_all, drop_more, get_or-drop, get_or-take, get_or_default, length-drop, length-take}
use Rattle.std.proofs.lemmas.List.Sums.{sum_by-drop_more}
use Rattle.escrow_units.specs.Flows.{ComeInOrder, total}
use Rattle.escrow_units.specs.declared.security.Flow.{Flow}
use Rattle.day_sums.specs.Summed.{on, total_by}
use Rattle.cash_table.specs.Receipts.{cents_by}
use Rattle.cash_table.proofs.DayFacts.{total_by-at_most, total_by-later}
use Rattle.cash_table.proofs.ReceiptFacts.{cents_by-due}
use Rattle.held_escrow.specs.Passed.{CountsOn}
use Rattle.held_escrow.specs.Residual.{growth_on, growths, residual_of, shortfall}
use Rattle.held_escrow.specs.declared.shortfall.Passed.{Passed}
use Rattle.held_escrow.proofs.GrowthFacts.{growth-none, growth-some, step}

-- the next amount of those behind a place
pub next-at : (flows : List Flow) (from index count : ℕ) (flow : Flow) → flow ≡ get_or (take (length flows - from) (drop from flows)) index flow → count ≡ from + index → count < length flows
    → flow ≡ get_or flows count flow
next-at flows from index count flow is place short =
    is ∙ get_or-take (length flows - from) (drop from flows) index flow (omega (arith, place, short)) ∙ get_or-drop from flows index flow
    ∙ ap (λ (n : ℕ). get_or flows n flow) (sym place)

-- ---- one amount more is passed
abbrev pub after : Passed → Flow → Passed
after passed flow = record { count = passed.count + 1; cents = passed.cents + flow.cents.0 }

due-part : (t : ℤ) (flows : List Flow) (passed : Passed) (d : Flow) → passed.count < length flows → (get_or flows passed.count d).day ≤ℤ t → CountsOn flows passed t
    → total_by t flows ≡ (passed.cents + (get_or flows passed.count d).cents.0) + total_by t (drop (passed.count + 1) flows)
due-part t flows passed d short due counts =
    omega (arith, counts, sum_by-drop_more (cents_by t) flows passed.count d short, cents_by-due t (get_or flows passed.count d) due)

pub counts-more : (t : ℤ) (flows : List Flow) (passed : Passed) (flow : Flow) → passed.count < length flows → flow ≡ get_or flows passed.count flow → flow.day ≤ℤ t → CountsOn flows passed t
    → CountsOn flows (after passed flow) t
counts-more t flows passed flow short is due counts =
    let there : (get_or flows passed.count flow).day ≤ℤ t = rw (← is) due in
    omega (arith, due-part t flows passed flow short there counts, ap (λ (f : Flow). f.cents.0) is)

pub counts-room : (t : ℤ) (flows : List Flow) (passed : Passed) (flow : Flow) → passed.count < length flows → flow ≡ get_or flows passed.count flow → flow.day ≤ℤ t → CountsOn flows passed t
    → passed.cents + flow.cents.0 ≤ total flows
counts-room t flows passed flow short is due counts = omega (arith, counts-more t flows passed flow short is due counts, total_by-at_most t flows)

-- ---- none of those ahead falls by a day
ahead : (t : ℤ) (flows : List Flow) (place : ℕ) (flow : Flow) → ComeInOrder flows → place < length flows → flow ≡ get_or flows place flow → t <ℤ flow.day
    → All (λ other. t <ℤ other.day) (drop place flows)
ahead t flows place flow order short is later k d lt =
    let within : place + k < length flows = omega (arith, lt, length-drop place flows) in
    let at = ap (λ (f : Flow). f.day) (get_or-drop place flows k d) in
    elim (cases_lt 0 k) [
      | inl more ↦ (
          let behind = order place (place + k) flow (omega (arith, more)) within in
          let first = ap (λ (f : Flow). f.day) is in
          let same = ap (λ (f : Flow). f.day) (get_or_default flows (place + k) flow d within) in
          still t flow.day (get_or flows place flow).day (get_or flows (place + k) flow).day (get_or flows (place + k) d).day (get_or (drop place flows) k d).day later first behind same at)
      | inr none ↦ (
          let here : place + k ≡ place = omega (arith, none) in
          let first = ap (λ (f : Flow). f.day) is in
          let same = ap (λ (n : ℕ). (get_or flows n flow).day) here in
          let own = ap (λ (f : Flow). f.day) (get_or_default flows (place + k) flow d within) in
          this t flow.day (get_or flows place flow).day (get_or flows (place + k) flow).day (get_or flows (place + k) d).day (get_or (drop place flows) k d).day later first same own at)
    ]
  where
    still : (t a b e f g : ℤ) → t <ℤ a → a ≡ b → b ≤ℤ e → e ≡ f → g ≡ f → t <ℤ g
    still t a b e f g h i j k l = omega (arith, ints, h, i, j, k, l)

    this : (t a b e f g : ℤ) → t <ℤ a → a ≡ b → e ≡ b → e ≡ f → g ≡ f → t <ℤ g
    this t a b e f g h i j k l = omega (arith, ints, h, i, j, k, l)

pub counts-stop : (t : ℤ) (flows : List Flow) (passed : Passed) (flow : Flow) → ComeInOrder flows → passed.count < length flows → flow ≡ get_or flows passed.count flow → t <ℤ flow.day
    → CountsOn flows passed t → passed.cents ≡ total_by t flows
counts-stop t flows passed flow order short is later counts =
    omega (arith, counts, total_by-later t (drop passed.count flows) (ahead t flows passed.count flow order short is later))

pub counts-end : (t : ℤ) (flows : List Flow) (passed : Passed) → length flows ≤ passed.count → CountsOn flows passed t → passed.cents ≡ total_by t flows
counts-end t flows passed none counts =
    omega (arith, counts, total_by-later t (drop passed.count flows) (λ k d lt. absurd (omega (arith, lt, length-drop passed.count flows, none))))

-- ---- need by need
pub needs-before : (t : ℤ) (needs : List Flow) (place : ℕ) (need : Flow) → ComeInOrder needs → place < length needs → need ≡ get_or needs place need → need.day ≤ℤ t
    → All (λ flow. flow.day ≤ℤ t) (take place needs)
needs-before t needs place need order short is due k d lt =
    let low : k < place = omega (arith, lt, length-take place needs) in
    let at = ap (λ (f : Flow). f.day) (get_or-take place needs k d low) in
    let earlier = order k place d low short in
    let same = ap (λ (f : Flow). f.day) (get_or_default needs place d need short) in
    let here = ap (λ (f : Flow). f.day) is in
    within (get_or (take place needs) k d).day (get_or needs k d).day (get_or needs place d).day (get_or needs place need).day need.day t at earlier same here due
  where
    within : (a b e f g t : ℤ) → a ≡ b → b ≤ℤ e → e ≡ f → g ≡ f → g ≤ℤ t → a ≤ℤ t
    within a b e f g t h i j k l = omega (arith, ints, h, i, j, k, l)

pub need-last : (t : ℤ) (needs : List Flow) (place : ℕ) (need : Flow) → place < length needs → need ≡ get_or needs place need → All (λ flow. flow.day ≤ℤ t) (take (place + 1) needs) → need.day ≤ℤ t
need-last t needs place need short is all =
    let last = all place need (omega (arith, short, length-take (place + 1) needs)) in
    let at = ap (λ (f : Flow). f.day) (get_or-take (place + 1) needs place need (omega arith)) in
    let here = ap (λ (f : Flow). f.day) is in
    within (get_or (take (place + 1) needs) place need).day (get_or needs place need).day need.day last at here
  where
    within : (a b e : ℤ) → a ≤ℤ t → a ≡ b → e ≡ b → e ≤ℤ t
    within a b e h i j = omega (arith, ints, h, i, j)

-- ---- growth by growth
next-growths : (needs held : List Flow) (greatest place : ℕ) (need : Flow) → place < length needs → need ≡ get_or needs place need
    → growths needs held greatest (drop place needs)
    ≡ growth_on need.day greatest (shortfall needs held need.day) ++ growths needs held (max greatest (shortfall needs held need.day)) (drop (place + 1) needs)
next-growths needs held greatest place need short is =
    ap (growths needs held greatest) (drop_more needs place need short ∙ ap (λ (f : Flow). f ∷ drop (place + 1) needs) (sym is))
    ∙ step needs held greatest need (drop (place + 1) needs)

pub grows : (needs held items more : List Flow) (greatest now place : ℕ) (need : Flow) → place < length needs → need ≡ get_or needs place need
    → now ≡ shortfall needs held need.day → greatest < now → more ≡ items ++ on need.day (now - greatest) ∷ []
    → items ++ growths needs held greatest (drop place needs) ≡ residual_of needs held → more ++ growths needs held now (drop (place + 1) needs) ≡ residual_of needs held
grows needs held items more greatest now place need short is now_is less pushed so_far =
    let later = drop (place + 1) needs in
    let first : growth_on need.day greatest (shortfall needs held need.day) ≡ on need.day (now - greatest) ∷ [] =
    ap (growth_on need.day greatest) (sym now_is) ∙ growth-some need.day greatest now less in
    let most : max greatest (shortfall needs held need.day) ≡ now = omega (arith, now_is, less) in
    ap (λ (l : List Flow). l ++ growths needs held now later) pushed
    ∙ append_assoc items (on need.day (now - greatest) ∷ []) (growths needs held now later)
    ∙ ap (λ (l : List Flow). items ++ (l ++ growths needs held now later)) (sym first)
    ∙ ap (λ (n : ℕ). items ++ (growth_on need.day greatest (shortfall needs held need.day) ++ growths needs held n later)) (sym most)
    ∙ ap (λ (l : List Flow). items ++ l) (sym (next-growths needs held greatest place need short is))
    ∙ so_far

pub stays : (needs held items : List Flow) (greatest now place : ℕ) (need : Flow) → place < length needs → need ≡ get_or needs place need
    → now ≡ shortfall needs held need.day → now ≤ greatest
    → items ++ growths needs held greatest (drop place needs) ≡ residual_of needs held → items ++ growths needs held greatest (drop (place + 1) needs) ≡ residual_of needs held
stays needs held items greatest now place need short is now_is few so_far =
    let later = drop (place + 1) needs in
    let first : growth_on need.day greatest (shortfall needs held need.day) ≡ [] = growth-none need.day greatest (shortfall needs held need.day) (omega (arith, now_is, few)) in
    let most : max greatest (shortfall needs held need.day) ≡ greatest = omega (arith, now_is, few) in
    ap (λ (l : List Flow). items ++ (l ++ growths needs held greatest later)) (sym first)
    ∙ ap (λ (n : ℕ). items ++ (growth_on need.day greatest (shortfall needs held need.day) ++ growths needs held n later)) (sym most)
    ∙ ap (λ (l : List Flow). items ++ l) (sym (next-growths needs held greatest place need short is))
    ∙ so_far

-- behind the last need nothing grows
pub all-grown : (needs held items : List Flow) (greatest place : ℕ) → length needs ≤ place → items ++ growths needs held greatest (drop place needs) ≡ residual_of needs held
    → items ≡ residual_of needs held
unfolding growths
all-grown needs held items greatest place done so_far =
    sym (append-nil items) ∙ ap (λ (l : List Flow). items ++ growths needs held greatest l) (sym (drop_all place needs done)) ∙ so_far
