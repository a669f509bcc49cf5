use Rattle.std.proofs.Common.{◌≡◌, ◌∙◌, ◌+◌, ◌<◌, ℕ, List, All, ◌++◌, ◌∷◌, [], arith, get_or, length, vec_capacity, subst, sym, ap, inl, inr}
use Rattle.std.specs.List.{Contains}
use Rattle.std.proofs.lemmas.Bool.{cases_lt}
use Rattle.std.proofs.lemmas.List.{length-append}
use Rattle.std.proofs.lemmas.List.Elements.{All-push, Contains-append_left, Contains-push}
use Rattle.dual_bound.specs.declared.changes.ChangedDates.{ChangedDates}
use Rattle.dual_bound.proofs.changes.ChangedDates.take_between.Goals as goal
use Rattle.dual_bound.proofs.changes.ChangedDates.take_between.Goals.{then-old-date+else-len-old, else-old-date}

pub loop-date-preserved : goal.loop-date-preserved
loop-date-preserved c =
    let i = c.loop-date.invariant in
    let date : ℕ = c.loop-date.date in
    let listed : List ℕ = c.loop-date.self.dates.items in
    let earlier_there : All (λ d. d < date + 1) listed = (λ k d lt. let own = i.changes.there k d lt in omega (arith, own)) in
    elim c.if-old-date.branch [
      | then-old-date+else-len-old w ↦
          let items : c.if-old-date.self.dates.items ≡ listed ++ date ∷ [] = ap (λ (s : ChangedDates). s.dates.items) w.self-is ∙ w.add.ensures.dates in
          let room : vec_capacity c.if-old-date.self.dates ≡ vec_capacity w.add.new.self.dates = ap (λ (s : ChangedDates). vec_capacity s.dates) w.self-is in
          record {
            room = omega (arith, i.room, room, w.add.ensures.room);
            few = omega (arith, i.few, ap length items, length-append listed (date ∷ []));
            changes = record {
              there = subst (All (λ d. d < date + 1)) (sym items) (All-push (λ d. d < date + 1) listed date earlier_there (omega arith));
              every = λ k lt differ.
                  subst (λ xs. Contains xs k) (sym items)
                  (elim (cases_lt k date) [
                    | inl earlier ↦ Contains-append_left listed (date ∷ []) k (i.changes.every k earlier differ)
                    | inr late ↦ subst (λ j. Contains (listed ++ date ∷ []) j) (omega (arith, lt, late)) (Contains-push listed date)
                  ]);
            };
          }
      | else-old-date w ↦
          let items : c.if-old-date.self.dates.items ≡ listed = ap (λ (s : ChangedDates). s.dates.items) w.self-is in
          let room : vec_capacity c.if-old-date.self.dates ≡ vec_capacity c.loop-date.self.dates = ap (λ (s : ChangedDates). vec_capacity s.dates) w.self-is in
          record {
            room = omega (arith, i.room, room);
            few = omega (arith, i.few, ap length items);
            changes = record {
              there = subst (All (λ d. d < date + 1)) (sym items) earlier_there;
              every = λ k lt differ.
                  subst (λ xs. Contains xs k) (sym items)
                  (elim (cases_lt k date) [
                    | inl earlier ↦ i.changes.every k earlier differ
                    | inr late ↦ absurd (differ (subst (λ j. get_or c.args.old.now j 0 ≡ get_or c.args.new.now j 0) (omega (arith, lt, late)) w.if-old-date.false))
                  ]);
            };
          }
    ]
