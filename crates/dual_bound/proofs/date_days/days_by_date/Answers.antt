use Rattle.std.proofs.Common.{◌≡◌, ◌∙◌, ◌+◌, ◌++◌, List, [], ◌∷◌, drop, get_or, length, take, sym, ap, subst, arith}
use Rattle.std.proofs.lemmas.List.{get_or_default}
use Rattle.std.proofs.Math.Seq.{take-append_seam}
use Rattle.dual_bound.specs.declared.date_days.DateDays.{DateDays}
use Rattle.dual_bound.specs.declared.worth.PricedDay.{PricedDay}
use Rattle.dual_bound.proofs.DateFacts.{AreListed, listed-more}
use Rattle.dual_bound.proofs.date_days.days_by_date.Goals as goal

pub loop-place-preserved : goal.loop-place-preserved
loop-place-preserved c =
    let lists = c.loop-place.lists in
    let new = c.list_day.new.lists in
    let rest = drop (length new) lists.items in
    let back : take lists.len (new ++ rest) ≡ new =
    ap (λ k. take k (new ++ rest)) (omega (arith, lists.ok.0, c.list_day.auto.lists, ap length c.as_mut_slice.ensures.value)) ∙ take-append_seam new rest in
    let none : PricedDay = record { need = 0; power = 0 } in
    let place = c.loop-place.place in
    let day = get_or c.args.days.now place none in
    let slice : c.as_mut_slice.result.now ≡ lists.items = c.as_mut_slice.ensures.value in
    let count : length lists.items ≡ c.args.dates = c.loop-place.invariant.0 in
    let kept : length new ≡ c.args.dates = omega (arith, c.list_day.auto.lists, ap length slice, count) in
    subst (λ (ls : List DateDays). (length ls ≡ c.args.dates) × AreListed c.args.dates (place + 1) c.args.days.now ls) (sym back) (
      kept,
      listed-more c.args.dates place day.need c.args.days.now lists.items new c.loop-place.invariant.1 c.loop-place-test.true
          (λ d. ap (λ (p : PricedDay). p.need) (get_or_default c.args.days.now place d none c.loop-place-test.true))
          (λ e few.
          c.in_ok-list_day.ensures.own e (omega (arith, few, ap length slice, count)) ∙ ap (λ (ls : List DateDays). (get_or ls day.need e).places.items ++ place ∷ []) slice)
          (λ date e apart. c.in_ok-list_day.ensures.others date e apart ∙ ap (λ (ls : List DateDays). get_or ls date e) slice),
    )
