use Rattle.std.proofs.Common.{◌≡◌, ◌∙◌, ℕ, length, sym, ap, arith, Some, None, option_map}
use Rattle.std.proofs.lemmas.List.{length_push}
use Rattle.backward_build.specs.PriceCurve.{leaf_of_prices, next_price}
use Rattle.backward_build.proofs.CurveFacts.{falling_more, first-more, first-start, first-stop, small_more}
use Rattle.backward_build.proofs.price_curve.bootstrap.Goals as goal

pub loop-place-init : goal.loop-place-init
loop-place-init c =
    let none : length c.new-prices.result.items ≡ 0 = ap (length {A = ℕ}) c.new-prices.ensures.items in
    record {
      prices = first-start c.args.book.now ∙ ap Some (sym c.new-prices.ensures.items);
      count = none;
      small = λ k d within. absurd (omega (arith, none));
      falling = λ i j d order within. absurd (omega (arith, none));
    }

pub returns-in_default-clause-value : goal.returns-in_default-clause-value
returns-in_default-clause-value c =
    let none : next_price c.args.book.now c.loop-place.prices.items ≡ None = sym (ap (next_price c.args.book.now) c.as_slice.ensures.value) ∙ sym c.next_price.ensures.value ∙ c.in_default.is in
    sym (ap (option_map leaf_of_prices) (first-stop c.args.book.now c.loop-place.place c.loop-place.prices.items c.loop-place.invariant.prices none (omega arith)))

pub loop-place-preserved : goal.loop-place-preserved
loop-place-preserved c =
    let found : next_price c.args.book.now c.loop-place.prices.items ≡ Some c.in-Some.price = sym (ap (next_price c.args.book.now) c.as_slice.ensures.value) ∙ sym c.next_price.ensures.value ∙ c.in-Some.is in
    let falls = rw c.as_slice.ensures.value at c.in-Some.ensures.falls in
    rw c.in_ok-push.ensures.items (record {
      prices = first-more c.args.book.now c.loop-place.place c.loop-place.prices.items c.in-Some.price c.loop-place.invariant.prices found;
      count = omega (arith, length_push c.loop-place.prices.items c.in-Some.price, c.loop-place.invariant.count);
      small = small_more c.loop-place.prices.items c.in-Some.price c.loop-place.invariant.small falls;
      falling = falling_more c.loop-place.prices.items c.in-Some.price c.loop-place.invariant.falling c.loop-place.invariant.small falls;
    })
