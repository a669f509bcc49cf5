use Rattle.std.proofs.Common.{arith, ap, ◌<◌, ◌≤◌, length, Ok}
use Rattle.std.proofs.lemmas.Result.{err_from_is_err_and}
use Rattle.offer_book.proofs.OfferFacts.{all-sold, file-lines, lines-count, lines-keep_rules, no-lines, refused-answers, sold_more}
use Rattle.offer_book.proofs.offers.slgs_lines.Goals as goal

pub returns-in_default-clause-lines : goal.returns-in_default-clause-lines
returns-in_default-clause-lines c = rw c.new-lines.ensures.items (no-lines c.args.days.now c.args.rates.now c.in_default.is)

pub returns-in_default-clause-rules : goal.returns-in_default-clause-rules
returns-in_default-clause-rules c =
    (lines-keep_rules c.args.days.now c.args.rates.now c.new-lines.result.items c.requires.settlement c.requires.file (returns-in_default-clause-lines c)).0

pub returns-in_default-clause-count : goal.returns-in_default-clause-count
returns-in_default-clause-count c = lines-count c.args.days.now c.args.rates.now c.new-lines.result.items (returns-in_default-clause-rules c)

pub returns-in_err-line-clause-lines : goal.returns-in_err-line-clause-lines
returns-in_err-line-clause-lines c =
    let p = err_from_is_err_and c.from_residual-in_err-line.result c.from_residual-in_err-line.ensures.1 in
    let short : c.loop-offer.offer-index < length c.args.rates.now.offers = omega (arith, ap length c.as_slice-offer-items.ensures) in
    let is = rw c.as_slice-offer-items.ensures at c.offer-item.is in
    let answer = rw (c.offered_line-sold.ensures, c.in_ok-index.ensures) at c.in_err-line.ensures.answer in
    rw (p.1, p.2) (refused-answers c.args.days.now c.args.rates.now c.in-Some.terms c.loop-offer.offer-index c.loop-offer.lines.items c.offer-item.result c.in_err-line.field-0.0
    c.in-Some.is short is c.loop-offer.invariant answer)

pub loop-offer-preserved : goal.loop-offer-preserved
loop-offer-preserved c =
    let short : c.loop-offer.offer-index < length c.args.rates.now.offers = omega (arith, ap length c.as_slice-offer-items.ensures) in
    let is = rw c.as_slice-offer-items.ensures at c.offer-item.is in
    let answer = rw (c.offered_line-sold.ensures, c.in_ok-index.ensures) at c.in_ok-line.ensures.answer in
    sold_more c.args.days.now c.args.rates.now.ranges c.in-Some.terms c.args.rates.now.offers c.loop-offer.offer-index c.loop-offer.lines.items c.push.new.self.items
    c.offer-item.result c.in_ok-line.line short is c.loop-offer.invariant answer c.in_ok-push.ensures.items

pub returns-clause-lines : goal.returns-clause-lines
returns-clause-lines c =
    let whole : length c.args.rates.now.offers ≤ c.loop-offer.offer-index = omega (arith, ap length c.as_slice-offer-items.ensures) in
    file-lines c.args.days.now c.args.rates.now c.in-Some.terms (Ok c.loop-offer.lines.items) c.in-Some.is
    (all-sold c.args.days.now c.args.rates.now.ranges c.in-Some.terms c.args.rates.now.offers c.loop-offer.offer-index c.loop-offer.lines.items
    whole c.loop-offer.invariant)

pub returns-clause-rules : goal.returns-clause-rules
returns-clause-rules c =
    (lines-keep_rules c.args.days.now c.args.rates.now c.loop-offer.lines.items c.requires.settlement c.requires.file (returns-clause-lines c)).0

pub returns-clause-securities : goal.returns-clause-securities
returns-clause-securities c =
    (lines-keep_rules c.args.days.now c.args.rates.now c.loop-offer.lines.items c.requires.settlement c.requires.file (returns-clause-lines c)).1

pub returns-clause-count : goal.returns-clause-count
returns-clause-count c = lines-count c.args.days.now c.args.rates.now c.loop-offer.lines.items (returns-clause-rules c)
