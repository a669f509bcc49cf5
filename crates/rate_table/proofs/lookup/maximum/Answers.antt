use Rattle.std.proofs.Common.{◌≡◌, ◌∙◌, ap}
use Rattle.std.specs.Prelude.{List}
use Rattle.rate_table.specs.declared.table.RateRange.{RateRange}
use Rattle.rate_table.specs.Table.{maximum_of}
use Rattle.rate_table.proofs.LookupFacts.{maximum_of-held, maximum_of-rate, maximum_of-none}
use Rattle.rate_table.proofs.lookup.maximum.Goals as goal

pub returns-clause-held : goal.returns-clause-held
returns-clause-held c =
    let is : c.first_rate.result ≡ maximum_of c.args.file.now.ranges c.args.maturity = c.first_rate.ensures ∙ ap (λ (ranges : List RateRange). maximum_of ranges c.args.maturity) c.as_slice.ensures in
    λ range among holding. is ∙ maximum_of-held c.args.file.now.ranges c.args.maturity range c.requires among holding

pub returns-clause-rate : goal.returns-clause-rate
returns-clause-rate c =
    let is : c.first_rate.result ≡ maximum_of c.args.file.now.ranges c.args.maturity = c.first_rate.ensures ∙ ap (λ (ranges : List RateRange). maximum_of ranges c.args.maturity) c.as_slice.ensures in
    rw is (maximum_of-rate c.args.file.now.ranges c.args.maturity)

pub returns-clause-none : goal.returns-clause-none
returns-clause-none c =
    let is : c.first_rate.result ≡ maximum_of c.args.file.now.ranges c.args.maturity = c.first_rate.ensures ∙ ap (λ (ranges : List RateRange). maximum_of ranges c.args.maturity) c.as_slice.ensures in
    rw is (maximum_of-none c.args.file.now.ranges c.args.maturity)
