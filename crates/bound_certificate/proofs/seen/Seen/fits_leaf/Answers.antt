use Rattle.std.proofs.Common.{◌≡◌, ◌∙◌, ◌-◌, ◌&&◌, Bool, true, false, ℕ, sym, ap}
use Rattle.bound_certificate.specs.declared.row.Row.TheVariants as row
use Rattle.bound_certificate.specs.declared.weighing.Weighing.TheVariants as weighing
use Rattle.bound_certificate.specs.Row.{row_fits}
use Rattle.bound_certificate.proofs.SeenFacts.{leaf-bare, leaf-tailed}
use Rattle.bound_certificate.proofs.seen.Seen.fits_leaf.Goals as goal

pub returns-in-Start : goal.returns-in-Start
returns-in-Start c line same = c.fits.ensures ∙ leaf-bare c.args.dates c.args.self line c.in-Start.is same c.requires

pub returns-then-fits : goal.returns-then-fits
returns-then-fits c line same =
    let front : row_fits c.args.dates (row.Leaf weighing.Number) (c.args.self.front - 1) ≡ true =
    ap (λ (k : ℕ). row_fits c.args.dates (row.Leaf weighing.Number) k) (sym c.saturating_sub.ensures) ∙ sym c.fits-in-Letter.ensures ∙ c.if-fits.true in
    c.fits-then-fits.ensures ∙ sym (ap (λ (b : Bool). b && row_fits c.args.dates row.Tail c.args.self.tail) front)
    ∙ leaf-tailed c.args.dates c.args.self line c.in-Letter.is same c.requires

pub returns-else-fits : goal.returns-else-fits
returns-else-fits c line same =
    let front : row_fits c.args.dates (row.Leaf weighing.Number) (c.args.self.front - 1) ≡ false =
    ap (λ (k : ℕ). row_fits c.args.dates (row.Leaf weighing.Number) k) (sym c.saturating_sub.ensures) ∙ sym c.fits-in-Letter.ensures ∙ c.if-fits.false in
    c.if-fits.false ∙ sym (ap (λ (b : Bool). b && row_fits c.args.dates row.Tail c.args.self.tail) front)
    ∙ leaf-tailed c.args.dates c.args.self line c.in-Letter.is same c.requires
