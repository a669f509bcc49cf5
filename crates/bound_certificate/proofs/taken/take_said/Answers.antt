use Rattle.std.proofs.Common.{ap, length, subst, sym, ℕ, List, Err, IfOk, ◌≡◌, ◌∙◌}
use Rattle.std.proofs.lemmas.Result.{IfErr-weaker}
use Rattle.bound_certificate.specs.declared.row.Row.{Row}
use Rattle.bound_certificate.specs.declared.row.Row.TheVariants as row
use Rattle.bound_certificate.specs.Grammar.{said_by}
use Rattle.bound_certificate.specs.Row.{AreRowNumbers, row_fits}
use Rattle.bound_certificate.specs.Taken.{IsOfNumbers}
use Rattle.bound_certificate.proofs.LineFacts.{vector-range}
use Rattle.bound_certificate.proofs.taken.take_said.Goals as goal

pub take_leaf-requires-clause-numbers : goal.take_leaf-requires-clause-numbers
take_leaf-requires-clause-numbers c =
    let P : Row → Type 0 = λ r. AreRowNumbers c.args.dates (length c.args.vectors.now) r c.args.numbers.now in subst P c.in-Leaf.is c.requires.numbers

pub take_vector-requires-clause-prices : goal.take_vector-requires-clause-prices
take_vector-requires-clause-prices c =
    let P : Row → Type 0 = λ r. AreRowNumbers c.args.dates (length c.args.vectors.now) r c.args.numbers.now in
    vector-range c.args.dates (length c.args.vectors.now) c.args.numbers.now (subst P c.in-Vector.is c.requires.numbers)

pub returns-in-Buy-clause-err : goal.returns-in-Buy-clause-err
returns-in-Buy-clause-err c =
    IfErr-weaker c.take_purchase.result (λ found. (dates : ℕ) (vs : List (List ℕ)) → said_by dates vs (row.Buy c.in-Buy.least) c.args.numbers.now ≡ Err found)
    (λ found. said_by c.args.dates c.args.vectors.now c.args.row c.args.numbers.now ≡ Err found)
    (λ found all. ap (λ (r : Row). said_by c.args.dates c.args.vectors.now r c.args.numbers.now) c.in-Buy.is ∙ all c.args.dates c.args.vectors.now) c.take_purchase.ensures.err

pub returns-in-Buy-clause-numbers : goal.returns-in-Buy-clause-numbers
returns-in-Buy-clause-numbers c = λ w of_row.
    (let P : Row → Type 0 = λ r. IfOk c.take_purchase.result (IsOfNumbers w (said_by c.args.dates c.args.vectors.now r c.args.numbers.now) c.args.numbers.now c.args.leaf.now.weights) in
    subst P (sym c.in-Buy.is) (c.take_purchase.ensures.numbers w c.args.dates c.args.vectors.now c.args.leaf.now.weights))

pub returns-in-Vector-clause-numbers : goal.returns-in-Vector-clause-numbers
returns-in-Vector-clause-numbers c = λ w of_row.
    (let P : Row → Type 0 = λ r. IfOk c.take_vector.result (IsOfNumbers w (said_by c.args.dates c.args.vectors.now r c.args.numbers.now) c.args.numbers.now c.args.leaf.now.weights) in
    subst P (sym c.in-Vector.is) (c.take_vector.ensures.numbers w c.args.dates c.args.leaf.now.weights))

pub take_priced-requires : goal.take_priced-requires
take_priced-requires c =
    let P : Row → Type 0 = λ r. AreRowNumbers c.args.dates (length c.args.vectors.now) r c.args.numbers.now in
    let are : AreRowNumbers c.args.dates (length c.args.vectors.now) row.Priced c.args.numbers.now = subst P c.in-Priced.is c.requires.numbers in
    record { numbers = record { fits = ap (λ (k : ℕ). row_fits k row.Priced (length c.args.numbers.now)) c.requires.leaf ∙ are.fits; ranges = are.ranges } }

pub returns-in-Priced-clause-err : goal.returns-in-Priced-clause-err
returns-in-Priced-clause-err c =
    IfErr-weaker c.take_priced.result (λ found. (dates : ℕ) (vs : List (List ℕ)) → said_by dates vs row.Priced c.args.numbers.now ≡ Err found)
    (λ found. said_by c.args.dates c.args.vectors.now c.args.row c.args.numbers.now ≡ Err found)
    (λ found all. ap (λ (r : Row). said_by c.args.dates c.args.vectors.now r c.args.numbers.now) c.in-Priced.is ∙ all c.args.dates c.args.vectors.now) c.take_priced.ensures.err

pub returns-in-Vector-clause-err : goal.returns-in-Vector-clause-err
returns-in-Vector-clause-err c =
    IfErr-weaker c.take_vector.result (λ found. (dates : ℕ) → said_by dates c.args.vectors.now row.Vector c.args.numbers.now ≡ Err found)
    (λ found. said_by c.args.dates c.args.vectors.now c.args.row c.args.numbers.now ≡ Err found)
    (λ found all. ap (λ (r : Row). said_by c.args.dates c.args.vectors.now r c.args.numbers.now) c.in-Vector.is ∙ all c.args.dates) c.take_vector.ensures.err
