use Rattle.std.proofs.Common.{List, ℕ, ap, arith, get_or, length, option_map, subst, sym}
use denote.Ref.{Bor}
use Rattle.std.proofs.lemmas.Result.{err_from_is_err_and}
use Rattle.proof_tree.specs.declared.tree.Leaf.{Leaf}
use Rattle.proof_tree.specs.declared.weights.SumWeight.{SumWeight}
use Rattle.bound_certificate.specs.declared.item.Item.TheVariants as item
use Rattle.bound_certificate.specs.declared.row.Row.TheVariants as row
use Rattle.bound_certificate.specs.Grammar.{said_by}
use Rattle.bound_certificate.specs.Packed.{vector_of}
use Rattle.bound_certificate.specs.Taken.{IsBase, IsOfNumbers}
use Rattle.bound_certificate.proofs.ChangeFacts.{leaf-places, leaf-vector, vector-base, vector-there}
use Rattle.bound_certificate.proofs.TakenFacts.{leaf-fault, leaf-numbers}
use Rattle.bound_certificate.proofs.taken.take_leaf.Goals as goal

pub of-vector-requires : goal.of-vector-requires
of-vector-requires c = (leaf-vector c.args.weighing c.args.dates (length c.args.vectors.now) c.args.numbers.now c.requires.numbers).1

pub take_changed-requires-clause-vector : goal.take_changed-requires-clause-vector
take_changed-requires-clause-vector c =
    let number : ℕ = get_or c.args.numbers.now 2 0 in
    let last = (leaf-vector c.args.weighing c.args.dates (length c.args.vectors.now) c.args.numbers.now c.requires.numbers).1 in
    subst (IsBase c.args.dates) (sym c.of-vector.ensures)
    (vector-base c.args.dates (vector_of c.args.vectors.now number) (vector-there c.args.dates number c.args.vectors.now c.requires.vectors last))

pub take_changed-requires-clause-places : goal.take_changed-requires-clause-places
take_changed-requires-clause-places c = leaf-places c.args.weighing c.args.dates (length c.args.vectors.now) c.args.dates c.args.numbers.now (omega arith) c.requires.numbers

pub returns-in_err-take_changed-clause-err : goal.returns-in_err-take_changed-clause-err
returns-in_err-take_changed-clause-err c =
    let p = err_from_is_err_and c.from_residual.result c.from_residual.ensures.1 in
    rw (p.1, p.2)
    (leaf-fault c.args.weighing c.args.dates c.args.vectors.now c.args.numbers.now (option_map (λ (v : Bor (List ℕ)). v.now) c.of-vector.result) c.in_err-take_changed.field-0.0
    c.requires.numbers c.of-vector.ensures c.in_err-take_changed.ensures.err)

pub returns-clause-numbers : goal.returns-clause-numbers
returns-clause-numbers c =
    let P : List SumWeight → Type 0 = λ ws.
    IsOfNumbers c.args.weighing (said_by c.args.dates c.args.vectors.now (row.Leaf c.args.weighing) c.args.numbers.now) c.args.numbers.now ws item.Leaf in
    subst P (sym (ap (λ (l : Leaf). l.weights) c.weigh.ensures))
    (leaf-numbers c.args.weighing c.args.dates c.args.vectors.now c.args.numbers.now (option_map (λ (v : Bor (List ℕ)). v.now) c.of-vector.result) c.take_changed.new.prices
    c.requires.dates c.requires.few c.requires.numbers c.of-vector.ensures c.in_ok-take_changed.ensures.ok)
