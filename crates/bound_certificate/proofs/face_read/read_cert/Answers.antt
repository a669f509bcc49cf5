use Rattle.std.proofs.Common.{◌≡◌, ◌∙◌, ◌∷◌, List, Ok, Err, Result, ap, arith, inl, inr, subst, sym, ℕ}
use Rattle.proof_tree.specs.declared.tree.Leaf.{Leaf}
use Rattle.bound_certificate.specs.Draft.{with_item}
use Rattle.bound_certificate.specs.declared.certificate.Certificate.{Certificate}
use Rattle.bound_certificate.specs.declared.fault.CertError.{CertError}
use Rattle.bound_certificate.specs.declared.fault.CertError.TheVariants as error
use Rattle.bound_certificate.specs.declared.fault.FaultKind.{FaultKind}
use Rattle.bound_certificate.specs.declared.item.Item.{Item}
use Rattle.bound_certificate.specs.declared.line.Line.{Line}
use Rattle.bound_certificate.specs.declared.version.Version.TheVariants as version
use Rattle.bound_certificate.specs.Due.{next_due}
use Rattle.bound_certificate.specs.Faults.{IsCause}
use Rattle.bound_certificate.specs.Grammar.{line_said, vectors_with}
use Rattle.bound_certificate.specs.Taken.{IsGiven}
use Rattle.bound_certificate.specs.Text.{IsTextOf}
use Rattle.bound_certificate.specs.Told.{line_leaf}
use Rattle.line_words.specs.Words.{parts_behind}
use Rattle.bound_certificate.proofs.BehindFacts.{lines-behind, none-behind, rest-is, some-behind}
use Rattle.bound_certificate.proofs.DueFacts.{IsFound}
use Rattle.bound_certificate.proofs.FollowFacts.{and_line, none_written, with-vectors}
use Rattle.bound_certificate.proofs.MoveFacts.{are-vectors, line-is-said}
use Rattle.bound_certificate.proofs.WholeTextFacts.{at-more, at-start, cert-more, end-cause, end-text, fits-at, line-cause, no-cause}
use Rattle.bound_certificate.proofs.WrittenFacts.{text-cert, text-good, text-one}
use Rattle.bound_certificate.proofs.face_read.read_cert.Goals as goal

memory_said : (dates : ℕ) (bytes : List ℕ) (found : CertError) (it : Certificate) → IsCause dates bytes found → IsTextOf dates it bytes →
    ◌≡◌ {A = Result Certificate CertError} (Err found) (Err error.NoMemory)
memory_said dates bytes found it h is = ap (λ (e : CertError). Err e) (no-cause version.One dates bytes found h (text-good dates it bytes is))

pub loop-part-init : goal.loop-part-init
loop-part-init c = record {
  written = none_written;
  at = at-start version.One c.args.dates c.args.bytes.now _ c.cut_line-part.ensures;
  vectors = c.in_ok-vectors.ensures;
  came = c.empty-cert.ensures;
  leaf = c.in_ok-leaf.ensures;
}

pub returns-in-Err-clause-err : goal.returns-in-Err-clause-err
returns-in-Err-clause-err c =
    let i = c.loop-part.invariant in
    line-cause version.One c.args.dates c.loop-part.number c.loop-part.due i.written c.args.bytes.now c.loop-part.part.front.now (parts_behind 10 c.loop-part.part.rest) c.in-Err.kind
    i.at (some-behind c.loop-part.part.rest c.in-Some.rest c.in-Some.is) (ap (λ (vs : List (List ℕ)). line_said version.One c.args.dates vs c.loop-part.due c.loop-part.part.front.now) (sym i.vectors) ∙ c.in-Err.ensures.err)

pub returns-in-Err-clause-back : goal.returns-in-Err-clause-back
returns-in-Err-clause-back c = λ it is.
    (let i = c.loop-part.invariant in
    inr (memory_said c.args.dates c.args.bytes.now (error.Fault (record { line = c.loop-part.number; kind = c.in-Err.kind })) it
    (line-cause version.One c.args.dates c.loop-part.number c.loop-part.due i.written c.args.bytes.now c.loop-part.part.front.now (parts_behind 10 c.loop-part.part.rest) c.in-Err.kind
    i.at (some-behind c.loop-part.part.rest c.in-Some.rest c.in-Some.is) (ap (λ (vs : List (List ℕ)). line_said version.One c.args.dates vs c.loop-part.due c.loop-part.part.front.now) (sym i.vectors) ∙ c.in-Err.ensures.err)) is))

pub after-due-requires-clause-item : goal.after-due-requires-clause-item
after-due-requires-clause-item c =
    let i = c.loop-part.invariant in
    let given : IsGiven c.args.dates (line_said version.One c.args.dates c.loop-part.vectors c.loop-part.due c.loop-part.part.front.now) c.loop-part.vectors c.take_line.new.vectors c.take_line.new.leaf c.in-Ok.item =
    c.in-Ok.ensures.ok in
    line-is-said version.One c.args.dates c.loop-part.due i.written.vectors c.loop-part.part.front.now given.said c.in-Ok.item
    (are-vectors c.args.dates c.loop-part.due i.written.vectors i.at.holds) (ap (λ (vs : List (List ℕ)). line_said version.One c.args.dates vs c.loop-part.due c.loop-part.part.front.now) (sym i.vectors) ∙ given.is) given.item_is

pub loop-part-preserved : goal.loop-part-preserved
loop-part-preserved c =
    let i = c.loop-part.invariant in
    let told : Result Line FaultKind = line_said version.One c.args.dates c.loop-part.vectors c.loop-part.due c.loop-part.part.front.now in
    let given : IsGiven c.args.dates told c.loop-part.vectors c.take_line.new.vectors c.take_line.new.leaf c.in-Ok.item = c.in-Ok.ensures.ok in
    let said_is : line_said version.One c.args.dates i.written.vectors c.loop-part.due c.loop-part.part.front.now ≡ Ok given.said = (ap (λ (vs : List (List ℕ)). line_said version.One c.args.dates vs c.loop-part.due c.loop-part.part.front.now) (sym i.vectors) ∙ given.is) in
    let found : IsFound version.One c.args.dates i.written.vectors c.loop-part.due c.loop-part.part.front.now given.said =
    fits-at version.One c.args.dates c.loop-part.number c.loop-part.due i.written c.args.bytes.now c.loop-part.part.front.now (parts_behind 10 c.loop-part.part.rest) given.said i.at said_is in
    record {
      written = and_line i.written given.said;
      at = at-more version.One c.args.dates c.loop-part.number c.loop-part.due i.written c.args.bytes.now c.loop-part.part.front.now (parts_behind 10 c.loop-part.part.rest)
          (c.cut_line-part-in-Some.result.front.now ∷ parts_behind 10 c.cut_line-part-in-Some.result.rest) given.said c.after-due.result i.at said_is
          (lines-behind c.loop-part.part.rest c.in-Some.rest c.in-Some.is ∙ c.cut_line-part-in-Some.ensures) (omega arith)
          (c.after-due.ensures.value ∙ ap (λ (told : Item). next_due version.One c.loop-part.due told) given.item_is) c.after-due.ensures.kept c.after-due.ensures.lines;
      vectors = given.vectors_are ∙ ap (λ (vs : List (List ℕ)). vectors_with vs given.said) i.vectors ∙ with-vectors i.written given.said;
      came = c.in_ok-take.ensures ∙ ap (λ (l : Leaf). with_item c.loop-part.cert c.in-Ok.item l) c.as_leaf.ensures
          ∙ cert-more version.One c.args.dates c.loop-part.due i.written given.said c.loop-part.cert c.in-Ok.item c.take_line.new.leaf found.fits i.at.none i.came given.item_is
          (λ leafy. given.leaf_is leafy ∙ ap (λ (vs : List (List ℕ)). line_leaf c.args.dates vs given.said) i.vectors);
      leaf = c.take_line.ensures.dates;
    }

pub returns-in-Some-rest_fault-clause-back : goal.returns-in-Some-rest_fault-clause-back
returns-in-Some-rest_fault-clause-back c = λ it is.
    (let i = c.loop-part.invariant in
    inr (memory_said c.args.dates c.args.bytes.now (error.Fault (record { line = c.loop-part.number; kind = c.in-Some-rest_fault.kind })) it
    (end-cause version.One c.args.dates c.loop-part.number c.loop-part.due i.written c.args.bytes.now c.loop-part.part.front.now (parts_behind 10 c.loop-part.part.rest)
    c.in-Some-rest_fault.kind i.at (none-behind c.loop-part.part.rest c.in_default.not-Some) (rest-is _ _ _ _ c.rest_fault.ensures c.is_over.ensures ∙ c.in-Some-rest_fault.is)) is))

pub returns-clause-ok : goal.returns-clause-ok
returns-clause-ok c =
    let i = c.loop-part.invariant in
    let P : Certificate → Type 0 = λ it. IsTextOf c.args.dates it c.args.bytes.now in
    subst P (sym i.came) (text-cert c.args.dates i.written c.args.bytes.now
    (end-text version.One c.args.dates c.loop-part.number c.loop-part.due i.written c.args.bytes.now c.loop-part.part.front.now (parts_behind 10 c.loop-part.part.rest)
    i.at (none-behind c.loop-part.part.rest c.in_default.not-Some) (rest-is _ _ _ _ c.rest_fault.ensures c.is_over.ensures ∙ c.in-None.is)))

pub returns-clause-back : goal.returns-clause-back
returns-clause-back c = λ it is.
    inl (ap (λ (x : Certificate). Ok x) (text-one c.args.dates c.args.bytes.now c.loop-part.cert it (returns-clause-ok c) is))
