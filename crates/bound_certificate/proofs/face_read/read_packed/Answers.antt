use Rattle.std.proofs.Common.{◌≡◌, ◌∙◌, ◌∷◌, ◌≤◌, List, Some, Ok, Err, Result, ap, arith, inl, inr, refl, subst, sym, ℕ}
use Rattle.proof_tree.specs.declared.tree.Leaf.{Leaf}
use Rattle.bound_certificate.specs.declared.fault.CertError.{CertError}
use Rattle.bound_certificate.specs.declared.fault.CertError.TheVariants as error
use Rattle.bound_certificate.specs.declared.fault.CertFault.{CertFault}
use Rattle.bound_certificate.specs.declared.fault.FaultKind.{FaultKind}
use Rattle.bound_certificate.specs.declared.item.Item.{Item}
use Rattle.bound_certificate.specs.declared.line.Line.{Line}
use Rattle.bound_certificate.specs.declared.packed.Packed.{Packed}
use Rattle.bound_certificate.specs.declared.version.Version.TheVariants as version
use Rattle.bound_certificate.specs.declared.weighing.Weighing.{Weighing}
use Rattle.bound_certificate.specs.Draft.{with_line}
use Rattle.bound_certificate.specs.Due.{next_due}
use Rattle.bound_certificate.specs.Faults.{IsPackedCause, lines_in, packed_fault, packed_weighing_in, text_fault}
use Rattle.bound_certificate.specs.Grammar.{line_said, title_weighing, vectors_with}
use Rattle.bound_certificate.specs.Taken.{AreOfLeaf, IsGiven, IsOfNumbers, line_with}
use Rattle.bound_certificate.specs.Text.{IsPackedTextOf}
use Rattle.line_words.specs.Words.{parts_behind}
use Rattle.bound_certificate.proofs.BehindFacts.{lines-behind, none-behind, rest-is, some-behind}
use Rattle.bound_certificate.proofs.DueFacts.{IsFound}
use Rattle.bound_certificate.proofs.FollowFacts.{and_line, none_written, with-vectors}
use Rattle.bound_certificate.proofs.MoveFacts.{are-vectors, line-is-said}
use Rattle.bound_certificate.proofs.WholeTextFacts.{at-more, at-start, end-cause, end-text, fits-at, line-cause, no-cause, packed-more}
use Rattle.bound_certificate.proofs.VersionFacts.{packed-fault, packed-text-good, packed-text-one}
use Rattle.bound_certificate.proofs.WrittenFacts.{text-packed}
use Rattle.bound_certificate.proofs.face_read.read_packed.Goals as goal

memory_said : (dates : ℕ) (bytes : List ℕ) (found : CertError) (it : Packed) → dates ≤ 480 → IsPackedCause dates bytes found → IsPackedTextOf dates it bytes →
    ◌≡◌ {A = Result Packed CertError} (Err found) (Err error.NoMemory)
memory_said dates bytes found it short h is =
    ap (λ (e : CertError). Err e) (no-cause (version.Packed (packed_weighing_in (lines_in bytes))) dates bytes found h (packed-text-good dates it bytes short is))

-- the fault of the version that the first line says
fault_said : (how : Weighing) (dates : ℕ) (bytes first : List ℕ) (rest : List (List ℕ)) (fault : CertFault) → how ≡ title_weighing first → lines_in bytes ≡ first ∷ rest →
    text_fault (version.Packed how) dates bytes ≡ Some fault → packed_fault dates bytes ≡ Some fault
fault_said how dates bytes first rest fault title lines h =
    packed-fault how dates bytes (ap (λ (ls : List (List ℕ)). packed_weighing_in ls) lines ∙ sym title) ∙ h

-- what is said twice is the same
same_said : (told : Result Line FaultKind) (one other : Line) → told ≡ Ok one → told ≡ Ok other → one ≡ other
same_said told one other a b = cc

pub loop-part-init : goal.loop-part-init
loop-part-init c = record {
  written = none_written;
  at = at-start (version.Packed c.weighing_of_title-weighing.result) c.args.dates c.args.bytes.now _ c.cut_line-part.ensures;
  vectors = c.in_ok-vectors.ensures;
  came = c.empty-packed.ensures;
  leaf = c.in_ok-leaf.ensures;
}

pub returns-in-Err-clause-err : goal.returns-in-Err-clause-err
returns-in-Err-clause-err c =
    let i = c.loop-part.invariant in
    fault_said c.weighing_of_title-weighing.result c.args.dates c.args.bytes.now _ _ _ c.weighing_of_title-weighing.ensures c.cut_line-part.ensures
    (line-cause (version.Packed c.weighing_of_title-weighing.result) c.args.dates c.loop-part.number c.loop-part.due i.written c.args.bytes.now c.loop-part.part.front.now (parts_behind 10 c.loop-part.part.rest) c.in-Err.kind
    i.at (some-behind c.loop-part.part.rest c.in-Some.rest c.in-Some.is) (ap (λ (vs : List (List ℕ)). line_said (version.Packed c.weighing_of_title-weighing.result) c.args.dates vs c.loop-part.due c.loop-part.part.front.now) (sym i.vectors) ∙ c.in-Err.ensures.err))

pub returns-in-Err-clause-back : goal.returns-in-Err-clause-back
returns-in-Err-clause-back c = λ it is.
    (let i = c.loop-part.invariant in
    inr (memory_said c.args.dates c.args.bytes.now (error.Fault (record { line = c.loop-part.number; kind = c.in-Err.kind })) it c.requires
    (fault_said c.weighing_of_title-weighing.result c.args.dates c.args.bytes.now _ _ _ c.weighing_of_title-weighing.ensures c.cut_line-part.ensures
    (line-cause (version.Packed c.weighing_of_title-weighing.result) c.args.dates c.loop-part.number c.loop-part.due i.written c.args.bytes.now c.loop-part.part.front.now (parts_behind 10 c.loop-part.part.rest) c.in-Err.kind
    i.at (some-behind c.loop-part.part.rest c.in-Some.rest c.in-Some.is) (ap (λ (vs : List (List ℕ)). line_said (version.Packed c.weighing_of_title-weighing.result) c.args.dates vs c.loop-part.due c.loop-part.part.front.now) (sym i.vectors) ∙ c.in-Err.ensures.err))) is))

pub line_of-requires : goal.line_of-requires
line_of-requires c = λ leaf.
    (let of_numbers = c.in-Ok.ensures.numbers c.weighing_of_title-weighing.result refl in
    let P : List ℕ → Type 0 = λ ns. AreOfLeaf ns in
    subst P (sym c.as_slice.ensures.value) (of_numbers.leaf leaf))

pub after-due-requires-clause-item : goal.after-due-requires-clause-item
after-due-requires-clause-item c =
    let i = c.loop-part.invariant in
    let given : IsGiven c.args.dates (line_said (version.Packed c.weighing_of_title-weighing.result) c.args.dates c.loop-part.vectors c.loop-part.due c.loop-part.part.front.now) c.loop-part.vectors c.take_line.new.vectors c.take_line.new.leaf c.in-Ok.item =
    c.in-Ok.ensures.ok in
    line-is-said (version.Packed c.weighing_of_title-weighing.result) c.args.dates c.loop-part.due i.written.vectors c.loop-part.part.front.now given.said c.in-Ok.item
    (are-vectors c.args.dates c.loop-part.due i.written.vectors i.at.holds) (ap (λ (vs : List (List ℕ)). line_said (version.Packed c.weighing_of_title-weighing.result) c.args.dates vs c.loop-part.due c.loop-part.part.front.now) (sym i.vectors) ∙ given.is) given.item_is

pub loop-part-preserved : goal.loop-part-preserved
loop-part-preserved c =
    let i = c.loop-part.invariant in
    let told : Result Line FaultKind = line_said (version.Packed c.weighing_of_title-weighing.result) c.args.dates c.loop-part.vectors c.loop-part.due c.loop-part.part.front.now in
    let given : IsGiven c.args.dates told c.loop-part.vectors c.take_line.new.vectors c.take_line.new.leaf c.in-Ok.item = c.in-Ok.ensures.ok in
    let said_is : line_said (version.Packed c.weighing_of_title-weighing.result) c.args.dates i.written.vectors c.loop-part.due c.loop-part.part.front.now ≡ Ok given.said = (ap (λ (vs : List (List ℕ)). line_said (version.Packed c.weighing_of_title-weighing.result) c.args.dates vs c.loop-part.due c.loop-part.part.front.now) (sym i.vectors) ∙ given.is) in
    let found : IsFound (version.Packed c.weighing_of_title-weighing.result) c.args.dates i.written.vectors c.loop-part.due c.loop-part.part.front.now given.said =
    fits-at (version.Packed c.weighing_of_title-weighing.result) c.args.dates c.loop-part.number c.loop-part.due i.written c.args.bytes.now c.loop-part.part.front.now (parts_behind 10 c.loop-part.part.rest) given.said i.at said_is in
    let of_numbers : IsOfNumbers c.weighing_of_title-weighing.result told c.take_line.new.numbers.items c.take_line.new.leaf.weights c.in-Ok.item = c.in-Ok.ensures.numbers c.weighing_of_title-weighing.result refl in
    let line_is : c.in_ok-line_of.field-0 ≡ given.said =
    c.in_ok-line_of.ensures ∙ ap (λ (ns : List ℕ). line_with c.weighing_of_title-weighing.result c.in-Ok.item ns c.as_leaf.result.now.weights) c.as_slice.ensures.value
    ∙ ap (λ (l : Leaf). line_with c.weighing_of_title-weighing.result c.in-Ok.item c.take_line.new.numbers.items l.weights) c.as_leaf.ensures
    ∙ sym (same_said told given.said (line_with c.weighing_of_title-weighing.result c.in-Ok.item c.take_line.new.numbers.items c.take_line.new.leaf.weights) given.is of_numbers.is) in
    record {
      written = and_line i.written given.said;
      at = at-more (version.Packed c.weighing_of_title-weighing.result) c.args.dates c.loop-part.number c.loop-part.due i.written c.args.bytes.now c.loop-part.part.front.now (parts_behind 10 c.loop-part.part.rest)
          (c.cut_line-part-in-Some.result.front.now ∷ parts_behind 10 c.cut_line-part-in-Some.result.rest) given.said c.after-due.result i.at said_is
          (lines-behind c.loop-part.part.rest c.in-Some.rest c.in-Some.is ∙ c.cut_line-part-in-Some.ensures) (omega arith)
          (c.after-due.ensures.value ∙ ap (λ (told : Item). next_due (version.Packed c.weighing_of_title-weighing.result) c.loop-part.due told) given.item_is) c.after-due.ensures.kept c.after-due.ensures.lines;
      vectors = given.vectors_are ∙ ap (λ (vs : List (List ℕ)). vectors_with vs given.said) i.vectors ∙ with-vectors i.written given.said;
      came = c.in_ok-take.ensures ∙ ap (λ (l : Line). with_line c.loop-part.packed l) line_is ∙ packed-more c.weighing_of_title-weighing.result c.args.dates c.loop-part.due i.written given.said c.loop-part.packed found.fits i.came;
      leaf = c.take_line.ensures.dates;
    }

pub returns-in-Some-rest_fault-clause-back : goal.returns-in-Some-rest_fault-clause-back
returns-in-Some-rest_fault-clause-back c = λ it is.
    (let i = c.loop-part.invariant in
    inr (memory_said c.args.dates c.args.bytes.now (error.Fault (record { line = c.loop-part.number; kind = c.in-Some-rest_fault.kind })) it c.requires
    (fault_said c.weighing_of_title-weighing.result c.args.dates c.args.bytes.now _ _ _ c.weighing_of_title-weighing.ensures c.cut_line-part.ensures
    (end-cause (version.Packed c.weighing_of_title-weighing.result) c.args.dates c.loop-part.number c.loop-part.due i.written c.args.bytes.now c.loop-part.part.front.now (parts_behind 10 c.loop-part.part.rest)
    c.in-Some-rest_fault.kind i.at (none-behind c.loop-part.part.rest c.in_default.not-Some) (rest-is _ _ _ _ c.rest_fault.ensures c.is_over.ensures ∙ c.in-Some-rest_fault.is))) is))

pub returns-clause-ok : goal.returns-clause-ok
returns-clause-ok c =
    let i = c.loop-part.invariant in
    let P : Packed → Type 0 = λ it. IsPackedTextOf c.args.dates it c.args.bytes.now in
    subst P (sym i.came) (text-packed c.weighing_of_title-weighing.result c.args.dates i.written c.args.bytes.now
    (end-text (version.Packed c.weighing_of_title-weighing.result) c.args.dates c.loop-part.number c.loop-part.due i.written c.args.bytes.now c.loop-part.part.front.now (parts_behind 10 c.loop-part.part.rest)
    i.at (none-behind c.loop-part.part.rest c.in_default.not-Some) (rest-is _ _ _ _ c.rest_fault.ensures c.is_over.ensures ∙ c.in-None.is)))

pub returns-clause-back : goal.returns-clause-back
returns-clause-back c = λ it is.
    inl (ap (λ (x : Packed). Ok x) (packed-text-one c.args.dates c.args.bytes.now c.loop-part.packed it c.requires (returns-clause-ok c) is))
