use Rattle.std.proofs.Common.{◌≡◌, ◌∙◌, ℕ, List, [], ◌∷◌, ◌++◌, length, take, refl, sym, ap, subst, arith}
use Rattle.std.proofs.lemmas.List.{append-nil}
use Rattle.std.proofs.lemmas.Result.{IfOk-weaker}
use Rattle.offer_book.specs.Book.{IsBook}
use Rattle.case_file.specs.Case.{CaseContents, case_view}
use Rattle.escrow_check.specs.Acceptance.{IsVerdict}
use Rattle.escrow_check.specs.Checking.{Heard}
use Rattle.escrow_check.specs.TextMeaning.{IsMeant}
use Rattle.escrow_check.proofs.TextFacts.{is_meant}
use Rattle.escrow_check.proofs.HearFacts.{rest-drop}
use Rattle.escrow_check.proofs.whole.check.Goals as goal

pub loop-rest-init : goal.loop-rest-init
loop-rest-init c = record {
  front = [];
  bytes = refl;
  case = c.in_ok-checker.ensures.case;
  heard = c.in_ok-checker.ensures.heard;
}

pub loop-rest-preserved : goal.loop-rest-preserved
loop-rest-preserved c =
    let i = c.loop-rest.invariant in
    record {
      front = i.front ++ take c.min-size.result c.loop-rest.rest.now;
      bytes = rest-drop i.front c.loop-rest.rest.now c.args.cert.now c.min-size.result (length c.loop-rest.rest.now) (omega arith) i.bytes;
      case = c.feed.ensures.case ∙ i.case;
      heard = c.feed.ensures.heard i.front i.heard;
    }

nothing : (bytes : List ℕ) → length bytes ≡ 0 → bytes ≡ []
nothing [] none = refl
nothing (byte ∷ bytes) none = absurd (omega (arith, none))

pub returns-clause-means : goal.returns-clause-means
returns-clause-means c =
    let case = case_view c.args.case.now in
    let cert = c.args.cert.now in
    let i = c.loop-rest.invariant in
    let book : IsBook case.book = subst (λ (x : CaseContents). IsBook x.book) c.in_ok-checker.ensures.case c.in_ok-checker.ensures.book in
    let test = c.loop-rest-test.ensures in
    let none : length c.loop-rest.rest.now ≡ 0 = grind arith in
    let whole : i.front ≡ cert = sym (append-nil i.front) ∙ ap (λ rest. i.front ++ rest) (sym (nothing c.loop-rest.rest.now none)) ∙ i.bytes in
    let heard : Heard c.loop-rest.checker cert = subst (Heard c.loop-rest.checker) whole i.heard in
    IfOk-weaker c.finish.result (λ told. (bytes : List ℕ) → Heard c.loop-rest.checker bytes → IsVerdict c.loop-rest.checker.case bytes told) (IsMeant case cert)
    (λ told is. is_meant case cert told (book, c.requires) (subst (λ (x : CaseContents). IsVerdict x cert told) i.case (is cert heard))) c.finish.ensures.verdict
