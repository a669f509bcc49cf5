-- What has come of a text that is read whole, line by line.
use Rattle.std.proofs.Common.{◌≡◌, ◌∙◌, ℕ, ◌+◌, ◌<◌, ◌≤◌, Bool, true, false, List, [], ◌∷◌, ◌++◌, length, map, refl, sym, subst, ap, arith, Option, Some, None, Result, Ok, Err, append_assoc}
use Rattle.std.specs.List.{flat_map, join_with_byte}
use Rattle.std.proofs.lemmas.Grind.{flat_map-append}
use Rattle.std.proofs.lemmas.List.{append-nil, map-append}
use Rattle.std.proofs.lemmas.List.Sums.{fold-append}
use Rattle.std.proofs.lemmas.List.Splits.{join_with_byte-slice_split}
use Rattle.bound_certificate.specs.declared.due.Due.{Due}
use Rattle.bound_certificate.specs.declared.due.Due.TheVariants as due
use Rattle.bound_certificate.specs.declared.fault.CertError.{CertError}
use Rattle.bound_certificate.specs.declared.fault.CertError.TheVariants as error
use Rattle.bound_certificate.specs.declared.fault.FaultKind.{FaultKind}
use Rattle.bound_certificate.specs.declared.fault.FaultKind.TheVariants as kind
use Rattle.bound_certificate.specs.declared.item.Item.{Item}
use Rattle.bound_certificate.specs.declared.line.Line.{Line}
use Rattle.bound_certificate.specs.declared.version.Version.{Version}
use Rattle.bound_certificate.specs.declared.version.Version.TheVariants as version
use Rattle.bound_certificate.specs.declared.weighing.Weighing.{Weighing}
use Rattle.bound_certificate.specs.declared.certificate.Certificate.{Certificate}
use Rattle.bound_certificate.specs.declared.item.Item.TheVariants as item
use Rattle.bound_certificate.specs.declared.line.Line.TheVariants as line
use Rattle.bound_certificate.specs.declared.packed.Packed.{Packed}
use Rattle.bound_certificate.specs.declared.packed.PackedNode.{PackedNode}
use Rattle.proof_tree.specs.declared.tree.Leaf.{Leaf}
use Rattle.bound_certificate.specs.Draft.{with_item, with_line}
use Rattle.bound_certificate.specs.Due.{IsDue, is_over, lines_left, next_due}
use Rattle.bound_certificate.specs.Faults.{IsCauseIn, fault_or, first_fault, lines_in, on_line, rest_fault, text_fault}
use Rattle.bound_certificate.specs.Grammar.{line_item, line_said, vectors_with}
use Rattle.bound_certificate.specs.Text.{line_text}
use Rattle.bound_certificate.specs.Told.{line_leaf}
use Rattle.bound_certificate.proofs.DueFacts.{Fits, IsFound, line-found}
use Rattle.bound_certificate.proofs.FollowFacts.{Follows, Written, and_line, and_lines, none_written, with-vectors}
use Rattle.bound_certificate.proofs.LineFacts.{body, body-text}
use Rattle.bound_certificate.proofs.TextFacts.{Holds, IsWrittenText, first-cons, holds-few, holds-none, holds-step, lines-text, over-rest, rest-due}
use Rattle.bound_certificate.proofs.ToldFacts.{NoNodes, line-tells, no-nodes}
use Rattle.bound_certificate.proofs.WrittenFacts.{cert_of, node_of, packed_of}

-- the lines so far say this, and these parts of the bytes are still to come
pub record AtLine (v : Version) (dates number : ℕ) (d : Due) (w : Written) (bytes : List ℕ) (parts : List (List ℕ)) : Type 0 where
  pub lines : List Line
  pub came : w ≡ and_lines none_written lines
  pub text : bytes ≡ flat_map line_text lines ++ join_with_byte 10 parts
  pub follow : (more : List Line) → Follows v dates d w.vectors more → Follows v dates due.Title [] (lines ++ more)
  pub holds : Holds dates d w.vectors
  pub fault : text_fault v dates bytes ≡ first_fault v dates number d w.vectors parts
  pub due_is : IsDue d
  pub none : NoNodes d w
  pub count : number + lines_left d ≤ 1 + lines_left due.Title

pub at-start : (v : Version) (dates : ℕ) (bytes : List ℕ) (parts : List (List ℕ)) → lines_in bytes ≡ parts → AtLine v dates 1 due.Title none_written bytes parts
at-start v dates bytes parts same = record {
  lines = [];
  came = refl;
  text = sym (join_with_byte-slice_split 10 bytes) ∙ ap (λ (ps : List (List ℕ)). join_with_byte 10 ps) same;
  follow = λ more follows. follows;
  holds = holds-none dates;
  fault = ap (λ (ps : List (List ℕ)). first_fault v dates 1 due.Title [] ps) same;
  due_is = tt;
  none = refl;
  count = omega arith;
}

join_cons : (bytes : List ℕ) (parts : List (List ℕ)) → 0 < length parts → join_with_byte 10 (bytes ∷ parts) ≡ bytes ++ 10 ∷ join_with_byte 10 parts
join_cons bytes [] some = absurd (omega arith)
join_cons bytes (part ∷ parts) some = refl

pub fits-at : (v : Version) (dates number : ℕ) (d : Due) (w : Written) (bytes part : List ℕ) (parts : List (List ℕ)) (said : Line) → AtLine v dates number d w bytes (part ∷ parts) →
    line_said v dates w.vectors d part ≡ Ok said → IsFound v dates w.vectors d part said
fits-at v dates number d w bytes part parts said at h = line-found v dates w.vectors d part said at.holds.all (holds-few dates d w.vectors at.holds) h

pub at-more : (v : Version) (dates number : ℕ) (d : Due) (w : Written) (bytes part : List ℕ) (parts others : List (List ℕ)) (said : Line) (next : Due) →
    AtLine v dates number d w bytes (part ∷ parts) → line_said v dates w.vectors d part ≡ Ok said → parts ≡ others → 0 < length others → next ≡ next_due v d (line_item said) →
    IsDue next → lines_left next + 1 ≤ lines_left d → AtLine v dates (number + 1) next (and_line w said) bytes others
at-more v dates number d w bytes part parts others said next at h same_parts some same_due kept fewer =
    let found : IsFound v dates w.vectors d part said = fits-at v dates number d w bytes part parts said at h in
    let vectors : List (List ℕ) = vectors_with w.vectors said in
    let after : Written = and_line w said in
    let vectors_are : vectors ≡ after.vectors = with-vectors w said in
    let due_are : next_due v d (line_item said) ≡ next = sym same_due in
    let P : Due → Type 0 = λ e. Holds dates e vectors in
    let Q : List (List ℕ) → Type 0 = λ vs. Holds dates next vs in
    let N : Due → Type 0 = λ e. NoNodes e after in
    let some_parts : 0 < length parts = omega (arith, ap length same_parts, some) in
    record {
      lines = at.lines ++ said ∷ [];
      came = ap (λ (x : Written). and_line x said) at.came ∙ sym (fold-append and_line none_written at.lines (said ∷ []));
      text =
          at.text ∙ ap (λ (bs : List ℕ). flat_map line_text at.lines ++ bs) (join_cons part parts some_parts)
          ∙ ap (λ (bs : List ℕ). flat_map line_text at.lines ++ (bs ++ 10 ∷ join_with_byte 10 parts)) found.bytes_of
          ∙ ap (λ (bs : List ℕ). flat_map line_text at.lines ++ bs) (sym (append_assoc (body said) (10 ∷ []) (join_with_byte 10 parts)))
          ∙ ap (λ (bs : List ℕ). flat_map line_text at.lines ++ (bs ++ join_with_byte 10 parts)) (sym (body-text said) ∙ sym (append-nil (line_text said)))
          ∙ sym (append_assoc (flat_map line_text at.lines) (flat_map line_text (said ∷ [])) (join_with_byte 10 parts))
          ∙ ap (λ (bs : List ℕ). bs ++ join_with_byte 10 parts) (sym (flat_map-append line_text at.lines (said ∷ [])))
          ∙ ap (λ (ps : List (List ℕ)). flat_map line_text (at.lines ++ said ∷ []) ++ join_with_byte 10 ps) same_parts;
      follow = λ more follows. (
          let R : Due → Type 0 = λ e. Follows v dates e vectors more in
          let S : List (List ℕ) → Type 0 = λ vs. Follows v dates next vs more in
          let T : List Line → Type 0 = λ ls. Follows v dates due.Title [] ls in
          subst T (sym (append_assoc at.lines (said ∷ []) more)) (at.follow (said ∷ more) (found.fits, subst R same_due (subst S (sym vectors_are) follows))));
      holds = subst Q vectors_are (subst P due_are (holds-step v dates w.vectors d said at.holds found.fits));
      fault =
          at.fault ∙ first-cons v dates number d w.vectors part parts some_parts
          ∙ ap (λ (r : Result Line FaultKind). fault_or number r (λ l. first_fault v dates (number + 1) (next_due v d (line_item l)) (vectors_with w.vectors l) parts)) h
          ∙ ap (λ (e : Due). first_fault v dates (number + 1) e vectors parts) due_are
          ∙ ap (λ (vs : List (List ℕ)). first_fault v dates (number + 1) next vs parts) vectors_are
          ∙ ap (λ (ps : List (List ℕ)). first_fault v dates (number + 1) next after.vectors ps) same_parts;
      due_is = kept;
      none = subst N due_are (no-nodes v dates w.vectors d w said found.fits at.none);
      count = omega (arith, at.count, fewer);
    }

-- a fault of a line is the text's
pub line-cause : (v : Version) (dates number : ℕ) (d : Due) (w : Written) (bytes part : List ℕ) (parts : List (List ℕ)) (found : FaultKind) → AtLine v dates number d w bytes (part ∷ parts) →
    0 < length parts → line_said v dates w.vectors d part ≡ Err found → text_fault v dates bytes ≡ Some (record { line = number; kind = found })
line-cause v dates number d w bytes part parts found at some h =
    at.fault ∙ first-cons v dates number d w.vectors part parts some
    ∙ ap (λ (r : Result Line FaultKind). fault_or number r (λ l. first_fault v dates (number + 1) (next_due v d (line_item l)) (vectors_with w.vectors l) parts)) h

-- of a text without a fault only want of memory is answered
pub no-cause : (v : Version) (dates : ℕ) (bytes : List ℕ) (found : CertError) → IsCauseIn v dates bytes found → text_fault v dates bytes ≡ None → found ≡ error.NoMemory
no-cause v dates bytes error.NoMemory h good = refl
no-cause v dates bytes (error.Fault fault) h good = let none : None ≡ Some fault = sym good ∙ h in absurd (cc)

-- behind the last line feed
pub end-cause : (v : Version) (dates number : ℕ) (d : Due) (w : Written) (bytes part : List ℕ) (parts : List (List ℕ)) (found : FaultKind) → AtLine v dates number d w bytes (part ∷ parts) →
    parts ≡ [] → rest_fault (is_over d) part ≡ Some found → text_fault v dates bytes ≡ Some (record { line = number; kind = found })
end-cause v dates number d w bytes part parts found at none h =
    at.fault ∙ ap (λ (ps : List (List ℕ)). first_fault v dates number d w.vectors (part ∷ ps)) none ∙ ap (λ (o : Option FaultKind). on_line number o) h

over_none : (d : Due) (part : List ℕ) → rest_fault (is_over d) part ≡ None → (b : Bool) → is_over d ≡ b → (is_over d ≡ true) × (part ≡ [])
over_none d part h false e = let bad : Some kind.Truncated ≡ None = sym (rest-due (is_over d) part e) ∙ h in absurd (cc)
over_none d [] h true e = (e, refl)
over_none d (byte ∷ part) h true e = let bad : Some kind.Trailing ≡ None = sym (over-rest (is_over d) (byte ∷ part) e) ∙ h in absurd (cc)

pub end-text : (v : Version) (dates number : ℕ) (d : Due) (w : Written) (bytes part : List ℕ) (parts : List (List ℕ)) → AtLine v dates number d w bytes (part ∷ parts) →
    parts ≡ [] → rest_fault (is_over d) part ≡ None → IsWrittenText v dates w bytes
end-text v dates number d w bytes part parts at none h =
    let over : (is_over d ≡ true) × (part ≡ []) = over_none d part h (is_over d) refl in
    let P : List Line → Type 0 = λ ls. Follows v dates due.Title [] ls in
    let follows : Follows v dates due.Title [] at.lines = subst P (append-nil at.lines) (at.follow [] over.0) in
    let text : bytes ≡ flat_map line_text at.lines =
    at.text ∙ ap (λ (ps : List (List ℕ)). flat_map line_text at.lines ++ join_with_byte 10 (part ∷ ps)) none
    ∙ ap (λ (bs : List ℕ). flat_map line_text at.lines ++ bs) over.1 ∙ append-nil (flat_map line_text at.lines) in
    let Q : Written → Type 0 = λ x. IsWrittenText v dates x bytes in
    subst Q (sym at.came) (lines-text v dates bytes at.lines follows text)

-- ---- the certificate so far
-- only a leaf's line takes the leaf
leaf_taken : (cert : Certificate) (told : Item) (leaf mine : Leaf) → (told ≡ item.Leaf → leaf ≡ mine) → with_item cert told leaf ≡ with_item cert told mine
leaf_taken cert item.Leaf leaf mine same = ap (λ (l : Leaf). with_item cert item.Leaf l) (same refl)
leaf_taken cert item.Nothing leaf mine same = refl
leaf_taken cert item.Header leaf mine same = refl
leaf_taken cert (item.Portfolio None) leaf mine same = refl
leaf_taken cert (item.Portfolio (Some count)) leaf mine same = refl
leaf_taken cert (item.Buy buy) leaf mine same = refl
leaf_taken cert (item.Gap cents) leaf mine same = refl
leaf_taken cert (item.Vectors count) leaf mine same = refl
leaf_taken cert item.Vector leaf mine same = refl
leaf_taken cert (item.Nodes count) leaf mine same = refl
leaf_taken cert (item.Split part at) leaf mine same = refl
leaf_taken cert item.Point leaf mine same = refl
leaf_taken cert item.End leaf mine same = refl

pub cert-more : (v : Version) (dates : ℕ) (d : Due) (w : Written) (said : Line) (cert : Certificate) (told : Item) (leaf : Leaf) → Fits v dates w.vectors d said → NoNodes d w →
    cert ≡ cert_of dates w → told ≡ line_item said → (told ≡ item.Leaf → leaf ≡ line_leaf dates w.vectors said) → with_item cert told leaf ≡ cert_of dates (and_line w said)
cert-more v dates d w said cert told leaf fits none came told_is leaf_is =
    leaf_taken cert told leaf (line_leaf dates w.vectors said) leaf_is ∙ ap (λ (i : Item). with_item cert i (line_leaf dates w.vectors said)) told_is
    ∙ ap (λ (c : Certificate). with_item c (line_item said) (line_leaf dates w.vectors said)) came ∙ line-tells v dates d w said fits none

-- versions 2 and 3 have no leaf with all its prices
no_leaf_line : (how : Weighing) (dates : ℕ) (vectors : List (List ℕ)) (d : Due) (leaf : Leaf) → Fits (version.Packed how) dates vectors d (line.Leaf leaf) → ⊥
no_leaf_line how dates vectors (due.Node left trees) leaf fits = fits.2
no_leaf_line how dates vectors due.Title leaf fits = fits
no_leaf_line how dates vectors due.Portfolio leaf fits = fits
no_leaf_line how dates vectors (due.Buy left least) leaf fits = fits
no_leaf_line how dates vectors (due.Gap most) leaf fits = fits
no_leaf_line how dates vectors due.VectorCount leaf fits = fits
no_leaf_line how dates vectors (due.Vector left) leaf fits = fits
no_leaf_line how dates vectors due.Count leaf fits = fits
no_leaf_line how dates vectors (due.End trees) leaf fits = fits
no_leaf_line how dates vectors due.Nothing leaf fits = fits

node_adds : (w : Written) (said : Line) →
    ◌≡◌ {A = Packed} (record { buys = w.buys; gap = w.gap; vectors = w.vectors; nodes = map node_of w.nodes ++ node_of said ∷ [] })
    (record { buys = w.buys; gap = w.gap; vectors = w.vectors; nodes = map node_of (w.nodes ++ said ∷ []) })
node_adds w said = ap (λ (ns : List PackedNode). record { buys = w.buys; gap = w.gap; vectors = w.vectors; nodes = ns }) (sym (map-append node_of w.nodes (said ∷ [])))

line_adds : (how : Weighing) (dates : ℕ) (d : Due) (w : Written) (said : Line) → Fits (version.Packed how) dates w.vectors d said → with_line (packed_of w) said ≡ packed_of (and_line w said)
line_adds how dates d w (line.Title v) fits = refl
line_adds how dates d w (line.Portfolio None) fits = refl
line_adds how dates d w (line.Portfolio (Some count)) fits = refl
line_adds how dates d w (line.Purchase buy) fits = refl
line_adds how dates d w (line.Gap cents) fits = refl
line_adds how dates d w (line.Vectors count) fits = refl
line_adds how dates d w (line.Vector prices) fits = refl
line_adds how dates d w (line.Nodes count) fits = refl
line_adds how dates d w (line.Split part at) fits = node_adds w (line.Split part at)
line_adds how dates d w line.Point fits = node_adds w line.Point
line_adds how dates d w (line.Closed own rho mu vector changes weights) fits = node_adds w (line.Closed own rho mu vector changes weights)
line_adds how dates d w (line.Leaf leaf) fits = absurd (no_leaf_line how dates w.vectors d leaf fits)
line_adds how dates d w line.End fits = refl

pub packed-more : (how : Weighing) (dates : ℕ) (d : Due) (w : Written) (said : Line) (packed : Packed) → Fits (version.Packed how) dates w.vectors d said → packed ≡ packed_of w →
    with_line packed said ≡ packed_of (and_line w said)
packed-more how dates d w said packed fits came = ap (λ (p : Packed). with_line p said) came ∙ line_adds how dates d w said fits
