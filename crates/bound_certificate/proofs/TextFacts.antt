-- Whole texts, line by line.
use Rattle.std.proofs.Common.{◌≡◌, ◌∙◌, ℕ, ◌+◌, ◌-◌, ◌<◌, ◌≤◌, Bool, true, false, ◌==◌, cond, if◌then◌else◌, List, [], ◌∷◌, ◌++◌, length, All, refl, sym, subst, ap, arith, Option, Some, None, Result, Ok, Err, append_assoc, length-append}
use Rattle.std.specs.List.{flat_map, join_with_byte, onto_first}
use Rattle.std.proofs.lemmas.List.Elements.{All-append, All-cons, All-nil}
use Rattle.std.proofs.lemmas.List.Splits.{join_with_byte-slice_split, length-slice_split, slice_split_at}
use Rattle.bound_certificate.specs.declared.fault.CertFault.{CertFault}
use Rattle.bound_certificate.specs.declared.fault.FaultKind.{FaultKind}
use Rattle.bound_certificate.specs.declared.fault.FaultKind.TheVariants as kind
use Rattle.bound_certificate.specs.declared.item.Item.{Item}
use Rattle.bound_certificate.specs.declared.due.Due.{Due}
use Rattle.bound_certificate.specs.declared.due.Due.TheVariants as due
use Rattle.bound_certificate.specs.declared.item.Item.TheVariants as item
use Rattle.bound_certificate.specs.declared.line.Line.{Line}
use Rattle.bound_certificate.specs.declared.line.Line.TheVariants as line
use Rattle.bound_certificate.specs.declared.version.Version.{Version}
use Rattle.bound_certificate.specs.declared.version.Version.TheVariants as version
use Rattle.bound_certificate.specs.declared.limits.TheConstants.{GREATEST_GAP, MOST_VECTORS}
use Rattle.bound_certificate.specs.Due.{is_over, next_due, tree_due, vectors_due}
use Rattle.bound_certificate.specs.Faults.{fault_or, first_fault, lines_in, on_line, rest_fault, text_fault}
use Rattle.bound_certificate.specs.Grammar.{line_item, line_said, vectors_with}
use Rattle.bound_certificate.specs.Packed.{IsVector}
use Rattle.bound_certificate.specs.Text.{IsOneLine, NotFeed, line_text}
use Rattle.line_words.specs.Words.{is_feed}
use Rattle.bound_certificate.proofs.DueFacts.{Fits, IsFew, IsFound, IsNodeLine, IsShown, line-found, line-shows}
use Rattle.bound_certificate.proofs.FollowFacts.{Follows, IsLinesOf, IsWritten, Written, and_lines, lines-fold, lines-follow, lines-of, none_written, some_left, written_lines}
use Rattle.bound_certificate.proofs.LineFacts.{body, body-text}

pub rest-due : (over : Bool) (rest : List ℕ) → over ≡ false → rest_fault over rest ≡ Some kind.Truncated
rest-due over rest more = ap (λ (b : Bool). rest_fault b rest) more

pub over-rest : (over : Bool) (rest : List ℕ) → over ≡ true → rest_fault over rest ≡ rest_fault true rest
over-rest over rest is = ap (λ (b : Bool). rest_fault b rest) is

no_feed : (byte : ℕ) → NotFeed byte → (b : Bool) → is_feed byte ≡ b → b ≡ false
no_feed byte other true e = absurd (other (grind (arith, e)))
no_feed byte other false e = refl

pub no-feeds : (bytes : List ℕ) → IsOneLine bytes → All (λ byte. is_feed byte ≡ false) bytes
no-feeds bytes one i d inside = no_feed _ (one i d inside) _ refl

-- the lines of a text that begins with a line
pub lines-cons : (line rest : List ℕ) → IsOneLine line → lines_in (line ++ 10 ∷ rest) ≡ line ∷ lines_in rest
lines-cons line rest one = slice_split_at is_feed line 10 rest (no-feeds line one) refl

pub some-lines : (bytes : List ℕ) → 0 < length (lines_in bytes)
some-lines bytes = omega (arith, length-slice_split is_feed bytes)

-- lines of a text
abbrev pub AreOneLine : List (List ℕ) → Type 0
AreOneLine [] = Unit {0}
AreOneLine (bytes ∷ lines) = IsOneLine bytes × AreOneLine lines

onto_line : (byte : ℕ) (lines : List (List ℕ)) → NotFeed byte → AreOneLine lines → AreOneLine (onto_first byte lines)
onto_line byte [] other are = (All-cons NotFeed byte [] other (All-nil NotFeed), tt)
onto_line byte (first ∷ lines) other are = (All-cons NotFeed byte first other are.0, are.1)

lines_by : (byte : ℕ) (lines : List (List ℕ)) → AreOneLine lines → (b : Bool) → is_feed byte ≡ b → AreOneLine (cond b ([] ∷ lines) (onto_first byte lines))
lines_by byte lines are true e = (All-nil NotFeed, are)
lines_by byte lines are false e = onto_line byte lines (λ same. absurd (grind (arith, e, same))) are

pub lines-one : (bytes : List ℕ) → AreOneLine (lines_in bytes)
lines-one [] = (All-nil NotFeed, tt)
lines-one (byte ∷ bytes) = lines_by byte (lines_in bytes) (lines-one bytes) (is_feed byte) refl

pub head_same : (x y : List ℕ) (xs ys : List (List ℕ)) → x ∷ xs ≡ y ∷ ys → (x ≡ y) × (xs ≡ ys)
head_same x y xs ys h = (cc, cc)

-- the first fault of lines after a line
pub first-cons : (v : Version) (dates number : ℕ) (d : Due) (vectors : List (List ℕ)) (bytes : List ℕ) (lines : List (List ℕ)) → 0 < length lines →
    first_fault v dates number d vectors (bytes ∷ lines)
    ≡ fault_or number (line_said v dates vectors d bytes) (λ said. first_fault v dates (number + 1) (next_due v d (line_item said)) (vectors_with vectors said) lines)
first-cons v dates number d vectors bytes [] some = absurd (omega arith)
first-cons v dates number d vectors bytes (next ∷ lines) some = refl

pub text_cons : (said : Line) (rest : List ℕ) → line_text said ++ rest ≡ body said ++ 10 ∷ rest
text_cons said rest = ap (λ (bs : List ℕ). bs ++ rest) (body-text said) ∙ append_assoc (body said) (10 ∷ []) rest

-- ---- what stays true of the vectors
-- how many may still come; where a vector is due, at least one
abbrev pub left_for : Due → ℕ
left_for (due.Vector left) = left - 1 + 1
left_for due.Count = 0
left_for (due.Node left trees) = 0
left_for (due.End trees) = 0
left_for due.Nothing = 0
left_for other = MOST_VECTORS

pub record Holds (dates : ℕ) (d : Due) (vectors : List (List ℕ)) : Type 0 where
  pub all : All (IsVector dates) vectors
  pub room : length vectors + left_for d ≤ MOST_VECTORS

pub holds-few : (dates : ℕ) (d : Due) (vectors : List (List ℕ)) → Holds dates d vectors → length vectors ≤ MOST_VECTORS
holds-few dates d vectors holds = omega (arith, holds.room)

pub holds-none : (dates : ℕ) → Holds dates due.Title []
holds-none dates = record { all = All-nil (IsVector dates); room = omega arith }

buys_left : (least : ℕ) (left : ℕ) (b : Bool) → left_for (if b then due.Gap GREATEST_GAP else due.Buy left least) ≡ MOST_VECTORS
buys_left least left true = refl
buys_left least left false = refl

vectors_room : (left : ℕ) (b : Bool) → (left == 0) ≡ b → left_for (if b then due.Count else due.Vector left) ≤ left
vectors_room left true e = omega arith
vectors_room left false e = let some : 1 ≤ left = some_left left e in omega (arith, some)

nodes_left : (left trees : ℕ) (b : Bool) → left_for (if b then due.End trees else due.Node left trees) ≡ 0
nodes_left left trees true = refl
nodes_left left trees false = refl

node_left : (v : Version) (left trees : ℕ) (told : Item) → left_for (next_due v (due.Node left trees) told) ≡ 0
node_left v left trees (item.Split part at) = nodes_left (left - 1) (trees + 1) (left - 1 == 0)
node_left v left trees item.Nothing = nodes_left (left - 1) (trees - 1) (left - 1 == 0)
node_left v left trees item.Header = nodes_left (left - 1) (trees - 1) (left - 1 == 0)
node_left v left trees (item.Portfolio count) = nodes_left (left - 1) (trees - 1) (left - 1 == 0)
node_left v left trees (item.Buy buy) = nodes_left (left - 1) (trees - 1) (left - 1 == 0)
node_left v left trees (item.Gap cents) = nodes_left (left - 1) (trees - 1) (left - 1 == 0)
node_left v left trees (item.Vectors count) = nodes_left (left - 1) (trees - 1) (left - 1 == 0)
node_left v left trees item.Vector = nodes_left (left - 1) (trees - 1) (left - 1 == 0)
node_left v left trees (item.Nodes count) = nodes_left (left - 1) (trees - 1) (left - 1 == 0)
node_left v left trees item.Point = nodes_left (left - 1) (trees - 1) (left - 1 == 0)
node_left v left trees item.Leaf = nodes_left (left - 1) (trees - 1) (left - 1 == 0)
node_left v left trees item.End = nodes_left (left - 1) (trees - 1) (left - 1 == 0)

-- no vector comes by a node's line
node_kept : (v : Version) (dates : ℕ) (vectors : List (List ℕ)) (said : Line) → IsNodeLine v dates vectors said → vectors_with vectors said ≡ vectors
node_kept v dates vectors (line.Split part at) is = refl
node_kept v dates vectors line.Point is = refl
node_kept v dates vectors (line.Closed how rho mu vector changes weights) is = refl
node_kept v dates vectors (line.Leaf leaf) is = refl
node_kept v dates vectors said is = absurd is

tree_room : (v : Version) → left_for (tree_due v) ≤ MOST_VECTORS
tree_room version.One = omega arith
tree_room (version.Packed how) = omega arith

node_holds : (v : Version) (dates left trees : ℕ) (vectors : List (List ℕ)) (said : Line) → Holds dates (due.Node left trees) vectors → IsNodeLine v dates vectors said →
    Holds dates (next_due v (due.Node left trees) (line_item said)) (vectors_with vectors said)
node_holds v dates left trees vectors said holds is =
    let P : List (List ℕ) → Type 0 = λ vs. Holds dates (next_due v (due.Node left trees) (line_item said)) vs in
    subst P (sym (node_kept v dates vectors said is)) (record { all = holds.all; room = omega (arith, holds.room, node_left v left trees (line_item said)) })

pub holds-step : (v : Version) (dates : ℕ) (vectors : List (List ℕ)) (d : Due) (said : Line) → Holds dates d vectors → Fits v dates vectors d said →
    Holds dates (next_due v d (line_item said)) (vectors_with vectors said)
holds-step v dates vectors due.Title (line.Title w) holds fits = record { all = holds.all; room = holds.room }
holds-step v dates vectors due.Portfolio (line.Portfolio None) holds fits = record { all = holds.all; room = holds.room }
holds-step v dates vectors due.Portfolio (line.Portfolio (Some count)) holds fits =
    record { all = holds.all; room = omega (arith, holds.room, buys_left 0 count (count == 0)) }
holds-step v dates vectors (due.Buy left least) (line.Purchase buy) holds fits =
    record { all = holds.all; room = omega (arith, holds.room, buys_left (buy.line + 1) (left - 1) (left - 1 == 0)) }
holds-step v dates vectors (due.Gap most) (line.Gap cents) holds fits = record { all = holds.all; room = omega (arith, holds.room, tree_room v) }
holds-step v dates vectors due.VectorCount (line.Vectors count) holds fits =
    record { all = holds.all; room = omega (arith, holds.room, vectors_room count (count == 0) refl, fits) }
holds-step v dates vectors (due.Vector left) (line.Vector prices) holds fits =
    let one : length (vectors ++ prices ∷ []) ≡ length vectors + 1 = length-append vectors (prices ∷ []) in
    let few : left_for (vectors_due (left - 1)) ≤ left - 1 = vectors_room (left - 1) (left - 1 == 0) refl in
    record {
      all = All-append (IsVector dates) vectors (prices ∷ []) holds.all (All-cons (IsVector dates) prices [] fits (All-nil (IsVector dates)));
      room = omega (arith, holds.room, one, few);
    }
holds-step v dates vectors due.Count (line.Nodes count) holds fits =
    record { all = holds.all; room = omega (arith, holds.room, nodes_left count 1 (count == 0)) }
holds-step v dates vectors (due.Node left trees) said holds fits = node_holds v dates left trees vectors said holds fits.2
holds-step v dates vectors (due.End trees) line.End holds fits = record { all = holds.all; room = holds.room }
holds-step v dates vectors d said holds fits = absurd fits

-- ---- lines that may stand one after another have no fault
pub follows-fault : (v : Version) (dates : ℕ) (lines : List Line) (number : ℕ) (d : Due) (vectors : List (List ℕ)) → IsFew v dates → Follows v dates d vectors lines →
    first_fault v dates number d vectors (lines_in (flat_map line_text lines)) ≡ None
follows-fault v dates [] number d vectors short follows = ap (λ (o : Option FaultKind). on_line number o) (over-rest (is_over d) [] follows)
follows-fault v dates (said ∷ lines) number d vectors short follows =
    let rest : List ℕ = flat_map line_text lines in
    let shown : IsShown v dates vectors d said = line-shows v dates vectors d said short follows.0 in
    let parts : lines_in (line_text said ++ rest) ≡ body said ∷ lines_in rest =
    ap (λ (bs : List ℕ). lines_in bs) (text_cons said rest) ∙ lines-cons (body said) rest shown.one in
    ap (λ (ls : List (List ℕ)). first_fault v dates number d vectors ls) parts
    ∙ first-cons v dates number d vectors (body said) (lines_in rest) (some-lines rest)
    ∙ ap (λ (r : Result Line FaultKind). fault_or number r (λ l. first_fault v dates (number + 1) (next_due v d (line_item l)) (vectors_with vectors l) (lines_in rest))) shown.said_is
    ∙ follows-fault v dates lines (number + 1) (next_due v d (line_item said)) (vectors_with vectors said) short follows.1

-- and lines without a fault are such
pub record AreLines (v : Version) (dates : ℕ) (d : Due) (vectors : List (List ℕ)) (bytes : List ℕ) : Type 0 where
  pub lines : List Line
  pub follow : Follows v dates d vectors lines
  pub text : bytes ≡ flat_map line_text lines

rest_lines : (v : Version) (dates number : ℕ) (d : Due) (vectors : List (List ℕ)) (rest : List ℕ) → on_line number (rest_fault (is_over d) rest) ≡ None → (b : Bool) → is_over d ≡ b →
    AreLines v dates d vectors rest
rest_lines v dates number d vectors rest h false e =
    let bad : on_line number (Some kind.Truncated) ≡ None = ap (λ (o : Option FaultKind). on_line number o) (sym (rest-due (is_over d) rest e)) ∙ h in absurd (cc)
rest_lines v dates number d vectors [] h true e = record { lines = []; follow = e; text = refl }
rest_lines v dates number d vectors (byte ∷ rest) h true e =
    let bad : on_line number (Some kind.Trailing) ≡ None = ap (λ (o : Option FaultKind). on_line number o) (sym (over-rest (is_over d) (byte ∷ rest) e)) ∙ h in absurd (cc)

-- no fault of a line, and none behind it
pub record NoFault (r : Result Line FaultKind) (more : Line → Option CertFault) : Type 0 where
  pub said : Line
  pub said_is : r ≡ Ok said
  pub none : more said ≡ None

pub no-fault : (number : ℕ) (r : Result Line FaultKind) (more : Line → Option CertFault) → fault_or number r more ≡ None → NoFault r more
no-fault number (Err found) more h = absurd (cc)
no-fault number (Ok said) more h = record { said = said; said_is = refl; none = h }

pub fault-lines : (v : Version) (dates : ℕ) (parts : List (List ℕ)) (number : ℕ) (d : Due) (vectors : List (List ℕ)) → 0 < length parts → Holds dates d vectors →
    first_fault v dates number d vectors parts ≡ None → AreLines v dates d vectors (join_with_byte 10 parts)
fault-lines v dates [] number d vectors some holds h = absurd (omega arith)
fault-lines v dates (rest ∷ []) number d vectors some holds h = rest_lines v dates number d vectors rest h (is_over d) refl
fault-lines v dates (bytes ∷ next ∷ parts) number d vectors some holds h =
    let none : NoFault (line_said v dates vectors d bytes) (λ said. first_fault v dates (number + 1) (next_due v d (line_item said)) (vectors_with vectors said) (next ∷ parts)) =
    no-fault number (line_said v dates vectors d bytes) (λ said. first_fault v dates (number + 1) (next_due v d (line_item said)) (vectors_with vectors said) (next ∷ parts)) h in
    let found : IsFound v dates vectors d bytes none.said = line-found v dates vectors d bytes none.said holds.all (holds-few dates d vectors holds) none.said_is in
    let behind : AreLines v dates (next_due v d (line_item none.said)) (vectors_with vectors none.said) (join_with_byte 10 (next ∷ parts)) =
    fault-lines v dates (next ∷ parts) (number + 1) (next_due v d (line_item none.said)) (vectors_with vectors none.said) (omega arith)
    (holds-step v dates vectors d none.said holds found.fits) none.none in
    record {
      lines = none.said ∷ behind.lines;
      follow = (found.fits, behind.follow);
      text =
          ap (λ (bs : List ℕ). bs ++ 10 ∷ join_with_byte 10 (next ∷ parts)) found.bytes_of
          ∙ ap (λ (bs : List ℕ). body none.said ++ 10 ∷ bs) behind.text
          ∙ sym (text_cons none.said (flat_map line_text behind.lines));
    }

-- a text without a fault is that of what is within the limits, and the other way
pub record IsWrittenText (v : Version) (dates : ℕ) (w : Written) (bytes : List ℕ) : Type 0 where
  pub is : IsWritten v dates w
  pub text : bytes ≡ flat_map line_text (written_lines v w)

pub lines-text : (v : Version) (dates : ℕ) (bytes : List ℕ) (lines : List Line) → Follows v dates due.Title [] lines → bytes ≡ flat_map line_text lines →
    IsWrittenText v dates (and_lines none_written lines) bytes
lines-text v dates bytes lines follows text =
    let are : IsLinesOf v dates lines = lines-of v dates lines follows in
    let same : are.written ≡ and_lines none_written lines = sym (lines-fold v dates are.written are.is) ∙ ap (λ (ls : List Line). and_lines none_written ls) are.are in
    let P : Written → Type 0 = λ w. IsWrittenText v dates w bytes in
    subst P same (record { is = are.is; text = text ∙ ap (λ (ls : List Line). flat_map line_text ls) (sym are.are) })

pub written-found : (v : Version) (dates : ℕ) (bytes : List ℕ) → text_fault v dates bytes ≡ None → (w : Written) × IsWrittenText v dates w bytes
written-found v dates bytes h =
    let are : AreLines v dates due.Title [] (join_with_byte 10 (lines_in bytes)) =
    fault-lines v dates (lines_in bytes) 1 due.Title [] (some-lines bytes) (holds-none dates) h in
    (and_lines none_written are.lines, lines-text v dates bytes are.lines are.follow (sym (join_with_byte-slice_split 10 bytes) ∙ are.text))

pub written-good : (v : Version) (dates : ℕ) (w : Written) (bytes : List ℕ) → IsFew v dates → IsWrittenText v dates w bytes → text_fault v dates bytes ≡ None
written-good v dates w bytes few is =
    ap (λ (bs : List ℕ). text_fault v dates bs) is.text ∙ follows-fault v dates (written_lines v w) 1 due.Title [] few (lines-follow v dates w is.is)

-- ---- a text says one thing alone
one_line : (v : Version) (dates : ℕ) (vectors : List (List ℕ)) (d : Due) (one other : Line) → IsShown v dates vectors d one → IsShown v dates vectors d other → body one ≡ body other → one ≡ other
one_line v dates vectors d one other shown also same =
    let both : ◌≡◌ {A = Result Line FaultKind} (Ok one) (Ok other) = sym shown.said_is ∙ ap (λ (bs : List ℕ). line_said v dates vectors d bs) same ∙ also.said_is in cc

no_more : (v : Version) (dates : ℕ) (vectors : List (List ℕ)) (d : Due) (said : Line) → is_over d ≡ true → Fits v dates vectors d said → ⊥
no_more v dates vectors due.Nothing said over fits = fits
no_more v dates vectors d said over fits = absurd (cc)

lines_same : (v : Version) (dates : ℕ) (lines others : List Line) (d : Due) (vectors : List (List ℕ)) → IsFew v dates → Follows v dates d vectors lines → Follows v dates d vectors others →
    flat_map line_text lines ≡ flat_map line_text others → lines ≡ others
lines_same v dates [] [] d vectors short follows other h = refl
lines_same v dates [] (said ∷ lines) d vectors short follows other h = absurd (no_more v dates vectors d said follows other.0)
lines_same v dates (said ∷ lines) [] d vectors short follows other h = absurd (no_more v dates vectors d said other follows.0)
lines_same v dates (said ∷ lines) (second ∷ others) d vectors short follows other h =
    let rest : List ℕ = flat_map line_text lines in
    let behind : List ℕ = flat_map line_text others in
    let shown : IsShown v dates vectors d said = line-shows v dates vectors d said short follows.0 in
    let also : IsShown v dates vectors d second = line-shows v dates vectors d second short other.0 in
    let parts : body said ∷ lines_in rest ≡ body second ∷ lines_in behind =
    sym (lines-cons (body said) rest shown.one) ∙ ap (λ (bs : List ℕ). lines_in bs) (sym (text_cons said rest) ∙ h ∙ text_cons second behind)
    ∙ lines-cons (body second) behind also.one in
    let both : (body said ≡ body second) × (lines_in rest ≡ lines_in behind) = head_same (body said) (body second) (lines_in rest) (lines_in behind) parts in
    let first : said ≡ second = one_line v dates vectors d said second shown also both.0 in
    let texts : rest ≡ behind =
    sym (join_with_byte-slice_split 10 rest) ∙ ap (λ (ps : List (List ℕ)). join_with_byte 10 ps) both.1 ∙ join_with_byte-slice_split 10 behind in
    let P : Line → Type 0 = λ l. Follows v dates (next_due v d (line_item l)) (vectors_with vectors l) others in
    ap (λ (l : Line). l ∷ lines) first
    ∙ ap (λ (ls : List Line). second ∷ ls)
    (lines_same v dates lines others (next_due v d (line_item said)) (vectors_with vectors said) short follows.1 (subst P (sym first) other.1) texts)

pub written-one : (v : Version) (dates : ℕ) (bytes : List ℕ) (one other : Written) → IsFew v dates → IsWrittenText v dates one bytes → IsWrittenText v dates other bytes → one ≡ other
written-one v dates bytes one other few is also =
    let same : written_lines v one ≡ written_lines v other =
    lines_same v dates (written_lines v one) (written_lines v other) due.Title [] few (lines-follow v dates one is.is) (lines-follow v dates other also.is) (sym is.text ∙ also.text) in
    sym (lines-fold v dates one is.is) ∙ ap (λ (ls : List Line). and_lines none_written ls) same ∙ lines-fold v dates other also.is
