-- Rows of a word, one by one.
use Rattle.std.proofs.Common.{◌≡◌, ◌∙◌, append_assoc, ℕ, refl, sym, ap, subst, arith, Bool, true, false, if◌then◌else◌, List, [], ◌∷◌, ◌++◌, length, ℤ, Option, Some, None, Result, Ok, Err, cond}
use Rattle.std.specs.Prelude.{◌==◌, ◌≤ℤ◌, ◌<ℤ◌, int_lt, int_le, is_some, ok_or, option_to_list, nat_eq, codes}
use Rattle.std.specs.List.{AllZip, filter}
use Rattle.std.proofs.lemmas.Bool.Decides.{nat_tests}
use Rattle.std.proofs.lemmas.Int.{ints}
use Rattle.std.proofs.lemmas.List.{append-nil}
use lib.Pointwise.{pointwise_decides}
use Rattle.escrow_desk.specs.declared.refusal.FileKind.{FileKind}
use Rattle.escrow_desk.specs.declared.refusal.RefusalKind.{RefusalKind}
use Rattle.escrow_desk.specs.declared.refusal.RefusalKind.TheVariants as kind
use Rattle.escrow_units.specs.Calendar.{years_after_of}
use Rattle.escrow_units.specs.DateText.{day_of}
use Rattle.escrow_units.specs.Denomination.{terms_of}
use Rattle.escrow_units.specs.declared.security.Terms.{Terms}
use Rattle.escrow_units.specs.declared.fault.NumberFault.{NumberFault}
use Rattle.row_fields.specs.RowForm.{Row, ◌>>=◌, answer_of_row, day_by_of, day_field_of, field_of, first_terms_of, is_word, of_width, or_refused, terms_row_of}
use Rattle.certificate_answers.specs.SaidRows.{Say, SaysLater, SaysTerms}

-- ---- what an answer rests on
pub record IsBound {T U E : Type 0} (answer : Result T E) (next : T → Result U E) (value : U) : Type 0 where
  pub first : T
  pub is : answer ≡ Ok first
  pub rest : next first ≡ Ok value

pub bound-ok : {T U E : Type 0} (answer : Result T E) (next : T → Result U E) (value : U) → (answer >>= next) ≡ Ok value → IsBound answer next value
bound-ok (Ok first) next value e = record { first = first; is = refl; rest = e }
bound-ok (Err refusal) next value e = absurd (cc)

pub made-bound : {S T U E : Type 0} (answer : Result S E) (make : S → T) (next : T → Result U E) (value : U) → ((answer >>= (λ own. Ok (make own))) >>= next) ≡ Ok value
    → IsBound answer (λ own. next (make own)) value
made-bound (Ok first) make next value e = record { first = first; is = refl; rest = e }
made-bound (Err refusal) make next value e = absurd (cc)

pub test-ok : {T E : Type 0} (test : Bool) (answer : Result T E) (refusal : E) (value : T) → (if test then answer else Err refusal) ≡ Ok value → (test ≡ true) × (answer ≡ Ok value)
test-ok true answer refusal value e = (refl, e)
test-ok false answer refusal value e = absurd (cc)

pub test-not : {T E : Type 0} (test : Bool) (answer : Result T E) (refusal : E) (value : T) → (if test then Err refusal else answer) ≡ Ok value → (test ≡ false) × (answer ≡ Ok value)
test-not true answer refusal value e = absurd (cc)
test-not false answer refusal value e = (refl, e)

abbrev pub ok : {T : Type 0} (E : Type 0) → T → Result T E
ok E own = Ok own

pub ok-is : {T : Type 0} (E : Type 0) (own value : T) → ok E own ≡ Ok value → own ≡ value
ok-is E own value e = cc

pub row-ok : {T : Type 0} (file : FileKind) (number : ℕ) (answer : Result T RefusalKind) (value : T) → answer_of_row file number answer ≡ Ok value → answer ≡ Ok value
row-ok file number (Ok own) value e = let same : own ≡ value = cc in ap (λ v. Ok v) same
row-ok file number (Err own) value e = absurd (cc)

pub kept-ok : {T : Type 0} (answer : Result T NumberFault) (value : T) → or_refused answer ≡ Ok value → answer ≡ Ok value
kept-ok (Ok own) value e = let same : own ≡ value = cc in ap (λ v. Ok v) same
kept-ok (Err own) value e = absurd (cc)

pub found-ok : {T : Type 0} (found : Option T) (value : T) → ok_or found kind.BadDate ≡ Ok value → found ≡ Some value
found-ok (Some own) value e = let same : own ≡ value = cc in ap (λ v. Some v) same
found-ok None value e = absurd (cc)

-- ---- fields
pub width-ok : {T : Type 0} (width : ℕ) (row : Row) (answer : Result T RefusalKind) (value : T) → of_width width row answer ≡ Ok value → (length row ≡ width) × (answer ≡ Ok value)
width-ok width row answer value e =
    let tested = test-ok (length row == width) answer kind.WrongFields value e in
    let same : length row ≡ width = grind (arith, nat_tests) in
    (same, tested.1)

pub width-is : {T : Type 0} (width : ℕ) (row : Row) (answer : Result T RefusalKind) → length row ≡ width → of_width width row answer ≡ answer
width-is width row answer is = let same : nat_eq (length row) width ≡ true = grind (arith, nat_tests) in rw same refl

pub not_before : (a b : ℤ) → int_lt a b ≡ false → b ≤ℤ a
not_before a b h = grind (arith, ints)

pub none_before : (a b : ℤ) → b ≤ℤ a → int_lt a b ≡ false
none_before a b h = grind (arith, ints)

pub is_after : (a b : ℤ) → int_le a b ≡ false → b <ℤ a
is_after a b h = grind (arith, ints)

pub none_after : (a b : ℤ) → b <ℤ a → int_le a b ≡ false
none_after a b h = grind (arith, ints)

pub record IsDayBy (last : ℤ) (bytes : List ℕ) (day : ℤ) : Type 0 where
  pub says : day_of bytes ≡ Some day
  pub by : day ≤ℤ last

pub day-ok : (last : ℤ) (bytes : List ℕ) (day : ℤ) → day_by_of last bytes ≡ Ok day → IsDayBy last bytes day
day-ok last bytes day e =
    let read = bound-ok (day_field_of bytes) (λ own. if int_lt last own then Err kind.OutOfRange else Ok own) day e in
    let tested = test-not (int_lt last read.first) (Ok read.first) kind.OutOfRange day read.rest in
    let same : read.first ≡ day = ok-is RefusalKind read.first day tested.1 in
    subst (IsDayBy last bytes) same (record { says = found-ok (day_of bytes) read.first read.is; by = not_before last read.first tested.0 })

pub day-is : (last : ℤ) (bytes : List ℕ) (day : ℤ) → day_of bytes ≡ Some day → day ≤ℤ last → day_by_of last bytes ≡ Ok day
day-is last bytes day says by = rw (says, none_before last day by) refl

pub later-says : (settle : ℤ) (bytes : List ℕ) (day : ℤ) → day_by_of (years_after_of settle 40) bytes ≡ Ok day → int_le day settle ≡ false → SaysLater settle bytes day
later-says settle bytes day e after =
    let read = day-ok (years_after_of settle 40) bytes day e in
    (read.says, record { after = is_after day settle after; by = read.by })

-- ---- words
pub word-is : (word bytes : List ℕ) → is_word word bytes ≡ true → bytes ≡ word
word-is word bytes e = (pointwise_decides nat-decides bytes word).0 e
  where
    nat-decides : (x y : ℕ) → (nat_eq x y ≡ true → x ≡ y) × (x ≡ y → nat_eq x y ≡ true)
    nat-decides x y = ((λ h. grind (arith, nat_tests)), (λ h. grind (arith, nat_tests)))

pub by-word : (word w : List ℕ) (P : List ℕ → Type 0) → P word → (is_word word w ≡ false → P w) → P w
by-word word w P here other = at (is_word word w) refl
  where
    at : (t : Bool) → is_word word w ≡ t → P w
    at true e = subst P (sym (word-is word w e)) here
    at false e = other e

pub no-answer : {T U : Type 0} (answer : Result T RefusalKind) (refusal : RefusalKind) (next : T → Result U RefusalKind) (value : U) → answer ≡ Err refusal → (answer >>= next) ≡ Ok value → ⊥
no-answer (Ok own) refusal next value is e = cc
no-answer (Err own) refusal next value is e = cc

-- ---- denominations
pub terms-says : (row : Row) (terms : Terms) → first_terms_of row ≡ Ok terms → SaysTerms row terms
terms-says row terms e =
    let named = test-ok (is_word (codes "terms") (field_of row 0)) (terms_row_of row) kind.Missing terms e in
    let wide = width-ok 3 row _ terms named.1 in
    (named.0, wide.0, kept-ok (terms_of (field_of row 1) (field_of row 2)) terms wide.1)

pub says-terms : (row : Row) (terms : Terms) → SaysTerms row terms → first_terms_of row ≡ Ok terms
says-terms row terms says = rw says.0 (width-is 3 row _ says.1 ∙ rw says.2 refl)

-- ---- columns
-- the rows of a word say what one list has more than the other, in order
abbrev pub Column : {T : Type 0} → List ℕ → (ℕ → Row → T → Type 0) → List (ℕ × Row) → List T → List T → Type 0
Column {T} word Says rows before after = (said : List T) × Say word Says rows said × (after ≡ before ++ said)

pub none-added : {T : Type 0} (word : List ℕ) (Says : ℕ → Row → T → Type 0) (same : List T) → Column word Says [] same same
none-added word Says same = ([], tt, sym (append-nil same))

pub taken : {T : Type 0} (word : List ℕ) (Says : ℕ → Row → T → Type 0) (number : ℕ) (row : Row) (rows : List (ℕ × Row)) (value : T) (before after : List T) → is_word word (field_of row 0) ≡ true → Says number row value
    → Column word Says rows (before ++ value ∷ []) after → Column word Says ((number, row) ∷ rows) before after
taken word Says number row rows value before after is says (said, all, adds) = (value ∷ said, rw is (says, all), adds ∙ append_assoc before (value ∷ []) said)

pub once : {T : Type 0} (found : Option T) (value : T) → is_some found ≡ false → option_to_list found ++ value ∷ [] ≡ value ∷ []
once None value e = refl
once (Some other) value e = absurd (cc)

abbrev pub Untaken : {T : Type 0} → List ℕ → (ℕ → Row → T → Type 0) → ℕ → Row → List (ℕ × Row) → List T → List T → Type 0
Untaken {T} word Says number row rows before after = (value : T) × Says number row value × Column word Says rows (before ++ value ∷ []) after

pub untaken : {T : Type 0} (word : List ℕ) (Says : ℕ → Row → T → Type 0) (number : ℕ) (row : Row) (rows : List (ℕ × Row)) (before after : List T) → is_word word (field_of row 0) ≡ true
    → Column word Says ((number, row) ∷ rows) before after → Untaken word Says number row rows before after
untaken {T} word Says number row rows before after is (said, says, adds) = by (is_word word (field_of row 0)) is said says adds
  where
    by : (t : Bool) → t ≡ true → (said : List T) → AllZip (λ own value. Says own.0 own.1 value) (cond t ((number, row) ∷ filter (λ own. is_word word (field_of own.1 0)) rows) (filter (λ own. is_word word (field_of own.1 0)) rows)) said → after ≡ before ++ said
        → Untaken word Says number row rows before after
    by true h [] says adds = absurd says
    by true h (value ∷ said) says adds = (value, says.0, (said, says.1, adds ∙ sym (append_assoc before (value ∷ []) said)))
    by false h said says adds = absurd (cc)

-- where nothing is left, the lists are one
no-more : {T : Type 0} (R : ℕ × Row → T → Type 0) (said : List T) → AllZip R [] said → said ≡ []
no-more R [] says = refl
no-more R (value ∷ said) says = absurd says

pub same-list : {T : Type 0} (word : List ℕ) (Says : ℕ → Row → T → Type 0) (before after : List T) → Column word Says [] before after → before ≡ after
same-list word Says before after (said, says, adds) =
    sym (append-nil before) ∙ (ap (λ own. before ++ own) (sym (no-more (λ row value. Says row.0 row.1 value) said says)) ∙ sym adds)

-- from nothing on
pub column-of : {T : Type 0} (word : List ℕ) (Says : ℕ → Row → T → Type 0) (rows : List (ℕ × Row)) (said : List T) → Say word Says rows said → Column word Says rows [] said
column-of word Says rows said says = (said, says, refl)

-- all that is said of a word where nothing was read before
pub all-said : {T : Type 0} (word : List ℕ) (Says : ℕ → Row → T → Type 0) (rows : List (ℕ × Row)) (after : List T) → Column word Says rows [] after → Say word Says rows after
all-said word Says rows after (said, says, adds) = subst (Say word Says rows) (sym adds) says
