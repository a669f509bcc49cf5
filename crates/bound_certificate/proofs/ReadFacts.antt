-- What a reader of a certificate's text has read, as its bytes come.
use Rattle.std.proofs.Common.{◌≡◌, ◌∙◌, ℕ, ◌+◌, ◌<◌, ◌≤◌, true, false, List, [], ◌∷◌, ◌++◌, length, take, refl, sym, subst, ap, arith, Option, Some, None, Result, Ok, Err, IfOk, IfErr, inl, inr, append_assoc, length-append}
use Rattle.std.specs.List.{join_with_byte}
use Rattle.std.specs.Option.{is_some}
use denote.Ref.{Bor}
use Rattle.std.proofs.lemmas.List.{append-nil, take_all}
use Rattle.std.proofs.lemmas.List.Elements.{All-append, All-nil}
use Rattle.std.proofs.lemmas.List.Splits.{join_with_byte-slice_split, slice_split_none}
use Rattle.std.proofs.lemmas.List.Sums.{fold-append}
use Rattle.std.proofs.Math.Seq.{take-append_seam}
use Rattle.proof_tree.specs.declared.tree.Leaf.{Leaf}
use Rattle.bound_certificate.specs.declared.certificate.Certificate.{Certificate}
use Rattle.bound_certificate.specs.declared.due.Due.{Due}
use Rattle.bound_certificate.specs.declared.due.Due.TheVariants as due
use Rattle.bound_certificate.specs.declared.fault.CertFault.{CertFault}
use Rattle.bound_certificate.specs.declared.fault.FaultKind.{FaultKind}
use Rattle.bound_certificate.specs.declared.fault.FaultKind.TheVariants as kind
use Rattle.bound_certificate.specs.declared.version.Version.{Version}
use Rattle.bound_certificate.specs.declared.item.Fed.{Fed}
use Rattle.bound_certificate.specs.declared.item.Item.{Item}
use Rattle.bound_certificate.specs.declared.item.Item.TheVariants as item
use Rattle.bound_certificate.specs.declared.limits.TheConstants.{MOST_DATES, MOST_NODES}
use Rattle.bound_certificate.specs.declared.text_reading.Stage.{Stage}
use Rattle.bound_certificate.specs.declared.text_reading.Stage.TheVariants as stage
use Rattle.bound_certificate.specs.declared.text_reading.TextReading.{TextReading}
use Rattle.bound_certificate.specs.Draft.{no_lines}
use Rattle.bound_certificate.specs.Due.{is_over}
use Rattle.bound_certificate.specs.Faults.{first_fault, lines_in, on_line}
use Rattle.bound_certificate.specs.Kept.{IsKept, Kept}
use Rattle.bound_certificate.specs.Moves.{EndsFault, EndsLine, Moves, Stops, fault_at}
use Rattle.bound_certificate.specs.Step.{IsSuited, due_after}
use Rattle.bound_certificate.specs.Text.{IsOneLine, NotFeed}
use Rattle.bound_certificate.specs.TextReading.{EndsText, FewNodes, HasRead, IsAtLine, Reads, ReadsFault, stage_due, stage_fault, stage_place, stage_told, stage_version}
use Rattle.bound_certificate.specs.Told.{Told, certificate_told, told_in}
use Rattle.bound_certificate.specs.Versions.{IsCertificateText, certificate_fault}
use Rattle.line_words.specs.Words.{is_feed, parts_behind}
use Rattle.bound_certificate.proofs.MoveFacts.{seen-over}
use Rattle.bound_certificate.proofs.TextFacts.{AreOneLine, lines-cons, lines-one, no-feeds, over-rest, rest-due, some-lines}
use Rattle.bound_certificate.proofs.ToldFacts.{lines-tell, with_told}
use Rattle.bound_certificate.proofs.VersionFacts.{texts-have-no-fault}

-- ---- before the first byte
start_fault : (dates : ℕ) (more : List ℕ) → certificate_fault dates more ≡ stage_fault dates 1 stage.First [] (lines_in more)
unfolding certificate_fault
start_fault dates more = refl

start_told : (dates : ℕ) (more : List ℕ) → told_in dates more ≡ stage_told dates stage.First [] (lines_in more)
unfolding told_in
start_told dates more = refl

abbrev pub at_first : List (List ℕ) → Kept → Leaf → TextReading
at_first vectors part leaf = record { line = 1; stage = stage.First; vectors = vectors; part = part; leaf = leaf; fault = None }

read_start : (dates : ℕ) (part : Kept) (leaf : Leaf) → dates ≤ MOST_DATES → length leaf.prices ≡ dates → IsKept [] part → HasRead dates [] (at_first [] part leaf)
read_start dates part leaf short size kept = record {
  dates_are = size;
  short = short;
  going = λ none. record {
    part = [];
    told = [];
    one = All-nil NotFeed;
    kept = kept;
    over = λ over. refl;
    fault = start_fault dates;
    tells = start_told dates;
    few = refl;
  };
  stopped = λ fault is. absurd (cc);
}

pub read-start : (dates : ℕ) (vectors : List (List ℕ)) (part : Kept) (leaf : Leaf) → dates ≤ MOST_DATES → length leaf.prices ≡ dates → IsKept [] part → vectors ≡ [] →
    HasRead dates [] (at_first vectors part leaf)
read-start dates vectors part leaf short size kept none =
    let P : List (List ℕ) → Type 0 = λ vs. HasRead dates [] (at_first vs part leaf) in subst P (sym none) (read_start dates part leaf short size kept)

-- ---- a piece and its first line feed
pub record Piece (piece front : List ℕ) : Type 0 where
  pub rest : List ℕ
  pub one : IsOneLine front
  pub whole : piece ≡ front ++ 10 ∷ rest

ones_front : (front : List ℕ) (lines : List (List ℕ)) → AreOneLine (front ∷ lines) → IsOneLine front
ones_front front lines are = are.0

join_cut : (front : List ℕ) (lines : List (List ℕ)) → 0 < length lines → join_with_byte 10 (front ∷ lines) ≡ front ++ 10 ∷ join_with_byte 10 lines
join_cut front [] some = absurd (omega arith)
join_cut front (next ∷ lines) some = refl

pub piece-cut : (piece front : List ℕ) (lines : List (List ℕ)) → lines_in piece ≡ front ∷ lines → 0 < length lines → Piece piece front
piece-cut piece front lines cut some = record {
  rest = join_with_byte 10 lines;
  one = ones_front front lines (subst AreOneLine cut (lines-one piece));
  whole = sym (join_with_byte-slice_split 10 piece) ∙ ap (λ (ls : List (List ℕ)). join_with_byte 10 ls) cut ∙ join_cut front lines some;
}

pub piece-one : (piece front : List ℕ) (lines : List (List ℕ)) → lines_in piece ≡ front ∷ lines → lines ≡ [] → IsOneLine piece
piece-one piece front lines cut none =
    let all : piece ≡ front =
    sym (join_with_byte-slice_split 10 piece) ∙ ap (λ (ls : List (List ℕ)). join_with_byte 10 ls) (cut ∙ ap (λ (ls : List (List ℕ)). front ∷ ls) none) in
    let P : List ℕ → Type 0 = λ bs. IsOneLine bs in
    subst P (sym all) (ones_front front lines (subst AreOneLine cut (lines-one piece)))

take_front : (front rest : List ℕ) → take (length front + 1) (front ++ 10 ∷ rest) ≡ front ++ 10 ∷ []
take_front front rest =
    ap (λ (k : ℕ). take k (front ++ 10 ∷ rest)) (sym (length-append front (10 ∷ [])))
    ∙ ap (λ (bs : List ℕ). take (length (front ++ 10 ∷ [])) bs) (sym (append_assoc front (10 ∷ []) rest))
    ∙ take-append_seam (front ++ 10 ∷ []) rest

-- ---- what is told so far
none_told : (dates : ℕ) (at : Stage) (vectors : List (List ℕ)) (part : List ℕ) → stage_told dates at vectors (part ∷ []) ≡ []
none_told dates at vectors part = refl

one_line : (part : List ℕ) → IsOneLine part → lines_in part ≡ part ∷ []
one_line part one = slice_split_none is_feed part (no-feeds part one)

pub told-now : (dates : ℕ) (bytes : List ℕ) (reading : TextReading) (at : IsAtLine dates bytes reading) → told_in dates bytes ≡ at.told
told-now dates bytes reading at =
    ap (λ (bs : List ℕ). told_in dates bs) (sym (append-nil bytes)) ∙ at.tells []
    ∙ ap (λ (bs : List ℕ). at.told ++ stage_told dates reading.stage reading.vectors (lines_in bs)) (append-nil at.part)
    ∙ ap (λ (ls : List (List ℕ)). at.told ++ stage_told dates reading.stage reading.vectors ls) (one_line at.part at.one)
    ∙ ap (λ (ts : List Told). at.told ++ ts) (none_told dates reading.stage reading.vectors at.part)
    ∙ append-nil at.told

few_now : (d : Due) (cert : Certificate) (left trees : ℕ) → d ≡ due.Node left trees → FewNodes d cert → length cert.nodes < MOST_NODES
few_now d cert left trees is few =
    let P : Due → Type 0 = λ e. FewNodes e cert in
    let here : (1 ≤ left) × (length cert.nodes + left ≤ MOST_NODES) = subst P is few in
    omega (arith, here.0, here.1)

few-now : (dates : ℕ) (bytes : List ℕ) (reading : TextReading) → IsAtLine dates bytes reading → (left trees : ℕ) → stage_due reading.stage ≡ due.Node left trees →
    length (certificate_told (told_in dates bytes)).nodes < MOST_NODES
few-now dates bytes reading at left trees is =
    let P : List Told → Type 0 = λ ts. length (certificate_told ts).nodes < MOST_NODES in
    subst P (sym (told-now dates bytes reading at)) (few_now (stage_due reading.stage) (certificate_told at.told) left trees is at.few)

-- ---- a piece without a line feed
pub record Adds (old new : TextReading) (piece : List ℕ) : Type 0 where
  pub line_is : new.line ≡ old.line
  pub stage_is : new.stage ≡ old.stage
  pub vectors_are : new.vectors ≡ old.vectors
  pub leaf_is : new.leaf ≡ old.leaf
  pub fault_is : new.fault ≡ old.fault
  pub kept : (part : List ℕ) → IsKept part old.part → IsKept (part ++ piece) new.part
  pub over : is_over (stage_due old.stage) ≡ true → piece ≡ []

none_both : (part piece : List ℕ) → part ≡ [] → piece ≡ [] → part ++ piece ≡ []
none_both part piece one other = ap (λ (bs : List ℕ). bs ++ piece) one ∙ other

abbrev add_line : (dates : ℕ) (bytes piece : List ℕ) (old new : TextReading) → IsOneLine piece → Adds old new piece → IsAtLine dates bytes old → IsAtLine dates (bytes ++ piece) new
add_line dates bytes piece old new one adds at =
    let part : List ℕ = at.part ++ piece in
    let P : Stage → Type 0 = λ s. FewNodes (stage_due s) (certificate_told at.told) in
    record {
      part = part;
      told = at.told;
      one = All-append NotFeed at.part piece at.one one;
      kept = adds.kept at.part at.kept;
      over = λ over. (
          let was : is_over (stage_due old.stage) ≡ true = ap (λ (s : Stage). is_over (stage_due s)) (sym adds.stage_is) ∙ over in
          none_both at.part piece (at.over was) (adds.over was));
      fault = λ more.
          ap (λ (bs : List ℕ). certificate_fault dates bs) (append_assoc bytes piece more) ∙ at.fault (piece ++ more)
          ∙ ap (λ (bs : List ℕ). stage_fault dates old.line old.stage old.vectors (lines_in bs)) (sym (append_assoc at.part piece more))
          ∙ ap (λ (n : ℕ). stage_fault dates n old.stage old.vectors (lines_in (part ++ more))) (sym adds.line_is)
          ∙ ap (λ (s : Stage). stage_fault dates new.line s old.vectors (lines_in (part ++ more))) (sym adds.stage_is)
          ∙ ap (λ (vs : List (List ℕ)). stage_fault dates new.line new.stage vs (lines_in (part ++ more))) (sym adds.vectors_are);
      tells = λ more.
          ap (λ (bs : List ℕ). told_in dates bs) (append_assoc bytes piece more) ∙ at.tells (piece ++ more)
          ∙ ap (λ (bs : List ℕ). at.told ++ stage_told dates old.stage old.vectors (lines_in bs)) (sym (append_assoc at.part piece more))
          ∙ ap (λ (s : Stage). at.told ++ stage_told dates s old.vectors (lines_in (part ++ more))) (sym adds.stage_is)
          ∙ ap (λ (vs : List (List ℕ)). at.told ++ stage_told dates new.stage vs (lines_in (part ++ more))) (sym adds.vectors_are);
      few = subst P (sym adds.stage_is) at.few;
    }

pub adds-read : (dates : ℕ) (bytes piece : List ℕ) (fed : Fed) (old new : TextReading) → old.fault ≡ None → IsOneLine piece → fed.used ≡ length piece → fed.item ≡ item.Nothing →
    Adds old new piece → HasRead dates bytes old → Reads dates bytes piece fed old new
adds-read dates bytes piece fed old new going one used said adds read =
    let at : IsAtLine dates bytes old = read.going going in
    let none : new.fault ≡ None = adds.fault_is ∙ going in
    let after : IsAtLine dates (bytes ++ piece) new = add_line dates bytes piece old new one adds at in
    let all : take fed.used piece ≡ piece = ap (λ (k : ℕ). take k piece) used ∙ take_all (length piece) piece (omega arith) in
    let P : List ℕ → Type 0 = λ bs. HasRead dates (bytes ++ bs) new in
    let Q : Item → Type 0 = λ i. IsSuited dates (stage_due old.stage) i new.leaf in
    record {
      read = subst P (sym all) (record {
        dates_are = ap (λ (l : Leaf). length l.prices) adds.leaf_is ∙ read.dates_are;
        short = read.short;
        going = λ _. after;
        stopped = λ fault is. (let bad : None ≡ Some fault = sym none ∙ is in absurd (cc));
      });
      going = none;
      tells = inr (
        said,
        ap (λ (bs : List ℕ). told_in dates (bytes ++ bs)) all ∙ told-now dates (bytes ++ piece) new after ∙ sym (told-now dates bytes old at),
      );
      lent = λ _. adds.leaf_is;
      suited = subst Q (sym said) tt;
      due_is = ap (λ (s : Stage). stage_due s) adds.stage_is ∙ ap (λ (i : Item). due_after (stage_due old.stage) i) (sym said);
      few = few-now dates bytes old at;
    }

-- ---- a line that ends
end_bytes : (part front rest more : List ℕ) → part ++ ((front ++ 10 ∷ rest) ++ more) ≡ (part ++ front) ++ 10 ∷ (rest ++ more)
end_bytes part front rest more =
    ap (λ (bs : List ℕ). part ++ bs) (append_assoc front (10 ∷ rest) more) ∙ sym (append_assoc part front (10 ∷ (rest ++ more)))

end_lines : (part front rest more : List ℕ) → IsOneLine part → IsOneLine front → lines_in (part ++ ((front ++ 10 ∷ rest) ++ more)) ≡ (part ++ front) ∷ lines_in (rest ++ more)
end_lines part front rest more one also =
    ap (λ (bs : List ℕ). lines_in bs) (end_bytes part front rest more) ∙ lines-cons (part ++ front) (rest ++ more) (All-append NotFeed part front one also)

abbrev end_line : (dates : ℕ) (bytes front : List ℕ) (told : Item) (old new : TextReading) (at : IsAtLine dates bytes old) → IsOneLine front → new.line ≡ old.line + 1 → IsKept [] new.part →
    (moves : Moves dates old.stage new.stage old.vectors new.vectors (at.part ++ front) told new.leaf) → IsAtLine dates (bytes ++ (front ++ 10 ∷ [])) new
end_line dates bytes front told old new at one line_is empty moves =
    let whole : List ℕ = at.part ++ front in
    let taken : List ℕ = front ++ 10 ∷ [] in
    let P : Certificate → Type 0 = λ cert. FewNodes (stage_due new.stage) cert in
    record {
      part = [];
      told = at.told ++ moves.said ∷ [];
      one = All-nil NotFeed;
      kept = empty;
      over = λ over. refl;
      fault = λ more.
          ap (λ (bs : List ℕ). certificate_fault dates bs) (append_assoc bytes taken more) ∙ at.fault (taken ++ more)
          ∙ ap (λ (ls : List (List ℕ)). stage_fault dates old.line old.stage old.vectors ls) (end_lines at.part front [] more at.one one)
          ∙ moves.fault old.line (lines_in more) (some-lines more)
          ∙ ap (λ (n : ℕ). stage_fault dates n new.stage new.vectors (lines_in more)) (sym line_is);
      tells = λ more.
          ap (λ (bs : List ℕ). told_in dates bs) (append_assoc bytes taken more) ∙ at.tells (taken ++ more)
          ∙ ap (λ (ls : List (List ℕ)). at.told ++ stage_told dates old.stage old.vectors ls) (end_lines at.part front [] more at.one one)
          ∙ ap (λ (ts : List Told). at.told ++ ts) (moves.tells (lines_in more) (some-lines more))
          ∙ sym (append_assoc at.told (moves.said ∷ []) (stage_told dates new.stage new.vectors (lines_in more)));
      few = subst P (sym (fold-append with_told no_lines at.told (moves.said ∷ []))) (moves.few (certificate_told at.told) at.few);
    }

pub ends-read : (dates : ℕ) (bytes piece front : List ℕ) (fed : Fed) (old new : TextReading) → old.fault ≡ None → Piece piece front → fed.used ≡ length front + 1 →
    EndsLine old new front fed.item → HasRead dates bytes old → Reads dates bytes piece fed old new
ends-read dates bytes piece front fed old new going cut used ends read =
    let at : IsAtLine dates bytes old = read.going going in
    let M : ℕ → Type 0 = λ n. Moves n old.stage new.stage old.vectors new.vectors (at.part ++ front) fed.item new.leaf in
    let moves : Moves dates old.stage new.stage old.vectors new.vectors (at.part ++ front) fed.item new.leaf = subst M read.dates_are (ends.moves at.part at.kept) in
    let after : IsAtLine dates (bytes ++ (front ++ 10 ∷ [])) new = end_line dates bytes front fed.item old new at cut.one ends.line_is ends.empty moves in
    let taken : take fed.used piece ≡ front ++ 10 ∷ [] =
    ap (λ (k : ℕ). take k piece) used ∙ ap (λ (bs : List ℕ). take (length front + 1) bs) cut.whole ∙ take_front front cut.rest in
    let P : List ℕ → Type 0 = λ bs. HasRead dates (bytes ++ bs) new in
    record {
      read = subst P (sym taken) (record {
        dates_are = ends.dates_are ∙ read.dates_are;
        short = read.short;
        going = λ _. after;
        stopped = λ fault is. (let bad : None ≡ Some fault = sym ends.going ∙ is in absurd (cc));
      });
      going = ends.going;
      tells = inl (record {
        said = moves.said;
        last =
            ap (λ (bs : List ℕ). told_in dates (bytes ++ bs)) taken ∙ told-now dates (bytes ++ (front ++ 10 ∷ [])) new after
            ∙ ap (λ (ts : List Told). ts ++ moves.said ∷ []) (sym (told-now dates bytes old at));
        item_is = moves.item_is;
        leaf_is = moves.leaf_is;
      });
      lent = ends.lent;
      suited = moves.suited;
      due_is = moves.due_is;
      few = few-now dates bytes old at;
    }

-- ---- a fault
stopped_read : (dates : ℕ) (bytes piece : List ℕ) (fault : CertFault) (old new : TextReading) → HasRead dates bytes old → length new.leaf.prices ≡ length old.leaf.prices → new.fault ≡ Some fault →
    ((more : List ℕ) → certificate_fault dates (bytes ++ (piece ++ more)) ≡ Some fault) → ReadsFault dates bytes piece fault new
stopped_read dates bytes piece fault old new read size stopped first = record {
  read = record {
    dates_are = size ∙ read.dates_are;
    short = read.short;
    going = λ none. (let bad : None ≡ Some fault = sym none ∙ stopped in absurd (cc));
    stopped = λ other is more. (
        let same : ◌≡◌ {A = Option CertFault} (Some fault) (Some other) = sym stopped ∙ is in
        ap (λ (bs : List ℕ). certificate_fault dates bs) (append_assoc bytes piece more) ∙ first more ∙ same);
  };
  stopped = stopped;
}

pub ends-fault : (dates : ℕ) (bytes piece front : List ℕ) (fault : CertFault) (old new : TextReading) → old.fault ≡ None → Piece piece front → EndsFault old new front fault →
    HasRead dates bytes old → ReadsFault dates bytes piece fault new
ends-fault dates bytes piece front fault old new going cut ends read =
    let at : IsAtLine dates bytes old = read.going going in
    let S : ℕ → Type 0 = λ n. Stops n old.stage old.vectors (at.part ++ front) ends.kind in
    let stops : Stops dates old.stage old.vectors (at.part ++ front) ends.kind = subst S read.dates_are (ends.stops at.part at.kept) in
    stopped_read dates bytes piece fault old new read ends.dates_are ends.stopped (λ more.
    at.fault (piece ++ more)
    ∙ ap (λ (bs : List ℕ). stage_fault dates old.line old.stage old.vectors (lines_in (at.part ++ (bs ++ more)))) cut.whole
    ∙ ap (λ (ls : List (List ℕ)). stage_fault dates old.line old.stage old.vectors ls) (end_lines at.part front cut.rest more at.one cut.one)
    ∙ stops old.line (lines_in (cut.rest ++ more)) (some-lines (cut.rest ++ more))
    ∙ ap (λ (f : CertFault). Some f) (sym ends.fault_is))

pub again-fault : (dates : ℕ) (bytes piece : List ℕ) (fault : CertFault) (old : TextReading) → old.fault ≡ Some fault → HasRead dates bytes old → ReadsFault dates bytes piece fault old
again-fault dates bytes piece fault old is read =
    stopped_read dates bytes piece fault old old read refl is (λ more. read.stopped fault is (piece ++ more))

-- nothing is due any more
nothing_due : (d : Due) → is_over d ≡ true → d ≡ due.Nothing
nothing_due due.Nothing over = refl
nothing_due d over = absurd (cc)

trailing_by : (v : Version) (dates number : ℕ) (vectors : List (List ℕ)) (byte : ℕ) (bytes : List ℕ) (lines : List (List ℕ)) → join_with_byte 10 lines ≡ byte ∷ bytes → 0 < length lines →
    first_fault v dates number due.Nothing vectors lines ≡ Some (record { line = number; kind = kind.Trailing })
trailing_by v dates number vectors byte bytes [] same some = absurd (omega arith)
trailing_by v dates number vectors byte bytes ([] ∷ []) same some = absurd (cc)
trailing_by v dates number vectors byte bytes ((b ∷ bs) ∷ []) same some = refl
trailing_by v dates number vectors byte bytes (line ∷ next ∷ lines) same some = refl

trailing : (dates number : ℕ) (at : Stage) (vectors : List (List ℕ)) (byte : ℕ) (bytes : List ℕ) → is_over (stage_due at) ≡ true →
    stage_fault dates number at vectors (lines_in (byte ∷ bytes)) ≡ Some (record { line = number; kind = kind.Trailing })
trailing dates number at vectors byte bytes over =
    let lines : List (List ℕ) = lines_in (byte ∷ bytes) in
    ap (λ (d : Due). first_fault (stage_version at lines) dates number d vectors lines) (nothing_due (stage_place at) (sym (seen-over (stage_place at)) ∙ over))
    ∙ trailing_by (stage_version at lines) dates number vectors byte bytes lines (join_with_byte-slice_split 10 (byte ∷ bytes)) (some-lines (byte ∷ bytes))

pub over-fault : (dates : ℕ) (bytes piece : List ℕ) (fault : CertFault) (old new : TextReading) → old.fault ≡ None → is_over (stage_due old.stage) ≡ true → 0 < length piece →
    fault ≡ fault_at old kind.Trailing → new.fault ≡ Some fault → new.leaf ≡ old.leaf → HasRead dates bytes old → ReadsFault dates bytes piece fault new
over-fault dates bytes [] fault old new going over some fault_is stopped leaf read = absurd (omega arith)
over-fault dates bytes (byte ∷ piece) fault old new going over some fault_is stopped leaf read =
    let at : IsAtLine dates bytes old = read.going going in
    stopped_read dates bytes (byte ∷ piece) fault old new read (ap (λ (l : Leaf). length l.prices) leaf) stopped (λ more.
    at.fault (byte ∷ (piece ++ more))
    ∙ ap (λ (bs : List ℕ). stage_fault dates old.line old.stage old.vectors (lines_in (bs ++ (byte ∷ (piece ++ more))))) (at.over over)
    ∙ trailing dates old.line old.stage old.vectors byte (piece ++ more) over
    ∙ ap (λ (f : CertFault). Some f) (sym fault_is))

-- ---- the end
end_fault : (dates number : ℕ) (at : Stage) (vectors : List (List ℕ)) (part : List ℕ) → is_over (stage_due at) ≡ false →
    stage_fault dates number at vectors (part ∷ []) ≡ Some (record { line = number; kind = kind.Truncated })
end_fault dates number at vectors part more =
    ap (λ (o : Option FaultKind). on_line number o) (rest-due (is_over (stage_place at)) part (sym (seen-over (stage_place at)) ∙ more))

end_none : (dates number : ℕ) (at : Stage) (vectors : List (List ℕ)) → is_over (stage_due at) ≡ true → stage_fault dates number at vectors ([] ∷ []) ≡ None
end_none dates number at vectors over =
    ap (λ (o : Option FaultKind). on_line number o) (over-rest (is_over (stage_place at)) [] (sym (seen-over (stage_place at)) ∙ over))

fault_now : (dates : ℕ) (bytes : List ℕ) (reading : TextReading) (at : IsAtLine dates bytes reading) →
    certificate_fault dates bytes ≡ stage_fault dates reading.line reading.stage reading.vectors (at.part ∷ [])
fault_now dates bytes reading at =
    ap (λ (bs : List ℕ). certificate_fault dates bs) (sym (append-nil bytes)) ∙ at.fault []
    ∙ ap (λ (bs : List ℕ). stage_fault dates reading.line reading.stage reading.vectors (lines_in bs)) (append-nil at.part)
    ∙ ap (λ (ls : List (List ℕ)). stage_fault dates reading.line reading.stage reading.vectors ls) (one_line at.part at.one)

pub ends-text : (dates : ℕ) (bytes : List ℕ) (reading : TextReading) → reading.fault ≡ None → is_over (stage_due reading.stage) ≡ true → HasRead dates bytes reading → EndsText dates bytes reading
ends-text dates bytes reading going over read =
    let at : IsAtLine dates bytes reading = read.going going in
    let none : certificate_fault dates bytes ≡ None =
    fault_now dates bytes reading at ∙ ap (λ (p : List ℕ). stage_fault dates reading.line reading.stage reading.vectors (p ∷ [])) (at.over over)
    ∙ end_none dates reading.line reading.stage reading.vectors over in
    let found : (cert : Certificate) × IsCertificateText dates cert bytes = (texts-have-no-fault dates bytes read.short).0 none in
    let P : Certificate → Type 0 = λ cert. IsCertificateText dates cert bytes in
    record { text = subst P (sym (lines-tell dates bytes found.0 read.short found.1)) found.1; going = going; over = over }

pub ends-early : (dates : ℕ) (bytes : List ℕ) (reading : TextReading) → reading.fault ≡ None → is_over (stage_due reading.stage) ≡ false → HasRead dates bytes reading →
    certificate_fault dates bytes ≡ Some (fault_at reading kind.Truncated)
ends-early dates bytes reading going more read =
    let at : IsAtLine dates bytes reading = read.going going in
    fault_now dates bytes reading at ∙ end_fault dates reading.line reading.stage reading.vectors at.part more

pub ends-stopped : (dates : ℕ) (bytes : List ℕ) (reading : TextReading) (fault : CertFault) → reading.fault ≡ Some fault → HasRead dates bytes reading → certificate_fault dates bytes ≡ Some fault
ends-stopped dates bytes reading fault is read =
    ap (λ (bs : List ℕ). certificate_fault dates bs) (sym (append-nil bytes)) ∙ read.stopped fault is []

-- ---- a reader as it is used
pub no-fault : (found : Option CertFault) → ((fault : CertFault) → found ≡ Some fault → ⊥) → found ≡ None
no-fault None none = refl
no-fault (Some fault) none = absurd (none fault refl)

pub piece-of : (piece front : List ℕ) (rest : Option (Bor (List ℕ))) → lines_in piece ≡ front ∷ parts_behind 10 rest → is_some rest ≡ true → Piece piece front
piece-of piece front None cut some = absurd (cc)
piece-of piece front (Some rest) cut some = piece-cut piece front (lines_in rest.now) cut (some-lines rest.now)

pub piece-whole : (piece front : List ℕ) (rest : Option (Bor (List ℕ))) → lines_in piece ≡ front ∷ parts_behind 10 rest → is_some rest ≡ false → IsOneLine piece
piece-whole piece front None cut none = piece-one piece front [] cut refl
piece-whole piece front (Some rest) cut none = absurd (cc)

pub piece-size : (piece front : List ℕ) → Piece piece front → length front + 1 ≤ length piece
piece-size piece front cut = omega (arith, ap length cut.whole, length-append front (10 ∷ cut.rest))

-- where nothing is due any more
no_more : (dates : ℕ) (bytes : List ℕ) (piece : List ℕ) (fed : Fed) (old new : TextReading) → old.fault ≡ None → piece ≡ [] → fed ≡ record { used = 0; item = item.Nothing } → new ≡ old →
    HasRead dates bytes old → Reads dates bytes piece fed old new
no_more dates bytes piece fed old new going none fed_is same read =
    let P : TextReading → Type 0 = λ r. Reads dates bytes piece fed old r in
    let Q : List ℕ → Type 0 = λ bs. IsOneLine bs in
    let K : List ℕ → Type 0 = λ bs. IsKept bs old.part in
    subst P (sym same) (adds-read dates bytes piece fed old old going (subst Q (sym none) (All-nil NotFeed))
    (ap (λ (f : Fed). f.used) fed_is ∙ ap length (sym none)) (ap (λ (f : Fed). f.item) fed_is) (record {
      line_is = refl;
      stage_is = refl;
      vectors_are = refl;
      leaf_is = refl;
      fault_is = refl;
      kept = λ part is. subst K (sym (ap (λ (bs : List ℕ). part ++ bs) none ∙ append-nil part)) is;
      over = λ over. none;
    }) read)

pub over-ok : (piece : List ℕ) (old inside new : TextReading) (r : Result Fed CertFault) → inside ≡ old → inside.fault ≡ None →
    IfOk r (λ fed. (piece ≡ []) × (fed ≡ record { used = 0; item = item.Nothing }) × (new ≡ inside)) →
    IfOk r (λ fed. (dates : ℕ) (bytes : List ℕ) → HasRead dates bytes old → Reads dates bytes piece fed old new)
over-ok piece old inside new (Ok fed) same going is = λ dates bytes read.
    no_more dates bytes piece fed old new (ap (λ (r : TextReading). r.fault) (sym same) ∙ going) is.0 is.1 (is.2 ∙ same) read
over-ok piece old inside new (Err found) same going is = tt

pub over-err : (piece : List ℕ) (old inside new : TextReading) (r : Result Fed CertFault) → inside ≡ old → inside.fault ≡ None → is_over (stage_due inside.stage) ≡ true →
    IfErr r (λ fault. (0 < length piece) × (fault ≡ fault_at inside kind.Trailing) × (new.fault ≡ Some fault) × (new.leaf ≡ inside.leaf)) →
    IfErr r (λ fault. (dates : ℕ) (bytes : List ℕ) → HasRead dates bytes old → ReadsFault dates bytes piece fault new)
over-err piece old inside new (Ok fed) same going over is = tt
over-err piece old inside new (Err found) same going over is = λ dates bytes read.
    let P : TextReading → Type 0 = λ r. HasRead dates bytes r in
    over-fault dates bytes piece found inside new going over is.0 is.1 is.2 is.3 (subst P (sym same) read)

-- where a line may stand
pub part-read : (piece : List ℕ) (fed : Fed) (old inside : TextReading) (part : Kept) → inside ≡ old → inside.fault ≡ None → is_over (stage_due inside.stage) ≡ false → IsOneLine piece →
    fed.used ≡ length piece → fed.item ≡ item.Nothing → ((before : List ℕ) → IsKept before inside.part → IsKept (before ++ piece) part) → (dates : ℕ) (bytes : List ℕ) → HasRead dates bytes old →
    Reads dates bytes piece fed old (record { line = inside.line; stage = inside.stage; vectors = inside.vectors; part = part; leaf = inside.leaf; fault = inside.fault })
part-read piece fed old inside part same going more one used said kept dates bytes read =
    let new : TextReading = record { line = inside.line; stage = inside.stage; vectors = inside.vectors; part = part; leaf = inside.leaf; fault = inside.fault } in
    let P : TextReading → Type 0 = λ r. HasRead dates bytes r in
    let Q : TextReading → Type 0 = λ r. Reads dates bytes piece fed r new in
    subst Q same (adds-read dates bytes piece fed inside new going one used said (record {
      line_is = refl;
      stage_is = refl;
      vectors_are = refl;
      leaf_is = refl;
      fault_is = refl;
      kept = kept;
      over = λ over. (let bad : false ≡ true = sym more ∙ over in absurd (cc));
    }) (subst P (sym same) read))

pub line-read : (piece front : List ℕ) (fed : Fed) (old inside new : TextReading) → inside ≡ old → inside.fault ≡ None → Piece piece front → fed.used ≡ length front + 1 →
    EndsLine inside new front fed.item → (dates : ℕ) (bytes : List ℕ) → HasRead dates bytes old → Reads dates bytes piece fed old new
line-read piece front fed old inside new same going cut used ends dates bytes read =
    let P : TextReading → Type 0 = λ r. HasRead dates bytes r in
    let Q : TextReading → Type 0 = λ r. Reads dates bytes piece fed r new in
    subst Q same (ends-read dates bytes piece front fed inside new going cut used ends (subst P (sym same) read))

pub line-fault : (piece front : List ℕ) (fault : CertFault) (old inside new : TextReading) → inside ≡ old → inside.fault ≡ None → Piece piece front → EndsFault inside new front fault →
    (dates : ℕ) (bytes : List ℕ) → HasRead dates bytes old → ReadsFault dates bytes piece fault new
line-fault piece front fault old inside new same going cut ends dates bytes read =
    let P : TextReading → Type 0 = λ r. HasRead dates bytes r in
    ends-fault dates bytes piece front fault inside new going cut ends (subst P (sym same) read)
