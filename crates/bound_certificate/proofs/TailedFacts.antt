-- What the code finds of a leaf's line with a tail.
use Rattle.std.proofs.Common.{◌≡◌, ◌∙◌, ℕ, ◌≤◌, Bool, true, false, ◌&&◌, ◌||◌, not, if◌then◌else◌, List, [], ◌∷◌, length, refl, sym, subst, ap, arith, Option, Result, Ok, Err, IfOk, codes}
use denote.Ref.{Bor}
use Rattle.proof_tree.specs.declared.tree.Leaf.{Leaf}
use Rattle.proof_tree.specs.declared.weights.SumWeight.{SumWeight}
use Rattle.bound_certificate.specs.declared.fault.FaultKind.{FaultKind}
use Rattle.bound_certificate.specs.declared.fault.FaultKind.TheVariants as kind
use Rattle.bound_certificate.specs.declared.item.Item.{Item}
use Rattle.bound_certificate.specs.declared.item.Item.TheVariants as item
use Rattle.bound_certificate.specs.declared.line.Line.{Line}
use Rattle.bound_certificate.specs.declared.line.Line.TheVariants as line
use Rattle.bound_certificate.specs.declared.packed.Change.{Change}
use Rattle.bound_certificate.specs.declared.row.Row.{Row}
use Rattle.bound_certificate.specs.declared.row.Row.TheVariants as row
use Rattle.bound_certificate.specs.declared.version.Version.{Version}
use Rattle.bound_certificate.specs.declared.version.Version.TheVariants as version
use Rattle.bound_certificate.specs.declared.weighing.Weighing.TheVariants as weighing
use Rattle.bound_certificate.specs.Grammar.{are_rising, begins_with, changes_of, has_sums, is_tail, leaf_row, leaf_words, line_item, node_row, node_said, places_of, rises, row_line, said_by, said_or, tail_said, tail_words, vectors_with, weighed, with_tail}
use Rattle.bound_certificate.specs.Packed.{changed, restates, vector_of}
use Rattle.bound_certificate.specs.Row.{row_said, row_words}
use Rattle.bound_certificate.specs.Taken.{AreOfLeaf, IsGiven, IsOfNumbers, IsTailed, line_with, with_weights}
use Rattle.bound_certificate.specs.Told.{line_leaf}
use Rattle.bound_certificate.specs.Weights.{rho_said}
use Rattle.line_words.specs.Words.{first_word, parts_behind, words_of}

abbrev LEAF : Row
LEAF = row.Leaf weighing.Number

-- the weights that a tail says come to a leaf
pub record Weighs (told : Result (List SumWeight) FaultKind) (old new : Leaf) : Type 0 where
  pub weights : List SumWeight
  pub is : told ≡ Ok weights
  pub leaf_is : new ≡ with_weights old weights

-- what the words before a tail say is a leaf without weights of sums
record IsBareLeaf (said : Line) : Type 0 where
  rho : ℕ
  mu : ℕ
  vector : ℕ
  changes : List Change
  said_is : said ≡ line.Closed weighing.Number rho mu vector changes []

bare_by : (b c : Bool) (rho mu vector : ℕ) (changes : List Change) (said : Line) →
    (if b then Err kind.Number else if c then Err kind.Order else Ok (line.Closed weighing.Number rho mu vector changes [])) ≡ Ok said → IsBareLeaf said
bare_by true c rho mu vector changes said h = absurd (cc)
bare_by false true rho mu vector changes said h = absurd (cc)
bare_by false false rho mu vector changes said h =
    let same : line.Closed weighing.Number rho mu vector changes [] ≡ said = cc in
    record { rho = rho; mu = mu; vector = vector; changes = changes; said_is = sym same }

numbers_leaf : (dates : ℕ) (vectors : List (List ℕ)) (numbers : List ℕ) (said : Line) → said_by dates vectors LEAF numbers ≡ Ok said → IsBareLeaf said
numbers_leaf dates vectors [] said h = absurd (cc)
numbers_leaf dates vectors (rho ∷ []) said h = absurd (cc)
numbers_leaf dates vectors (rho ∷ mu ∷ []) said h = absurd (cc)
numbers_leaf dates vectors (rho ∷ mu ∷ number ∷ numbers) said h =
    let prices : Option (List ℕ) = vector_of vectors number in
    let changes : List Change = changes_of numbers in
    bare_by (restates prices changes) (not (are_rising (places_of changes)) || rises (changed dates prices changes)) (rho_said weighing.Number rho) mu number changes said h

words_leaf : (dates : ℕ) (vectors : List (List ℕ)) (o : Result (List ℕ) FaultKind) (said : Line) → said_or dates vectors LEAF o ≡ Ok said → IsBareLeaf said
words_leaf dates vectors (Err found) said h = absurd (cc)
words_leaf dates vectors (Ok numbers) said h = numbers_leaf dates vectors numbers said h

bare_leaf : (dates : ℕ) (vectors : List (List ℕ)) (may : Bool) (bytes : List ℕ) (said : Line) → row_line dates vectors LEAF may bytes ≡ Ok said → IsBareLeaf said
bare_leaf dates vectors may bytes said h = words_leaf dates vectors (row_said dates (length vectors) LEAF may bytes) said h

-- a line by its parts
pub leaf-parts : (dates : ℕ) (vectors : List (List ℕ)) (may : Bool) (bytes front : List ℕ) (rest : Option (Bor (List ℕ))) → IsTailed bytes front rest →
    leaf_words dates vectors may (words_of bytes) ≡ with_tail (row_line dates vectors LEAF may front) (tail_said dates (parts_behind 32 rest))
leaf-parts dates vectors may bytes front rest cut =
    ap (λ (ws : List (List ℕ)). with_tail (said_or dates vectors LEAF (row_words dates (length vectors) LEAF may ws)) (tail_said dates (tail_words (words_of bytes)))) (sym cut.front_is)
    ∙ ap (λ (ws : List (List ℕ)). with_tail (row_line dates vectors LEAF may front) (tail_said dates ws)) (sym cut.tail_is)

pub parts-said : (dates : ℕ) (vectors : List (List ℕ)) (may : Bool) (bytes front : List ℕ) (rest : Option (Bor (List ℕ))) (one : Result Line FaultKind) (other : Result (List SumWeight) FaultKind) →
    IsTailed bytes front rest → row_line dates vectors LEAF may front ≡ one → tail_said dates (parts_behind 32 rest) ≡ other →
    leaf_words dates vectors may (words_of bytes) ≡ with_tail one other
parts-said dates vectors may bytes front rest one other cut said told =
    leaf-parts dates vectors may bytes front rest cut ∙ ap (λ (o : Result Line FaultKind). with_tail o (tail_said dates (parts_behind 32 rest))) said
    ∙ ap (λ (o : Result (List SumWeight) FaultKind). with_tail one o) told

-- what is given of a leaf and its tail
own_given : (dates rho mu vector : ℕ) (changes : List Change) (vectors after : List (List ℕ)) (told : Result Line FaultKind) (old new : Leaf) (weights : List SumWeight) (given : Item) →
    told ≡ Ok (line.Closed weighing.Number rho mu vector changes weights) → given ≡ item.Leaf → after ≡ vectors →
    (given ≡ item.Leaf → old ≡ line_leaf dates vectors (line.Closed weighing.Number rho mu vector changes [])) →
    new ≡ with_weights old weights → IsGiven dates told vectors after new given
own_given dates rho mu vector changes vectors after told old new weights given is item_is same leaf weighs =
    let was : old ≡ line_leaf dates vectors (line.Closed weighing.Number rho mu vector changes []) = leaf item_is in
    record {
      said = line.Closed weighing.Number rho mu vector changes weights;
      is = is;
      item_is = item_is;
      vectors_are = same;
      leaf_is = λ _. weighs ∙ ap (λ (l : Leaf). record { rho = l.rho; mu = l.mu; prices = l.prices; weights = weights }) was;
    }

given_by : (dates : ℕ) (vectors after : List (List ℕ)) (told : Result Line FaultKind) (old new : Leaf) (weights : List SumWeight) (given : Item) (said : Line) → IsBareLeaf said →
    told ≡ Ok (weighed said weights) → given ≡ line_item said → after ≡ vectors_with vectors said → (given ≡ item.Leaf → old ≡ line_leaf dates vectors said) →
    new ≡ with_weights old weights → IsGiven dates told vectors after new given
given_by dates vectors after told old new weights given said bare is item_is same leaf weighs =
    own_given dates bare.rho bare.mu bare.vector bare.changes vectors after told old new weights given
    (is ∙ ap (λ (l : Line). Ok (weighed l weights)) bare.said_is) (item_is ∙ ap line_item bare.said_is) (same ∙ ap (vectors_with vectors) bare.said_is)
    (λ h. leaf h ∙ ap (line_leaf dates vectors) bare.said_is) weighs

pub tailed-given : (dates : ℕ) (vectors after : List (List ℕ)) (may : Bool) (bytes front : List ℕ) (rest : Option (Bor (List ℕ))) (old new : Leaf) (given : Item) →
    IsTailed bytes front rest → IsGiven dates (row_line dates vectors LEAF may front) vectors after old given → Weighs (tail_said dates (parts_behind 32 rest)) old new →
    IsGiven dates (leaf_words dates vectors may (words_of bytes)) vectors after new given
tailed-given dates vectors after may bytes front rest old new given cut is weighs =
    given_by dates vectors after (leaf_words dates vectors may (words_of bytes)) old new weighs.weights given is.said (bare_leaf dates vectors may front is.said is.is)
    (parts-said dates vectors may bytes front rest (Ok is.said) (Ok weighs.weights) cut is.is weighs.is) is.item_is is.vectors_are is.leaf_is weighs.leaf_is

pub tailed-item : (dates : ℕ) (vectors after : List (List ℕ)) (may : Bool) (front : List ℕ) (old : Leaf) (given : Item) →
    IsGiven dates (row_line dates vectors LEAF may front) vectors after old given → given ≡ item.Leaf
tailed-item dates vectors after may front old given is = is.item_is ∙ ap line_item (bare_leaf dates vectors may front is.said is.is).said_is

-- and its numbers
with_weights_by : (numbers : List ℕ) (before weights : List SumWeight) → 3 ≤ length numbers →
    weighed (line_with weighing.Number item.Leaf numbers before) weights ≡ line_with weighing.Number item.Leaf numbers weights
with_weights_by [] before weights some = absurd (omega (arith, some))
with_weights_by (rho ∷ []) before weights some = absurd (omega (arith, some))
with_weights_by (rho ∷ mu ∷ []) before weights some = absurd (omega (arith, some))
with_weights_by (rho ∷ mu ∷ vector ∷ numbers) before weights some = refl

pub tailed-numbers : (dates : ℕ) (vectors after : List (List ℕ)) (may : Bool) (bytes front : List ℕ) (rest : Option (Bor (List ℕ))) (old new : Leaf) (given : Item) (numbers : List ℕ) →
    IsTailed bytes front rest → IsGiven dates (row_line dates vectors LEAF may front) vectors after old given →
    IsOfNumbers weighing.Number (row_line dates vectors LEAF may front) numbers old.weights given → Weighs (tail_said dates (parts_behind 32 rest)) old new →
    IsOfNumbers weighing.Number (leaf_words dates vectors may (words_of bytes)) numbers new.weights given
tailed-numbers dates vectors after may bytes front rest old new given numbers cut is own weighs =
    let leaf : given ≡ item.Leaf = tailed-item dates vectors after may front old given is in
    let of_leaf : AreOfLeaf numbers = own.leaf leaf in
    let same : line_with weighing.Number given numbers old.weights ≡ line_with weighing.Number item.Leaf numbers old.weights =
    ap (λ (i : Item). line_with weighing.Number i numbers old.weights) leaf in
    let now : new.weights ≡ weighs.weights = ap (λ (l : Leaf). l.weights) weighs.leaf_is in
    record {
      is = parts-said dates vectors may bytes front rest (Ok (line_with weighing.Number given numbers old.weights)) (Ok weighs.weights) cut own.is weighs.is
          ∙ ap (λ (l : Line). Ok (weighed l weighs.weights)) same ∙ ap (λ (l : Line). Ok l) (with_weights_by numbers old.weights weighs.weights of_leaf.some)
          ∙ ap (λ (ws : List SumWeight). Ok (line_with weighing.Number item.Leaf numbers ws)) (sym now)
          ∙ ap (λ (i : Item). Ok (line_with weighing.Number i numbers new.weights)) (sym leaf);
      leaf = own.leaf;
    }

pub ok-of : {X : Type 0} (r : Result X FaultKind) (x : X) (P : X → Type 0) → r ≡ Ok x → IfOk r P → P x
ok-of (Ok y) x P is h = let same : y ≡ x = cc in subst P same h
ok-of (Err found) x P is h = absurd (cc)

-- ---- a node's row
tail_first : (v : Version) (s p t : Bool) → (if s then row.Split else if p then row.Point else if has_sums v && t then row.SumSplit else leaf_row v) ≡ LEAF → t ≡ false
tail_first v true p t h = absurd (cc)
tail_first v false true t h = absurd (cc)
tail_first version.One false false t h = absurd (cc)
tail_first (version.Packed weighing.WholeOrNone) false false t h = absurd (cc)
tail_first (version.Packed weighing.Number) false false true h = absurd (cc)
tail_first (version.Packed weighing.Number) false false false h = refl

pub leaf-first : (v : Version) (bytes : List ℕ) → node_row v bytes ≡ LEAF → is_tail (first_word bytes) ≡ false
leaf-first v bytes h = tail_first v (begins_with (codes "s") bytes) (begins_with (codes "p") bytes) (begins_with (codes "t") bytes) h

-- other rows than a leaf's of version 3 have no tail
pub bare-node : (dates : ℕ) (vectors : List (List ℕ)) (r : Row) (may : Bool) (bytes : List ℕ) → (r ≡ LEAF → ⊥) → row_line dates vectors r may bytes ≡ node_said dates vectors r may bytes
bare-node dates vectors (row.Portfolio most) may bytes other = refl
bare-node dates vectors (row.Buy least) may bytes other = refl
bare-node dates vectors (row.Gap most) may bytes other = refl
bare-node dates vectors row.Vectors may bytes other = refl
bare-node dates vectors row.Vector may bytes other = refl
bare-node dates vectors row.Nodes may bytes other = refl
bare-node dates vectors row.Split may bytes other = refl
bare-node dates vectors row.SumSplit may bytes other = refl
bare-node dates vectors row.Point may bytes other = refl
bare-node dates vectors row.Priced may bytes other = refl
bare-node dates vectors (row.Leaf weighing.WholeOrNone) may bytes other = refl
bare-node dates vectors (row.Leaf weighing.Number) may bytes other = absurd (other refl)
bare-node dates vectors row.Tail may bytes other = refl
bare-node dates vectors row.End may bytes other = refl
