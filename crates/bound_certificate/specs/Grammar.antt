-- The lines of a certificate, by their words: what a line says, or why it isn't one that is due. The grammar is this project's own.
use Rattle.std.specs.Prelude.{ℕ, ◌-◌, ◌≤◌, All, Bool, true, false, ◌&&◌, ◌||◌, not, nat_eq, nat_le, nat_lt, if◌then◌else◌, List, [], ◌∷◌, ◌++◌, length, map, Option, Some, None, Result, Ok, Err, codes}
use lib.Pointwise.{pointwise}
use Rattle.proof_tree.specs.declared.tree.Part.TheVariants as part
use Rattle.proof_tree.specs.declared.weights.SumWeight.{SumWeight}
use Rattle.bound_certificate.specs.declared.due.Due.{Due}
use Rattle.bound_certificate.specs.declared.due.Due.TheVariants as due
use Rattle.bound_certificate.specs.declared.fault.FaultKind.{FaultKind}
use Rattle.bound_certificate.specs.declared.fault.FaultKind.TheVariants as kind
use Rattle.bound_certificate.specs.declared.item.Item.{Item}
use Rattle.bound_certificate.specs.declared.item.Item.TheVariants as item
use Rattle.bound_certificate.specs.declared.limits.TheConstants.{MOST_BUYS, MOST_PACKED_BUYS}
use Rattle.bound_certificate.specs.declared.line.Line.{Line}
use Rattle.bound_certificate.specs.declared.line.Line.TheVariants as line
use Rattle.bound_certificate.specs.declared.packed.Change.{Change}
use Rattle.bound_certificate.specs.declared.row.Row.{Row}
use Rattle.bound_certificate.specs.declared.row.Row.TheVariants as row
use Rattle.bound_certificate.specs.declared.version.Version.{Version}
use Rattle.bound_certificate.specs.declared.version.Version.TheVariants as version
use Rattle.bound_certificate.specs.declared.weighing.Weighing.{Weighing}
use Rattle.bound_certificate.specs.declared.weighing.Weighing.TheVariants as weighing
use Rattle.bound_certificate.specs.Packed.{changed, restates, vector_of}
use Rattle.bound_certificate.specs.Row.{row_said, row_words}
use Rattle.bound_certificate.specs.Weights.{rho_said, side_said}
use Rattle.line_words.specs.Words.{first_word, words_of}

-- ---- what a version has of its own
-- the first line of a version
abbrev pub title_word : Version → List ℕ
title_word version.One = codes "escrow-certificate 1"
title_word (version.Packed weighing.WholeOrNone) = codes "escrow-certificate 2"
title_word (version.Packed weighing.Number) = codes "escrow-certificate 3"

-- how a first line says that leaves weigh the cost: as in version 2 unless it is that of version 3
abbrev pub title_weighing : List ℕ → Weighing
title_weighing line = if pointwise nat_eq (title_word (version.Packed weighing.Number)) line then weighing.Number else weighing.WholeOrNone

-- the version that a first line says: 1 unless it is that of version 2 or 3
abbrev pub title_version : List ℕ → Version
title_version line =
    if pointwise nat_eq (title_word (version.Packed (title_weighing line))) line then version.Packed (title_weighing line) else version.One

-- the most purchases of a version
abbrev pub most_buys : Version → ℕ
most_buys version.One = MOST_BUYS
most_buys (version.Packed w) = MOST_PACKED_BUYS

-- the row of the leaves of a version
abbrev pub leaf_row : Version → Row
leaf_row version.One = row.Priced
leaf_row (version.Packed w) = row.Leaf w

-- a version has splits of sums: version 3 alone
abbrev pub has_sums : Version → Bool
has_sums (version.Packed weighing.Number) = true
has_sums other = false

-- ---- what the numbers of a line say
-- numbers by turns are the place of a change and its price
abbrev pub changes_of : List ℕ → List Change
changes_of (place ∷ price ∷ numbers) = record { place = place; price = price } ∷ changes_of numbers
changes_of others = []

-- each place is above the one before
abbrev pub are_rising : List ℕ → Bool
are_rising (first ∷ second ∷ places) = nat_lt first second && are_rising (second ∷ places)
are_rising places = true

-- the places of changes, in order
abbrev pub places_of : List Change → List ℕ
places_of changes = map (λ change. change.place) changes

-- places count from 1 to the last
abbrev pub ArePlaces : ℕ → List Change → Type 0
ArePlaces last changes = All (λ change. (1 ≤ change.place) × (change.place ≤ last)) changes

-- a price is above the one before
abbrev pub rises : List ℕ → Bool
rises (x ∷ y ∷ ys) = nat_lt x y || rises (y ∷ ys)
rises prices = false

-- a leaf with all its prices: none rises
abbrev pub priced_said : ℕ → ℕ → List ℕ → Result Line FaultKind
priced_said rho mu prices = if rises prices then Err kind.Order else Ok (line.Leaf (record { rho = rho_said weighing.WholeOrNone rho; mu = mu; prices = prices; weights = [] }))

-- the leaf of a vector, or of stairs, and changes: no change is to the price that stands there without it, places rise, and after the changes
-- no price rises
abbrev pub leaf_said : Weighing → ℕ → Option (List ℕ) → ℕ → ℕ → ℕ → List Change → Result Line FaultKind
leaf_said w dates prices rho mu vector changes =
    if restates prices changes then Err kind.Number
    else if not (are_rising (places_of changes)) || rises (changed dates prices changes) then Err kind.Order
    else Ok (line.Closed w (rho_said w rho) mu vector changes [])

-- what the numbers of a line say
abbrev pub said_by : ℕ → List (List ℕ) → Row → List ℕ → Result Line FaultKind
said_by dates vectors (row.Portfolio most) (count ∷ _) = Ok (line.Portfolio (Some count))
said_by dates vectors (row.Buy least) (number ∷ units ∷ _) =
    if nat_lt number least then Err kind.Order else Ok (line.Purchase (record { line = number; units = units }))
said_by dates vectors (row.Gap most) (cents ∷ _) = Ok (line.Gap cents)
said_by dates vectors row.Vectors (count ∷ _) = Ok (line.Vectors count)
said_by dates vectors row.Vector prices = if rises prices then Err kind.Order else Ok (line.Vector prices)
said_by dates vectors row.Nodes (count ∷ _) = Ok (line.Nodes count)
said_by dates vectors row.Split (number ∷ at ∷ _) = Ok (line.Split (part.Line number) at)
said_by dates vectors row.SumSplit (date ∷ at ∷ _) = Ok (line.Split (part.Sum (date - 1)) at)
said_by dates vectors row.Point _ = Ok line.Point
said_by dates vectors row.Priced (rho ∷ mu ∷ prices) = priced_said rho mu prices
said_by dates vectors (row.Leaf w) (rho ∷ mu ∷ vector ∷ numbers) = leaf_said w dates (vector_of vectors vector) rho mu vector (changes_of numbers)
said_by dates vectors row.End _ = Ok line.End
said_by dates vectors _ _ = Err kind.Count

-- what the numbers of a line say, or the fault that was found in its words
abbrev pub said_or : ℕ → List (List ℕ) → Row → Result (List ℕ) FaultKind → Result Line FaultKind
said_or dates vectors r (Err found) = Err found
said_or dates vectors r (Ok numbers) = said_by dates vectors r numbers

-- what a line of a name says, where one may stand
abbrev pub row_line : ℕ → List (List ℕ) → Row → Bool → List ℕ → Result Line FaultKind
row_line dates vectors r may bytes = said_or dates vectors r (row_said dates (length vectors) r may bytes)

-- ---- a leaf's line with a tail
-- numbers by threes are the need date of a sum, counted from 1, the side and the weight
abbrev pub weights_of : List ℕ → List SumWeight
weights_of (date ∷ side ∷ weight ∷ numbers) = record { sum = date - 1; side = side_said side; weight = weight } ∷ weights_of numbers
weights_of others = []

-- the sums that are weighed, in order
abbrev pub sums_of : List SumWeight → List ℕ
sums_of weights = map (λ own. own.sum) weights

-- a word is `t`
abbrev pub is_tail : List ℕ → Bool
is_tail word = pointwise nat_eq (codes "t") word

-- the words before the first that is `t`
abbrev pub front_words : List (List ℕ) → List (List ℕ)
front_words [] = []
front_words (word ∷ words) = if is_tail word then [] else word ∷ front_words words

-- the words from the first that is `t` on
abbrev pub tail_words : List (List ℕ) → List (List ℕ)
tail_words [] = []
tail_words (word ∷ words) = if is_tail word then word ∷ words else tail_words words

-- the weights that numbers are, of which the sums rise, or the fault that was found in their words
abbrev pub weights_or : Result (List ℕ) FaultKind → Result (List SumWeight) FaultKind
weights_or (Err found) = Err found
weights_or (Ok numbers) = if are_rising (sums_of (weights_of numbers)) then Ok (weights_of numbers) else Err kind.Order

-- the weights that a tail says; without a tail there are none
abbrev pub tail_said : ℕ → List (List ℕ) → Result (List SumWeight) FaultKind
tail_said dates [] = Ok []
tail_said dates (word ∷ words) = weights_or (row_words dates 0 row.Tail true (word ∷ words))

-- the order in which the faults of a line are answered
abbrev pub fault_place : FaultKind → ℕ
fault_place kind.Header = 0
fault_place kind.Count = 1
fault_place kind.Number = 2
fault_place other = 3

-- the earlier of two in it
abbrev pub earlier : FaultKind → FaultKind → FaultKind
earlier one other = if nat_le (fault_place one) (fault_place other) then one else other

-- a leaf with weights of sums
abbrev pub weighed : Line → List SumWeight → Line
weighed (line.Closed w rho mu vector changes none) weights = line.Closed w rho mu vector changes weights
weighed said weights = said

-- what a leaf's line says, by what its words before the tail say and by the weights of the tail, or the earlier of their faults
abbrev pub with_tail : Result Line FaultKind → Result (List SumWeight) FaultKind → Result Line FaultKind
with_tail (Ok said) (Ok weights) = Ok (weighed said weights)
with_tail (Ok said) (Err found) = Err found
with_tail (Err found) (Ok weights) = Err found
with_tail (Err one) (Err other) = Err (earlier one other)

-- what the words of a leaf's line of version 3 say
abbrev pub leaf_words : ℕ → List (List ℕ) → Bool → List (List ℕ) → Result Line FaultKind
leaf_words dates vectors may words =
    with_tail (said_or dates vectors (row.Leaf weighing.Number) (row_words dates (length vectors) (row.Leaf weighing.Number) may (front_words words)))
    (tail_said dates (tail_words words))

-- what a node's line of a name says, where one may stand: a leaf of version 3 may have a tail
abbrev pub node_said : ℕ → List (List ℕ) → Row → Bool → List ℕ → Result Line FaultKind
node_said dates vectors (row.Leaf weighing.Number) may bytes = leaf_words dates vectors may (words_of bytes)
node_said dates vectors r may bytes = row_line dates vectors r may bytes

-- ---- a line where it is due
-- a line begins with a word
abbrev pub begins_with : List ℕ → List ℕ → Bool
begins_with word bytes = pointwise nat_eq word (first_word bytes)

-- the row of a node's line: a split, a point or a leaf; a word that names none is no leaf's either
abbrev pub node_row : Version → List ℕ → Row
node_row v bytes =
    if begins_with (codes "s") bytes then row.Split else if begins_with (codes "p") bytes then row.Point
    else if has_sums v && begins_with (codes "t") bytes then row.SumSplit else leaf_row v

-- what a line says that is due, or the first of its faults. Where the tree has closed a node is `Count`; where it hasn't closed behind its
-- last node any line is.
abbrev pub line_said : Version → ℕ → List (List ℕ) → Due → List ℕ → Result Line FaultKind
line_said v dates vectors due.Title bytes = if pointwise nat_eq (title_word v) bytes then Ok (line.Title v) else Err kind.Header
line_said v dates vectors due.Portfolio bytes =
    if pointwise nat_eq (codes "portfolio none") bytes then Ok (line.Portfolio None) else row_line dates vectors (row.Portfolio (most_buys v)) true bytes
line_said v dates vectors (due.Buy left least) bytes = row_line dates vectors (row.Buy least) true bytes
line_said v dates vectors (due.Gap most) bytes = row_line dates vectors (row.Gap most) true bytes
line_said v dates vectors due.VectorCount bytes = row_line dates vectors row.Vectors true bytes
line_said v dates vectors (due.Vector left) bytes = row_line dates vectors row.Vector true bytes
line_said v dates vectors due.Count bytes = row_line dates vectors row.Nodes true bytes
line_said v dates vectors (due.Node left trees) bytes = node_said dates vectors (node_row v bytes) (nat_lt 0 trees) bytes
line_said v dates vectors (due.End trees) bytes = if nat_lt 0 trees then Err kind.Count else row_line dates vectors row.End true bytes
line_said v dates vectors due.Nothing bytes = Err kind.Trailing

-- what a line says, as a reader gives it; a leaf's weights are told apart
abbrev pub line_item : Line → Item
line_item (line.Title v) = item.Header
line_item (line.Portfolio count) = item.Portfolio count
line_item (line.Purchase buy) = item.Buy buy
line_item (line.Gap cents) = item.Gap cents
line_item (line.Vectors count) = item.Vectors count
line_item (line.Vector prices) = item.Vector
line_item (line.Nodes count) = item.Nodes count
line_item (line.Split part at) = item.Split part at
line_item line.Point = item.Point
line_item (line.Closed w rho mu vector changes weights) = item.Leaf
line_item (line.Leaf leaf) = item.Leaf
line_item line.End = item.End

-- the vectors so far, with the one that a line says
abbrev pub vectors_with : List (List ℕ) → Line → List (List ℕ)
vectors_with vectors (line.Vector prices) = vectors ++ prices ∷ []
vectors_with vectors said = vectors
