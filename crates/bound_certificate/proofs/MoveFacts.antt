-- What a line at hand whole leads to, of whichever version.
use Rattle.std.proofs.Common.{◌≡◌, ◌∙◌, ℕ, ◌+◌, ◌-◌, ◌≤◌, Bool, true, false, ◌==◌, if◌then◌else◌, List, [], ◌∷◌, ◌++◌, length, refl, sym, subst, ap, arith, Some, None, Result, Ok, Err, length-append}
use Rattle.proof_tree.specs.Tree.{IsLeaf}
use Rattle.proof_tree.specs.declared.tree.Leaf.{Leaf}
use Rattle.proof_tree.specs.declared.tree.TreeNode.{TreeNode}
use Rattle.proof_tree.specs.declared.tree.TreeNode.TheVariants as tree
use Rattle.bound_certificate.specs.declared.certificate.Certificate.{Certificate}
use Rattle.bound_certificate.specs.declared.due.Due.{Due}
use Rattle.bound_certificate.specs.declared.due.Due.TheVariants as due
use Rattle.bound_certificate.specs.declared.fault.FaultKind.{FaultKind}
use Rattle.bound_certificate.specs.declared.item.Item.{Item}
use Rattle.bound_certificate.specs.declared.item.Item.TheVariants as item
use Rattle.bound_certificate.specs.declared.limits.TheConstants.{GREATEST_GAP, MOST_NODES, MOST_VECTORS}
use Rattle.bound_certificate.specs.declared.line.Line.{Line}
use Rattle.bound_certificate.specs.declared.line.Line.TheVariants as line
use Rattle.bound_certificate.specs.declared.text_reading.Stage.{Stage}
use Rattle.bound_certificate.specs.declared.text_reading.Stage.TheVariants as stage
use Rattle.bound_certificate.specs.declared.version.Version.{Version}
use Rattle.bound_certificate.specs.declared.version.Version.TheVariants as version
use Rattle.bound_certificate.specs.Draft.{with_item}
use Rattle.bound_certificate.specs.Due.{IsDue, IsSaid, is_over, next_due, nodes_due, tree_due}
use Rattle.bound_certificate.specs.Faults.{fault_or, first_fault}
use Rattle.bound_certificate.specs.Grammar.{line_item, line_said, most_buys, title_version, vectors_with}
use Rattle.bound_certificate.specs.Moves.{AreVectors, Moves, Stops}
use Rattle.bound_certificate.specs.Step.{IsSuited, due_after}
use Rattle.bound_certificate.specs.Taken.{HasRoom}
use Rattle.bound_certificate.specs.TextReading.{FewNodes, seen_due, stage_fault, stage_told}
use Rattle.bound_certificate.specs.Told.{line_leaf, line_told, told_lines, told_or}
use Rattle.bound_certificate.specs.Versions.{version_of}
use Rattle.bound_certificate.proofs.DueFacts.{Fits, IsFound, IsNodeLine, line-found}
use Rattle.bound_certificate.proofs.TextFacts.{Holds, first-cons, holds-step}
use Rattle.bound_certificate.proofs.ToldFacts.{told-cons}
use Rattle.bound_certificate.proofs.VersionFacts.{first-line}

-- ---- what a line says suits what is due
line_ended : (said : Line) → line_item said ≡ item.Nothing → ⊥
line_ended (line.Title v) h = absurd (cc)
line_ended (line.Portfolio None) h = absurd (cc)
line_ended (line.Portfolio (Some count)) h = absurd (cc)
line_ended (line.Purchase buy) h = absurd (cc)
line_ended (line.Gap cents) h = absurd (cc)
line_ended (line.Vectors count) h = absurd (cc)
line_ended (line.Vector prices) h = absurd (cc)
line_ended (line.Nodes count) h = absurd (cc)
line_ended (line.Split part at) h = absurd (cc)
line_ended line.Point h = absurd (cc)
line_ended (line.Closed how rho mu vector changes weights) h = absurd (cc)
line_ended (line.Leaf leaf) h = absurd (cc)
line_ended line.End h = absurd (cc)

node_suits : (v : Version) (dates left trees : ℕ) (vectors : List (List ℕ)) (said : Line) (leaf : Leaf) → IsNodeLine v dates vectors said →
    (line_item said ≡ item.Leaf → leaf ≡ line_leaf dates vectors said) → IsSuited dates (due.Node left trees) (line_item said) leaf
node_suits v dates left trees vectors (line.Split part at) leaf is given = tt
node_suits v dates left trees vectors line.Point leaf is given = tt
node_suits (version.Packed w) dates left trees vectors (line.Closed how rho mu vector changes weights) leaf is given = subst (IsLeaf dates) (sym (given refl)) is.leaf.leaf
node_suits version.One dates left trees vectors (line.Leaf mine) leaf is given = subst (IsLeaf dates) (sym (given refl)) is.0
node_suits version.One dates left trees vectors said leaf is given = absurd is
node_suits (version.Packed w) dates left trees vectors said leaf is given = absurd is

line_suits : (v : Version) (dates : ℕ) (vectors : List (List ℕ)) (d : Due) (said : Line) (leaf : Leaf) → Fits v dates vectors d said →
    (line_item said ≡ item.Leaf → leaf ≡ line_leaf dates vectors said) → IsSuited dates (seen_due d) (line_item said) leaf
line_suits v dates vectors due.Title (line.Title w) leaf fits given = tt
line_suits v dates vectors due.Portfolio (line.Portfolio None) leaf fits given = tt
line_suits v dates vectors due.Portfolio (line.Portfolio (Some count)) leaf fits given = tt
line_suits v dates vectors (due.Buy left least) (line.Purchase buy) leaf fits given = tt
line_suits v dates vectors (due.Gap most) (line.Gap cents) leaf fits given = fits.1
line_suits v dates vectors due.VectorCount (line.Vectors count) leaf fits given = tt
line_suits v dates vectors (due.Vector left) (line.Vector prices) leaf fits given = tt
line_suits v dates vectors due.Count (line.Nodes count) leaf fits given = tt
line_suits v dates vectors (due.Node left trees) said leaf fits given = node_suits v dates left trees vectors said leaf fits.2 given
line_suits v dates vectors (due.End trees) line.End leaf fits given = tt
line_suits v dates vectors d said leaf fits given = absurd fits

-- how many nodes a line says that follow
abbrev pub IsFewSaid : Item → Type 0
IsFewSaid (item.Nodes count) = (1 ≤ count) × (count ≤ MOST_NODES)
IsFewSaid other = Unit {0}

few_by : (left trees : ℕ) (cert : Certificate) (b : Bool) → (left == 0) ≡ b → length cert.nodes + left ≤ MOST_NODES → FewNodes (if b then due.End trees else due.Node left trees) cert
few_by left trees cert true e few = tt
few_by left trees cert false e few = (grind (arith, e), few)

few_buys : (left least : ℕ) (cert : Certificate) (b : Bool) → cert.nodes ≡ [] → FewNodes (if b then due.Gap GREATEST_GAP else due.Buy left least) cert
few_buys left least cert true none = none
few_buys left least cert false none = none

one_more : (nodes : List TreeNode) (said : TreeNode) (left : ℕ) → 1 ≤ left → length nodes + left ≤ MOST_NODES → length (nodes ++ said ∷ []) + (left - 1) ≤ MOST_NODES
one_more nodes said left some few = omega (arith, some, few, length-append nodes (said ∷ []))

few_node : (left trees : ℕ) (cert : Certificate) (said : TreeNode) → FewNodes (due.Node left trees) cert → (next : ℕ) →
    FewNodes (nodes_due (left - 1) next) (record { buys = cert.buys; gap = cert.gap; nodes = cert.nodes ++ said ∷ [] })
few_node left trees cert said few next =
    few_by (left - 1) next (record { buys = cert.buys; gap = cert.gap; nodes = cert.nodes ++ said ∷ [] }) (left - 1 == 0) refl (one_more cert.nodes said left few.0 few.1)

-- the nodes stay few
pub few-step : (dates : ℕ) (d : Due) (told : Item) (leaf mine : Leaf) (cert : Certificate) → IsSuited dates d told leaf → IsFewSaid told → FewNodes d cert →
    FewNodes (due_after d told) (with_item cert told mine)
few-step dates due.Title item.Header leaf mine cert suited said few = few
few-step dates due.Portfolio (item.Portfolio None) leaf mine cert suited said few = few
few-step dates due.Portfolio (item.Portfolio (Some count)) leaf mine cert suited said few =
    few_buys count 0 (with_item cert (item.Portfolio (Some count)) mine) (count == 0) few
few-step dates (due.Buy left least) (item.Buy buy) leaf mine cert suited said few =
    few_buys (left - 1) (buy.line + 1) (with_item cert (item.Buy buy) mine) (left - 1 == 0) few
few-step dates (due.Gap most) (item.Gap cents) leaf mine cert suited said few = few
few-step dates due.Count (item.Vectors count) leaf mine cert suited said few = few
few-step dates due.Count item.Vector leaf mine cert suited said few = few
few-step dates due.Count (item.Nodes count) leaf mine cert suited said few =
    few_by count 1 cert (count == 0) refl (omega (arith, said.1, ap length few))
few-step dates (due.Node left trees) (item.Split part at) leaf mine cert suited said few = few_node left trees cert (tree.Split part at) few (trees + 1)
few-step dates (due.Node left trees) item.Point leaf mine cert suited said few = few_node left trees cert tree.Point few (trees - 1)
few-step dates (due.Node left trees) item.Leaf leaf mine cert suited said few = few_node left trees cert (tree.Closed mine) few (trees - 1)
few-step dates (due.End trees) item.End leaf mine cert suited said few = tt
few-step dates d item.Nothing leaf mine cert suited said few = few
few-step dates d told leaf mine cert suited said few = absurd suited

-- ---- version 1
node_few : (v : Version) (dates : ℕ) (vectors : List (List ℕ)) (said : Line) → IsNodeLine v dates vectors said → IsFewSaid (line_item said)
node_few v dates vectors (line.Split part at) is = tt
node_few v dates vectors line.Point is = tt
node_few v dates vectors (line.Closed how rho mu vector changes weights) is = tt
node_few v dates vectors (line.Leaf leaf) is = tt
node_few v dates vectors said is = absurd is

line_few : (v : Version) (dates : ℕ) (vectors : List (List ℕ)) (d : Due) (said : Line) → Fits v dates vectors d said → IsFewSaid (line_item said)
line_few v dates vectors due.Title (line.Title w) fits = tt
line_few v dates vectors due.Portfolio (line.Portfolio None) fits = tt
line_few v dates vectors due.Portfolio (line.Portfolio (Some count)) fits = tt
line_few v dates vectors (due.Buy left least) (line.Purchase buy) fits = tt
line_few v dates vectors (due.Gap most) (line.Gap cents) fits = tt
line_few v dates vectors due.VectorCount (line.Vectors count) fits = tt
line_few v dates vectors (due.Vector left) (line.Vector prices) fits = tt
line_few v dates vectors due.Count (line.Nodes count) fits = fits
line_few v dates vectors (due.Node left trees) said fits = node_few v dates vectors said fits.2
line_few v dates vectors (due.End trees) line.End fits = tt
line_few v dates vectors d said fits = absurd fits

-- ---- what is due behind a line, as it is seen
seen_buys : (left least : ℕ) (b : Bool) → seen_due (if b then due.Gap GREATEST_GAP else due.Buy left least) ≡ (if b then due.Gap GREATEST_GAP else due.Buy left least)
seen_buys left least true = refl
seen_buys left least false = refl

seen_vectors : (left : ℕ) (b : Bool) → seen_due (if b then due.Count else due.Vector left) ≡ due.Count
seen_vectors left true = refl
seen_vectors left false = refl

seen_nodes : (left trees : ℕ) (b : Bool) → seen_due (if b then due.End trees else due.Node left trees) ≡ (if b then due.End trees else due.Node left trees)
seen_nodes left trees true = refl
seen_nodes left trees false = refl

seen_tree : (v : Version) → seen_due (tree_due v) ≡ due.Count
seen_tree version.One = refl
seen_tree (version.Packed w) = refl

node_after : (v : Version) (dates left trees : ℕ) (vectors : List (List ℕ)) (said : Line) → IsNodeLine v dates vectors said →
    seen_due (next_due v (due.Node left trees) (line_item said)) ≡ due_after (due.Node left trees) (line_item said)
node_after v dates left trees vectors (line.Split part at) is = seen_nodes (left - 1) (trees + 1) (left - 1 == 0)
node_after v dates left trees vectors line.Point is = seen_nodes (left - 1) (trees - 1) (left - 1 == 0)
node_after v dates left trees vectors (line.Closed how rho mu vector changes weights) is = seen_nodes (left - 1) (trees - 1) (left - 1 == 0)
node_after v dates left trees vectors (line.Leaf leaf) is = seen_nodes (left - 1) (trees - 1) (left - 1 == 0)
node_after v dates left trees vectors said is = absurd is

line_after : (v : Version) (dates : ℕ) (vectors : List (List ℕ)) (d : Due) (said : Line) → Fits v dates vectors d said →
    seen_due (next_due v d (line_item said)) ≡ due_after (seen_due d) (line_item said)
line_after v dates vectors due.Title (line.Title w) fits = refl
line_after v dates vectors due.Portfolio (line.Portfolio None) fits = refl
line_after v dates vectors due.Portfolio (line.Portfolio (Some count)) fits = seen_buys count 0 (count == 0)
line_after v dates vectors (due.Buy left least) (line.Purchase buy) fits = seen_buys (left - 1) (buy.line + 1) (left - 1 == 0)
line_after v dates vectors (due.Gap most) (line.Gap cents) fits = seen_tree v
line_after v dates vectors due.VectorCount (line.Vectors count) fits = seen_vectors count (count == 0)
line_after v dates vectors (due.Vector left) (line.Vector prices) fits = seen_vectors (left - 1) (left - 1 == 0)
line_after v dates vectors due.Count (line.Nodes count) fits = seen_nodes count 1 (count == 0)
line_after v dates vectors (due.Node left trees) said fits = node_after v dates left trees vectors said fits.2
line_after v dates vectors (due.End trees) line.End fits = refl
line_after v dates vectors d said fits = absurd fits

pub seen-over : (d : Due) → is_over (seen_due d) ≡ is_over d
seen-over due.Title = refl
seen-over due.Portfolio = refl
seen-over (due.Buy left least) = refl
seen-over (due.Gap most) = refl
seen-over due.VectorCount = refl
seen-over (due.Vector left) = refl
seen-over due.Count = refl
seen-over (due.Node left trees) = refl
seen-over (due.End trees) = refl
seen-over due.Nothing = refl

pub fits-due : (v : Version) (dates : ℕ) (vectors : List (List ℕ)) (d : Due) (said : Line) → Fits v dates vectors d said → is_over d ≡ false
fits-due v dates vectors due.Nothing said fits = absurd fits
fits-due v dates vectors due.Title said fits = refl
fits-due v dates vectors due.Portfolio said fits = refl
fits-due v dates vectors (due.Buy left least) said fits = refl
fits-due v dates vectors (due.Gap most) said fits = refl
fits-due v dates vectors due.VectorCount said fits = refl
fits-due v dates vectors (due.Vector left) said fits = refl
fits-due v dates vectors due.Count said fits = refl
fits-due v dates vectors (due.Node left trees) said fits = refl
fits-due v dates vectors (due.End trees) said fits = refl

pub vectors-few : (dates : ℕ) (d : Due) (vectors : List (List ℕ)) → AreVectors dates d vectors → length vectors ≤ MOST_VECTORS
vectors-few dates d vectors are = omega (arith, are.room)

found_line : (v : Version) (dates : ℕ) (d : Due) (vectors : List (List ℕ)) (bytes : List ℕ) (said : Line) → AreVectors dates d vectors → line_said v dates vectors d bytes ≡ Ok said →
    IsFound v dates vectors d bytes said
found_line v dates d vectors bytes said are h = line-found v dates vectors d bytes said are.all (vectors-few dates d vectors are) h

pub line-moves : (v : Version) (dates : ℕ) (d next : Due) (vectors after : List (List ℕ)) (bytes : List ℕ) (said : Line) (told : Item) (leaf : Leaf) → AreVectors dates d vectors →
    line_said v dates vectors d bytes ≡ Ok said → told ≡ line_item said → (told ≡ item.Leaf → leaf ≡ line_leaf dates vectors said) → next ≡ next_due v d told → after ≡ vectors_with vectors said →
    Moves dates (stage.Later v d) (stage.Later v next) vectors after bytes told leaf
line-moves v dates d next vectors after bytes said told leaf are h told_is leaf_is next_is after_is =
    let found : IsFound v dates vectors d bytes said = found_line v dates d vectors bytes said are h in
    let S : Item → Type 0 = λ i. IsSuited dates (seen_due d) i leaf in
    let suited : IsSuited dates (seen_due d) told leaf = subst S (sym told_is) (line_suits v dates vectors d said leaf found.fits (λ leafy. leaf_is (told_is ∙ leafy))) in
    let next_said : next ≡ next_due v d (line_item said) = next_is ∙ ap (λ (i : Item). next_due v d i) told_is in
    let due_is : seen_due next ≡ due_after (seen_due d) told =
    ap (λ (e : Due). seen_due e) next_said ∙ line_after v dates vectors d said found.fits ∙ ap (λ (i : Item). due_after (seen_due d) i) (sym told_is) in
    let few_said : IsFewSaid told = subst IsFewSaid (sym told_is) (line_few v dates vectors d said found.fits) in
    let mine : Leaf = line_leaf dates vectors said in
    record {
      said = line_told dates vectors said;
      item_is = told_is;
      ended = λ nothing. line_ended said (sym told_is ∙ nothing);
      leaf_is = leaf_is;
      more = seen-over d ∙ fits-due v dates vectors d said found.fits;
      suited = suited;
      due_is = due_is;
      few = λ cert few. (
          let F : Due → Type 0 = λ e. FewNodes e (with_item cert told mine) in
          let G : Item → Type 0 = λ i. FewNodes (seen_due next) (with_item cert i mine) in
          subst G told_is (subst F (sym due_is) (few-step dates (seen_due d) told leaf mine cert suited few_said few)));
      fault = λ number lines some.
          first-cons v dates number d vectors bytes lines some
          ∙ ap (λ (r : Result Line FaultKind). fault_or number r (λ l. first_fault v dates (number + 1) (next_due v d (line_item l)) (vectors_with vectors l) lines)) h
          ∙ ap (λ (e : Due). first_fault v dates (number + 1) e (vectors_with vectors said) lines) (sym next_said)
          ∙ ap (λ (vs : List (List ℕ)). first_fault v dates (number + 1) next vs lines) (sym after_is);
      tells = λ lines some.
          told-cons v dates d vectors bytes lines some
          ∙ ap (λ (r : Result Line FaultKind). told_or r (λ l. line_told dates vectors l ∷ told_lines v dates (next_due v d (line_item l)) (vectors_with vectors l) lines)) h
          ∙ ap (λ (e : Due). line_told dates vectors said ∷ told_lines v dates e (vectors_with vectors said) lines) (sym next_said)
          ∙ ap (λ (vs : List (List ℕ)). line_told dates vectors said ∷ told_lines v dates next vs lines) (sym after_is);
    }

pub line-stops : (v : Version) (dates : ℕ) (d : Due) (vectors : List (List ℕ)) (bytes : List ℕ) (cause : FaultKind) → line_said v dates vectors d bytes ≡ Err cause →
    Stops dates (stage.Later v d) vectors bytes cause
line-stops v dates d vectors bytes cause h number lines some =
    first-cons v dates number d vectors bytes lines some
    ∙ ap (λ (r : Result Line FaultKind). fault_or number r (λ l. first_fault v dates (number + 1) (next_due v d (line_item l)) (vectors_with vectors l) lines)) h

-- ---- the first line says the version
first_fault_by : (v : Version) (dates number : ℕ) (vectors lines : List (List ℕ)) → version_of lines ≡ v →
    stage_fault dates number stage.First vectors lines ≡ stage_fault dates number (stage.Later v due.Title) vectors lines
first_fault_by v dates number vectors lines e = ap (λ (u : Version). first_fault u dates number due.Title vectors lines) e

first_told_by : (v : Version) (dates : ℕ) (vectors lines : List (List ℕ)) → version_of lines ≡ v →
    stage_told dates stage.First vectors lines ≡ stage_told dates (stage.Later v due.Title) vectors lines
first_told_by v dates vectors lines e = ap (λ (u : Version). told_lines u dates due.Title vectors lines) e

pub first-moves : (v : Version) (dates : ℕ) (vectors after : List (List ℕ)) (bytes : List ℕ) (next : Stage) (told : Item) (leaf : Leaf) → title_version bytes ≡ v →
    Moves dates (stage.Later v due.Title) next vectors after bytes told leaf → Moves dates stage.First next vectors after bytes told leaf
first-moves v dates vectors after bytes next told leaf title moves = record {
  said = moves.said;
  item_is = moves.item_is;
  ended = moves.ended;
  leaf_is = moves.leaf_is;
  more = refl;
  suited = moves.suited;
  due_is = moves.due_is;
  few = moves.few;
  fault = λ number lines some. first_fault_by v dates number vectors (bytes ∷ lines) (first-line bytes lines some ∙ title) ∙ moves.fault number lines some;
  tells = λ lines some. first_told_by v dates vectors (bytes ∷ lines) (first-line bytes lines some ∙ title) ∙ moves.tells lines some;
}

pub first-stops : (v : Version) (dates : ℕ) (vectors : List (List ℕ)) (bytes : List ℕ) (cause : FaultKind) → title_version bytes ≡ v →
    Stops dates (stage.Later v due.Title) vectors bytes cause → Stops dates stage.First vectors bytes cause
first-stops v dates vectors bytes cause title stops number lines some =
    first_fault_by v dates number vectors (bytes ∷ lines) (first-line bytes lines some ∙ title) ∙ stops number lines some

-- ---- what a line says where it stands
few_buys_said : (v : Version) (count : ℕ) → count ≤ most_buys v → IsSaid due.Portfolio (item.Portfolio (Some count))
few_buys_said version.One count few = omega (arith, few)
few_buys_said (version.Packed w) count few = few

line_is_said : (v : Version) (dates : ℕ) (vectors : List (List ℕ)) (d : Due) (said : Line) → Fits v dates vectors d said → IsSaid d (line_item said)
line_is_said v dates vectors due.Title (line.Title w) fits = tt
line_is_said v dates vectors due.Portfolio (line.Portfolio None) fits = tt
line_is_said v dates vectors due.Portfolio (line.Portfolio (Some count)) fits = few_buys_said v count fits
line_is_said v dates vectors (due.Buy left least) (line.Purchase buy) fits = tt
line_is_said v dates vectors (due.Gap most) (line.Gap cents) fits = tt
line_is_said v dates vectors due.VectorCount (line.Vectors count) fits = fits
line_is_said v dates vectors (due.Vector left) (line.Vector prices) fits = tt
line_is_said v dates vectors due.Count (line.Nodes count) fits = fits.1
line_is_said v dates vectors (due.Node left trees) said fits = fits.0
line_is_said v dates vectors (due.End trees) line.End fits = tt
line_is_said v dates vectors d said fits = absurd fits

pub line-is-said : (v : Version) (dates : ℕ) (d : Due) (vectors : List (List ℕ)) (bytes : List ℕ) (said : Line) (told : Item) → AreVectors dates d vectors →
    line_said v dates vectors d bytes ≡ Ok said → told ≡ line_item said → IsSaid d told
line-is-said v dates d vectors bytes said told are h told_is = subst (IsSaid d) (sym told_is) (line_is_said v dates vectors d said (found_line v dates d vectors bytes said are h).fits)

-- the vectors that came, where this is due
pub are-vectors : (dates : ℕ) (d : Due) (vectors : List (List ℕ)) → Holds dates d vectors → AreVectors dates d vectors
are-vectors dates (due.Vector left) vectors holds = record { all = holds.all; room = omega (arith, holds.room) }
are-vectors dates due.Title vectors holds = record { all = holds.all; room = holds.room }
are-vectors dates due.Portfolio vectors holds = record { all = holds.all; room = holds.room }
are-vectors dates (due.Buy left least) vectors holds = record { all = holds.all; room = holds.room }
are-vectors dates (due.Gap most) vectors holds = record { all = holds.all; room = holds.room }
are-vectors dates due.VectorCount vectors holds = record { all = holds.all; room = holds.room }
are-vectors dates due.Count vectors holds = record { all = holds.all; room = holds.room }
are-vectors dates (due.Node left trees) vectors holds = record { all = holds.all; room = holds.room }
are-vectors dates (due.End trees) vectors holds = record { all = holds.all; room = holds.room }
are-vectors dates due.Nothing vectors holds = record { all = holds.all; room = holds.room }

-- vectors that came
pub vectors-room : (dates : ℕ) (d : Due) (vectors : List (List ℕ)) → IsDue d → AreVectors dates d vectors → HasRoom d vectors
vectors-room dates (due.Vector left) vectors is are = (is.0, are.room)
vectors-room dates due.Title vectors is are = tt
vectors-room dates due.Portfolio vectors is are = tt
vectors-room dates (due.Buy left least) vectors is are = tt
vectors-room dates (due.Gap most) vectors is are = tt
vectors-room dates due.VectorCount vectors is are = tt
vectors-room dates due.Count vectors is are = tt
vectors-room dates (due.Node left trees) vectors is are = tt
vectors-room dates (due.End trees) vectors is are = tt
vectors-room dates due.Nothing vectors is are = tt

holds_of : (dates : ℕ) (d : Due) (vectors : List (List ℕ)) → IsDue d → AreVectors dates d vectors → Holds dates d vectors
holds_of dates (due.Vector left) vectors is are = record { all = are.all; room = omega (arith, is.0, are.room) }
holds_of dates due.Title vectors is are = record { all = are.all; room = are.room }
holds_of dates due.Portfolio vectors is are = record { all = are.all; room = are.room }
holds_of dates (due.Buy left least) vectors is are = record { all = are.all; room = are.room }
holds_of dates (due.Gap most) vectors is are = record { all = are.all; room = are.room }
holds_of dates due.VectorCount vectors is are = record { all = are.all; room = are.room }
holds_of dates due.Count vectors is are = record { all = are.all; room = are.room }
holds_of dates (due.Node left trees) vectors is are = record { all = are.all; room = are.room }
holds_of dates (due.End trees) vectors is are = record { all = are.all; room = are.room }
holds_of dates due.Nothing vectors is are = record { all = are.all; room = are.room }

pub more-vectors : (v : Version) (dates : ℕ) (d next : Due) (vectors after : List (List ℕ)) (bytes : List ℕ) (said : Line) (told : Item) → IsDue d → AreVectors dates d vectors →
    line_said v dates vectors d bytes ≡ Ok said → told ≡ line_item said → next ≡ next_due v d told → after ≡ vectors_with vectors said → AreVectors dates next after
more-vectors v dates d next vectors after bytes said told is are h told_is next_is after_is =
    let found : IsFound v dates vectors d bytes said = found_line v dates d vectors bytes said are h in
    let P : Due → Type 0 = λ e. AreVectors dates e after in
    let Q : List (List ℕ) → Type 0 = λ vs. AreVectors dates (next_due v d (line_item said)) vs in
    subst P (sym (next_is ∙ ap (λ (i : Item). next_due v d i) told_is))
    (subst Q (sym after_is) (are-vectors dates (next_due v d (line_item said)) (vectors_with vectors said) (holds-step v dates vectors d said (holds_of dates d vectors is are) found.fits)))
