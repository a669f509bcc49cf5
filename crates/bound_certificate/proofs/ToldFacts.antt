-- The lines of a certificate's text tell that certificate, of whichever version.
use Rattle.std.proofs.Common.{◌≡◌, ◌∙◌, ℕ, ◌+◌, ◌-◌, ◌<◌, Bool, true, false, ◌==◌, if◌then◌else◌, List, [], ◌∷◌, ◌++◌, length, map, refl, sym, subst, ap, arith, Some, None, Result, inl, inr}
use Rattle.std.specs.List.{flat_map, fold}
use Rattle.std.proofs.lemmas.List.{map-append}
use Rattle.proof_tree.specs.declared.tree.TreeNode.{TreeNode}
use Rattle.bound_certificate.specs.declared.certificate.Certificate.{Certificate}
use Rattle.bound_certificate.specs.declared.due.Due.{Due}
use Rattle.bound_certificate.specs.declared.due.Due.TheVariants as due
use Rattle.bound_certificate.specs.declared.fault.FaultKind.{FaultKind}
use Rattle.bound_certificate.specs.declared.line.Line.{Line}
use Rattle.bound_certificate.specs.declared.line.Line.TheVariants as line
use Rattle.bound_certificate.specs.declared.version.Version.{Version}
use Rattle.bound_certificate.specs.declared.version.Version.TheVariants as version
use Rattle.bound_certificate.specs.declared.limits.TheConstants.{GREATEST_GAP}
use Rattle.bound_certificate.specs.Draft.{with_item}
use Rattle.bound_certificate.specs.Due.{next_due, tree_due}
use Rattle.bound_certificate.specs.Faults.{lines_in}
use Rattle.bound_certificate.specs.Grammar.{line_item, line_said, vectors_with}
use Rattle.bound_certificate.specs.Laws.{LinesTellTheCertificate, TextsSayTheirCertificate}
use Rattle.bound_certificate.specs.Text.{line_text}
use Rattle.bound_certificate.specs.Told.{Told, certificate_told, line_told, told_in, told_lines, told_or}
use Rattle.bound_certificate.specs.Versions.{version_of}
use Rattle.bound_certificate.proofs.DueFacts.{Fits, IsFew, IsNodeLine, IsShown, line-shows}
use Rattle.bound_certificate.proofs.FollowFacts.{Follows, Written, and_line, and_lines, lines-fold, lines-follow, none_written, tree_of, with-vectors, written_lines}
use Rattle.bound_certificate.proofs.LineFacts.{body}
use Rattle.bound_certificate.proofs.TextFacts.{IsWrittenText, lines-cons, some-lines, text_cons}
use Rattle.bound_certificate.proofs.VersionFacts.{text-version}
use Rattle.bound_certificate.proofs.WrittenFacts.{cert-packed, cert-written, cert_of, packed-text-written, packed_written, text-written, whole_written}

abbrev pub with_told : Certificate → Told → Certificate
with_told cert said = with_item cert said.item said.leaf

-- no node stands before nodes are due
abbrev pub NoNodes : Due → Written → Type 0
NoNodes (due.Node left trees) w = Unit {0}
NoNodes (due.End trees) w = Unit {0}
NoNodes due.Nothing w = Unit {0}
NoNodes d w = w.nodes ≡ []

no_buys : (w : Written) (left least : ℕ) (b : Bool) → w.nodes ≡ [] → NoNodes (if b then due.Gap GREATEST_GAP else due.Buy left least) w
no_buys w left least true none = none
no_buys w left least false none = none

no_vectors : (w : Written) (left : ℕ) (b : Bool) → w.nodes ≡ [] → NoNodes (if b then due.Count else due.Vector left) w
no_vectors w left true none = none
no_vectors w left false none = none

nodes_may : (w : Written) (left trees : ℕ) (b : Bool) → NoNodes (if b then due.End trees else due.Node left trees) w
nodes_may w left trees true = tt
nodes_may w left trees false = tt

tree_none : (v : Version) (w : Written) → w.nodes ≡ [] → NoNodes (tree_due v) w
tree_none version.One w none = none
tree_none (version.Packed how) w none = none

node_may : (v : Version) (dates left trees : ℕ) (vectors : List (List ℕ)) (w : Written) (said : Line) → IsNodeLine v dates vectors said →
    NoNodes (next_due v (due.Node left trees) (line_item said)) w
node_may v dates left trees vectors w (line.Split part at) is = nodes_may w (left - 1) (trees + 1) (left - 1 == 0)
node_may v dates left trees vectors w line.Point is = nodes_may w (left - 1) (trees - 1) (left - 1 == 0)
node_may v dates left trees vectors w (line.Closed how rho mu vector changes weights) is = nodes_may w (left - 1) (trees - 1) (left - 1 == 0)
node_may v dates left trees vectors w (line.Leaf leaf) is = nodes_may w (left - 1) (trees - 1) (left - 1 == 0)
node_may v dates left trees vectors w said is = absurd is

pub no-nodes : (v : Version) (dates : ℕ) (vectors : List (List ℕ)) (d : Due) (w : Written) (said : Line) → Fits v dates vectors d said → NoNodes d w →
    NoNodes (next_due v d (line_item said)) (and_line w said)
no-nodes v dates vectors due.Title w (line.Title u) fits none = none
no-nodes v dates vectors due.Portfolio w (line.Portfolio None) fits none = none
no-nodes v dates vectors due.Portfolio w (line.Portfolio (Some count)) fits none = no_buys (and_line w (line.Portfolio (Some count))) count 0 (count == 0) none
no-nodes v dates vectors (due.Buy left least) w (line.Purchase buy) fits none = no_buys (and_line w (line.Purchase buy)) (left - 1) (buy.line + 1) (left - 1 == 0) none
no-nodes v dates vectors (due.Gap most) w (line.Gap cents) fits none = tree_none v (and_line w (line.Gap cents)) none
no-nodes v dates vectors due.VectorCount w (line.Vectors count) fits none = no_vectors w count (count == 0) none
no-nodes v dates vectors (due.Vector left) w (line.Vector prices) fits none = no_vectors (and_line w (line.Vector prices)) (left - 1) (left - 1 == 0) none
no-nodes v dates vectors due.Count w (line.Nodes count) fits none = nodes_may w count 1 (count == 0)
no-nodes v dates vectors (due.Node left trees) w said fits none = node_may v dates left trees vectors (and_line w said) said fits.2
no-nodes v dates vectors (due.End trees) w line.End fits none = tt
no-nodes v dates vectors d w said fits none = absurd fits

-- a line tells what it adds
abbrev nodes_by : ℕ → Written → List (List ℕ) → List Line → Certificate
nodes_by dates w vectors nodes = record { buys = w.buys; gap = w.gap; nodes = map (tree_of dates vectors) nodes }

one_node : (dates : ℕ) (w : Written) (said : Line) →
    ◌≡◌ {A = Certificate} (record { buys = w.buys; gap = w.gap; nodes = map (tree_of dates w.vectors) w.nodes ++ tree_of dates w.vectors said ∷ [] }) (nodes_by dates w w.vectors (w.nodes ++ said ∷ []))
one_node dates w said = ap (λ (ns : List TreeNode). record { buys = w.buys; gap = w.gap; nodes = ns }) (sym (map-append (tree_of dates w.vectors) w.nodes (said ∷ [])))

node_tells : (v : Version) (dates : ℕ) (w : Written) (said : Line) → IsNodeLine v dates w.vectors said → with_told (cert_of dates w) (line_told dates w.vectors said) ≡ cert_of dates (and_line w said)
node_tells v dates w (line.Split part at) is = one_node dates w (line.Split part at)
node_tells v dates w line.Point is = one_node dates w line.Point
node_tells v dates w (line.Closed how rho mu vector changes weights) is = one_node dates w (line.Closed how rho mu vector changes weights)
node_tells v dates w (line.Leaf leaf) is = one_node dates w (line.Leaf leaf)
node_tells v dates w said is = absurd is

pub line-tells : (v : Version) (dates : ℕ) (d : Due) (w : Written) (said : Line) → Fits v dates w.vectors d said → NoNodes d w →
    with_told (cert_of dates w) (line_told dates w.vectors said) ≡ cert_of dates (and_line w said)
line-tells v dates due.Title w (line.Title u) fits none = refl
line-tells v dates due.Portfolio w (line.Portfolio None) fits none = refl
line-tells v dates due.Portfolio w (line.Portfolio (Some count)) fits none = refl
line-tells v dates (due.Buy left least) w (line.Purchase buy) fits none = refl
line-tells v dates (due.Gap most) w (line.Gap cents) fits none = refl
line-tells v dates due.VectorCount w (line.Vectors count) fits none = refl
line-tells v dates (due.Vector left) w (line.Vector prices) fits none =
    ap (λ (ns : List Line). nodes_by dates w w.vectors ns) none ∙ ap (λ (ns : List Line). nodes_by dates w (w.vectors ++ prices ∷ []) ns) (sym none)
line-tells v dates due.Count w (line.Nodes count) fits none = refl
line-tells v dates (due.Node left trees) w said fits none = node_tells v dates w said fits.2
line-tells v dates (due.End trees) w line.End fits none = refl
line-tells v dates d w said fits none = absurd fits

pub told-cons : (v : Version) (dates : ℕ) (d : Due) (vectors : List (List ℕ)) (bytes : List ℕ) (parts : List (List ℕ)) → 0 < length parts →
    told_lines v dates d vectors (bytes ∷ parts)
    ≡ told_or (line_said v dates vectors d bytes) (λ said. line_told dates vectors said ∷ told_lines v dates (next_due v d (line_item said)) (vectors_with vectors said) parts)
told-cons v dates d vectors bytes [] some = absurd (omega arith)
told-cons v dates d vectors bytes (next ∷ parts) some = refl

lines_tell : (v : Version) (dates : ℕ) (lines : List Line) (d : Due) (w : Written) → IsFew v dates → Follows v dates d w.vectors lines → NoNodes d w →
    fold with_told (cert_of dates w) (told_lines v dates d w.vectors (lines_in (flat_map line_text lines))) ≡ cert_of dates (and_lines w lines)
lines_tell v dates [] d w few follows none = refl
lines_tell v dates (said ∷ lines) d w few follows none =
    let rest : List ℕ = flat_map line_text lines in
    let next : Due = next_due v d (line_item said) in
    let shown : IsShown v dates w.vectors d said = line-shows v dates w.vectors d said few follows.0 in
    let parts : lines_in (line_text said ++ rest) ≡ body said ∷ lines_in rest =
    ap (λ (bs : List ℕ). lines_in bs) (text_cons said rest) ∙ lines-cons (body said) rest shown.one in
    let P : List (List ℕ) → Type 0 = λ vs. Follows v dates next vs lines in
    let behind : Line → List Told = λ l. line_told dates w.vectors l ∷ told_lines v dates (next_due v d (line_item l)) (vectors_with w.vectors l) (lines_in rest) in
    ap (λ (ls : List (List ℕ)). fold with_told (cert_of dates w) (told_lines v dates d w.vectors ls)) parts
    ∙ ap (λ (ts : List Told). fold with_told (cert_of dates w) ts) (told-cons v dates d w.vectors (body said) (lines_in rest) (some-lines rest))
    ∙ ap (λ (r : Result Line FaultKind). fold with_told (cert_of dates w) (told_or r behind)) shown.said_is
    ∙ ap (λ (c : Certificate). fold with_told c (told_lines v dates next (vectors_with w.vectors said) (lines_in rest))) (line-tells v dates d w said follows.0 none)
    ∙ ap (λ (vs : List (List ℕ)). fold with_told (cert_of dates (and_line w said)) (told_lines v dates next vs (lines_in rest))) (with-vectors w said)
    ∙ lines_tell v dates lines next (and_line w said) few (subst P (with-vectors w said) follows.1) (no-nodes v dates w.vectors d w said follows.0 none)

told_of_version : (v : Version) (dates : ℕ) (bytes : List ℕ) → version_of (lines_in bytes) ≡ v → told_in dates bytes ≡ told_lines v dates due.Title [] (lines_in bytes)
unfolding told_in
told_of_version v dates bytes h = ap (λ (u : Version). told_lines u dates due.Title [] (lines_in bytes)) h

pub written-tells : (v : Version) (dates : ℕ) (w : Written) (bytes : List ℕ) → IsFew v dates → IsWrittenText v dates w bytes → certificate_told (told_in dates bytes) ≡ cert_of dates w
written-tells v dates w bytes few is =
    ap (λ (ts : List Told). certificate_told ts) (told_of_version v dates bytes (text-version v dates w bytes is))
    ∙ ap (λ (bs : List ℕ). certificate_told (told_lines v dates due.Title [] (lines_in bs))) is.text
    ∙ lines_tell v dates (written_lines v w) due.Title none_written few (lines-follow v dates w is.is) refl
    ∙ ap (λ (x : Written). cert_of dates x) (lines-fold v dates w is.is)

pub texts-say : TextsSayTheirCertificate
texts-say dates bytes cert is = written-tells version.One dates (whole_written cert) bytes tt (text-written dates cert bytes is) ∙ cert-written dates cert

pub lines-tell : LinesTellTheCertificate
lines-tell dates bytes cert short (inl is) = texts-say dates bytes cert is
lines-tell dates bytes cert short (inr is) =
    written-tells (version.Packed is.text.version) dates (packed_written is.text.version is.packed) bytes short (packed-text-written dates is.packed bytes is.text)
    ∙ cert-packed is.text.version dates is.packed ∙ is.same
