-- What may stand on a line of a certificate, after the lines before it. The order is this project's own.
use Rattle.std.specs.Prelude.{ℕ, ◌+◌, ◌-◌, ◌≤◌, Bool, true, false, ◌==◌, if◌then◌else◌, Some}
use Rattle.bound_certificate.specs.declared.due.Due.{Due}
use Rattle.bound_certificate.specs.declared.due.Due.TheVariants as due
use Rattle.bound_certificate.specs.declared.item.Item.{Item}
use Rattle.bound_certificate.specs.declared.item.Item.TheVariants as item
use Rattle.bound_certificate.specs.declared.limits.TheConstants.{GREATEST_GAP, MOST_NODES, MOST_PACKED_BUYS, MOST_VECTORS}
use Rattle.bound_certificate.specs.declared.version.Version.{Version}
use Rattle.bound_certificate.specs.declared.version.Version.TheVariants as version

-- so many `buy` lines, of which the next has a line from `least` on, or what follows them
abbrev pub buys_due : ℕ → ℕ → Due
buys_due left least = if left == 0 then due.Gap GREATEST_GAP else due.Buy left least

-- what follows the gap: the vectors, where the version has them, or the nodes
abbrev pub tree_due : Version → Due
tree_due version.One = due.Count
tree_due (version.Packed w) = due.VectorCount

-- so many vectors, or what follows them
abbrev pub vectors_due : ℕ → Due
vectors_due left = if left == 0 then due.Count else due.Vector left

-- so many nodes, with which so many trees are to come, or what follows them
abbrev pub nodes_due : ℕ → ℕ → Due
nodes_due left trees = if left == 0 then due.End trees else due.Node left trees

-- what may stand after a line that says this
abbrev pub next_due : Version → Due → Item → Due
next_due v due.Title said = due.Portfolio
next_due v due.Portfolio (item.Portfolio (Some count)) = buys_due count 0
next_due v due.Portfolio other = due.Gap 0
next_due v (due.Buy left least) (item.Buy buy) = buys_due (left - 1) (buy.line + 1)
next_due v (due.Gap most) said = tree_due v
next_due v due.VectorCount (item.Vectors count) = vectors_due count
next_due v (due.Vector left) said = vectors_due (left - 1)
next_due v due.Count (item.Nodes count) = nodes_due count 1
next_due v (due.Node left trees) (item.Split part at) = nodes_due (left - 1) (trees + 1)
next_due v (due.Node left trees) other = nodes_due (left - 1) (trees - 1)
next_due v d said = due.Nothing

-- nothing is due any more
abbrev pub is_over : Due → Bool
is_over due.Nothing = true
is_over _ = false

-- what is due is within the limits of a certificate
abbrev pub IsDue : Due → Type 0
IsDue (due.Buy left least) = (1 ≤ left) × (left ≤ MOST_PACKED_BUYS)
IsDue (due.Vector left) = (1 ≤ left) × (left ≤ MOST_VECTORS)
IsDue (due.Node left trees) = (1 ≤ left) × (left + trees ≤ MOST_NODES + 1)
IsDue other = Unit {0}

-- a line that is due says this
abbrev pub IsSaid : Due → Item → Type 0
IsSaid due.Portfolio (item.Portfolio (Some count)) = count ≤ MOST_PACKED_BUYS
IsSaid due.VectorCount (item.Vectors count) = count ≤ MOST_VECTORS
IsSaid due.Count (item.Nodes count) = count ≤ MOST_NODES
IsSaid (due.Node left trees) said = 1 ≤ trees
IsSaid d said = Unit {0}

-- how many lines a certificate may still have
abbrev pub lines_left : Due → ℕ
lines_left due.Title = 10_583
lines_left due.Portfolio = 10_582
lines_left (due.Buy left least) = 10_068 + left
lines_left (due.Gap most) = 10_068
lines_left due.VectorCount = 10_067
lines_left (due.Vector left) = 10_002 + left
lines_left due.Count = 10_002
lines_left (due.Node left trees) = 1 + left
lines_left (due.End trees) = 1
lines_left due.Nothing = 0
