-- What a line may say where something is due, and what is due behind it, as a reader's caller sees it.
use Rattle.std.specs.Prelude.{ℕ, ◌≤◌}
use Rattle.proof_tree.specs.Tree.{IsLeaf}
use Rattle.proof_tree.specs.declared.tree.Leaf.{Leaf}
use Rattle.bound_certificate.specs.declared.due.Due.{Due}
use Rattle.bound_certificate.specs.declared.due.Due.TheVariants as due
use Rattle.bound_certificate.specs.declared.item.Item.{Item}
use Rattle.bound_certificate.specs.declared.item.Item.TheVariants as item
use Rattle.bound_certificate.specs.declared.limits.TheConstants.{GREATEST_GAP}
use Rattle.bound_certificate.specs.declared.version.Version.TheVariants as version
use Rattle.bound_certificate.specs.Due.{next_due}

-- what a line says is due, and the leaf of a leaf's line has a price for each of so many dates
abbrev pub IsSuited : ℕ → Due → Item → Leaf → Type 0
IsSuited dates d item.Nothing leaf = Unit {0}
IsSuited dates due.Title item.Header leaf = Unit {0}
IsSuited dates due.Portfolio (item.Portfolio count) leaf = Unit {0}
IsSuited dates (due.Buy left least) (item.Buy buy) leaf = Unit {0}
IsSuited dates (due.Gap most) (item.Gap cents) leaf = cents ≤ GREATEST_GAP
IsSuited dates due.Count (item.Vectors count) leaf = Unit {0}
IsSuited dates due.Count item.Vector leaf = Unit {0}
IsSuited dates due.Count (item.Nodes nodes) leaf = Unit {0}
IsSuited dates (due.Node left trees) (item.Split part at) leaf = Unit {0}
IsSuited dates (due.Node left trees) item.Point leaf = Unit {0}
IsSuited dates (due.Node left trees) item.Leaf leaf = IsLeaf dates leaf
IsSuited dates (due.End trees) item.End leaf = Unit {0}
IsSuited dates d other leaf = ⊥

-- what is due behind it; within a line the same is due, and vectors stand before the count of nodes as a part of it
abbrev pub due_after : Due → Item → Due
due_after d item.Nothing = d
due_after d (item.Vectors count) = d
due_after d item.Vector = d
due_after d told = next_due version.One d told
