use Rattle.std.proofs.Common.{◌≡◌, ◌∙◌, ℕ, Result, ap, arith, codes, sym, nat_lt, true, false, ◌≤◌, None, Bool, Ok, Err, if◌then◌else◌}
use Rattle.bound_certificate.specs.declared.due.Due.{Due}
use Rattle.bound_certificate.specs.declared.due.Due.TheVariants as due
use Rattle.bound_certificate.specs.declared.fault.FaultKind.{FaultKind}
use Rattle.bound_certificate.specs.declared.fault.FaultKind.TheVariants as kind
use Rattle.bound_certificate.specs.declared.line.Line.{Line}
use Rattle.bound_certificate.specs.declared.line.Line.TheVariants as line_of
use Rattle.bound_certificate.specs.declared.row.Row.{Row}
use Rattle.bound_certificate.specs.declared.row.Row.TheVariants as row
use Rattle.bound_certificate.specs.Grammar.{line_said, most_buys, node_said}
use Rattle.bound_certificate.proofs.LongFacts.{long-node, long-other, long-title}
use Rattle.bound_certificate.proofs.long_line.long_fault.Goals as goal
use Rattle.bound_certificate.proofs.long_line.long_fault.Goals.{in-End-2, in-Portfolio, in-Buy, in-Gap, in-VectorCount, in-Vector, in-Count}

pub returns-in-Title : goal.returns-in-Title
returns-in-Title c vectors line is =
    ap (λ (d : Due). line_said c.args.version c.args.dates vectors d line) c.in-Title.is ∙ long-title c.args.version c.args.dates vectors c.args.head.now line c.args.seen is

pub returns-in-Node : goal.returns-in-Node
returns-in-Node c vectors line is =
    ap (λ (d : Due). line_said c.args.version c.args.dates vectors d line) c.in-Node.is
    ∙ ap (λ (r : Row). node_said c.args.dates vectors r (nat_lt 0 c.in-Node.trees) line) (long-node c.args.version c.args.head.now line c.args.seen is ∙ sym c.node_row.ensures)
    ∙ c.long_row_fault.ensures vectors line is

-- no tree is still to come
closed_by : (trees others : ℕ) → trees ≤ 0 → due.End trees ≡ due.End others → nat_lt 0 others ≡ false
closed_by trees others none same = let equal : trees ≡ others = cc in grind (arith, none, equal)

pub returns : goal.returns
returns c vectors line is =
    let said : Due → Result Line FaultKind = λ d. line_said c.args.version c.args.dates vectors d line in
    let by_row : (r : Row) → c.match-due.row ≡ r → node_said c.args.dates vectors r true line ≡ Err c.long_row_fault-2.result = (λ r same.
    ap (λ (s : Row). node_said c.args.dates vectors s true line) (sym same) ∙ c.long_row_fault-2.ensures vectors line is) in
    elim c.match-due.branch [
      | in-End-2 w ↦
          let closed : nat_lt 0 w.in-End-2.trees ≡ false = closed_by w.in-End.trees w.in-End-2.trees w.if-trees-gt0.false (sym w.in-End.is ∙ w.in-End-2.is) in
          ap said w.in-End-2.is
          ∙ ap (λ (b : Bool). if b then Err kind.Count else node_said c.args.dates vectors row.End true line) closed ∙ by_row row.End w.row-is
      | in-Portfolio w ↦
          ap said w.in-Portfolio.is
          ∙ ap (λ (b : Bool). if b then Ok (line_of.Portfolio None) else node_said c.args.dates vectors (row.Portfolio (most_buys c.args.version)) true line)
          (long-other (codes "portfolio none") c.args.head.now line c.args.seen is (omega arith))
          ∙ by_row (row.Portfolio (most_buys c.args.version)) (w.row-is ∙ ap (λ (most : ℕ). row.Portfolio most) w.most_buys.ensures)
      | in-Buy w ↦ ap said w.in-Buy.is ∙ by_row (row.Buy w.in-Buy.least) w.row-is
      | in-Gap w ↦ ap said w.in-Gap.is ∙ by_row (row.Gap w.in-Gap.most) w.row-is
      | in-VectorCount w ↦ ap said w.in-VectorCount.is ∙ by_row row.Vectors w.row-is
      | in-Vector w ↦ ap said w.in-Vector.is ∙ by_row row.Vector w.row-is
      | in-Count w ↦ ap said w.in-Count.is ∙ by_row row.Nodes w.row-is
    ]
