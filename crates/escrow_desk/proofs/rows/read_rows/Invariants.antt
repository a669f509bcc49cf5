use Rattle.std.proofs.Common.{◌≡◌, ℕ, List, Some}
use Rattle.csv.specs.Reading.{Reached, Ready, default_config, source_of, strip_bom}
use Rattle.csv.specs.declared.parser.State.TheVariants as st
use Rattle.csv.specs.declared.reader.Trim.TheVariants as trim
use Rattle.escrow_desk.specs.Buffer.{IsRowBuffer, rows_in}
use Rattle.escrow_desk.proofs.RecordFacts.{reads_left}
use Rattle.escrow_desk.proofs.rows.read_rows.Given as goal

abbrev pub invariant-rows : goal.invariant-rows
invariant-rows l = record {
  plain : l.reader.trim ≡ trim.None;
  ready : Ready l.reader;
  config : l.reader.config ≡ default_config;
  kept : IsRowBuffer l.buffer;
  rest : List ℕ;
  source : source_of (λ s. Some s.now) l.reader ≡ Some rest;
  reached : Reached default_config st.StartRecord (strip_bom l.bytes) (rows_in l.buffer) l.reader.state rest;
}

abbrev pub decreases-rows : goal.decreases-rows
decreases-rows l = reads_left l.reader.state (source_of (λ s. Some s.now) l.reader)
