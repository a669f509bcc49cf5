use Rattle.std.proofs.Common.{Bor, List, ℕ, ◌≡◌, ◌∙◌, sym, refl, inl, inr, rules, length, Some, []}
use Rattle.csv.specs.Reading.{Reached, default_config, strip_bom}
use Rattle.csv.specs.Records.{fields_of}
use Rattle.csv.specs.declared.parser.State.TheVariants as st
use Rattle.csv.proofs.ReadFacts.{rows-end, rows-more}
use Rattle.escrow_desk.specs.Buffer.{rows_in}
use Rattle.escrow_desk.proofs.RecordFacts.{fewer_reads, records-are, records-none, records-small, small-none}
use Rattle.escrow_desk.proofs.rows.read_rows.Goals as goal

pub rows-init : goal.rows-init
unfolding Reached
rows-init c =
    let fr = c.from_reader-reader.ensures in
    let loose = c.flexible.ensures in
    let same = c.in-Ok.ensures.same in
    rw same (record {
      plain = rw loose at fr.trim ∙ c.new-2.ensures.trim;
      ready = inr (inl (rw loose at fr.has_headers ∙ c.new-2.ensures.has_headers, c.in-Ok.ensures.set));
      config = rw loose at fr.config ∙ c.new-2.ensures.config;
      kept = c.new-buffer.ensures.kept;
      rest = strip_bom c.args.bytes.now;
      source = fr.source;
      reached = rw c.new-buffer.ensures.rows (sym fr.state, refl);
    })

pub rows-smaller : goal.rows-smaller
unfolding Reached
rows-smaller c =
    let inv = c.rows.invariant in
    let read = rw c.in-Ok-true.field-0-test at (c.in-Ok-true.ensures.reads inv.plain inv.ready) in
    let m = rows-more (λ (s : Bor (List ℕ)). Some s.now) c.rows.reader c.read_byte_record.new.self (fields_of c.read_byte_record.new.row) default_config c.rows.reader.state inv.rest inv.rest [] inv.config inv.source (refl, refl) read in
    let fewer = fewer_reads default_config c.rows.reader.state inv.rest m.2.0 m.2.1 in
    rw (inv.source, m.1) (rw (m.2.3.0, m.2.3.1) at fewer)

pub rows-preserved : goal.rows-preserved
rows-preserved c =
    let inv = c.rows.invariant in
    let read = rw c.in-Ok-true.field-0-test at (c.in-Ok-true.ensures.reads inv.plain inv.ready) in
    let m = rows-more (λ (s : Bor (List ℕ)). Some s.now) c.rows.reader c.read_byte_record.new.self (fields_of c.read_byte_record.new.row) default_config st.StartRecord (strip_bom c.args.bytes.now) inv.rest (rows_in c.rows.buffer) inv.config inv.source inv.reached read in
    record {
      plain = read.3 ∙ inv.plain;
      ready = inl (c.in-Ok-true.ensures.ready inv.plain);
      config = read.2 ∙ inv.config;
      kept = c.in_ok-push-in-Ok-true.ensures.kept;
      rest = m.0;
      source = m.1;
      reached = rw c.in_ok-push-in-Ok-true.ensures.rows m.2;
    }

pub invariant_of-result-in-Ok-false : goal.invariant_of-result-in-Ok-false
invariant_of-result-in-Ok-false c =
    let inv = c.rows.invariant in
    let read = rw c.in-Ok-false.field-0-test at (c.in-Ok-false.ensures.reads inv.plain inv.ready) in
    let e = records-are _ _ (c.rows.reader.state, inv.rest, inv.reached, rows-end (λ (s : Bor (List ℕ)). Some s.now) c.rows.reader c.read_byte_record.new.self (fields_of c.read_byte_record.new.row) default_config inv.rest inv.config inv.source read) in
    (inv.kept, rw e at (records-small c.args.bytes.now c.requires))

pub returns-in-Ok-false : goal.returns-in-Ok-false
returns-in-Ok-false c =
    let inv = c.rows.invariant in
    let read = rw c.in-Ok-false.field-0-test at (c.in-Ok-false.ensures.reads inv.plain inv.ready) in
    sym (records-are _ _ (c.rows.reader.state, inv.rest, inv.reached, rows-end (λ (s : Bor (List ℕ)). Some s.now) c.rows.reader c.read_byte_record.new.self (fields_of c.read_byte_record.new.row) default_config inv.rest inv.config inv.source read))

pub invariant_of-result : goal.invariant_of-result
invariant_of-result c = (c.new.ensures.kept, rw c.new.ensures.rows small-none)

pub returns-then-is_empty : goal.returns-then-is_empty
returns-then-is_empty c =
    let none : length c.args.bytes.now ≡ 0 = search rules in
    c.new.ensures.rows ∙ sym (records-none c.args.bytes.now none)
