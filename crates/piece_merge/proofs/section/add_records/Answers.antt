use Rattle.std.proofs.Common.{◌∙◌, ℕ, List, length, refl, sym, ap, arith}
use Rattle.std.proofs.lemmas.Result.{err_from_is_err_and}
use Rattle.csv.specs.Records.{fields_of}
use Rattle.csv_streams.specs.Records.{csv_records}
use Rattle.kern_tables.specs.Tables.{table_width}
use Rattle.piece_merge.proofs.Sections.{read-none, read-more, read-all, read-last, read-fault}
use Rattle.piece_merge.proofs.section.add_records.Goals as goal

pub read_record-requires : goal.read_record-requires
read_record-requires c = let f = c.loop-n.invariant.front in (c.args.section.now, f.recs, f.behind)

pub add_record-requires-clause-width : goal.add_record-requires-clause-width
add_record-requires-clause-width c = c.requires.width ∙ ap table_width (sym c.loop-n.invariant.kind)

pub loop-n-init : goal.loop-n-init
loop-n-init c = record { kind = refl; front = read-none c.args.section.now c.args.rdr.now c.args.table.now c.requires.first }

pub loop-n-preserved : goal.loop-n-preserved
loop-n-preserved c =
    let f = c.loop-n.invariant.front in
    record {
      kind = c.in_ok-add_record.ensures.kind ∙ c.loop-n.invariant.kind;
      front =
          read-more c.args.section.now c.loop-n._n c.loop-n.rdr c.read_record.new.rdr c.args.table.now c.loop-n.table c.add_record.new.table
          (fields_of c.read_record.new.raw) f ((rw c.if-not-branch.false at c.in_ok-read_record.ensures) c.args.section.now f.recs f.behind)
          c.in_ok-add_record.ensures.ok;
    }

pub returns-in_err-add_record-clause-none : goal.returns-in_err-add_record-clause-none
returns-in_err-add_record-clause-none c =
    let f = c.loop-n.invariant.front in
    let p = err_from_is_err_and c.from_residual-in_err-add_record.result c.from_residual-in_err-add_record.ensures.1 in
    rw (p.1, p.2) (read-fault c.args.section.now c.loop-n._n c.loop-n.rdr c.read_record.new.rdr c.args.table.now c.loop-n.table
    (fields_of c.read_record.new.raw) c.in_err-add_record.field-0.0 f
    ((rw c.if-not-branch.false at c.in_ok-read_record.ensures) c.args.section.now f.recs f.behind) c.in_err-add_record.ensures.none)

pub returns-then-not-branch-clause-ok : goal.returns-then-not-branch-clause-ok
returns-then-not-branch-clause-ok c =
    let f = c.loop-n.invariant.front in
    read-all c.args.section.now c.loop-n._n c.loop-n.rdr c.args.table.now c.loop-n.table f
    ((rw c.if-not-branch.true at c.in_ok-read_record.ensures) c.args.section.now f.recs f.behind)

pub returns-clause-ok : goal.returns-clause-ok
returns-clause-ok c =
    let all = c.records_in-n-end.ensures ∙ ap (λ (bytes : List ℕ). length (csv_records bytes)) c.as_slice.ensures in
    let end = c.loop-n-test.false in
    read-last c.args.section.now c.loop-n._n c.loop-n.rdr c.args.table.now c.loop-n.table c.loop-n.invariant.front (omega (arith, all, end))
