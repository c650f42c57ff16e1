use Rattle.std.proofs.Common.{List, ℕ, ◌≡◌, ◌+◌, ◌<◌, ◌≤◌, ◌∙◌, sym, refl, rules, arith, ap, ◌∷◌, [], ◌++◌, length, length-append, append_assoc}
use Rattle.std.specs.Prelude.{pos, Err}
use Rattle.std.proofs.lemmas.Result.{err_from_is_err_and}
use Rattle.csv.specs.Records.{fields_of}
use Rattle.csv_streams.specs.Rows.{headers, Appends, IsFaultTold}
use Rattle.csv_streams.specs.Timed.{Entry, timed_in, timed_rows_in, timed_of, stamp_after}
use Rattle.csv_streams.proofs.Records.{behind-first}
use Rattle.csv_streams.proofs.RowsIn.{fault_passes}
use Rattle.csv_streams.proofs.TimedIn.{all_told, timed-none, timed-header, timed-push, timed-fault, timed_within}
use Rattle.csv_streams.proofs.timed.add_timed_records.Goals as goal

pub read_record-requires : goal.read_record-requires
read_record-requires c = let first = c.requires.first in let read = c.loop-rec.invariant.read first.0 first.1 in (first.0, read.0, read.1)

pub loop-rec-init : goal.loop-rec-init
loop-rec-init c = record {
  header = c.headers-header.ensures;
  last = ap (λ (n : ℕ). n + 100000) c.headers-header.ensures;
  few = omega arith;
  read = λ bytes h. ([], h, timed-none c.args.width c.args.skip_first ∙ ap (λ (l : List Entry). all_told l) (sym c.requires.none), refl);
}

-- a row
pub loop-rec-preserved-in-Continue-branch-2 : goal.loop-rec-preserved-in-Continue-branch-2
loop-rec-preserved-in-Continue-branch-2 c =
    let inv = c.loop-rec.invariant in
    let fields = fields_of c.read_record.new.raw in
    let one : Appends (timed_in c.args.width (c.headers-header.result + 100000) (stamp_after (pos 0) c.loop-rec.rows) (c.loop-rec.rec + 1) fields)
    c.loop-rec.rows c.add_timed_row.new.rows = search rules in
    let past : c.headers-header.result < c.loop-rec.rec + 1 = c.if-rec-header.true in
    record {
      header = inv.header;
      last = inv.last;
      few = timed_within c.args.width (c.headers-header.result + 100000) (stamp_after (pos 0) c.loop-rec.rows) (c.loop-rec.rec + 1) fields one.row one.is;
      read = λ bytes h.
          let (recs, behind, so_far, count) = inv.read bytes h in
          let next = (rw c.if-branch.true at c.in_ok-read_record.ensures.ok) bytes recs behind in
          let le : headers c.args.skip_first ≤ length recs = omega (arith, past, count, inv.header) in (
            recs ++ fields ∷ [],
            next,
            timed-push c.args.width c.args.skip_first recs fields c.loop-rec.rows one.row le so_far (rw (sym inv.last, count) one.is)
                ∙ ap (λ (l : List Entry). all_told l) (sym one.grown),
            omega (arith, length-append recs (fields ∷ []), count),
          );
    }

-- a header
pub loop-rec-preserved : goal.loop-rec-preserved
loop-rec-preserved c =
    let inv = c.loop-rec.invariant in
    let fields = fields_of c.read_record.new.raw in
    let header : c.loop-rec.rec + 1 ≤ c.headers-header.result = c.if-rec-header.false in
    record {
      header = inv.header;
      last = inv.last;
      few = omega (arith, header);
      read = λ bytes h.
          let (recs, behind, so_far, count) = inv.read bytes h in
          let next = (rw c.if-branch.true at c.in_ok-read_record.ensures.ok) bytes recs behind in
          let le : length recs + 1 ≤ headers c.args.skip_first = omega (arith, header, count, inv.header) in (
            recs ++ fields ∷ [],
            next,
            timed-header c.args.width c.args.skip_first recs fields le ∙ so_far,
            omega (arith, length-append recs (fields ∷ []), count),
          );
    }

pub returns-in_err-add_timed_row-clause-fault : goal.returns-in_err-add_timed_row-clause-fault
returns-in_err-add_timed_row-clause-fault c =
    let inv = c.loop-rec.invariant in
    let fields = fields_of c.read_record.new.raw in
    let f = c.in_err-add_timed_row.field-0.0 in
    let one = timed_in c.args.width (c.headers-header.result + 100000) (stamp_after (pos 0) c.loop-rec.rows) (c.loop-rec.rec + 1) fields in
    let past : c.headers-header.result < c.loop-rec.rec + 1 = c.if-rec-header.true in
    let is_told : IsFaultTold one f = search rules in
    let p = err_from_is_err_and c.from_residual-in_err-add_timed_row.result c.from_residual-in_err-add_timed_row.ensures.1 in
    rw (p.1, p.2) (λ bytes h.
    let (recs, behind, so_far, count) = inv.read bytes h in
    let next = (rw c.if-branch.true at c.in_ok-read_record.ensures.ok) bytes recs behind in
    let all = behind-first bytes (recs ++ fields ∷ []) c.read_record.new.rdr next in
    let le : headers c.args.skip_first ≤ length recs = omega (arith, past, count, inv.header) in
    let faulty : one ≡ Err f → timed_of bytes c.args.width c.args.skip_first ≡ Err f = λ is.
    ap (timed_rows_in c.args.width c.args.skip_first) (all.1 ∙ append_assoc recs (fields ∷ []) all.0)
    ∙ timed-fault c.args.width c.args.skip_first recs fields all.0 c.loop-rec.rows f le so_far (rw (sym inv.last, count) is) in
    fault_passes one (timed_of bytes c.args.width c.args.skip_first) f is_told faulty)

pub returns-clause-ok : goal.returns-clause-ok
returns-clause-ok c = λ bytes h.
    let (recs, behind, so_far, count) = c.loop-rec.invariant.read bytes h in
    let all = (rw c.if-branch.false at c.in_ok-read_record.ensures.ok) bytes recs behind in
    ap (timed_rows_in c.args.width c.args.skip_first) all ∙ so_far
