use Rattle.std.proofs.Common.{List, ℕ, ◌≡◌, ◌+◌, ◌<◌, ◌≤◌, ◌∙◌, sym, subst, refl, rules, arith, ap, ◌∷◌, [], ◌++◌, length, length-append, append_assoc}
use Rattle.std.specs.Prelude.{ℤ, Err}
use Rattle.std.proofs.lemmas.Result.{err_from_is_err_and}
use Rattle.std.proofs.lemmas.List.Elements.{All-nil}
use Rattle.river_base.specs.Held.{HaveWidth}
use Rattle.csv.specs.Records.{fields_of}
use Rattle.csv_streams.specs.Rows.{row_in, rows_of_records, rows_of_file, headers, Appends, IsFaultTold}
use Rattle.csv_streams.proofs.Records.{behind-first}
use Rattle.csv_streams.proofs.RowsIn.{told, rows-none, rows-header, rows-push, rows-fault, row_within, fault_passes}
use Rattle.csv_streams.proofs.rows.add_records.Goals as goal

pub read_record-requires : goal.read_record-requires
read_record-requires c = let first = c.requires.first in let read = c.loop-rec.invariant.read first.0 first.1 in (first.0, read.0, read.1)

pub loop-rec-init : goal.loop-rec-init
loop-rec-init c = record {
  header = c.headers-header.ensures;
  last = ap (λ (n : ℕ). n + 100000) c.headers-header.ensures;
  few = omega arith;
  wide = subst (HaveWidth c.args.width) (sym c.requires.none) (All-nil (λ row. length row ≡ c.args.width));
  read = λ bytes h. ([], h, rows-none c.args.width c.args.skip_first c.args.more ∙ ap (λ (l : List (List ℤ)). told l) (sym c.requires.none), refl);
}

-- a row
pub loop-rec-preserved-in-Continue-branch-2 : goal.loop-rec-preserved-in-Continue-branch-2
loop-rec-preserved-in-Continue-branch-2 c =
    let inv = c.loop-rec.invariant in
    let fields = fields_of c.read_record.new.raw in
    let one : Appends (row_in c.args.width c.args.more (c.headers-header.result + 100000) (c.loop-rec.rec + 1) fields) c.loop-rec.rows
    c.add_row.new.rows = c.in_ok-add_row.ensures.ok in
    let past : c.headers-header.result < c.loop-rec.rec + 1 = c.if-rec-header.true in
    record {
      header = inv.header;
      last = inv.last;
      few = row_within c.args.width c.args.more (c.headers-header.result + 100000) (c.loop-rec.rec + 1) fields one.row one.is;
      wide = c.in_ok-add_row.ensures.wide;
      read = λ bytes h.
          let (recs, behind, so_far, count) = inv.read bytes h in
          let next = (rw c.if-branch.true at c.in_ok-read_record.ensures.ok) bytes recs behind in
          let le : headers c.args.skip_first ≤ length recs = omega (arith, past, count, inv.header) in (
            recs ++ fields ∷ [],
            next,
            rows-push c.args.width c.args.skip_first c.args.more recs fields c.loop-rec.rows one.row le so_far (rw (sym inv.last, count) one.is)
                ∙ ap (λ (l : List (List ℤ)). told l) (sym one.grown),
            omega (arith, length-append recs (fields ∷ []), count),
          );
    }

-- a header
pub loop-rec-preserved : goal.loop-rec-preserved
loop-rec-preserved c =
    let inv = c.loop-rec.invariant in
    let fields = fields_of c.read_record.new.raw in
    let header : c.loop-rec.rec + 1 ≤ c.headers-header.result = c.if-rec-header.false in
    record {
      header = inv.header;
      last = inv.last;
      few = omega (arith, header);
      wide = inv.wide;
      read = λ bytes h.
          let (recs, behind, so_far, count) = inv.read bytes h in
          let next = (rw c.if-branch.true at c.in_ok-read_record.ensures.ok) bytes recs behind in
          let le : length recs + 1 ≤ headers c.args.skip_first = omega (arith, header, count, inv.header) in (
            recs ++ fields ∷ [],
            next,
            rows-header c.args.width c.args.skip_first c.args.more recs fields le ∙ so_far,
            omega (arith, length-append recs (fields ∷ []), count),
          );
    }

pub returns-in_err-add_row-clause-fault : goal.returns-in_err-add_row-clause-fault
returns-in_err-add_row-clause-fault c =
    let inv = c.loop-rec.invariant in
    let fields = fields_of c.read_record.new.raw in
    let f = c.in_err-add_row.field-0.0 in
    let one = row_in c.args.width c.args.more (c.headers-header.result + 100000) (c.loop-rec.rec + 1) fields in
    let past : c.headers-header.result < c.loop-rec.rec + 1 = c.if-rec-header.true in
    let is_told : IsFaultTold one f = search rules in
    let p = err_from_is_err_and c.from_residual-in_err-add_row.result c.from_residual-in_err-add_row.ensures.1 in
    rw (p.1, p.2) (λ bytes h.
    let (recs, behind, so_far, count) = inv.read bytes h in
    let next = (rw c.if-branch.true at c.in_ok-read_record.ensures.ok) bytes recs behind in
    let all = behind-first bytes (recs ++ fields ∷ []) c.read_record.new.rdr next in
    let le : headers c.args.skip_first ≤ length recs = omega (arith, past, count, inv.header) in
    let faulty : one ≡ Err f → rows_of_file bytes c.args.width c.args.skip_first c.args.more ≡ Err f = λ is.
    ap (rows_of_records c.args.width c.args.skip_first c.args.more) (all.1 ∙ append_assoc recs (fields ∷ []) all.0)
    ∙ rows-fault c.args.width c.args.skip_first c.args.more recs fields all.0 c.loop-rec.rows f le so_far (rw (sym inv.last, count) is) in
    fault_passes one (rows_of_file bytes c.args.width c.args.skip_first c.args.more) f is_told faulty)

pub returns-clause-ok : goal.returns-clause-ok
returns-clause-ok c = λ bytes h.
    let (recs, behind, so_far, count) = c.loop-rec.invariant.read bytes h in
    let all = (rw c.if-branch.false at c.in_ok-read_record.ensures.ok) bytes recs behind in
    ap (rows_of_records c.args.width c.args.skip_first c.args.more) all ∙ so_far
