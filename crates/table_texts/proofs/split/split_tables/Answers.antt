use Rattle.std.proofs.Common.{arith}
use Rattle.std.proofs.lemmas.Result.{err_from_is_err_and}
use Rattle.table_texts.proofs.Splits.{split-last, split-none, split-over}
use Rattle.table_texts.proofs.split.split_tables.Goals as goal

pub returns-then-place-out-clause-split : goal.returns-then-place-out-clause-split
returns-then-place-out-clause-split c =
    let end = c.loop-i-test.false in
    split-last c.args.tables.now c.args.out.now c.loop-i.i c.loop-i.place c.loop-i.sections (omega (arith, end)) c.if-place-out.true
    c.loop-i.invariant.front

pub returns-else-place-out-clause-none : goal.returns-else-place-out-clause-none
returns-else-place-out-clause-none c =
    let end = c.loop-i-test.false in
    split-over c.args.tables.now c.args.out.now c.loop-i.i c.loop-i.place c.loop-i.sections (omega (arith, end)) c.if-place-out.false
    c.loop-i.invariant.front

pub returns-in_err-place-clause-none : goal.returns-in_err-place-clause-none
returns-in_err-place-clause-none c =
    let p = err_from_is_err_and c.from_residual.result c.from_residual.ensures.1 in
    rw (p.1, p.2) (split-none c.args.tables.now c.args.out.now c.loop-i.i c.loop-i.place c.index-tables-i.result c.loop-i.sections c.in_err-place.field-0.0
    c.loop-i-test.true c.loop-i.invariant.front (rw c.as_slice.ensures.bytes at c.in_err-place.ensures.none))
