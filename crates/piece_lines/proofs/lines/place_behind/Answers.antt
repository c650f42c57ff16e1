use Rattle.std.proofs.Common.{arith, inr, ◌≤◌, length}
use Rattle.piece_lines.proofs.Counted.{counted-first, counted-next, counted-behind, counted-before}
use Rattle.piece_lines.proofs.lines.place_behind.Goals as goal

pub loop-left-init : goal.loop-left-init
loop-left-init c = counted-first c.args.text.now c.args.from c.args.lines c.requires

pub loop-left-preserved : goal.loop-left-preserved
loop-left-preserved c =
    counted-next c.args.text.now c.args.from c.args.lines c.loop-left.place c.loop-left.left _ c.after-left.result c.loop-left-test.true
    c.if-place-text.true c.after-left.ensures c.loop-left.invariant

pub returns-else-place-text-clause-behind : goal.returns-else-place-text-clause-behind
returns-else-place-text-clause-behind c =
    let end = c.if-place-text.false in
    let none : length c.args.text.now ≤ c.loop-left.place = omega (arith, end) in
    counted-behind c.args.text.now c.args.from c.args.lines c.loop-left.place c.loop-left.left (inr none) c.loop-left.invariant

pub returns-else-place-text-clause-before : goal.returns-else-place-text-clause-before
returns-else-place-text-clause-before c =
    let end = c.if-place-text.false in
    let none : length c.args.text.now ≤ c.loop-left.place = omega (arith, end) in
    counted-before c.args.text.now c.args.from c.args.lines c.loop-left.place c.loop-left.left (inr none) c.loop-left.invariant
