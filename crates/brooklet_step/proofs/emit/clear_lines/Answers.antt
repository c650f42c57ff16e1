use Rattle.std.proofs.Common.{arith}
use Rattle.brooklet_step.proofs.Moving.{emptied, emptied_next, emptied_all}
use Rattle.brooklet_step.proofs.emit.clear_lines.Goals as goal

pub loop-place-init : goal.loop-place-init
loop-place-init c = emptied c.args.lines.now

pub clear_line-requires : goal.clear_line-requires
clear_line-requires c = let m = c.loop-place.invariant.left.many in omega (arith, m)

pub loop-place-preserved : goal.loop-place-preserved
loop-place-preserved c =
    emptied_next c.loop-place.place c.args.lines.now c.loop-place.lines c.clear_line.new.lines c.loop-place.invariant (omega arith) c.clear_line.ensures

pub returns : goal.returns
returns c = emptied_all c.loop-place.place c.args.lines.now c.loop-place.lines c.loop-place.invariant (omega arith)
