use Rattle.std.proofs.Common.{subst, sym, ◌+◌}
use Rattle.fire_tasks.proofs.PassLemmas.{SentTo, to_moved, to_still, may_still}
use Rattle.fire_tasks.proofs.passing.send_all.Goals.{then-branch, else-branch}
use Rattle.fire_tasks.proofs.passing.send_all.Goals as goal

pub send_port-requires-clause-may : goal.send_port-requires-clause-may
send_port-requires-clause-may c =
    let s = c.loop-port.invariant.sent in
    may_still c.args.outs.now c.args.pending.now c.loop-port.outs c.loop-port.pending s.ends s.given c.requires.may

pub loop-port-preserved : goal.loop-port-preserved
loop-port-preserved c = elim c.if-branch.branch [
  | then-branch w ↦ subst (SentTo (c.loop-port.port + 1) c.args.outs.now c.args.pending.now c.send_port.new.outs c.send_port.new.pending) (sym w.moved-is)
      (to_moved c.loop-port.port c.args.outs.now c.args.pending.now c.loop-port.outs c.loop-port.pending c.send_port.new.outs c.send_port.new.pending
      c.loop-port.moved c.in_ok-send_port.field-0 c.loop-port.invariant c.in_ok-send_port.ensures w.if-branch.true)
  | else-branch w ↦ subst (SentTo (c.loop-port.port + 1) c.args.outs.now c.args.pending.now c.send_port.new.outs c.send_port.new.pending) (sym w.moved-is)
      (to_still c.loop-port.port c.args.outs.now c.args.pending.now c.loop-port.outs c.loop-port.pending c.send_port.new.outs c.send_port.new.pending
      c.loop-port.moved c.in_ok-send_port.field-0 c.loop-port.invariant c.in_ok-send_port.ensures w.if-branch.false)
]
