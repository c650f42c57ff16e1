use Rattle.std.proofs.Common.{arith}
use Rattle.brooklet_step.proofs.RunLemmas.{follows_more, drained_next}
use Rattle.brooklet_run.proofs.run.run_op.Goals as goal

pub loop-port-preserved : goal.loop-port-preserved
loop-port-preserved c = record {
  follows = follows_more c.args.machine.now c.loop-port.machine c.run_port.new.machine c.args.op c.loop-port.invariant.follows c.in_ok-run_port.ensures.follows;
  drained =
      drained_next c.args.machine.now c.loop-port.machine c.run_port.new.machine c.args.op c.loop-port.port c.requires.ran c.loop-port.invariant.follows
      c.in_ok-run_port.ensures.follows c.loop-port.invariant.drained c.in_ok-run_port.ensures.drained;
}

pub returns-clause-drained : goal.returns-clause-drained
returns-clause-drained c = λ port lt. c.loop-port.invariant.drained port (let f = c.loop-port-test.false in omega (arith, lt, f))
