use Rattle.std.proofs.Common.{ℕ, ◌<◌}
use Rattle.brooklet_step.specs.Drained.{Follows, IsDrained}
use Rattle.brooklet_run.proofs.run.run_op.Given as goal

abbrev pub invariant-loop-port : goal.invariant-loop-port
invariant-loop-port l = record {
  follows : Follows l.initial.machine l.machine l.op;
  drained : (port : ℕ) → port < l.port → IsDrained l.machine l.op port;
}
