use Rattle.std.proofs.Common.{◌≡◌, drop}
use Rattle.river_plan.specs.Forms.{op_forms}
use Rattle.stream_periods.specs.Walk.{walk}
use Rattle.rate_code.specs.declared.cause.NoRate.{NoRate}
use Rattle.rate_code.specs.Cause.{StopsAt}
use Rattle.rate_code.specs.Entries.{queues_of}
use Rattle.rate_code.proofs.walk.walk_ops.Given as goal

abbrev pub invariant-loop-op : goal.invariant-loop-op
invariant-loop-op l = record {
  walked : walk (op_forms (drop l.op-index l.ops)) (queues_of l.entries) ≡ walk (op_forms l.ops) (queues_of l.fn.entries);
  stops : (e : NoRate) → StopsAt (op_forms (drop l.op-index l.ops)) (queues_of l.entries) e → StopsAt (op_forms l.ops) (queues_of l.fn.entries) e;
}
