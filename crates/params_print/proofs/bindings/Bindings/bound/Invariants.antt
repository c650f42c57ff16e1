use Rattle.std.proofs.Common.{◌≡◌, ◌≤◌, length, drop}
use Rattle.params_model.specs.Environment.{bound}
use Rattle.params_print.proofs.bindings.Bindings.bound.Given as goal

abbrev pub invariant-loop-i : goal.invariant-loop-i
invariant-loop-i l = record {
  named : l.i ≤ length l.params;
  valued : l.i ≤ length l.values;
  same : l.all ≡ bound (drop l.i l.params) (drop l.i l.values);
}

abbrev pub decreases-loop-i : goal.decreases-loop-i
decreases-loop-i l = l.i
