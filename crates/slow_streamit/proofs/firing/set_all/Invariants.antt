use Rattle.slow_streamit.specs.Firing.{named_values}
use Rattle.slow_streamit.proofs.Filters.{FieldsSoFar}
use Rattle.slow_streamit.proofs.firing.set_all.Given as goal

abbrev pub invariant-loop-i : goal.invariant-loop-i
invariant-loop-i l = FieldsSoFar l.fields l.kept l.i (named_values l.initial.values) (named_values l.values)
