use Rattle.std.proofs.Common.{◌≡◌}
use Rattle.work_code.specs.Steps.{statements}
use Rattle.river_text.proofs.body.gathered.Given as goal

abbrev pub invariant-loop-one : goal.invariant-loop-one
invariant-loop-one l = statements l.all ≡ l.yielded
