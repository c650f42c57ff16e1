use Rattle.std.proofs.Common.{◌≡◌, take, map}
use Rattle.work_code.specs.Steps.{step, in_turn}
use Rattle.river_kernels.specs.Limits.{told, size}
use Rattle.kern_check.proofs.above.+size.Given as goal

abbrev pub invariant-size-loop-statement : goal.invariant-size-loop-statement
invariant-size-loop-statement l = l.number ≡ told (size (in_turn (map step (take l.statement-index l.statement-items))))
