use Rattle.std.proofs.Common.{◌≡◌, take}
use Rattle.std.specs.Prelude.{All}
use Rattle.river_base.specs.Row.{copies}
use Rattle.brooklet_step.proofs.kinds.are_apart.Given as goal

abbrev pub invariant-loop-row : goal.invariant-loop-row
invariant-loop-row l = All (λ x. copies x l.minus ≡ 0) (take l.row-index l.plus)
