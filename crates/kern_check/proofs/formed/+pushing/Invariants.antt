use Rattle.std.proofs.Common.{◌≡◌, drop, map}
use Rattle.work_code.specs.Steps.{step, in_turn}
use Rattle.river_kernels.specs.Formed.{pushes, left_of}
use Rattle.kern_check.proofs.formed.+pushing.Given as goal

abbrev pub invariant-left_after-loop-s : goal.invariant-left_after-loop-s
invariant-left_after-loop-s l = left_of (pushes (in_turn (map step (drop l.s-index l.s-items)))) l.left ≡ left_of (pushes (in_turn (map step l.s-items))) l.room
