use Rattle.std.proofs.Common.{◌≡◌, drop, map}
use Rattle.work_code.specs.Steps.{step, in_turn}
use Rattle.river_kernels.specs.Formed.{is_steps}
use Rattle.kern_check.proofs.formed.+formed.Given as goal

abbrev pub invariant-are_formed_stmts-loop-s : goal.invariant-are_formed_stmts-loop-s
invariant-are_formed_stmts-loop-s l =
    is_steps l.inputs l.slots l.outs (in_turn (map step (drop l.s-index l.s-items))) ≡ is_steps l.inputs l.slots l.outs (in_turn (map step l.s-items))
