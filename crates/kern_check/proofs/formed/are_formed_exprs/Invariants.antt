use Rattle.std.proofs.Common.{◌≡◌, drop, map}
use Rattle.std.specs.List.{list_all}
use Rattle.work_code.specs.Term.{term}
use Rattle.river_kernels.specs.Formed.{is_term}
use Rattle.kern_check.proofs.formed.are_formed_exprs.Given as goal

abbrev pub invariant-loop-e : goal.invariant-loop-e
invariant-loop-e l = list_all (is_term l.inputs l.slots) (map term (drop l.e-index l.e-items)) ≡ list_all (is_term l.inputs l.slots) (map term l.e-items)
