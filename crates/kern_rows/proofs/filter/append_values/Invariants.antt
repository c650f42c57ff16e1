use Rattle.std.proofs.Common.{◌≡◌, ◌++◌, take}
use Rattle.kern_rows.specs.Stands.{first_values}
use Rattle.kern_rows.proofs.filter.append_values.Given as goal

abbrev pub invariant-loop-i : goal.invariant-loop-i
invariant-loop-i l = l.out ≡ l.initial.out ++ first_values (take l.i l.pushes)
