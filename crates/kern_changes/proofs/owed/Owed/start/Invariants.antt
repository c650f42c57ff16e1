use Rattle.std.proofs.Common.{◌≡◌, replicate}
use Rattle.kern_changes.specs.Owed.{no_debt}
use Rattle.kern_changes.proofs.owed.Owed.start.Given as goal

abbrev pub invariant-loop-i : goal.invariant-loop-i
invariant-loop-i l = l.debts ≡ replicate l._i no_debt
