use Rattle.std.proofs.Common.{◌≡◌, ◌-◌, ◌++◌, length, replicate, pos}
use Rattle.kern_rows.proofs.body.add_zeros.Given as goal

abbrev pub invariant-loop-i : goal.invariant-loop-i
invariant-loop-i l = l.slots ≡ l.initial.slots ++ replicate (l._i - length l.initial.slots) (pos 0)
