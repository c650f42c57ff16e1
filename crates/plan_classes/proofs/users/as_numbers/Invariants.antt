use Rattle.std.proofs.Common.{◌≡◌, pos, map, take}
use Rattle.plan_classes.proofs.users.as_numbers.Given as goal

abbrev pub invariant-loop-op : goal.invariant-loop-op
invariant-loop-op l = l.numbers ≡ map pos (take l.op-index l.ops)
