use Rattle.std.proofs.Common.{◌≡◌, take}
use Rattle.river_plan.specs.Places.{users}
use Rattle.plan_check.proofs.wired.users.Given as goal

abbrev pub invariant-loop-number : goal.invariant-loop-number
invariant-loop-number l = l.all ≡ users l.count (take l.number l.lists)
