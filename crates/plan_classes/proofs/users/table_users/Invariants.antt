use Rattle.std.proofs.Common.{◌≡◌, map, take}
use Rattle.plan_classes.specs.Users.{having}
use Rattle.plan_classes.proofs.users.table_users.Given as goal

abbrev pub invariant-loop-table : goal.invariant-loop-table
invariant-loop-table l = l.all ≡ map (λ t. having t.name 0 l.plan.ops) (take l.table l.plan.tables)
