use Rattle.std.proofs.Common.{◌≡◌, drop, []}
use Rattle.std.specs.Prelude.{map}
use Rattle.river_text.specs.Listed.{port_of}
use Rattle.river_text.specs.ReadPlans.{split_from}
use Rattle.river_text.proofs.port.split.Given as goal

abbrev pub invariant-items : goal.invariant-items
invariant-items l = split_from l.queues l.vars (map port_of (drop l.i l.list)) ≡ split_from [] [] (map port_of l.list)
