use Rattle.fire_open.proofs.HomeLemmas.{ArePortsOf}
use Rattle.std.proofs.Common.{take}
use Rattle.fire_open.proofs.homes.ports_of.Given as goal

abbrev pub invariant-loop-table : goal.invariant-loop-table
invariant-loop-table l = ArePortsOf l.classes l.own (take l.table-index l.table-items) l.ports
