use Rattle.std.proofs.Common.{◌≡◌, take}
use Rattle.brooklet_step.specs.Tables.{table_places}
use Rattle.fire_open.proofs.homes.numbers_of.Given as goal

abbrev pub invariant-loop-var : goal.invariant-loop-var
invariant-loop-var l = l.tables ≡ table_places l.count (take l.var-index l.var-items)
