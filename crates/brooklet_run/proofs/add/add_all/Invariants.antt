use Rattle.std.proofs.Common.{◌≡◌, take, length}
use Rattle.river_base.specs.Places.{list_at}
use Rattle.brooklet_step.specs.ByPlace.{joined_at}
use Rattle.brooklet_step.specs.Tables.{each_added, table_places}
use Rattle.brooklet_run.proofs.add.add_all.Given as goal

abbrev pub invariant-loop-var : goal.invariant-loop-var
invariant-loop-var l = record {
  tables : l.tables ≡ each_added l.initial.tables (joined_at (table_places (length l.initial.tables) (take l.var-index l.vars)) (list_at l.adds));
  number : l.number ≡ length (table_places (length l.initial.tables) (take l.var-index l.vars));
}
