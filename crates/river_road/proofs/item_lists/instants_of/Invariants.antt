use Rattle.std.proofs.Common.{◌≡◌, ◌++◌, drop}
use Rattle.river_base.specs.Instants.{stamps}
use Rattle.river_road.specs.Inputs.{timed_files}
use Rattle.river_road.proofs.item_lists.instants_of.Given as goal

abbrev pub invariant-loop-place : goal.invariant-loop-place
invariant-loop-place l = l.stamps ++ stamps (timed_files (drop l.place l.files)) ≡ stamps (timed_files l.files)
