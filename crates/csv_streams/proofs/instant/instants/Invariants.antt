use Rattle.std.proofs.Common.{◌≡◌, ◌++◌, drop}
use Rattle.river_base.specs.Instants.{stamps}
use Rattle.csv_streams.proofs.instant.instants.Given as goal

abbrev pub invariant-loop-place : goal.invariant-loop-place
invariant-loop-place l = l.stamps ++ stamps (drop l.place l.files) ≡ stamps l.files
