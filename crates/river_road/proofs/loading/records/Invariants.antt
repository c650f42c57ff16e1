use Rattle.std.proofs.Common.{◌≡◌}
use Rattle.river_road.specs.Load.{load_records}
use Rattle.river_road.proofs.loading.records.Given as goal

abbrev pub invariant-loop-before : goal.invariant-loop-before
invariant-loop-before l = l.rows ≡ load_records l.before
