use Rattle.std.proofs.Common.{◌≡◌, ◌+◌, drop}
use Rattle.cql_model.specs.Plan.{widths_of}
use Rattle.cql_build.specs.Views.{scope}
use Rattle.cql_build.proofs.build.width.Given as goal

abbrev pub invariant-loop-item : goal.invariant-loop-item
invariant-loop-item l = l.width + widths_of (scope (drop l.item-index l.items)) ≡ widths_of (scope l.items)
