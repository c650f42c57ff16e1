use Rattle.std.proofs.Common.{◌≡◌, take}
use Rattle.std.specs.Prelude.{min}
use Rattle.cql_model.specs.Judged.{item_places}
use Rattle.cql_build.specs.Views.{scope}
use Rattle.cql_build.proofs.values.item_places.Given as goal

abbrev pub invariant-loop-item : goal.invariant-loop-item
invariant-loop-item l = l.n ≡ min (item_places l.name l.field (scope (take l.item-index l.items))) 2
