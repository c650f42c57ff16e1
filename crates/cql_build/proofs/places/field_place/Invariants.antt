use Rattle.cql_build.proofs.FieldPlaces.{FieldSoFar}
use Rattle.cql_build.proofs.places.field_place.Given as goal

abbrev pub invariant-loop-item : goal.invariant-loop-item
invariant-loop-item l = FieldSoFar l.items l.field l.item-index l.width
