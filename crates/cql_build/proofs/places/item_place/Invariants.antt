use Rattle.cql_build.proofs.FieldPlaces.{ItemSoFar}
use Rattle.cql_build.proofs.places.item_place.Given as goal

abbrev pub invariant-loop-item : goal.invariant-loop-item
invariant-loop-item l = ItemSoFar l.items l.name l.field l.item-index l.width
