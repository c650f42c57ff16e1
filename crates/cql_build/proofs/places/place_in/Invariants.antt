use Rattle.std.proofs.Common.{◌≡◌, drop}
use Rattle.cql_model.specs.Plan.{plus, place_among}
use Rattle.cql_build.proofs.places.place_in.Given as goal

abbrev pub invariant-loop-i : goal.invariant-loop-i
invariant-loop-i l = place_among l.field l.fields ≡ plus l.i (place_among l.field (drop l.i l.fields))
