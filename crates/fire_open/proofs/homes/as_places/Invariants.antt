use Rattle.std.proofs.Common.{◌≡◌, take, map, pos}
use Rattle.fire_open.proofs.homes.as_places.Given as goal

abbrev pub invariant-loop-number : goal.invariant-loop-number
invariant-loop-number l = map pos l.places ≡ take l.number-index l.number-items
