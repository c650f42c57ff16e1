use Rattle.std.proofs.Common.{◌≡◌, map}
use Rattle.river_road.specs.Inputs.{items_at}
use Rattle.river_road.proofs.item_lists.inputs_at.Given as goal

abbrev pub invariant-loop-file : goal.invariant-loop-file
invariant-loop-file l = l.all ≡ map (items_at l.instants) l.yielded
