use Rattle.std.proofs.Common.{◌≡◌, ◌++◌, length}
use Rattle.river_base.specs.Held.{flats}
use Rattle.brooklet_step.proofs.firing.flats_of.Given as goal

abbrev pub invariant-loop-item : goal.invariant-loop-item
invariant-loop-item l = l.all ++ flats l.items ≡ flats l.initial.items

abbrev pub decreases-loop-item : goal.decreases-loop-item
decreases-loop-item l = length l.items
