use Rattle.std.proofs.Common.{length, ◌+◌, ◌*◌}
use Rattle.river_kernels.specs.Kern.{kern_of}
use Rattle.brooklet_step.proofs.GivenCode.{SoFar}
use Rattle.brooklet_step.proofs.Size.{size}
use Rattle.brooklet_step.proofs.firing.+fire_on.Given as goal

abbrev pub decreases-fire_on : goal.decreases-fire_on
decreases-fire_on l = 8 * size (kern_of l.kernel.now)

abbrev pub decreases-fire_each : goal.decreases-fire_each
decreases-fire_each l = 8 * size (kern_of l.kernel.now) + 3

abbrev pub decreases-fire_blank : goal.decreases-fire_blank
decreases-fire_blank l = 8 * size (kern_of l.kernel.now) + 1

abbrev pub decreases-fire_packed : goal.decreases-fire_packed
decreases-fire_packed l = 8 * size (kern_of l.inner.now) + 2

abbrev pub decreases-fire_fused : goal.decreases-fire_fused
decreases-fire_fused l = 8 * (size (kern_of l.first.now) + size (kern_of l.second.now)) + 6

abbrev pub decreases-fire_behind : goal.decreases-fire_behind
decreases-fire_behind l = 8 * size (kern_of l.second.now) + 5

abbrev pub decreases-fire_second : goal.decreases-fire_second
decreases-fire_second l = 8 * size (kern_of l.second.now) + 4

abbrev pub decreases-fire_nested : goal.decreases-fire_nested
decreases-fire_nested l = 8 * size (kern_of l.second.now) + 3

abbrev pub decreases-fire_selected : goal.decreases-fire_selected
decreases-fire_selected l = 8 * size (kern_of l.third.now) + 7

abbrev pub decreases-fire_third : goal.decreases-fire_third
decreases-fire_third l = 8 * size (kern_of l.third.now) + 6

abbrev pub invariant-fire_each-front : goal.invariant-fire_each-front
invariant-fire_each-front l = SoFar (kern_of l.kernel) l.initial.items l.items l.initial.out l.out l.initial.states l.states

abbrev pub decreases-fire_each-front : goal.decreases-fire_each-front
decreases-fire_each-front l = length l.items

abbrev pub decreases-fire_row_on : goal.decreases-fire_row_on
decreases-fire_row_on l = 8 * size (kern_of l.kernel.now) + 1

abbrev pub decreases-fire_front : goal.decreases-fire_front
decreases-fire_front l = 8 * size (kern_of l.kernel.now) + 2

abbrev pub decreases-fire_row_blank : goal.decreases-fire_row_blank
decreases-fire_row_blank l = 8 * size (kern_of l.kernel.now) + 2

abbrev pub decreases-fire_fused_row : goal.decreases-fire_fused_row
decreases-fire_fused_row l = 8 * (size (kern_of l.first.now) + size (kern_of l.second.now)) + 6
