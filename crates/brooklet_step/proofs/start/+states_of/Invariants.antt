use Rattle.river_kernels.specs.Kern.{kern_of}
use Rattle.brooklet_step.proofs.Size.{size}
use Rattle.brooklet_step.proofs.start.+states_of.Given as goal

abbrev pub decreases-states_of : goal.decreases-states_of
decreases-states_of l = size (kern_of l.kernel.now)
