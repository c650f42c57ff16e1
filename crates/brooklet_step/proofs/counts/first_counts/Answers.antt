use Rattle.river_kernels.specs.Kern.{kern_of}
use Rattle.brooklet_step.proofs.Counted.{shape_counts}
use Rattle.brooklet_step.proofs.counts.first_counts.Goals as goal

pub returns : goal.returns
returns c = shape_counts (kern_of c.args.first.now) c.in_ok-shape.shape c.in_ok-shape.ensures
