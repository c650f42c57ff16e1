use Rattle.std.proofs.Common.{ap, ◌∙◌}
use Rattle.river_kernels.proofs.KernLemmas.{kern_of-filter}
use Rattle.river_kernels.specs.Kern.{filter}
use Rattle.streamit_build.proofs.operators.filtering.Goals as goal

pub returns : goal.returns
returns c =
    let kernel = kern_of-filter c.in_ok-copy.copy ∙ ap filter c.in_ok-copy.ensures in
    λ i. record { label = c.args.label; kernel = kernel i; reads = c.args.reads; writes = c.args.writes; vars = c.in_ok-vars.ensures i }
