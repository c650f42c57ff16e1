use Rattle.std.proofs.Common.{ap, ◌∙◌}
use Rattle.river_kernels.proofs.KernLemmas.{kern_of-deal}
use Rattle.river_kernels.specs.Kern.{deal}
use Rattle.streamit_build.proofs.operators.dealing.Goals as goal

pub returns : goal.returns
returns c =
    let kernel = kern_of-deal c.in_ok-weights.weights ∙ ap deal c.in_ok-weights.ensures in
    λ i. record { label = c.args.label; kernel = kernel i; reads = c.args.reads; writes = c.args.writes; vars = c.in_ok-vars.ensures i }
