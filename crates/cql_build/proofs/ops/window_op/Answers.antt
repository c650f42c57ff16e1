use Rattle.std.proofs.Common.{ap, ◌∙◌}
use Rattle.river_kernels.proofs.KernLemmas.{kern_of-window}
use Rattle.river_kernels.specs.Kern.{window}
use Rattle.cql_model.specs.Plan.{op}
use Rattle.cql_build.proofs.ops.window_op.Goals as goal

pub returns : goal.returns
returns c =
    let kernel = kern_of-window c.window_kernel.result ∙ ap window c.window_kernel.ensures in
    λ i. op c.args.name (kernel i) (c.in_ok-reads.ensures i) (c.in_ok-writes.ensures i) (c.in_ok-vars.ensures i)
