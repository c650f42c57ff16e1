use Rattle.std.proofs.Common.{ap, ◌∙◌}
use Rattle.river_kernels.proofs.KernLemmas.{kern_of-streamer}
use Rattle.river_kernels.specs.Kern.{streamer}
use Rattle.cql_model.specs.Plan.{op}
use Rattle.cql_build.proofs.ops.stream_op.Goals as goal

pub returns : goal.returns
returns c =
    let kernel = kern_of-streamer c.streamer_kernel.result ∙ ap streamer c.streamer_kernel.ensures in
    λ i. op c.args.name (kernel i) (c.in_ok-reads.ensures i) (c.in_ok-writes.ensures i) (c.in_ok-vars.ensures i)
