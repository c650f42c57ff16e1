use Rattle.std.proofs.Common.{refl}
use Rattle.river_kernels.proofs.KernLemmas.{kern_of-unpack}
use Rattle.river_kernels.specs.Kern.{unpack}
use Rattle.river_plan.specs.Forms.{op_form}
use Rattle.rw_fission.specs.Code.{joiner_of}
use Rattle.rw_fission.proofs.CodeLemmas.{pushed_as}
use Rattle.rw_fission.proofs.copies.add_unpack.Goals as goal

pub returns : goal.returns
returns c =
    let parts = c.in_ok-reads.ensures in
    pushed_as c.push.result c.args.ops.now c.push.new.self _ (joiner_of c.args.names.now (op_form c.args.op.now) (unpack c.args.n)) c.push.ensures.ok
    refl (kern_of-unpack c.args.n) parts.0 parts.1.0 parts.1.1
