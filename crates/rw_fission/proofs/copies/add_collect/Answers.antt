use Rattle.std.proofs.Common.{ap, ◌∙◌, refl}
use Rattle.river_kernels.proofs.KernLemmas.{kern_of-collect}
use Rattle.river_kernels.specs.Kern.{collect}
use Rattle.river_plan.specs.Forms.{op_form}
use Rattle.rw_fission.specs.Code.{joiner_of}
use Rattle.rw_fission.specs.Fission.{equal_weights}
use Rattle.rw_fission.proofs.CodeLemmas.{pushed_as}
use Rattle.rw_fission.proofs.copies.add_collect.Goals as goal

pub returns : goal.returns
returns c =
    let parts = c.in_ok-reads.ensures in
    pushed_as c.push.result c.args.ops.now c.push.new.self _
    (joiner_of c.args.names.now (op_form c.args.op.now) (collect (equal_weights c.args.n c.args.push))) c.push.ensures.ok refl
    (kern_of-collect c.in_ok-weights.weights ∙ ap collect c.in_ok-weights.ensures) parts.0 parts.1.0 parts.1.1
