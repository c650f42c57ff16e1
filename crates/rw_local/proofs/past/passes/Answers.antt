use Rattle.work_code.specs.Term.{term}
use Rattle.rw_local.proofs.OtherKernels.{no_passing}
use Rattle.rw_local.proofs.past.passes.Goals as goal

pub returns-in_default : goal.returns-in_default
returns-in_default c =
    no_passing c.args.kernel.now c.in_default.not-Window c.in_default.not-Streamer c.in_default.not-Project c.in_default.not-Cross c.args.width
    (term c.args.cond.now)
