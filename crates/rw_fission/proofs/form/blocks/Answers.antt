use Rattle.rw_fission.proofs.OtherKernels.{no_blocks}
use Rattle.rw_fission.proofs.form.blocks.Goals as goal

pub returns-in_default : goal.returns-in_default
returns-in_default c = λ p op m n. no_blocks c.args.kernel.now c.in_default.not-Filter p op m n
