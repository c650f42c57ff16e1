use Rattle.std.proofs.Common.{length, ap, ◌∙◌}
use Rattle.kern_rows.specs.Forms.{code_form}
use Rattle.kern_rows.proofs.Lengths.{run_kept_length}
use Rattle.kern_rows.proofs.kernel.CodeKernel.step.Goals as goal

pub returns-clause-shape : goal.returns-clause-shape
returns-clause-shape c = ap length c.in_ok-run_kept.ensures.slots ∙ run_kept_length (code_form c.args.self.now).body c.args.kept.now c.args.row.now
