use Rattle.std.proofs.Common.{length, ap, ◌∙◌}
use Rattle.work_code.specs.Steps.{code_body}
use Rattle.kern_rows.proofs.Lengths.{run_kept_length}
use Rattle.kern_rows.proofs.filter.run_body.Goals as goal

pub returns-clause-shape : goal.returns-clause-shape
returns-clause-shape c =
    ap length c.in_ok-run_kept.ensures.slots ∙ run_kept_length (code_body c.args.code.now) c.state.inside.kept c.first-input.result.now
    ∙ ap (λ w. length w.kept) c.state.view_is
