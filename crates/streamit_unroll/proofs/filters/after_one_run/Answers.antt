use Rattle.std.proofs.Common.{ap, ◌∙◌, [], take}
use Rattle.work_code.specs.Steps.{steps}
use Rattle.work_code.specs.Ran.{ran}
use Rattle.streamit_unroll.proofs.RunOnNothing.{kept_zeros}
use Rattle.streamit_unroll.proofs.filters.after_one_run.Goals as goal

pub returns : goal.returns
returns c =
    let body = steps c.args.body in
    c.truncate.ensures
    ∙ ap (take c.args.fields) (c.in_ok-run_once.ensures {u = tt} ∙ ap (λ b. (ran (steps b) [] c.in_ok-all.all).slots) c.in_ok-of.ensures
    ∙ ap (λ l. (ran body [] l).slots) c.in_ok-all.ensures)
    ∙ kept_zeros c.args.slots c.args.fields body c.requires.slots
