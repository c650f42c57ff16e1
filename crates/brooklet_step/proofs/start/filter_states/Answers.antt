use Rattle.std.proofs.Common.{refl}
use Rattle.kern_rows.specs.Forms.{filter_form}
use Rattle.kern_rows.specs.Runs.{filter_start}
use Rattle.brooklet_step.proofs.Starts.{if_ok}
use Rattle.brooklet_step.proofs.start.filter_states.Goals as goal

pub returns : goal.returns
returns c =
    if_ok _ _ c.only.result
    (λ st e. record {
      now = c.in_ok-state.state;
      seen = filter_start (filter_form c.args.filter.now);
      code = e;
      defined = refl;
      stands = c.in_ok-state.ensures.stands c.requires;
      count = c.in_ok-state.ensures.shape;
    })
    c.only.ensures
