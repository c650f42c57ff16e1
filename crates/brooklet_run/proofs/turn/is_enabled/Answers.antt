use Rattle.std.proofs.Common.{◌≡◌, false, true, subst}
use Rattle.brooklet_step.specs.Reading.{IsPlaceRead}
use Rattle.brooklet_step.proofs.ReadLemmas.{not_enabled}
use Rattle.brooklet_run.proofs.turn.is_enabled.Goals as goal

pub returns-in-None : goal.returns-in-None
returns-in-None c = (
  (λ t. absurd (let e : false ≡ true = t in cc e)),
  (λ on. absurd (not_enabled c.args.parts.now c.args.op c.args.port
      (subst (IsPlaceRead c.args.parts.now c.args.op c.args.port) c.in-None.is c.place_read.ensures) on)),
)
