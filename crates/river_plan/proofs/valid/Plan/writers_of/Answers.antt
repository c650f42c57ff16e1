use Rattle.std.proofs.Common.{◌<◌, [], length, sym, ap, ◌∙◌, subst}
use Rattle.river_plan.specs.Forms.{plan_form, queue_names}
use Rattle.river_plan.specs.Places.{write_places, users_from}
use Rattle.river_plan.proofs.UserLemmas.{users-below, users-there}
use Rattle.river_plan.proofs.valid.Plan.writers_of.Goals as goal

pub at-requires : goal.at-requires
at-requires c =
    let p = plan_form c.self.inside.raw.value in
    rw c.deref.ensures (users-below (length (queue_names p)) c.args.queue (write_places p) _ c.self.invariant.1.writes.by_place
    (subst (λ q. c.args.queue < length (queue_names q)) (sym c.self.view_is) c.requires))

pub returns : goal.returns
returns c =
    let p = plan_form c.self.inside.raw.value in
    c.as_slice.ensures ∙ c.at.ensures []
    ∙ rw c.deref.ensures
    (users-there (length (queue_names p)) c.args.queue (write_places p) _ [] c.self.invariant.1.writes.by_place
    (subst (λ q. c.args.queue < length (queue_names q)) (sym c.self.view_is) c.requires))
    ∙ ap (λ q. users_from 0 (write_places q) c.args.queue) c.self.view_is
