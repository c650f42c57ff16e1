use Rattle.brooklet_step.proofs.Starts.{if_ok}
use Rattle.fire_open.proofs.HomeLemmas.{table_classes_are}
use Rattle.fire_open.proofs.homes.table_classes.Goals as goal

pub returns : goal.returns
returns c =
    if_ok _ _ c.as_places.result
    (λ places e. table_classes_are c.args.plan.now c.in_ok-users.users c.in_ok-numbers.numbers places c.in_ok-users.ensures c.in_ok-numbers.ensures e)
    c.as_places.ensures
