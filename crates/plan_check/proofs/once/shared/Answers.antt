use Rattle.std.proofs.Common.{subst, sym}
use Rattle.river_plan.specs.Forms.{plan_form, variable_names}
use Rattle.river_plan.specs.Places.{var_places}
use Rattle.river_plan.specs.Faults.{Shared, IsApart}
use Rattle.river_plan.specs.First.{IsFirst}
use Rattle.river_plan.specs.declared.fault.Named.TheVariants.{Variable}
use Rattle.river_plan.proofs.Searches.{as-map}
use Rattle.plan_check.proofs.PlacedFaults.{shared_first}
use Rattle.river_plan.proofs.UserLemmas.{users-length}
use Rattle.plan_check.proofs.once.shared.Goals as goal

pub first_shared-found-requires : goal.first_shared-found-requires
first_shared-found-requires c =
    let p = plan_form c.args.raw.now in
    users-length (var_places p) c.args.wiring.now.vars.by_place c.in_ok-names.names (variable_names p) c.in_ok-names.ensures c.requires.wired.vars.by_place

pub returns : goal.returns
returns c =
    let p = plan_form c.args.raw.now in
    subst (Shared p) (sym c.as_variable.ensures)
    (as-map Variable (IsFirst (λ before v. IsApart p v) (variable_names p)) c.first_shared-found.result
    (shared_first p c.args.wiring.now c.in_ok-names.names c.len.result c.requires.named c.requires.wired c.in_ok-names.ensures c.len.ensures
    c.first_shared-found.result c.first_shared-found.ensures))
