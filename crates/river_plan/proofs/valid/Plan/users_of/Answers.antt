use Rattle.std.proofs.Common.{◌≡◌, ◌<◌, ◌≤◌, List, [], ◌∷◌, length, refl, sym, ap, ◌∙◌, subst, arith}
use Rattle.std.specs.List.Sorted.{IsStrictlyIncreasing}
use Rattle.river_plan.specs.Forms.{Name, OpForm, PlanForm, plan_form, variable_names}
use Rattle.river_plan.specs.Places.{place, var_places, users_from}
use Rattle.river_plan.specs.Uses.{Each, vars_it}
use Rattle.river_plan.proofs.UserCounts.{name_at, each-rising}
use Rattle.river_plan.proofs.UserLemmas.{users-below, users-there}
use Rattle.river_plan.proofs.valid.Plan.users_of.Goals as goal

each_of : (v : Name) (ops : List OpForm) → Each (λ op. (w : Name) → vars_it w op ≤ 1) ops → Each (λ op. vars_it v op ≤ 1) ops
each_of v [] a = tt
each_of v (op ∷ ops) a = (a.0 v, each_of v ops a.1)

pub at-requires : goal.at-requires
at-requires c =
    let p = plan_form c.self.inside.raw.value in
    rw c.deref.ensures (users-below (length (variable_names p)) c.args.variable (var_places p) _ c.self.invariant.1.vars.by_place
    (subst (λ q. c.args.variable < length (variable_names q)) (sym c.self.view_is) c.requires))

pub returns-clause-users : goal.returns-clause-users
returns-clause-users c =
    let p = plan_form c.self.inside.raw.value in
    c.as_slice.ensures ∙ c.at.ensures []
    ∙ rw c.deref.ensures
    (users-there (length (variable_names p)) c.args.variable (var_places p) _ [] c.self.invariant.1.vars.by_place
    (subst (λ q. c.args.variable < length (variable_names q)) (sym c.self.view_is) c.requires))
    ∙ ap (λ q. users_from 0 (var_places q) c.args.variable) c.self.view_is

pub returns-clause-rising : goal.returns-clause-rising
returns-clause-rising c =
    let p = plan_form c.self.inside.raw.value in
    let within = subst (λ q. c.args.variable < length (variable_names q)) (sym c.self.view_is) c.requires in
    let named = name_at (variable_names p) c.self.invariant.0.variables_once [] (variable_names p) c.args.variable refl within in
    let here : place (variable_names p) named.0 ≡ c.args.variable = (let e = named.3 in omega (arith, e)) in
    let rises = each-rising (variable_names p) named.0 named.2 p.ops 0 (each_of named.0 p.ops c.self.invariant.0.vars_apart) in
    let rising = subst (λ i. IsStrictlyIncreasing (users_from 0 (var_places p) i)) here rises in
    subst IsStrictlyIncreasing (sym (returns-clause-users c))
    (subst (λ (q : PlanForm). IsStrictlyIncreasing (users_from 0 (var_places q) c.args.variable)) c.self.view_is rising)
