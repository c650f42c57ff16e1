use Rattle.std.proofs.Common.{◌<◌, List, length, sym, ap, subst, arith}
use Rattle.river_plan.specs.Forms.{Name, plan_form}
use Rattle.cql_model.specs.Program.{all_uses}
use Rattle.cql_build.specs.Planned.{IsWhyRefused, IsLimited}
use Rattle.cql_text.specs.Tree.{unit_forms}
use Rattle.cql_build.proofs.Filled.{if_err_then, many_exceed, told_limit, over_limit, limited_refused}
use Rattle.cql_build.proofs.planning.faultless.Goals as goal

pub returns-then-len-clause-refused : goal.returns-then-len-clause-refused
returns-then-len-clause-refused c =
    let p = unit_forms c.args.units.now in
    let n = ap (λ (l : List Name). length l) c.in_ok-uses.ensures.all in
    let many : 256 < length (all_uses p) = let a = c.if-len.true in let b = c.len.ensures in omega (arith, a, b, n) in
    subst (IsWhyRefused p) (sym c.limited.ensures) (over_limit c.args.units.now c.requires.none (many_exceed p many))

pub checked-requires : goal.checked-requires
checked-requires c =
    told_limit (unit_forms c.args.units.now) (plan_form c.in_ok-raw.raw) c.requires.accepted c.in_ok-raw.ensures

pub returns-clause-refused : goal.returns-clause-refused
returns-clause-refused c =
    let units = c.args.units.now in
    let form = plan_form c.in_ok-raw.raw in
    if_err_then c.checked.result (IsLimited form (length units)) (IsWhyRefused (unit_forms units))
    (λ r h. limited_refused units form r c.requires.none c.in_ok-raw.ensures h) c.checked.ensures.refused
