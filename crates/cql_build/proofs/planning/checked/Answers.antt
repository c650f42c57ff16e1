use Rattle.std.proofs.Common.{None, sym, subst}
use Rattle.river_plan.specs.Forms.{plan_form}
use Rattle.cql_build.specs.Planned.{IsLimited}
use Rattle.cql_build.proofs.Filled.{refused_is}
use Rattle.cql_build.proofs.planning.checked.Goals as goal

pub returns-in-Ok-clause-plan : goal.returns-in-Ok-clause-plan
returns-in-Ok-clause-plan c = let j = c.in-Ok.ensures.judged in (c.requires None j.1, j.0)

pub returns-in-Err : goal.returns-in-Err
returns-in-Err c =
    let form = plan_form c.args.raw in
    record {
      plan = tt;
      refused = subst (IsLimited form c.args.unit) (sym c.told.ensures)
          (refused_is form c.in-Err.fault c.args.unit c.requires c.in-Err.ensures.judged);
    }
