use Rattle.std.proofs.Common.{◌+◌, ap, sym, ◌∙◌, map}
use Rattle.river_script.specs.Script.{script_of}
use Rattle.river_script.specs.Steps.{step_form}
use Rattle.river_script.proofs.Loops.{script_next, script_end}
use Rattle.river_script.proofs.apply.apply_steps.Goals as goal

pub returns : goal.returns
returns c =
    ap (λ l. script_of c.args.plan.now (map step_form l)) (sym c.as_slice-step-items.ensures)
    ∙ script_end c.args.plan.now c.as_slice-step-items.result.now c.loop-step.step-index c.loop-step.now c.loop-step-test.false c.loop-step.invariant.0

pub loop-step-preserved : goal.loop-step-preserved
loop-step-preserved c = (
  script_next c.args.plan.now _ _ c.loop-step.now _ c.step-item.result c.loop-step-test.true c.step-item.is c.loop-step.invariant.0 c.in-Ok.ensures,
  ap (λ n. n + 1) c.loop-step.invariant.1,
)
