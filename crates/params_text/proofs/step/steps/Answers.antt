use Rattle.std.proofs.Common.{◌∙◌, rules}
use Rattle.params_text.specs.Program.{step_of}
use Rattle.params_text.proofs.Lists.{steps-next, step-shortens}
use Rattle.params_text.proofs.step.steps.Goals as goal

pub items-preserved : goal.items-preserved
items-preserved c =
    steps-next c.args.brackets c.items.list.items c.push.new.self.items c.in_ok-step.field-0 c.items.reader c.step.new.reader
    c.in_ok-push.ensures.items (search rules) c.in_ok-step.ensures
    ∙ c.items.invariant

pub items-smaller : goal.items-smaller
items-smaller c = step-shortens c.args.brackets c.items.reader c.step.new.reader (step_of c.in_ok-step.field-0) c.in_ok-step.ensures
