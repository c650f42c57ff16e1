use Rattle.std.proofs.Common.{◌≡◌, ◌++◌, take}
use Rattle.saw_model.specs.Meaning.{eval_all}
use Rattle.saw_text.specs.View.{expressions}
use Rattle.slow_sawzall.specs.Sawzall.{named_values}
use Rattle.slow_sawzall.proofs.run.add_values.Given as goal

abbrev pub invariant-loop-e : goal.invariant-loop-e
invariant-loop-e l = l.values.items ≡ l.initial.values.items ++ eval_all (expressions (take l.e-index l.es)) l.row (named_values l.locals)
