-- Statements in the form in which they are run.
use Rattle.std.proofs.Common.{Vec, Global, ◌≡◌, map, sym, ap, ◌∙◌}
use Rattle.std.specs.Prelude.{ℕ}
use Rattle.work_code.specs.declared.acts.Act.{fold-roll-Act}
use Rattle.work_code.specs.declared.acts.Act as built
use Rattle.work_code.specs.declared.acts.Act.TheVariants.{rolls-Push}
use Rattle.work_code.specs.declared.acts.Act.TheOpen as layer
use Rattle.work_code.specs.declared.acts.Act.TheFolds.{fold_out-Acts}
use Rattle.work_code.specs.declared.acts.Acts.{Acts}
use Rattle.work_code.specs.declared.calc.Calc.{Calc}
use Rattle.work_code.specs.Acts.{act_step, act_steps, act_at, acts_at}
use Rattle.work_code.specs.Calcs.{calc_term}
use Rattle.work_code.specs.Steps.{Step, Steps, Push, in_turn}

-- the tree of a list of statements is that of its statements in turn
pub acts-is : (all : Acts) → act_steps all ≡ in_turn (map act_step all.items.items)
acts-is all = fold_out-Acts Step Steps act_at acts_at all

-- the tree of a push
pub act-push : (port : ℕ) (values : Vec Calc Global) → act_step (built.Push port values) ≡ Push port (map calc_term values.items)
act-push port values = ap act_step (sym (rolls-Push port values)) ∙ fold-roll-Act Step Steps act_at acts_at (layer.Push port values)
