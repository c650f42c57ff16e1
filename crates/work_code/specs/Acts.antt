-- Statements in the form in which they are run, as the trees of the statements that they stand for.
use Rattle.std.specs.Prelude.{map}
use Rattle.work_code.specs.declared.acts.Act.{Act, fold-Act}
use Rattle.work_code.specs.declared.acts.Act.TheOpen.{Act-F, Acts-F}
use Rattle.work_code.specs.declared.acts.Act.TheOpen as open_act
use Rattle.work_code.specs.declared.acts.Acts.{Acts, fold-Acts}
use Rattle.work_code.specs.Calcs.{calc_term}
use Rattle.work_code.specs.Steps.{Step, Steps, Set, Push, If, in_turn}

-- one layer of a statement, whose parts are trees already
abbrev pub act_at : Act-F Step Steps → Step
act_at (open_act.Set slot value) = Set slot (calc_term value)
act_at (open_act.Push port values) = Push port (map calc_term values.items)
act_at (open_act.If cond when otherwise) = If (calc_term cond) when otherwise

-- one layer of a list of statements
abbrev pub acts_at : Acts-F Step Steps → Steps
acts_at all = in_turn all.items.items

-- the tree of a statement
abbrev pub act_step : Act → Step
act_step a = fold-Act Step Steps act_at acts_at a

-- the trees of a list of statements
abbrev pub act_steps : Acts → Steps
act_steps all = fold-Acts Step Steps act_at acts_at all
