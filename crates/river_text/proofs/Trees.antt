-- The trees of statements that were read.
use Rattle.std.proofs.Common.{◌≡◌, List, [], ap, ◌∙◌}
use Rattle.std.specs.Prelude.{map}
use Rattle.work_code.proofs.Texts.{steps-is}
use Rattle.work_code.proofs.Running.{step-if}
use Rattle.work_code.specs.declared.code.Stmt.{Stmt}
use Rattle.work_code.specs.declared.code.Stmts.{Stmts}
use Rattle.work_code.specs.Steps.{Done, step, steps, statements, in_turn}

-- of a list without statements
pub steps-none : (l : Stmts) → statements l ≡ [] → steps l ≡ Done
steps-none l none = steps-is l ∙ ap (λ (all : List Stmt). in_turn (map step all)) none

pub ruleset trees = (step-if, steps-is, steps-none)
