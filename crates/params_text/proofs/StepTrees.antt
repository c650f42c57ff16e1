-- The trees of steps, layer by layer.
use Rattle.std.proofs.Common.{◌≡◌, ℕ, List, map, sym, ap, ◌∙◌, Vec, Global}
use Rattle.streamit_text.specs.Tree.{expression, is_turn}
use Rattle.streamit_text.specs.declared.tree.Expr.{Expr}
use Rattle.streamit_text.specs.declared.tree.Until.{Until}
use Rattle.params_text.specs.declared.program.Step.{Step, fold-roll-Step}
use Rattle.params_text.specs.declared.program.Step as made
use Rattle.params_text.specs.declared.program.Step.TheVariants.{rolls-Add, rolls-Loop}
use Rattle.params_text.specs.declared.program.Step.TheOpen as part
use Rattle.params_text.specs.declared.program.Step.TheFolds.{fold_out-Steps}
use Rattle.params_text.specs.declared.program.Steps.{Steps}
use Rattle.params_text.specs.Program.{expressions, steps_in_turn, step_layer, steps_layer, step_of, steps_of}
use Rattle.params_text.specs.Program as tree

-- the tree of a list of steps
pub steps-are : (all : Steps) → steps_of all ≡ steps_in_turn (map step_of all.items.items)
steps-are all = fold_out-Steps tree.Step tree.Steps step_layer steps_layer all

-- of an `add`
pub step-add : (name : List ℕ) (args : Vec Expr Global) → step_of (made.Add name args) ≡ tree.Add name (expressions args)
step-add name args = ap step_of (sym (rolls-Add name args)) ∙ fold-roll-Step tree.Step tree.Steps step_layer steps_layer (part.Add name args)

-- of a loop
pub step-loop : (name : List ℕ) (low : Expr) (until : Until) (high : Expr) (steps : Steps)
    → step_of (made.Loop name low until high steps) ≡ tree.Loop name (expression low) (is_turn until) (expression high) (steps_of steps)
step-loop name low until high steps =
    ap step_of (sym (rolls-Loop name low until high steps)) ∙ fold-roll-Step tree.Step tree.Steps step_layer steps_layer (part.Loop name low until high steps)

pub ruleset steps = (steps-are, step-add, step-loop)
