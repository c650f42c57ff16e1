-- Statements as plain trees.
use Rattle.std.specs.Prelude.{ℕ, List, [], ◌∷◌}
use Rattle.work_code.specs.declared.code.Stmt.{Stmt, fold-Stmt}
use Rattle.work_code.specs.declared.code.Stmt.TheOpen.{Stmt-F, Stmts-F}
use Rattle.work_code.specs.declared.code.Stmt.TheOpen as open_stmt
use Rattle.work_code.specs.declared.code.Stmts.{Stmts, fold-Stmts}
use Rattle.work_code.specs.declared.code.Code.{Code}
use Rattle.work_code.specs.Term.{Term, term, terms}

mutual
  pub data Step : Type 0 where
    Set : ℕ → Term → Step
    Push : ℕ → List Term → Step
    If : Term → Steps → Steps → Step

  pub data Steps : Type 0 where
    Done : Steps
    Then : Step → Steps → Steps

-- the steps, one after another
abbrev pub in_turn : List Step → Steps
in_turn [] = Done
in_turn (s ∷ ss) = Then s (in_turn ss)

-- the statements of both, one after another
abbrev pub both_steps : Steps → Steps → Steps
both_steps Done ts = ts
both_steps (Then s ss) ts = Then s (both_steps ss ts)

-- a body of one statement
abbrev pub one_step : Step → Steps
one_step s = Then s Done

-- one layer of a statement, whose parts are trees already
abbrev pub step_at : Stmt-F Step Steps → Step
step_at (open_stmt.Set slot value) = Set slot (term value)
step_at (open_stmt.Push port values) = Push port (terms values)
step_at (open_stmt.If cond when otherwise) = If (term cond) when otherwise

-- one layer of a list of statements
abbrev pub steps_at : Stmts-F Step Steps → Steps
steps_at all = in_turn all.items.items

-- the tree of a statement
abbrev pub step : Stmt → Step
step s = fold-Stmt Step Steps step_at steps_at s

-- the trees of a list of statements
abbrev pub steps : Stmts → Steps
steps all = fold-Stmts Step Steps step_at steps_at all

-- the statements of a list
abbrev pub statements : Stmts → List Stmt
statements all = all.items.items

-- a body, with how many inputs and slots it has
pub record BodyForm : Type 0 where
  pub inputs : ℕ
  pub slots : ℕ
  pub steps : Steps

abbrev pub code_body : Code → BodyForm
code_body c = record { inputs = c.inputs; slots = c.slots; steps = steps c.body }
