-- Programs with parameters as they are written: streams that are declared one after another, the last of which is the program's.
use Rattle.std.specs.Prelude.{ℕ, Bool, List, [], ◌∷◌, map, Option}
use Rattle.std.proofs.Common.{Vec, Global}
use Rattle.text_blocks.specs.Parts.{optional}
use Rattle.streamit_text.specs.Tree.{Expression, expression, is_turn, Block, Optional, block, optional_block}
use Rattle.streamit_text.specs.declared.tree.Expr.{Expr}
use Rattle.params_text.specs.declared.program.ParamWork as written_work
use Rattle.params_text.specs.declared.program.ParamFilter as written_filter
use Rattle.params_text.specs.declared.program.Step as written_step
use Rattle.params_text.specs.declared.program.Step.{fold-Step}
use Rattle.params_text.specs.declared.program.Step.TheOpen.{Step-F, Steps-F}
use Rattle.params_text.specs.declared.program.Step.TheOpen as layer
use Rattle.params_text.specs.declared.program.Steps as written_steps
use Rattle.params_text.specs.declared.program.Steps.{fold-Steps}
use Rattle.params_text.specs.declared.program.Rounds.{Rounds}
use Rattle.params_text.specs.declared.program.ParamSplit.{ParamSplit}
use Rattle.params_text.specs.declared.program.ParamSplit.TheVariants as split
use Rattle.params_text.specs.declared.program.ParamBody.{ParamBody}
use Rattle.params_text.specs.declared.program.ParamBody.TheVariants as body
use Rattle.params_text.specs.declared.program.ParamProgram as code_program
use Rattle.params_text.specs.declared.program.Unit as code_unit

-- `work` or `prework`: its rates, which are expressions and may be left out, and its block
pub record ParamWork : Type 0 where
  pub push : Option Expression
  pub pop : Option Expression
  pub peek : Option Expression
  pub block : Block

-- a filter: its fields, `init`, `prework` and `work`; `init` and `prework` may be left out
pub record ParamFilter : Type 0 where
  pub fields : List (List ℕ)
  pub init : Optional
  pub prework : Option ParamWork
  pub work : ParamWork

-- a step adds a stream under arguments, or is a loop of steps: its variable, the lower bound, whether the upper bound is a turn too,
-- the upper bound, and the steps
mutual
  pub data Step : Type 0 where
    Add : List ℕ → List Expression → Step
    Loop : List ℕ → Expression → Bool → Expression → Steps → Step

  pub data Steps : Type 0 where
    End : Steps
    Then : Step → Steps → Steps

-- how a splitter is written: weights as they stand in its brackets, where there are brackets
pub data Dealing : Type 0 where
  Copies : Dealing
  Turns : Option (List Expression) → Dealing

-- what is declared
pub data Body : Type 0 where
  AFilter : ParamFilter → Body
  APipeline : Steps → Body
  ASplitJoin : Dealing → Steps → Option (List Expression) → Body

-- a stream that is declared, with its parameters: one unit of the text
pub record UnitForm : Type 0 where
  pub name : List ℕ
  pub params : List (List ℕ)
  pub body : Body

abbrev pub ParamProgram : Type 0
ParamProgram = List UnitForm

-- WHAT THE CODE'S TREES STAND FOR

abbrev pub expressions : Vec Expr Global → List Expression
expressions es = map expression es.items

-- the steps, one after another
abbrev pub steps_in_turn : List Step → Steps
steps_in_turn [] = End
steps_in_turn (s ∷ ss) = Then s (steps_in_turn ss)

abbrev pub step_layer : Step-F Step Steps → Step
step_layer (layer.Add name args) = Add name (expressions args)
step_layer (layer.Loop name low until high steps) = Loop name (expression low) (is_turn until) (expression high) steps

abbrev pub steps_layer : Steps-F Step Steps → Steps
steps_layer all = steps_in_turn all.items.items

abbrev pub step_of : written_step.Step → Step
step_of s = fold-Step Step Steps step_layer steps_layer s

abbrev pub steps_of : written_steps.Steps → Steps
steps_of s = fold-Steps Step Steps step_layer steps_layer s

abbrev pub work_of : written_work.ParamWork → ParamWork
work_of w =
    record { push = optional expression w.rates.push; pop = optional expression w.rates.pop; peek = optional expression w.rates.peek; block = block w.block }

abbrev pub filter_of : written_filter.ParamFilter → ParamFilter
filter_of t = record { fields = t.fields.items; init = optional_block t.init; prework = optional work_of t.prework; work = work_of t.work }

-- the weights in the brackets, where there are brackets
abbrev pub rounds_of : Rounds → Option (List Expression)
rounds_of r = optional expressions r.weights

abbrev pub dealing_of : ParamSplit → Dealing
dealing_of split.Duplicate = Copies
dealing_of (split.RoundRobin r) = Turns (rounds_of r)

abbrev pub body_of : ParamBody → Body
body_of (body.Filter t) = AFilter (filter_of t)
body_of (body.Pipeline ss) = APipeline (steps_of ss)
body_of (body.SplitJoin b) = ASplitJoin (dealing_of b.split) (steps_of b.steps) (rounds_of b.join)

abbrev pub unit_form : code_unit.Unit → UnitForm
unit_form u = record { name = u.name; params = u.params.items; body = body_of u.body }

abbrev pub unit_forms : List code_unit.Unit → ParamProgram
unit_forms us = map unit_form us

abbrev pub program_of : code_program.ParamProgram → ParamProgram
program_of p = unit_forms p.units.items
