-- The road from the file of a program to the text: the points of what a command does, in order. Each point is told what comes after it.
-- A language is here what the text of a program is: its program, or the text that refuses it.
use Rattle.std.specs.Prelude.{ℕ, List, ◌++◌, Bool, false, Option, Some, None, Result, Ok, Err}
use Rattle.river_outside.specs.Order.{Order, Fetch}
use Rattle.river_outside.specs.Passes.{past}
use Rattle.plan_classes.specs.Lines.{classes_text}
use Rattle.river_plan.specs.Caps.{first_cap}
use Rattle.river_plan.specs.Forms.{PlanForm}
use Rattle.river_plan.specs.declared.caps.Cap.{Cap}
use Rattle.river_print.specs.Printed.{plan_text}
use Rattle.river_road.specs.Supplied.{Supplied, printed_for}
use Rattle.river_road.specs.Inputs.{of_inputs}
use Rattle.river_road.specs.Layouts.{layout_of}
use Rattle.river_road.specs.Limits.{most_program, most_script}
use Rattle.river_road.specs.Load.{load_program, load_script, load_files}
use Rattle.river_road.specs.Source.{SourceProgram}
use Rattle.river_road.specs.Text.{large_program, large_script, script_refused}
use Rattle.river_script.specs.Meaning.{rewritten}
use Rattle.river_script.specs.Words.{script_words}
use Rattle.river_script.specs.declared.fault.ScriptFault.{ScriptFault}
use Rattle.command_line.specs.declared.command.InWord.{InWord}
use Rattle.command_line.specs.declared.command.RunWords.{RunWords}
use Rattle.river_road.specs.declared.layout.Layout.{Layout}

-- the program is fetched and compiled
unfoldable pub of_program : (List ℕ → Result SourceProgram (List ℕ)) → List ℕ → (SourceProgram → Order) → Order
of_program source_of file next = Fetch file most_program large_program (λ text. past (source_of text) next)

-- the program with this plan in place of its own, or the text that refuses the script
abbrev pub with_plan : SourceProgram → Result PlanForm ScriptFault → Result SourceProgram (List ℕ)
with_plan source (Ok p) = Ok (record source { plan = p })
with_plan source (Err fault) = Err (script_refused (script_words fault))

-- the script is fetched, read and applied step by step, where one is given
unfoldable pub of_script : Option (List ℕ) → SourceProgram → (SourceProgram → Order) → Order
of_script None source next = next source
of_script (Some file) source next = Fetch file most_script large_script (λ text. past (with_plan source (rewritten source.plan text)) next)

-- what the files of its inputs have is read
unfoldable pub of_supplied : List InWord → Layout → SourceProgram → (Supplied → Order) → Order
of_supplied ins layout source next = of_inputs source.inputs ins layout (λ files. next (record { source = source; files = files }))

-- and what the program means for them is printed
abbrev pub of_meaning : List InWord → Layout → SourceProgram → (List ℕ → Order) → Order
of_meaning ins layout source next = of_supplied ins layout source (λ s. next (printed_for false s))

-- the plan of a program is rewritten, where a script is given, and the files of its inputs are read
abbrev pub of_scripted : Option (List ℕ) → List InWord → Layout → SourceProgram → (Supplied → Order) → Order
of_scripted script ins layout source next = of_script script source (λ later. of_supplied ins layout later next)

-- a plan as it is shown: its text with the capacities of its queues, and a line for each lock class of its tables
abbrev pub plan_as_shown : List Cap → PlanForm → List ℕ
plan_as_shown caps p = plan_text (first_cap caps) p ++ classes_text p

-- the plan of a program is shown, with the capacities that the program gives
abbrev pub of_shown : SourceProgram → (List ℕ → Order) → Order
of_shown source next = next (plan_as_shown source.caps source.plan)

-- it is rewritten before
abbrev pub of_scripted_show : Option (List ℕ) → SourceProgram → (List ℕ → Order) → Order
of_scripted_show script source next = of_script script source (λ later. of_shown later next)

-- what is made of what was found; the first refusal stands
abbrev pub then_made : {A B : Type 0} → Result A (List ℕ) → (A → Result B (List ℕ)) → Result B (List ℕ)
then_made (Ok x) make = make x
then_made (Err text) make = Err text

-- a program, with the first n records that are made for `load`
abbrev pub supplied_by : ℕ → SourceProgram → Result Supplied (List ℕ)
supplied_by n source = then_made (load_files n source.inputs) (λ files. Ok (record { source = source; files = files }))

-- the same of the program with the plan that the script of `load` makes
abbrev pub scripted_supplied : ℕ → SourceProgram → Result Supplied (List ℕ)
scripted_supplied n source = then_made (with_plan source (rewritten source.plan load_script)) (supplied_by n)

-- a language, and whether records may have further fields in it
module _ (source_of : List ℕ → Result SourceProgram (List ℕ)) (more : Bool) where
  -- `mean`: the program is compiled, and what it means over its inputs is printed
  unfoldable pub of_mean : List ℕ → List InWord → Bool → (List ℕ → Order) → Order
  of_mean file ins header next = of_program source_of file (λ source. of_meaning ins (layout_of more header) source next)

  -- `run` up to its run: the program is compiled, its plan is rewritten, and its inputs are read
  unfoldable pub of_gathered : RunWords → (Supplied → Order) → Order
  of_gathered w next = of_program source_of w.file (λ source. of_scripted w.script w.ins (layout_of more w.header) source next)

  -- `run`: what the program then means is printed. Who runs its plan, and how much the queues hold, is no part of it
  abbrev pub of_run : RunWords → (List ℕ → Order) → Order
  of_run w next = of_gathered w (λ s. next (printed_for w.counts s))

-- a language
module _ (source_of : List ℕ → Result SourceProgram (List ℕ)) where
  -- `plan`: it is compiled, its plan is rewritten and shown
  unfoldable pub of_show : List ℕ → Option (List ℕ) → (List ℕ → Order) → Order
  of_show file script next = of_program source_of file (λ source. of_scripted_show script source next)

  -- `upgrade`: it is compiled, and its plan is printed with its capacities
  unfoldable pub of_upgrade : List ℕ → (List ℕ → Order) → Order
  of_upgrade file next = of_program source_of file (λ source. next (plan_text (first_cap source.caps) source.plan))

  -- the program of `load`, with the plan that its script makes, and the first n records
  unfoldable pub load_supplied : ℕ → Result Supplied (List ℕ)
  load_supplied n = then_made (source_of load_program) (scripted_supplied n)

  -- `load`: what is printed of this program over the first n records
  abbrev pub loaded : ℕ → Result (List ℕ) (List ℕ)
  loaded n = then_made (load_supplied n) (λ s. Ok (printed_for false s))
