-- The points of what a command does, and the calls that do them.
use Rattle.std.proofs.Common.{◌≡◌, ℕ, List, Bool, false, sym, subst}
use Rattle.std.specs.Prelude.{Option, Some, Result, Ok, Err}
use Rattle.river_outside.specs.Held.{Held}
use Rattle.river_outside.specs.Order.{Order, Fetch, Comes}
use Rattle.river_outside.specs.Decides.{Stops}
use Rattle.river_outside.specs.Passes.{past, Answers, AnswersAs, Passes, PassesAs}
use Rattle.river_outside.specs.declared.stop.Stop.{Stop}
use Rattle.river_outside.proofs.Comes.{Comes-on}
use Rattle.river_outside.proofs.Turns.{Stops-later}
use Rattle.river_outside.proofs.Passes.{past-refused, past-passes, then-passes}
use Rattle.river_plan.specs.Caps.{first_cap}
use Rattle.river_plan.specs.declared.caps.Cap.{Cap}
use Rattle.river_plan.specs.Forms.{PlanForm}
use Rattle.river_print.specs.Printed.{plan_text}
use Rattle.river_road.specs.Supplied.{Supplied, IsGathered, printed_for}
use Rattle.river_road.specs.Layouts.{layout_of}
use Rattle.river_road.specs.Inputs.{of_inputs}
use Rattle.river_road.specs.Limits.{most_program}
use Rattle.river_road.specs.Points.{of_program, of_supplied, of_meaning, of_scripted, of_gathered, of_show, of_shown, of_scripted_show, of_mean, of_upgrade, plan_as_shown}
use Rattle.river_road.specs.Source.{SourceProgram, IsPlanOf, IsPlanned, IsCompiled, printed}
use Rattle.river_road.specs.declared.language.Compiled.{Compiled}
use Rattle.river_road.specs.Text.{large_program}
use Rattle.river_road.specs.declared.content.FileContent.{FileContent}
use Rattle.river_road.specs.declared.gathered.Gathered.{Gathered}
use Rattle.command_line.specs.declared.command.InWord.{InWord}
use Rattle.command_line.specs.declared.command.RunWords.{RunWords}
use Rattle.river_road.specs.declared.layout.Layout.{Layout}
use Rattle.river_road.proofs.Scripts.{as_passed}

-- a point whose value stands for something, and the points after it
pub as-then : {A B C : Type 0} (stands : A → B → Type 0) (first : (A → Order) → Order) (second : A → (C → Order) → Order) (held : Option Held)
    (mid early late : Type 0)
    → (late → early) → (y : B) (result : Result C Stop) → PassesAs stands first held mid (Ok y) → ((x : A) → stands x y → Passes (second x) held late result)
    → Passes (λ next. first (λ x. second x next)) held early result
as-then stands first second held mid early late sooner y result here later =
    then-passes first second held early late sooner here.0 result here.2 (later here.0 here.1)

-- the same, where what comes after it stands for something too
pub as-then-as : {A B C D : Type 0} (stands : A → B → Type 0) (into : C → D → Type 0) (first : (A → Order) → Order)
    (second : A → (C → Order) → Order) (held : Option Held) (mid early late : Type 0) → (late → early) → (y : B) (result : Result D Stop)
    → PassesAs stands first held mid (Ok y) → ((x : A) → stands x y → PassesAs into (second x) held late result)
    → PassesAs into (λ next. first (λ x. second x next)) held early result
as-then-as stands into first second held mid early late sooner y (Ok z) here later =
    let there = later here.0 here.1 in (
      there.0,
      there.1,
      λ next. Comes-on (first (λ x. second x next)) (second here.0 next) (next there.0) held (here.2 (λ x. second x next)) (there.2 next),
    )
as-then-as stands into first second held mid early late sooner y (Err s) here later = λ next.
    Stops-later (first (λ x. second x next)) (second here.0 next) held early late sooner s (here.2 (λ x. second x next)) (later here.0 here.1 next)

-- THE PROGRAM

module _ (source_of : List ℕ → Result SourceProgram (List ℕ)) (file text : List ℕ) (held : Option Held) (rose : Type 0) where
  -- it was fetched, and compiled or refused
  pub program-passes : {C : Type 0} (stands : SourceProgram → C → Type 0) (result : Result C Stop)
      → ((next : List ℕ → Order) → Comes (Fetch file most_program large_program next) held (next text))
      → AnswersAs stands (source_of text) result → PassesAs stands (of_program source_of file) held rose result
  unfolding of_program
  program-passes stands (Ok c) here told =
      let s = as_passed stands (source_of text) c held told in (
        s.0,
        s.1,
        λ next. Comes-on (Fetch file most_program large_program (λ t. past (source_of t) next)) (past (source_of text) next) (next s.0) held
            (here (λ t. past (source_of t) next)) (s.2 next),
      )
  program-passes stands (Err s) here told = λ next.
      Stops-later (Fetch file most_program large_program (λ t. past (source_of t) next)) (past (source_of text) next) held rose rose (λ r. r) s
      (here (λ t. past (source_of t) next))
      (past-refused (source_of text) s held rose told next)

  -- it cannot be fetched
  pub program-stops : (s : Stop) → ((next : List ℕ → Order) → Stops (Some (Fetch file most_program large_program next)) held rose s)
      → (next : SourceProgram → Order) → Stops (Some (of_program source_of file next)) held rose s
  unfolding of_program
  program-stops s stops next = stops (λ t. past (source_of t) next)

-- THE COMMANDS

-- a text that was found is handed on
pub text-passes : (a b : List ℕ) (held : Option Held) (rose : Type 0) (result : Result (List ℕ) Stop) → a ≡ b → Answers (Ok a) result
    → Passes (λ next. next b) held rose result
text-passes a b held rose result same told = past-passes (Ok b) result held rose (subst (λ (t : List ℕ). Answers (Ok t) result) same told)

module _ (source_of : List ℕ → Result SourceProgram (List ℕ)) (file : List ℕ) (held : Option Held) where
  -- `plan` stops where its program does
  pub show-first : (script : Option (List ℕ)) (rose : Type 0) (s : Stop)
      → ((next : SourceProgram → Order) → Stops (Some (of_program source_of file next)) held rose s)
      → (next : List ℕ → Order) → Stops (Some (of_show source_of file script next)) held rose s
  unfolding of_show
  show-first script rose s stops next = stops (λ source. of_scripted_show script source next)

  -- `upgrade` stops where its program does
  pub upgrade-first : (rose : Type 0) (s : Stop) → ((next : SourceProgram → Order) → Stops (Some (of_program source_of file next)) held rose s)
      → (next : List ℕ → Order) → Stops (Some (of_upgrade source_of file next)) held rose s
  unfolding of_upgrade
  upgrade-first rose s stops next = stops (λ source. next (plan_text (first_cap source.caps) source.plan))

  module _ {P : Type 0} (stands : SourceProgram → P → Type 0) (c : Compiled P) (result : Result (List ℕ) Stop) where
    -- the program of `plan` was compiled
    pub show-last : (script : Option (List ℕ)) (mid early late : Type 0) → (late → early)
        → PassesAs (IsCompiled stands) (of_program source_of file) held mid (Ok c)
        → ((source : SourceProgram) → IsPlanned c.caps source c.plan → Passes (of_scripted_show script source) held late result)
        → Passes (of_show source_of file script) held early result
    unfolding of_show
    show-last script mid early late sooner here shows =
        as-then (IsCompiled stands) (of_program source_of file) (of_scripted_show script) held mid early late sooner c result here
        (λ source is. shows source is.planned)

    -- that of `upgrade` was
    pub upgrade-last : (rose : Type 0) → PassesAs (IsCompiled stands) (of_program source_of file) held rose (Ok c)
        → Answers (Ok (plan_text (first_cap c.caps) c.plan)) result → Passes (of_upgrade source_of file) held rose result
    unfolding of_upgrade
    upgrade-last rose here told =
        as-then (IsCompiled stands) (of_program source_of file)
        (λ (source : SourceProgram) (next : List ℕ → Order). next (plan_text (first_cap source.caps) source.plan)) held rose rose rose (λ r. r) c result here
        (λ source is.
        text-passes (plan_text (first_cap c.caps) c.plan) (plan_text (first_cap source.caps) source.plan) held rose result
        (λ i. plan_text (first_cap (is.planned.caps_are i)) (is.planned.plan.plan i)) told)

-- a plan is shown in place of that of the program
pub shown-passes : (caps : List Cap) (source : SourceProgram) (plan : PlanForm) (held : Option Held) (rose : Type 0) (result : Result (List ℕ) Stop)
    → IsPlanned caps source plan
    → Answers (Ok (plan_as_shown caps plan)) result → Passes (of_shown source) held rose result
shown-passes caps source plan held rose result is told =
    text-passes (plan_as_shown caps plan) (plan_as_shown source.caps source.plan) held rose result (λ i. plan_as_shown (is.caps_are i) (is.plan.plan i)) told

module _ (source_of : List ℕ → Result SourceProgram (List ℕ)) (more : Bool) (file : List ℕ) (held : Option Held) (ins : List InWord) (header : Bool) where
  -- `mean` that stops before its program is there
  pub mean-first : (rose : Type 0) (s : Stop) → ((next : SourceProgram → Order) → Stops (Some (of_program source_of file next)) held rose s)
      → (next : List ℕ → Order) → Stops (Some (of_mean source_of more file ins header next)) held rose s
  unfolding of_mean
  mean-first rose s stops next = stops (λ source. of_meaning ins (layout_of more header) source next)

  -- one that comes to its files
  pub mean-last : {C : Type 0} (stands : SourceProgram → C → Type 0) (mid early late : Type 0) → (late → early) → (c : C) (result : Result (List ℕ) Stop)
      → PassesAs stands (of_program source_of file) held mid (Ok c)
      → ((source : SourceProgram) → stands source c → Passes (of_meaning ins (layout_of more header) source) held late result)
      → Passes (of_mean source_of more file ins header) held early result
  unfolding of_mean
  mean-last stands mid early late sooner c result here over =
      as-then stands (of_program source_of file) (of_meaning ins (layout_of more header)) held mid early late sooner c result here over

module _ (source_of : List ℕ → Result SourceProgram (List ℕ)) (more : Bool) (w : RunWords) (held : Option Held) where
  -- `run` stops where its program does
  pub gathered-first : (rose : Type 0) (s : Stop) → ((next : SourceProgram → Order) → Stops (Some (of_program source_of w.file next)) held rose s)
      → (next : Supplied → Order) → Stops (Some (of_gathered source_of more w next)) held rose s
  unfolding of_gathered
  gathered-first rose s stops next = stops (λ source. of_scripted w.script w.ins (layout_of more w.header) source next)

  -- its program was compiled
  pub gathered-last : {P : Type 0} (stands : SourceProgram → P → Type 0) (mid early late : Type 0) → (late → early)
      → (c : Compiled P) (result : Result Gathered Stop)
      → PassesAs (IsCompiled stands) (of_program source_of w.file) held mid (Ok c)
      → ((source : SourceProgram) → IsPlanned c.caps source c.plan
      → PassesAs IsGathered (of_scripted w.script w.ins (layout_of more w.header) source) held late result)
      → PassesAs IsGathered (of_gathered source_of more w) held early result
  unfolding of_gathered
  gathered-last stands mid early late sooner c result here gathers =
      as-then-as (IsCompiled stands) IsGathered (of_program source_of w.file) (of_scripted w.script w.ins (layout_of more w.header)) held mid early late
      sooner c result here (λ source is. gathers source is.planned)

-- THE INPUTS

module _ (ins : List InWord) (layout : Layout) (source : SourceProgram) (plan : PlanForm) (held : Option Held) (is : IsPlanOf source plan) where
  -- its inputs stop it
  pub supplied-stops : (rose : Type 0) (s : Stop) → ((next : List FileContent → Order) → Stops (Some (of_inputs plan.inputs ins layout next)) held rose s)
      → (next : Supplied → Order) → Stops (Some (of_supplied ins layout source next)) held rose s
  unfolding of_supplied
  supplied-stops rose s stops next =
      subst (λ d. Stops (Some (of_inputs d ins layout (λ files. next (record { source = source; files = files })))) held rose s) is.inputs
      (stops (λ files. next (record { source = source; files = files })))

  -- they were read
  pub supplied-comes : (files : List FileContent) → ((next : List FileContent → Order) → Comes (of_inputs plan.inputs ins layout next) held (next files))
      → (next : Supplied → Order) → Comes (of_supplied ins layout source next) held (next (record { source = source; files = files }))
  unfolding of_supplied
  supplied-comes files comes next =
      subst
      (λ d. Comes (of_inputs d ins layout (λ fs. next (record { source = source; files = fs }))) held (next (record { source = source; files = files })))
      is.inputs (comes (λ fs. next (record { source = source; files = fs })))

  -- and its meaning is printed
  pub meaning-comes : (files : List FileContent) (text : List ℕ)
      → ((next : List FileContent → Order) → Comes (of_inputs plan.inputs ins layout next) held (next files)) → text ≡ printed source false files
      → (next : List ℕ → Order) → Comes (of_meaning ins layout source next) held (next text)
  meaning-comes files text comes says next =
      subst (λ t. Comes (of_meaning ins layout source next) held (next t)) (sym says) (supplied-comes files comes (λ s. next (printed_for false s)))

-- a plan that was gathered in place of a program, of which this is printed
pub printed-passes : (counted : Bool) (point : (Supplied → Order) → Order) (held : Option Held) (rose : Type 0) (g : Gathered) (text : List ℕ)
    → PassesAs IsGathered point held rose (Ok g) → ((s : Supplied) → IsGathered s g → text ≡ printed_for counted s)
    → (next : List ℕ → Order) → Comes (point (λ s. next (printed_for counted s))) held (next text)
printed-passes counted point held rose g text here says next =
    subst (λ t. Comes (point (λ s. next (printed_for counted s))) held (next t)) (sym (says here.0 here.1)) (here.2 (λ s. next (printed_for counted s)))
