-- The points of a command, and the calls that do them.
use Rattle.std.proofs.Common.{◌≡◌, ℕ, List, Bool, sym, subst}
use Rattle.std.specs.Prelude.{Option, Some, None, Result, Ok, Err, IsErrOf}
use Rattle.command_line.specs.declared.command.Command.{Command}
use Rattle.command_line.specs.declared.command.Command.TheVariants.{Run, Plan, Mean, Upgrade, Load, Free}
use Rattle.command_line.specs.declared.command.InWord.{InWord}
use Rattle.command_line.specs.declared.command.FreeWords.{FreeWords}
use Rattle.command_line.specs.declared.command.Lang.{Lang}
use Rattle.command_line.specs.declared.command.RunWords.{RunWords}
use Rattle.river_outside.specs.Held.{Held}
use Rattle.river_outside.specs.Order.{Order, Ends, Done}
use Rattle.river_outside.specs.Decides.{Decides, Stops}
use Rattle.river_outside.specs.Passes.{Answers, Passes, PassesAs}
use Rattle.river_outside.specs.declared.stop.Stop.{Stop}
use Rattle.river_outside.specs.declared.stop.Stop.TheVariants as stop
use Rattle.river_outside.proofs.Passes.{past-passes, passed-decides}
use Rattle.free_runs.specs.Points.{of_free}
use Rattle.river_langs.specs.Sources.{river_in, saw_in}
use Rattle.river_road.specs.Points.{of_gathered, of_run, loaded, of_show, of_mean, of_upgrade}
use Rattle.river_road.specs.Supplied.{IsGathered}
use Rattle.river_road.specs.declared.gathered.Gathered.{Gathered}
use Rattle.river_cli.specs.Points.{source_in, takes_more, of_command, ended}

-- what a command answers decides
pub command-decides : (command : Command) (held : Option Held) (rose : Type 0) (result : Result (List ℕ) Stop) → Passes (of_command command) held rose result
    → Decides (Some (ended command)) held rose result
unfolding ended
command-decides command held rose result passed = passed-decides (of_command command) held rose result passed

-- a point is no reason to tell the usage
pub never-usage : (point : (List ℕ → Order) → Order) (held : Option Held) (rose : Type 0) (result : Result (List ℕ) Stop) → Passes point held rose result
    → IsErrOf result stop.Usage → ⊥
never-usage point held rose (Ok text) passed is = absurd (cc is)
never-usage point held rose (Err s) passed is =
    let same : s ≡ stop.Usage = cc is in
    some_is_not_none (subst (λ (t : Stop). Stops (Some (point (λ text. Ends (Done text)))) held rose t) same (passed (λ text. Ends (Done text))))
  where
    some_is_not_none : Some (point (λ text. Ends (Done text))) ≡ None → ⊥
    some_is_not_none e = absurd (cc e)

-- each command does what it names
module _ (held : Option Held) (rose : Type 0) where
  -- what `run` gives is what its command asks for
  pub run-answers : (w : RunWords) (result : Result (List ℕ) Stop) → Passes (of_run (source_in w.lang) (takes_more w.lang) w) held rose result
      → Passes (of_command (Run w)) held rose result
  unfolding of_command
  run-answers w (Ok text) passed = passed
  run-answers w (Err s) passed = passed

  -- what `plan` gives is what its command asks for
  pub show-answers : (lang : Lang) (file : List ℕ) (script : Option (List ℕ)) (result : Result (List ℕ) Stop)
      → Passes (of_show (source_in lang) file script) held rose result → Passes (of_command (Plan lang file script)) held rose result
  unfolding of_command
  show-answers lang file script (Ok text) passed = passed
  show-answers lang file script (Err s) passed = passed

  -- what `mean` gives is what its command asks for
  pub mean-answers : (lang : Lang) (file : List ℕ) (ins : List InWord) (header : Bool) (result : Result (List ℕ) Stop)
      → Passes (of_mean (source_in lang) (takes_more lang) file ins header) held rose result
      → Passes (of_command (Mean lang file ins header)) held rose result
  unfolding of_command
  mean-answers lang file ins header (Ok text) passed = passed
  mean-answers lang file ins header (Err s) passed = passed

  -- what `upgrade` gives is what its command asks for
  pub upgrade-answers : (file : List ℕ) (result : Result (List ℕ) Stop) → Passes (of_upgrade river_in file) held rose result
      → Passes (of_command (Upgrade file)) held rose result
  unfolding of_command
  upgrade-answers file (Ok text) passed = passed
  upgrade-answers file (Err s) passed = passed

  -- what `free` gives is what its command asks for
  pub free-answers : (w : FreeWords) (result : Result (List ℕ) Stop) → Passes (of_free w) held rose result
      → Passes (of_command (Free w)) held rose result
  unfolding of_command
  free-answers w (Ok text) passed = passed
  free-answers w (Err s) passed = passed

  -- what is loaded is what the command asks for
  pub load-answers : (n : ℕ) (result : Result (List ℕ) Stop) → Answers (loaded saw_in n) result → Passes (of_command (Load n)) held rose result
  unfolding of_command
  load-answers n (Ok text) told = past-passes (loaded saw_in n) (Ok text) held rose told
  load-answers n (Err s) told = past-passes (loaded saw_in n) (Err s) held rose told

-- what is gathered in the language of the words is what they ask for
pub gather-answers : (w : RunWords) (lang : Lang) (held : Option Held) (rose : Type 0) (result : Result Gathered Stop) → w.lang ≡ lang
    → PassesAs IsGathered (of_gathered (source_in lang) (takes_more lang) w) held rose result
    → PassesAs IsGathered (of_gathered (source_in w.lang) (takes_more w.lang) w) held rose result
gather-answers w lang held rose result is passed =
    subst (λ (l : Lang). PassesAs IsGathered (of_gathered (source_in l) (takes_more l) w) held rose result) (sym is) passed
