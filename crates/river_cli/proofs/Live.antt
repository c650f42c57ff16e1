-- Words of a run by tasks that wait.
use Rattle.std.proofs.Common.{◌≡◌, ℕ, List, false, refl, ap, ◌∙◌}
use Rattle.std.specs.Prelude.{Option, Some, None, Result, IsErrOf}
use Rattle.command_line.specs.Commands.{by_tasks, is_live, live_words, if_by_tasks}
use Rattle.command_line.specs.Sentences.{command_of}
use Rattle.command_line.specs.declared.command.Command.{Command}
use Rattle.command_line.specs.declared.command.Command.TheVariants.{Run, Plan, Mean, Upgrade, Load, Free}
use Rattle.command_line.specs.declared.command.RunBy.{RunBy}
use Rattle.command_line.specs.declared.command.RunBy.TheVariants.{Workers, Tasks}
use Rattle.command_line.specs.declared.command.RunWords.{RunWords}
use Rattle.river_outside.specs.Held.{Held}
use Rattle.river_outside.specs.Decides.{Decides}
use Rattle.river_outside.specs.Passes.{Passes}
use Rattle.river_outside.specs.declared.stop.Stop.{Stop}
use Rattle.river_outside.specs.declared.stop.Stop.TheVariants as stop
use Rattle.river_road.specs.Points.{of_run}
use Rattle.river_cli.specs.Points.{source_in, takes_more, of_command, points_of, live_asked}
use Rattle.river_cli.proofs.Points.{run-answers, command-decides, never-usage}

by_none : (by : RunBy) (w : RunWords) → None ≡ if_by_tasks by w → by_tasks by ≡ false
by_none (Workers n) w e = refl
by_none Tasks w e = cc e

command_now : (command : Command) → None ≡ live_words command → is_live command ≡ false
command_now (Run w) e = by_none w.by w e
command_now (Plan lang file script) e = refl
command_now (Mean lang file ins header) e = refl
command_now (Upgrade file) e = refl
command_now (Load number) e = refl
command_now (Free w) e = refl

-- where no such run is asked for, no command is one
pub none-now : (words : List (List ℕ)) → None ≡ live_asked (command_of words) → (command : Command) → command_of words ≡ Some command
    → is_live command ≡ false
none-now words none command is = command_now command (none ∙ ap live_asked is)

by_some : (by : RunBy) (v w : RunWords) → Some w ≡ if_by_tasks by v → v ≡ w
by_some (Workers n) v w e = cc e
by_some Tasks v w e = cc e

command_some : (command : Command) (w : RunWords) → Some w ≡ live_words command → command ≡ Run w
command_some (Run v) w e = ap (λ (u : RunWords). Run u) (by_some v.by v w e)
command_some (Plan lang file script) w e = cc e
command_some (Mean lang file ins header) w e = cc e
command_some (Upgrade file) w e = cc e
command_some (Load number) w e = cc e
command_some (Free v) w e = cc e

asked_some : (asked : Option Command) (w : RunWords) → Some w ≡ live_asked asked → asked ≡ Some (Run w)
asked_some None w e = cc e
asked_some (Some command) w e = ap (λ (c : Command). Some c) (command_some command w e)

-- where one is, what it gives decides
pub live-decides : (words : List (List ℕ)) (w : RunWords) (held : Option Held) (rose : Type 0) (result : Result (List ℕ) Stop)
    → Some w ≡ live_asked (command_of words) → Passes (of_run (source_in w.lang) (takes_more w.lang) w) held rose result
    → Decides (points_of words) held rose result × (IsErrOf result stop.Usage → ⊥)
unfolding points_of
live-decides words w held rose result is passed =
    let answers = run-answers held rose w result passed in
    let asked : command_of words ≡ Some (Run w) = asked_some (command_of words) w is in
    (rw asked (command-decides (Run w) held rose result answers), never-usage (of_command (Run w)) held rose result answers)
