-- The road from the words to the text: the points of a command, in order.
use Rattle.std.specs.Prelude.{ℕ, List, Bool, true, false, Option, None, Some, Result, option_map}
use Rattle.command_line.specs.Commands.{live_words}
use Rattle.command_line.specs.Sentences.{command_of}
use Rattle.command_line.specs.declared.command.Command.{Command}
use Rattle.command_line.specs.declared.command.Command.TheVariants.{Run, Plan, Mean, Upgrade, Load, Free}
use Rattle.command_line.specs.declared.command.Lang.{Lang}
use Rattle.command_line.specs.declared.command.Lang.TheVariants.{River, Streamit, Params, Sawzall, Cql}
use Rattle.command_line.specs.declared.command.RunWords.{RunWords}
use Rattle.free_runs.specs.Points.{of_free}
use Rattle.river_langs.specs.Sources.{river_in, streamit_in, params_in, saw_in, cql_in}
use Rattle.river_outside.specs.Order.{Order, Ends, Done}
use Rattle.river_outside.specs.Passes.{past}
use Rattle.river_road.specs.Points.{of_run, loaded, of_show, of_mean, of_upgrade}
use Rattle.river_road.specs.Source.{SourceProgram}

-- the program of a text in a language, or the text that refuses it
abbrev pub source_in : Lang → List ℕ → Result SourceProgram (List ℕ)
source_in River = river_in
source_in Streamit = streamit_in
source_in Params = params_in
source_in Sawzall = saw_in
source_in Cql = cql_in

-- a record may have further fields, which are not looked at
abbrev pub takes_more : Lang → Bool
takes_more River = false
takes_more Streamit = false
takes_more Params = false
takes_more Sawzall = true
takes_more Cql = false

-- the points of a command. Who runs a plan, and how much its queues hold, is no part of what is printed; how many workers run a free
-- program is. The text of `upgrade` is a River text, and the program of `load` is in Sawzall
unfoldable pub of_command : Command → (List ℕ → Order) → Order
of_command (Run w) next = of_run (source_in w.lang) (takes_more w.lang) w next
of_command (Plan lang file script) next = of_show (source_in lang) file script next
of_command (Mean lang file ins header) next = of_mean (source_in lang) (takes_more lang) file ins header next
of_command (Upgrade file) next = of_upgrade river_in file next
of_command (Load number) next = past (loaded saw_in number) next
of_command (Free w) next = of_free w next

-- at last the text is the output
unfoldable pub ended : Command → Order
ended command = of_command command (λ output. Ends (Done output))

-- the points of the words, if they are a sentence
unfoldable pub points_of : List (List ℕ) → Option Order
points_of words = option_map ended (command_of words)

-- the words of a run by tasks that wait, if that is what is asked for
abbrev pub live_asked : Option Command → Option RunWords
live_asked None = None
live_asked (Some command) = live_words command
