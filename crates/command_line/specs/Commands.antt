-- What options and inputs make of a command; None where the command takes no such thing.
use Rattle.std.specs.Prelude.{◌≡◌, List, ℕ, [], ◌∷◌, ◌++◌, Bool, true, false, Option, None, Some}
use Rattle.command_line.specs.declared.command.Command.{Command}
use Rattle.command_line.specs.declared.command.Command.TheVariants.{Run, Plan, Mean, Upgrade, Load, Free}
use Rattle.command_line.specs.declared.command.InWord.{InWord}
use Rattle.command_line.specs.declared.command.RunBy.{RunBy}
use Rattle.command_line.specs.declared.command.RunBy.TheVariants.{Workers, Tasks}
use Rattle.command_line.specs.declared.command.RunWords.{RunWords}

-- `-H`: each input begins with a header
abbrev pub with_header : Command → Option Command
with_header (Run w) = Some (Run (record w { header = true }))
with_header (Plan lang file script) = None
with_header (Mean lang file ins header) = Some (Mean lang file ins true)
with_header (Upgrade file) = None
with_header (Load number) = None
with_header (Free w) = Some (Free (record w { header = true }))

-- `-c`: firings are counted
abbrev pub with_counts : Command → Option Command
with_counts (Run w) = Some (Run (record w { counts = true }))
with_counts (Plan lang file script) = None
with_counts (Mean lang file ins header) = None
with_counts (Upgrade file) = None
with_counts (Load number) = None
with_counts (Free w) = None

-- `-r`: the plan is rewritten by the script of this file
abbrev pub with_script : List ℕ → Command → Option Command
with_script name (Run w) = Some (Run (record w { script = Some name }))
with_script name (Plan lang file script) = Some (Plan lang file (Some name))
with_script name (Mean lang file ins header) = None
with_script name (Upgrade file) = None
with_script name (Load number) = None
with_script name (Free w) = None

-- `-w`: how many workers there are
abbrev pub with_workers : ℕ → Command → Option Command
with_workers n (Run w) = Some (Run (record w { by = Workers n }))
with_workers n (Plan lang file script) = None
with_workers n (Mean lang file ins header) = None
with_workers n (Upgrade file) = None
with_workers n (Load number) = None
with_workers n (Free w) = Some (Free (record w { workers = n }))

-- `-L`: the plan is run by tasks that wait
abbrev pub with_tasks : Command → Option Command
with_tasks (Run w) = Some (Run (record w { by = Tasks }))
with_tasks (Plan lang file script) = None
with_tasks (Mean lang file ins header) = None
with_tasks (Upgrade file) = None
with_tasks (Load number) = None
with_tasks (Free w) = None

-- `-q`: how many items a queue between two operators holds at most
abbrev pub with_cap : ℕ → Command → Option Command
with_cap n (Run w) = Some (Run (record w { cap = n }))
with_cap n (Plan lang file script) = None
with_cap n (Mean lang file ins header) = None
with_cap n (Upgrade file) = None
with_cap n (Load number) = None
with_cap n (Free w) = None

-- `-s`: the number with which the picks begin
abbrev pub with_start : ℕ → Command → Option Command
with_start n (Run w) = None
with_start n (Plan lang file script) = None
with_start n (Mean lang file ins header) = None
with_start n (Upgrade file) = None
with_start n (Load number) = None
with_start n (Free w) = Some (Free (record w { start = n }))

-- one input more
abbrev pub with_input : InWord → Command → Option Command
with_input input (Run w) = Some (Run (record w { ins = w.ins ++ input ∷ [] }))
with_input input (Plan lang file script) = None
with_input input (Mean lang file ins header) = Some (Mean lang file (ins ++ input ∷ []) header)
with_input input (Upgrade file) = None
with_input input (Load number) = None
with_input input (Free w) = Some (Free (record w { ins = w.ins ++ input ∷ [] }))

-- a command was made, and it is this one; or none was
abbrev pub MayMake : Bool → Option Command → Command → Type 0
MayMake true made command = made ≡ Some command
MayMake false made command = made ≡ None

-- a plan is run by tasks that wait
abbrev pub by_tasks : RunBy → Bool
by_tasks (Workers n) = false
by_tasks Tasks = true

-- a command is a run by tasks that wait
abbrev pub is_live : Command → Bool
is_live (Run w) = by_tasks w.by
is_live (Plan lang file script) = false
is_live (Mean lang file ins header) = false
is_live (Upgrade file) = false
is_live (Load number) = false
is_live (Free w) = false

-- the words of a run, if it is one by tasks that wait
abbrev pub if_by_tasks : RunBy → RunWords → Option RunWords
if_by_tasks (Workers n) w = None
if_by_tasks Tasks w = Some w

-- the words of a command that is a run by tasks that wait
abbrev pub live_words : Command → Option RunWords
live_words (Run w) = if_by_tasks w.by w
live_words (Plan lang file script) = None
live_words (Mean lang file ins header) = None
live_words (Upgrade file) = None
live_words (Load number) = None
live_words (Free w) = None
