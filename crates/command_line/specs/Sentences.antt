-- Which words are a sentence, and the command that they ask for.
use Rattle.std.specs.Prelude.{ℕ, List, [], ◌∷◌, false, Option, None, Some, option_map, codes, ◌&&◌, if◌then◌else◌}
use Rattle.std.specs.Str.{bytes_eq}
use Rattle.command_line.specs.Phrases.{phrases, with_phrases}
use Rattle.command_line.specs.Words.{lang_named, is_file, number_to}
use Rattle.command_line.specs.declared.command.Command.{Command}
use Rattle.command_line.specs.declared.command.Command.TheVariants.{Run, Plan, Mean, Upgrade, Load, Free}
use Rattle.command_line.specs.declared.command.FreeWords.{FreeWords}
use Rattle.command_line.specs.declared.command.Lang.{Lang}
use Rattle.command_line.specs.declared.command.RunBy.TheVariants.{Workers}
use Rattle.command_line.specs.declared.command.RunWords.{RunWords}

-- a run of a program with nothing else behind it: by one worker, with queues that hold 64 items
abbrev pub plain_run : Lang → List ℕ → RunWords
plain_run lang file = record { lang = lang; file = file; ins = []; script = None; by = Workers 1; cap = 64; header = false; counts = false }

-- the same of a free program: one firing a round, and picks that begin with 0
abbrev pub plain_free : List ℕ → FreeWords
plain_free file = record { file = file; ins = []; workers = 1; start = 0; header = false }

-- the command that a word names, with a program and nothing else
abbrev pub plain : List ℕ → Lang → List ℕ → Option Command
plain word lang file =
    if bytes_eq word (codes "run") then Some (Run (plain_run lang file))
    else if bytes_eq word (codes "mean") then Some (Mean lang file [] false)
    else if bytes_eq word (codes "plan") then Some (Plan lang file None)
    else None

abbrev pub with_words : List (List ℕ) → Option Command → Option Command
with_words words None = None
with_words words (Some command) = with_phrases command (phrases 0 words)

-- `COMMAND LANG FILE` and what stands behind it
abbrev pub asked : List ℕ → Option Lang → List ℕ → List (List ℕ) → Option Command
asked word None file words = None
asked word (Some lang) file words = if is_file file then with_words words (plain word lang file) else None

-- `load N`, with N from 1 to 100,000
abbrev pub asked_load : List ℕ → List ℕ → Option Command
asked_load word number = if bytes_eq word (codes "load") then option_map (λ n. Load n) (number_to 100000 number) else None

-- `upgrade FILE`
abbrev pub asked_upgrade : List ℕ → List ℕ → Option Command
asked_upgrade word file = if bytes_eq word (codes "upgrade") && is_file file then Some (Upgrade file) else None

-- two words
abbrev pub asked_two : List ℕ → List ℕ → Option Command
asked_two word behind = if bytes_eq word (codes "load") then asked_load word behind else asked_upgrade word behind

-- words of which the first is not `free`
abbrev pub asked_other : List ℕ → List ℕ → List (List ℕ) → Option Command
asked_other word second [] = asked_two word second
asked_other word second (file ∷ words) = asked word (lang_named second) file words

-- `free FILE` and what stands behind it
abbrev pub asked_free : List ℕ → List (List ℕ) → Option Command
asked_free file words = if is_file file then with_words words (Some (Free (plain_free file))) else None

abbrev pub asked_any : List ℕ → List ℕ → List (List ℕ) → Option Command
asked_any word second words = if bytes_eq word (codes "free") then asked_free second words else asked_other word second words

-- the command that the words ask for, if they are a sentence
abbrev pub command_of : List (List ℕ) → Option Command
command_of (word ∷ second ∷ words) = asked_any word second words
command_of words = None
