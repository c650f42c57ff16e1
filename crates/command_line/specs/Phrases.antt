-- What stands behind a program's file: phrases, in any order. A phrase is an option, with what it takes, or a word NAME=FILE.
use Rattle.std.specs.Prelude.{ℕ, zero, suc, List, [], ◌∷◌, map, Bool, true, ◌&&◌, ◌==◌, Option, None, Some, codes, if◌then◌else◌}
use Rattle.std.specs.Str.{bytes_eq}
use Rattle.river_plan.specs.Names.{count}
use Rattle.command_line.specs.Commands.{with_header, with_counts, with_script, with_workers, with_cap, with_start, with_input, with_tasks}
use Rattle.command_line.specs.Limits.{most_workers, most_cap, most_start}
use Rattle.command_line.specs.Words.{is_file, number_to, from_zero, in_word_of}
use Rattle.command_line.specs.declared.command.Command.{Command}
use Rattle.command_line.specs.declared.command.InWord.{InWord}

-- a phrase: how many words it takes behind its first, what of it may stand once alone, and the command that it makes of a command
-- that takes it
pub record Phrase : Type 0 where
  pub takes : ℕ
  pub once : List ℕ
  pub makes : Command → Option Command

-- an option of one word
abbrev pub option : List ℕ → (Command → Option Command) → Option Phrase
option word makes = Some (record { takes = 0; once = word; makes = makes })

-- the file of a script, which is the next word, as it is; it is not empty
abbrev pub script : List (List ℕ) → Option Phrase
script [] = None
script ([] ∷ words) = None
script ((c ∷ cs) ∷ words) = Some (record { takes = 1; once = codes "-r"; makes = with_script (c ∷ cs) })

-- the number that the next word writes, from 1 to the greatest that may stand there
abbrev pub number_ahead : ℕ → List (List ℕ) → Option ℕ
number_ahead most [] = None
number_ahead most (word ∷ words) = number_to most word

-- the same of a number from 0
abbrev pub zero_ahead : ℕ → List (List ℕ) → Option ℕ
zero_ahead most [] = None
zero_ahead most (word ∷ words) = from_zero most word

-- an option with the number behind it
abbrev pub with_number : List ℕ → (ℕ → Command → Option Command) → Option ℕ → Option Phrase
with_number word makes None = None
with_number word makes (Some n) = Some (record { takes = 1; once = word; makes = makes n })

-- the file of an input
abbrev pub input : Option InWord → Option Phrase
input None = None
input (Some w) = Some (record { takes = 0; once = w.name; makes = with_input w })

-- the phrase that words begin with; a word that begins with `-` is an option. `-L` says who runs the plan, as `-w` does: one of the two may
-- stand, and once
abbrev pub phrase_of : List (List ℕ) → Option Phrase
phrase_of [] = None
phrase_of (word ∷ behind) =
    if bytes_eq word (codes "-H") then option word with_header
    else if bytes_eq word (codes "-c") then option word with_counts
    else if bytes_eq word (codes "-r") then script behind
    else if bytes_eq word (codes "-w") then with_number word with_workers (number_ahead most_workers behind)
    else if bytes_eq word (codes "-q") then with_number word with_cap (number_ahead most_cap behind)
    else if bytes_eq word (codes "-s") then with_number word with_start (zero_ahead most_start behind)
    else if bytes_eq word (codes "-L") then option (codes "-w") with_tasks
    else if is_file word then input (in_word_of word)
    else None

abbrev pub one_more : Phrase → Option (List Phrase) → Option (List Phrase)
one_more p None = None
one_more p (Some ps) = Some (p ∷ ps)

-- the phrases of the words; the first `skip` words belong to the phrase before
abbrev pub phrases : ℕ → List (List ℕ) → Option (List Phrase)
phrases skip [] = Some []
phrases (suc skip) (word ∷ words) = phrases skip words
phrases zero (word ∷ words) = elim (phrase_of (word ∷ words)) [
  | None ↦ None
  | Some p ↦ one_more p (phrases p.takes words)
]

-- the command that phrases make, one after another, if it takes them all
abbrev pub made_by_phrases : List Phrase → Command → Option Command
made_by_phrases [] command = Some command
made_by_phrases (p ∷ ps) command = elim (p.makes command) [
  | None ↦ None
  | Some next ↦ made_by_phrases ps next
]

-- nothing stands twice
abbrev pub are_apart : List (List ℕ) → Bool
are_apart [] = true
are_apart (w ∷ ws) = (count w ws == 0) && are_apart ws

-- the words are phrases, of which none stands twice, and the command takes them
abbrev pub with_phrases : Command → Option (List Phrase) → Option Command
with_phrases command None = None
with_phrases command (Some ps) = if are_apart (map (λ p. p.once) ps) then made_by_phrases ps command else None
