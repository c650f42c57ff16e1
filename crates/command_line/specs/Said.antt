-- One phrase more of the words behind a program's file.
use Rattle.std.specs.Prelude.{ℕ, List, [], ◌∷◌, ◌++◌, ◌==◌, Bool, Option, None, Some, if◌then◌else◌}
use Rattle.river_plan.specs.Names.{count}
use Rattle.command_line.specs.Phrases.{Phrase}
use Rattle.command_line.specs.declared.command.Command.{Command}

-- what was said, and one thing more, if it was not said before
abbrev pub said_once : List ℕ → List (List ℕ) → Option (List (List ℕ))
said_once key said = if count key said == 0 then Some (said ++ key ∷ []) else None

-- the same, if the command takes it
abbrev pub said_fitting : Bool → List ℕ → List (List ℕ) → Option (List (List ℕ))
said_fitting fits key said = if fits then said_once key said else None

-- how many words a phrase took behind its first, and what was said and the command with it
pub record Grown : Type 0 where
  pub takes : ℕ
  pub said : List (List ℕ)
  pub command : Command

abbrev pub grown_if_taken : ℕ → Option Command → Option (List (List ℕ)) → Option Grown
grown_if_taken takes None said = None
grown_if_taken takes (Some command) None = None
grown_if_taken takes (Some command) (Some said) = Some (record { takes = takes; said = said; command = command })

abbrev pub with_phrase : Option Phrase → List (List ℕ) → Command → Option Grown
with_phrase None said command = None
with_phrase (Some p) said command = grown_if_taken p.takes (p.makes command) (said_once p.once said)
