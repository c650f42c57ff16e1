-- Words of which none is `-L`.
use Rattle.std.specs.Prelude.{◌≡◌, ℕ, List, All, false, Some, codes}
use Rattle.std.specs.Str.{bytes_eq}
use Rattle.command_line.specs.Commands.{is_live}
use Rattle.command_line.specs.Sentences.{command_of}
use Rattle.command_line.specs.declared.command.Command.{Command}

-- no word is `-L`
abbrev pub AreWithoutTasks : List (List ℕ) → Type 0
AreWithoutTasks words = All (λ word. bytes_eq word (codes "-L") ≡ false) words

-- then no run by tasks that wait is asked for
abbrev pub WithoutTasks : Type 0
WithoutTasks = (words : List (List ℕ)) → AreWithoutTasks words → (command : Command) → command_of words ≡ Some command → is_live command ≡ false
