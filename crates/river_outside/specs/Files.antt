-- Names and contents as a list.
use Rattle.std.specs.Prelude.{List, [], ◌∷◌, ℕ, Option, None, Some, if◌then◌else◌}
use Rattle.std.specs.Str.{bytes_eq}

-- the content under a name, the first where it stands twice
abbrev pub lookup : List (List ℕ × List ℕ) → List ℕ → Option (List ℕ)
lookup [] name = None
lookup (file ∷ files) name = if bytes_eq file.0 name then Some file.1 else lookup files name
