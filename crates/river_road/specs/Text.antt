-- The texts that are written besides the output of a program.
use Rattle.std.specs.Prelude.{ℕ, List, ◌++◌, codes}

-- a program is refused, and why
abbrev pub program_refused : List ℕ → List ℕ
program_refused words = codes "refused: program: " ++ (words ++ codes "\n")

abbrev pub large_program : List ℕ
large_program = codes "refused: program: Large\n"

-- a script is refused, and why
abbrev pub script_refused : List ℕ → List ℕ
script_refused words = codes "refused: " ++ (words ++ codes "\n")

abbrev pub large_script : List ℕ
large_script = codes "refused: script: Large\n"

-- an input is refused, and why
abbrev pub input_refused : List ℕ → List ℕ → List ℕ
input_refused name words = codes "refused: input " ++ (name ++ (codes ": " ++ (words ++ codes "\n")))

abbrev pub large_input : List ℕ → List ℕ
large_input name = input_refused name (codes "Large")

-- a name of the words that is no input, and an input that no word names
abbrev pub unknown_input : List ℕ → List ℕ
unknown_input name = input_refused name (codes "Unknown")

abbrev pub missing_input : List ℕ → List ℕ
missing_input name = input_refused name (codes "Missing")
