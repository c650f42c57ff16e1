-- What is said of a file that could not be read.
use Rattle.std.specs.Prelude.{ℕ, List, ◌++◌, codes}

abbrev pub failed_text : List ℕ → List ℕ
failed_text file = codes "fault: read " ++ file ++ codes "\n"

abbrev pub absent_text : List ℕ → List ℕ
absent_text file = codes "fault: absent " ++ file ++ codes "\n"
