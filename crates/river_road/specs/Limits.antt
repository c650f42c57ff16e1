-- The most bytes that a file may have.
use Rattle.std.specs.Prelude.{ℕ}

-- the bytes of a program
abbrev pub most_program : ℕ
most_program = 1048576

-- those of a script
abbrev pub most_script : ℕ
most_script = 65536

-- those of the file of an input
abbrev pub most_input : ℕ
most_input = 67108864
