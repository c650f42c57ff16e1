-- What is told on the error output, and the status that goes with it.
use Rattle.std.specs.Prelude.{◌≡◌, ◌⊎◌, ℕ, List, [], ◌∷◌, ◌++◌, codes, Option}
use Rattle.std.specs.Fmt.{decimal}
use Rattle.std.specs.Io.KnownBytes.{append_known}
use Rattle.river_outside.specs.Taken.{TookPart}
use Rattle.piece_work.specs.declared.fault.WorkFault.{WorkFault}
use Rattle.piece_work.specs.declared.fault.WorkFault.TheVariants as why

-- where the words are no sentence
abbrev pub usage_text : List ℕ
usage_text = codes "usage: pieces begin DIR SIZE sawzall PROGRAM in=FILE [-H] [--keep FOLDER] | next DIR [--keep FOLDER] | print DIR\n"

-- where a step was not done
abbrev pub fault_line : WorkFault → List ℕ
fault_line why.Absent = codes "pieces: there is no such file\n"
fault_line why.Unread = codes "pieces: a file could not be read\n"
fault_line why.Large = codes "pieces: a file is too large, or has no place for a cut\n"
fault_line why.NoMemory = codes "pieces: there is no memory\n"
fault_line why.Unwritten = codes "pieces: what was to be written was not\n"
fault_line why.Program = codes "pieces: the program is refused\n"
fault_line why.Other = codes "pieces: a job printed what no run of the program does\n"

abbrev pub fault_status : WorkFault → ℕ
fault_status why.Absent = 3
fault_status why.Unread = 3
fault_status why.Large = 3
fault_status why.NoMemory = 5
fault_status why.Unwritten = 4
fault_status why.Program = 1
fault_status why.Other = 3

-- where a job did not come in three tries; what its last try told stands behind it
abbrev pub lost_text : ℕ → List ℕ → List ℕ
lost_text job told = codes "pieces: job " ++ (decimal job ++ (codes " did not come whole, 3 times\n" ++ told))

-- where a job was refused: what is told of it; a job that told nothing has a word too
abbrev pub refused_text : List ℕ → List ℕ
refused_text [] = codes "pieces: a job was refused, and told nothing\n"
refused_text (c ∷ cs) = c ∷ cs

-- where what is kept is of another file, header or program, so that all records are run
abbrev pub changed_text : List ℕ
changed_text = codes "pieces: what is kept is not of this file and program: all of it is run\n"

-- WHAT A SINK TOOK, where it tells it: `old` and `new` are what it had taken before and has taken then

abbrev pub TookNothing : Option (List ℕ) → Option (List ℕ) → Type 0
TookNothing old new = new ≡ old

abbrev pub TookText : List ℕ → Option (List ℕ) → Option (List ℕ) → Type 0
TookText text old new = new ≡ append_known old text

-- A sink took the whole text, and this is the status; or its count of faults rose, which says `rose`, it took a proper front, and the status is 4.
abbrev pub Told : List ℕ → ℕ → Option (List ℕ) → Option (List ℕ) → Type 0 → ℕ → Type 0
Told text end old new rose status = ((status ≡ end) × TookText text old new) ⊎ ((status ≡ 4) × rose × TookPart text old new)

-- so of what is said of a fault
abbrev pub ToldFault : WorkFault → Option (List ℕ) → Option (List ℕ) → Type 0 → ℕ → Type 0
ToldFault fault old new rose status = Told (fault_line fault) (fault_status fault) old new rose status
