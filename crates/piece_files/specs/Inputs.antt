-- Pieces that are the records of jobs: the first those of job 1, and so on.
use Rattle.std.specs.Prelude.{◌≡◌, ⊤, ℕ, zero, suc, List, [], ◌∷◌, Bool, true, false, Option, None, Some}
use Rattle.csv_cuts.specs.Cut.{append_pieces}
use Rattle.piece_files.specs.Held.{HeldFiles}
use Rattle.piece_files.specs.declared.file.JobFile.{JobFile}
use Rattle.piece_files.specs.declared.file.JobFile.TheVariants as file

-- one piece more; none of it is known where the file holds nothing
abbrev pub with_file : Option (List (List ℕ)) → Option (List ℕ) → Option (List (List ℕ))
with_file pieces None = None
with_file pieces (Some piece) = append_pieces pieces (piece ∷ [])

-- the records of so many jobs from the first on, where each of their files holds some
abbrev pub inputs_of : HeldFiles → ℕ → Option (List (List ℕ))
inputs_of held zero = Some []
inputs_of held (suc n) = with_file (inputs_of held n) (held (file.Input (suc n)))

-- the same, where it is told what is held
abbrev pub inputs_told : Option HeldFiles → ℕ → Option (List (List ℕ))
inputs_told None n = None
inputs_told (Some held) n = inputs_of held n

-- the records of a job
abbrev pub is_input : JobFile → Bool
is_input file.Program = false
is_input file.State = false
is_input file.List = false
is_input file.Kept = false
is_input file.Mark = false
is_input file.Whole = false
is_input (file.Words job) = false
is_input (file.Input job) = true
is_input (file.Out job turn) = false
is_input (file.Err job turn) = false
is_input (file.Status job turn) = false

-- all files but records of jobs hold what they held, where it is told, before and after
abbrev pub OnlyInputs : Option HeldFiles → Option HeldFiles → Type 0
OnlyInputs None new = new ≡ None
OnlyInputs (Some old) None = ⊥
OnlyInputs (Some old) (Some new) = (other : JobFile) → is_input other ≡ false → new other ≡ old other

-- these are the records of the jobs from this number on
abbrev pub HaveInputs : HeldFiles → ℕ → List (List ℕ) → Type 0
HaveInputs held job [] = ⊤
HaveInputs held job (piece ∷ pieces) = (held (file.Input job) ≡ Some piece) × HaveInputs held (suc job) pieces
