-- The names of the files of a work folder.
use Rattle.std.specs.Prelude.{◌≡◌, ℕ, ◌^◌, List, ◌++◌, Bool, true, ◌&&◌, nat_lt, codes, None, if◌then◌else◌, IsTrue}
use Rattle.std.specs.Fmt.{decimal}
use Rattle.river_outside.specs.Held.{Held}
use Rattle.piece_files.specs.Held.{HeldFiles}
use Rattle.piece_files.specs.declared.file.JobFile.{JobFile}
use Rattle.piece_files.specs.declared.file.JobFile.TheVariants as file

-- the name of a file in its folder
abbrev pub file_name : JobFile → List ℕ
file_name file.Program = codes "program"
file_name file.State = codes "state"
file_name file.List = codes "list"
file_name file.Kept = codes "kept"
file_name file.Mark = codes "mark"
file_name file.Whole = codes "whole"
file_name (file.Words job) = codes "words." ++ decimal job
file_name (file.Input job) = codes "in." ++ decimal job
file_name (file.Out job turn) = codes "out." ++ (decimal job ++ (codes "." ++ decimal turn))
file_name (file.Err job turn) = codes "err." ++ (decimal job ++ (codes "." ++ decimal turn))
file_name (file.Status job turn) = codes "status." ++ (decimal job ++ (codes "." ++ decimal turn))

-- the name of a file of the folder of this path
abbrev pub name_of : List ℕ → JobFile → List ℕ
name_of path file = path ++ (codes "/" ++ file_name file)

-- the numbers are such as a job and a try may have
abbrev pub numbers_fit : JobFile → Bool
numbers_fit file.Program = true
numbers_fit file.State = true
numbers_fit file.List = true
numbers_fit file.Kept = true
numbers_fit file.Mark = true
numbers_fit file.Whole = true
numbers_fit (file.Words job) = nat_lt job (2 ^ 64)
numbers_fit (file.Input job) = nat_lt job (2 ^ 64)
numbers_fit (file.Out job turn) = nat_lt job (2 ^ 64) && nat_lt turn (2 ^ 32)
numbers_fit (file.Err job turn) = nat_lt job (2 ^ 64) && nat_lt turn (2 ^ 32)
numbers_fit (file.Status job turn) = nat_lt job (2 ^ 64) && nat_lt turn (2 ^ 32)

-- what the folder of a path holds, where its files are among these: each file what stands under its name. A job that no number of 64 bits
-- counts has no files
abbrev pub held_in : List ℕ → Held → HeldFiles
held_in path held file = if numbers_fit file then held (name_of path file) else None

-- no two files have one name
abbrev pub NamesDiffer : Type 0
NamesDiffer = (path : List ℕ) (a b : JobFile) → IsTrue (numbers_fit a) → IsTrue (numbers_fit b) → name_of path a ≡ name_of path b → a ≡ b
