-- A hasher that is fed with bytes of a file. `Holds` says of bytes that it was fed with them, and `before` is what it was fed with before.
use Rattle.std.specs.Prelude.{◌≡◌, ⊤, ℕ, zero, suc, ◌+◌, ◌≤◌, ◌==◌, Bool, false, List, [], ◌∷◌, ◌++◌, length, take, drop, Option, None, Some, IfSome, MatchOption}
use Rattle.csv_streams.specs.Records.{csv_records}
use Rattle.river_outside.specs.Fetched.{IsLarger}
use Rattle.piece_files.specs.Held.{HeldFiles}
use Rattle.piece_files.specs.Inputs.{HaveInputs}
use Rattle.piece_files.specs.declared.file.JobFile.TheVariants as file
use Rattle.piece_work.specs.Faults.{most_file}
use Rattle.piece_work.specs.Held.{bytes_of}
use Rattle.piece_work.specs.declared.fault.WorkFault.{WorkFault}
use Rattle.piece_work.specs.declared.fault.WorkFault.TheVariants as why
use Rattle.piece_keep.specs.Fronts.{bytes_in}
use Rattle.piece_keep.specs.declared.extent.Extent.{Extent}

-- the file has so many bytes, and they came behind those before; where there is no such file, none came
abbrev pub FedFront : (List ℕ → Type 0) → List ℕ → Option (List ℕ) → ℕ → Type 0
FedFront Holds before None at = (at ≡ 0) × Holds before
FedFront Holds before (Some bytes) at = (at ≤ length bytes) × Holds (before ++ take at bytes)

-- so many bytes of the file, from this place on, came behind those before
abbrev pub FedBlock : (List ℕ → Type 0) → List ℕ → Option (List ℕ) → ℕ → ℕ → Type 0
FedBlock Holds before None from count = ⊥
FedBlock Holds before (Some bytes) from count = (from + count ≤ length bytes) × Holds (before ++ take count (drop from bytes))

-- the byte at this place of the file, if it has one, is this one
abbrev pub is_first : List ℕ → ℕ → Bool
is_first [] byte = false
is_first (x ∷ xs) byte = x == byte

abbrev pub has_byte : Option (List ℕ) → ℕ → ℕ → Bool
has_byte file at byte = is_first (drop at (bytes_of file)) byte

-- THE RECORDS OF JOBS

-- those of a job, and those of so many jobs, from job 1 on
abbrev pub input_of : HeldFiles → ℕ → List ℕ
input_of w job = bytes_of (w (file.Input job))

abbrev pub inputs_to : HeldFiles → ℕ → List ℕ
inputs_to w zero = []
inputs_to w (suc n) = inputs_to w n ++ input_of w (suc n)

-- how many records so many jobs have, from the first on, with the header
abbrev pub records_held : HeldFiles → ℕ → ℕ
records_held w zero = 0
records_held w (suc n) = records_held w n + length (csv_records (input_of w (suc n)))

-- the records of the job came behind those before; they begin and end so far in the file
pub record FedInput (Holds : List ℕ → Type 0) (before : List ℕ) (w : HeldFiles) (job : ℕ) (from end : Extent) : Type 0 where
  pub ends : end.at ≡ from.at + length (input_of w job)
  pub counts : end.records ≡ from.records + length (csv_records (input_of w job))
  pub holds : Holds (before ++ input_of w job)

-- so of so many jobs
pub record FedInputs (Holds : List ℕ → Type 0) (before : List ℕ) (w : HeldFiles) (jobs : ℕ) (from end : Extent) : Type 0 where
  pub ends : end.at ≡ from.at + length (inputs_to w jobs)
  pub counts : end.records ≡ from.records + records_held w jobs
  pub holds : Holds (before ++ inputs_to w jobs)

-- why a hasher was not fed: the records of a job are not there, or more than are read; or the folder failed, which says `rose`
abbrev pub WhyUnfed : Option HeldFiles → Type 0 → WorkFault → Type 0
WhyUnfed held rose why.Absent = MatchOption held rose (λ w. (job : ℕ) × (w (file.Input job) ≡ None))
WhyUnfed held rose why.Unread = rose
WhyUnfed held rose why.Large = IfSome held (λ w. (job : ℕ) × IsLarger (w (file.Input job)) most_file)
WhyUnfed held rose why.NoMemory = ⊤
WhyUnfed held rose _ = ⊥

-- The records of all jobs but the last are the front of the file that was cut into them.
abbrev pub InputsAreFronts : Type 0
InputsAreFronts =
    (w : HeldFiles) (fronts : List (List ℕ)) (last : List ℕ) → HaveInputs w 1 (fronts ++ (last ∷ [])) → inputs_to w (length fronts) ≡ bytes_in fronts
