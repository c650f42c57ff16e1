-- A program began to be run on what a file has behind what is kept of an earlier call.
use Rattle.std.specs.Prelude.{◌≡◌, ⊤, ℕ, ◌+◌, ◌-◌, ◌≤◌, Bool, true, false, List, [], ◌++◌, length, take, drop, Option, None, Some}
use Rattle.sha2.specs.Hashers.{Holds256}
use Rattle.csv_cuts.specs.Cut.{AreCut}
use Rattle.piece_files.specs.Held.{HeldFiles}
use Rattle.piece_files.specs.declared.file.JobFile.TheVariants as the_file
use Rattle.piece_jobs.specs.Jobs.{list_text, numbers_from, words_text}
use Rattle.piece_jobs.specs.Progress.{progress_text}
use Rattle.piece_jobs.specs.UnderWay.{IsUnderWay, OldPart, progress_of}
use Rattle.piece_keep.specs.Fed.{inputs_to, records_held}
use Rattle.piece_keep.specs.Found.{IsFoundIn}
use Rattle.piece_keep.specs.Mark.{front_text}
use Rattle.piece_keep.specs.declared.extent.Extent.{Extent}
use Rattle.piece_keep.specs.declared.found.Found.{Found}
use Rattle.piece_keep.specs.declared.found.Found.TheVariants as is
use Rattle.piece_work.specs.Held.{bytes_of}

-- WHAT WAS FOUND

-- how far it goes, and what is kept of it; nothing where the program is run anew on the whole file
abbrev pub extent_of : Found → Extent
extent_of is.Nothing = record { at = 0; records = 0 }
extent_of is.Changed = record { at = 0; records = 0 }
extent_of (is.This kept) = kept.front.extent

abbrev pub old_of : Found → Option OldPart
old_of is.Nothing = None
old_of is.Changed = None
old_of (is.This kept) = Some (record { tables = kept.tables; records = kept.front.extent.records })

-- whether what is behind it begins with the header
abbrev pub begins_behind : Bool → Found → Bool
begins_behind header is.Nothing = header
begins_behind header is.Changed = header
begins_behind header (is.This kept) = false

-- whether what was kept is of something else
abbrev pub is_changed : Found → Bool
is_changed is.Nothing = false
is_changed is.Changed = true
is_changed (is.This kept) = false

-- these are the bytes of its front: those that the hasher was fed with
abbrev pub HoldsFront : Found → List ℕ → Type 0
HoldsFront is.Nothing front = front ≡ []
HoldsFront is.Changed front = front ≡ []
HoldsFront (is.This kept) front = Holds256 kept.front.hasher front

-- WHAT STANDS IN THE FOLDER

-- what the mark begins with of what may be kept of this call: it is of the front, which goes so far, and of the records of so many jobs behind it
abbrev pub begun_mark : List ℕ → Bool → List ℕ → Extent → HeldFiles → ℕ → List ℕ
begun_mark text header front from w n =
    front_text (from.at + length (inputs_to w n)) (from.records + records_held w n) header (front ++ inputs_to w n) text

-- The folder has what the file was cut into behind its front, as the records of jobs, with the text of the program and what is kept of the front; the
-- work is under way, in the first try; the list has all jobs, in that try; each job has its words; and the mark begins with that of the front and of
-- all jobs but the last.
pub record HasGrown (text : List ℕ) (file : Option (List ℕ)) (header : Bool) (front : List ℕ) (from : Extent) (begins : Bool) (old : Option OldPart)
    (w : HeldFiles) : Type 0 where
  pub bytes : List ℕ
  pub pieces : List (List ℕ)
  pub file_is : file ≡ Some bytes
  pub within : from.at ≤ length bytes
  pub cut : AreCut (drop from.at bytes) begins pieces
  pub under_way : IsUnderWay text begins old pieces w
  pub first : w the_file.State ≡ Some (progress_text (progress_of begins old (length pieces) 1))
  pub list : w the_file.List ≡ Some (list_text 1 (numbers_from 1 (length pieces)))
  pub words : (job : ℕ) → 1 ≤ job → job ≤ length pieces → w (the_file.Words job) ≡ Some (words_text begins job)
  pub mark : w the_file.Mark ≡ Some (begun_mark text header front from w (length pieces - 1))

-- the same, where it is told what the folder held before; then it is told now
abbrev pub GrownIn : List ℕ → Option (List ℕ) → Bool → List ℕ → Extent → Bool → Option OldPart → Option HeldFiles → Option HeldFiles → Type 0
GrownIn text file header front from begins old None new = ⊤
GrownIn text file header front from begins old (Some before) None = ⊥
GrownIn text file header front from begins old (Some before) (Some w) = HasGrown text file header front from begins old w

-- WHAT COMES OF IT

-- the two files are there, this was found in the folder of what is kept, and the program began to be run behind it
pub record IsBegunKept (program file : Option (List ℕ)) (header : Bool) (k : HeldFiles) (changed : Bool) (old new : Option HeldFiles) : Type 0 where
  pub text : List ℕ
  pub program_is : program ≡ Some text
  pub found : Found
  pub found_is : IsFoundIn file header text k found
  pub changed_is : changed ≡ is_changed found
  pub grown : GrownIn text file header (take (extent_of found).at (bytes_of file)) (extent_of found) (begins_behind header found) (old_of found) old new
