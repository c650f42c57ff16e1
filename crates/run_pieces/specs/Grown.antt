-- Tallies of a file that grows, by the calls of the program `pieces` that keep something, and those of `river`.
use Rattle.std.specs.Prelude.{◌≡◌, ◌⊎◌, ℕ, ◌-◌, ◌≤◌, Bool, List, length, take, drop, Option, Some, IsSome, IfSome}
use Rattle.csv_cuts.specs.Cut.{AreCut}
use Rattle.csv_streams.specs.Records.{csv_records}
use Rattle.kept_pieces.specs.Kept.{IsKeptOf}
use Rattle.piece_begin.specs.Grown.{HasGrown, begins_behind, begun_mark, extent_of, old_of}
use Rattle.piece_files.specs.Held.{HeldFiles}
use Rattle.piece_files.specs.declared.file.JobFile.TheVariants.{State, Kept, Mark}
use Rattle.piece_jobs.specs.Keeping.{HasKept}
use Rattle.piece_jobs.specs.Next.{IsNext}
use Rattle.piece_jobs.specs.UnderWay.{IsUnderWay}
use Rattle.piece_jobs.specs.declared.going_on.Next.TheVariants as next
use Rattle.piece_keep.specs.Found.{IsFoundIn, IsMarkOf, Keeps}
use Rattle.piece_keep.specs.Mark.{mark_text}
use Rattle.piece_keep.specs.declared.extent.Extent.{Extent}
use Rattle.piece_keep.specs.declared.found.Found.{Found}
use Rattle.run_pieces.specs.Driver.{AreCalls, TellsTheWhole, WritesTheWhole}

-- WHAT IS KEPT

-- these tables are what the program means for the first bytes of the file, so many as the extent says, which have so many records; a record ends there
pub record IsRightFor (text bytes : List ℕ) (header : Bool) (tables : List ℕ) (extent : Extent) : Type 0 where
  pub kept : IsKeptOf text (take extent.at bytes) header tables
  pub records : extent.records ≡ length (csv_records (take extent.at bytes))

-- What is trusted of sums: of whatever front of the file a mark is, what is kept under it is right for that front. Each call keeps what is right for the front of its
-- file, as is said below; and the SHA-256 of two fronts differ.
abbrev pub KeepsRight : List ℕ → List ℕ → Bool → HeldFiles → Type 0
KeepsRight text bytes header k =
    (mark tables : List ℕ) (extent : Extent) → Keeps k mark tables → IsMarkOf mark (Some bytes) header text tables extent → IsRightFor text bytes header tables extent

-- the folder keeps tables under the mark of some front of the file, and they are right for it
pub record KeepsFront (text bytes : List ℕ) (header : Bool) (k : HeldFiles) : Type 0 where
  pub tables : List ℕ
  pub extent : Extent
  pub within : extent.at ≤ length bytes
  pub tables_are : k Kept ≡ Some tables
  pub mark_is : k State ≡ Some (mark_text extent.at extent.records header (take extent.at bytes) text tables)
  pub right : IsRightFor text bytes header tables extent

-- THE WORK

-- The work on what a file has behind what was found is under way: that is cut into the pieces that are the records of the jobs, and the mark begins with that of the
-- front and of all jobs but the last.
pub record IsGrowing (text bytes : List ℕ) (header : Bool) (found : Found) (pieces : List (List ℕ)) (w : HeldFiles) : Type 0 where
  pub within : (extent_of found).at ≤ length bytes
  pub cut : AreCut (drop (extent_of found).at bytes) (begins_behind header found) pieces
  pub under_way : IsUnderWay text (begins_behind header found) (old_of found) pieces w
  pub mark : w Mark ≡ Some (begun_mark text header (take (extent_of found).at bytes) (extent_of found) w (length pieces - 1))

-- It is where a program has begun,
abbrev pub BegunIsGrowing : Type 0
BegunIsGrowing =
    (text bytes : List ℕ) (header : Bool) (found : Found) (w : HeldFiles)
    → HasGrown text (Some bytes) header (take (extent_of found).at bytes) (extent_of found) (begins_behind header found) (old_of found) w
    → (pieces : List (List ℕ)) × IsGrowing text bytes header found pieces w

-- and stays so where some jobs are to be run once more.
abbrev pub AgainStaysGrowing : Type 0
AgainStaysGrowing =
    (text bytes : List ℕ) (header : Bool) (found : Found) (pieces : List (List ℕ)) (w : HeldFiles) (w' : Option HeldFiles)
    → IsGrowing text bytes header found pieces w
    → IsNext w w' next.Again
    → IsSome w' × IfSome w' (λ v. IsGrowing text bytes header found pieces v)

-- WHAT COMES OF IT

-- Where the program `pieces` says that all is done, what it wrote to be printed is what the program means for the whole of the file.
abbrev pub DriverGivesTheGrown : Type 0
DriverGivesTheGrown =
    (text bytes : List ℕ) (header : Bool) (k : HeldFiles) (found : Found) (pieces : List (List ℕ)) (w : HeldFiles) (w' : Option HeldFiles)
    → IsFoundIn (Some bytes) header text k found
    → KeepsRight text bytes header k
    → IsGrowing text bytes header found pieces w
    → AreCalls text (begins_behind header found) w 1 pieces
    → IsNext w w' next.Done
    → WritesTheWhole text bytes header w w'

-- What it kept then is right for a front of the file, under the mark of that front; or the folder stays as it was.
abbrev pub DriverKeepsTheFront : Type 0
DriverKeepsTheFront =
    (text bytes : List ℕ) (header : Bool) (k : HeldFiles) (found : Found) (pieces : List (List ℕ)) (w : HeldFiles) (k' : Option HeldFiles)
    → IsFoundIn (Some bytes) header text k found
    → KeepsRight text bytes header k
    → IsGrowing text bytes header found pieces w
    → AreCalls text (begins_behind header found) w 1 pieces
    → HasKept w (Some k) k'
    → (k' ≡ Some k) ⊎ (IsSome k' × IfSome k' (KeepsFront text bytes header))

-- What it tells of a refused job is the fault that the whole of the file has, with the record's number in it; or the job told something else.
abbrev pub DriverTellsTheGrown : Type 0
DriverTellsTheGrown =
    (text bytes : List ℕ) (header : Bool) (k : HeldFiles) (found : Found) (pieces : List (List ℕ)) (w : HeldFiles) (w' : Option HeldFiles) (told : List ℕ)
    → IsFoundIn (Some bytes) header text k found
    → KeepsRight text bytes header k
    → IsGrowing text bytes header found pieces w
    → AreCalls text (begins_behind header found) w 1 pieces
    → IsNext w w' (next.Refused told)
    → TellsTheWhole text bytes header w told
