-- Tallies in pieces, by the calls of the program `pieces` and those of `river`.
use Rattle.std.specs.Prelude.{◌≡◌, ⊤, ℕ, suc, Bool, false, List, [], ◌∷◌, Option, None, Some, IsSome, IfSome}
use Rattle.csv_cuts.specs.Cut.{AreCut}
use Rattle.csv_cuts.specs.Faults.{IsOfRecord, moved}
use Rattle.csv_streams.specs.declared.fault.InFault.{InFault}
use Rattle.piece_files.specs.Held.{HeldFiles, Put}
use Rattle.piece_files.specs.declared.file.JobFile.TheVariants.{Whole, Err as Told}
use Rattle.piece_jobs.specs.Came.{CameWhole}
use Rattle.piece_jobs.specs.Next.{IsNext}
use Rattle.piece_jobs.specs.UnderWay.{IsUnderWay, OldPart}
use Rattle.piece_jobs.specs.declared.came.Ending.TheVariants.{Done}
use Rattle.piece_jobs.specs.declared.going_on.Next.TheVariants as next
use Rattle.piece_work.specs.Held.{bytes_of}
use Rattle.river_pieces.specs.Refused.{HasFaultOfAll}
use Rattle.river_pieces.specs.Whole.{Means}
use Rattle.run_pieces.specs.Ran.{Ran}
use Rattle.run_pieces.specs.Refused.{told_of}

-- What is trusted of the runs: of each job, from this one on, a try that came whole and ended with status 0 is a call of `river` that ran
-- the program on its records. The first of them may begin with the header.
abbrev pub AreCalls : List ℕ → Bool → HeldFiles → ℕ → List (List ℕ) → Type 0
AreCalls text header w job [] = ⊤
AreCalls text header w job (piece ∷ pieces) =
    ((turn : ℕ) (out err : List ℕ) → CameWhole w job turn Done out err → Ran text piece header out) × AreCalls text false w (suc job) pieces

-- what is to be printed is written, and it is what the program means for the whole file
pub record WritesTheWhole (text bytes : List ℕ) (header : Bool) (w : HeldFiles) (w' : Option HeldFiles) : Type 0 where
  pub out : List ℕ
  pub put : Put Whole out (Some w) w'
  pub means : Means text bytes header out

-- A file is cut into the pieces that are the records of the jobs of a folder, and the work in it is under way. Where the program `pieces`
-- says that all is done, what it wrote to be printed is what the program means for the whole file, which may have any number of records.
abbrev pub DriverGivesTheWhole : Type 0
DriverGivesTheWhole =
    (text bytes : List ℕ) (header : Bool) (pieces : List (List ℕ)) (w : HeldFiles) (w' : Option HeldFiles)
    → AreCut bytes header pieces
    → IsUnderWay text header None pieces w
    → AreCalls text header w 1 pieces
    → IsNext w w' next.Done
    → WritesTheWhole text bytes header w w'

-- Where it says that some jobs are to be run once more, the work is still under way.
abbrev pub AgainStaysUnderWay : Type 0
AgainStaysUnderWay =
    (text : List ℕ) (header : Bool) (old : Option OldPart) (pieces : List (List ℕ)) (w : HeldFiles) (w' : Option HeldFiles)
    → IsUnderWay text header old pieces w
    → IsNext w w' next.Again
    → IsSome w' × IfSome w' (λ v. IsUnderWay text header old pieces v)

-- What it tells of a refused job is what the whole file has: the fault of a record, with the record's number in the whole file. Or the
-- job told something else.
pub data TellsTheWhole (text bytes : List ℕ) (header : Bool) (w : HeldFiles) (told : List ℕ) : Type 0 where
  OfTheWhole : (f : InFault) → HasFaultOfAll text bytes header f → IsOfRecord f → told ≡ told_of f → TellsTheWhole text bytes header w told
  OfTheJob : (job turn : ℕ) → told ≡ bytes_of (w (Told job turn)) → TellsTheWhole text bytes header w told

abbrev pub DriverTellsTheWhole : Type 0
DriverTellsTheWhole =
    (text bytes : List ℕ) (header : Bool) (pieces : List (List ℕ)) (w : HeldFiles) (w' : Option HeldFiles) (told : List ℕ)
    → AreCut bytes header pieces
    → IsUnderWay text header None pieces w
    → AreCalls text header w 1 pieces
    → IsNext w w' (next.Refused told)
    → TellsTheWhole text bytes header w told
