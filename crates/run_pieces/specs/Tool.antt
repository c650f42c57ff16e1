-- Tallies in pieces, by the pieces that are taken of a file, the calls of `river` on them, and the merge of what these wrote.
use Rattle.std.specs.Prelude.{◌≡◌, ℕ, ◌≤◌, Bool, false, List, [], ◌∷◌, ◌++◌, length, Some, Ok}
use Rattle.csv_cuts.specs.Cut.{TookPieces}
use Rattle.csv_streams.specs.FilePieces.{EndsRecord, IsUnmarked}
use Rattle.csv_streams.specs.Records.{csv_records}
use Rattle.csv_streams.specs.Rows.{headers}
use Rattle.piece_merge.specs.Added.{IsMergeOf}
use Rattle.river_pieces.specs.Whole.{Means}
use Rattle.saw_front.specs.Meaning.{Accepted, program_in, compiled}
use Rattle.saw_model.specs.Meaning.{tables_in}
use Rattle.run_pieces.specs.Whole.{AreRun}

-- The pieces that were taken of a file are run by calls of `river`, and what these wrote is merged. This is what the program means for
-- the whole file.
abbrev pub ToolGivesTheWhole : Type 0
ToolGivesTheWhole =
    (text bytes : List ℕ) (skip_first : Bool) (a : Accepted) (pieces outs : List (List ℕ)) (merge : List ℕ)
    → compiled text ≡ Ok a
    → TookPieces bytes skip_first (Some []) (Some pieces)
    → AreRun text skip_first pieces outs
    → IsMergeOf (tables_in (program_in a)) outs merge
    → Means text bytes skip_first merge

-- A file has grown, behind a place where a record ended. What the program means for its old part is kept. The new part alone is cut and run
-- by calls of `river`, and what these wrote is merged with what is kept, which comes first. This is what the program means for the whole of
-- the file.
abbrev pub ToolGivesTheGrown : Type 0
ToolGivesTheGrown =
    (text old new : List ℕ) (skip_first : Bool) (a : Accepted) (kept : List ℕ) (pieces outs : List (List ℕ)) (merge : List ℕ)
    → compiled text ≡ Ok a
    → Means text old skip_first kept
    → EndsRecord old → IsUnmarked new → headers skip_first ≤ length (csv_records old)
    → TookPieces new false (Some []) (Some pieces)
    → AreRun text false pieces outs
    → IsMergeOf (tables_in (program_in a)) (kept ∷ outs) merge
    → Means text (old ++ new) skip_first merge
