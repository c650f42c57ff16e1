-- Tallies in pieces, by calls of `river` alone.
use Rattle.std.specs.Prelude.{◌≡◌, ⊤, ℕ, Bool, false, List, [], ◌∷◌, Ok}
use Rattle.saw_model.specs.Meaning.{tables_in}
use Rattle.saw_front.specs.Meaning.{Accepted, program_in, compiled}
use Rattle.csv_cuts.specs.Cut.{AreCut}
use Rattle.piece_merge.specs.Added.{IsMergeOf}
use Rattle.river_pieces.specs.Whole.{Means}
use Rattle.run_pieces.specs.Ran.{Ran}

-- for each piece a call ran the program on it, the first alone with a header, if there is one
abbrev pub AreRun : List ℕ → Bool → List (List ℕ) → List (List ℕ) → Type 0
AreRun text skip_first [] [] = ⊤
AreRun text skip_first [] (o ∷ os) = ⊥
AreRun text skip_first (x ∷ xs) [] = ⊥
AreRun text skip_first (x ∷ xs) (o ∷ os) = Ran text x skip_first o × AreRun text false xs os

-- A file is cut where it may be, a call of `river` runs the program on each piece, and what the calls wrote is merged: the rows of each
-- table are added to one table, and the tables are printed. This is what the program means for the whole file, which may have any number
-- of records, as may its tables of rows.
abbrev pub RiverGivesTheWhole : Type 0
RiverGivesTheWhole =
    (text bytes : List ℕ) (skip_first : Bool) (a : Accepted) (pieces outs : List (List ℕ)) (merge : List ℕ)
    → compiled text ≡ Ok a
    → AreCut bytes skip_first pieces
    → AreRun text skip_first pieces outs
    → IsMergeOf (tables_in (program_in a)) outs merge
    → Means text bytes skip_first merge
