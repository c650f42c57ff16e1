-- A program of the StreamIt language over a file that is cut into pieces that overlap.
use Rattle.std.specs.Prelude.{ℕ, Bool, List, [], ◌∷◌, ◌++◌, codes, Some}
use Rattle.stream_periods.specs.Pieces.{AreLong}
use Rattle.stream_periods.specs.Texts.{behind_line, first_lines, lines_behind}
use Rattle.stream_periods.specs.Walk.{Known}
use Rattle.stream_pieces.specs.Files.{AreSlices, AreStreamed, StreamMeans}
use Rattle.rate_code.specs.declared.overlap.Overlap.{Overlap}
use Rattle.rate_code.specs.Overlaps.{Overlaps}
use Rattle.lap_cuts.specs.Laps.{AreRecordLaps, LapsHeld}
use Rattle.lap_plan.specs.Overlap.{HasOverlap}

-- each piece but the last has so many periods
abbrev pub same_periods : ℕ → List (List ℕ) → List ℕ
same_periods k [] = []
same_periods k (x ∷ []) = []
same_periods k (x ∷ y ∷ ys) = k ∷ same_periods k (y ∷ ys)

-- Pieces of a file's records that overlap as is reckoned have whole periods and the reach behind them, and begin so many periods earlier.
abbrev pub OverlapsAreSlices : Type 0
OverlapsAreSlices =
    (a : Known) (size : ℕ) (o : Overlap) (is : Overlaps a size o) (recs : List (List (List ℕ))) (pieces : List (List ℕ)) → AreRecordLaps o.items o.step recs pieces
    → AreSlices a.period is.early (same_periods is.periods pieces) recs pieces × AreLong a.period is.early (same_periods is.periods pieces) recs

-- Of each text, behind its first line, so many lines are kept, of the last one all; and of those some are let go, of the first none.
abbrev pub kept_lines : ℕ → ℕ → ℕ → List (List ℕ) → List ℕ
kept_lines keep let_go gone [] = []
kept_lines keep let_go gone (t ∷ []) = lines_behind gone (behind_line t)
kept_lines keep let_go gone (t ∷ u ∷ us) = lines_behind gone (first_lines keep (behind_line t)) ++ kept_lines keep let_go let_go (u ∷ us)

-- The text of a program has such an overlap, the file is cut so into pieces, and each is run. The lines that are kept are what the program means
-- for the whole file, which may have any number of records.
abbrev pub LapsGiveTheWhole : Type 0
LapsGiveTheWhole =
    (text bytes : List ℕ) (skip_first : Bool) (size : ℕ) (o : Overlap) (pieces outs : List (List ℕ))
    → HasOverlap text size o
    → LapsHeld (Some bytes) skip_first o.items o.step (Some []) (Some pieces)
    → AreStreamed text pieces outs
    → StreamMeans text bytes skip_first (codes "# out\n" ++ kept_lines o.keep o.let_go 0 outs)
