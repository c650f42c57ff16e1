-- A program of the StreamIt language over files of any size: its file is cut into pieces that overlap, it is run on each, and the lines of
-- what the runs print are put together.
use Rattle.std.specs.Prelude.{◌≡◌, ⊤, ℕ, zero, suc, ◌+◌, ◌-◌, ◌*◌, ◌≤◌, ℤ, Bool, false, List, [], ◌∷◌, ◌++◌, length, take, drop, codes, Some, Ok}
use Rattle.csv_streams.specs.Records.{csv_records}
use Rattle.csv_streams.specs.FilePieces.{EndsRecord, IsUnmarked}
use Rattle.csv_streams.specs.Rows.{headers, most_rows}
use Rattle.csv_streams.specs.Written.{WriteRows}
use Rattle.csv_streams.specs.Faults.{IsFaultOf}
use Rattle.csv_streams.specs.declared.fault.InFault.{InFault}
use Rattle.csv_cuts.specs.Faults.{IsFaultOfAll, IsOfRecord, HaveRows, moved}
use Rattle.streamit_model.specs.Meaning.{look, program_outputs}
use Rattle.streamit_model.specs.Plan.{plan_of}
use Rattle.streamit_front.specs.Meaning.{Accepted, compiled}
use Rattle.river_langs.specs.Sources.{first_of_rows}
use Rattle.stream_periods.specs.Periods.{Period}
use Rattle.stream_periods.specs.Pieces.{AreLong}
use Rattle.stream_periods.specs.Texts.{printed_values, text_of_pieces}
use Rattle.stream_periods.specs.Walk.{Known, Queues, walk, at_input}

-- A RUN

-- The text of a program is accepted, the file writes rows of one value, and this text is printed of what the program means for them.
pub record StreamMeans (text bytes : List ℕ) (skip_first : Bool) (out : List ℕ) : Type 0 where
  pub a : Accepted
  pub compiles : compiled text ≡ Ok a
  pub rows : List (List ℤ)
  pub written : WriteRows 1 false (drop (headers skip_first) (csv_records bytes)) rows
  pub is : out ≡ printed_values (program_outputs a.program (first_of_rows rows))

-- so a run prints, where the rows are not too many
pub record StreamPrints (text bytes : List ℕ) (skip_first : Bool) (out : List ℕ) : Type 0 where
  pub means : StreamMeans text bytes skip_first out
  pub few : length means.rows ≤ most_rows

-- THE PIECES

abbrev pub Records : Type 0
Records = List (List (List ℕ))

-- A piece has the records of its periods, and as many more as the program reaches for, and no header; each but the first begins some periods
-- earlier. The last one has the rest.
abbrev pub AreSlices : Period → ℕ → List ℕ → Records → List (List ℕ) → Type 0
AreSlices p early ks recs [] = ⊥
AreSlices p early [] recs (x ∷ []) = csv_records x ≡ recs
AreSlices p early [] recs (x ∷ y ∷ ys) = ⊥
AreSlices p early (k ∷ ks) recs (x ∷ xs) = (csv_records x ≡ take (k * p.takes + p.reach) recs) × AreSlices p early ks (drop ((k - early) * p.takes) recs) xs

-- What stands in a file between two places before which it may be cut has the records between them.
abbrev pub SlicesOfBytes : Type 0
SlicesOfBytes =
    (front piece rest : List ℕ) → EndsRecord front → IsUnmarked (piece ++ rest) → EndsRecord piece → IsUnmarked rest
    → csv_records piece ≡ take (length (csv_records piece)) (drop (length (csv_records front)) (csv_records (front ++ (piece ++ rest))))

-- each piece is run
abbrev pub AreStreamed : List ℕ → List (List ℕ) → List (List ℕ) → Type 0
AreStreamed text [] [] = ⊤
AreStreamed text [] (o ∷ os) = ⊥
AreStreamed text (x ∷ xs) [] = ⊥
AreStreamed text (x ∷ xs) (o ∷ os) = StreamPrints text x false o × AreStreamed text xs os

-- The lines that the runs print, put together, are what the program means for the whole file, which may have any number of records. The period
-- is reckoned on the plan of the program, operator by operator. First firings must have faded behind what is given for the periods by which
-- the pieces begin earlier.
abbrev pub StreamPiecesByPlan : Type 0
StreamPiecesByPlan =
    (text bytes : List ℕ) (skip_first : Bool) (a : Accepted) (known : Queues) (k : Known) (early : ℕ) (ks : List ℕ) (pieces outs : List (List ℕ))
    → compiled text ≡ Ok a
    → walk (plan_of a.stream).ops (at_input (codes "in")) ≡ Ok known
    → look known (codes "out") ≡ Some k
    → k.fades ≤ early * k.period.gives
    → AreSlices k.period early ks (drop (headers skip_first) (csv_records bytes)) pieces
    → AreLong k.period early ks (drop (headers skip_first) (csv_records bytes))
    → AreStreamed text pieces outs
    → StreamMeans text bytes skip_first (text_of_pieces k.period early ks outs)

-- FAULTS

-- the number of the record before which the piece behind so many pieces begins
abbrev pub begins_at : Period → ℕ → List ℕ → ℕ → ℕ
begins_at p early ks zero = 0
begins_at p early [] (suc n) = 0
begins_at p early (k ∷ ks) (suc n) = (k - early) * p.takes + begins_at p early ks n

-- The first pieces have rows alone, and the piece behind them has the fault of a record. That is the fault of the whole file, with the number
-- of the record in it.
abbrev pub StreamFaultIsTheWholes : Type 0
StreamFaultIsTheWholes =
    (bytes : List ℕ) (skip_first : Bool) (p : Period) (early : ℕ) (ks : List ℕ) (before : List (List ℕ)) (piece : List ℕ) (after : List (List ℕ)) (f : InFault)
    → AreSlices p early ks (drop (headers skip_first) (csv_records bytes)) (before ++ piece ∷ after)
    → AreLong p early ks (drop (headers skip_first) (csv_records bytes))
    → HaveRows 1 false false before
    → IsFaultOf piece 1 false false f
    → IsOfRecord f
    → IsFaultOfAll bytes 1 skip_first false (moved (headers skip_first + begins_at p early ks (length before)) f)
