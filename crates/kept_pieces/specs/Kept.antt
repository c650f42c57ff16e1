-- What is kept of a file that grows.
use Rattle.std.specs.Prelude.{◌≡◌, ℕ, ◌+◌, ◌≤◌, Bool, false, List, [], ◌∷◌, ◌++◌, length, Ok}
use Rattle.work_code.specs.Steps.{Steps}
use Rattle.csv_streams.specs.FilePieces.{EndsRecord, IsUnmarked}
use Rattle.csv_streams.specs.Records.{csv_records}
use Rattle.csv_streams.specs.Rows.{headers}
use Rattle.csv_streams.specs.declared.fault.InFault.{InFault}
use Rattle.csv_cuts.specs.Cut.{AreCut}
use Rattle.csv_cuts.specs.Faults.{IsOfRecord, moved, records_of}
use Rattle.piece_keep.specs.Fronts.{bytes_in}
use Rattle.piece_merge.specs.Added.{IsMergeOf}
use Rattle.river_pieces.specs.Refused.{HasFaultOfAll, HasFileFault}
use Rattle.river_pieces.specs.Whole.{ArePrinted, Means}
use Rattle.saw_text.specs.Grammar.{IsText}
use Rattle.saw_text.specs.Tree.{Program}
use Rattle.saw_model.specs.Elaborate.{At}
use Rattle.saw_model.specs.Judged.{judged}
use Rattle.saw_model.specs.Meaning.{tables_in}

-- The tables that are kept of these bytes are what the program means for them; the bytes end with a record, and have the header, if there is one.
pub record IsKeptOf (text bytes : List ℕ) (header : Bool) (kept : List ℕ) : Type 0 where
  pub means : Means text bytes header kept
  pub ends : EndsRecord bytes
  pub begins : headers header ≤ length (csv_records bytes)

-- A file is cut into more than one piece, and the program is run on each but the last. What these runs printed, merged, may be kept of the bytes of these pieces.
abbrev pub FrontIsKept : Type 0
FrontIsKept =
    (text bytes : List ℕ) (header : Bool) (p : Program) (read : Steps × At) (first : List ℕ) (more : List (List ℕ)) (last : List ℕ) (outs : List (List ℕ)) (merge : List ℕ)
    → IsText text p → judged p ≡ Ok read
    → AreCut bytes header ((first ∷ more) ++ (last ∷ []))
    → ArePrinted text header (first ∷ more) outs
    → IsMergeOf (tables_in p) outs merge
    → (bytes ≡ bytes_in (first ∷ more) ++ last) × IsKeptOf text (bytes_in (first ∷ more)) header merge

-- Something is kept of a file that has grown by bytes before which no byte-order mark stands. These are cut, and the program is run on each piece but the last. What
-- is kept and what these runs printed, merged, may be kept of the file as far as the last piece.
pub record GoesOn (text old new : List ℕ) (header : Bool) (fronts : List (List ℕ)) (last next : List ℕ) : Type 0 where
  pub is : old ++ new ≡ (old ++ bytes_in fronts) ++ last
  pub kept : IsKeptOf text (old ++ bytes_in fronts) header next

abbrev pub KeptGoesOn : Type 0
KeptGoesOn =
    (text old new : List ℕ) (header : Bool) (kept : List ℕ) (p : Program) (read : Steps × At) (first : List ℕ) (more : List (List ℕ)) (last : List ℕ)
    (outs : List (List ℕ)) (next : List ℕ)
    → IsText text p → judged p ≡ Ok read
    → IsKeptOf text old header kept
    → IsUnmarked new
    → AreCut new false ((first ∷ more) ++ (last ∷ []))
    → ArePrinted text false (first ∷ more) outs
    → IsMergeOf (tables_in p) (kept ∷ outs) next
    → GoesOn text old new header (first ∷ more) last next

-- A file has as many records as its pieces have together.
abbrev pub PiecesHaveTheRecords : Type 0
PiecesHaveTheRecords =
    (bytes : List ℕ) (header : Bool) (first : List ℕ) (more : List (List ℕ)) → AreCut bytes header (first ∷ more)
    → length (csv_records bytes) ≡ records_of (first ∷ more)

-- Something is kept of a file that has grown, and what it has grown by is cut. The program is run on the first pieces, and the piece behind them has the fault of a
-- record. Then the whole file has it, with the number of the record in the whole: those of the old part stand before it, and those of the first pieces.
abbrev pub GrownFaultIsTheWholes : Type 0
GrownFaultIsTheWholes =
    (text old new : List ℕ) (header : Bool) (kept : List ℕ) (before : List (List ℕ)) (piece : List ℕ) (after outs : List (List ℕ)) (f : InFault)
    → IsKeptOf text old header kept
    → IsUnmarked new
    → AreCut new false (before ++ piece ∷ after)
    → ArePrinted text false before outs
    → HasFileFault text piece false f
    → IsOfRecord f
    → HasFaultOfAll text (old ++ new) header (moved (length (csv_records old) + records_of before) f)
