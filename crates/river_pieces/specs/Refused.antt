-- A run on a piece of a file is refused, and so is one on the whole.
use Rattle.std.specs.Prelude.{◌≡◌, ℕ, ◌+◌, ◌≤◌, Bool, true, List, ◌∷◌, ◌++◌, length, Ok, Err}
use Rattle.work_code.specs.Steps.{Steps}
use Rattle.csv_streams.specs.Records.{csv_records}
use Rattle.csv_streams.specs.Rows.{headers, most_rows, rows_of_file}
use Rattle.csv_streams.specs.declared.fault.InFault.{InFault}
use Rattle.csv_cuts.specs.Cut.{AreCut}
use Rattle.csv_cuts.specs.Faults.{IsFaultOfAll, IsOfRecord, moved, records_of, header_behind}
use Rattle.saw_text.specs.Grammar.{IsText}
use Rattle.saw_text.specs.Tree.{Program}
use Rattle.saw_model.specs.Elaborate.{At}
use Rattle.saw_model.specs.Judged.{judged}
use Rattle.saw_model.specs.Meaning.{width}
use Rattle.river_pieces.specs.Whole.{Means, ArePrinted}

-- The text of a program is accepted, and of the file no rows are read for it, since it has this fault.
pub record HasFileFault (text bytes : List ℕ) (skip_first : Bool) (f : InFault) : Type 0 where
  pub units : Program
  pub read : Steps × At
  pub is_text : IsText text units
  pub accepted : judged units ≡ Ok read
  pub fault : rows_of_file bytes (width units) skip_first true ≡ Err f

-- so it is without the limit on records: the fault is that of the file, however many records it has
pub record HasFaultOfAll (text bytes : List ℕ) (skip_first : Bool) (f : InFault) : Type 0 where
  pub units : Program
  pub read : Steps × At
  pub is_text : IsText text units
  pub accepted : judged units ≡ Ok read
  pub fault : IsFaultOfAll bytes (width units) skip_first true f

-- Where the file has no more records than one run takes, a run on it has that fault.
abbrev pub WholeHasFault : Type 0
WholeHasFault =
    (text bytes : List ℕ) (skip_first : Bool) (f : InFault)
    → HasFaultOfAll text bytes skip_first f → length (csv_records bytes) ≤ headers skip_first + most_rows → HasFileFault text bytes skip_first f

-- A file has one such fault at most, and where it has one the program means nothing for it.
abbrev pub OneFault : Type 0
OneFault =
    (text bytes : List ℕ) (skip_first : Bool) (f g : InFault) → HasFaultOfAll text bytes skip_first f → HasFaultOfAll text bytes skip_first g → f ≡ g

abbrev pub FaultOrMeaning : Type 0
FaultOrMeaning =
    (text bytes : List ℕ) (skip_first : Bool) (f : InFault) (out : List ℕ) → HasFaultOfAll text bytes skip_first f → Means text bytes skip_first out → ⊥

-- A file is cut, the program is run on the first pieces, and the piece behind them has the fault of a record, which is not that there
-- are too many. Then the whole file has that fault, with the number of the record in the whole: the records of the first pieces stand
-- before it, the header among them, if there is one.
abbrev pub FirstFaultIsTheWholes : Type 0
FirstFaultIsTheWholes =
    (text bytes : List ℕ) (skip_first : Bool) (before : List (List ℕ)) (piece : List ℕ) (after outs : List (List ℕ)) (f : InFault)
    → AreCut bytes skip_first (before ++ piece ∷ after)
    → ArePrinted text skip_first before outs
    → HasFileFault text piece (header_behind skip_first before) f
    → IsOfRecord f
    → HasFaultOfAll text bytes skip_first (moved (records_of before) f)
