-- What is printed of a free program is told by its journal.
use Rattle.std.specs.Prelude.{◌≡◌, ℕ, ℤ, ◌<◌, List, map}
use Rattle.river_base.specs.declared.item.Item as item
use Rattle.river_plan.specs.Forms.{decl_names}
use Rattle.free_model.specs.declared.fired.Fired.{Fired}
use Rattle.free_model.specs.Forms.{FreeForm, cell_names}
use Rattle.free_model.specs.Laws.{firings}
use Rattle.free_model.specs.Machine.{State, Run, IsComplete, start}
use Rattle.free_model.specs.Rounds.{IsJournal}
use Rattle.free_model.specs.Valid.{IsFree}
use Rattle.free_runs.specs.Texts.{printed_free, free_text}

-- The text is that of the journal and of the state to which it leads: the outputs and the last cells are those of this state. The journal is a
-- complete run. There is no other
pub record PrintsJournal (p : FreeForm) (workers : ℕ) (picks : List ℤ) (inputs : List (List item.Item)) (text : List ℕ) : Type 0 where
  pub journal : List Fired
  pub last : State
  pub journal_is : IsJournal p workers picks inputs journal last
  pub run : Run p (start p inputs) (firings journal) last
  pub complete : IsComplete p last
  pub only : (other : List Fired) (s : State) → IsJournal p workers picks inputs other s → (other ≡ journal) × (s ≡ last)
  pub prints : text ≡ printed_free p (map last.hist (decl_names p.outputs)) (map last.cells (cell_names p.cells)) journal

-- there is a journal for each valid program, all rows, one worker or more, and all picks, and it is printed
abbrev pub JournalIsPrinted : Type 0
JournalIsPrinted =
    (p : FreeForm) (workers : ℕ) (picks : List ℤ) (inputs : List (List item.Item)) → IsFree p → 0 < workers
    → PrintsJournal p workers picks inputs (free_text p workers picks inputs)
