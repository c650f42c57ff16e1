-- The rows of a firing, and the cells that they go to.
use Rattle.std.specs.Prelude.{◌≡◌, ℕ, ℤ, suc, ◌<◌, List, [], ◌∷◌, ◌++◌, Some, length, slice_get, slice_set, slice_index_or}
use Rattle.class_locks.specs.declared.log.LogEntry.{LogEntry}
use Rattle.class_locks.specs.Logs.{Holding, TakesRows}
use Rattle.fire_tasks.specs.declared.task.TablePort.{TablePort}
use Rattle.fire_tasks.specs.Turns.{entries_for}

-- a cell with these rows of operator o to a table
abbrev pub cell_grown : ℕ → ℕ → List (List ℤ) → Holding → Holding
cell_grown o table rows x = record x { log = x.log ++ entries_for o table rows }

-- each cell's log, with more entries for its class; the first of the cells has class c
abbrev pub cells_grown : (ℕ → List LogEntry) → ℕ → List Holding → List Holding
cells_grown more c [] = []
cells_grown more c (x ∷ xs) = record x { log = x.log ++ more c } ∷ cells_grown more (suc c) xs

-- for each port there is the cell of its table's class, and the rows have the table's width
pub record CanAddTo (tables : List TablePort) (classes : List ℕ) (rows : ℕ → List (List ℤ)) (cells : List Holding) : Type 0 where
  pub there : (j : ℕ) (h : TablePort) → slice_get tables j ≡ Some h → h.place < length classes
  pub each : (j : ℕ) (h : TablePort) → slice_get tables j ≡ Some h
      → (x : Holding) × (slice_get cells (slice_index_or classes h.place 0) ≡ Some x) × TakesRows x.kinds h.table (rows j)

abbrev pub no_cell : Holding
no_cell = record { kinds = []; log = [] }

-- the cells, with an entry for these rows of operator o at one class
abbrev pub cells_with_rows : ℕ → ℕ → ℕ → List (List ℤ) → List Holding → List Holding
cells_with_rows o table c rows cells = slice_set cells c (cell_grown o table rows (slice_index_or cells c no_cell))
