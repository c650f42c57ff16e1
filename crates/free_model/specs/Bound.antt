-- How many firings can still come: a number that falls at each of them.
use Rattle.std.specs.Prelude.{ℕ, ◌+◌, ◌-◌, ◌*◌, ◌^◌, ◌<◌, List, [], ◌∷◌, length}
use Rattle.river_plan.specs.Forms.{Name}
use Rattle.free_model.specs.Forms.{FreeOpForm, FreeForm}
use Rattle.free_model.specs.Valid.{IsFree}
use Rattle.free_model.specs.Machine.{State, Step}

-- the rows of these queues that are not taken
abbrev pub rows_left : State → List Name → ℕ
rows_left s [] = 0
rows_left s (q ∷ qs) = (length (s.hist q) - s.taken q) + rows_left s qs

-- the rows that are not taken, each counted 16385 times for each operator behind its reader: a body gives at most 16384 rows, and these
-- to operators behind its own
abbrev pub firings_left : List FreeOpForm → State → ℕ
firings_left [] s = 0
firings_left (op ∷ ops) s = rows_left s op.reads * 16385 ^ length ops + firings_left ops s

-- each firing of a valid program lowers it
abbrev pub FiringsCountDown : Type 0
FiringsCountDown = (p : FreeForm) (s m : State) (o port : ℕ) → IsFree p → Step p s o port m → firings_left p.ops m < firings_left p.ops s
