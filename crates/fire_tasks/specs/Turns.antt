-- Turns of a task at a seat, and why a task does not move.
use Rattle.std.specs.Prelude.{◌≡◌, ◌≢◌, ℕ, ℤ, suc, ◌%◌, ◌+◌, ◌<◌, ◌⊎◌, Bool, IsFalse, Some}
use Rattle.std.specs.Prelude.{None, List, [], ◌∷◌, ◌++◌, length, map, All, nat_eq, slice_get, slice_index_or, replicate, if◌then◌else◌}
use Rattle.river_plan.specs.declared.plan.TableDecl.{TableDecl}
use Rattle.river_base.specs.declared.item.Item as item
use Rattle.river_base.specs.Places.{append_at, list_at}
use Rattle.brooklet_step.specs.declared.emit.Emit.{Emit}
use Rattle.brooklet_step.specs.Reading.{FiredOp}
use Rattle.river_plan.specs.Forms.{PlanForm}
use Rattle.class_locks.specs.declared.log.LogEntry.{LogEntry}
use Rattle.class_locks.specs.declared.view.View.{View}
use Rattle.class_locks.specs.declared.view.Tried.{Tried}
use Rattle.class_locks.specs.Logs.{HasKind, TakesRows}
use Rattle.class_locks.specs.Piles.{Piled, FoundTaken}
use Rattle.class_locks.specs.Views.{StandsIn}
use Rattle.kern_tables.specs.Tables.{table_width}
use Rattle.fire_tasks.specs.declared.task.Task.{Task}
use Rattle.fire_tasks.specs.declared.task.TablePort.{TablePort}
use Rattle.fire_tasks.specs.Adds.{AreCells, AreClaims, AreOwn, added, logs_at, table_class}
use Rattle.fire_tasks.specs.Inlet as inlet
use Rattle.fire_tasks.specs.Ports.{HasMoved, in_ends, received_in}
use Rattle.fire_tasks.specs.Tasks.{ExtendsFronts, HasWord, IsTask, IsTaskAt, Waits, ends_of, moves}

-- ROWS

-- the task, but that the rows of its last firing are still in its lists
abbrev pub without_rows : Task → Task
without_rows t = record t { out = record { outs = t.out.outs; adds = replicate (length t.out.adds) [] } }

-- the rows are for the operator's tables, and have their widths
pub record AreRowsFor (p : PlanForm) (tables : List TablePort) (rows : ℕ → List (List ℤ)) : Type 0 where
  pub wide : (j : ℕ) (h : TablePort) → slice_get tables j ≡ Some h
      → (t : TableDecl) × (slice_get p.tables h.table ≡ Some t) × All (λ row. length row ≡ table_width t.kind) (rows j)

-- the task fired; where the rows in its lists are added too, port by port, it is a task again
pub record Owes (p : PlanForm) (adds : ℕ → List (List ℤ)) (t : Task) : Type 0 where
  pub task : IsTask p (λ j. adds j ++ list_at t.out.adds j) (without_rows t)
  pub many : length t.out.adds ≡ length t.tables
  pub rows : AreRowsFor p t.tables (list_at t.out.adds)

-- LOGS THAT GROW

-- the classes of a pile's cells
abbrev pub classes_of : List Piled → List ℕ
classes_of pile = map (λ (x : Piled). x.0) pile

-- each cell's log, with more entries for its class
abbrev pub pile_grown : (ℕ → List LogEntry) → List Piled → List Piled
pile_grown more pile = map (λ (x : Piled). (x.0, record x.1 { log = x.1.log ++ more x.0 })) pile

-- one entry for rows, and none where there are none
abbrev pub entries_for : ℕ → ℕ → List (List ℤ) → List LogEntry
entries_for o table [] = []
entries_for o table (r ∷ rs) = record { op = o; table = table; rows = r ∷ rs } ∷ []

-- a cell with these rows of operator o
abbrev pub cell_with_rows : ℕ → ℕ → List (List ℤ) → Piled → Piled
cell_with_rows o table rows x = (x.0, record x.1 { log = x.1.log ++ entries_for o table rows })

-- the entries of a firing of operator o for a class, port by port, where `classes` are those of the task
abbrev pub logged : ℕ → List ℕ → List TablePort → (ℕ → List (List ℤ)) → ℕ → List LogEntry
logged o classes [] rows c = []
logged o classes (h ∷ hs) rows c =
    (if nat_eq (slice_index_or classes h.place 0) c then entries_for o h.table (rows 0) else []) ++ logged o classes hs (λ j. rows (suc j)) c

-- for each port there is the cell of its table, and the rows have the table's width
pub record HasCells (tables : List TablePort) (rows : ℕ → List (List ℤ)) (pile : List Piled) : Type 0 where
  pub each : (j : ℕ) (h : TablePort) → slice_get tables j ≡ Some h
      → (x : Piled) × (slice_get pile h.place ≡ Some x) × TakesRows x.1.kinds h.table (rows j)

-- the cells of a pile have more entries, all of this operator
pub record HaveGained (o : ℕ) (pile pile' : List Piled) : Type 0 where
  pub more : ℕ → List LogEntry
  pub is : pile' ≡ pile_grown more pile
  pub own : (c : ℕ) → All (λ e. e.op ≡ o) (more c)

-- the cells of these classes, with the tables of the plan
pub record AreCellsOf (p : PlanForm) (classes : List ℕ) (pile : List Piled) : Type 0 where
  pub named : classes_of pile ≡ classes
  pub kinds : (i : ℕ) (x : Piled) → slice_get pile i ≡ Some x → (n : ℕ) (t : TableDecl) → slice_get p.tables n ≡ Some t → table_class p n ≡ x.0
      → HasKind x.1.kinds n t.kind

-- WHAT A TASK DOES

-- it received one item at a port and sent nothing; and unless the item failed its test, it fired on it there: its states and what is
-- pending are those of this firing, whose rows are in its lists
pub record HasFiredOn (p : PlanForm) (t t' : Task) : Type 0 where
  pub port : ℕ
  pub item : item.Item
  pub there : port < length t.ins
  pub received : received_in t'.ins ≡ append_at (received_in t.ins) port (item ∷ [])
  pub sent : t'.outs ≡ t.outs
  pub out : Emit
  pub fired : t'.bad ≡ None → FiredOp p t.op port item t.states t'.states out
  pub pends : t'.bad ≡ None → t'.pending ≡ out.outs
  pub rows : t'.bad ≡ None → t'.out.adds ≡ out.adds

-- it took an item at a port, and fired on it where its test held: it owes the rows
pub record HasFiredAt (p : PlanForm) (t t' : Task) : Type 0 where
  pub did : HasFiredOn p t t'
  pub owes : (adds : ℕ → List (List ℤ)) → IsTask p adds t → Owes p adds t'
  pub word : t'.bad ≡ None → (adds : ℕ → List (List ℤ)) (k : IsTask p adds t)
      → HasWord p (λ j. adds j ++ list_at t'.out.adds j) (without_rows t') (k.word ++ (did.port, did.item) ∷ [])
  pub ends : ends_of t' ≡ ends_of t
  pub goes_on : ExtendsFronts t t'
  pub one : moves t' ≡ moves t + 1
  pub homes : (t'.tables ≡ t.tables) × (t'.classes ≡ t.classes)

-- it took some items, and fired on them; their rows came to the cells of its classes
pub record HasTakenAt (p : PlanForm) (t t' : Task) (pile pile' : List Piled) : Type 0 where
  pub rows : ℕ → List (List ℤ)
  pub logs : pile' ≡ pile_grown (logged t.op t.classes t.tables rows) pile
  pub task : (adds : ℕ → List (List ℤ)) → IsTask p adds t → IsTask p (λ j. adds j ++ rows j) t'
  pub ends : ends_of t' ≡ ends_of t
  pub goes_on : ExtendsFronts t t'
  pub more : moves t < moves t'
  pub homes : (t'.tables ≡ t.tables) × (t'.classes ≡ t.classes)

-- AT A SEAT

-- the seat of the same round, with the same parts
pub record SameRound (v w : View) : Type 0 where
  pub seats : w.seats ≡ v.seats
  pub starts : w.starts ≡ v.starts
  pub parts : w.parts ≡ v.parts

-- the seat holds no class and has the operator's part, and the round's cells are those of the plan
pub record IsSeatOf (p : PlanForm) (o : ℕ) (v : View) : Type 0 where
  pub rests : v.held ≡ []
  pub part : StandsIn (o % v.seats) v.parts
  pub cells : AreCells p v.starts

-- what a turn of operator o makes of its seat: the other operators added nothing, each new claim is a right one that belongs to the seat's
-- parts, and tries may have come
pub record HasSat (p : PlanForm) (o : ℕ) (v w : View) : Type 0 where
  pub round : SameRound v w
  pub rests : w.held ≡ []
  pub others : (n : ℕ) → n ≢ o → (j : ℕ) → added p (logs_at w n) n j ≡ added p (logs_at v n) n j
  pub claims : AreClaims p v.claims → AreClaims p w.claims
  pub own : AreOwn v → AreOwn w
  pub more : List Tried
  pub takes : w.takes ≡ v.takes ++ more

-- why nothing moved: an item failed its test; or the task waits; or a try since v found one of its classes taken
abbrev pub IsStuckSince : View → View → Task → Type 0
IsStuckSince v w t = (t.bad ≡ None → ⊥) ⊎ (Waits t ⊎ FoundTaken t.classes v w)

-- a turn of a task at its seat, or several: `moved` says whether its number grew
pub record HasTurned (p : PlanForm) (v w : View) (t t' : Task) (moved : Bool) : Type 0 where
  pub task : IsTaskAt p w t'
  pub ends : ends_of t' ≡ ends_of t
  pub sat : HasSat p t.op v w
  pub goes_on : ExtendsFronts t t'
  pub number : HasMoved (moves t) (moves t') moved
  pub stuck : IsFalse moved → IsStuckSince v w t'

-- the seat of the same round holds no class, whether the turn was refused or not
pub record StillSits (v w : View) : Type 0 where
  pub round : SameRound v w
  pub rests : w.held ≡ []

-- a take under the locks: where the classes were there, an item was taken; and where one was not, nothing but tries came
pub record HasTried (p : PlanForm) (v w : View) (t t' : Task) (taken : Bool) : Type 0 where
  pub task : IsTaskAt p w t'
  pub ends : ends_of t' ≡ ends_of t
  pub sat : HasSat p t.op v w
  pub goes_on : ExtendsFronts t t'
  pub number : HasMoved (moves t) (moves t') taken
  pub found : IsFalse taken → FoundTaken t.classes v w
  pub stays : IsFalse taken → t' ≡ t

-- the same task, which looked at its rings
pub record LooksSame (t t' : Task) : Type 0 where
  pub ins : List inlet.Inlet
  pub is : t' ≡ record t { ins = ins }
  pub ends : in_ends ins ≡ in_ends t.ins
  pub received : received_in ins ≡ received_in t.ins
