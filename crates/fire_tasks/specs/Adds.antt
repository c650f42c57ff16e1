-- What operators added to tables, read off the logs of the lock classes.
use Rattle.std.specs.Prelude.{◌≡◌, ℕ, ℤ, pos, negsuc, ◌%◌, Option, Some, None, List, [], ◌++◌, map, All, slice_get, slice_index_or}
use Rattle.std.specs.List.Sorted.{IsStrictlyIncreasing}
use mathlib.Core.Option.{some}
use lib.ListN.{get_elem?}
use Rattle.river_base.specs.Places.{list_at}
use Rattle.plan_classes.specs.Classes.{class_of}
use Rattle.plan_classes.specs.Numbered.{class_numbers}
use Rattle.river_plan.specs.declared.plan.TableDecl.{TableDecl}
use Rattle.river_plan.specs.Forms.{OpForm, PlanForm, table_names}
use Rattle.river_plan.specs.Places.{places}
use Rattle.plan_classes.specs.Users.{table_users}
use Rattle.brooklet_model.specs.Histories.{tables_of}
use Rattle.class_locks.specs.declared.log.LogEntry.{LogEntry}
use Rattle.class_locks.specs.declared.view.View.{View}
use Rattle.class_locks.specs.declared.view.Claim.{Claim}
use Rattle.class_locks.specs.Logs.{Holding, HasKind, rows_to, part_of_op}
use Rattle.class_locks.specs.Views.{StandsIn, own}
use Rattle.fire_tasks.specs.declared.task.TablePort.{TablePort}

-- TABLES AND CLASSES BY NUMBERS

-- the numbers of an operator's tables, in the order of its kernel: their places among the tables of the plan
abbrev pub table_numbers : PlanForm → Option OpForm → List ℕ
table_numbers p None = []
table_numbers p (Some op) = places (table_names p.tables) (tables_of (table_names p.tables) op)

-- the number of the table at port j of operator number o
abbrev pub table_at : PlanForm → ℕ → ℕ → ℕ
table_at p o j = slice_index_or (table_numbers p (slice_get p.ops o)) j 0

abbrev pub natural_of : ℤ → ℕ
natural_of (pos n) = n
natural_of (negsuc n) = 0

-- the lock class of a table, by the table's number
abbrev pub table_class : PlanForm → ℕ → ℕ
table_class p n = natural_of (class_of (class_numbers (table_users p)) n)

-- there is a cell for the class of each table, and the table is in it
pub record AreCells (p : PlanForm) (cells : List Holding) : Type 0 where
  pub each : (n : ℕ) (t : TableDecl) → slice_get p.tables n ≡ Some t
      → (x : Holding) × (get_elem? cells (table_class p n) ≡ some x) × HasKind x.kinds n t.kind

-- where a task's rows go: the table of each of its ports by its number, with the place of the table's class among the task's classes,
-- which ascend; and each of these is the class of one of its tables
pub record AreHomes (p : PlanForm) (o : ℕ) (tables : List TablePort) (classes : List ℕ) : Type 0 where
  pub numbers : map (λ h. h.table) tables ≡ table_numbers p (slice_get p.ops o)
  pub places_are : (j : ℕ) (h : TablePort) → slice_get tables j ≡ Some h → slice_get classes h.place ≡ Some (table_class p h.table)
  pub ascend : IsStrictlyIncreasing classes
  pub used : (i c : ℕ) → slice_get classes i ≡ Some c → (j : ℕ) × (h : TablePort) × (slice_get tables j ≡ Some h) × (c ≡ table_class p h.table)

-- LOGS

-- the rows of operator o to the table of this number, in order
abbrev pub rows_by : ℕ → ℕ → List LogEntry → List (List ℤ)
rows_by o table log = rows_to table (part_of_op o log)

-- the rows that operator o added to the table at its port j, in order, where the classes have these logs
abbrev pub added : PlanForm → (ℕ → List LogEntry) → ℕ → ℕ → List (List ℤ)
added p logs o j = rows_by o (table_at p o j) (logs (table_class p (table_at p o j)))

-- the log of each class, in these cells
abbrev pub logs_of : List Holding → ℕ → List LogEntry
logs_of cells c = list_at (map (λ (x : Holding). x.log) cells) c

-- the log of each class as the seat of operator o knows it: what the round began with, and what the seat put there of the operator's part
abbrev pub logs_at : View → ℕ → ℕ → List LogEntry
logs_at v o c = logs_of v.starts c ++ own v.seats (o % v.seats) c v.claims

-- the operator of the entry has the entry's table, which is of this class
pub record IsEntryOf (p : PlanForm) (c : ℕ) (e : LogEntry) : Type 0 where
  pub op : OpForm
  pub op_is : slice_get p.ops e.op ≡ Some op
  pub port : ℕ
  pub table : slice_get (table_numbers p (Some op)) port ≡ Some e.table
  pub class : table_class p e.table ≡ c

-- so it is for each entry of these logs, class by class, and for each claim
abbrev pub AreEntries : PlanForm → (ℕ → List LogEntry) → Type 0
AreEntries p logs = (c : ℕ) → All (IsEntryOf p c) (logs c)

abbrev pub AreClaims : PlanForm → List Claim → Type 0
AreClaims p claims = All (λ q. IsEntryOf p q.class q.entry) claims

-- each claim of a seat belongs to one of its parts
abbrev pub AreOwn : View → Type 0
AreOwn v = All (λ q. StandsIn (q.entry.op % v.seats) v.parts) v.claims
