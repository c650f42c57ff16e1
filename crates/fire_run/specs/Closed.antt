-- What a net gave, once it is closed.
use Rattle.std.proofs.Common.{Vec, Global}
use Rattle.std.specs.Prelude.{◌≡◌, ℕ, pos, ◌+◌, ◌*◌, ◌<◌, ◌≤◌, List, [], length, map, Some, slice_get}
use Rattle.river_base.specs.Bags.{SameBag}
use Rattle.river_base.specs.Places.{list_at}
use Rattle.river_base.specs.declared.item.Item as item
use Rattle.kern_tables.specs.declared.kept.Aggregate.{Aggregate}
use Rattle.kern_tables.specs.Kept.{kept_of, rows_of}
use Rattle.river_plan.specs.Forms.{Name, OpForm, PlanForm, queue_names}
use Rattle.river_plan.specs.Places.{place}
use Rattle.river_plan.specs.declared.plan.TableDecl.{TableDecl}
use Rattle.river_plan.specs.Valid.{IsPlan}
use Rattle.brooklet_model.specs.Bounded.{Capacities}
use Rattle.brooklet_model.specs.Fire.{tabs}
use Rattle.brooklet_model.specs.Histories.{History, hist, given_on, firings, lengths}
use Rattle.brooklet_model.specs.Meaning.{meaning}
use Rattle.brooklet_step.specs.Tables.{defined_tables}
use Rattle.class_locks.specs.declared.log.LogEntry.{LogEntry}
use Rattle.class_locks.specs.Logs.{Holding, replay, rows_to}
use Rattle.fire_tasks.specs.Outlet as outlet
use Rattle.fire_tasks.specs.declared.task.Task.{Task}
use Rattle.fire_tasks.specs.Adds.{AreEntries, added, table_class}
use Rattle.fire_tasks.specs.Ports.{sent_of}
use Rattle.fire_tasks.specs.Layout.{IsStored}
use Rattle.fire_open.specs.Homes.{kinds_from}
use Rattle.fire_open.specs.Sources.{ComesBefore}
use Rattle.fire_run.specs.declared.closing.Ran.{Ran}
use Rattle.fire_run.specs.NetOf.{HasNetAt, AreIdle}

-- WHAT A RUN LEAVES

-- the log of a class
abbrev pub log_at : List (Vec LogEntry Global) → ℕ → List LogEntry
log_at logs c = list_at (map (λ (l : Vec LogEntry Global). l.items) logs) c

-- a log for each class of tables. The rows of one operator to one of its tables are those defined, as a bag, and in order where it has one
-- input; no other operator stands in a log
pub record AreLogsOf (p : PlanForm) (inputs : List (List item.Item)) (logs : List (Vec LogEntry Global)) : Type 0 where
  pub all : (n : ℕ) → n < length p.tables → table_class p n < length logs
  pub used : (c : ℕ) → c < length logs → (n : ℕ) × (n < length p.tables) × (table_class p n ≡ c)
  pub bags : (o k : ℕ) (op : OpForm) → slice_get p.ops o ≡ Some op → k < tabs op.kernel
      → SameBag (added p (log_at logs) o k) ((given_on op (hist p inputs)).adds k)
  pub rows : (o k : ℕ) (op : OpForm) → slice_get p.ops o ≡ Some op → k < tabs op.kernel → length op.reads ≡ 1
      → added p (log_at logs) o k ≡ (given_on op (hist p inputs)).adds k
  pub entries : AreEntries p (log_at logs)

-- each table keeps what its class's log makes of it
abbrev pub AreReplayed : PlanForm → (ℕ → List LogEntry) → List Aggregate → Type 0
AreReplayed p logs tables = (n : ℕ) (t : TableDecl) → slice_get p.tables n ≡ Some t
    → slice_get tables n ≡ Some (kept_of t.kind (rows_to n (logs (table_class p n))))

-- the outputs, the tables and the counts are what the plan means on these inputs; the logs tell where the rows come from; and the rounds
-- are at most 1 more than twice the items of the histories
pub record IsRanOf (p : PlanForm) (inputs : List (List item.Item)) (ran : Ran) : Type 0 where
  pub outs : ran.outcome.outs ≡ (meaning p inputs).outs
  pub tables : ran.outcome.tables ≡ defined_tables p inputs
  pub rows : map rows_of ran.outcome.tables ≡ (meaning p inputs).tables
  pub counts : ran.outcome.counts ≡ map pos (firings p inputs)
  pub logs : AreLogsOf p inputs ran.logs
  pub replayed : AreReplayed p (log_at ran.logs) ran.outcome.tables
  pub rounds : ran.rounds ≤ 1 + 2 * lengths (hist p inputs) (queue_names p)

-- the logs are those of these cells, class by class and entry by entry
abbrev pub AreLogsIn : List Holding → List (Vec LogEntry Global) → Type 0
AreLogsIn cells logs = map (λ (l : Vec LogEntry Global). l.items) logs ≡ map (λ (x : Holding). x.log) cells

-- the net that was closed is one of this plan, these inputs and these capacities, queue by queue, and it came to its end; what was run has
-- its logs
pub record HasClosed (p : PlanForm) (inputs : List (List item.Item)) (caps : Capacities) (ran : Ran) : Type 0 where
  pub valid : IsPlan p
  pub has : HasNetAt p inputs caps ran.net.value
  pub idle : AreIdle ran.net.value.tasks
  pub logs : AreLogsIn ran.net.value.cells ran.logs

-- OUTPUTS

-- of the outputs that are written at ports before this one the lines are the histories; the others' lines are empty
pub record AreOuts (p : PlanForm) (h : History) (o j : ℕ) (lines : List (List item.Item)) : Type 0 where
  pub many : length lines ≡ length p.outputs
  pub each : (o' j' : ℕ) (op : OpForm) (q : Name) → ComesBefore o j o' j' → slice_get p.ops o' ≡ Some op → slice_get op.writes j' ≡ Some q
      → place (queue_names p) q < length lines → list_at lines (place (queue_names p) q) ≡ h q
  pub rest : (n : ℕ) → ((o' j' : ℕ) (op : OpForm) (q : Name) → ComesBefore o j o' j' → slice_get p.ops o' ≡ Some op → slice_get op.writes j' ≡ Some q
      → place (queue_names p) q ≡ n → ⊥) → list_at lines n ≡ []

-- the task of operator o sent these histories from port j on, and kept those of outputs
pub record HasOuts (p : PlanForm) (h : History) (o j : ℕ) (outs : List outlet.Outlet) : Type 0 where
  pub many : (op : OpForm) → slice_get p.ops o ≡ Some op → length outs ≡ length op.writes
  pub each : (j' : ℕ) (op : OpForm) (q : Name) (f : outlet.Outlet) → j ≤ j' → slice_get p.ops o ≡ Some op → slice_get op.writes j' ≡ Some q
      → slice_get outs j' ≡ Some f → (sent_of f ≡ h q) × (place (queue_names p) q < length p.outputs → IsStored f)

-- they are those of some histories
pub record OutsGo (p : PlanForm) (o : ℕ) (outs : List outlet.Outlet) (lines : List (List item.Item)) : Type 0 where
  pub h : History
  pub lines_are : AreOuts p h o 0 lines
  pub outs_are : HasOuts p h o 0 outs

-- so it is for all tasks from number o on
pub record HaveOuts (p : PlanForm) (h : History) (o : ℕ) (ts : List Task) : Type 0 where
  pub many : length ts ≡ length p.ops
  pub each : (o' : ℕ) (t : Task) → o ≤ o' → slice_get ts o' ≡ Some t → HasOuts p h o' 0 t.outs

-- TABLES

-- the tables at a class
abbrev pub tables_at : List (Vec Aggregate Global) → ℕ → List Aggregate
tables_at lists c = list_at (map (λ (l : Vec Aggregate Global). l.items) lists) c

-- each of these tables stands in the list of its class, in order, as the class's log left it
pub record AreInClassLists (class : ℕ → ℕ) (logs : ℕ → List LogEntry) (decls : List TableDecl) (lists : List (Vec Aggregate Global)) : Type 0 where
  pub there : (m : ℕ) → m < length decls → class m < length lists
  pub each : (c : ℕ) → c < length lists → tables_at lists c ≡ map (replay (logs c)) (kinds_from class c 0 decls)

-- the tables from number n on stand at their places
pub record ArePlaced (class : ℕ → ℕ) (logs : ℕ → List LogEntry) (n : ℕ) (decls : List TableDecl) (tables : List Aggregate) : Type 0 where
  pub many : length tables ≡ length decls
  pub each : (m : ℕ) (t : TableDecl) → n ≤ m → slice_get decls m ≡ Some t → slice_get tables m ≡ Some (replay (logs (class m)) (m, t.kind))
