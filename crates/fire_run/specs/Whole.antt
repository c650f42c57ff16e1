-- What a finished net gave.
use Rattle.std.specs.Prelude.{◌≡◌, ℕ, ◌*◌, ◌<◌, ◌≤◌, List, [], length, Some, slice_get}
use Rattle.river_base.specs.Bags.{SameBag}
use Rattle.river_base.specs.Held.{held}
use Rattle.river_base.specs.Places.{list_at}
use Rattle.river_base.specs.declared.item.Item as item
use Rattle.river_plan.specs.Forms.{Name, OpForm, PlanForm, all_decls, queue_names}
use Rattle.river_plan.specs.Kinds.{kind_of}
use Rattle.river_plan.specs.Valid.{IsPlan}
use Rattle.brooklet_model.specs.Fire.{tabs}
use Rattle.brooklet_model.specs.Histories.{History, hist, given_on, firings_of, lengths}
use Rattle.brooklet_model.specs.Bounded.{Capacities}
use Rattle.class_locks.specs.Logs.{Holding}
use Rattle.fire_tasks.specs.declared.task.Task.{Task}
use Rattle.fire_tasks.specs.Adds.{AreEntries, added, logs_of}
use Rattle.fire_tasks.specs.Ports.{sent_in}
use Rattle.fire_tasks.specs.Tasks.{all_moves}
use Rattle.fire_run.specs.declared.net.Net.{Net}
use Rattle.fire_run.specs.NetOf.{IsNetOf, AreIdle}

-- what queues hold for the defined histories
abbrev pub sent_hist : PlanForm → List (List item.Item) → History
sent_hist p inputs q = held (kind_of (all_decls p) q) [] (hist p inputs q)

-- each task sent what each queue that it writes holds for the defined history, and fired as often as is defined; the rows of each
-- operator in the logs are those defined for each of its tables, as a bag, and in order where it has one input. No other operator stands
-- in a log
pub record IsWholeNet (p : PlanForm) (inputs : List (List item.Item)) (cells : List Holding) (ts : List Task) : Type 0 where
  pub sent : (o j : ℕ) (op : OpForm) (q : Name) (t : Task) → slice_get p.ops o ≡ Some op → slice_get op.writes j ≡ Some q → slice_get ts o ≡ Some t
      → list_at (sent_in t.outs) j ≡ sent_hist p inputs q
  pub bags : (o k : ℕ) (op : OpForm) → slice_get p.ops o ≡ Some op → k < tabs op.kernel
      → SameBag (added p (logs_of cells) o k) ((given_on op (hist p inputs)).adds k)
  pub rows : (o k : ℕ) (op : OpForm) → slice_get p.ops o ≡ Some op → k < tabs op.kernel → length op.reads ≡ 1
      → added p (logs_of cells) o k ≡ (given_on op (hist p inputs)).adds k
  pub counts : (o : ℕ) (op : OpForm) (t : Task) → slice_get p.ops o ≡ Some op → slice_get ts o ≡ Some t → t.count ≡ firings_of (hist p inputs) op
  pub entries : AreEntries p (logs_of cells)

-- A net in which no operator has a pending or an untaken item gave all that the plan defines.
abbrev pub IdleNetIsWhole : Type 0
IdleNetIsWhole =
    (p : PlanForm) (inputs : List (List item.Item)) (caps : Capacities) (net : Net) → IsPlan p → IsNetOf p inputs caps net → AreIdle net.tasks
    → IsWholeNet p inputs net.cells net.tasks

-- The items that the tasks of a net took and sent are at most twice the items of the defined histories.
abbrev pub NetsMoveFew : Type 0
NetsMoveFew =
    (p : PlanForm) (inputs : List (List item.Item)) (caps : Capacities) (net : Net) → IsPlan p → IsNetOf p inputs caps net
    → all_moves net.tasks ≤ 2 * lengths (hist p inputs) (queue_names p)
