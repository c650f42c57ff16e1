-- What is left of a net that is split, its bundles, and what joining them again gives.
use Rattle.std.specs.Prelude.{◌≡◌, ℕ, ◌+◌, ◌%◌, ◌==◌, ◌<◌, ◌≤◌, true, false, All, Some, List, [], ◌∷◌, ◌++◌, filter, length, map, slice_get, slice_index_or}
use Rattle.river_plan.specs.Forms.{PlanForm, plan_form}
use Rattle.river_plan.specs.declared.plan.RawPlan.{RawPlan}
use Rattle.river_plan.specs.Valid.{IsPlan}
use Rattle.class_locks.specs.declared.log.LogEntry.{LogEntry}
use Rattle.class_locks.specs.Logs.{Holding, entries_of_part}
use Rattle.class_locks.specs.Seats.{Chair, TableId, with_parts}
use Rattle.class_locks.specs.Views.{own}
use Rattle.fire_tasks.specs.declared.bundle.Bundle.{Bundle}
use Rattle.fire_tasks.specs.declared.task.Task.{Task}
use Rattle.fire_tasks.specs.Bundles.{IsBundle, HasRoundEnded, HasGone, HasMadeRound}
use Rattle.fire_tasks.specs.Tasks.{TaskEnds, all_ends, all_moves}
use Rattle.fire_open.specs.TaskCores.{task_core}
use Rattle.fire_run.specs.declared.net.Net.{Net}
use Rattle.fire_run.specs.declared.splitting.SplitFault as fault
use Rattle.fire_run.specs.declared.splitting.SplitFault.TheVariants.{Begun, NoMemory}
use Rattle.fire_run.specs.NetOf.{HasNet}

-- what contracts see of a frame: the net that was split, and the number of its workers
pub record Framed : Type 0 where
  pub net : Net
  pub workers : ℕ

-- PARTS: of n workers, operator number i belongs to the part i modulo n

-- the tasks of part k of n, in the order in which they stand
abbrev pub tasks_of_part : ℕ → ℕ → List Task → List Task
tasks_of_part n k ts = filter (λ (t : Task). (t.op % n) == k) ts

-- and the ends of such tasks
abbrev pub ends_of_part : ℕ → ℕ → List TaskEnds → List TaskEnds
ends_of_part n k es = filter (λ (e : TaskEnds). (e.op % n) == k) es

-- how many items the tasks of all bundles took and sent
abbrev pub bundle_moves : List Bundle → ℕ
bundle_moves [] = 0
bundle_moves (b ∷ bs) = all_moves b.tasks + bundle_moves bs

-- BUNDLES OF A FRAME

-- seat number k of the frame's round: it has part k alone and holds no class, and the round began with the cells of the net
pub record SitsAt (z : TableId) (f : Framed) (k : ℕ) (seat : Chair) : Type 0 where
  pub lot : seat.lot ≡ z
  pub seats : seat.view.seats ≡ f.workers
  pub starts : seat.view.starts ≡ f.net.cells
  pub parts : seat.view.parts ≡ k ∷ []
  pub rests : seat.view.held ≡ []

-- the bundles of the frame, each once and in order, whether they were refused or not
pub record AreSeatedIn (f : Framed) (bundles : List Bundle) : Type 0 where
  pub some : 0 < f.workers
  pub many : length bundles ≡ f.workers
  pub lot : TableId
  pub each : (k : ℕ) (d : Bundle) → k < length bundles → SitsAt lot f k (slice_index_or bundles k d).seat

-- bundle number k of the frame, which was not refused: it has a task for each operator of part k, in ascending order, with the ends that
-- the net's task has
pub record IsBundleAt (p : PlanForm) (f : Framed) (k : ℕ) (b : Bundle) : Type 0 where
  pub bundle : IsBundle p b
  pub calm : b.refused ≡ false
  pub ends : all_ends b.tasks ≡ ends_of_part f.workers k (all_ends f.net.tasks)

-- the bundles of a frame, each once and in order, none of which was refused; what was split is a net of this plan
pub record AreBundlesOf (p : PlanForm) (f : Framed) (bundles : List Bundle) : Type 0 where
  pub valid : IsPlan p
  pub net : HasNet p f.net
  pub seated : AreSeatedIn f bundles
  pub each : (k : ℕ) (d : Bundle) → k < length bundles → IsBundleAt p f k (slice_index_or bundles k d)

-- WHAT SPLITTING LEAVES

-- bundle number k of n as splitting gives it: the net's tasks of part k as they were, and a seat that has put nothing
pub record IsDealtBundle (net : Net) (n k : ℕ) (b : Bundle) : Type 0 where
  pub tasks : b.tasks ≡ tasks_of_part n k net.tasks
  pub seat : b.seat.view ≡ with_parts n net.cells (k ∷ []) []
  pub unmoved : b.moved ≡ false

-- a bundle for each of n workers
pub record AreDealt (net : Net) (n : ℕ) (bundles : List Bundle) : Type 0 where
  pub many : length bundles ≡ n
  pub each : (k : ℕ) (d : Bundle) → k < length bundles → IsDealtBundle net n k (slice_index_or bundles k d)

-- where the round had begun, the net comes back as it was
abbrev pub GivesBack : Net → fault.SplitFault → Type 0
GivesBack net (Begun back late) = back ≡ net
GivesBack net NoMemory = Unit {0}

-- A ROUND

-- each of the bundles worked by the lists of a plan
pub record HaveWorked (raw : RawPlan) (bundles bundles' : List Bundle) : Type 0 where
  pub many : length bundles' ≡ length bundles
  pub each : (i : ℕ) (d : Bundle) → i < length bundles → HasMadeRound raw (slice_index_or bundles i d) (slice_index_or bundles' i d)

-- none was refused
abbrev pub AreCalm : List Bundle → Type 0
AreCalm bundles = All (λ b. b.refused ≡ false) bundles

-- the items that the tasks of bundles took and sent do not become fewer; they become more where one says that it moved, and stay where none
-- does. So it is port by port of each task, and each bundle's round has a cause for its end
pub record HasToldMoves (bundles bundles' : List Bundle) : Type 0 where
  pub each : (i : ℕ) (d : Bundle) → i < length bundles
      → HasGone (slice_index_or bundles i d) (slice_index_or bundles' i d) (slice_index_or bundles' i d).moved
  pub ended : (i : ℕ) (d : Bundle) → i < length bundles → HasRoundEnded (slice_index_or bundles i d) (slice_index_or bundles' i d)
  pub never_fall : bundle_moves bundles ≤ bundle_moves bundles'
  pub grew : (i : ℕ) (d : Bundle) → i < length bundles' → (slice_index_or bundles' i d).moved ≡ true → bundle_moves bundles < bundle_moves bundles'
  pub stayed : All (λ b. b.moved ≡ false) bundles' → bundle_moves bundles' ≡ bundle_moves bundles

-- After a round the bundles of a frame are bundles of it, and their seats are as they were.
abbrev pub RoundsKeepSeats : Type 0
RoundsKeepSeats = (raw : RawPlan) (f : Framed) (bs bs' : List Bundle) → AreSeatedIn f bs → HaveWorked raw bs bs' → AreSeatedIn f bs'

-- Where none was refused they are tasks of the frame's plan as before.
abbrev pub RoundsKeepBundles : Type 0
RoundsKeepBundles =
    (raw : RawPlan) (f : Framed) (bs bs' : List Bundle) → AreBundlesOf (plan_form raw) f bs → HaveWorked raw bs bs' → AreCalm bs'
    → AreBundlesOf (plan_form raw) f bs'

-- And they tell whether anything moved.
abbrev pub RoundsTellMoves : Type 0
RoundsTellMoves = (raw : RawPlan) (bs bs' : List Bundle) → HaveWorked raw bs bs' → AreCalm bs' → HasToldMoves bs bs'

-- WHAT JOINING GIVES

-- each task of the net is that of its bundle, which looked at its rings since
pub record AreTasksOf (bundles : List Bundle) (ts : List Task) : Type 0 where
  pub each : (k : ℕ) (d : Bundle) → k < length bundles
      → map task_core (tasks_of_part (length bundles) k ts) ≡ map task_core (slice_index_or bundles k d).tasks

-- the cell of class c has grown by entries of which those of each part are, in order, what the seat of this part's bundle put at the class
pub record HasGrownBy (bundles : List Bundle) (c : ℕ) (old new : Holding) : Type 0 where
  pub growth : List LogEntry
  pub kinds : new.kinds ≡ old.kinds
  pub log : new.log ≡ old.log ++ growth
  pub parts : (k : ℕ) (d : Bundle) → k < length bundles
      → entries_of_part (length bundles) k growth ≡ own (length bundles) k c (slice_index_or bundles k d).seat.view.claims

-- so has each cell
pub record HaveGrownBy (bundles : List Bundle) (cells cells' : List Holding) : Type 0 where
  pub many : length cells' ≡ length cells
  pub each : (c : ℕ) (x y : Holding) → slice_get cells c ≡ Some x → slice_get cells' c ≡ Some y → HasGrownBy bundles c x y
