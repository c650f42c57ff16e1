-- What the tasks of one worker keep at their seat.
use Rattle.std.specs.Prelude.{◌≡◌, ◌⊎◌, ℕ, zero, suc, ◌%◌, ◌<◌, Bool, true, false, IsTrue, IsFalse, List, [], length, slice_index_or}
use Rattle.class_locks.specs.declared.view.View.{View}
use Rattle.class_locks.specs.Piles.{HasMoreTries}
use Rattle.class_locks.specs.Views.{StandsIn}
use Rattle.river_plan.specs.Forms.{PlanForm, plan_form}
use Rattle.river_plan.specs.declared.plan.RawPlan.{RawPlan}
use Rattle.river_plan.specs.Valid.{IsPlan}
use Rattle.fire_tasks.specs.declared.bundle.Bundle.{Bundle}
use Rattle.fire_tasks.specs.declared.task.Task.{Task}
use Rattle.fire_tasks.specs.Adds.{AreCells, AreClaims, AreOwn}
use Rattle.fire_tasks.specs.Ports.{HasMoved, received_in, sent_in}
use Rattle.fire_tasks.specs.Tasks.{ExtendsFronts, HasMovedMore, IsTaskAt, IsDone, HaveFewPorts, all_ends, all_moves}
use Rattle.fire_tasks.specs.Turns.{SameRound, IsStuckSince, LooksSame}

-- each task keeps what it keeps of itself, with the rows that the seat knows of its operator; no two are of one operator, and the seat has
-- their parts and right claims alone
pub record AreTasksAt (p : PlanForm) (v : View) (ts : List Task) : Type 0 where
  pub each : (i : ℕ) (d : Task) → i < length ts → IsTaskAt p v (slice_index_or ts i d)
  pub parts : (i : ℕ) (d : Task) → i < length ts → StandsIn ((slice_index_or ts i d).op % v.seats) v.parts
  pub apart : (i k : ℕ) (d : Task) → i < length ts → k < length ts → (slice_index_or ts i d).op ≡ (slice_index_or ts k d).op → i ≡ k
  pub narrow : HaveFewPorts ts
  pub cells : AreCells p v.starts
  pub claims : AreClaims p v.claims
  pub own : AreOwn v

-- a bundle of a plan: between passes its seat holds no class; and where no pass was refused its tasks keep what tasks keep
pub record IsBundle (p : PlanForm) (b : Bundle) : Type 0 where
  pub rests : b.seat.view.held ≡ []
  pub keeps : b.refused ≡ false → AreTasksAt p b.seat.view b.tasks

-- the bundle of the same seat and round, whether it was refused or not
pub record SameSeat (b b' : Bundle) : Type 0 where
  pub lot : b'.seat.lot ≡ b.seat.lot
  pub round : SameRound b.seat.view b'.seat.view
  pub looks : b'.looks ≡ b.looks

-- none of them can move, for what was seen since v: in one look at all of them the turns came one after another, the seat knew `views i` before
-- that of task number i, and each task tells why by its own turn. So a try that found a class taken is one that this task made
pub record AreStuck (v w : View) (ts : List Task) : Type 0 where
  pub views : ℕ → View
  pub first : HasMoreTries v (views 0)
  pub next : (i : ℕ) → i < length ts → HasMoreTries (views i) (views (suc i))
  pub last : views (length ts) ≡ w
  pub each : (i : ℕ) (d : Task) → i < length ts → IsStuckSince (views i) (views (suc i)) (slice_index_or ts i d)

-- each has nothing pending, and received every item known to be there
pub record AllDone (ts : List Task) : Type 0 where
  pub each : (i : ℕ) (d : Task) → i < length ts → IsDone (slice_index_or ts i d)

-- port by port, what each received and sent is a front of what it received and sent afterwards
abbrev pub AllGoOn : List Task → List Task → Type 0
AllGoOn ts ts' = (i : ℕ) (d : Task) → i < length ts → ExtendsFronts (slice_index_or ts i d) (slice_index_or ts' i d)

-- one of them received or sent more at one of its ports
pub record SomeGrew (ts ts' : List Task) : Type 0 where
  pub which : ℕ
  pub there : which < length ts
  pub grew : (d : Task) → HasMovedMore (slice_index_or ts which d) (slice_index_or ts' which d)

-- none received or sent anything
abbrev pub AllStay : List Task → List Task → Type 0
AllStay ts ts' = (i : ℕ) (d : Task) → i < length ts
    → (received_in (slice_index_or ts' i d).ins ≡ received_in (slice_index_or ts i d).ins)
    × (sent_in (slice_index_or ts' i d).outs ≡ sent_in (slice_index_or ts i d).outs)

-- the same operators with the same ends. No number falls, port by port; and `moved` is true exactly where one grew
pub record HasGone (b b' : Bundle) (moved : Bool) : Type 0 where
  pub ends : all_ends b'.tasks ≡ all_ends b.tasks
  pub goes_on : AllGoOn b.tasks b'.tasks
  pub number : HasMoved (all_moves b.tasks) (all_moves b'.tasks) moved
  pub grew : IsTrue moved → SomeGrew b.tasks b'.tasks
  pub stayed : IsFalse moved → AllStay b.tasks b'.tasks

-- the same tasks, which looked at their rings
pub record AllLooked (ts ts' : List Task) : Type 0 where
  pub many : length ts' ≡ length ts
  pub each : (i : ℕ) (d : Task) → i < length ts' → LooksSame (slice_index_or ts i d) (slice_index_or ts' i d)

-- the same bundle, whose tasks looked at their rings
pub record HaveLooked (b b' : Bundle) : Type 0 where
  pub tasks : List Task
  pub is : b' ≡ record b { tasks = tasks }
  pub looked : AllLooked b.tasks tasks

-- looks at the tasks of a seat, or several, since the view v: they are the same with the same ends, and `moved` says whether a number grew
pub record HasSwept (p : PlanForm) (v w : View) (ts ts' : List Task) (moved : Bool) : Type 0 where
  pub tasks : AreTasksAt p w ts'
  pub ends : all_ends ts' ≡ all_ends ts
  pub goes_on : AllGoOn ts ts'
  pub number : HasMoved (all_moves ts) (all_moves ts') moved
  pub stuck : IsFalse moved → AreStuck v w ts'
  pub tries : HasMoreTries v w

-- A ROUND

-- it is a bundle of this plan, which is given by its lists
abbrev pub IsReady : RawPlan → Bundle → Type 0
IsReady raw b = IsPlan (plan_form raw) × IsBundle (plan_form raw) b

-- the most passes of a round
abbrev pub most_passes : ℕ
most_passes = 1024

-- the last pass of a round moved nothing: each task tells why, for what was seen since that pass began
pub record HasEndedStuck (b b' : Bundle) : Type 0 where
  pub last : Bundle
  pub seat : SameSeat b last
  pub before : HasGone b last b'.moved
  pub still : HasGone last b' false
  pub stuck : AreStuck last.seat.view b'.seat.view b'.tasks

-- so many passes were made, one after another, each of which moved something
unfoldable pub ManyPasses : ℕ → Bundle → Bundle → Type 0
ManyPasses zero b b' = b'.tasks ≡ b.tasks
ManyPasses (suc n) b b' = (m : Bundle) × ManyPasses n b m × SameSeat m b' × HasGone m b' true

-- why a round ended: so its last pass moved nothing, or as many passes were made as may be, of which each moved something
abbrev pub HasRoundEnded : Bundle → Bundle → Type 0
HasRoundEnded b b' = HasEndedStuck b b' ⊎ ManyPasses most_passes b b'

-- after a round it still is one, at the same seat; and where it is not refused, `moved` says whether a number grew, and the round has a cause
-- for its end
pub record HasMadeRound (raw : RawPlan) (b b' : Bundle) : Type 0 where
  pub bundle : IsBundle (plan_form raw) b'
  pub seat : SameSeat b b'
  pub went : b'.refused ≡ false → HasGone b b' b'.moved
  pub ended : b'.refused ≡ false → HasRoundEnded b b'
