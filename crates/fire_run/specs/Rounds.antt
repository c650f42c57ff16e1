-- How rounds go.
use Rattle.std.specs.Prelude.{◌≡◌, ◌⊎◌, ℕ, ◌<◌, ◌≤◌, Bool, true, List, length, map, slice_index_or}
use Rattle.river_plan.specs.Forms.{PlanForm}
use Rattle.fire_tasks.specs.declared.bundle.Bundle.{Bundle}
use Rattle.fire_tasks.specs.Bundles.{AllGoOn, AllStay, HasRoundEnded, SomeGrew}
use Rattle.fire_tasks.specs.Ports.{HasMoved}
use Rattle.fire_tasks.specs.Tasks.{all_ends, all_moves}
use Rattle.fire_open.specs.TaskCores.{task_core}
use Rattle.fire_run.specs.declared.net.Net.{Net}
use Rattle.fire_run.specs.declared.running.Round.{Round}
use Rattle.fire_run.specs.declared.running.Round.TheVariants.{Late, Moved}
use Rattle.fire_run.specs.Frames.{AreDealt, AreTasksOf, Framed, bundle_moves}
use Rattle.fire_run.specs.NetOf.{Stays}
use Rattle.fire_run.specs.OneMove.{LastMoved}

-- in one of these bundles something moved
pub record SomeMoved (bundles : List Bundle) : Type 0 where
  pub which : ℕ
  pub there : which < length bundles
  pub bundle : Bundle
  pub moved : (slice_index_or bundles which bundle).moved ≡ true

-- each of these bundles worked, with a cause for the end of its round, and the tasks of the net are theirs
pub record HaveEnded (bundles : List Bundle) (net : Net) : Type 0 where
  pub worked : List Bundle
  pub many : length worked ≡ length bundles
  pub ended : (i : ℕ) (d : Bundle) → i < length bundles → HasRoundEnded (slice_index_or bundles i d) (slice_index_or worked i d)
  pub tasks : AreTasksOf worked net.tasks

-- the bundles of a frame worked and are a net again, of the same plan, inputs and capacities. Port by port no number fell; `moved` says
-- whether one grew
pub record HasJoined (p : PlanForm) (f : Framed) (bundles : List Bundle) (net : Net) (moved : Bool) : Type 0 where
  pub stays : Stays p f.net net
  pub ends : all_ends net.tasks ≡ all_ends f.net.tasks
  pub goes_on : AllGoOn f.net.tasks net.tasks
  pub number : HasMoved (bundle_moves bundles) (all_moves net.tasks) moved
  pub ended : HaveEnded bundles net

-- a net of the same plan, inputs and capacities with the same ends. Port by port, what each task received and sent is a front of what it
-- received and sent afterwards; there is more at some port where the round says that something moved, and otherwise all is as it was
pub record NetGoesOn (p : PlanForm) (net net' : Net) (round : Round) : Type 0 where
  pub stays : Stays p net net'
  pub ends : all_ends net'.tasks ≡ all_ends net.tasks
  pub goes_on : AllGoOn net.tasks net'.tasks
  pub never_falls : all_moves net.tasks ≤ all_moves net'.tasks
  pub grew : round ≡ Moved → all_moves net.tasks < all_moves net'.tasks
  pub some_grew : round ≡ Moved → SomeGrew net.tasks net'.tasks
  pub as_many : (round ≡ Moved → ⊥) → all_moves net'.tasks ≡ all_moves net.tasks
  pub stayed : (round ≡ Moved → ⊥) → AllStay net.tasks net'.tasks

-- one move, or a look at which nothing moved
abbrev pub OnceMoved : PlanForm → Net → Net → Type 0
OnceMoved p net net' = LastMoved p net.tasks net'.tasks net.cells net'.cells ⊎ (map task_core net'.tasks ≡ map task_core net.tasks)

-- the tasks of the net were dealt to n bundles, each worked, with a cause for the end of its round, and they became a net again; behind it
-- came one move, a look, or nothing
pub record HasRound (p : PlanForm) (n : ℕ) (net net' : Net) : Type 0 where
  pub bundles : List Bundle
  pub dealt : AreDealt net n bundles
  pub joined : Net
  pub ended : HaveEnded bundles joined
  pub behind : (net' ≡ joined) ⊎ OnceMoved p joined net'

-- so a round was made, unless the locks could not be opened
abbrev pub UnlessLate : PlanForm → ℕ → Net → Net → Round → Type 0
UnlessLate p n net net' round = (round ≡ Late → ⊥) → HasRound p n net net'
