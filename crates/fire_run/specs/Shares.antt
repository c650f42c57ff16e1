-- How tasks are dealt to bundles, and how they and the seats come together again.
use Rattle.std.specs.Prelude.{◌≡◌, ℕ, ◌<◌, suc, false, All, List, [], ◌∷◌, length, map, slice_index_or, slice_set}
use Rattle.class_locks.specs.Seats.{Chair, TableId}
use Rattle.class_locks.specs.Views.{both_views, fresh_view}
use Rattle.class_locks.specs.declared.view.View.{View}
use Rattle.fire_tasks.specs.declared.bundle.Bundle.{Bundle}
use Rattle.fire_tasks.specs.declared.task.Task.{Task}
use Rattle.fire_run.specs.Frames.{tasks_of_part}

-- DEALING

-- no task of another part than k was touched
pub record OthersStay (n k : ℕ) (ts ts' : List Task) : Type 0 where
  pub many : length ts' ≡ length ts
  pub others : (j : ℕ) → (j ≡ k → ⊥) → tasks_of_part n j ts' ≡ tasks_of_part n j ts

-- a new bundle of the tasks of part k of n
pub record IsShare (n : ℕ) (ts : List Task) (k : ℕ) (chair : Chair) (b : Bundle) : Type 0 where
  pub tasks : b.tasks ≡ tasks_of_part n k ts
  pub seat : b.seat ≡ chair
  pub unmoved : b.moved ≡ false
  pub calm : b.refused ≡ false

-- bundles of the parts from number k on, each with its seat
abbrev pub AreShares : ℕ → List Task → List Chair → ℕ → List Bundle → Type 0
AreShares n ts seats k [] = Unit {0}
AreShares n ts seats k (b ∷ bs) = ((d : Chair) → IsShare n ts k (slice_index_or seats k d) b) × AreShares n ts seats (suc k) bs

-- PUTTING TOGETHER

-- the list, with these tasks at the places of their operators
abbrev pub put_each : List Task → List Task → List Task
put_each [] ts = ts
put_each (t ∷ own) ts = slice_set (put_each own ts) t.op t

-- the list, with the tasks of all these bundles at their places
abbrev pub put_bundles : List Bundle → List Task → List Task
put_bundles [] ts = ts
put_bundles (b ∷ bs) ts = put_bundles bs (put_each b.tasks ts)

-- each of these tasks has its place in a list of n
abbrev pub AreWithin : ℕ → List Task → Type 0
AreWithin n own = All (λ t. t.op < n) own

-- the seats of bundles, in order
abbrev pub seats_of : List Bundle → List Chair
seats_of bundles = map (λ (b : Bundle). b.seat) bundles

-- seats of one round, none of which holds a class
pub record AreAtRest (seats : List Chair) : Type 0 where
  pub some : 0 < length seats
  pub lot : TableId
  pub lots : (k : ℕ) (d : Chair) → k < length seats → (slice_index_or seats k d).lot ≡ lot
  pub rests : (k : ℕ) (d : Chair) → k < length seats → (slice_index_or seats k d).view.held ≡ []

-- what the last of some seats knows, once it took over those before it, one after another
abbrev pub merged_view : List Chair → View
merged_view [] = fresh_view 0 []
merged_view (s ∷ []) = s.view
merged_view (s ∷ (r ∷ rest)) = both_views (merged_view (r ∷ rest)) s.view
