-- The bundles of a net that was split.
use Rattle.std.proofs.Common.{◌≡◌, ℕ, zero, suc, ◌+◌, ◌%◌, ◌==◌, ◌<◌, ◌≤◌, ◌^◌, Some, inl, List, [], ◌∷◌, length, refl, sym, ap, ◌∙◌, subst, arith, get_or}
use Rattle.std.specs.Prelude.{slice_get}
use Rattle.std.proofs.lemmas.List.{append-nil}
use Rattle.std.proofs.lemmas.List.Elements.{All-nil}
use Rattle.std.proofs.lemmas.Option.{same_Some}
use mathlib.Core.Option.{some}
use lib.ListN.{get_elem?}
use Rattle.river_base.specs.declared.item.Item as item
use Rattle.river_kernels.specs.declared.limit.Limit.TheVariants.{Variables}
use Rattle.river_plan.specs.Forms.{PlanForm}
use Rattle.river_plan.specs.Valid.{IsPlan}
use Rattle.brooklet_model.specs.Bounded.{Capacities}
use Rattle.class_locks.specs.declared.view.Claim.{Claim}
use Rattle.class_locks.specs.declared.view.View.{View}
use Rattle.class_locks.specs.Logs.{Holding}
use Rattle.class_locks.specs.Seats.{Chair, TableId, seats_from, with_parts}
use Rattle.class_locks.specs.Views.{StandsIn}
use Rattle.fire_tasks.specs.Adds.{AreCells, added, logs_at, logs_of, rows_by, table_at, table_class, IsEntryOf}
use Rattle.fire_tasks.specs.Bundles.{AreTasksAt}
use Rattle.fire_tasks.specs.declared.bundle.Bundle.{Bundle}
use Rattle.fire_tasks.specs.declared.task.Task.{Task}
use Rattle.fire_tasks.specs.Tasks.{IsTask, all_ends, all_moves}
use Rattle.fire_open.specs.Homes.{AreClassCells}
use Rattle.fire_run.specs.declared.net.Net.{Net}
use Rattle.fire_run.specs.Frames.{AreBundlesOf, AreDealt, bundle_moves, tasks_of_part}
use Rattle.fire_run.specs.NetOf.{HasNet, IsNetOf}
use Rattle.fire_run.specs.Shares.{AreShares, IsShare}
use Rattle.fire_run.proofs.MoveLemmas.{with_adds}
use Rattle.fire_run.proofs.PartLemmas.{StoodAt, eq_told, filter_stood, moves_of_parts, part_ends, part_single}
use Rattle.fire_run.proofs.RowLemmas.{class_has}
use Rattle.fire_run.proofs.ShareLemmas.{share_at}
use Rattle.fire_run.proofs.Standing.{few_ports, single_tasks}

-- FEW CLASSES

without_at : ℕ → List ℕ → List ℕ
without_at i [] = []
without_at zero (x ∷ xs) = xs
without_at (suc i) (x ∷ xs) = x ∷ without_at i xs

without_long : (i a : ℕ) (xs : List ℕ) → slice_get xs i ≡ Some a → suc (length (without_at i xs)) ≡ length xs
unfolding without_at
without_long i a [] g = absurd (cc g)
without_long zero a (x ∷ xs) g = refl
without_long (suc i) a (x ∷ xs) g = ap suc (without_long i a xs g)

without_got : (i j a c : ℕ) (xs : List ℕ) → slice_get xs i ≡ Some a → slice_get xs j ≡ Some c → (a ≡ c → ⊥) → (k : ℕ) × (slice_get (without_at i xs) k ≡ Some c)
unfolding without_at
without_got i j a c [] g h ne = absurd (cc g)
without_got zero zero a c (x ∷ xs) g h ne = absurd (ne (sym (same_Some x a g) ∙ same_Some x c h))
without_got zero (suc j) a c (x ∷ xs) g h ne = (j, h)
without_got (suc i) zero a c (x ∷ xs) g h ne = (0, h)
without_got (suc i) (suc j) a c (x ∷ xs) g h ne = let r = without_got i j a c xs g h ne in (suc r.0, r.1)

-- a list with m numbers is at least as long
pigeons : (xs : List ℕ) (m : ℕ) → ((c : ℕ) → c < m → (i : ℕ) × (slice_get xs i ≡ Some c)) → m ≤ length xs
pigeons xs zero h = omega arith
pigeons xs (suc m) h =
    let last = h m (omega arith) in
    let rest = pigeons (without_at last.0 xs) m
    (λ c lt. let r = h c (omega (arith, lt)) in without_got last.0 r.0 m c xs last.1 r.1 (λ q. omega (arith, q, lt))) in
    let long = without_long last.0 m xs last.1 in
    omega (arith, rest, long)

-- the values of c numbers from number m on
abbrev values : (ℕ → ℕ) → ℕ → ℕ → List ℕ
values f m zero = []
values f m (suc c) = f m ∷ values f (suc m) c

values_long : (f : ℕ → ℕ) (m c : ℕ) → length (values f m c) ≡ c
values_long f m zero = refl
values_long f m (suc c) = ap suc (values_long f (suc m) c)

values_got : (f : ℕ → ℕ) (m c i : ℕ) → i < c → slice_get (values f m c) i ≡ Some (f (m + i))
values_got f m zero i lt = absurd (omega (arith, lt))
values_got f m (suc c) zero lt = let z : m ≡ m + 0 = omega arith in ap (λ k. Some (f k)) z
values_got f m (suc c) (suc i) lt = let z : suc m + i ≡ m + suc i = omega arith in values_got f (suc m) c i (omega (arith, lt)) ∙ ap (λ k. Some (f k)) z

-- a plan has few lock classes
pub few_cells : (p : PlanForm) (cells : List Holding) → IsPlan p → AreClassCells p cells → length cells < 2 ^ 31
few_cells p cells v h =
    let few : length p.tables + length p.vars ≤ 256 = v.within Variables 0 0 (omega arith) in
    let long = values_long (table_class p) 0 (length p.tables) in
    let most = pigeons (values (table_class p) 0 (length p.tables)) (length cells) (λ c lt.
    let u = h.used c lt in
    let z : 0 + u.0 ≡ u.0 = omega arith in
    (u.0, values_got (table_class p) 0 (length p.tables) u.0 u.1 ∙ ap Some (ap (table_class p) z ∙ u.2))) in
    omega (arith, few, long, most)

-- THE TASKS OF A BUNDLE

-- what is found at a place of cells, in the words of the locks
pub elem_of : (xs : List Holding) (c : ℕ) (x : Holding) → slice_get xs c ≡ Some x → get_elem? xs c ≡ some x
elem_of [] c x g = absurd (cc g)
elem_of (y ∷ ys) zero x g = ap some (same_Some y x g)
elem_of (y ∷ ys) (suc c) x g = elem_of ys c x g

-- there is a cell for each table
cells_for : (p : PlanForm) (cells : List Holding) → AreClassCells p cells → AreCells p cells
cells_for p cells h = record { each = λ n t g. let x = class_has p cells n t h g in (x.0, elem_of cells (table_class p n) x.0 x.1, x.2) }

-- the tasks of a part keep their facts at a seat that has put nothing
pub share_tasks : (p : PlanForm) (inputs : List (List item.Item)) (caps : Capacities) (net : Net) (w k : ℕ) → IsPlan p → IsNetOf p inputs caps net
    → AreTasksAt p (with_parts w net.cells (k ∷ []) []) (tasks_of_part w k net.tasks)
share_tasks p inputs caps net w k v n = record {
  each = λ i d lt.
      let t = get_or own i d in
      with_adds p (added p (logs_of net.cells) t.op) (added p (logs_at view t.op) t.op) t
      (λ j. ap (rows_by t.op (table_at p t.op j)) (append-nil (logs_of net.cells (table_class p (table_at p t.op j)))))
      (task_at i d lt);
  parts = λ i d lt. inl (eq_told ((get_or own i d).op % w) k (stood i d lt).passed);
  apart = part_single (λ (t : Task). (t.op % w) == k) net.tasks (single_tasks p inputs caps net.tasks n.laid);
  narrow = record { each = λ i d lt. let t = get_or own i d in few_ports p (added p (logs_of net.cells) t.op) t v (task_at i d lt) };
  cells = cells_for p net.cells n.cells;
  claims = All-nil (λ (q : Claim). IsEntryOf p q.class q.entry);
  own = All-nil (λ (q : Claim). StandsIn (q.entry.op % w) (k ∷ []));
}
  where
    own : List Task
    own = tasks_of_part w k net.tasks

    view : View
    view = with_parts w net.cells (k ∷ []) []

    stood : (i : ℕ) (d : Task) → i < length (tasks_of_part w k net.tasks)
        → StoodAt (λ (t : Task). (t.op % w) == k) net.tasks (get_or (tasks_of_part w k net.tasks) i d)
    stood i d lt = filter_stood (λ (t : Task). (t.op % w) == k) net.tasks i d lt

    task_at : (i : ℕ) (d : Task) → i < length (tasks_of_part w k net.tasks)
        → IsTask p (added p (logs_of net.cells) (get_or (tasks_of_part w k net.tasks) i d).op) (get_or (tasks_of_part w k net.tasks) i d)
    task_at i d lt =
        let s = stood i d lt in
        subst (λ (x : Task). IsTask p (added p (logs_of net.cells) x.op) x) (s.same d) (n.tasks.each s.place d s.below)

-- THE BUNDLES

-- there are so many seats
pub seats_long : (z : TableId) (n : ℕ) (starts : List Holding) (m c : ℕ) → length (seats_from z n starts m c) ≡ c
seats_long z n starts m zero = refl
seats_long z n starts m (suc c) = ap suc (seats_long z n starts (suc m) c)

seat_at : (z : TableId) (n : ℕ) (starts : List Holding) (m c k : ℕ) (e : Chair) → k < c
    → get_or (seats_from z n starts m c) k e ≡ record { lot = z; view = with_parts n starts ((m + k) ∷ []) [] }
seat_at z n starts m zero k e lt = absurd (omega (arith, lt))
seat_at z n starts m (suc c) zero e lt = let y : m ≡ m + 0 = omega arith in ap (λ j. record { lot = z; view = with_parts n starts (j ∷ []) [] }) y
seat_at z n starts m (suc c) (suc k) e lt =
    let y : suc m + k ≡ m + suc k = omega arith in
    seat_at z n starts (suc m) c k e (omega (arith, lt)) ∙ ap (λ j. record { lot = z; view = with_parts n starts (j ∷ []) [] }) y

module _ (z : TableId) (net : Net) (w : ℕ) (seats : List Chair) (bs : List Bundle) (some_w : 0 < w) (many : length bs ≡ w)
    (from : seats ≡ seats_from z w net.cells 0 w)
    (shares : AreShares w net.tasks seats 0 bs) where
  share : (k : ℕ) (d : Bundle) → k < length bs → IsShare w net.tasks k (record { lot = z; view = with_parts w net.cells (k ∷ []) [] }) (get_or bs k d)
  share k d lt =
      let e : Chair = record { lot = z; view = with_parts w net.cells (k ∷ []) [] } in
      let y : 0 + k ≡ k = omega arith in
      let s = share_at w net.tasks seats 0 bs shares k d e lt in
      let seat : get_or seats (0 + k) e ≡ e =
      ap (λ l. get_or l (0 + k) e) from ∙ ap (λ j. get_or (seats_from z w net.cells 0 w) j e) y ∙ seat_at z w net.cells 0 w k e (omega (arith, lt, many))
      ∙ ap (λ j. record { lot = z; view = with_parts w net.cells (j ∷ []) [] }) y in
      subst (λ j. IsShare w net.tasks j e (get_or bs k d)) y (subst (λ x. IsShare w net.tasks (0 + k) x (get_or bs k d)) seat s)

  -- each is as it was dealt
  pub dealt_all : AreDealt net w bs
  unfolding share
  dealt_all = record {
    many = many;
    each = λ k d lt. let s = share k d lt in record { tasks = s.tasks; seat = ap (λ (x : Chair). x.view) s.seat; unmoved = s.unmoved };
  }

  -- they took and sent what the net's tasks did
  pub dealt_moves : bundle_moves bs ≡ all_moves net.tasks
  unfolding share
  dealt_moves = moves_of_parts w net.tasks bs some_w many (λ k d lt. ap all_moves (share k d lt).tasks)

  -- and are the bundles of the net's frame
  pub split_bundles : (p : PlanForm) → IsPlan p → HasNet p net → AreBundlesOf p (record { net = net; workers = w }) bs
  unfolding share
  split_bundles p v h = record {
    valid = v;
    net = h;
    seated = record {
      some = some_w;
      many = many;
      lot = z;
      each = λ k d lt.
          let e = (share k d lt).seat in
          record {
            lot = ap (λ (x : Chair). x.lot) e;
            seats = ap (λ (x : Chair). x.view.seats) e;
            starts = ap (λ (x : Chair). x.view.starts) e;
            parts = ap (λ (x : Chair). x.view.parts) e;
            rests = ap (λ (x : Chair). x.view.held) e;
          };
    };
    each = λ k d lt.
        let s = share k d lt in
        let e = ap (λ (x : Chair). x.view) s.seat in
        record {
          bundle = record {
            rests = ap (λ (x : View). x.held) e;
            keeps = λ calm. subst (λ x. AreTasksAt p x (get_or bs k d).tasks) (sym e)
                (subst (AreTasksAt p (with_parts w net.cells (k ∷ []) [])) (sym s.tasks) (share_tasks p h.inputs h.caps net w k v h.is));
          };
          calm = s.calm;
          ends = ap all_ends s.tasks ∙ part_ends w k net.tasks;
        };
  }
