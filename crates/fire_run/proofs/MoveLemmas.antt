-- One move of one task.
use Rattle.std.proofs.Common.{◌≡◌, ℕ, ℤ, zero, suc, ◌+◌, ◌<◌, ◌≤◌, ⊎_elim, List, [], ◌∷◌, length, map, refl, sym, ap, ◌∙◌, arith, subst, get_or, set, get_or-set_other, ◌^◌}
use Rattle.std.specs.Prelude.{Bool, true, false, None}
use Rattle.std.proofs.lemmas.Bool.{cases_eq, cases_lt}
use Rattle.std.proofs.lemmas.List.{append-nil, length-set, get_or-set_same, get_or_default}
use Rattle.std.proofs.lemmas.Option.{get_or_from_slice_get, slice_get-get_or}
use Rattle.river_plan.specs.Forms.{PlanForm}
use Rattle.fire_tasks.specs.Inlet as inlet
use Rattle.fire_tasks.specs.declared.task.Task.{Task}
use Rattle.fire_tasks.specs.Adds.{added, logs_of}
use Rattle.fire_tasks.specs.Ports.{in_ends, received_in}
use Rattle.fire_tasks.specs.Tasks.{IsTask, IsDone, TaskEnds, ends_of, all_ends, moves, all_moves}
use Rattle.fire_tasks.specs.Layout.{AreTasks}
use Rattle.class_locks.specs.Logs.{Holding}
use Rattle.fire_tasks.specs.Rows.{cells_grown}
use Rattle.fire_run.specs.Cells.{AreSingle, HaveAdded, HaveMoved}
use Rattle.fire_run.specs.Moves.{CanSend, CanSendFrom}
use Rattle.fire_run.specs.NetOf.{AreIdle, OneMore}
use Rattle.fire_open.specs.TaskCores.{TaskCore, task_core}
use Rattle.fire_open.proofs.Lists.{map_set, map_long, same_got}
use Rattle.fire_open.proofs.StillLemmas.{still_all_moves, still_ends, still_tasks}
use Rattle.fire_open.proofs.SettleLemmas.{still_by}
use Rattle.fire_tasks.proofs.PassLemmas.{with_ins}

-- a look changes nothing else
pub still_ins : (t : Task) (ins : List inlet.Inlet) → in_ends ins ≡ in_ends t.ins → received_in ins ≡ received_in t.ins → task_core (with_ins t ins) ≡ task_core t
still_ins t ins e r = still_by (with_ins t ins) t refl e refl r refl refl refl refl refl refl refl refl refl refl

-- a number grew by 1
pub one_true : (a b : ℕ) → b ≡ a + 1 → OneMore a b true
one_true a b e = record { one = λ t. e; none = λ f. absurd (cc f) }

-- no number grew
pub one_false : (a b : ℕ) → b ≡ a → OneMore a b false
one_false a b e = record { one = λ t. absurd (cc t); none = λ f. e }

-- ALL TASKS, FROM THE LAST BACK

-- the last tasks have nothing to do
pub record Walked (ts0 : List Task) (back : ℕ) (ts : List Task) : Type 0 where
  pub same : map task_core ts ≡ map task_core ts0
  pub rest : (i : ℕ) (d : Task) → i + back < length ts0 → get_or ts i d ≡ get_or ts0 i d
  pub done : (i : ℕ) (d : Task) → i < length ts0 → length ts0 ≤ i + back → IsDone (get_or ts0 i d)

-- before the first task none was asked
pub walked_first : (ts : List Task) → Walked ts 0 ts
walked_first ts = record { same = refl; rest = λ i d lt. refl; done = λ i d lt le. absurd (omega (arith, lt, le)) }

-- a walk leaves as many tasks as there were
pub walked_long : (ts0 ts : List Task) (back : ℕ) → Walked ts0 back ts → length ts ≡ length ts0
walked_long ts0 ts back h = map_long task_core ts ts0 h.same

-- the task whose turn it is
pub record Turn (p : PlanForm) (adds : ℕ → ℕ → List (List ℤ)) (t : Task) : Type 0 where
  pub task : IsTask p (adds t.op) t
  pub fine : t.bad ≡ None
  pub few : length t.ins < 2 ^ 32
  pub room : CanSend t

-- what is known of the task whose turn it is
pub turn_of : (p : PlanForm) (adds : ℕ → ℕ → List (List ℤ)) (ts0 ts : List Task) (back o : ℕ) (t : Task) → AreTasks p adds ts0 → CanSendFrom ts0
    → Walked ts0 back ts
    → o + back + 1 ≡ length ts0 → t ≡ get_or ts o t → Turn p adds t
turn_of p adds ts0 ts back o t k s h e is =
    let lt : o < length ts0 = omega (arith, e) in
    let q : t ≡ get_or ts0 o t = is ∙ h.rest o t (omega (arith, e)) in
    subst (Turn p adds) (sym q) (record {
      task = k.each o t lt;
      fine = s.fine o t lt;
      few = s.few o t lt;
      room = s.room o t lt (λ n d lo ln. h.done n d ln (omega (arith, e, lo)));
    })

-- one task more has nothing to do
pub walked_next : (ts0 ts : List Task) (back o : ℕ) (old new : Task) → Walked ts0 back ts → o + back + 1 ≡ length ts0 → old ≡ get_or ts o old
    → task_core new ≡ task_core old → IsDone old → Walked ts0 (back + 1) (set ts o new)
walked_next ts0 ts back o old new h e is s d =
    let l = walked_long ts0 ts back h in
    let lt : o < length ts = omega (arith, e, l) in
    let q : old ≡ get_or ts0 o old = is ∙ h.rest o old (omega (arith, e)) in
    record {
      same = map_set task_core ts o new (s ∙ ap task_core (is ∙ get_or_default ts o old new lt)) ∙ h.same;
      rest = λ i c li. get_or-set_other ts o i new c (λ z. omega (arith, z, li, e)) ∙ h.rest i c (omega (arith, li));
      done = λ i c li le. ⊎_elim
          (λ b. let z : o ≡ i = omega (arith, le, e, b) in subst (λ n. IsDone (get_or ts0 n c)) z
          (subst IsDone (q ∙ get_or_default ts0 o old c (omega (arith, e))) d))
          (λ ge. h.done i c li ge)
          (cases_lt (i + back) (length ts0));
    }

-- once all tasks were asked, none has anything to do
pub walked_all : (ts0 ts : List Task) (back : ℕ) → Walked ts0 back ts → length ts0 ≤ back → AreIdle ts0
walked_all ts0 ts back h le = record { each = λ o d lt. h.done o d lt (omega (arith, le)) }

-- the tasks and the cells after one task moved
pub record Moved (p : PlanForm) (ts0 ts : List Task) (cells0 cells : List Holding) : Type 0 where
  pub tasks : AreTasks p (added p (logs_of cells)) ts
  pub same : all_ends ts ≡ all_ends ts0
  pub number : OneMore (all_moves ts0) (all_moves ts) true
  pub came : HaveMoved p cells0 cells

-- what a task keeps is known of the rows, table by table
pub with_adds : (p : PlanForm) (adds adds' : ℕ → List (List ℤ)) (t : Task) → ((j : ℕ) → adds' j ≡ adds j) → IsTask p adds t → IsTask p adds' t
with_adds p adds adds' t h k = subst (λ a. IsTask p a t) (λ i j. sym (h j) i) k

set_moves : (ts : List Task) (i : ℕ) (t : Task) → i < length ts → moves t ≡ moves (get_or ts i t) + 1 → all_moves (set ts i t) ≡ all_moves ts + 1
set_moves [] i t lt e = absurd (omega (arith, lt))
set_moves (y ∷ ts) zero t lt e = omega (arith, e)
set_moves (y ∷ ts) (suc i) t lt e = let h = set_moves ts i t (omega (arith, lt)) e in omega (arith, h)

-- the operators of tasks that are still are the same
still_op : (ts0 ts : List Task) (i : ℕ) (d : Task) → map task_core ts ≡ map task_core ts0 → i < length ts → (get_or ts i d).op ≡ (get_or ts0 i d).op
still_op ts0 ts i d e lt =
    let x = same_got task_core ts ts0 e i (get_or ts i d) (slice_get-get_or ts i d lt) in
    ap (λ (s : TaskCore). s.ends.op) x.2 ∙ ap (λ (t : Task). t.op) (sym (get_or_from_slice_get ts0 i x.0 d x.1))

-- the tasks and the cells after one task moved
pub moved_one : (p : PlanForm) (cells0 cells : List Holding) (ts0 ts : List Task) (back o : ℕ) (old new : Task) (m : Bool)
    → AreTasks p (added p (logs_of cells0)) ts0 → AreSingle ts0
    → Walked ts0 back ts → o + back + 1 ≡ length ts0 → old ≡ get_or ts o old → IsTask p (added p (logs_of cells) old.op) new → ends_of new ≡ ends_of old
    → HaveAdded p old.op cells0 cells → OneMore (moves old) (moves new) m → m ≡ true → Moved p ts0 (set ts o new) cells0 cells
moved_one p cells0 cells ts0 ts back o old new m k ap0 h e is t s a n mt =
    let l = walked_long ts0 ts back h in
    let lt : o < length ts = omega (arith, e, l) in
    let kt = still_tasks p (added p (logs_of cells0)) ts0 ts h.same k in
    let q : old ≡ get_or ts o new = is ∙ get_or_default ts o old new lt in
    let c = set_moves ts o new lt (n.one mt ∙ ap (λ (x : Task). moves x + 1) q) in
    let b = still_all_moves ts0 ts h.same in
    let op_new : new.op ≡ old.op = ap (λ (x : TaskEnds). x.op) s in
    record {
      tasks = record {
        each = λ i d li.
            let z = length-set ts o new in
            let lti : i < length ts = omega (arith, z, li) in
            ⊎_elim
            (λ same.
            let here : get_or (set ts o new) i d ≡ new = ap (λ x. get_or (set ts o new) x d) (sym same) ∙ get_or-set_same ts o new d lt in
            subst (λ (x : Task). IsTask p (added p (logs_of cells) x.op) x) (sym here) (subst (λ x. IsTask p (added p (logs_of cells) x) new) (sym op_new) t))
            (λ ne.
            let there : get_or (set ts o new) i d ≡ get_or ts i d = get_or-set_other ts o i new d (λ y. ne (sym y)) in
            let other : (get_or ts i d).op ≡ old.op → ⊥ = (λ y.
            let w : i ≡ o = ap0 i o d (omega (arith, lti, l)) (omega (arith, lt, l))
            (sym (still_op ts0 ts i d h.same lti) ∙ y ∙ ap (λ (x : Task). x.op) (is ∙ get_or_default ts o old d lt) ∙ still_op ts0 ts o d h.same lt) in
            ne (sym w)) in
            subst (λ (x : Task). IsTask p (added p (logs_of cells) x.op) x) (sym there)
            (with_adds p (added p (logs_of cells0) (get_or ts i d).op) (added p (logs_of cells) (get_or ts i d).op) (get_or ts i d)
            (a.others (get_or ts i d).op other) (kt.each i d lti)))
            (cases_eq o i);
      };
      same = map_set ends_of ts o new (s ∙ ap ends_of q) ∙ still_ends ts0 ts h.same;
      number = one_true (all_moves ts0) (all_moves (set ts o new)) (omega (arith, c, b));
      came = record { more = a.more; is = a.is; entries = a.entries };
    }

-- nothing was added
no_more : (c : ℕ) (cells : List Holding) → cells_grown (λ n. []) c cells ≡ cells
no_more c [] = refl
no_more c (x ∷ xs) = ap (λ l. record x { log = l } ∷ cells_grown (λ n. []) (suc c) xs) (append-nil x.log) ∙ ap (λ ys. x ∷ ys) (no_more (suc c) xs)

-- an operator that did not fire added nothing
pub none_added : (p : PlanForm) (o : ℕ) (cells : List Holding) → HaveAdded p o cells cells
none_added p o cells = record { more = λ c. []; is = sym (no_more 0 cells); others = λ n ne j. refl; entries = λ e. e }

-- the same cells
pub none_moved : (p : PlanForm) (cells : List Holding) → HaveMoved p cells cells
none_moved p cells = record { more = λ c. []; is = sym (no_more 0 cells); entries = λ e. e }

-- ONE AFTER ANOTHER, FROM THE LAST BACK

-- the last tasks have nothing to do, and the cells are as they were
pub record Walking (ts0 : List Task) (cells0 : List Holding) (back : ℕ) (ts : List Task) (cells : List Holding) : Type 0 where
  pub walked : Walked ts0 back ts
  pub stay : cells ≡ cells0
