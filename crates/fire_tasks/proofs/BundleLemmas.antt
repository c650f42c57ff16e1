-- A pass over tasks, one after another.
use Rattle.std.proofs.Common.{◌≡◌, ◌≢◌, ℕ, zero, suc, ◌%◌, ◌<◌, List, [], ◌∷◌, length, refl, sym, ap, ◌∙◌, arith, subst, get_or, set, ◌^◌, ◌+◌}
use Rattle.std.proofs.Common.{◌≤◌, ⊎_elim, get_or-set_other, get_or-set_same}
use Rattle.std.specs.Prelude.{Bool, true, false, IsFalse}
use Rattle.std.proofs.lemmas.Bool.{cases_lt, cases_eq}
use Rattle.std.proofs.lemmas.List.{length-map, append-nil, get_or_default, length-set}
use Rattle.river_base.proofs.Lists.{there_is}
use Rattle.river_plan.specs.Forms.{PlanForm}
use Rattle.class_locks.specs.declared.view.View.{View}
use Rattle.class_locks.specs.Piles.{HasMoreTries}
use Rattle.class_locks.specs.Views.{StandsIn}
use Rattle.brooklet_model.specs.Machine.{at_key}
use Rattle.brooklet_model.proofs.Traces.{at_key_other, at_key_same}
use Rattle.fire_tasks.specs.declared.task.Task.{Task}
use Rattle.fire_tasks.specs.Adds.{AreCells, added, logs_at}
use Rattle.fire_tasks.specs.Inlet as inlet
use Rattle.fire_tasks.specs.Bundles.{AllGoOn, AreStuck, AreTasksAt, AllDone, AllLooked, HasGone, HasSwept, ManyPasses, SameSeat}
use Rattle.fire_tasks.specs.declared.bundle.Bundle.{Bundle}
use Rattle.fire_tasks.specs.Ports.{AllReceived, HasMoved, known_of}
use Rattle.fire_tasks.specs.Tasks.{TaskEnds, IsTaskAt, IsDone, ends_of, all_ends, moves, all_moves}
use Rattle.fire_tasks.specs.Turns.{HasTurned, IsSeatOf, IsStuckSince, LooksSame, StillSits}
use Rattle.fire_tasks.proofs.Fronts.{all_same, all_set, all_then, has_gone}
use Rattle.fire_tasks.proofs.PassLemmas.{moved_true, moved_second, moved_first, moved_false}
use Rattle.fire_tasks.proofs.PortLemmas.{ins_many}
use Rattle.fire_tasks.proofs.TaskLemmas.{with_adds}
use Rattle.fire_tasks.proofs.TurnLemmas.{round_then, sits_none, sits_then, tries_of, tries_then}

-- LISTS OF TASKS

-- what holds of each task and of the new one
set_each : (P : Task → Type 0) (ts : List Task) (i : ℕ) (t : Task) → ((n : ℕ) (d : Task) → n < length ts → P (get_or ts n d)) → P t → (n : ℕ) (d : Task)
    → n < length ts → P (get_or (set ts i t) n d)
set_each P [] i t h x n d lt = absurd (omega (arith, lt))
set_each P (y ∷ ts) zero t h x zero d lt = x
set_each P (y ∷ ts) zero t h x (suc n) d lt = h (suc n) d lt
set_each P (y ∷ ts) (suc i) t h x zero d lt = h 0 d lt
set_each P (y ∷ ts) (suc i) t h x (suc n) d lt = set_each P ts i t (λ m e l. h (suc m) e (omega (arith, l))) x n d (omega (arith, lt))

set_ends : (ts : List Task) (i : ℕ) (t : Task) → ends_of t ≡ ends_of (get_or ts i t) → all_ends (set ts i t) ≡ all_ends ts
set_ends [] i t e = refl
set_ends (y ∷ ts) zero t e = ap (λ n. n ∷ all_ends ts) e
set_ends (y ∷ ts) (suc i) t e = ap (λ ns. ends_of y ∷ ns) (set_ends ts i t e)

-- tasks with the same ends are as many
pub ends_many : (ts ts' : List Task) → all_ends ts' ≡ all_ends ts → length ts' ≡ length ts
ends_many ts ts' e = sym (length-map ts' ends_of) ∙ ap length e ∙ length-map ts ends_of

set_moved : (ts : List Task) (i : ℕ) (t : Task) (m : Bool) → i < length ts → HasMoved (moves (get_or ts i t)) (moves t) m
    → HasMoved (all_moves ts) (all_moves (set ts i t)) m
set_moved [] i t m lt h = absurd (omega (arith, lt))
set_moved (y ∷ ts) zero t m lt h =
    record {
      never_falls = (let n = h.never_falls in omega (arith, n));
      grew = λ x. (let n = h.grew x in omega (arith, n));
      stayed =
          λ x. (let n = h.stayed x in omega (arith, n));
    }
set_moved (y ∷ ts) (suc i) t m lt h =
    let r = set_moved ts i t m (omega (arith, lt)) h in
    record {
      never_falls = (let n = r.never_falls in omega (arith, n));
      grew = λ x. (let n = r.grew x in omega (arith, n));
      stayed =
          λ x. (let n = r.stayed x in omega (arith, n));
    }

-- A LOOK AT TASKS, ONE AFTER ANOTHER

-- in their turns the first tasks found why they do not move: `views i` is what the seat knew before that of task number i
pub record HadTurns (v w : View) (place : ℕ) (ts : List Task) : Type 0 where
  pub views : ℕ → View
  pub first : HasMoreTries v (views 0)
  pub next : (i : ℕ) → i < place → HasMoreTries (views i) (views (suc i))
  pub last : views place ≡ w
  pub each : (i : ℕ) (d : Task) → i < place → i < length ts → IsStuckSince (views i) (views (suc i)) (get_or ts i d)

-- the first tasks had their turns
pub record HavePassed (p : PlanForm) (v w : View) (place : ℕ) (ts ts' : List Task) (moved : Bool) : Type 0 where
  pub tasks : AreTasksAt p w ts'
  pub sits : StillSits v w
  pub tries : HasMoreTries v w
  pub same : all_ends ts' ≡ all_ends ts
  pub goes_on : AllGoOn ts ts'
  pub number : HasMoved (all_moves ts) (all_moves ts') moved
  pub stuck : IsFalse moved → HadTurns v w place ts'

no_tries : (v : View) → HasMoreTries v v
no_tries v = record { more = []; takes = sym (append-nil v.takes) }

-- before the first task
pub passed_first : (p : PlanForm) (v : View) (ts : List Task) → AreTasksAt p v ts → v.held ≡ [] → HavePassed p v v 0 ts ts false
passed_first p v ts k h = record {
  tasks = k;
  sits = sits_none v h;
  tries = no_tries v;
  same = refl;
  goes_on = all_same ts;
  number = moved_false (all_moves ts) (all_moves ts) refl;
  stuck = λ f. record {
    views = λ i. v;
    first = no_tries v;
    next = λ i lt. absurd (omega (arith, lt));
    last = refl;
    each = λ i d lt l. absurd (omega (arith, lt));
  };
}

-- the seat is that of each of the tasks
pub seat_for : (p : PlanForm) (v : View) (ts : List Task) (i : ℕ) (t : Task) → AreTasksAt p v ts → v.held ≡ [] → i < length ts → t ≡ get_or ts i t
    → IsSeatOf p t.op v
seat_for p v ts i t k h lt e = record {
  rests = h;
  part = subst (λ (x : Task). StandsIn (x.op % v.seats) v.parts) (sym e) (k.parts i t lt);
  cells = k.cells;
}

-- the tasks after one of them had its turn
after_turn : (p : PlanForm) (v w : View) (now : List Task) (i : ℕ) (old new : Task) (n : Bool) → AreTasksAt p v now → i < length now → old ≡ get_or now i old
    → HasTurned p v w old new n → AreTasksAt p w (set now i new)
after_turn p v w now i old new n k lt e h = record {
  each = λ j d lj. ⊎_elim
      (λ q. subst (IsTaskAt p w) (sym (ap (λ m. get_or (set now i new) m d) (sym q) ∙ get_or-set_same now i new d lt)) h.task)
      (λ ne.
      let l : j < length now = long j lj in
      let t = get_or now j d in
      let apart : t.op ≢ old.op = λ same. ne (k.apart i j d lt l (sym (ap (λ (x : Task). x.op) (at d)) ∙ sym same)) in
      subst (IsTaskAt p w) (sym (get_or-set_other now i j new d (λ q. ne (sym q))))
      (with_adds p (added p (logs_at v t.op) t.op) (added p (logs_at w t.op) t.op) t (k.each j d l) (λ m lm. h.sat.others t.op apart m)))
      (cases_eq i j);
  parts = λ j d lj. let r = h.sat.round in
      subst (λ (ps : List ℕ). StandsIn ((get_or (set now i new) j d).op % w.seats) ps) (sym r.parts)
      (subst (λ (m : ℕ). StandsIn ((get_or (set now i new) j d).op % m) v.parts) (sym r.seats)
      (subst (λ (o : ℕ). StandsIn (o % v.seats) v.parts) (sym (ops j d)) (k.parts j d (long j lj))));
  apart = λ j m d lj lm q. k.apart j m d (long j lj) (long m lm) (sym (ops j d) ∙ q ∙ ops m d);
  narrow = record {
    each = λ j d lj. set_each (λ x. length x.ins < 2 ^ 32) now i new k.narrow.each
        (let z = ins_many old.ins new.ins (ap (λ (x : TaskEnds). x.ins) h.ends) in let y =
        subst (λ x. length x.ins < 2 ^ 32) (sym e) (k.narrow.each i old lt) in omega (arith, z, y)) j d (long j lj);
  };
  cells = subst (AreCells p) (sym h.sat.round.starts) k.cells;
  claims = h.sat.claims k.claims;
  own = h.sat.own k.own;
}
  where
    long : (j : ℕ) → j < length (set now i new) → j < length now
    long j l = let q = length-set now i new in omega (arith, l, q)

    at : (d : Task) → old ≡ get_or now i d
    at d = e ∙ get_or_default now i old d lt

    ops : (j : ℕ) (d : Task) → (get_or (set now i new) j d).op ≡ (get_or now j d).op
    ops j d = ⊎_elim
        (λ q. ap (λ m. (get_or (set now i new) m d).op) (sym q) ∙ ap (λ (x : Task). x.op) (get_or-set_same now i new d lt) ∙ ap (λ (x : TaskEnds). x.op) h.ends
        ∙ ap (λ (x : Task). x.op) (at d) ∙ ap (λ m. (get_or now m d).op) q)
        (λ ne. ap (λ (x : Task). x.op) (get_or-set_other now i j new d (λ q. ne (sym q))))
        (cases_eq i j)

one_is : (now : List Task) (i : ℕ) (old new : Task) (n : Bool) → i < length now → old ≡ get_or now i old → HasMoved (moves old) (moves new) n
    → HasMoved (all_moves now) (all_moves (set now i new)) n
one_is now i old new n lt e h = set_moved now i new n lt (subst (λ x. HasMoved (moves x) (moves new) n) (e ∙ get_or_default now i old new lt) h)

-- one more turn at which nothing moved
module _ (v0 v w : View) (now : List Task) (i : ℕ) (new : Task) (h : HadTurns v0 v i now) (tries : HasMoreTries v w) (stuck : IsStuckSince v w new)
    (lt : i < length now) where
  abbrev seen : ℕ → View
  seen = at_key (i + 1) w h.views

  seen_before : (j : ℕ) → j < i + 1 → seen j ≡ h.views j
  seen_before j l = at_key_other (i + 1) w h.views j (λ q. omega (arith, l, q))

  seen_here : seen i ≡ v
  seen_here = seen_before i (omega arith) ∙ h.last

  seen_behind : seen (suc i) ≡ w
  seen_behind = let q : i + 1 ≡ suc i = omega arith in ap seen (sym q) ∙ at_key_same (i + 1) w h.views

  pub one_turn : HadTurns v0 w (i + 1) (set now i new)
  one_turn = record {
    views = seen;
    first = subst (HasMoreTries v0) (sym (seen_before 0 (omega arith))) h.first;
    next = λ j lj. ⊎_elim
        (λ l. subst (HasMoreTries (seen j)) (sym (seen_before (suc j) (omega (arith, l))))
        (subst (λ x. HasMoreTries x (h.views (suc j))) (sym (seen_before j (omega (arith, l)))) (h.next j l)))
        (λ ge.
        let q : i ≡ j = omega (arith, lj, ge) in
        subst (λ (k : ℕ). HasMoreTries (seen k) (seen (suc k))) q
        (subst (HasMoreTries (seen i)) (sym seen_behind) (subst (λ x. HasMoreTries x w) (sym seen_here) tries)))
        (cases_lt j i);
    last = at_key_same (i + 1) w h.views;
    each = λ j d lj ll. let m = length-set now i new in ⊎_elim
        (λ l.
        subst (IsStuckSince (seen j) (seen (suc j))) (sym (get_or-set_other now i j new d (λ q. omega (arith, l, q))))
        (subst (λ x. IsStuckSince (seen j) x (get_or now j d)) (sym (seen_before (suc j) (omega (arith, l))))
        (subst (λ x. IsStuckSince x (h.views (suc j)) (get_or now j d)) (sym (seen_before j (omega (arith, l)))) (h.each j d l (omega (arith, ll, m))))))
        (λ ge.
        let q : i ≡ j = omega (arith, lj, ge) in
        subst (λ (k : ℕ). IsStuckSince (seen k) (seen (suc k)) (get_or (set now i new) k d)) q
        (subst (IsStuckSince (seen i) (seen (suc i))) (sym (get_or-set_same now i new d lt))
        (subst (λ x. IsStuckSince (seen i) x new) (sym seen_behind) (subst (λ x. IsStuckSince x w new) (sym seen_here) stuck))))
        (cases_lt j i);
  }

-- one more task had its turn
pub passed_turn : (p : PlanForm) (v0 v w : View) (ts now : List Task) (i : ℕ) (old new : Task) (m n k : Bool) → HavePassed p v0 v i ts now m → i < length now
    → old ≡ get_or now i old → HasTurned p v w old new n → HasMoved (all_moves ts) (all_moves (set now i new)) k → (IsFalse k → IsFalse m × IsFalse n)
    → HavePassed p v0 w (i + 1) ts (set now i new) k
passed_turn p v0 v w ts now i old new m n k h lt e t c f =
    let tries = tries_of p old.op v w t.sat in
    record {
      tasks = after_turn p v w now i old new n h.tasks lt e t;
      sits = record { round = round_then v0 v w h.sits.round t.sat.round; rests = t.sat.rests };
      tries = tries_then v0 v w h.tries tries;
      same = set_ends now i new (t.ends ∙ ap ends_of (e ∙ get_or_default now i old new lt)) ∙ h.same;
      goes_on = all_then ts now (set now i new) (ends_many ts now h.same) h.goes_on (all_set now i old new lt e t.goes_on);
      number = c;
      stuck = λ z. one_turn v0 v w now i new (h.stuck (f z).0) tries (t.stuck (f z).1) lt;
    }

-- one that moved
pub passed_moved : (p : PlanForm) (v0 v w : View) (ts now : List Task) (i : ℕ) (old new : Task) (m n : Bool) → HavePassed p v0 v i ts now m → i < length now
    → old ≡ get_or now i old → HasTurned p v w old new n → n ≡ true → HavePassed p v0 w (i + 1) ts (set now i new) true
passed_moved p v0 v w ts now i old new m n h lt e t is =
    let mv = subst (HasMoved (moves old) (moves new)) is t.number in
    passed_turn p v0 v w ts now i old new m n true h lt e t
    (moved_second (all_moves ts) (all_moves now) (all_moves (set now i new)) m h.number (one_is now i old new true lt e mv)) (λ f. absurd (cc f))

-- one that did not
pub passed_still : (p : PlanForm) (v0 v w : View) (ts now : List Task) (i : ℕ) (old new : Task) (m n : Bool) → HavePassed p v0 v i ts now m → i < length now
    → old ≡ get_or now i old → HasTurned p v w old new n → n ≡ false → HavePassed p v0 w (i + 1) ts (set now i new) m
passed_still p v0 v w ts now i old new m n h lt e t is =
    let mv = subst (HasMoved (moves old) (moves new)) is t.number in
    passed_turn p v0 v w ts now i old new m n m h lt e t
    (moved_first (all_moves ts) (all_moves now) (all_moves (set now i new)) m h.number (one_is now i old new false lt e mv)) (λ f. (f, is))

-- so all have told why they do not move
all_turns : (v w : View) (place : ℕ) (ts : List Task) → HadTurns v w place ts → length ts ≡ place → AreStuck v w ts
all_turns v w place ts h e = record {
  views = h.views;
  first = h.first;
  next = λ i lt. h.next i (omega (arith, lt, e));
  last = ap h.views e ∙ h.last;
  each = λ i d lt. h.each i d (omega (arith, lt, e)) lt;
}

-- all had their turns
pub passed_all : (p : PlanForm) (v w : View) (place : ℕ) (ts ts' : List Task) (moved : Bool) → HavePassed p v w place ts ts' moved → length ts ≤ place → place ≤ length ts
    → HasSwept p v w ts ts' moved
passed_all p v w place ts ts' moved h le most = record {
  tasks = h.tasks;
  ends = h.same;
  goes_on = h.goes_on;
  number = h.number;
  stuck = λ f. all_turns v w place ts' (h.stuck f) full;
  tries = h.tries;
}
  where
    full : length ts' ≡ place
    full = let m = ends_many ts ts' h.same in omega (arith, le, most, m)

-- LOOKS AT WHICH NOTHING MOVED

-- nothing moved in the looks so far
pub record Swept (p : PlanForm) (v w : View) (ts ts' : List Task) : Type 0 where
  pub tasks : AreTasksAt p w ts'
  pub sits : StillSits v w
  pub tries : HasMoreTries v w
  pub same : all_ends ts' ≡ all_ends ts
  pub goes_on : AllGoOn ts ts'
  pub number : all_moves ts' ≡ all_moves ts

-- before the first look
pub swept_none : (p : PlanForm) (v : View) (ts : List Task) → AreTasksAt p v ts → v.held ≡ [] → Swept p v v ts ts
swept_none p v ts k h = record { tasks = k; sits = sits_none v h; tries = no_tries v; same = refl; goes_on = all_same ts; number = refl }

-- one more
pub swept_more : (p : PlanForm) (v u w : View) (ts ts1 ts2 : List Task) (m : Bool) → Swept p v u ts ts1 → StillSits u w → HasSwept p u w ts1 ts2 m → m ≡ false
    → Swept p v w ts ts2
swept_more p v u w ts ts1 ts2 m a s h f = record {
  tasks = h.tasks;
  sits = sits_then v u w a.sits s;
  tries = tries_then v u w a.tries h.tries;
  same = h.ends ∙ a.same;
  goes_on = all_then ts ts1 ts2 (ends_many ts ts1 a.same) a.goes_on h.goes_on;
  number = h.number.stayed f ∙ a.number;
}

-- the last
pub swept_then : (p : PlanForm) (v u w : View) (ts ts1 ts2 : List Task) (m : Bool) → Swept p v u ts ts1 → HasSwept p u w ts1 ts2 m → HasSwept p v w ts ts2 m
swept_then p v u w ts ts1 ts2 m a h = record {
  tasks = h.tasks;
  ends = h.ends ∙ a.same;
  goes_on = all_then ts ts1 ts2 (ends_many ts ts1 a.same) a.goes_on h.goes_on;
  number = subst (λ n. HasMoved n (all_moves ts2) m) a.number h.number;
  stuck = λ f. let s = h.stuck f in
      record { views = s.views; first = tries_then v u (s.views 0) a.tries s.first; next = s.next; last = s.last; each = s.each };
  tries = tries_then v u w a.tries h.tries;
}

-- LOOKS AT WHICH SOMETHING MOVED

-- something may have moved in the looks so far
pub record Went (p : PlanForm) (v w : View) (ts ts' : List Task) : Type 0 where
  pub tasks : AreTasksAt p w ts'
  pub sits : StillSits v w
  pub tries : HasMoreTries v w
  pub same : all_ends ts' ≡ all_ends ts
  pub goes_on : AllGoOn ts ts'
  pub grows : all_moves ts ≤ all_moves ts'

-- before the first look
pub went_none : (p : PlanForm) (v : View) (ts : List Task) → AreTasksAt p v ts → v.held ≡ [] → Went p v v ts ts
went_none p v ts k h = record { tasks = k; sits = sits_none v h; tries = no_tries v; same = refl; goes_on = all_same ts; grows = omega arith }

-- one more
pub went_on : (p : PlanForm) (v u w : View) (ts ts1 ts2 : List Task) (m : Bool) → Went p v u ts ts1 → StillSits u w → HasSwept p u w ts1 ts2 m
    → Went p v w ts ts2
went_on p v u w ts ts1 ts2 m a s h = record {
  tasks = h.tasks;
  sits = sits_then v u w a.sits s;
  tries = tries_then v u w a.tries h.tries;
  same = h.ends ∙ a.same;
  goes_on = all_then ts ts1 ts2 (ends_many ts ts1 a.same) a.goes_on h.goes_on;
  grows = let g = a.grows in let n = h.number.never_falls in omega (arith, g, n);
}

-- after one at which something moved
pub went_after : (p : PlanForm) (v u w : View) (ts ts1 ts2 : List Task) (m : Bool) → HasSwept p v u ts ts1 m → m ≡ true → Went p u w ts1 ts2
    → HasSwept p v w ts ts2 true
went_after p v u w ts ts1 ts2 m a e b = record {
  tasks = b.tasks;
  ends = b.same ∙ a.ends;
  goes_on = all_then ts ts1 ts2 (ends_many ts ts1 a.ends) a.goes_on b.goes_on;
  number = let g = b.grows in let n = a.number.grew e in moved_true (all_moves ts) (all_moves ts2) (omega (arith, g, n));
  stuck = λ f. absurd (cc f);
  tries = tries_then v u w a.tries b.tries;
}

-- nothing moved at the first look, and then came the others
pub swept_both : (p : PlanForm) (v u w : View) (ts ts1 ts2 : List Task) (m n : Bool) → AreTasksAt p v ts → v.held ≡ [] → StillSits v u
    → HasSwept p v u ts ts1 m → m ≡ false → HasSwept p u w ts1 ts2 n → HasSwept p v w ts ts2 n
swept_both p v u w ts ts1 ts2 m n k r s h f x = swept_then p v u w ts ts1 ts2 n (swept_more p v v u ts ts ts1 m (swept_none p v ts k r) s h f) x

-- LOOKS AT ALL TASKS

looks_none : (t : Task) → LooksSame t t
looks_none t = record { ins = t.ins; is = refl; ends = refl; received = refl }

-- the first tasks were found done
pub record LookedTo (place : ℕ) (ts ts' : List Task) : Type 0 where
  pub looked : AllLooked ts ts'
  pub rest : (i : ℕ) (d : Task) → place ≤ i → i < length ts' → get_or ts' i d ≡ get_or ts i d
  pub done : (i : ℕ) (d : Task) → i < place → i < length ts' → IsDone (get_or ts' i d)

-- before the first task
pub looked_none : (ts : List Task) → LookedTo 0 ts ts
looked_none ts = record {
  looked = record { many = refl; each = λ i d lt. looks_none (get_or ts i d) };
  rest = λ i d le lt. refl;
  done = λ i d lt l. absurd (omega (arith, lt));
}

module _ (place : ℕ) (ts now : List Task) (old new : Task) (h : LookedTo place ts now) (lt : place < length now) (e : old ≡ get_or now place old)
    (l : LooksSame old new) where
  many_now : length (set now place new) ≡ length now
  many_now = length-set now place new

  -- one task more was looked at
  pub looked_one : AllLooked ts (set now place new)
  looked_one = record {
    many = many_now ∙ h.looked.many;
    each = λ i d li. let m = many_now in ⊎_elim
        (λ q.
        let at : get_or ts i d ≡ old = sym (h.rest i d (omega (arith, q)) (omega (arith, li, m))) ∙ ap (λ k. get_or now k d) (sym q) ∙ get_or_default now place d old lt
        ∙ sym e in
        subst (LooksSame (get_or ts i d)) (sym (ap (λ k. get_or (set now place new) k d) (sym q) ∙ get_or-set_same now place new d lt))
        (subst (λ x. LooksSame x new) (sym at) l))
        (λ ne. subst (LooksSame (get_or ts i d)) (sym (get_or-set_other now place i new d (λ q. ne (sym q)))) (h.looked.each i d (omega (arith, li, m))))
        (cases_eq place i);
  }

  -- and found done
  pub looked_done : IsDone new → LookedTo (place + 1) ts (set now place new)
  looked_done fine = record {
    looked = looked_one;
    rest = λ i d le li. get_or-set_other now place i new d (λ q. omega (arith, le, q))
        ∙ h.rest i d (omega (arith, le)) (let m = many_now in omega (arith, li, m));
    done = λ i d li ll. ⊎_elim
        (λ q. subst IsDone (sym (ap (λ k. get_or (set now place new) k d) (sym q) ∙ get_or-set_same now place new d lt)) fine)
        (λ ne. subst IsDone (sym (get_or-set_other now place i new d (λ q. ne (sym q))))
        (h.done i d (omega (arith, li, ne)) (let m = many_now in omega (arith, ll, m))))
        (cases_eq place i);
  }

  -- or not
  pub looked_busy : (IsDone new → ⊥) → AllDone (set now place new) → ⊥
  looked_busy busy idle = busy (subst IsDone (get_or-set_same now place new new lt) (idle.each place new (let m = many_now in omega (arith, lt, m))))

-- behind the last one
pub looked_all : (place : ℕ) (ts ts' : List Task) → LookedTo place ts ts' → length ts ≤ place → AllDone ts'
looked_all place ts ts' h le = record { each = λ i d lt. h.done i d (let n = h.looked.many in omega (arith, lt, le, n)) lt }

-- a task with an item that is known to be there is not done
pub not_done : (ins : List inlet.Inlet) (port : ℕ) → (port < length ins) × ((d : inlet.Inlet) → 0 < length (known_of (get_or ins port d))) → AllReceived ins → ⊥
not_done ins port h a =
    let x = there_is ins port h.0 in
    let lt = h.1 x.0 in
    let z = ap length (a port x.0 h.0) in
    omega (arith, lt, z)

-- PASSES

-- one pass after another
pub seat_then : (b u w : Bundle) → SameSeat b u → SameSeat u w → SameSeat b w
seat_then b u w x y = record { lot = y.lot ∙ x.lot; round = round_then b.seat.view u.seat.view w.seat.view x.round y.round; looks = y.looks ∙ x.looks }

-- one behind others
pub gone_then : (b u w : Bundle) (m n k : Bool) → HasGone b u m → HasGone u w n → HasMoved (all_moves b.tasks) (all_moves w.tasks) k → HasGone b w k
gone_then b u w m n k x y h =
    has_gone b w k (y.ends ∙ x.ends) (all_then b.tasks u.tasks w.tasks (ends_many b.tasks u.tasks x.ends) x.goes_on y.goes_on) h

-- one that moved nothing
pub gone_still : (b u w : Bundle) (m : Bool) → HasGone b u m → HasGone u w false → HasGone b w m
gone_still b u w m x y =
    gone_then b u w m false m x y (moved_first (all_moves b.tasks) (all_moves u.tasks) (all_moves w.tasks) m x.number y.number)

-- one that moved something
pub gone_moved : (b u w : Bundle) (m : Bool) → HasGone b u m → HasGone u w true → HasGone b w true
gone_moved b u w m x y =
    gone_then b u w m true true x y (moved_second (all_moves b.tasks) (all_moves u.tasks) (all_moves w.tasks) m x.number y.number)

-- before the first
pub gone_none : (b : Bundle) → HasGone b b false
gone_none b = has_gone b b false refl (all_same b.tasks) (moved_false (all_moves b.tasks) (all_moves b.tasks) refl)

-- passes that moved something, one after another: before the first
pub passes_none : (b b' : Bundle) → b'.tasks ≡ b.tasks → ManyPasses 0 b b'
unfolding ManyPasses
passes_none b b' e = e

-- and one more
pub passes_next : (n : ℕ) (b m b' : Bundle) → ManyPasses n b m → SameSeat m b' → HasGone m b' true → ManyPasses (n + 1) b b'
unfolding ManyPasses
passes_next n b m b' h s g = let e : suc n ≡ n + 1 = omega arith in subst (λ (k : ℕ). ManyPasses k b b') e (m, h, s, g)

-- they are told of a bundle that has the same tasks, too
pub passes_of : (n : ℕ) (b c b' : Bundle) → b.tasks ≡ c.tasks → ManyPasses n b b' → ManyPasses n c b'
unfolding ManyPasses
passes_of zero b c b' e h = h ∙ e
passes_of (suc n) b c b' e h = (h.0, passes_of n b c h.0 e h.1, h.2, h.3)
