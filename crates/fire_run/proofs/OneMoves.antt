-- What one move is.
use Rattle.std.proofs.Common.{◌≡◌, ℕ, ℤ, ◌++◌, zero, suc, ◌+◌, ◌<◌, List, [], ◌∷◌, length, map, refl, sym, ap, ◌∙◌, arith, subst, Some, inl, inr, ⊎_elim, get_or, set}
use Rattle.std.specs.Prelude.{None, replicate, slice_get}
use Rattle.std.proofs.lemmas.List.{get_or-set_same, get_or_default}
use Rattle.std.proofs.lemmas.Option.{slice_get-get_or}
use Rattle.river_base.specs.declared.item.Item as item
use Rattle.river_base.specs.Places.{append_at, list_at}
use Rattle.river_base.proofs.Lists.{there_is}
use Rattle.river_plan.specs.Forms.{PlanForm}
use Rattle.river_plan.specs.Valid.{IsPlan}
use Rattle.brooklet_model.specs.Bounded.{Capacities}
use Rattle.class_locks.specs.Logs.{Holding}
use Rattle.fire_tasks.specs.Inlet as inlet
use Rattle.fire_tasks.specs.declared.task.Task.{Task}
use Rattle.fire_tasks.specs.Ports.{IsIdle, in_ends, received_in, sent_in}
use Rattle.fire_tasks.specs.Adds.{added, logs_of}
use Rattle.fire_tasks.specs.Tasks.{HasWord, all_ends}
use Rattle.fire_tasks.proofs.BundleLemmas.{ends_many}
use Rattle.fire_tasks.specs.Turns.{HasFiredAt, logged}
use Rattle.fire_tasks.proofs.PassLemmas.{looked_task, looked_word, with_ins}
use Rattle.fire_tasks.proofs.PortLemmas.{ins_many}
use Rattle.fire_open.specs.TaskCores.{TaskCore, task_core}
use Rattle.fire_tasks.specs.Rows.{CanAddTo, cells_grown}
use Rattle.fire_run.specs.OneMove.{LastMoved, MayHaveMoved, TaskMoves, Takes, TakesFront}
use Rattle.fire_open.proofs.Lists.{map_set}
use Rattle.fire_run.specs.declared.net.Net.{Net}
use Rattle.fire_run.specs.NetOf.{AreIdle, IsNetOf}
use Rattle.fire_run.proofs.Standing.{can_send}
use Rattle.fire_run.proofs.RingPairs.{sents}
use Rattle.fire_run.proofs.TakenFronts.{front_taken}
use Rattle.fire_run.proofs.MoveLemmas.{Walked, walked_long}
use Rattle.fire_run.proofs.RowLemmas.{word_after}

-- a take, whose rows came to the cells
pub takes_at : (p : PlanForm) (t t1 : Task) (adds' : List (List (List ℤ))) (cells cells' : List Holding) → IsPlan p → IsIdle t.pending → HasFiredAt p t t1
    → CanAddTo t1.tables t1.classes (list_at t1.out.adds) cells → cells' ≡ cells_grown (logged t.op t1.classes t1.tables (list_at t1.out.adds)) 0 cells
    → adds' ≡ replicate (length t1.out.adds) [] → Takes p t (record t1 { out = record { outs = t1.out.outs; adds = adds' } }) cells cells'
takes_at p t t1 adds' cells cells' v i f can e b = record {
  idle = i;
  port = f.did.port;
  item = f.did.item;
  there = f.did.there;
  received = f.did.received;
  sent = f.did.sent;
  out = f.did.out;
  fired = f.did.fired;
  pends = f.did.pends;
  logs = λ none. e
      ∙ ap (λ cs. cells_grown (logged t.op cs t1.tables (list_at t1.out.adds)) 0 cells) f.homes.1
      ∙ ap (λ hs. cells_grown (logged t.op t.classes hs (list_at t1.out.adds)) 0 cells) f.homes.0
      ∙ ap (λ a. cells_grown (logged t.op t.classes t.tables (list_at a)) 0 cells) (f.did.rows none);
  word = λ none k. word_after p v t t1 cells cells' k f can e adds' b none;
}

-- after a look
pub takes_looked : (p : PlanForm) (t t' : Task) (ins : List inlet.Inlet) (cells cells' : List Holding) → in_ends ins ≡ in_ends t.ins
    → received_in ins ≡ received_in t.ins → Takes p (with_ins t ins) t' cells cells' → Takes p t t' cells cells'
takes_looked p t t' ins cells cells' e r h = record {
  idle = h.idle;
  port = h.port;
  item = h.item;
  there = (let m = ins_many t.ins ins e in let lt = h.there in omega (arith, m, lt));
  received = h.received ∙ ap (λ ls. append_at ls h.port (h.item ∷ [])) r;
  sent = h.sent;
  out = h.out;
  fired = h.fired;
  pends = h.pends;
  logs = h.logs;
  word = λ none k. subst (λ w. HasWord p (added p (logs_of cells') t.op) t' (w ++ (h.port, h.item) ∷ [])) (looked_word p (added p (logs_of cells) t.op) t ins k e r)
      (h.word none (looked_task p (added p (logs_of cells) t.op) t ins k e r));
}

still_set : (ts : List Task) (i : ℕ) (t : Task) → map task_core (set ts i t) ≡ set (map task_core ts) i (task_core t)
still_set [] i t = refl
still_set (x ∷ ts) zero t = refl
still_set (x ∷ ts) (suc i) t = ap (λ l. task_core x ∷ l) (still_set ts i t)

-- the move of the last task that has one
pub last_moved : (p : PlanForm) (cells0 cells : List Holding) (ts0 ts : List Task) (back o : ℕ) (old new : Task)
    → Walked ts0 back ts → o + back + 1 ≡ length ts0 → old ≡ get_or ts o old → TaskMoves p old new cells0 cells
    → MayHaveMoved p ts0 (set ts o new) cells0 cells
last_moved p cells0 cells ts0 ts back o old new h e is m =
    let l = walked_long ts0 ts back h in
    let lt : o < length ts0 = omega (arith, e) in
    let q : old ≡ get_or ts0 o old = is ∙ h.rest o old (omega (arith, e)) in
    record {
      at = o;
      there = lt;
      last = λ i d lo li. h.done i d li (omega (arith, e, lo));
      task = new;
      stands = λ d. get_or-set_same ts o new d (omega (arith, lt, l));
      move = λ d. subst (λ t. TaskMoves p t new cells0 cells) (q ∙ get_or_default ts0 o old d lt) m;
      others = still_set ts o new ∙ ap (λ s. set s o (task_core new)) h.same ∙ sym (still_set ts0 o new);
    }

still_bad : (ts us : List Task) (i : ℕ) (d : Task) → map task_core us ≡ map task_core ts → (get_or us i d).bad ≡ (get_or ts i d).bad
still_bad [] [] i d e = refl
still_bad [] (u ∷ us) i d e = absurd (cc e)
still_bad (t ∷ ts) [] i d e = absurd (cc e)
still_bad (t ∷ ts) (u ∷ us) zero d e = let h : task_core u ≡ task_core t = cc e in ap (λ (s : TaskCore). s.seen.bad) h
still_bad (t ∷ ts) (u ∷ us) (suc i) d e = let h : map task_core us ≡ map task_core ts = cc e in still_bad ts us i d h

still_sents : (ts us : List Task) → map task_core us ≡ map task_core ts → sents us ≡ sents ts
still_sents [] [] e = refl
still_sents [] (u ∷ us) e = absurd (cc e)
still_sents (t ∷ ts) [] e = absurd (cc e)
still_sents (t ∷ ts) (u ∷ us) e =
    let h : task_core u ≡ task_core t = cc e in
    let r : map task_core us ≡ map task_core ts = cc e in
    ap (λ (s : TaskCore). s.seen.sent ∷ sents us) h ∙ ap (λ ls. sent_in t.outs ∷ ls) (still_sents ts us r)

still_received : (ts us : List Task) (i : ℕ) (d : Task) → map task_core us ≡ map task_core ts → received_in (get_or us i d).ins ≡ received_in (get_or ts i d).ins
still_received [] [] i d e = refl
still_received [] (u ∷ us) i d e = absurd (cc e)
still_received (t ∷ ts) [] i d e = absurd (cc e)
still_received (t ∷ ts) (u ∷ us) zero d e = let h : task_core u ≡ task_core t = cc e in ap (λ (s : TaskCore). s.seen.received) h
still_received (t ∷ ts) (u ∷ us) (suc i) d e = let h : map task_core us ≡ map task_core ts = cc e in still_received ts us i d h

-- no item failed its test, since what the tasks are is a net; what was taken is the front of what was there; and the ends of the rings
-- looked
module _ (p : PlanForm) (inputs : List (List item.Item)) (caps : Capacities) (net net' : Net) (ts : List Task) (v : IsPlan p) (n : IsNetOf p inputs caps net)
    (n' : IsNetOf p inputs caps net') (ends : all_ends net'.tasks ≡ all_ends net.tasks) (e : map task_core net'.tasks ≡ map task_core ts)
    (h : MayHaveMoved p net.tasks ts net.cells net'.cells) where
  long : h.at < length net'.tasks
  long = let m = ends_many net.tasks net'.tasks ends in let lt = h.there in omega (arith, m, lt)

  fine : h.task.bad ≡ None
  unfolding long
  fine = ap (λ (x : Task). x.bad) (sym (h.stands h.task)) ∙ sym (still_bad ts net'.tasks h.at h.task e)
      ∙ (can_send p inputs caps net' v n').fine h.at h.task long

  with_front : (d : Task) → Takes p (get_or net.tasks h.at d) h.task net.cells net'.cells
      → TakesFront p (get_or net.tasks h.at d) h.task net.cells net'.cells
  unfolding long
  with_front d k =
      let t = get_or net.tasks h.at d in
      let g : slice_get net.tasks h.at ≡ Some t = slice_get-get_or net.tasks h.at d h.there in
      let t' = get_or net'.tasks h.at d in
      let g' : slice_get net'.tasks h.at ≡ Some t' = slice_get-get_or net'.tasks h.at d long in
      let r : received_in t'.ins ≡ append_at (received_in t.ins) k.port (k.item ∷ []) =
      still_received ts net'.tasks h.at d e ∙ ap (λ (x : Task). received_in x.ins) (h.stands d) ∙ k.received in
      let q : t ≡ get_or net.tasks h.at h.task = get_or_default net.tasks h.at d h.task h.there in
      let same : sents net'.tasks ≡ sents net.tasks =
      still_sents (set net.tasks h.at h.task) net'.tasks (e ∙ h.others)
      ∙ map_set (λ (x : Task). sent_in x.outs) net.tasks h.at h.task (ap sent_in k.sent ∙ ap (λ (x : Task). sent_in x.outs) q) in
      record { takes = k; front = front_taken p inputs caps net net' v n n' ends same h.at k.port t t' k.item g g' k.there r }

  -- so the last of these moves is one of the net's
  pub one_moved : LastMoved p net.tasks net'.tasks net.cells net'.cells
  one_moved = record {
    at = h.at;
    there = h.there;
    last = h.last;
    task = h.task;
    fine = fine;
    move = λ d. ⊎_elim (λ s. inl s) (λ k. inr (with_front d k)) (h.move d);
    others = e ∙ h.others;
  }

-- where a task moved, the tasks were not idle
pub moved_busy : (p : PlanForm) (ts ts' : List Task) (cells cells' : List Holding) → LastMoved p ts ts' cells cells' → AreIdle ts → ⊥
moved_busy p ts ts' cells cells' h idle =
    let t = h.task in
    let d = idle.each h.at t h.there in
    ⊎_elim
    (λ s. let f = s.0.front in let a = ap length (sym f.was ∙ d.idle s.0.port) in omega (arith, a))
    (λ k.
    let i = there_is (get_or ts h.at t).ins k.takes.port k.takes.there in
    let f = k.front i.0 in
    let a = ap length (sym f.1 ∙ d.received k.takes.port i.0 k.takes.there) in
    omega (arith, a))
    (h.move t)
