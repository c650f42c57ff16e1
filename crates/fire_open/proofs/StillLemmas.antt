-- A task of which everything stayed but what its ends know.
use Rattle.std.proofs.Common.{◌≡◌, ℕ, ℤ, List, [], ◌∷◌, length, map, refl, sym, ap, ◌∙◌, arith, subst, get_or}
use Rattle.std.specs.Prelude.{slice_get}
use Rattle.std.proofs.lemmas.Option.{get_or_from_slice_get, slice_get-get_or}
use Rattle.river_base.specs.declared.item.Item as item
use Rattle.river_plan.specs.Forms.{PlanForm}
use Rattle.brooklet_model.specs.Fire.{first_kept}
use Rattle.brooklet_model.specs.Words.{Word}
use Rattle.brooklet_step.specs.Given.{FitState, StandsAfter}
use Rattle.brooklet_step.specs.Took.{IsBlank}
use Rattle.fire_tasks.specs.Fired.{SeenTask, HasFired, kinds_in, kinds_out}
use Rattle.fire_tasks.specs.declared.task.Task.{Task}
use Rattle.fire_tasks.specs.Inlet as inlet
use Rattle.fire_tasks.specs.Inlet.{TakesFrom, Given}
use Rattle.fire_tasks.specs.Outlet as outlet
use Rattle.fire_tasks.specs.Outlet.{SendsTo, Stored}
use Rattle.fire_tasks.specs.Ports.{in_end, out_end, in_ends, out_ends, sent_in, sent_of, sent_count, RingIn, RingOut}
use Rattle.river_rings.specs.Ends.{RingId}
use Rattle.fire_tasks.specs.Layout.{IsLink, IsPair, IsInput, AreTasks}
use Rattle.fire_tasks.specs.Adds.{AreHomes}
use Rattle.fire_tasks.specs.Tasks.{FitRings, HasWord, TaskEnds, IsTask, ends_of, all_ends, moves, all_moves, seen_task}
use Rattle.fire_tasks.proofs.PortLemmas.{count_same}
use Rattle.fire_open.specs.TaskCores.{TaskCore, task_core}
use Rattle.fire_open.proofs.Lists.{same_got, map_through, map_long}

-- a task whose core is the same is the same operator's still
pub still_task : (p : PlanForm) (adds : ℕ → List (List ℤ)) (t t' : Task) → task_core t' ≡ task_core t → IsTask p adds t → IsTask p adds t'
still_task p adds t t' e k =
    let es : ends_of t' ≡ ends_of t = ap (λ (s : TaskCore). s.ends) e in
    let o : t'.op ≡ t.op = ap (λ (s : TaskEnds). s.op) es in
    let i : in_ends t'.ins ≡ in_ends t.ins = ap (λ (s : TaskEnds). s.ins) es in
    let u : out_ends t'.outs ≡ out_ends t.outs = ap (λ (s : TaskEnds). s.outs) es in
    let s : seen_task t' ≡ seen_task t = ap (λ (x : TaskCore). x.seen) e in
    let ks : t'.kinds ≡ t.kinds = ap (λ (x : TaskCore). x.kinds) e in
    let st : t'.states ≡ t.states = ap (λ (x : TaskCore). x.states) e in
    let pe : t'.pending ≡ t.pending = ap (λ (x : TaskCore). x.pending) e in
    let ou : t'.out ≡ t.out = ap (λ (x : TaskCore). x.out) e in
    let ta : t'.tables ≡ t.tables = ap (λ (x : TaskCore). x.tables) e in
    let cl : t'.classes ≡ t.classes = ap (λ (x : TaskCore). x.classes) e in
    let co : t'.count ≡ t.count = ap (λ (x : TaskCore). x.count) e in
    record {
      op = k.op;
      op_is = ap (slice_get p.ops) o ∙ k.op_is;
      ins = map_long in_end t'.ins t.ins i ∙ k.ins;
      kinds = ks ∙ k.kinds;
      outs = map_long out_end t'.outs t.outs u ∙ k.outs;
      pending = ap length pe ∙ k.pending;
      rings = subst (FitRings (kinds_out p k.op)) (sym u) k.rings;
      blank = subst (IsBlank k.op.kernel) (sym ou) k.blank;
      homes = subst (λ c. AreHomes p t'.op t'.tables c) (sym cl)
          (subst (λ a. AreHomes p t'.op a t.classes) (sym ta) (subst (λ i. AreHomes p i t.tables t.classes) (sym o) k.homes));
      word = k.word;
      count = co ∙ k.count;
      fired = subst (λ x. HasFired p k.op adds x k.word) (sym s) k.fired;
      stands = record {
        fit = subst (FitState k.op.kernel (kinds_in p k.op)) (sym st) k.stands.fit;
        after =
            λ w a h. subst (λ x. StandsAfter k.op.kernel (kinds_in p k.op) (first_kept k.op.kernel) x w) (sym st) (k.stands.after w a h);
      };
    }

-- and what it fired on
pub still_word : (p : PlanForm) (adds : ℕ → List (List ℤ)) (t t' : Task) (w : Word) → task_core t' ≡ task_core t → HasWord p adds t w → HasWord p adds t' w
unfolding still_task
still_word p adds t t' w e k = record { task = still_task p adds t t' e k.task; word = k.word }

-- and keep their facts
pub still_tasks : (p : PlanForm) (adds : ℕ → ℕ → List (List ℤ)) (ts ts' : List Task) → map task_core ts' ≡ map task_core ts → AreTasks p adds ts → AreTasks p adds ts'
still_tasks p adds ts ts' e k = record {
  each = λ i d lt.
      let g = same_got task_core ts' ts e i (get_or ts' i d) (slice_get-get_or ts' i d lt) in
      let l = map_long task_core ts' ts e in
      let o : (get_or ts' i d).op ≡ g.0.op = ap (λ (s : TaskCore). s.ends.op) g.2 in
      subst (λ n. IsTask p (adds n) (get_or ts' i d)) (sym o)
      (still_task p (adds g.0.op) g.0 (get_or ts' i d) g.2
      (subst (λ (x : Task). IsTask p (adds x.op) x) (get_or_from_slice_get ts i g.0 d g.1) (k.each i d (omega (arith, lt, l)))));
}

-- and the same ends
pub still_ends : (ts ts' : List Task) → map task_core ts' ≡ map task_core ts → all_ends ts' ≡ all_ends ts
still_ends ts ts' e = map_through task_core (λ (s : TaskCore). s.ends) ts' ts e

pub sent_same : (xs ys : List outlet.Outlet) → sent_in xs ≡ sent_in ys → sent_count xs ≡ sent_count ys
sent_same [] [] e = refl
sent_same [] (y ∷ ys) e = absurd (cc e)
sent_same (x ∷ xs) [] e = absurd (cc e)
sent_same (x ∷ xs) (y ∷ ys) e =
    let h : sent_of x ≡ sent_of y = cc e in
    let t : sent_in xs ≡ sent_in ys = cc e in
    let a = ap length h in
    let i = sent_same xs ys t in
    omega (arith, a, i)

pub still_moves : (t t' : Task) → task_core t' ≡ task_core t → moves t' ≡ moves t
still_moves t t' e =
    let s : seen_task t' ≡ seen_task t = ap (λ (x : TaskCore). x.seen) e in
    let a = count_same t'.ins t.ins (ap (λ (x : SeenTask). x.received) s) in
    let b = sent_same t'.outs t.outs (ap (λ (x : SeenTask). x.sent) s) in
    omega (arith, a, b)

-- tasks that are still have the same number of moves
pub still_all_moves : (ts ts' : List Task) → map task_core ts' ≡ map task_core ts → all_moves ts' ≡ all_moves ts
still_all_moves [] [] e = refl
still_all_moves [] (y ∷ ys) e = absurd (cc e)
still_all_moves (x ∷ xs) [] e = absurd (cc e)
still_all_moves (x ∷ xs) (y ∷ ys) e =
    let h : task_core y ≡ task_core x = cc e in
    let t : map task_core ys ≡ map task_core xs = cc e in
    let a = still_moves x y h in
    let i = still_all_moves xs ys t in
    omega (arith, a, i)

-- THE SAME ENDS

ring_in : (a b : RingId) (c d : ℕ) → RingIn a c ≡ RingIn b d → (a ≡ b) × (c ≡ d)
ring_in a b c d e = (cc e, cc e)

ring_out : (a b : RingId) (c d : ℕ) → RingOut a c ≡ RingOut b d → (a ≡ b) × (c ≡ d)
ring_out a b c d e = (cc e, cc e)

-- a pair is known by the ends alone
pub pair_same : (f f' : outlet.Outlet) (i i' : inlet.Inlet) → out_end f' ≡ out_end f → in_end i' ≡ in_end i → IsPair f i → IsPair f' i'
pair_same (SendsTo f) (SendsTo g) (TakesFrom t) (TakesFrom u) ef ei h = (ring_in u.id t.id u.cap t.cap ei).0 ∙ h ∙ sym (ring_out g.id f.id g.cap f.cap ef).0
pair_same (SendsTo f) (SendsTo g) (TakesFrom t) (Given u) ef ei h = absurd (cc ei)
pair_same (SendsTo f) (Stored xs) (TakesFrom t) i' ef ei h = absurd (cc ef)
pair_same (SendsTo f) f' (Given k) i' ef ei h = absurd h
pair_same (Stored xs) f' i i' ef ei h = absurd h

-- the two ends of a ring are known by the ends alone
pub link_same : (cap : ℕ) (f f' : outlet.Outlet) (i i' : inlet.Inlet) → out_end f' ≡ out_end f → in_end i' ≡ in_end i → IsLink cap f i → IsLink cap f' i'
link_same cap (SendsTo f) (SendsTo g) (TakesFrom t) (TakesFrom u) ef ei h =
    let a = ring_in u.id t.id u.cap t.cap ei in
    let b = ring_out g.id f.id g.cap f.cap ef in
    (a.0 ∙ h.0 ∙ sym b.0, a.1 ∙ h.1, b.1 ∙ h.2)
link_same cap (SendsTo f) (SendsTo g) (TakesFrom t) (Given u) ef ei h = absurd (cc ei)
link_same cap (SendsTo f) (Stored xs) (TakesFrom t) i' ef ei h = absurd (cc ef)
link_same cap (SendsTo f) f' (Given k) i' ef ei h = absurd h
link_same cap (Stored xs) f' i i' ef ei h = absurd h

-- a kept list of an input is known by its end
pub input_same : (xs : List item.Item) (i i' : inlet.Inlet) → in_end i' ≡ in_end i → IsInput xs i → IsInput xs i'
input_same xs (Given k) (Given k') e h = let x : k'.line ≡ k.line = cc e in x ∙ h
input_same xs (Given k) (TakesFrom t) e h = absurd (cc e)
input_same xs (TakesFrom t) i' e h = absurd h

-- two ends of a ring of some capacity are a pair
pub pair_of : (cap : ℕ) (f : outlet.Outlet) (i : inlet.Inlet) → IsLink cap f i → IsPair f i
pair_of cap (SendsTo f) (TakesFrom t) h = h.0
pair_of cap (SendsTo f) (Given k) h = absurd h
pair_of cap (Stored xs) i h = absurd h
