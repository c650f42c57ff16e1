-- That no number falls, port by port: from the tasks of the parts to those of the net, and through one move.
use Rattle.std.proofs.Common.{◌≡◌, ℕ, zero, suc, ◌%◌, ◌==◌, ◌<◌, Bool, cond, true, false, List, [], ◌∷◌, length, map, refl, sym, ap, ◌∙◌, subst, arith, ⊎_elim, get_or, set, eq-eqb}
use Rattle.std.specs.Prelude.{IsTrue, IsFalse}
use Rattle.std.proofs.lemmas.List.{get_or_default, length-set}
use Rattle.std.proofs.lemmas.Nat.{mod_below}
use Rattle.river_base.proofs.Lists.{there_is}
use Rattle.river_plan.specs.Forms.{PlanForm}
use Rattle.class_locks.specs.Logs.{Holding}
use Rattle.fire_tasks.specs.declared.bundle.Bundle.{Bundle}
use Rattle.fire_tasks.specs.declared.task.Task.{Task}
use Rattle.fire_tasks.specs.Bundles.{AllGoOn, HasGone}
use Rattle.fire_tasks.specs.Ports.{AreFronts, received_in, sent_in}
use Rattle.fire_tasks.specs.Tasks.{ExtendsFronts, TaskEnds, all_ends, ends_of}
use Rattle.fire_tasks.proofs.BundleLemmas.{ends_many}
use Rattle.fire_tasks.proofs.Fronts.{all_set, all_then, fronts_is, fronts_more, goes_sent, goes_took}
use Rattle.fire_open.specs.TaskCores.{TaskCore, task_core}
use Rattle.fire_run.specs.Frames.{AreTasksOf, tasks_of_part}
use Rattle.fire_run.specs.OneMove.{LastMoved, Sends}

-- WHAT LOOKED

goes_looked : (t u : Task) → task_core u ≡ task_core t → ExtendsFronts t u
goes_looked t u e = record {
  received = fronts_is (received_in t.ins) (received_in u.ins) (ap (λ (s : TaskCore). s.seen.received) e);
  sent = fronts_is (sent_in t.outs) (sent_in u.outs) (ap (λ (s : TaskCore). s.seen.sent) e);
}

-- tasks of which all stayed but what the ends of their rings know
pub all_looked : (ts us : List Task) → map task_core us ≡ map task_core ts → AllGoOn ts us
all_looked [] us e i d lt = absurd (omega (arith, lt))
all_looked (t ∷ ts) [] e i d lt = absurd (cc e)
all_looked (t ∷ ts) (u ∷ us) e zero d lt = let h : task_core u ≡ task_core t = cc e in goes_looked t u h
all_looked (t ∷ ts) (u ∷ us) e (suc i) d lt = let h : map task_core us ≡ map task_core ts = cc e in all_looked ts us h i d (omega (arith, lt))

-- PARTS

without_first : (b : Bool) (t u : Task) (xs ys : List Task) → AllGoOn (cond b (t ∷ xs) xs) (cond b (u ∷ ys) ys) → AllGoOn xs ys
without_first true t u xs ys g = λ i d lt. g (suc i) d (omega (arith, lt))
without_first false t u xs ys g = g

-- where the tasks of a part went on, so did each task of it
part_goes : (n k : ℕ) (ts us : List Task) → all_ends us ≡ all_ends ts → AllGoOn (tasks_of_part n k ts) (tasks_of_part n k us) → (i : ℕ) (d : Task)
    → i < length ts → (get_or ts i d).op % n ≡ k → ExtendsFronts (get_or ts i d) (get_or us i d)
part_goes n k [] us e g i d lt q = absurd (omega (arith, lt))
part_goes n k (t ∷ ts) [] e g i d lt q = absurd (cc e)
part_goes n k (t ∷ ts) (u ∷ us) e g i d lt q =
    let h : ends_of u ≡ ends_of t = cc e in
    let r : all_ends us ≡ all_ends ts = cc e in
    let s : u.op ≡ t.op = ap (λ (x : TaskEnds). x.op) h in
    by (λ w j l y. part_goes n k ts us r w j d l y)
    (subst (λ x. AllGoOn (cond ((t.op % n) == k) (t ∷ tasks_of_part n k ts) (tasks_of_part n k ts))
    (cond ((x % n) == k) (u ∷ tasks_of_part n k us) (tasks_of_part n k us))) s g) i lt q
  where
    by : (AllGoOn (tasks_of_part n k ts) (tasks_of_part n k us) → (j : ℕ) → j < length ts → (get_or ts j d).op % n ≡ k → ExtendsFronts (get_or ts j d) (get_or us j d))
        → AllGoOn (cond ((t.op % n) == k) (t ∷ tasks_of_part n k ts) (tasks_of_part n k ts))
        (cond ((t.op % n) == k) (u ∷ tasks_of_part n k us) (tasks_of_part n k us)) → (j : ℕ) → j < length (t ∷ ts) → (get_or (t ∷ ts) j d).op % n ≡ k
        → ExtendsFronts (get_or (t ∷ ts) j d) (get_or (u ∷ us) j d)
    by rest w zero l y =
        subst (λ b. AllGoOn (cond b (t ∷ tasks_of_part n k ts) (tasks_of_part n k ts)) (cond b (u ∷ tasks_of_part n k us) (tasks_of_part n k us)))
        (eq-eqb (t.op % n) k y) w 0 d (omega arith)
    by rest w (suc j) l y =
        rest (without_first ((t.op % n) == k) t u (tasks_of_part n k ts) (tasks_of_part n k us) w) j (omega (arith, l)) y

-- where the tasks of all parts went on, and were put together again, all went on
pub parts_go : (n : ℕ) (ts us : List Task) (bs bs' : List Bundle) → 0 < n → length bs ≡ n → length bs' ≡ length bs
    → ((k : ℕ) (d : Bundle) → k < length bs → (get_or bs k d).tasks ≡ tasks_of_part n k ts)
    → ((k : ℕ) (d : Bundle) → k < length bs → HasGone (get_or bs k d) (get_or bs' k d) (get_or bs' k d).moved)
    → AreTasksOf bs' us → all_ends us ≡ all_ends ts → AllGoOn ts us
parts_go n ts us bs bs' some many as_many dealt gone theirs ends i d lt =
    let k = (get_or ts i d).op % n in
    let b = mod_below (get_or ts i d).op n some in
    let l : k < length bs = omega (arith, b, many) in
    let l' : k < length bs' = omega (arith, l, as_many) in
    let x = (there_is bs k l).0 in
    let g = gone k x l in
    let own = (get_or bs' k x).tasks in
    let here : AllGoOn (tasks_of_part n k ts) own = subst (λ (ys : List Task). AllGoOn ys own) (dealt k x l) g.goes_on in
    let long : length own ≡ length (tasks_of_part n k ts) = ends_many (get_or bs k x).tasks own g.ends ∙ ap length (dealt k x l) in
    let same : map task_core (tasks_of_part n k us) ≡ map task_core own =
    subst (λ (c : ℕ). map task_core (tasks_of_part c k us) ≡ map task_core own) (as_many ∙ many) (theirs.each k x l') in
    part_goes n k ts us ends (all_then (tasks_of_part n k ts) own (tasks_of_part n k us) long here (all_looked own (tasks_of_part n k us) same)) i d lt refl

-- ONE MOVE

goes_sending : (t u : Task) → Sends t u → ExtendsFronts t u
goes_sending t u s =
    goes_sent t u (ap (λ (x : Task). received_in x.ins) s.stays)
    (subst (AreFronts (sent_in t.outs)) (sym s.front.sent) (fronts_more (sent_in t.outs) s.port (s.front.item ∷ [])))

-- tasks of which the last that had something to do made a move
pub moved_goes : (p : PlanForm) (ts us : List Task) (cells cells' : List Holding) → LastMoved p ts us cells cells' → AllGoOn ts us
moved_goes p ts us cells cells' h =
    let old = get_or ts h.at h.task in
    all_then ts (set ts h.at h.task) us (length-set ts h.at h.task)
    (all_set ts h.at old h.task h.there (get_or_default ts h.at h.task old h.there)
    (⊎_elim (λ s. goes_sending old h.task s.0) (λ k. goes_took old h.task k.takes.port k.takes.item k.takes.received k.takes.sent) (h.move h.task)))
    (all_looked (set ts h.at h.task) us h.others)

-- or made none
pub one_goes : (p : PlanForm) (ts us : List Task) (cells cells' : List Holding) (moved : Bool) → (IsTrue moved → LastMoved p ts us cells cells')
    → (IsFalse moved → map task_core us ≡ map task_core ts) → AllGoOn ts us
one_goes p ts us cells cells' true m n = moved_goes p ts us cells cells' (m refl)
one_goes p ts us cells cells' false m n = all_looked ts us (n refl)
