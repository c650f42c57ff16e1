-- One move of a net is one move of the bounded states that it is.
use Rattle.std.proofs.Common.{◌≡◌, ℕ, ℤ, zero, suc, ◌<◌, ◌≤◌, ◌⊎◌, Some, List, [], ◌∷◌, ◌++◌, length, map, refl, sym, ap, ◌∙◌, arith, subst, inl, inr}
use Rattle.std.proofs.Common.{⊎_elim, get_or, set, length-append}
use Rattle.std.specs.Prelude.{slice_get}
use Rattle.std.proofs.lemmas.Bool.{cases_eq, cases_lt}
use Rattle.std.proofs.lemmas.List.{length-map}
use Rattle.std.proofs.lemmas.Option.{get_or_from_slice_get, same_Some, slice_get-get_or, slice_get_within}
use Rattle.river_base.specs.declared.item.Item as item
use Rattle.river_base.specs.Places.{list_at}
use Rattle.river_base.proofs.Lists.{there_is}
use Rattle.river_base.proofs.PlaceLemmas.{append_else, append_here}
use Rattle.river_plan.specs.Forms.{Name, OpForm, PlanForm}
use Rattle.river_plan.specs.Valid.{IsPlan}
use Rattle.brooklet_model.specs.Bounded.{Capacities}
use Rattle.brooklet_model.specs.Machine.{at_key}
use Rattle.brooklet_model.specs.Words.{Word}
use Rattle.brooklet_model.proofs.Traces.{at_key_other, at_key_same}
use Rattle.fire_tasks.specs.declared.task.Task.{Task}
use Rattle.fire_tasks.specs.Adds.{added, logs_of}
use Rattle.fire_tasks.specs.Fired.{SeenTask, ports_of}
use Rattle.fire_tasks.specs.Ports.{received_in, received_of, sent_in, sent_of}
use Rattle.fire_tasks.specs.Tasks.{HasWord, IsDone, IsTask, seen_task}
use Rattle.fire_tasks.specs.Layout.{left_in, seen_at}
use Rattle.fire_tasks.specs.Steps.{HasMovedState, IsQuiet, SeenSend, SeenTake}
use Rattle.fire_tasks.proofs.Stepping.{joins_with, moves_law, ports-append, quiet_done}
use Rattle.fire_tasks.proofs.NetLemmas.{seen_here}
use Rattle.fire_open.specs.TaskCores.{TaskCore, task_core}
use Rattle.fire_open.proofs.Lists.{same_got, set_got_is, set_got_other}
use Rattle.fire_open.proofs.StillLemmas.{still_word}
use Rattle.fire_run.specs.declared.net.Net.{Net}
use Rattle.fire_run.specs.NetOf.{IsNetOf}
use Rattle.fire_run.specs.OneMove.{LastMoved, Sends, Takes, TakesFront}

-- what the laws see of tasks stays where they looked
seen_looked : (ts us : List Task) (o : ℕ) → map task_core us ≡ map task_core ts → seen_at us o ≡ seen_at ts o
seen_looked [] [] o e = refl
seen_looked [] (u ∷ us) o e = absurd (cc e)
seen_looked (t ∷ ts) [] o e = absurd (cc e)
seen_looked (t ∷ ts) (u ∷ us) zero e = let h : task_core u ≡ task_core t = cc e in ap (λ (s : TaskCore). s.seen) h
seen_looked (t ∷ ts) (u ∷ us) (suc o) e = let h : map task_core us ≡ map task_core ts = cc e in seen_looked ts us o h

seen_set : (ts : List Task) (i : ℕ) (t : Task) → i < length ts → seen_at (set ts i t) i ≡ seen_task t
seen_set [] i t lt = absurd (omega (arith, lt))
seen_set (x ∷ ts) zero t lt = refl
seen_set (x ∷ ts) (suc i) t lt = seen_set ts i t (omega (arith, lt))

seen_other : (ts : List Task) (i o : ℕ) (t : Task) → (i ≡ o → ⊥) → seen_at (set ts i t) o ≡ seen_at ts o
seen_other [] i o t ne = refl
seen_other (x ∷ ts) zero zero t ne = absurd (ne refl)
seen_other (x ∷ ts) zero (suc o) t ne = refl
seen_other (x ∷ ts) (suc i) zero t ne = refl
seen_other (x ∷ ts) (suc i) (suc o) t ne = seen_other ts i o t (λ e. ne (ap suc e))

module _ (p : PlanForm) (inputs : List (List item.Item)) (caps : Capacities) (net net' : Net) (v : IsPlan p) (n : IsNetOf p inputs caps net)
    (n' : IsNetOf p inputs caps net') (h : LastMoved p net.tasks net'.tasks net.cells net'.cells) where
  abbrev old : Task
  old = get_or net.tasks h.at h.task

  old_is : slice_get net.tasks h.at ≡ Some old
  old_is = slice_get-get_or net.tasks h.at h.task h.there

  -- the operator that moved
  operator : (op : OpForm) × (slice_get p.ops h.at ≡ Some op)
  operator = there_is p.ops h.at (let m = n.laid.many in let lt = h.there in omega (arith, m, lt))

  number : old.op ≡ h.at
  number = n.laid.numbers h.at old old_is

  abbrev adds : ℕ → ℕ → List (List ℤ)
  adds o = added p (logs_of net.cells) o

  -- the tasks before, and what each fired on
  task_at : (o : ℕ) → o < length net.tasks → IsTask p (adds (get_or net.tasks o h.task).op) (get_or net.tasks o h.task)
  task_at o lt = n.tasks.each o h.task lt

  word_by : (o : ℕ) → (o < length net.tasks) ⊎ (length net.tasks ≤ o) → Word
  word_by o (inl lt) = (task_at o lt).word
  word_by o (inr ge) = []

  abbrev words : ℕ → Word
  words o = word_by o (cases_lt o (length net.tasks))

  known_by : (o : ℕ) (t : Task) (c : (o < length net.tasks) ⊎ (length net.tasks ≤ o)) → slice_get net.tasks o ≡ Some t → HasWord p (adds o) t (word_by o c)
  unfolding word_by
  known_by o t (inl lt) g =
      let e : get_or net.tasks o h.task ≡ t = get_or_from_slice_get net.tasks o t h.task g in
      subst (λ i. HasWord p (adds i) t (task_at o lt).word) (n.laid.numbers o t g)
      (subst (λ (x : Task). HasWord p (adds x.op) x (task_at o lt).word) e (record { task = task_at o lt; word = refl }))
  known_by o t (inr ge) g = absurd (let w = slice_get_within net.tasks o t g in omega (arith, w, ge))

  known : (o : ℕ) (t : Task) → slice_get net.tasks o ≡ Some t → HasWord p (adds o) t (words o)
  known o t g = known_by o t (cases_lt o (length net.tasks)) g

  -- the tasks behind
  behind : (adds' : ℕ → ℕ → List (List ℤ)) (is : ℕ → Word) → HasWord p (adds' h.at) h.task (is h.at)
      → ((o : ℕ) → (h.at ≡ o → ⊥) → (adds' o ≡ adds o) × (is o ≡ words o)) → (o : ℕ) (t : Task) → slice_get net'.tasks o ≡ Some t → HasWord p (adds' o) t (is o)
  behind adds' is here else o t g =
      let s = same_got task_core net'.tasks (set net.tasks h.at h.task) h.others o t g in
      ⊎_elim
      (λ q.
      let e : s.0 ≡ h.task = set_got_is net.tasks h.at s.0 h.task (ap (slice_get (set net.tasks h.at h.task)) q ∙ s.1) in
      subst (λ i. HasWord p (adds' i) t (is i)) q
      (still_word p (adds' h.at) h.task t (is h.at) (s.2 ∙ ap task_core e) here))
      (λ ne.
      let f = else o ne in
      subst (λ a. HasWord p a t (is o)) (sym f.0)
      (subst (HasWord p (adds o) t) (sym f.1)
      (still_word p (adds o) s.0 t (words o) s.2 (known o s.0 (sym (set_got_other net.tasks h.at o h.task ne) ∙ s.1)))))
      (cases_eq h.at o)

  -- what the laws see of them
  seen_here' : seen_at net'.tasks h.at ≡ seen_task h.task
  seen_here' = seen_looked (set net.tasks h.at h.task) net'.tasks h.at h.others ∙ seen_set net.tasks h.at h.task h.there

  seen_else' : (o : ℕ) → (h.at ≡ o → ⊥) → seen_at net'.tasks o ≡ seen_at net.tasks o
  seen_else' o ne = seen_looked (set net.tasks h.at h.task) net'.tasks o h.others ∙ seen_other net.tasks h.at o h.task ne

  seen_old : seen_at net.tasks h.at ≡ seen_task old
  seen_old = seen_here net.tasks h.at old old_is

  own : HasWord p (adds h.at) old (words h.at)
  own = known h.at old old_is

  same_op : own.task.op ≡ operator.0
  same_op = same_Some own.task.op operator.0 (sym own.task.op_is ∙ ap (slice_get p.ops) number ∙ operator.1)

  quiet : (o : ℕ) (other : OpForm) → slice_get p.ops o ≡ Some other → h.at < o → IsQuiet (seen_at net.tasks) (left_in p inputs net.tasks) o other
  quiet o other g lt =
      let t = there_is net.tasks o (let m = n.laid.many in let w = slice_get_within p.ops o other g in omega (arith, m, w)) in
      let l = slice_get_within net.tasks o t.0 t.1 in
      quiet_done p inputs caps adds net.tasks v n.laid n.tasks n.settled o other t.0 g t.1
      (subst IsDone (get_or_from_slice_get net.tasks o t.0 t.0 t.1) (h.last o t.0 lt l))

  -- an item was sent
  abbrev seen : ℕ → SeenTask
  seen = seen_at net.tasks

  abbrev seen' : ℕ → SeenTask
  seen' = seen_at net'.tasks

  module _ (s : Sends old h.task) where
    queue : (q : Name) × (slice_get operator.0.writes s.port ≡ Some q)
    queue = there_is operator.0.writes s.port
        (let a = own.task.pending in let b = ap (λ (x : OpForm). length x.writes) same_op in let lt = s.there in omega (arith, a, b, lt))

    ports_out : s.port < length (sent_in old.outs)
    ports_out =
        let a = own.task.outs in
        let b = own.task.pending in
        let lt = s.there in
        let m = length-map old.outs sent_of in
        omega (arith, a, b, lt, m)

    as_received : (o i : ℕ) → length (list_at (seen' o).received i) ≡ length (list_at (seen o).received i)
    as_received o i = ⊎_elim
        (λ q. subst (λ k. length (list_at (seen' k).received i) ≡ length (list_at (seen k).received i)) q
        (ap (λ (x : SeenTask). length (list_at x.received i)) seen_here' ∙ ap (λ (x : Task). length (list_at (received_in x.ins) i)) s.stays
        ∙ sym (ap (λ (x : SeenTask). length (list_at x.received i)) seen_old)))
        (λ ne. ap (λ (x : SeenTask). length (list_at x.received i)) (seen_else' o ne))
        (cases_eq h.at o)

    send : SeenSend operator.0 h.at s.port seen seen' words words
    send = record {
      queue = queue.0;
      queue_is = queue.1;
      some =
          let a = ap (λ (x : SeenTask). length (list_at x.pending s.port)) seen_old in
          let b = ap length s.front.was in
          omega (arith, a, b);
      received = as_received;
      here =
          let a = ap (λ (x : SeenTask). length (list_at x.sent s.port)) seen_here' in
          let b = ap (λ (x : SeenTask). length (list_at x.sent s.port)) seen_old in
          let c = ap (λ ls. length (list_at ls s.port)) s.front.sent in
          let d = ap length (append_here (sent_in old.outs) s.port (s.front.item ∷ []) ports_out) in
          let e = length-append (list_at (sent_in old.outs) s.port) (s.front.item ∷ []) in
          omega (arith, a, b, c, d, e);
      else = λ o j no. ⊎_elim
          (λ q. subst (λ k. length (list_at (seen' k).sent j) ≡ length (list_at (seen k).sent j)) q
          (ap (λ (x : SeenTask). length (list_at x.sent j)) seen_here' ∙ ap (λ ls. length (list_at ls j)) s.front.sent
          ∙ ap length (append_else (sent_in old.outs) s.port j (s.front.item ∷ []) (λ e. no (sym q) (sym e)))
          ∙ sym (ap (λ (x : SeenTask). length (list_at x.sent j)) seen_old)))
          (λ ne. ap (λ (x : SeenTask). length (list_at x.sent j)) (seen_else' o ne))
          (cases_eq h.at o);
      words = λ o. refl;
    }

    pub sent_state : HasMovedState p inputs caps net.tasks net'.tasks
    sent_state =
        let after = behind adds words
        (subst (HasWord p (adds h.at) h.task) own.word (s.word p (adds h.at) own.task)) (λ o ne. (refl, refl)) in
        let before = joins_with p inputs caps adds adds net.tasks words v n.laid n.tasks n.settled n.typed known in
        let after_net = joins_with p inputs caps (added p (logs_of net'.cells)) adds net'.tasks words v n'.laid n'.tasks n'.settled n'.typed after in
        record {
          is = words;
          is' = words;
          before = before;
          behind = after_net;
          move = moves_law p inputs caps seen seen' (left_in p inputs net.tasks) (left_in p inputs net'.tasks) words words v before after_net
              (record { at = h.at; op = operator.0; op_is = operator.1; last = quiet; port = s.port; did = inl send });
        }

  -- an item was taken
  module _ (t : TakesFront p old h.task net.cells net'.cells) where
    abbrev k : Takes p old h.task net.cells net'.cells
    k = t.takes

    queue_in : (q : Name) × (slice_get operator.0.reads k.port ≡ Some q)
    queue_in = there_is operator.0.reads k.port
        (let a = own.task.ins in let b = ap (λ (x : OpForm). length x.reads) same_op in let lt = k.there in omega (arith, a, b, lt))

    ports_in : k.port < length (received_in old.ins)
    ports_in = let lt = k.there in let m = length-map old.ins received_of in omega (arith, lt, m)

    abbrev words' : ℕ → Word
    words' = at_key h.at (words h.at ++ (k.port, k.item) ∷ []) words

    abbrev adds' : ℕ → ℕ → List (List ℤ)
    adds' = at_key h.at (added p (logs_of net'.cells) old.op) adds

    here' : words' h.at ≡ words h.at ++ (k.port, k.item) ∷ []
    here' = at_key_same h.at (words h.at ++ (k.port, k.item) ∷ []) words

    else' : (o : ℕ) → (h.at ≡ o → ⊥) → words' o ≡ words o
    else' o ne = at_key_other h.at (words h.at ++ (k.port, k.item) ∷ []) words o ne

    take : SeenTake operator.0 h.at k.port seen seen' words words'
    take = record {
      queue = queue_in.0;
      queue_is = queue_in.1;
      idle = λ j. no_items (list_at (seen h.at).pending j)
          (ap (λ (x : SeenTask). length (list_at x.pending j)) seen_old ∙ ap length (k.idle j));
      sent = λ o j. ⊎_elim
          (λ q. subst (λ i. length (list_at (seen' i).sent j) ≡ length (list_at (seen i).sent j)) q
          (ap (λ (x : SeenTask). length (list_at x.sent j)) seen_here' ∙ ap (λ os. length (list_at (sent_in os) j)) k.sent
          ∙ sym (ap (λ (x : SeenTask). length (list_at x.sent j)) seen_old)))
          (λ ne. ap (λ (x : SeenTask). length (list_at x.sent j)) (seen_else' o ne))
          (cases_eq h.at o);
      here =
          let a = ap (λ (x : SeenTask). length (list_at x.received k.port)) seen_here' in
          let b = ap (λ (x : SeenTask). length (list_at x.received k.port)) seen_old in
          let c = ap (λ ls. length (list_at ls k.port)) k.received in
          let d = ap length (append_here (received_in old.ins) k.port (k.item ∷ []) ports_in) in
          let e = length-append (list_at (received_in old.ins) k.port) (k.item ∷ []) in
          omega (arith, a, b, c, d, e);
      else = λ o j no. ⊎_elim
          (λ q. subst (λ i. length (list_at (seen' i).received j) ≡ length (list_at (seen i).received j)) q
          (ap (λ (x : SeenTask). length (list_at x.received j)) seen_here' ∙ ap (λ ls. length (list_at ls j)) k.received
          ∙ ap length (append_else (received_in old.ins) k.port j (k.item ∷ []) (λ e. no (sym q) (sym e)))
          ∙ sym (ap (λ (x : SeenTask). length (list_at x.received j)) seen_old)))
          (λ ne. ap (λ (x : SeenTask). length (list_at x.received j)) (seen_else' o ne))
          (cases_eq h.at o);
      word = ap ports_of here' ∙ ports-append (words h.at) ((k.port, k.item) ∷ []);
      others = λ o ne. ap ports_of (else' o (λ e. ne (sym e)));
    }
      where
        no_items : (xs : List item.Item) → length xs ≡ 0 → xs ≡ []
        no_items [] e = refl
        no_items (x ∷ xs) e = absurd (omega (arith, e))

    pub took_state : HasMovedState p inputs caps net.tasks net'.tasks
    took_state =
        let mine : HasWord p (adds old.op) old (words h.at) = subst (λ i. HasWord p (adds i) old (words h.at)) (sym number) own in
        let w : HasWord p (added p (logs_of net'.cells) old.op) h.task (words h.at ++ (k.port, k.item) ∷ []) =
        subst (λ u. HasWord p (added p (logs_of net'.cells) old.op) h.task (u ++ (k.port, k.item) ∷ [])) mine.word (k.word h.fine mine.task) in
        let at_here : adds' h.at ≡ added p (logs_of net'.cells) old.op = at_key_same h.at (added p (logs_of net'.cells) old.op) adds in
        let after = behind adds' words'
        (subst (λ a. HasWord p a h.task (words' h.at)) (sym at_here) (subst (HasWord p (added p (logs_of net'.cells) old.op) h.task) (sym here') w))
        (λ o ne. (at_key_other h.at (added p (logs_of net'.cells) old.op) adds o ne, else' o ne)) in
        let before = joins_with p inputs caps adds adds net.tasks words v n.laid n.tasks n.settled n.typed known in
        let after_net = joins_with p inputs caps (added p (logs_of net'.cells)) adds' net'.tasks words' v n'.laid n'.tasks n'.settled n'.typed after in
        record {
          is = words;
          is' = words';
          before = before;
          behind = after_net;
          move = moves_law p inputs caps seen seen' (left_in p inputs net.tasks) (left_in p inputs net'.tasks) words words' v before after_net
              (record { at = h.at; op = operator.0; op_is = operator.1; last = quiet; port = k.port; did = inr take });
        }

  -- a move of the net is a move of the bounded states that it is
  pub moved_state : HasMovedState p inputs caps net.tasks net'.tasks
  moved_state = ⊎_elim (λ s. sent_state s.0) (λ t. took_state t) (h.move h.task)
