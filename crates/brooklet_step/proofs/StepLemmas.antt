-- A firing of an operator, on what a machine keeps.
use Rattle.std.proofs.Common.{◌≡◌, ℕ, ℤ, zero, suc, ◌+◌, ◌<◌, ◌≤◌, Bool, false, Some, List, [], ◌∷◌, ◌++◌, length, length-append, take, drop, map, refl, sym}
use Rattle.std.proofs.Common.{ap, ◌∙◌, subst, arith, nat_eq, ⊎_elim, get_or-set_same, get_or-set_other}
use Rattle.std.specs.Prelude.{if◌then◌else◌, All, min, slice_get, slice_set, slice_index_or}
use Rattle.std.proofs.lemmas.Bool.{cases_eq}
use Rattle.std.proofs.lemmas.List.{append-nil, drop-append-le, length-take, length-map, length-set}
use Rattle.std.proofs.lemmas.List.Elements.{All-head, All-tail, All-append}
use Rattle.std.proofs.lemmas.Option.{slice_get_within, same_Some}
use Rattle.river_base.proofs.Lists.{got_map, got_drop, dropped_one, got_all}
use Rattle.river_base.specs.declared.item.Item as item
use Rattle.river_base.specs.declared.kind.QueueType.{QueueType}
use Rattle.river_base.specs.Held.{held, HasType, IsHeld}
use Rattle.river_base.proofs.HeldLemmas.{held-nil, held-append, length-held}
use Rattle.river_base.specs.Name.{name_eq}
use Rattle.river_base.specs.Places.{list_at, each_grew}
use Rattle.river_base.proofs.PlaceLemmas.{length-each_grew, get_or-each_grew, each_grew-blanks, if_true, if_false, if_eq, if_ne}
use Rattle.kern_tables.specs.declared.kept.Aggregate.{Aggregate}
use Rattle.river_plan.specs.Forms.{Name, OpForm, PlanForm, decl_names, table_names, queue_names}
use Rattle.river_plan.specs.Kinds.{var_kind}
use Rattle.river_plan.specs.Names.{count, one_if}
use Rattle.river_plan.specs.Uses.{total, reads_it, writes_it}
use Rattle.river_plan.specs.Valid.{IsPlan}
use Rattle.river_plan.proofs.NameLemmas.{cases_name, count-append}
use Rattle.river_kernels.specs.Fits.{Fits}
use Rattle.brooklet_model.specs.Fire.{fire, first_kept, outs, tabs}
use Rattle.brooklet_model.specs.Histories.{joined, tables_of, most_firings, Lists}
use Rattle.brooklet_model.specs.Laws.{given_to}
use Rattle.brooklet_model.specs.Machine.{Machine, Step, Run, start, fired, at_key, at_name, times}
use Rattle.brooklet_model.specs.Typed.{IsTyped, IsOf, AreOf, IsWordOf}
use Rattle.brooklet_model.specs.Words.{Word, at_port}
use Rattle.brooklet_model.proofs.Complete.{traced_fired, nothing_given}
use Rattle.brooklet_model.proofs.Ports.{shaped, counts}
use Rattle.brooklet_model.proofs.Traces.{at_most, got_count, joined_out, at_key_same, at_key_other, at_same}
use Rattle.brooklet_model.proofs.TypedPlan.{at_append, op_fits, joined_all}
use Rattle.brooklet_step.specs.declared.emit.Emit.{Emit}
use Rattle.brooklet_step.specs.declared.parts.MachineState.{MachineState}
use Rattle.brooklet_step.specs.declared.state.State.{State}
use Rattle.brooklet_step.specs.ByPlace.{joined_at}
use Rattle.brooklet_step.specs.Given.{held_by, held_at, IsHeldBy, IsHeldOf, FitState, StandsAfter, ran_from, TookHeld, Does, FiresAt, CanTake}
use Rattle.brooklet_step.specs.Tables.{kept_tables, each_added}
use Rattle.brooklet_step.specs.Took.{IsBlank}
use Rattle.brooklet_step.specs.Works.{queue_of, kinds_of, states_of, firing_count, StandsForMachine, ReadsAt, Counts, IsRunning, StandsAfterFiring, Steps}
use Rattle.brooklet_step.proofs.GivenLemmas.{first_is_start, fired_typed}
use Rattle.brooklet_step.proofs.Fires.{blank_room}
use Rattle.river_plan.specs.Places.{place, places}
use Rattle.river_plan.proofs.PlaceLemmas.{place_below, place_apart}
use Rattle.brooklet_step.proofs.KeptTables.{kept_next}
use Rattle.brooklet_step.proofs.OpTables.{among_known, mine_many}
use Rattle.brooklet_step.proofs.QueuePlaces.{joined_places, joined_cong_below}

-- RUNS

-- a run and a step more
pub run_next : (p : PlanForm) (s m s' : Machine) (es : List (ℕ × ℕ)) (o port : ℕ) → Run p s es m → Step p m o port s' → Run p s (es ++ (o, port) ∷ []) s'
run_next p s m s' [] o port r st = (s', subst (λ x. Step p x o port s') r st, refl)
run_next p s m s' (e ∷ es) o port r st = (r.0, r.1, run_next p r.0 m s' es o port r.2 st)

pub times-more : (o : ℕ) (es : List (ℕ × ℕ)) (e : ℕ × ℕ) → times o (es ++ e ∷ []) ≡ times o es + (if nat_eq e.0 o then 1 else 0)
times-more o [] e = omega arith
times-more o (d ∷ es) e = let h = times-more o es e in omega (arith, h)

-- WHAT THE MACHINE'S STATE HAS

-- what operators read and write is declared
pub read_declared : (p : PlanForm) → IsPlan p → (o port : ℕ) (q : Name) → ReadsAt p o port q → 0 < count q (queue_names p)
read_declared p v o port q r =
    let m = at_most (reads_it q) p.ops o r.op r.op_is in
    let c = got_count r.op.reads port q r.queue_is in
    v.reads_declared q (omega (arith, m, c))

-- a queue that is written is declared
pub write_declared : (p : PlanForm) → IsPlan p → (o : ℕ) (op : OpForm) → slice_get p.ops o ≡ Some op → (q : Name) → 0 < count q op.writes
    → 0 < count q (queue_names p)
write_declared p v o op g q lt =
    let m = at_most (writes_it q) p.ops o op g in
    v.writes_declared q (omega (arith, m, lt))

-- an item that a queue holds is what the port that reads it may take
pub item_held : (m : MachineState) (o port : ℕ) (q : Name) (i : item.Item) (rest : List item.Item) → (g : IsRunning m) → (r : ReadsAt m.plan o port q)
    → queue_of m q ≡ i ∷ rest → IsHeldOf (map (kinds_of m) r.op.reads) port i
item_held m o port q i rest g r hx =
    subst (λ t. IsHeldBy t i) (sym (got_map (kinds_of m) r.op.reads port q r.queue_is))
    (All-head (IsHeld (kinds_of m q)) i rest (subst (All (IsHeld (kinds_of m q))) hx (g.items q (read_declared m.plan g.valid o port q r))))

-- a firing can be made
pub can_take : (m : MachineState) (o port : ℕ) (q : Name) (i : item.Item) (rest : List item.Item) (st : List State) (out : Emit) → (g : IsRunning m)
    → (r : ReadsAt m.plan o port q) → queue_of m q ≡ i ∷ rest → st ≡ states_of m o → IsBlank r.op.kernel out → CanTake r.op.kernel port i st out
can_take m o port q i rest st out g r hx es b = record {
  reads = map (kinds_of m) r.op.reads;
  fitting = record {
    writes = map (kinds_of m) r.op.writes;
    vars = map (var_kind m.plan.tables m.plan.vars) r.op.vars;
    fits = op_fits m.plan g.valid o r.op r.op_is;
    state = subst (FitState r.op.kernel (map (kinds_of m) r.op.reads)) (sym es) (g.fit o r.op r.op_is);
  };
  item = item_held m o port q i rest g r hx;
  room = blank_room r.op.kernel out b;
}

-- THE ITEM OF THE HISTORY

got_split : (h : List item.Item) (n : ℕ) → n < length h → (x : item.Item) × (ys : List item.Item) × (h ≡ take n h ++ x ∷ ys) × (slice_get h n ≡ Some x)
got_split [] n lt = absurd (omega (arith, lt))
got_split (y ∷ h) zero lt = (y, h, refl, refl)
got_split (y ∷ h) (suc n) lt = let r = got_split h n (omega (arith, lt)) in (r.0, r.1, ap (λ l. y ∷ l) r.2, r.3)

one_of : (l : List item.Item) → length l ≡ 1 → (b : item.Item) × (l ≡ b ∷ [])
one_of [] e = absurd (omega (arith, e))
one_of (b ∷ []) e = (b, refl)
one_of (b ∷ c ∷ l) e = absurd (omega (arith, e))

got_at : (xs : List item.Item) (y : item.Item) (ys : List item.Item) (n : ℕ) → length xs ≡ n → slice_get (xs ++ y ∷ ys) n ≡ Some y
got_at [] y ys zero e = refl
got_at [] y ys (suc n) e = absurd (omega (arith, e))
got_at (x ∷ xs) y ys zero e = absurd (omega (arith, e))
got_at (x ∷ xs) y ys (suc n) e = got_at xs y ys n (omega (arith, e))

-- the item of a history for the item that a queue holds
pub record Found (t : QueueType) (h : List item.Item) (n : ℕ) (i : item.Item) : Type 0 where
  pub item : item.Item
  pub item_is : slice_get h n ≡ Some item
  pub held_is : held t (take n h) (item ∷ []) ≡ i ∷ []

pub found : (t : QueueType) (h hs : List item.Item) (n : ℕ) (i : item.Item) → hs ≡ held t [] h → slice_get hs n ≡ Some i → Found t h n i
found t h hs n i e g =
    let lh = length-held t [] h in
    let ls = ap length e in
    let w = slice_get_within hs n i g in
    let lt : n < length h = omega (arith, lh, ls, w) in
    let s = got_split h n lt in
    let x = s.0 in
    let a = held t [] (take n h) in
    let b = one_of (held t (take n h) (x ∷ [])) (length-held t (take n h) (x ∷ [])) in
    let c = held t (take n h ++ x ∷ []) s.1 in
    let la : length a ≡ n = length-held t [] (take n h) ∙ (let k = length-take n h in omega (arith, k, lt)) in
    let all : hs ≡ a ++ b.0 ∷ c = e ∙ ap (held t []) s.2 ∙ held-append t [] (take n h) (x ∷ s.1)
    ∙ ap (λ l. a ++ l) (held-append t (take n h) (x ∷ []) s.1 ∙ ap (λ l. l ++ c) b.1) in
    let is : Some i ≡ Some b.0 = sym g ∙ ap (λ l. slice_get l n) all ∙ got_at a b.0 c n la in
    record { item = x; item_is = s.3; held_is = b.1 ∙ ap (λ y. y ∷ []) (sym (same_Some i b.0 is)) }

-- what queues hold for what an operator gives at the ports that write them
joined_held : (kind : Name → QueueType) (ws : List Name) (F f : ℕ → List item.Item) (h : Name → List item.Item) (n : Name) → count n ws ≤ 1 → Lists ws F h
    → joined ws (λ j. held_at (map kind ws) j (F j) (f j)) n ≡ held (kind n) (h n) (joined ws f n)
joined_held kind [] F f h n once l = sym (held-nil (kind n) (h n))
joined_held kind (w ∷ ws) F f h n once l =
    let rest = joined ws (λ j. held_at (map kind ws) j (F (suc j)) (f (suc j))) n in
    ⊎_elim
    (λ c.
    let z : count n ws ≡ 0 = let e = ap one_if c.1 in omega (arith, e, once) in
    ap (λ (p : Bool). (if p then held (kind w) (F 0) (f 0) else []) ++ rest) c.1
    ∙ ap (λ r. held (kind w) (F 0) (f 0) ++ r) (joined_out ws (λ j. held_at (map kind ws) j (F (suc j)) (f (suc j))) n z)
    ∙ append-nil (held (kind w) (F 0) (f 0))
    ∙ ap (λ a. held (kind w) a (f 0)) (sym l.0)
    ∙ ap (λ u. held (kind u) (h u) (f 0)) c.0
    ∙ sym (ap (λ (p : Bool). held (kind n) (h n) ((if p then f 0 else []) ++ joined ws (λ j. f (suc j)) n)) c.1
    ∙ ap (λ r. held (kind n) (h n) (f 0 ++ r)) (joined_out ws (λ j. f (suc j)) n z)
    ∙ ap (held (kind n) (h n)) (append-nil (f 0))))
    (λ c.
    ap (λ (p : Bool). (if p then held (kind w) (F 0) (f 0) else []) ++ rest) c.1
    ∙ joined_held kind ws (λ j. F (suc j)) (λ j. f (suc j)) h n (let e = ap one_if c.1 in omega (arith, e, once)) l.1
    ∙ sym (ap (λ (p : Bool). held (kind n) (h n) ((if p then f 0 else []) ++ joined ws (λ j. f (suc j)) n)) c.1))
    (cases_name w n)

-- AFTER A FIRING

sum_min : (m n : ℕ) → min m (min m n + 1) ≡ min m (n + 1)
sum_min m n = omega arith

-- the machine after operator number o fired
abbrev pub next_parts : MachineState → ℕ → List (List item.Item) → List State → List Aggregate → MachineState
next_parts m o queues st ts = record {
  plan = m.plan;
  queues = queues;
  states = slice_set m.states o st;
  counts = slice_set m.counts o (min most_firings (firing_count m o + 1));
  tables = ts;
  stopped = false;
}

module _ (m : MachineState) (o port : ℕ) (q : Name) (i : item.Item) (rest : List item.Item) (blank out : Emit) (st : List State) (queues : List (List item.Item))
    (ts : List Aggregate) (g : IsRunning m) (r : ReadsAt m.plan o port q)
    (hx : queue_of m q ≡ i ∷ rest) (b : IsBlank r.op.kernel blank)
    (f : FiresAt r.op.kernel port i blank out (states_of m o) st)
    (eq : queues ≡ each_grew (slice_set m.queues (place (queue_names m.plan) q) rest) (joined_at (places (queue_names m.plan) r.op.writes) (list_at out.outs)))
    (et : ts ≡ each_added m.tables (joined_at (places (table_names m.plan.tables) (tables_of (table_names m.plan.tables) r.op)) (list_at out.adds))) where
  abbrev names : List Name
  names = queue_names m.plan

  abbrev kinds : Name → QueueType
  kinds n = kinds_of m n

  abbrev reads : List QueueType
  reads = map (kinds_of m) r.op.reads

  abbrev writes : List QueueType
  writes = map (kinds_of m) r.op.writes

  abbrev m' : MachineState
  m' = next_parts m o queues st ts

  -- the queues without the item that was taken
  abbrev base : List (List item.Item)
  base = slice_set m.queues (place names q) rest

  q_there : 0 < count q names
  q_there = read_declared m.plan g.valid o port q r

  o_below : o < length m.plan.ops
  o_below = slice_get_within m.plan.ops o r.op r.op_is

  fits : Fits r.op.kernel reads writes (map (var_kind m.plan.tables m.plan.vars) r.op.vars)
  fits = op_fits m.plan g.valid o r.op r.op_is

  does : Does r.op.kernel reads writes (map (var_kind m.plan.tables m.plan.vars) r.op.vars) port i blank out (states_of m o) st
  does = f.each reads writes (map (var_kind m.plan.tables m.plan.vars) r.op.vars) fits (g.fit o r.op r.op_is) (item_held m o port q i rest g r hx)

  writes_many : length r.op.writes ≡ outs r.op.kernel
  writes_many = sym (length-map r.op.writes (kinds_of m)) ∙ (counts r.op.kernel _ _ _ fits).outs

  -- what came at a port
  out_is : (F : ℕ → List item.Item) → out.outs ≡ each_grew blank.outs F → (j : ℕ) → j < length r.op.writes → list_at out.outs j ≡ F j
  out_is F e j lj =
      ap (λ (l : List (List item.Item)). list_at l j) (e ∙ ap (λ l. each_grew l F) b.outs)
      ∙ each_grew-blanks (outs r.op.kernel) F j [] (omega (arith, lj, writes_many))

  there : (n : Name) → 0 < count n names → place names n < length m.queues
  there n lt = let p = place_below names n lt in let l = g.laid_out.queues in omega (arith, p, l)

  base_many : length base ≡ length m.queues
  base_many = length-set m.queues (place names q) rest

  base_here : list_at base (place names q) ≡ rest
  base_here = get_or-set_same m.queues (place names q) rest [] (there q q_there)

  base_other : (n : Name) → 0 < count n names → (n ≡ q → ⊥) → list_at base (place names n) ≡ queue_of m n
  base_other n lt ne = get_or-set_other m.queues (place names q) (place names n) rest [] (λ e. ne (place_apart names n q lt q_there e))

  -- what a queue has
  queue_is : (F : ℕ → List item.Item) → out.outs ≡ each_grew blank.outs F → (n : Name) → 0 < count n names
      → list_at queues (place names n) ≡ list_at base (place names n) ++ joined r.op.writes F n
  queue_is F e n lt =
      let below : place names n < length base = let p = there n lt in omega (arith, p, base_many) in
      ap (λ (l : List (List item.Item)). list_at l (place names n)) eq
      ∙ get_or-each_grew base (joined_at (places names r.op.writes) (list_at out.outs)) (place names n) [] below
      ∙ ap (λ l. list_at base (place names n) ++ l) (joined_places names r.op.writes (list_at out.outs) n (write_declared m.plan g.valid o r.op r.op_is) lt)
      ∙ ap (λ l. list_at base (place names n) ++ l) (joined_cong_below r.op.writes (list_at out.outs) F n (λ j lj. out_is F e j lj))

  once : (n : Name) → count n r.op.writes ≤ 1
  once n = let a = at_most (writes_it n) m.plan.ops o r.op r.op_is in let w = g.valid.written_once n in omega (arith, a, w)

  -- how many items were taken, and what that leaves of what was there
  abbrev taken_next : Machine → Name → ℕ
  taken_next s = at_name q (s.taken q + 1) s.taken

  left_next : (s : Machine) → StandsForMachine m s → (n : Name) → 0 < count n names
      → list_at base (place names n) ≡ drop (taken_next s n) (held (kinds n) [] (s.hist n))
  left_next s h n lt = ⊎_elim
      (λ c.
      let d : drop (s.taken q + 1) (held (kinds q) [] (s.hist q)) ≡ rest =
      dropped_one (held (kinds q) [] (s.hist q)) (s.taken q) i rest (sym (h.left q q_there) ∙ hx) in
      ap (λ (w : Name). list_at base (place names w)) (sym c.0) ∙ base_here ∙ sym d
      ∙ ap (λ (w : Name). drop (s.taken q + 1) (held (kinds w) [] (s.hist w))) c.0
      ∙ ap (λ k. drop k (held (kinds n) [] (s.hist n))) (sym (if_true (name_eq q n) (s.taken q + 1) (s.taken n) c.1)))
      (λ c.
      base_other n lt (λ e. c.0 (sym e)) ∙ h.left n lt
      ∙ ap (λ k. drop k (held (kinds n) [] (s.hist n))) (sym (if_false (name_eq q n) (s.taken q + 1) (s.taken n) c.1)))
      (cases_name q n)

  within_next : (s : Machine) → StandsForMachine m s → s.taken q < length (s.hist q) → (n : Name) → taken_next s n ≤ length (s.hist n)
  within_next s h w n = ⊎_elim
      (λ c.
      let e = if_true (name_eq q n) (s.taken q + 1) (s.taken n) c.1 in
      let l : length (s.hist q) ≡ length (s.hist n) = ap (λ (x : Name). length (s.hist x)) c.0 in
      omega (arith, e, l, w))
      (λ c. let e = if_false (name_eq q n) (s.taken q + 1) (s.taken n) c.1 in let d = h.within n in omega (arith, e, d))
      (cases_name q n)

  unread_next : (s : Machine) → StandsForMachine m s → (n : Name) → total (reads_it n) m.plan.ops ≡ 0 → taken_next s n ≡ 0
  unread_next s h n z = ⊎_elim
      (λ c.
      let t = at_most (reads_it q) m.plan.ops o r.op r.op_is in
      let k = got_count r.op.reads port q r.queue_is in
      let same : total (reads_it q) m.plan.ops ≡ total (reads_it n) m.plan.ops = ap (λ (x : Name). total (reads_it x) m.plan.ops) c.0 in
      absurd (omega (arith, t, k, same, z)))
      (λ c. if_false (name_eq q n) (s.taken q + 1) (s.taken n) c.1 ∙ h.unread n z)
      (cases_name q n)

  -- the tables among the operator's variables
  abbrev mine : List Name
  mine = tables_of (table_names m.plan.tables) r.op

  -- the tables with what was added
  tables_next : (s : Machine) (f_s : ℕ → List (List ℤ)) → StandsForMachine m s → out.adds ≡ each_grew blank.adds f_s
      → ts ≡ kept_tables m.plan.tables (λ n. s.rows n ++ joined mine f_s n)
  tables_next s f_s h t =
      let names_t = table_names m.plan.tables in
      let many = mine_many m.plan g.valid o r.op r.op_is in
      et ∙ ap (λ l. each_added l (joined_at (places names_t mine) (list_at out.adds))) h.tables
      ∙ kept_next m.plan.tables mine s.rows f_s out.adds
      (λ n. let u = g.valid.variables_once n in let a = count-append n names_t m.plan.vars in omega (arith, u, a))
      (λ n lt. among_known names_t r.op.vars n lt)
      (λ j lt. ap (λ (l : List (List (List ℤ))). list_at l j) (t ∙ ap (λ l. each_grew l f_s) b.adds)
      ∙ each_grew-blanks (tabs r.op.kernel) f_s j [] (omega (arith, lt, many)))

  -- what holds of the operator that fired by its new word and states, and of the others by their old ones, holds of all
  at_each : (P : (op : OpForm) → List State → Word → Type 0) (w : Word) (ws : ℕ → Word)
      → ((o' : ℕ) (op' : OpForm) → slice_get m.plan.ops o' ≡ Some op' → P op' (states_of m o') (ws o')) → P r.op st w
      → (o' : ℕ) (op' : OpForm) → slice_get m.plan.ops o' ≡ Some op' → P op' (list_at (slice_set m.states o st) o') (at_key o w ws o')
  at_each P w ws old new o' op' g' =
      let below : o < length m.states = let l = g.laid_out.states in omega (arith, o_below, l) in
      ⊎_elim
      (λ e. at_same m.plan.ops (λ j d. P d (list_at (slice_set m.states o st) j) (at_key o w ws j)) o o' r.op op' r.op_is g' e
      (subst (λ (u : List State). P r.op u (at_key o w ws o)) (sym (get_or-set_same m.states o st [] below))
      (subst (P r.op st) (sym (at_key_same o w ws)) new)))
      (λ n. subst (λ (u : List State). P op' u (at_key o w ws o')) (sym (get_or-set_other m.states o o' st [] (λ e. n (sym e))))
      (subst (P op' (list_at m.states o')) (sym (at_key_other o w ws o' n)) (old o' op' g')))
      (cases_eq o o')

  after : (s : Machine) → StandsForMachine m s → StandsAfterFiring m m' o port s
  after s h =
      let all = held (kinds q) [] (s.hist q) in
      let it = found (kinds q) (s.hist q) all (s.taken q) i refl (got_drop all (s.taken q) i rest (sym (h.left q q_there) ∙ hx)) in
      let more = within_next s h (slice_get_within (s.hist q) (s.taken q) it.item it.item_is) in
      let x = it.item in
      let w = h.words o in
      let first = first_kept r.op.kernel in
      let is_start = first_is_start r.op.kernel reads (shaped r.op.kernel reads writes _ fits) in
      let before = ran_from r.op.kernel first w in
      let typed_w = h.received o r.op r.op_is in
      let typed_x : IsOf reads port x =
      subst (λ t. IsTyped t x) (sym (got_map kinds r.op.reads port q r.queue_is))
      (got_all (HasType (kinds q)) (s.hist q) (s.taken q) x (h.typed q) it.item_is) in
      let held_x : held_at reads port (at_port port w) (x ∷ []) ≡ i ∷ [] =
      ap (λ t. held_by t (at_port port w) (x ∷ [])) (got_map kinds r.op.reads port q r.queue_is)
      ∙ ap (λ l. held (kinds q) l (x ∷ [])) (h.traced.taken o r.op r.op_is port q r.queue_is).0 ∙ it.held_is in
      let gave = does.gives.given first w x is_start typed_w typed_x (h.kept o r.op r.op_is) held_x in
      let kept_is : before.states ≡ s.kept o = sym (h.traced.kept o r.op r.op_is) in
      let res = fire r.op.kernel port x (s.kept o) in
      let took : TookHeld writes before blank out res = subst (λ us. TookHeld writes before blank out (fire r.op.kernel port x us)) kept_is gave.0 in
      let typed_out : AreOf writes res.outs =
      subst (λ us. AreOf writes (fire r.op.kernel port x us).outs) kept_is
      (fired_typed r.op.kernel reads writes _ first w port x fits is_start typed_w typed_x) in
      let next = w ++ (port, x) ∷ [] in
      record {
        state = fired (table_names m.plan.tables) o r.op port q x s;
        step = record { op = r.op; queue = q; item = x; op_is = r.op_is; queue_is = r.queue_is; item_is = it.item_is; after = refl };
        stands = record {
          left = λ n lt.
              let before_n = held (kinds n) [] (s.hist n) in
              let k : taken_next s n ≤ length before_n = let l = length-held (kinds n) [] (s.hist n) in let d = more n in omega (arith, l, d) in
              queue_is (λ j. held_at writes j (before.outs j) (res.outs j)) took.outs n lt
              ∙ ap (λ l. l ++ joined r.op.writes (λ j. held_at writes j (before.outs j) (res.outs j)) n) (left_next s h n lt)
              ∙ ap (λ l. drop (taken_next s n) before_n ++ l)
              (joined_held kinds r.op.writes before.outs res.outs s.hist n (once n) (h.traced.written_by o r.op r.op_is))
              ∙ sym (drop-append-le (taken_next s n) before_n (held (kinds n) (s.hist n) (joined r.op.writes res.outs n)) k)
              ∙ ap (drop (taken_next s n)) (sym (held-append (kinds n) [] (s.hist n) (joined r.op.writes res.outs n)));
          within = λ n. let l = length-append (s.hist n) (joined r.op.writes res.outs n) in let d = more n in omega (arith, l, d);
          unread = unread_next s h;
          typed =
              λ n. All-append (HasType (kinds n)) (s.hist n) (joined r.op.writes res.outs n) (h.typed n)
              (joined_all IsTyped kinds r.op.writes res.outs typed_out n);
          tables = tables_next s res.adds h took.adds;
          inputs = h.inputs;
          words = at_key o next h.words;
          traced =
              traced_fired m.plan (given_to m.plan h.inputs) g.valid
              (λ n z. nothing_given (decl_names m.plan.inputs) (list_at h.inputs) n z) s h.words o port r.op q x h.traced r.op_is r.queue_is it.item_is;
          received =
              at_each (λ op u v. IsWordOf (map (kinds_of m) op.reads) v) next h.words h.received (at_append reads w ((port, x) ∷ []) typed_w (typed_x, tt));
          kept = at_each (λ op u v. StandsAfter op.kernel (map (kinds_of m) op.reads) (first_kept op.kernel) u v) next h.words h.kept gave.1;
        };
      }

  base_held : (n : Name) → 0 < count n names → All (IsHeld (kinds n)) (list_at base (place names n))
  base_held n lt = ⊎_elim
      (λ c. subst (λ (w : Name). All (IsHeld (kinds w)) (list_at base (place names w))) c.0
      (subst (All (IsHeld (kinds q))) (sym base_here) (All-tail (IsHeld (kinds q)) i rest (subst (All (IsHeld (kinds q))) hx (g.items q q_there)))))
      (λ c. subst (All (IsHeld (kinds n))) (sym (base_other n lt (λ e. c.0 (sym e)))) (g.items n lt))
      (cases_name q n)

  counts_next : (es : List (ℕ × ℕ)) → Counts m es → Counts m' (es ++ (o, port) ∷ [])
  counts_next es h n lt =
      let t = times-more n es (o, port) in
      let below : n < length m.counts = let l = g.laid_out.counts in omega (arith, lt, l) in
      ⊎_elim
      (λ e.
      let c = h n lt in
      let one : (if nat_eq o n then 1 else 0) ≡ 1 = if_eq o n 1 0 e in
      ap (λ k. slice_index_or (slice_set m.counts k (min most_firings (firing_count m k + 1))) n 0) e
      ∙ get_or-set_same m.counts n (min most_firings (firing_count m n + 1)) 0 below
      ∙ ap (λ k. min most_firings (k + 1)) c ∙ sum_min most_firings (times n es) ∙ ap (min most_firings) (sym (t ∙ ap (λ k. times n es + k) one)))
      (λ ne.
      let c = h n lt in
      let none : (if nat_eq o n then 1 else 0) ≡ 0 = if_ne o n 1 0 ne in
      get_or-set_other m.counts o n (min most_firings (firing_count m o + 1)) 0 (λ e. ne (sym e)) ∙ c
      ∙ ap (min most_firings) (sym (t ∙ ap (λ k. times n es + k) none ∙ omega arith)))
      (cases_eq o n)

  -- the machine made one step of the definition
  pub steps : Steps m m' o port
  steps = record { plan = refl; running = refl; each = after; counts = counts_next }

  -- and goes on
  pub goes_on : IsRunning m'
  goes_on =
      let l = g.laid_out in
      let a = after g.ran.state g.ran.stands in
      record {
        valid = g.valid;
        laid_out = record {
          queues = ap length eq ∙ length-each_grew base (joined_at (places names r.op.writes) (list_at out.outs)) ∙ base_many ∙ l.queues;
          states = length-set m.states o st ∙ l.states;
          counts = length-set m.counts o (min most_firings (firing_count m o + 1)) ∙ l.counts;
        };
        fit = at_each (λ op u v. FitState op.kernel (map (kinds_of m) op.reads) u) [] (λ j. []) g.fit does.came.again;
        items = λ n lt. subst (λ (l : List item.Item). All (IsHeld (kinds n)) l) (sym (queue_is does.came.outs does.came.outs_are n lt))
            (All-append (IsHeld (kinds n)) (list_at base (place names n)) (joined r.op.writes does.came.outs n) (base_held n lt)
            (joined_all IsHeldBy kinds r.op.writes does.came.outs does.came.held n));
        inputs = g.inputs;
        typed = g.typed;
        ran = record {
          events = g.ran.events ++ (o, port) ∷ [];
          state = a.state;
          run = run_next m.plan (start m.plan g.inputs) g.ran.state a.state g.ran.events o port g.ran.run a.step;
          stands = a.stands;
          counts = counts_next g.ran.events g.ran.counts;
        };
      }
