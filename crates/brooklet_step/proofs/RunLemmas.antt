-- A run in the order of the operators is complete.
use Rattle.std.proofs.Common.{◌≡◌, ℕ, ℤ, pos, zero, suc, ◌+◌, ◌-◌, ◌<◌, ◌≤◌, false, Some, List, [], ◌∷◌, ◌++◌, length, take, drop, map, refl, sym, ap, ◌∙◌}
use Rattle.std.proofs.Common.{subst, arith, get_or, ⊎_elim, length-append, length-drop}
use Rattle.std.specs.Prelude.{All, min, slice_get, unwrap_or, Option, None}
use Rattle.std.proofs.lemmas.Bool.{cases_lt}
use Rattle.std.proofs.lemmas.List.{append-nil, length-map}
use Rattle.std.proofs.lemmas.List.Elements.{All-head, All-tail}
use Rattle.std.proofs.lemmas.Option.{slice_get_within, slice_get-get_or, get_or_from_slice_get, same_Some}
use Rattle.river_base.proofs.PlaceLemmas.{if_true, if_false}
use Rattle.river_base.proofs.Lists.{got_map, got_append, there_is}
use Rattle.river_base.specs.declared.item.Item as item
use Rattle.river_base.specs.Name.{name_eq}
use Rattle.river_base.specs.Held.{held}
use Rattle.river_base.proofs.HeldLemmas.{length-held}
use Rattle.river_plan.specs.declared.plan.Decl.{Decl}
use Rattle.river_kernels.specs.declared.limit.Limit.TheVariants.{Operators, Ports}
use Rattle.river_plan.specs.declared.op.Op.{Op}
use Rattle.river_plan.specs.declared.plan.RawPlan.{RawPlan}
use Rattle.river_plan.specs.Forms.{Name, OpForm, PlanForm, plan_form, op_form, decl_names, queue_names}
use Rattle.river_plan.specs.Limits.{port_numbers}
use Rattle.river_plan.specs.Names.{count}
use Rattle.river_plan.specs.Uses.{total, reads_it, writes_it, and_writes, ReadsBefore}
use Rattle.river_plan.specs.Valid.{IsPlan}
use Rattle.river_plan.proofs.NameLemmas.{cases_name, count-append, more_or_zero}
use Rattle.brooklet_model.specs.Fire.{fire}
use Rattle.kern_tables.specs.declared.kept.Aggregate.{Aggregate}
use Rattle.kern_tables.specs.Kept.{rows_of}
use Rattle.brooklet_model.specs.Histories.{most_firings, firings, all_adds}
use Rattle.brooklet_model.specs.Laws.{HasDefined}
use Rattle.brooklet_model.specs.Machine.{Machine, Step, Run, IsComplete, start, at_name, times}
use Rattle.brooklet_model.specs.Meaning.{meaning}
use Rattle.brooklet_model.proofs.Complete.{runs_law}
use Rattle.brooklet_model.proofs.RunMeaning.{outs_are, firings_are}
use Rattle.brooklet_model.proofs.Traces.{at_most, got_count, joined_out}
use Rattle.brooklet_step.specs.declared.parts.MachineState.{MachineState}
use Rattle.brooklet_step.specs.Drained.{IsDrained, Follows, RunsOn, DrainedBefore, HasPorts, StandsAfterSomeRun}
use Rattle.brooklet_step.specs.Works.{queue_of, kinds_of, StandsForMachine, ReadsAt, IsEnabled, StandsAfterRun, IsRunning, Starts, Steps, AreCounts}
use Rattle.brooklet_step.specs.Tables.{defined_tables}
use Rattle.brooklet_step.proofs.Edges.{output_held}
use Rattle.brooklet_step.proofs.KeptTables.{kept_of_bags, defined_rows}
use Rattle.brooklet_step.proofs.QueuePlaces.{place_is, lists_in_order}
use Rattle.brooklet_step.proofs.StepLemmas.{run_next, read_declared}

-- the queue that an operator reads at a port; an empty name where there is none
abbrev pub read_in : Option OpForm → ℕ → Name
read_in None port = []
read_in (Some op) port = unwrap_or (slice_get op.reads port) []

-- how many items wait there
abbrev pub left_at : MachineState → ℕ → ℕ → ℕ
left_at m o port = length (queue_of m (read_in (slice_get m.plan.ops o) port))

-- THE ORDER OF THE OPERATORS

-- no operator writes what it or one before it reads
pub no_later : (q : Name) (ops : List OpForm) (known : Name → ℕ) (o' o : ℕ) (op' op : OpForm) → ReadsBefore known ops → known q + total (writes_it q) ops ≤ 1
    → slice_get ops o' ≡ Some op' → slice_get ops o ≡ Some op → o' ≤ o → 0 < count q op'.reads → count q op.writes ≡ 0
no_later q [] known o' o op' op r once g' g le lt = absurd (cc g)
no_later q (a ∷ ops) known zero o op' op r once g' g le lt =
    let k = r.0 q (subst (λ (d : OpForm). 0 < count q d.reads) (sym (same_Some a op' g')) lt) in
    let m = at_most (writes_it q) (a ∷ ops) o op g in
    omega (arith, k, m, once)
no_later q (a ∷ ops) known (suc o') zero op' op r once g' g le lt = absurd (omega (arith, le))
no_later q (a ∷ ops) known (suc o') (suc o) op' op r once g' g le lt =
    no_later q ops (and_writes known a) o' o op' op r.1 (omega (arith, once)) g' g (omega (arith, le)) lt

-- WHAT A STEP LEAVES

-- as many items are left as were put and not taken
left_length : (m : MachineState) (s : Machine) → StandsForMachine m s → (q : Name) → 0 < count q (queue_names m.plan)
    → length (queue_of m q) ≡ length (s.hist q) - s.taken q
left_length m s h q lt =
    ap length (h.left q lt) ∙ length-drop (s.taken q) (held (kinds_of m q) [] (s.hist q)) ∙ ap (λ n. n - s.taken q) (length-held (kinds_of m q) [] (s.hist q))

taken_more : (k : Name) (q : Name) (f : Name → ℕ) → f q ≤ at_name k (f k + 1) f q
taken_more k q f = ⊎_elim
    (λ c. let e = if_true (name_eq k q) (f k + 1) (f q) c.1 in let g = ap f c.0 in omega (arith, e, g))
    (λ c. let e = if_false (name_eq k q) (f k + 1) (f q) c.1 in omega (arith, e))
    (cases_name k q)

-- what operators up to this one read stays as it is
hist_stays : (p : PlanForm) → IsPlan p → (s s' : Machine) (o port o' port' : ℕ) (q : Name) → Step p s o port s' → ReadsAt p o' port' q → o' ≤ o
    → s'.hist q ≡ s.hist q
hist_stays p v s s' o port o' port' q st r le =
    let w = no_later q p.ops (λ n. count n (decl_names p.inputs)) o' o r.op st.op v.in_order (v.written_once q) r.op_is st.op_is le
    (got_count r.op.reads port' q r.queue_is) in
    ap (λ (x : Machine). x.hist q) st.after
    ∙ ap (λ l. s.hist q ++ l) (joined_out st.op.writes (fire st.op.kernel port st.item (s.kept o)).outs q w)
    ∙ append-nil (s.hist q)

taken_grows : (p : PlanForm) (s s' : Machine) (o port : ℕ) (q : Name) → Step p s o port s' → s.taken q ≤ s'.taken q
taken_grows p s s' o port q st =
    let e : s'.taken q ≡ at_name st.queue (s.taken st.queue + 1) s.taken q = ap (λ (x : Machine). x.taken q) st.after in
    let m = taken_more st.queue q s.taken in
    omega (arith, e, m)

reads_in : (p p' : PlanForm) (o port : ℕ) (q : Name) → p' ≡ p → ReadsAt p' o port q → ReadsAt p o port q
reads_in p p' o port q e r = subst (λ (x : PlanForm). ReadsAt x o port q) e r

declared_in : (m m' : MachineState) → m'.plan ≡ m.plan → (q : Name) → 0 < count q (queue_names m.plan) → 0 < count q (queue_names m'.plan)
declared_in m m' e q lt = subst (λ (x : PlanForm). 0 < count q (queue_names x)) (sym e) lt

-- a step follows its operator
pub follows_step : (m m' : MachineState) (o port : ℕ) → IsPlan m.plan → Steps m m' o port → Follows m m' o
follows_step m m' o port v st = record {
  plan = st.plan;
  running = st.running;
  ran = λ inputs r.
      let a = st.each r.state r.stands in
      record {
        events = r.events ++ (o, port) ∷ [];
        state = a.state;
        run =
            subst (λ (x : PlanForm). Run x (start x inputs) (r.events ++ (o, port) ∷ []) a.state) (sym st.plan)
            (run_next m.plan (start m.plan inputs) r.state a.state r.events o port r.run a.step);
        stands = a.stands;
        counts = st.counts r.events r.counts;
      };
  drained = λ inputs r o' port' le d q w.
      let u = reads_in m.plan m'.plan o' port' q st.plan w in
      let a = st.each r.state r.stands in
      let k = read_declared m.plan v o' port' q u in
      let h' = left_length m' a.state a.stands q (declared_in m m' st.plan q k) in
      let h = left_length m r.state r.stands q k in
      let s = ap length (hist_stays m.plan v r.state a.state o port o' port' q a.step u le) in
      let g = taken_grows m.plan r.state a.state o port q a.step in
      let b = d q u in
      omega (arith, s, g, b, h, h');
}

-- nothing follows any operator
pub follows_none : (m : MachineState) (o : ℕ) → m.stopped ≡ false → Follows m m o
follows_none m o e = record { plan = refl; running = e; ran = λ inputs r. r; drained = λ inputs r o' port' le d. d }

-- two such runs, one after the other
pub follows_more : (m m' m'' : MachineState) (o : ℕ) → Follows m m' o → Follows m' m'' o → Follows m m'' o
follows_more m m' m'' o f g = record {
  plan = g.plan ∙ f.plan;
  running = g.running;
  ran = λ inputs r. g.ran inputs (f.ran inputs r);
  drained = λ inputs r o' port' le d. g.drained inputs (f.ran inputs r) o' port' le (f.drained inputs r o' port' le d);
}

-- THE LOOP AT A PORT

same_read : (p : PlanForm) (o port : ℕ) (q : Name) → ReadsAt p o port q → read_in (slice_get p.ops o) port ≡ q
same_read p o port q r = ap (λ g. read_in g port) r.op_is ∙ ap (λ g. unwrap_or g []) r.queue_is

one_taken : (k : Name) (f : Name → ℕ) → at_name k (f k + 1) f k ≡ f k + 1
one_taken k f = ⊎_elim (λ c. if_true (name_eq k k) (f k + 1) (f k) c.1) (λ c. absurd (c.0 refl)) (cases_name k k)

-- each step leaves one less
pub step_less : (m m' : MachineState) (o port : ℕ) (inputs : List (List item.Item)) → IsPlan m.plan → StandsAfterRun m inputs → IsEnabled m o port → Steps m m' o port
    → left_at m' o port < left_at m o port
step_less m m' o port inputs v r e st =
    let a = st.each r.state r.stands in
    let q = e.queue in
    let k = read_declared m.plan v o port q e.reads in
    let k' = declared_in m m' st.plan q k in
    let same = same_read m.plan o port q e.reads in
    let same' = ap (λ (x : PlanForm). read_in (slice_get x.ops o) port) st.plan ∙ same in
    let ops_same : e.reads.op ≡ a.step.op = same_Some e.reads.op a.step.op (sym e.reads.op_is ∙ a.step.op_is) in
    let here : q ≡ a.step.queue = same_Some q a.step.queue (sym e.reads.queue_is ∙ ap (λ (d : OpForm). slice_get d.reads port) ops_same ∙ a.step.queue_is) in
    let s = ap length (hist_stays m.plan v r.state a.state o port o port q a.step e.reads (omega arith)) in
    let t : a.state.taken q ≡ r.state.taken q + 1 =
    ap (λ (x : Machine). x.taken q) a.step.after ∙ ap (λ n. at_name n (r.state.taken n + 1) r.state.taken q) (sym here) ∙ one_taken q r.state.taken in
    let h = left_length m r.state r.stands q k in
    let h' = left_length m' a.state a.stands q k' in
    let l : left_at m o port ≡ length (queue_of m q) = ap (λ n. length (queue_of m n)) same in
    let l' : left_at m' o port ≡ length (queue_of m' q) = ap (λ n. length (queue_of m' n)) same' in
    let i = e.item in
    omega (arith, s, t, h, h', l, l', i)

pub not_enabled_drained : (m : MachineState) (o port : ℕ) → m.stopped ≡ false → (IsEnabled m o port → ⊥) → IsDrained m o port
not_enabled_drained m o port run idle q r =
    ⊎_elim (λ lt. absurd (idle (record { running = run; queue = q; reads = r; item = lt }))) (λ z. z) (more_or_zero (length (queue_of m q)))

-- TURNS

-- a machine that is not stopped runs on by nothing
pub runs_none : (m : MachineState) → m.stopped ≡ false → RunsOn m m
runs_none m e = record { plan = refl; running = e; ran = λ inputs r. r }

-- two runs, one after the other
pub runs_more : (m m' m'' : MachineState) → RunsOn m m' → RunsOn m' m'' → RunsOn m m''
runs_more m m' m'' f g = record { plan = g.plan ∙ f.plan; running = g.running; ran = λ inputs r. g.ran inputs (f.ran inputs r) }

-- a run and a step more
pub runs_step : (m m' m'' : MachineState) (o port : ℕ) → IsPlan m.plan → RunsOn m m' → Steps m' m'' o port → RunsOn m m''
runs_step m m' m'' o port v f st =
    let g = follows_step m' m'' o port (subst IsPlan (sym f.plan) v) st in
    runs_more m m' m'' f (record { plan = g.plan; running = g.running; ran = g.ran })

-- what is drained after the turns
pub drained_after : (m m' m'' : MachineState) (o : ℕ) → RunsOn m m' → DrainedBefore m' m'' o → DrainedBefore m m'' o
drained_after m m' m'' o f b = record {
  plan = b.plan ∙ f.plan;
  running = b.running;
  ran = λ inputs r. b.ran inputs (f.ran inputs r);
  drained = λ inputs r o' port' lt. b.drained inputs (f.ran inputs r) o' port' lt;
}

-- OPERATOR BY OPERATOR

pub before_none : (m : MachineState) → m.stopped ≡ false → DrainedBefore m m 0
before_none m e = record { plan = refl; running = e; ran = λ inputs r. r; drained = λ inputs r o' port' lt. absurd (omega (arith, lt)) }

pub before_next : (m m' m'' : MachineState) (o ports : ℕ) (op : OpForm) → DrainedBefore m m' o → Follows m' m'' o → slice_get m''.plan.ops o ≡ Some op
    → length op.reads ≤ ports → ((port : ℕ) → port < ports → IsDrained m'' o port) → DrainedBefore m m'' (o + 1)
before_next m m' m'' o ports op b f g many d = record {
  plan = f.plan ∙ b.plan;
  running = f.running;
  ran = λ inputs r. f.ran inputs (b.ran inputs r);
  drained = λ inputs r o' port' lt. ⊎_elim
      (λ below. f.drained inputs (b.ran inputs r) o' port' (omega (arith, below)) (b.drained inputs r o' port' below))
      (λ ge q w.
      let e : o' ≡ o = omega (arith, lt, ge) in
      let w' : ReadsAt m''.plan o port' q = subst (λ n. ReadsAt m''.plan n port' q) e w in
      let same : w'.op ≡ op = same_Some w'.op op (sym w'.op_is ∙ g) in
      let p = slice_get_within op.reads port' q (ap (λ (x : OpForm). slice_get x.reads port') (sym same) ∙ w'.queue_is) in
      d port' (omega (arith, p, many)) q w')
      (cases_lt o' o);
}

-- THE END

-- a machine whose ports are all drained is complete
pub complete : (m : MachineState) (inputs : List (List item.Item)) → IsPlan m.plan → (r : StandsAfterRun m inputs) → ((o port : ℕ) → IsDrained m o port)
    → IsComplete m.plan r.state
complete m inputs v r d o port op q g y =
    let u : ReadsAt m.plan o port q = record { op = op; op_is = g; queue_is = y } in
    let k = read_declared m.plan v o port q u in
    let b = d o port q u in
    let h = left_length m r.state r.stands q k in
    let w = r.stands.within q in
    omega (arith, b, h, w)

pub ran_first : (p : PlanForm) (inputs : List (List item.Item)) (m : MachineState) → Starts p inputs m → StandsAfterRun m inputs
ran_first p inputs m s = record {
  events = [];
  state = start p inputs;
  run = ap (λ (x : PlanForm). start x inputs) (sym s.plan);
  stands = s.stands;
  counts = s.counts;
}

pub has_run : (m m' : MachineState) (o : ℕ) → Follows m m' o → StandsAfterSomeRun m → StandsAfterSomeRun m'
has_run m m' o f r = record { inputs = r.inputs; ran = f.ran r.inputs r.ran }

-- an equal plan is valid too
pub plan_valid : (p q : PlanForm) → p ≡ q → IsPlan q → IsPlan p
plan_valid p q e v = subst IsPlan (sym e) v

-- one port more is drained
pub drained_next : (m0 m m' : MachineState) (o n : ℕ) → StandsAfterSomeRun m0 → Follows m0 m o → Follows m m' o
    → ((port : ℕ) → port < n → IsDrained m o port) → IsDrained m' o n
    → (port : ℕ) → port < n + 1 → IsDrained m' o port
drained_next m0 m m' o n r f g d last port lt = ⊎_elim
    (λ below. g.drained r.inputs (f.ran r.inputs r.ran) o port (omega arith) (d port below))
    (λ ge. subst (IsDrained m' o) (let e : n ≡ port = omega (arith, lt, ge) in e) last)
    (cases_lt port n)

-- THE NUMBERS OF OPERATORS AND PORTS

-- a valid plan has at most 256 operators
pub ops_few : (raw : RawPlan) (p : PlanForm) → plan_form raw ≡ p → IsPlan p → (length raw.ops ≡ length p.ops) × (length p.ops ≤ 256)
ops_few raw p e v = (
  sym (length-map raw.ops op_form) ∙ ap (λ (x : PlanForm). length x.ops) e,
  All-head (λ n. n ≤ 256) (length p.ops) [] (v.within Operators),
)

-- an operator reads at most 64 queues, where the numbers of all ports are so small
pub ports_few : (ops : List OpForm) (o : ℕ) (op : OpForm) → All (λ n. n ≤ 64) (port_numbers ops) → slice_get ops o ≡ Some op → length op.reads ≤ 64
ports_few [] o op a g = absurd (cc g)
ports_few (d ∷ ops) zero op a g =
    subst (λ (x : OpForm). length x.reads ≤ 64) (same_Some d op g) (All-head (λ n. n ≤ 64) (length d.reads) (length d.writes ∷ port_numbers ops) a)
ports_few (d ∷ ops) (suc o) op a g =
    ports_few ops o op (All-tail (λ n. n ≤ 64) (length d.writes) (port_numbers ops)
    (All-tail (λ n. n ≤ 64) (length d.reads) (length d.writes ∷ port_numbers ops) a)) g

pub record PortsAt (p : PlanForm) (o n : ℕ) : Type 0 where
  pub ports : HasPorts p o n
  pub few : n ≤ 64

-- the ports of an operator, as the code has them
pub ports_at : (raw : RawPlan) (p : PlanForm) (o n : ℕ) (d : Op) → plan_form raw ≡ p → IsPlan p → o < length raw.ops → d ≡ get_or raw.ops o d
    → n ≡ length d.reads → PortsAt p o n
ports_at raw p o n d e v lt de ne =
    let s : slice_get raw.ops o ≡ Some d = slice_get-get_or raw.ops o d lt ∙ ap Some (sym de) in
    let g : slice_get p.ops o ≡ Some (op_form d) = sym (ap (λ (x : PlanForm). slice_get x.ops o) e) ∙ got_map op_form raw.ops o d s in
    let f = ports_few p.ops o (op_form d) (v.within Ports) g in
    record { ports = record { op = op_form d; op_is = g; many = ne }; few = omega (arith, f, ne) }

-- where all ports of an operator are drained, the next operator's turn comes
pub all_next : (m0 m m' : MachineState) (p : PlanForm) (o n : ℕ) → m0.plan ≡ p → DrainedBefore m0 m o → Follows m m' o → HasPorts p o n
    → ((port : ℕ) → port < n → IsDrained m' o port) → DrainedBefore m0 m' (o + 1)
all_next m0 m m' p o n e b f h d =
    before_next m0 m m' o n h.op b f (ap (λ (x : PlanForm). slice_get x.ops o) (f.plan ∙ b.plan ∙ e) ∙ h.op_is) (let k = h.many in omega (arith, k)) d

-- WHAT A COMPLETE RUN GIVES

same_by : (xs ys : List ℤ) → length xs ≡ length ys → ((o : ℕ) → o < length xs → get_or xs o (pos 0) ≡ get_or ys o (pos 0)) → xs ≡ ys
same_by [] [] e h = refl
same_by [] (y ∷ ys) e h = absurd (omega (arith, e))
same_by (x ∷ xs) [] e h = absurd (omega (arith, e))
same_by (x ∷ xs) (y ∷ ys) e h =
    ap (λ z. z ∷ xs) (h 0 (omega arith)) ∙ ap (λ l. y ∷ l) (same_by xs ys (omega (arith, e)) (λ o lt. h (suc o) (omega (arith, lt))))

map_on : {B : Type 0} (f g : Name → B) (ws : List Name) → ((i : ℕ) (q : Name) → slice_get ws i ≡ Some q → f q ≡ g q) → map f ws ≡ map g ws
map_on f g [] h = refl
map_on f g (w ∷ ws) h = ap (λ y. y ∷ map f ws) (h 0 w refl) ∙ ap (λ l. g w ∷ l) (map_on f g ws (λ i q e. h (suc i) q e))

output_there : (p : PlanForm) (i : ℕ) (q : Name) → slice_get (decl_names p.outputs) i ≡ Some q → 0 < count q (queue_names p)
output_there p i q g =
    let a = count-append q (decl_names p.outputs) (decl_names p.inputs ++ decl_names p.queues) in
    let c = got_count (decl_names p.outputs) i q g in
    omega (arith, a, c)

-- nobody reads an output
output_unread : (p : PlanForm) → IsPlan p → (i : ℕ) (q : Name) → slice_get (decl_names p.outputs) i ≡ Some q → total (reads_it q) p.ops ≡ 0
output_unread p v i q g = let c = got_count (decl_names p.outputs) i q g in let o = v.read_once q in omega (arith, c, o)

-- the first lists are those of the outputs
pub outs_taken : (m : MachineState) (raw : RawPlan) (n : ℕ) (outs : List (List item.Item)) → IsRunning m → plan_form raw ≡ m.plan → n ≡ length raw.outputs
    → outs ≡ take n m.queues → outs ≡ map (queue_of m) (decl_names m.plan.outputs)
outs_taken m raw n outs g e ne t =
    let ws = decl_names m.plan.outputs in
    let rest = decl_names m.plan.inputs ++ decl_names m.plan.queues in
    let many : length ws ≡ n = length-map m.plan.outputs (λ (d : Decl). d.name) ∙ sym (ap (λ (x : PlanForm). length x.outputs) e) ∙ sym ne in
    let l = length-append ws rest in
    let q = g.laid_out.queues in
    t ∙ ap (λ k. take k m.queues) (sym many)
    ∙ sym (lists_in_order (queue_names m.plan) m.queues ws 0
    (λ i w h. place_is (queue_names m.plan) i w (g.valid.queues_once w) (output_there m.plan i w h) (got_append ws rest i (slice_get_within ws i w h) ∙ h)
    ∙ omega arith)
    (omega (arith, l, q)))

-- and they are there
pub outs_there : (m : MachineState) (raw : RawPlan) (n : ℕ) → IsRunning m → plan_form raw ≡ m.plan → n ≡ length raw.outputs → n ≤ length m.queues
outs_there m raw n g e ne =
    let ws = decl_names m.plan.outputs in
    let many : length ws ≡ n = length-map m.plan.outputs (λ (d : Decl). d.name) ∙ sym (ap (λ (x : PlanForm). length x.outputs) e) ∙ sym ne in
    let l = length-append ws (decl_names m.plan.inputs ++ decl_names m.plan.queues) in
    let q = g.laid_out.queues in
    omega (arith, many, l, q)

module _ (p : PlanForm) (inputs : List (List item.Item)) (m0 m : MachineState) (v : IsPlan p) (st : Starts p inputs m0) (b : DrainedBefore m0 m (length p.ops)) where
  plan_is : m.plan ≡ p
  plan_is = b.plan ∙ st.plan

  ran : StandsAfterRun m inputs
  ran = b.ran inputs (ran_first p inputs m0 st)

  all_drained : (o port : ℕ) → IsDrained m o port
  all_drained o port = ⊎_elim
      (λ lt. b.drained inputs (ran_first p inputs m0 st) o port lt)
      (λ ge q r. absurd (let w = slice_get_within m.plan.ops o r.op r.op_is in let e = ap (λ (x : PlanForm). length x.ops) plan_is in omega (arith, w, e, ge)))
      (cases_lt o (length p.ops))

  valid : IsPlan m.plan
  valid = plan_valid m.plan p plan_is v

  defined : HasDefined m.plan inputs ran.events ran.state
  defined = runs_law m.plan inputs ran.events ran.state valid ran.run (complete m inputs valid ran all_drained)

  -- the histories of the outputs are those of the plan's meaning
  pub run_outs : (outs : List (List item.Item)) → outs ≡ map (queue_of m) (decl_names m.plan.outputs) → outs ≡ (meaning p inputs).outs
  run_outs outs e =
      e ∙ map_on (queue_of m) ran.state.hist (decl_names m.plan.outputs)
      (λ i q g. ran.stands.left q (output_there m.plan i q g)
      ∙ ap (λ n. drop n (held (kinds_of m q) [] (ran.state.hist q))) (ran.stands.unread q (output_unread m.plan valid i q g))
      ∙ output_held m.plan valid q (got_count (decl_names m.plan.outputs) i q g) [] (ran.state.hist q))
      ∙ outs_are m.plan inputs ran.events ran.state defined ∙ ap (λ (x : PlanForm). (meaning x inputs).outs) plan_is

  -- the counts are the plan's firings
  pub run_counts : (values : List ℤ) → AreCounts m values → values ≡ map pos (firings p inputs)
  run_counts values c = same_by values (map pos (firings m.plan inputs))
      (c.many ∙ sym (length-map (firings m.plan inputs) pos ∙ length-map m.plan.ops _))
      (λ o lt.
      let w = there_is m.plan.ops o (let k = c.many in omega (arith, k, lt)) in
      let u : o < length m.plan.ops = slice_get_within m.plan.ops o w.0 w.1 in
      c.each o u ∙ ap pos (ran.counts o u)
      ∙ sym (get_or_from_slice_get (map pos (firings m.plan inputs)) o (pos (min most_firings (times o ran.events))) (pos 0)
      (got_map pos (firings m.plan inputs) o (min most_firings (times o ran.events)) (firings_are m.plan inputs ran.events ran.state defined o w.0 w.1))))
      ∙ ap (λ (x : PlanForm). map pos (firings x inputs)) plan_is

  -- the tables are those that are defined
  pub run_tables : (ts : List Aggregate) → ts ≡ m.tables → ts ≡ defined_tables p inputs
  run_tables ts e =
      e ∙ ran.stands.tables ∙ kept_of_bags m.plan.tables ran.state.rows (all_adds m.plan inputs) defined.tables
      ∙ ap (λ (x : PlanForm). defined_tables x inputs) plan_is

  -- and so are their rows
  pub run_rows : (ts : List Aggregate) → ts ≡ m.tables → map rows_of ts ≡ (meaning p inputs).tables
  run_rows ts e = ap (map rows_of) (run_tables ts e) ∙ defined_rows p inputs
