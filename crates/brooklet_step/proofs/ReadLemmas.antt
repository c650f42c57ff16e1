-- The places of the queues that operators read.
use Rattle.std.proofs.Common.{◌≡◌, ℕ, ◌-◌, ◌<◌, length-drop, Some, Bool, false, List, [], length, map, sym, ap, ◌∙◌, subst, arith}
use Rattle.std.specs.Prelude.{IsTrue, slice_get, slice_index_or}
use Rattle.std.proofs.lemmas.List.{length-map}
use Rattle.std.proofs.lemmas.Option.{slice_get_within, get_or_from_slice_get, same_Some}
use Rattle.river_base.proofs.Lists.{got_map, there_is}
use Rattle.river_base.specs.Held.{held}
use Rattle.river_base.specs.Places.{list_at}
use Rattle.river_base.proofs.HeldLemmas.{length-held}
use Rattle.river_plan.specs.declared.plan.RawPlan.{RawPlan}
use Rattle.river_plan.specs.Forms.{Name, OpForm, PlanForm, plan_form, op_form, queue_names}
use Rattle.river_plan.specs.Names.{count}
use Rattle.river_plan.specs.Places.{place, places, read_places}
use Rattle.river_plan.proofs.PlaceLemmas.{place_below}
use Rattle.brooklet_model.specs.Machine.{Machine}
use Rattle.brooklet_step.specs.declared.parts.MachineState.{MachineState}
use Rattle.brooklet_step.specs.Reading.{IsQueuePlace}
use Rattle.brooklet_step.specs.Laws.{EnabledIsItem}
use Rattle.brooklet_step.specs.Works.{queue_of, kinds_of, StandsForMachine, ReadsAt, IsEnabled, IsRunning}
use Rattle.brooklet_step.proofs.StepLemmas.{read_declared}

-- the places of what an operator reads, or writes
pub places_at : (f : OpForm → List Name) (names : List Name) (ops : List OpForm) (o : ℕ) (op : OpForm) → slice_get ops o ≡ Some op
    → list_at (map (λ d. places names (f d)) ops) o ≡ places names (f op)
places_at f names ops o op g =
    get_or_from_slice_get (map (λ d. places names (f d)) ops) o (places names (f op)) [] (got_map (λ d. places names (f d)) ops o op g)

-- the place that stands at a port is that of its queue
pub place_got : (names qs : List Name) (port : ℕ) (q : Name) → slice_get qs port ≡ Some q → slice_index_or (places names qs) port 0 ≡ place names q
place_got names qs port q g = get_or_from_slice_get (places names qs) port (place names q) 0 (got_map (place names) qs port q g)

-- the place of the queue at a port
pub place_of : (p : PlanForm) (o port : ℕ) (q : Name) (r : ReadsAt p o port q) → slice_index_or (list_at (read_places p) o) port 0 ≡ place (queue_names p) q
place_of p o port q r =
    ap (λ (l : List ℕ). slice_index_or l port 0) (places_at (λ d. d.reads) (queue_names p) p.ops o r.op r.op_is)
    ∙ place_got (queue_names p) r.op.reads port q r.queue_is

-- a queue that is read is one of the machine's
pub place_in_queues : (m : MachineState) (o port : ℕ) (q : Name) → IsRunning m → ReadsAt m.plan o port q → place (queue_names m.plan) q < length m.queues
place_in_queues m o port q g r =
    let b = place_below (queue_names m.plan) q (read_declared m.plan g.valid o port q r) in
    let k = g.laid_out.queues in
    omega (arith, b, k)

-- the operator and the port are there
pub op_there : (p : PlanForm) (o port : ℕ) (q : Name) → ReadsAt p o port q → o < length p.ops
op_there p o port q r = slice_get_within p.ops o r.op r.op_is

-- a port that reads a queue is one of the operator's
pub port_there : (p : PlanForm) (o port : ℕ) (q : Name) → ReadsAt p o port q → port < length (list_at (read_places p) o)
port_there p o port q r =
    let w = slice_get_within r.op.reads port q r.queue_is in
    let e = ap length (places_at (λ d. d.reads) (queue_names p) p.ops o r.op r.op_is) ∙ length-map r.op.reads (place (queue_names p)) in
    omega (arith, w, e)

-- as many operators stand in the lists of the code
pub ops_many : (raw : RawPlan) (p : PlanForm) → plan_form raw ≡ p → length raw.ops ≡ length p.ops
ops_many raw p e = sym (length-map raw.ops op_form) ∙ ap (λ (x : PlanForm). length x.ops) e

-- where the place is found
pub found_place : (m : MachineState) (o port n : ℕ) → IsRunning m → o < length m.plan.ops → port < length (list_at (read_places m.plan) o)
    → n ≡ slice_index_or (list_at (read_places m.plan) o) port 0 → IsQueuePlace m o port n
found_place m o port n g lo lp e =
    let w = there_is m.plan.ops o lo in
    let k = ap length (places_at (λ d. d.reads) (queue_names m.plan) m.plan.ops o w.0 w.1) ∙ length-map w.0.reads (place (queue_names m.plan)) in
    let p = there_is w.0.reads port (omega (arith, k, lp)) in
    let r : ReadsAt m.plan o port p.0 = record { op = w.0; op_is = w.1; queue_is = p.1 } in
    let at : n ≡ place (queue_names m.plan) p.0 = e ∙ place_of m.plan o port p.0 r in
    let b = place_in_queues m o port p.0 g r in
    record {
      queue = p.0;
      reads = r;
      place_is = at;
      declared = read_declared m.plan g.valid o port p.0 r;
      in_queues = subst (λ i. i < length m.queues) (sym at) b;
    }

-- the queue at a port is one alone
same_queue : (p : PlanForm) (o port : ℕ) (q q' : Name) → ReadsAt p o port q → ReadsAt p o port q' → q ≡ q'
same_queue p o port q q' r r' =
    let e : r.op ≡ r'.op = same_Some r.op r'.op (sym r.op_is ∙ r'.op_is) in
    same_Some q q' (sym r.queue_is ∙ ap (λ (d : OpForm). slice_get d.reads port) e ∙ r'.queue_is)

-- whether something waits there
pub enabled_by : (m : MachineState) (o port n w : ℕ) (b : Bool) → m.stopped ≡ false → IsQueuePlace m o port n → w ≡ length (list_at m.queues n)
    → (IsTrue b → 0 < w) × (0 < w → IsTrue b) → (IsTrue b → IsEnabled m o port) × (IsEnabled m o port → IsTrue b)
enabled_by m o port n w b run pl e t =
    let names = queue_names m.plan in
    let h : w ≡ length (queue_of m pl.queue) = subst (λ i. w ≡ length (list_at m.queues i)) pl.place_is e in (
      (λ y. record { running = run; queue = pl.queue; reads = pl.reads; item = let g = t.0 y in omega (arith, g, h) }),
      (λ on.
          let s = same_queue m.plan o port on.queue pl.queue on.reads pl.reads in
          let i : 0 < length (queue_of m pl.queue) = subst (λ (z : Name). 0 < length (queue_of m z)) s on.item in
          t.1 (omega (arith, i, h))),
    )

-- a port that reads nothing is not enabled
pub not_enabled : (m : MachineState) (o port : ℕ) → ((q : Name) → ReadsAt m.plan o port q → ⊥) → IsEnabled m o port → ⊥
not_enabled m o port h on = h on.queue on.reads

-- WHAT WAITS IN THE STATE OF THE DEFINITION

-- as many items are left of a queue as its history is longer than what was taken
left_many : (m : MachineState) (s : Machine) (q : Name) → StandsForMachine m s → 0 < count q (queue_names m.plan)
    → length (queue_of m q) ≡ length (s.hist q) - s.taken q
left_many m s q h lt =
    let all = held (kinds_of m q) [] (s.hist q) in
    ap length (h.left q lt) ∙ length-drop (s.taken q) all ∙ ap (λ n. n - s.taken q) (length-held (kinds_of m q) [] (s.hist q))

-- `enabled` tells whether the definition's state has an item there
pub enabled_law : EnabledIsItem
enabled_law m s o port v running h = (
  (λ e.
      let r = e.reads in
      let n = left_many m s e.queue h (read_declared m.plan v o port e.queue r) in
      let i = e.item in
      record { op = r.op; queue = e.queue; op_is = r.op_is; queue_is = r.queue_is; item = omega (arith, n, i) }),
  (λ i.
      let r : ReadsAt m.plan o port i.queue = record { op = i.op; op_is = i.op_is; queue_is = i.queue_is } in
      let n = left_many m s i.queue h (read_declared m.plan v o port i.queue r) in
      let l = i.item in
      record { running = running; queue = i.queue; reads = r; item = omega (arith, n, l) }),
)
