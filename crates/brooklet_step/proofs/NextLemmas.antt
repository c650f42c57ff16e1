-- A firing of an operator, in the terms of the code.
use Rattle.std.proofs.Common.{◌≡◌, ℕ, zero, suc, ℤ, ◌+◌, ◌<◌, ◌≤◌, false, Option, Some, List, [], ◌∷◌, length, map, refl, sym, ap, ◌∙◌, subst, arith, get_or}
use Rattle.std.proofs.Common.{replicate}
use Rattle.std.specs.Prelude.{All, min, slice_get, slice_set, slice_index_or}
use Rattle.std.proofs.lemmas.List.{length-map, length-set}
use Rattle.std.proofs.lemmas.Option.{slice_get_within, slice_get-get_or, same_Some}
use Rattle.river_base.proofs.Lists.{got_map, there_is}
use Rattle.river_base.specs.declared.item.Item as item
use Rattle.river_base.specs.Places.{list_at, each_grew}
use Rattle.river_base.proofs.PlaceLemmas.{each_grew-blanks}
use Rattle.kern_tables.specs.declared.kept.Aggregate.{Aggregate}
use Rattle.kern_tables.specs.Kept.{kept_of, width_of_table}
use Rattle.river_kernels.specs.Kern.{Kern, kern_of}
use Rattle.river_plan.specs.declared.op.Op.{Op}
use Rattle.river_plan.specs.declared.plan.RawPlan.{RawPlan}
use Rattle.river_plan.specs.Forms.{Name, OpForm, PlanForm, plan_form, op_form, op_forms, all_decls, queue_names, table_names, variable_names}
use Rattle.river_plan.specs.Kinds.{kind_of, var_kind}
use Rattle.brooklet_model.specs.Fire.{outs, tabs}
use Rattle.brooklet_model.specs.Histories.{most_firings, tables_of}
use Rattle.brooklet_model.specs.Typed.{widths_in, IsWide}
use Rattle.brooklet_model.proofs.Ports.{counts}
use Rattle.brooklet_model.proofs.Traces.{got_count}
use Rattle.brooklet_model.proofs.TypedPlan.{op_fits}
use Rattle.brooklet_step.specs.declared.emit.Emit.{Emit}
use Rattle.brooklet_step.specs.declared.parts.MachineState.{MachineState}
use Rattle.brooklet_step.specs.declared.state.State.{State}
use Rattle.river_plan.specs.Places.{place, places, read_places, write_places, var_places}
use Rattle.brooklet_step.specs.ByPlace.{joined_at}
use Rattle.brooklet_step.specs.Reading.{IsFrontItem, CanFire, IsBlankOf, CameOf, FiredOp}
use Rattle.brooklet_step.specs.Given.{FiresAt, CanTake}
use Rattle.brooklet_step.proofs.GivenCode.{fires_again}
use Rattle.brooklet_step.specs.Tables.{table_places, each_added, AreFor}
use Rattle.brooklet_step.specs.Took.{IsBlank}
use Rattle.brooklet_step.specs.Works.{queue_of, kinds_of, states_of, IsEnabled, IsRunning, Steps}
use Rattle.river_plan.proofs.PlaceLemmas.{place_below}
use Rattle.brooklet_step.proofs.KeptTables.{kept_at, kept_width}
use Rattle.brooklet_step.proofs.OpTables.{width_at, width_there, widths_of, mine_many, table_places_are}
use Rattle.brooklet_step.proofs.ReadLemmas.{places_at, place_got, place_of, place_in_queues}
use Rattle.brooklet_step.proofs.StepLemmas.{can_take, item_held, next_parts, steps, goes_on, write_declared}

-- the kernel of an operator in the lists of a plan
pub kernel_at : (raw : RawPlan) (p : PlanForm) (o : ℕ) (d : Op) (op : OpForm) → plan_form raw ≡ p → slice_get p.ops o ≡ Some op → d ≡ get_or raw.ops o d
    → kern_of d.kernel ≡ op.kernel
kernel_at raw p o d op v g e =
    let h : slice_get (op_forms raw.ops) o ≡ Some op = ap (λ (q : PlanForm). slice_get q.ops o) v ∙ g in
    let lt : o < length raw.ops = let l = length-map raw.ops op_form in let w = slice_get_within (op_forms raw.ops) o op h in omega (arith, l, w) in
    let s : slice_get raw.ops o ≡ Some d = slice_get-get_or raw.ops o d lt ∙ ap Some (sym e) in
    ap (λ (f : OpForm). f.kernel) (same_Some (op_form d) op (sym (got_map op_form raw.ops o d s) ∙ h))

-- an operator of the plan as data is one of the plan
pub op_there : (raw : RawPlan) (p : PlanForm) (o : ℕ) (op : OpForm) → plan_form raw ≡ p → slice_get p.ops o ≡ Some op → o < length raw.ops
op_there raw p o op v g =
    let h : slice_get (op_forms raw.ops) o ≡ Some op = ap (λ (q : PlanForm). slice_get q.ops o) v ∙ g in
    let l = length-map raw.ops op_form in let w = slice_get_within (op_forms raw.ops) o op h in omega (arith, l, w)

pub blank_by : (k k' : Kern) (n t : ℕ) (e : Emit) → k ≡ k' → n ≡ outs k → t ≡ tabs k → e.outs ≡ replicate n [] → e.adds ≡ replicate t [] → IsBlank k' e
blank_by k k' n t e q en et o a = subst (λ j. IsBlank j e) q (record { outs = o ∙ ap (λ i. replicate i []) en; adds = a ∙ ap (λ i. replicate i []) et })

-- what an operator can fire on, its kernel can take
pub fire_applies : (p : PlanForm) (o port : ℕ) (x : item.Item) (st : List State) (blank : Emit) (k : Kern) → (c : CanFire p o port x st) → k ≡ c.op.kernel
    → IsBlank c.op.kernel blank → CanTake k port x st blank
fire_applies p o port x st blank k c e b = subst (λ j. CanTake j port x st blank) (sym e) (c.applies blank b)

-- what its kernel fired, the operator fired
pub fired_op : (p : PlanForm) (o port : ℕ) (x : item.Item) (st st' : List State) (blank out : Emit) (k : Kern) → (c : CanFire p o port x st) → k ≡ c.op.kernel
    → IsBlank c.op.kernel blank → FiresAt k port x blank out st st' → FiredOp p o port x st st' out
fired_op p o port x st st' blank out k c e b f = record {
  fired = λ op g.
      let same : c.op ≡ op = same_Some c.op op (sym c.op_is ∙ g) in
      let f' = subst (λ j. FiresAt j port x blank out st st') e f in
      subst (λ (d : OpForm). CameOf d.kernel port x st st' out) same
      (record { blank = blank; is_blank = b; room = (fires_again c.op.kernel port x blank out st st' (c.applies blank b) f').1; fires = f' });
}

-- the lists are for the kernel that is found in the lists of a plan
pub blank_found : (raw : RawPlan) (p : PlanForm) (o : ℕ) (d : Op) (e : Emit) → plan_form raw ≡ p → o < length p.ops → d ≡ get_or raw.ops o d
    → IsBlank (kern_of d.kernel) e → IsBlankOf p o e
blank_found raw p o d e v lt h b = record { blank = λ op g. subst (λ j. IsBlank j e) (kernel_at raw p o d op v g h) b }

-- they are empty again after the operator fired and all was moved out
pub blank_again : (p : PlanForm) (o port : ℕ) (x : item.Item) (st st' : List State) (out new : Emit) → FiredOp p o port x st st' out
    → new.outs ≡ replicate (length out.outs) [] → new.adds ≡ replicate (length out.adds) [] → IsBlankOf p o new
blank_again p o port x st st' out new f eo ea = record {
  blank = λ op g.
      let room = (f.fired op g).room in
      record { outs = eo ∙ ap (λ n. replicate n []) room.outs; adds = ea ∙ ap (λ n. replicate n []) room.adds };
}

-- THE CONDITIONS OF THE CALLS

-- the place of the queue of an enabled port
pub enabled_place : (m : MachineState) (o port n : ℕ) (ps : List ℕ) (e : IsEnabled m o port) → ps ≡ list_at (read_places m.plan) o → n ≡ slice_index_or ps port 0
    → n ≡ place (queue_names m.plan) e.queue
enabled_place m o port n ps e pe ne = ne ∙ ap (λ (l : List ℕ). slice_index_or l port 0) pe ∙ place_of m.plan o port e.queue e.reads

-- an enabled port has an item in front
pub front_there : (m : MachineState) (o port n : ℕ) (g : IsRunning m) (e : IsEnabled m o port) → n ≡ place (queue_names m.plan) e.queue
    → (n < length m.queues) × (0 < length (list_at m.queues n))
front_there m o port n g e at =
    let b = place_in_queues m o port e.queue g e.reads in (
      subst (λ i. i < length m.queues) (sym at) b,
      subst (λ i. 0 < length (list_at m.queues i)) (sym at) e.item,
    )

-- an operator that is enabled is one of the plan's
pub op_in : (m : MachineState) (o port : ℕ) (g : IsRunning m) (e : IsEnabled m o port) → (o < length m.states) × (o < length m.plan.ops) × (o < length m.counts)
op_in m o port g e =
    let w = slice_get_within m.plan.ops o e.reads.op e.reads.op_is in
    let s = g.laid_out.states in
    let c = g.laid_out.counts in
    (omega (arith, w, s), w, omega (arith, w, c))

-- the item at the front is one that the operator can take
pub can_fire : (m : MachineState) (o port n : ℕ) (x : item.Item) (queues : List (List item.Item)) (st : List State) (g : IsRunning m) (e : IsEnabled m o port)
    → n ≡ place (queue_names m.plan) e.queue → IsFrontItem m.queues n x queues → st ≡ list_at m.states o → CanFire m.plan o port x st
can_fire m o port n x queues st g e at hx es = record {
  op = e.reads.op;
  op_is = e.reads.op_is;
  applies = λ blank b. can_take m o port e.queue x hx.rest st blank g e.reads (ap (list_at m.queues) (sym at) ∙ hx.here) es b;
}

-- there are as many lists as queues to write, and the queues are there
pub send_there : (m : MachineState) (o port n : ℕ) (x : item.Item) (queues : List (List item.Item)) (st st' : List State) (out : Emit) (ws : List ℕ) (g : IsRunning m)
    (e : IsEnabled m o port)
    → IsFrontItem m.queues n x queues → st ≡ list_at m.states o → FiredOp m.plan o port x st st' out → ws ≡ list_at (write_places m.plan) o
    → (length ws ≡ length out.outs) × ((j : ℕ) → j < length ws → slice_index_or ws j 0 < length queues)
send_there m o port n x queues st st' out ws g e hx es f we =
    let op = e.reads.op in
    let names = queue_names m.plan in
    let c = f.fired op e.reads.op_is in
    let lo : length out.outs ≡ outs op.kernel = c.room.outs in
    let is : ws ≡ places names op.writes = we ∙ places_at (λ d. d.writes) names m.plan.ops o op e.reads.op_is in
    let lw : length ws ≡ length op.writes = ap length is ∙ length-map op.writes (place names) in
    let wo : length op.writes ≡ outs op.kernel = sym (length-map op.writes (kind_of (all_decls m.plan)))
    ∙ (counts op.kernel _ _ _ (op_fits m.plan g.valid o op e.reads.op_is)).outs in (
      omega (arith, lo, lw, wo),
      (λ j lt.
          let w = there_is op.writes j (omega (arith, lt, lw)) in
          let p = place_below names w.0 (write_declared m.plan g.valid o op e.reads.op_is w.0 (got_count op.writes j w.0 w.1)) in
          let at : slice_index_or ws j 0 ≡ place names w.0 = ap (λ (l : List ℕ). slice_index_or l j 0) is ∙ place_got names op.writes j w.0 w.1 in
          let q = g.laid_out.queues in
          let many = ap length hx.left ∙ length-set m.queues n hx.rest in
          omega (arith, p, at, q, many)),
    )

-- THE TABLES

-- the name whose place this is
pub got_place : (names qs : List Name) (j p : ℕ) → slice_get (places names qs) j ≡ Some p → (q : Name) × (slice_get qs j ≡ Some q) × (place names q ≡ p)
got_place names [] j p g = absurd (cc g)
got_place names (q ∷ qs) zero p g = (q, refl, same_Some (place names q) p g)
got_place names (q ∷ qs) (suc j) p g = got_place names qs j p g

rows_wide : (o : Option ℕ) (n : ℕ) (rows : List (List ℤ)) → o ≡ Some n → All (IsWide o) rows → All (λ row. length row ≡ n) rows
rows_wide o n rows e a = subst (λ w. All (IsWide w) rows) e a

-- there are as many lists of rows as tables among the operator's variables, and each has the width of its table
pub add_there : (m : MachineState) (o port n : ℕ) (x : item.Item) (less : List (List item.Item)) (st st' : List State) (out : Emit) (vs : List ℕ) (g : IsRunning m)
    (e : IsEnabled m o port)
    → n ≡ place (queue_names m.plan) e.queue → IsFrontItem m.queues n x less
    → st ≡ list_at m.states o → FiredOp m.plan o port x st st' out → vs ≡ list_at (var_places m.plan) o
    → (length (table_places (length m.tables) vs) ≤ length out.adds) × AreFor m.tables (table_places (length m.tables) vs) out.adds
add_there m o port n x less st st' out vs g e at hx es f ve =
    let op = e.reads.op in
    let tables = m.plan.tables in
    let names = table_names tables in
    let mine = tables_of names op in
    let vars = map (var_kind tables m.plan.vars) op.vars in
    let s = g.ran.state in
    let held = g.ran.stands.tables in
    let c = f.fired op e.reads.op_is in
    let la = c.room.adds in
    let lm = mine_many m.plan g.valid o op e.reads.op_is in
    let is : table_places (length m.tables) vs ≡ places names mine =
    ap (table_places (length m.tables)) (ve ∙ places_at (λ d. d.vars) (variable_names m.plan) m.plan.ops o op e.reads.op_is)
    ∙ table_places_are m.plan op (length m.tables) (ap length held ∙ length-map tables (λ t. kept_of t.kind (s.rows t.name))) in
    let lu : length (table_places (length m.tables) vs) ≡ length mine = ap length is ∙ length-map mine (place names) in
    let hq : queue_of m e.queue ≡ x ∷ hx.rest = ap (list_at m.queues) (sym at) ∙ hx.here in
    let fs : FiresAt op.kernel port x c.blank out (states_of m o) st' = subst (λ u. FiresAt op.kernel port x c.blank out u st') es c.fires in
    let does = fs.each (map (kinds_of m) op.reads) (map (kinds_of m) op.writes) vars (op_fits m.plan g.valid o op e.reads.op_is) (g.fit o op e.reads.op_is)
    (item_held m o port e.queue x hx.rest g e.reads hq) in
    let came = does.came in (
      omega (arith, la, lm, lu),
      (λ j p t gj gt.
          let q = got_place names mine j p (ap (λ l. slice_get l j) (sym is) ∙ gj) in
          let d = kept_at tables s.rows p t (ap (λ l. slice_get l p) (sym held) ∙ gt) in
          let width : width_at tables q.0 ≡ width_of_table t =
          width_there tables q.0 d.0 (ap (slice_get tables) q.2 ∙ d.1) ∙ sym (ap width_of_table d.2 ∙ kept_width d.0.kind (s.rows d.0.name)) in
          let lt = slice_get_within mine j q.0 q.1 in
          let given : list_at out.adds j ≡ came.adds j =
          ap (λ (l : List (List (List ℤ))). list_at l j) (came.adds_are ∙ ap (λ l. each_grew l came.adds) c.is_blank.adds)
          ∙ each_grew-blanks (tabs op.kernel) came.adds j [] (omega (arith, lt, lm)) in
          let got : slice_get (widths_in vars) j ≡ Some (width_of_table t) = ap (λ (l : List ℕ). slice_get l j) (widths_of m.plan g.valid o op e.reads.op_is)
          ∙ got_map (width_at tables) mine j q.0 q.1 ∙ ap Some width in
          subst (λ (l : List (List ℤ)). All (λ row. length row ≡ width_of_table t) l) (sym given)
          (rows_wide (slice_get (widths_in vars) j) (width_of_table t) (came.adds j) got (came.wide j))),
    )

-- THE END

pub record Next (m m' : MachineState) (o port : ℕ) : Type 0 where
  pub steps : Steps m m' o port
  pub goes_on : IsRunning m'

-- one firing more: the machine goes on
pub next : (m : MachineState) (o port n : ℕ) (x : item.Item) (st st' : List State) (out : Emit) (ws : List ℕ) (less queues : List (List item.Item)) (vs cs : List ℕ)
    (ts : List Aggregate) (g : IsRunning m) (e : IsEnabled m o port)
    → n ≡ place (queue_names m.plan) e.queue → IsFrontItem m.queues n x less
    → st ≡ list_at m.states o → FiredOp m.plan o port x st st' out → ws ≡ list_at (write_places m.plan) o
    → queues ≡ each_grew less (joined_at ws (list_at out.outs)) → cs ≡ slice_set m.counts o (min most_firings (slice_index_or m.counts o 0 + 1))
    → vs ≡ list_at (var_places m.plan) o → ts ≡ each_added m.tables (joined_at (table_places (length m.tables) vs) (list_at out.adds))
    → Next m (record { plan = m.plan; queues = queues; tables = ts; states = slice_set m.states o st'; counts = cs; stopped = false }) o port
next m o port n x st st' out ws less queues vs cs ts g e at hx es f we eq ec ve et =
    let names = queue_names m.plan in
    let op = e.reads.op in
    let c = f.fired op e.reads.op_is in
    let hq : queue_of m e.queue ≡ x ∷ hx.rest = ap (list_at m.queues) (sym at) ∙ hx.here in
    let fs : FiresAt op.kernel port x c.blank out (states_of m o) st' = subst (λ u. FiresAt op.kernel port x c.blank out u st') es c.fires in
    let is : ws ≡ places names op.writes = we ∙ places_at (λ d. d.writes) names m.plan.ops o op e.reads.op_is in
    let qs : queues ≡ each_grew (slice_set m.queues (place names e.queue) hx.rest) (joined_at (places names op.writes) (list_at out.outs)) =
    eq ∙ ap (λ (l : List ℕ). each_grew less (joined_at l (list_at out.outs))) is
    ∙ ap (λ (l : List (List item.Item)). each_grew l (joined_at (places names op.writes) (list_at out.outs)))
    (hx.left ∙ ap (λ k. slice_set m.queues k hx.rest) at) in
    let places_is : table_places (length m.tables) vs ≡ places (table_names m.plan.tables) (tables_of (table_names m.plan.tables) op) =
    ap (table_places (length m.tables)) (ve ∙ places_at (λ d. d.vars) (variable_names m.plan) m.plan.ops o op e.reads.op_is)
    ∙ table_places_are m.plan op (length m.tables) (ap length g.ran.stands.tables ∙ length-map m.plan.tables (λ t. kept_of t.kind (g.ran.state.rows t.name))) in
    let us : ts ≡ each_added m.tables (joined_at (places (table_names m.plan.tables) (tables_of (table_names m.plan.tables) op)) (list_at out.adds)) = et
    ∙ ap (λ (l : List ℕ). each_added m.tables (joined_at l (list_at out.adds))) places_is in
    let end : next_parts m o queues st' ts ≡
    (record { plan = m.plan; queues = queues; tables = ts; states = slice_set m.states o st'; counts = cs; stopped = false }) =
    λ i. record { plan = m.plan; queues = queues; tables = ts; states = slice_set m.states o st'; counts = sym ec i; stopped = false } in
    subst (λ (u : MachineState). Next m u o port) end (record {
      steps = steps m o port e.queue x hx.rest c.blank out st' queues ts g e.reads hq c.is_blank fs qs us;
      goes_on = goes_on m o port e.queue x hx.rest c.blank out st' queues ts g e.reads hq c.is_blank fs qs us;
    })
