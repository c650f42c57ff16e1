-- A machine before its first firing.
use Rattle.std.proofs.Common.{◌≡◌, ℕ, zero, suc, ◌+◌, ◌<◌, false, Some, List, [], ◌∷◌, ◌++◌, length, take, map, refl, sym, ap, ◌∙◌, subst, arith, get_or}
use Rattle.std.proofs.Common.{replicate, length-append, ⊎_elim}
use Rattle.std.specs.Prelude.{All, min, slice_get, slice_index_or}
use Rattle.std.proofs.Math.ListN.{get_or-append}
use Rattle.std.proofs.lemmas.Bool.{cases_lt}
use Rattle.std.proofs.lemmas.List.{length-replicate, length-map, get_or-append-add, get_or_push}
use Rattle.std.proofs.lemmas.Option.{slice_get_within, slice_get-get_or, same_Some}
use Rattle.river_base.proofs.Lists.{got_map, got_append, map_more}
use Rattle.river_base.specs.declared.item.Item as item
use Rattle.river_base.specs.Held.{IsHeld}
use Rattle.river_base.specs.Places.{list_at}
use Rattle.kern_tables.specs.declared.kept.Aggregate.{Aggregate}
use Rattle.river_kernels.specs.Kern.{kern_of}
use Rattle.river_plan.specs.declared.op.Op.{Op}
use Rattle.river_plan.specs.declared.plan.Decl.{Decl}
use Rattle.river_plan.specs.declared.plan.RawPlan.{RawPlan}
use Rattle.river_plan.specs.Forms.{Name, OpForm, PlanForm, plan_form, op_form, op_forms, decl_names, all_decls, queue_names}
use Rattle.river_plan.specs.Kinds.{kind_of, var_kind}
use Rattle.river_plan.specs.Names.{count}
use Rattle.river_plan.specs.Places.{place}
use Rattle.river_plan.specs.Valid.{IsPlan}
use Rattle.river_plan.proofs.NameLemmas.{count-append, more_or_zero}
use Rattle.river_plan.proofs.PlaceLemmas.{place_below, place_front, place_back}
use Rattle.brooklet_model.specs.Histories.{inputs_of, most_firings}
use Rattle.brooklet_model.specs.Machine.{start}
use Rattle.brooklet_model.specs.Laws.{given_to}
use Rattle.brooklet_model.specs.Shapes.{IsFormed}
use Rattle.brooklet_model.specs.Typed.{AreInputs}
use Rattle.brooklet_model.proofs.Solutions.{written_out}
use Rattle.brooklet_model.proofs.TypedPlan.{op_fits, inputs_typed}
use Rattle.brooklet_model.proofs.Complete.{traced_start, nothing_given}
use Rattle.brooklet_step.specs.declared.parts.MachineState.{MachineState}
use Rattle.brooklet_step.specs.declared.state.State.{State}
use Rattle.brooklet_model.specs.Fit.{Fit}
use Rattle.brooklet_step.specs.Initial.{AreFirstStates, CanStart, AreFirst}
use Rattle.brooklet_step.specs.Tables.{kept_tables}
use Rattle.brooklet_step.specs.Works.{StandsForMachine, Counts, IsRunning, Starts}
use Rattle.brooklet_step.proofs.Edges.{inputs_held, inputs_may}
use Rattle.brooklet_step.proofs.QueuePlaces.{written_found}

-- THE FIRST STATES

got_last : {A : Type 0} (xs : List A) (x : A) (n : ℕ) → n ≡ length xs → slice_get (xs ++ x ∷ []) n ≡ Some x
got_last [] x zero e = refl
got_last [] x (suc n) e = absurd (omega (arith, e))
got_last (y ∷ ys) x zero e = absurd (omega (arith, e))
got_last (y ∷ ys) x (suc n) e = got_last ys x n (omega (arith, e))

first_more : (ops : List OpForm) (op : OpForm) (states : List (List State)) (st : List State) → AreFirst ops states → AreFirstStates op.kernel st
    → AreFirst (ops ++ op ∷ []) (states ++ st ∷ [])
first_more ops op states st f h =
    let c = f.count in
    let ls = length-append states (st ∷ []) in
    let lo = length-append ops (op ∷ []) in
    record {
      count = omega (arith, ls, lo, c);
      stand = λ o op' g. ⊎_elim
          (λ lt.
          let g' : slice_get ops o ≡ Some op' = sym (got_append ops (op ∷ []) o lt) ∙ g in
          subst (λ (u : List State). AreFirstStates op'.kernel u) (sym (get_or-append states (st ∷ []) [] o (omega (arith, lt, c)))) (f.stand o op' g'))
          (λ ge.
          let w = slice_get_within (ops ++ op ∷ []) o op' g in
          let e : o ≡ length ops = omega (arith, w, lo, ge) in
          let same : op ≡ op' = same_Some op op' (sym (got_last ops op o e) ∙ g) in
          subst (λ (u : List State). AreFirstStates op'.kernel u) (sym (get_or_push states st [] o (omega (arith, e, c))))
          (subst (λ (d : OpForm). AreFirstStates d.kernel st) same h))
          (cases_lt o (length ops));
    }

pub first_none : AreFirst [] []
first_none = record { count = refl; stand = λ o op g. absurd (cc g) }

-- a step of the loop that makes them
pub first_next : (ops : List Op) (i : ℕ) (d : Op) (states states' : List (List State)) (st : List State) → i < length ops → d ≡ get_or ops i d
    → AreFirst (op_forms (take i ops)) states → AreFirstStates (kern_of d.kernel) st → states' ≡ states ++ st ∷ []
    → AreFirst (op_forms (take (i + 1) ops)) states'
first_next ops i d states states' st lt e f h n =
    subst (λ (l : List OpForm). AreFirst l states') (sym (map_more op_form ops i d lt e))
    (subst (AreFirst (op_forms (take i ops) ++ op_form d ∷ [])) (sym n) (first_more (op_forms (take i ops)) (op_form d) states st f h))

-- the kernel at this place is right in itself
pub can_start_at : (ops : List Op) (i : ℕ) (d : Op) → CanStart (op_forms ops) → i < length ops → d ≡ get_or ops i d → IsFormed (kern_of d.kernel)
can_start_at ops i d c lt e =
    let s : slice_get ops i ≡ Some d = slice_get-get_or ops i d lt ∙ ap Some (sym e) in
    let g = got_map op_form ops i d s in
    c.formed i (op_form d) g

pub can_start : (p : PlanForm) → IsPlan p → CanStart p.ops
can_start p v = record {
  formed =
      λ o op g. record {
        reads = map (kind_of (all_decls p)) op.reads;
        writes = map (kind_of (all_decls p)) op.writes;
        vars =
            map (var_kind p.tables p.vars) op.vars;
        fits = op_fits p v o op g;
      };
}

-- THE FIRST QUEUES

blank_at : (n i : ℕ) → list_at {A = item.Item} (replicate n []) i ≡ []
blank_at zero i = refl
blank_at (suc n) zero = refl
blank_at (suc n) (suc i) = blank_at n i

zero_at : (n i : ℕ) → ◌≡◌ {A = ℕ} (slice_index_or (replicate n 0) i 0) 0
zero_at zero i = refl
zero_at (suc n) zero = refl
zero_at (suc n) (suc i) = zero_at n i

min_zero : (m : ℕ) → min m 0 ≡ 0
min_zero m = omega arith

-- there are as many lists of items as inputs
pub inputs_many : (ds : List Decl) (ls : List (List item.Item)) → AreInputs ds ls → length ls ≡ length ds
inputs_many [] [] a = refl
inputs_many [] (xs ∷ ls) a = absurd a
inputs_many (d ∷ ds) [] a = absurd a
inputs_many (d ∷ ds) (xs ∷ ls) a = let e = inputs_many ds ls a.1 in omega (arith, e)

module _ (p : PlanForm) (v : IsPlan p) (inputs : List (List item.Item)) (fit : Fit p inputs) where
  abbrev outs_n : List Name
  outs_n = decl_names p.outputs

  abbrev ins_n : List Name
  ins_n = decl_names p.inputs

  abbrev others_n : List Name
  others_n = decl_names p.queues

  abbrev pub first_queues : List (List item.Item)
  first_queues = replicate (length p.outputs) [] ++ (inputs ++ replicate (length p.queues) [])

  many : length inputs ≡ length ins_n
  many = inputs_many p.inputs inputs fit.typed ∙ sym (length-map p.inputs (λ (d : Decl). d.name))

  before : length (replicate {A = List item.Item} (length p.outputs) []) ≡ length outs_n
  before = length-replicate (length p.outputs) [] ∙ sym (length-map p.outputs (λ (d : Decl). d.name))

  -- at the start there is a list for each queue
  pub queues_many : length first_queues ≡ length (queue_names p)
  queues_many =
      let a = length-append (replicate {A = List item.Item} (length p.outputs) []) (inputs ++ replicate (length p.queues) []) in
      let b = length-append inputs (replicate {A = List item.Item} (length p.queues) []) in
      let c = length-append outs_n (ins_n ++ others_n) in
      let d = length-append ins_n others_n in
      let e = length-replicate {A = List item.Item} (length p.queues) [] in
      let f = length-map p.queues (λ (x : Decl). x.name) in
      omega (arith, a, b, c, d, e, f, before, many)

  past : (q : Name) (k : ℕ) → count q outs_n ≡ 0 → place (queue_names p) q ≡ length outs_n + k
      → list_at first_queues (place (queue_names p) q) ≡ list_at (inputs ++ replicate (length p.queues) []) k
  past q k z e =
      ap (list_at first_queues) (e ∙ ap (λ n. n + k) (sym before))
      ∙ get_or-append-add (replicate {A = List item.Item} (length p.outputs) []) (inputs ++ replicate (length p.queues) []) k []

  -- the first items of a queue are those that its input has
  pub first_hist : (q : Name) → 0 < count q (queue_names p) → inputs_of ins_n (list_at inputs) q ≡ list_at first_queues (place (queue_names p) q)
  first_hist q lt =
      let a = count-append q outs_n (ins_n ++ others_n) in
      let b = count-append q ins_n others_n in
      let o = v.queues_once q in
      ⊎_elim
      (λ (lo : 0 < count q outs_n).
      let pb = place_below outs_n q lo in
      written_out ins_n (list_at inputs) (λ n. []) q (omega (arith, a, b, o, lo))
      ∙ sym (ap (list_at first_queues) (place_front outs_n (ins_n ++ others_n) q lo)
      ∙ get_or-append (replicate {A = List item.Item} (length p.outputs) []) (inputs ++ replicate (length p.queues) []) [] (place outs_n q)
      (omega (arith, pb, before))
      ∙ blank_at (length p.outputs) (place outs_n q)))
      (λ (zo : count q outs_n ≡ 0). ⊎_elim
      (λ (li : 0 < count q ins_n).
      let pb = place_below ins_n q li in
      written_found ins_n (list_at inputs) (λ n. []) q li
      ∙ sym (past q (place ins_n q) zo (place_back outs_n (ins_n ++ others_n) q zo ∙ ap (λ k. length outs_n + k) (place_front ins_n others_n q li))
      ∙ get_or-append inputs (replicate (length p.queues) []) [] (place ins_n q) (omega (arith, pb, many))))
      (λ (zi : count q ins_n ≡ 0).
      written_out ins_n (list_at inputs) (λ n. []) q zi
      ∙ sym (past q (length ins_n + place others_n q) zo
      (place_back outs_n (ins_n ++ others_n) q zo ∙ ap (λ k. length outs_n + k) (place_back ins_n others_n q zi))
      ∙ ap (λ k. list_at (inputs ++ replicate (length p.queues) []) (k + place others_n q)) (sym many)
      ∙ get_or-append-add inputs (replicate (length p.queues) []) (place others_n q) []
      ∙ blank_at (length p.queues) (place others_n q)))
      (more_or_zero (count q ins_n)))
      (more_or_zero (count q outs_n))

-- ALL OF IT

-- the machine stands at the start of a run, and has not stopped
pub record First (p : PlanForm) (inputs : List (List item.Item)) (m : MachineState) : Type 0 where
  pub starts : Starts p inputs m
  pub goes_on : IsRunning m

pub first : (p pl : PlanForm) (inputs queues : List (List item.Item)) (cs : List ℕ) (states : List (List State)) (tables : List Aggregate) → IsPlan p → Fit p inputs
    → pl ≡ p
    → queues ≡ replicate (length p.outputs) [] ++ (inputs ++ replicate (length p.queues) []) → AreFirst p.ops states → cs ≡ replicate (length p.ops) 0
    → tables ≡ kept_tables p.tables (λ n. [])
    → First p inputs (record { plan = pl; queues = queues; tables = tables; states = states; counts = cs; stopped = false })
first p pl inputs queues cs states tables v fit pe qe f ce te =
    let m : MachineState = record { plan = p; queues = queues; tables = tables; states = states; counts = cs; stopped = false } in
    let many : length queues ≡ length (queue_names p) = ap length qe ∙ queues_many p v inputs fit in
    let kinds = kind_of (all_decls p) in
    let all_typed = inputs_typed p v inputs fit.typed in
    let hist_is : (q : Name) → 0 < count q (queue_names p) → list_at queues (place (queue_names p) q) ≡ inputs_of (decl_names p.inputs) (list_at inputs) q =
    λ q lt. sym (first_hist p v inputs fit q lt ∙ ap (λ (l : List (List item.Item)). list_at l (place (queue_names p) q)) (sym qe)) in
    let stands : StandsForMachine m (start p inputs) = record {
      left = λ q lt. hist_is q lt ∙ sym (inputs_held p v inputs q);
      within = λ q. omega arith;
      unread = λ q z. refl;
      typed = all_typed;
      tables = te;
      inputs = inputs;
      words = λ o. [];
      traced = traced_start p (given_to p inputs) v (λ q z. nothing_given (decl_names p.inputs) (list_at inputs) q z);
      received = λ o op g. tt;
      kept = λ o op g. (f.stand o op g).after (map kinds op.reads);
    } in
    let cs_are : Counts m [] = λ o lt. ap (λ (l : List ℕ). slice_index_or l o 0) ce ∙ zero_at (length p.ops) o ∙ sym (min_zero most_firings) in
    subst (λ (x : PlanForm). First p inputs (record { plan = x; queues = queues; tables = tables; states = states; counts = cs; stopped = false })) (sym pe)
    (record {
      starts = record { plan = refl; running = refl; stands = stands; counts = cs_are };
      goes_on = record {
        valid = v;
        laid_out = record {
          queues = many;
          states = f.count;
          counts = ap length ce ∙ length-replicate (length p.ops) 0;
        };
        fit = λ o op g. (f.stand o op g).again (map kinds op.reads) (map kinds op.writes) (map (var_kind p.tables p.vars) op.vars) (op_fits p v o op g);
        items =
            λ q lt. subst (λ (l : List item.Item). All (IsHeld (kinds q)) l) (sym (hist_is q lt)) (inputs_may p v inputs fit.typed q);
        inputs = inputs;
        typed = fit.typed;
        ran = record { events = []; state = start p inputs; run = refl; stands = stands; counts = cs_are };
      };
    })

-- the same in the terms of the code
pub first_by : (raw : RawPlan) (p pl : PlanForm) (inputs queues : List (List item.Item)) (cs : List ℕ) (states : List (List State)) (tables : List Aggregate)
    → IsPlan p → Fit p inputs → plan_form raw ≡ p → pl ≡ p
    → queues ≡ replicate (length raw.outputs) [] ++ (inputs ++ replicate (length raw.queues) []) → AreFirst (op_forms raw.ops) states
    → cs ≡ replicate (length raw.ops) 0 → tables ≡ kept_tables raw.tables (λ n. [])
    → First p inputs (record { plan = pl; queues = queues; tables = tables; states = states; counts = cs; stopped = false })
first_by raw p pl inputs queues cs states tables v fit e pe qe fs ce te =
    let m : MachineState = record { plan = pl; queues = queues; tables = tables; states = states; counts = cs; stopped = false } in
    subst (λ (x : PlanForm). First x inputs m) e
    (first (plan_form raw) pl inputs queues cs states tables (subst IsPlan (sym e) v) (subst (λ (x : PlanForm). Fit x inputs) (sym e) fit) (pe ∙ sym e)
    qe fs (ce ∙ ap (λ (i : ℕ). replicate i 0) (sym (length-map raw.ops op_form))) te)

-- so are all kernels of a valid plan
pub can_start_by : (raw : RawPlan) (p : PlanForm) → plan_form raw ≡ p → IsPlan p → CanStart (op_forms raw.ops)
can_start_by raw p e v = subst (λ (x : PlanForm). CanStart x.ops) (sym e) (can_start p v)
