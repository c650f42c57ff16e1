-- The first tasks are fresh.
use Rattle.std.proofs.Common.{◌≡◌, ℕ, zero, suc, ◌+◌, ◌<◌, ◌≤◌, Option, Some, None, List, [], ◌∷◌, ◌++◌, length, map, refl, sym, ap, ◌∙◌, arith, subst, length-append}
use Rattle.std.specs.Prelude.{slice_get, replicate, All}
use Rattle.std.proofs.lemmas.List.{length-map, length-replicate, map-append}
use Rattle.std.proofs.lemmas.List.Elements.{All-nil, All-cons}
use Rattle.std.proofs.lemmas.Option.{slice_get_within, same_Some}
use Rattle.river_base.proofs.Lists.{got_map, there_is}
use Rattle.river_base.specs.declared.item.Item as item
use Rattle.river_base.specs.declared.kind.QueueType.{QueueType}
use Rattle.river_base.specs.Places.{list_at}
use Rattle.river_base.proofs.HeldLemmas.{held-nil}
use Rattle.river_plan.specs.declared.plan.Decl.{Decl}
use Rattle.river_plan.specs.ByPlace.{decl_kinds, queue_kinds, kind_at}
use Rattle.river_plan.specs.Forms.{Name, OpForm, PlanForm, all_decls, queue_names, decl_names}
use Rattle.river_plan.specs.Kinds.{kind_of, var_kind}
use Rattle.river_plan.specs.Names.{count}
use Rattle.river_plan.specs.Places.{place, places, read_places, write_places}
use Rattle.river_plan.specs.Uses.{reads_it}
use Rattle.river_plan.specs.Valid.{IsPlan}
use Rattle.river_plan.proofs.PlaceLemmas.{place_below}
use Rattle.river_plan.proofs.WiredLemmas.{kind_place}
use Rattle.brooklet_model.specs.Fire.{first_kept}
use Rattle.brooklet_model.specs.Laws.{given_to}
use Rattle.brooklet_model.specs.Traced.{ran}
use Rattle.brooklet_model.specs.Words.{Word}
use Rattle.brooklet_model.proofs.Traces.{got_count, at_most}
use Rattle.brooklet_model.proofs.TypedPlan.{op_fits}
use Rattle.brooklet_model.specs.Fit.{Fit}
use Rattle.brooklet_step.specs.Given.{held_at, held_by, IsHeldOf, StandsAfter}
use Rattle.brooklet_step.proofs.ReadLemmas.{places_at}
use Rattle.brooklet_step.proofs.StartLemmas.{first_hist, queues_many}
use Rattle.fire_tasks.specs.Fired.{ports_of, kinds_in, kinds_out, bad_at, IsBad}
use Rattle.fire_tasks.specs.Outlet.{Stored}
use Rattle.fire_tasks.specs.declared.task.Task.{Task}
use Rattle.fire_tasks.specs.Layout.{IsInput, IsStored}
use Rattle.fire_tasks.specs.Ports.{OutEnd, SendsRows, out_end, out_ends, received_of, received_in, sent_of, sent_in}
use Rattle.fire_tasks.specs.Adds.{AreHomes}
use Rattle.fire_open.specs.First.{whole_list, IsFirstTask, AreFirstTasks}
use Rattle.fire_open.specs.Fresh.{IsFresh, AreFresh}

-- the items of each queue: the outputs, the inputs, the others
abbrev pub first_lines : PlanForm → List (List item.Item) → List (List item.Item)
first_lines p inputs = replicate (length p.outputs) [] ++ (inputs ++ replicate (length p.queues) [])

-- an element of a mapped list comes from one of the list
pub map_got : {A B : Type 0} (f : A → B) (xs : List A) (n : ℕ) (y : B) → slice_get (map f xs) n ≡ Some y → (x : A) × (slice_get xs n ≡ Some x) × (f x ≡ y)
map_got f [] n y g = absurd (cc g)
map_got f (x ∷ xs) zero y g = (x, refl, same_Some (f x) y g)
map_got f (x ∷ xs) (suc n) y g = map_got f xs n y g

same_got_in : {A : Type 0} (n : ℕ) (x y : A) (j : ℕ) → slice_get (replicate n x) j ≡ Some y → x ≡ y
same_got_in zero x y j g = absurd (cc g)
same_got_in (suc n) x y zero g = same_Some x y g
same_got_in (suc n) x y (suc j) g = same_got_in n x y j g

-- THE TYPES AT THEIR PLACES

all_kinds : (p : PlanForm) → decl_kinds (all_decls p) ≡ queue_kinds p
all_kinds p =
    map-append (λ (d : Decl). d.kind) p.outputs (p.inputs ++ p.queues)
    ∙ ap (λ l. decl_kinds p.outputs ++ l) (map-append (λ (d : Decl). d.kind) p.inputs p.queues)

all_names : (p : PlanForm) → decl_names (all_decls p) ≡ queue_names p
all_names p =
    map-append (λ (d : Decl). d.name) p.outputs (p.inputs ++ p.queues)
    ∙ ap (λ l. decl_names p.outputs ++ l) (map-append (λ (d : Decl). d.name) p.inputs p.queues)

kinds_placed : (p : PlanForm) (qs : List Name) → map (kind_at (queue_kinds p)) (places (queue_names p) qs) ≡ map (kind_of (all_decls p)) qs
kinds_placed p [] = refl
kinds_placed p (q ∷ qs) = λ i. kind_place p q i ∷ kinds_placed p qs i

-- there is a type for each queue
pub kinds_many : (p : PlanForm) → length (queue_kinds p) ≡ length (queue_names p)
kinds_many p =
    ap length (sym (all_kinds p)) ∙ length-map (all_decls p) (λ (d : Decl). d.kind) ∙ sym (length-map (all_decls p) (λ (d : Decl). d.name))
    ∙ ap length (all_names p)

-- PLACES THAT ARE THERE

-- what an operator reads is a queue of the plan
pub reads_there : (p : PlanForm) → IsPlan p → (o : ℕ) (op : OpForm) → slice_get p.ops o ≡ Some op → (q : Name) → 0 < count q op.reads
    → 0 < count q (queue_names p)
reads_there p v o op g q lt = v.reads_declared q (let a = at_most (reads_it q) p.ops o op g in omega (arith, a, lt))

all_below : (names qs : List Name) (n : ℕ) → ((j : ℕ) (q : Name) → slice_get qs j ≡ Some q → place names q < n) → All (λ k. k < n) (places names qs)
all_below names [] n h = All-nil (λ k. k < n)
all_below names (q ∷ qs) n h = All-cons (λ k. k < n) (place names q) (places names qs) (h 0 q refl) (all_below names qs n (λ j r g. h (suc j) r g))

-- an operator reads at places that are there
pub places_there : (p : PlanForm) (o n : ℕ) (ps : List ℕ) → IsPlan p → o < length p.ops → ps ≡ list_at (read_places p) o → n ≡ length (queue_names p)
    → All (λ k. k < n) ps
places_there p o n ps v lt e en =
    let op = there_is p.ops o lt in
    subst (All (λ k. k < n)) (sym (e ∙ places_at (λ d. d.reads) (queue_names p) p.ops o op.0 op.1))
    (all_below (queue_names p) op.0.reads n
    (λ j q g. let b = place_below (queue_names p) q (reads_there p v o op.0 op.1 q (got_count op.0.reads j q g)) in omega (arith, b, en)))

-- NOTHING MOVED

none_in : (qs : List (List item.Item)) (ps : List ℕ) (port : ℕ) → list_at (received_in (map (whole_list qs) ps)) port ≡ []
none_in qs [] port = refl
none_in qs (n ∷ ps) zero = refl
none_in qs (n ∷ ps) (suc port) = none_in qs ps port

none_out : (n j : ℕ) → list_at (sent_in (replicate n (Stored []))) j ≡ []
none_out zero j = refl
none_out (suc n) zero = refl
none_out (suc n) (suc j) = none_out n j

none_sends : (n j : ℕ) (e : OutEnd) → slice_get (out_ends (replicate n (Stored []))) j ≡ Some e → SendsRows e → ⊥
none_sends zero j e at v = absurd (cc at)
none_sends (suc n) zero e at v = let l : 1 ≤ 0 = subst SendsRows (sym (same_Some (out_end (Stored [])) e at)) v in absurd (omega (arith, l))
none_sends (suc n) (suc j) e at v = none_sends n j e at v

none_pending : (n j : ℕ) → list_at (replicate {A = List item.Item} n []) j ≡ []
none_pending zero j = refl
none_pending (suc n) zero = refl
none_pending (suc n) (suc j) = none_pending n j

none_held : (types : List QueueType) (j : ℕ) → held_at types j [] [] ≡ []
none_held types j = by (slice_get types j)
  where
    by : (o : Option QueueType) → held_by o [] [] ≡ []
    by None = refl
    by (Some t) = held-nil t []

no_word : (w : Word) → ports_of w ≡ [] → w ≡ []
no_word [] e = refl
no_word (x ∷ w) e = absurd (cc e)

module _ (p : PlanForm) (v : IsPlan p) (inputs : List (List item.Item)) (fit : Fit p inputs) where
  first_fresh : (o : ℕ) (t : Task) → IsFirstTask p (first_lines p inputs) (queue_kinds p) o t → IsFresh p inputs o t
  first_fresh o t f =
      let x = there_is p.ops o f.there in
      let op = x.0 in
      let g = x.1 in
      let rp = places_at (λ d. d.reads) (queue_names p) p.ops o op g in
      let wp = places_at (λ d. d.writes) (queue_names p) p.ops o op g in
      let nr : length (list_at (read_places p) o) ≡ length op.reads = ap length rp ∙ length-map op.reads (place (queue_names p)) in
      let nw : length (list_at (write_places p) o) ≡ length op.writes = ap length wp ∙ length-map op.writes (place (queue_names p)) in
      let ins_are : (port : ℕ)
      → list_at (received_in t.ins) port ≡ [] =
      (λ port. ap (λ is. list_at (received_in is) port) f.ins ∙ none_in (first_lines p inputs) (list_at (read_places p) o) port) in
      let sent_are : (j : ℕ)
      → list_at (sent_in t.outs) j ≡ [] = (λ j. ap (λ os. list_at (sent_in os) j) f.outs ∙ none_out (length (list_at (write_places p) o)) j) in
      let pend_are : (j : ℕ)
      → list_at t.pending j ≡ [] =
      (λ j. ap (λ ls. list_at ls j) f.pending ∙ none_pending (length (list_at (write_places p) o)) j) in
      let both : (j : ℕ) → list_at (sent_in t.outs) j ++ list_at t.pending j ≡ [] =
      (λ j. ap (λ l. l ++ list_at t.pending j) (sent_are j) ∙ pend_are j) in
      record {
        task = record {
          op = op;
          op_is = ap (slice_get p.ops) f.number ∙ g;
          ins = ap length f.ins ∙ length-map (list_at (read_places p) o) (whole_list (first_lines p inputs)) ∙ nr;
          kinds = f.kinds_are ∙ ap (map (kind_at (queue_kinds p))) rp ∙ kinds_placed p op.reads;
          outs = ap length f.outs ∙ length-replicate (length (list_at (write_places p) o)) (Stored []) ∙ nw;
          pending = ap length f.pending ∙ length-replicate {A = List item.Item} (length (list_at (write_places p) o)) [] ∙ nw;
          rings = λ j e at values. absurd (none_sends (length (list_at (write_places p) o)) j e
              (sym (ap (λ os. slice_get (out_ends os) j) f.outs) ∙ at) values);
          blank = (f.first op g).1;
          homes = subst (λ i. AreHomes p i t.tables t.classes) (sym f.number) f.homes;
          word = [];
          count = f.count ∙ omega arith;
          fired = record {
            below = tt;
            received = λ port. ins_are port ∙ sym (ap (bad_at port) f.bad);
            bad = subst (IsBad (kinds_in p op)) (sym f.bad) tt;
            held = λ j. subst (All (IsHeldOf (kinds_out p op) j)) (sym (both j)) (All-nil (IsHeldOf (kinds_out p op) j));
            given = λ w a h.
                let z : w ≡ [] = no_word w h.ports in
                record {
                  outs = λ j lj. both j ∙ sym (ap (λ u. held_at (kinds_out p op) j [] ((ran op u).outs j)) z ∙ none_held (kinds_out p op) j);
                  adds_are = λ j lj. sym (ap (λ u. (ran op u).adds j) z);
                };
          };
          stands = record {
            fit = (f.first op g).0.again (kinds_in p op) (kinds_out p op) (map (var_kind p.tables p.vars) op.vars) (op_fits p v o op g);
            after = λ w a h. subst (StandsAfter op.kernel (kinds_in p op) (first_kept op.kernel) t.states) (sym (no_word w h.ports))
                ((f.first op g).0.after (kinds_in p op));
          };
        };
        number = f.number;
        ins = λ port i gi.
            let y = map_got (whole_list (first_lines p inputs)) (list_at (read_places p) o) port i (ap (λ is. slice_get is port) (sym f.ins) ∙ gi) in
            subst (λ z. received_of z ≡ []) y.2 refl;
        inputs_are = λ port op' q i g' r gi.
            let e : op ≡ op' = same_Some op op' (sym g ∙ g') in
            let there = slice_get_within op'.reads port q r in
            let here : slice_get (list_at (read_places p) o) port ≡ Some (place (queue_names p) q) =
            ap (λ l. slice_get l port) (rp ∙ ap (λ (d : OpForm). places (queue_names p) d.reads) e) ∙ got_map (place (queue_names p)) op'.reads port q r in
            let y = map_got (whole_list (first_lines p inputs)) (list_at (read_places p) o) port i (ap (λ is. slice_get is port) (sym f.ins) ∙ gi) in
            let n : y.0 ≡ place (queue_names p) q = same_Some y.0 (place (queue_names p) q) (sym y.1 ∙ here) in
            subst (IsInput (given_to p inputs q)) y.2
            (ap (list_at (first_lines p inputs)) n ∙ sym (first_hist p v inputs fit q (reads_there p v o op' g' q (got_count op'.reads port q r))));
        outs = λ j x' gf.
            let e : Stored [] ≡ x' = same_got_in (length (list_at (write_places p) o)) (Stored []) x' j (ap (λ os. slice_get os j) (sym f.outs) ∙ gf) in
            subst (λ z. IsStored z × (sent_of z ≡ [])) e (tt, refl);
      }

  -- first tasks with the lines of the inputs are fresh
  pub all_fresh : (ts : List Task) (n : ℕ) (qs : List (List item.Item)) (kinds : List QueueType) → AreFirstTasks p qs kinds n ts → n ≡ length p.ops
      → qs ≡ first_lines p inputs → kinds ≡ queue_kinds p → AreFresh p inputs ts
  all_fresh ts n qs kinds h en eq ek = record {
    many = h.many ∙ en;
    each = λ o t g. first_fresh o t (subst (λ ks. IsFirstTask p (first_lines p inputs) ks o t) ek (subst (λ ls. IsFirstTask p ls kinds o t) eq (h.each o t g)));
  }

  -- there is a line for each queue
  pub queues_long : (qs : List (List item.Item)) → qs ≡ first_lines p inputs → length qs ≡ length (queue_names p)
  queues_long qs e = ap length e ∙ queues_many p v inputs fit

-- before the first operator there is none
pub first_none : (p : PlanForm) (qs : List (List item.Item)) (kinds : List QueueType) (ts : List Task) → ts ≡ [] → AreFirstTasks p qs kinds 0 ts
first_none p qs kinds ts e = record { many = ap length e; each = λ o t g. absurd (let h = ap (λ l. slice_get l o) (sym e) ∙ g in cc h) }

got_snoc : (ts : List Task) (x t : Task) (o : ℕ) → slice_get (ts ++ x ∷ []) o ≡ Some t → (P : ℕ → Task → Type 0)
    → ((i : ℕ) (u : Task) → slice_get ts i ≡ Some u → P i u) → P (length ts) x → P o t
got_snoc [] x t zero g P h k = subst (P 0) (same_Some x t g) k
got_snoc [] x t (suc o) g P h k = absurd (cc g)
got_snoc (y ∷ ts) x t zero g P h k = h 0 t g
got_snoc (y ∷ ts) x t (suc o) g P h k = got_snoc ts x t o g (λ i u. P (suc i) u) (λ i u e. h (suc i) u e) k

-- one first task more
pub first_more : (p : PlanForm) (qs : List (List item.Item)) (kinds : List QueueType) (n : ℕ) (ts ts' : List Task) (t : Task)
    → AreFirstTasks p qs kinds n ts → IsFirstTask p qs kinds n t → ts' ≡ ts ++ t ∷ [] → AreFirstTasks p qs kinds (n + 1) ts'
first_more p qs kinds n ts ts' t h f e = subst (AreFirstTasks p qs kinds (n + 1)) (sym e) (record {
  many = (let l = length-append ts (t ∷ []) in let m = h.many in omega (arith, l, m));
  each = λ o u g. got_snoc ts t u o g (λ i x. IsFirstTask p qs kinds i x) h.each (subst (λ i. IsFirstTask p qs kinds i t) (sym h.many) f);
})
