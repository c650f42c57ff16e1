-- In a valid plan, on inputs of their types, all items in all histories are of
-- their queues' types, and each step of the machine keeps this.
use Rattle.std.proofs.Common.{◌≡◌, ℕ, zero, suc, ◌+◌, ◌<◌, Option, Some, List, [], ◌∷◌, ◌++◌, map, refl, sym, ap, ◌∙◌, subst, arith, ⊎_elim}
use Rattle.std.specs.Prelude.{if◌then◌else◌, All, slice_get, unwrap_or}
use Rattle.std.proofs.lemmas.Bool.{cases_eq}
use Rattle.std.proofs.lemmas.List.Elements.{All-head, All-tail, All-nil, All-append}
use Rattle.river_base.proofs.PlaceLemmas.{if_true, if_false}
use Rattle.river_base.proofs.Lists.{got_map, got_all}
use Rattle.river_base.specs.declared.item.Item as item
use Rattle.river_base.specs.declared.kind.QueueType.{QueueType}
use Rattle.river_base.specs.Held.{HasType}
use Rattle.river_base.specs.Name.{name_eq}
use Rattle.river_base.specs.Places.{list_at}
use Rattle.river_kernels.specs.declared.types.VarKind.{VarKind}
use Rattle.river_kernels.specs.Fits.{Fits, rows}
use Rattle.river_kernels.specs.Kern.{Kern}
use Rattle.river_plan.specs.declared.plan.Decl.{Decl}
use Rattle.river_plan.specs.Forms.{Name, OpForm, PlanForm, decl_names, table_names, all_decls}
use Rattle.river_plan.specs.Kinds.{IsFit, kind_in, kind_of, var_kind}
use Rattle.river_plan.specs.Names.{one_if, count}
use Rattle.river_plan.specs.Uses.{Each, total, writes_it, and_writes, ReadsBefore}
use Rattle.river_plan.specs.Valid.{IsPlan}
use Rattle.river_plan.proofs.NameLemmas.{cases_name, count-append, more_or_zero}
use Rattle.brooklet_model.specs.Firings.{Kept}
use Rattle.brooklet_model.specs.Fire.{fire, ins, first_kept}
use Rattle.brooklet_model.specs.Histories.{History, lists_of, given_on, hist, joined, inputs_of, Lists, Solves}
use Rattle.brooklet_model.specs.Laws.{HistoriesAreTyped}
use Rattle.brooklet_model.specs.Machine.{Machine, at_key, fired, Step, first_kept_of, start}
use Rattle.brooklet_model.specs.Shapes.{HasShape}
use Rattle.brooklet_model.specs.Typed.{IsTyped, IsOf, AreOf, IsWordOf, AreInputs, Holds}
use Rattle.brooklet_model.specs.Words.{Word, run, word_of, port_by_port}
use Rattle.brooklet_model.proofs.Ports.{shaped}
use Rattle.brooklet_model.proofs.Shapes.{fire_shape, first_shape}
use Rattle.brooklet_model.proofs.Solutions.{count_here, written_out, stays, plan_solves}
use Rattle.brooklet_model.proofs.Traces.{each_at, each_of, at_key_same, at_key_other, at_same}
use Rattle.brooklet_model.proofs.Typing.{fire_typed, first_holds}

-- a state of the machine in which all items are of their queues' types, and each operator has states for its variables
-- that keep items of the types of its inputs
pub record IsTypedState (p : PlanForm) (s : Machine) : Type 0 where
  pub queues : (q : Name) → All (HasType (kind_of (all_decls p) q)) (s.hist q)
  pub shapes : (o : ℕ) (op : OpForm) → slice_get p.ops o ≡ Some op → HasShape op.kernel (s.kept o)
  pub holds : (o : ℕ) (op : OpForm) → slice_get p.ops o ≡ Some op → Holds op.kernel (map (kind_of (all_decls p)) op.reads) (s.kept o)

-- what holds of the inputs, and passes from what an operator reads to what it writes, holds of all that is written
pub by_order : (Q : Name → Type 0) (ops : List OpForm) (known : Name → ℕ) → ReadsBefore known ops → ((q : Name) → 0 < known q → Q q)
    → Each (λ op. ((q : Name) → 0 < count q op.reads → Q q) → (q : Name) → 0 < count q op.writes → Q q) ops
    → (q : Name) → 0 < known q + total (writes_it q) ops → Q q
by_order Q [] known r k e q lt = k q (omega (arith, lt))
by_order Q (op ∷ ops) known r k e q lt =
    by_order Q ops (and_writes known op) r.1
    (λ w lw. ⊎_elim (λ h. k w h) (λ z. e.0 (λ x lx. k x (r.0 x lx)) w (omega (arith, lw, z))) (more_or_zero (known w)))
    e.1 q (omega (arith, lt))

module _ (p : PlanForm) (v : IsPlan p) where
  -- each operator fits its queues' types
  pub op_fits : (o : ℕ) (op : OpForm) → slice_get p.ops o ≡ Some op → IsFit p op
  op_fits o op g = each_at (IsFit p) p.ops o op v.fits g

-- two words of typed items, one after the other
pub at_append : (is : List QueueType) (u w : Word) → IsWordOf is u → IsWordOf is w → IsWordOf is (u ++ w)
at_append is [] w a b = b
at_append is (e ∷ es) w a b = (a.0, at_append is es w a.1 b)

-- typed items of one port are a typed word
pub at_word : (is : List QueueType) (p : ℕ) (xs : List item.Item) → All (IsOf is p) xs → IsWordOf is (word_of p xs)
at_word is p [] h = tt
at_word is p (x ∷ xs) h = (All-head (IsOf is p) x xs h, at_word is p xs (All-tail (IsOf is p) x xs h))

at_order : (is : List QueueType) (n q : ℕ) (h : ℕ → List item.Item) → AreOf is h → IsWordOf is (port_by_port n q h)
at_order is zero q h t = tt
at_order is (suc n) q h t = at_append is (word_of q (h q)) (port_by_port n (suc q) h) (at_word is q (h q) (t q)) (at_order is n (suc q) h t)

-- firings of a kernel, one after another
pub run_typed : (k : Kern) (is os : List QueueType) (vs : List VarKind) (w : Word) (ss : List Kept) → Fits k is os vs → HasShape k ss → Holds k is ss
    → IsWordOf is w → AreOf os (run (fire k) w ss).outs
run_typed k is os vs [] ss f h t a = λ j. All-nil (IsOf os j)
run_typed k is os vs (e ∷ es) ss f h t a =
    let one = fire_typed k is os vs e.0 e.1 ss f h t a.0 in
    let s = fire k e.0 e.1 ss in
    let rest = run_typed k is os vs es s.states f (fire_shape k e.0 e.1 ss (shaped k is os vs f) h) one.1 a.1 in
    λ j. All-append (IsOf os j) (s.outs j) ((run (fire k) es s.states).outs j) (one.0 j) (rest j)

-- QUEUES BY NAME

-- in each queue this says all items
abbrev EachQueue : (Name → QueueType) → History → Type 0
EachQueue kind h = (q : Name) → All (HasType (kind q)) (h q)

reads_of : (kind : Name → QueueType) (h : History) (rs : List Name) → ((q : Name) → 0 < count q rs → All (HasType (kind q)) (h q))
    → AreOf (map kind rs) (lists_of h rs)
reads_of kind h [] e p = All-nil (IsOf [] p)
reads_of kind h (r ∷ rs) e zero = e r (count_here r rs)
reads_of kind h (r ∷ rs) e (suc p) = reads_of kind h rs (λ q lt. e q (omega (arith, lt))) p

writes_of : (kind : Name → QueueType) (ws : List Name) (f : ℕ → List item.Item) (h : History) → AreOf (map kind ws) f → Lists ws f h → (q : Name)
    → 0 < count q ws → All (HasType (kind q)) (h q)
writes_of kind [] f h t l q lt = absurd (omega (arith, lt))
writes_of kind (w ∷ ws) f h t l q lt = ⊎_elim
    (λ c. subst (λ n. All (HasType (kind n)) (h n)) c.0 (subst (All (HasType (kind w))) (sym l.0) (t 0)))
    (λ c. writes_of kind ws (λ j. f (suc j)) h (λ j. t (suc j)) l.1 q (let e = ap one_if c.1 in omega (arith, lt, e)))
    (cases_name w q)

-- whatever is said of the items at ports by the types of their queues is said of what the ports give to a queue
pub joined_all : (B : Option QueueType → item.Item → Type 0) (kind : Name → QueueType) (ws : List Name) (f : ℕ → List item.Item)
    → ((p : ℕ) → All (B (slice_get (map kind ws) p)) (f p)) → (q : Name) → All (B (Some (kind q))) (joined ws f q)
joined_all B kind [] f t q = All-nil (B (Some (kind q)))
joined_all B kind (w ∷ ws) f t q = All-append (B (Some (kind q))) (if name_eq w q then f 0 else []) (joined ws (λ j. f (suc j)) q) (⊎_elim
    (λ c. subst (All (B (Some (kind q)))) (sym (if_true (name_eq w q) (f 0) [] c.1)) (subst (λ n. All (B (Some (kind n))) (f 0)) c.0 (t 0)))
    (λ c. subst (All (B (Some (kind q)))) (sym (if_false (name_eq w q) (f 0) [] c.1)) (All-nil (B (Some (kind q)))))
    (cases_name w q)) (joined_all B kind ws (λ j. f (suc j)) (λ j. t (suc j)) q)

-- INPUTS

-- the type of what the first lists declare is told there
pub kind_front : (xs ys : List Decl) (q : Name) → 0 < count q (decl_names xs) → kind_in (xs ++ ys) q ≡ kind_in xs q
kind_front [] ys q lt = absurd (omega (arith, lt))
kind_front (x ∷ xs) ys q lt = ⊎_elim
    (λ c. if_true (name_eq x.name q) (Some x.kind) (kind_in (xs ++ ys) q) c.1 ∙ sym (if_true (name_eq x.name q) (Some x.kind) (kind_in xs q) c.1))
    (λ c. if_false (name_eq x.name q) (Some x.kind) (kind_in (xs ++ ys) q) c.1 ∙ kind_front xs ys q (let e = ap one_if c.1 in omega (arith, e, lt))
    ∙ sym (if_false (name_eq x.name q) (Some x.kind) (kind_in xs q) c.1))
    (cases_name x.name q)

-- and of what they do not declare behind them
pub kind_back : (xs ys : List Decl) (q : Name) → count q (decl_names xs) ≡ 0 → kind_in (xs ++ ys) q ≡ kind_in ys q
kind_back [] ys q z = refl
kind_back (x ∷ xs) ys q z = ⊎_elim
    (λ c. absurd (let e = ap one_if c.1 in omega (arith, e, z)))
    (λ c. if_false (name_eq x.name q) (Some x.kind) (kind_in (xs ++ ys) q) c.1 ∙ kind_back xs ys q (omega (arith, z)))
    (cases_name x.name q)

inputs_found : (ds : List Decl) (ls : List (List item.Item)) → AreInputs ds ls → (q : Name) → 0 < count q (decl_names ds)
    → All (HasType (kind_of ds q)) (inputs_of (decl_names ds) (list_at ls) q)
inputs_found [] ls a q lt = absurd (omega (arith, lt))
inputs_found (d ∷ ds) [] a q lt = absurd a
inputs_found (d ∷ ds) (xs ∷ ls) a q lt = ⊎_elim
    (λ c. subst (λ o. All (HasType (unwrap_or o (rows 0))) (inputs_of (decl_names (d ∷ ds)) (list_at (xs ∷ ls)) q))
    (sym (if_true (name_eq d.name q) (Some d.kind) (kind_in ds q) c.1))
    (subst (All (HasType d.kind)) (sym (if_true (name_eq d.name q) xs (inputs_of (decl_names ds) (list_at ls) q) c.1)) a.0))
    (λ c. subst (λ o. All (HasType (unwrap_or o (rows 0))) (inputs_of (decl_names (d ∷ ds)) (list_at (xs ∷ ls)) q))
    (sym (if_false (name_eq d.name q) (Some d.kind) (kind_in ds q) c.1))
    (subst (All (HasType (kind_of ds q))) (sym (if_false (name_eq d.name q) xs (inputs_of (decl_names ds) (list_at ls) q) c.1))
    (inputs_found ds ls a.1 q (let e = ap one_if c.1 in omega (arith, e, lt)))))
    (cases_name d.name q)

-- the histories of the inputs are of their types
pub inputs_typed : (p : PlanForm) → IsPlan p → (inputs : List (List item.Item)) → AreInputs p.inputs inputs
    → EachQueue (kind_of (all_decls p)) (inputs_of (decl_names p.inputs) (list_at inputs))
inputs_typed p v inputs a q = ⊎_elim
    (λ lt.
    let o = v.queues_once q in
    let s = count-append q (decl_names p.outputs) (decl_names p.inputs ++ decl_names p.queues) in
    let t = count-append q (decl_names p.inputs) (decl_names p.queues) in
    let is = kind_back p.outputs (p.inputs ++ p.queues) q (omega (arith, o, s, t, lt)) ∙ kind_front p.inputs p.queues q lt in
    subst (λ k. All (HasType (unwrap_or k (rows 0))) (inputs_of (decl_names p.inputs) (list_at inputs) q)) (sym is) (inputs_found p.inputs inputs a q lt))
    (λ z. subst (All (HasType (kind_of (all_decls p) q))) (sym (written_out (decl_names p.inputs) (list_at inputs) (λ n. []) q z))
    (All-nil (HasType (kind_of (all_decls p) q))))
    (more_or_zero (count q (decl_names p.inputs)))

-- HISTORIES

module _ (p : PlanForm) (v : IsPlan p) where
  abbrev kinds : Name → QueueType
  kinds = kind_of (all_decls p)

  -- what an operator gives on inputs of their types
  pub given_typed : (o : ℕ) (op : OpForm) (h : History) → slice_get p.ops o ≡ Some op → ((q : Name) → 0 < count q op.reads → All (HasType (kinds q)) (h q))
      → AreOf (map kinds op.writes) (given_on op h).outs
  given_typed o op h g e =
      let f = op_fits p v o op g in
      let s = shaped op.kernel _ _ _ f in
      run_typed op.kernel (map kinds op.reads) (map kinds op.writes) (map (var_kind p.tables p.vars) op.vars)
      (port_by_port (ins op.kernel) 0 (lists_of h op.reads)) (first_kept op.kernel)
      f (first_shape op.kernel s) (first_holds op.kernel (map kinds op.reads) s)
      (at_order (map kinds op.reads) (ins op.kernel) 0 (lists_of h op.reads) (reads_of kinds h op.reads e))

  pub histories_typed : (inputs : List (List item.Item)) → AreInputs p.inputs inputs → EachQueue kinds (hist p inputs)
  histories_typed inputs a q =
      let g = inputs_of (decl_names p.inputs) (list_at inputs) in
      let old : (x : Name) → total (writes_it x) p.ops ≡ 0
      → All (HasType (kinds x)) (hist p inputs x) = λ x z. subst (All (HasType (kinds x))) (sym (stays p.ops g x z)) (inputs_typed p v inputs a x) in
      ⊎_elim
      (λ lt.
      by_order (λ x. All (HasType (kinds x)) (hist p inputs x)) p.ops (λ x. count x (decl_names p.inputs)) v.in_order
      (λ x lx. old x (let w = v.written_once x in omega (arith, w, lx)))
      (each_of _ p.ops (λ o op s e x lx. writes_of kinds op.writes (given_on op (hist p inputs)).outs (hist p inputs) (given_typed o op (hist p inputs) s e)
      (each_at (Solves (hist p inputs)) p.ops o op (plan_solves p v g) s) x lx))
      q (omega (arith, lt)))
      (λ z. old q z)
      (more_or_zero (total (writes_it q) p.ops))

  -- THE MACHINE

  pub start_typed : (inputs : List (List item.Item)) → AreInputs p.inputs inputs → IsTypedState p (start p inputs)
  start_typed inputs a = record {
    queues = inputs_typed p v inputs a;
    shapes = λ o op g.
        let s = shaped op.kernel _ _ _ (op_fits p v o op g) in
        subst (HasShape op.kernel) (sym (ap first_kept_of g)) (first_shape op.kernel s);
    holds = λ o op g.
        let s = shaped op.kernel _ _ _ (op_fits p v o op g) in
        subst (Holds op.kernel (map kinds op.reads)) (sym (ap first_kept_of g)) (first_holds op.kernel (map kinds op.reads) s);
  }

  pub fired_typed : (o port : ℕ) (op : OpForm) (q : Name) (x : item.Item) (s : Machine) → IsTypedState p s → slice_get p.ops o ≡ Some op
      → slice_get op.reads port ≡ Some q → slice_get (s.hist q) (s.taken q) ≡ Some x
      → IsTypedState p (fired (table_names p.tables) o op port q x s)
  fired_typed o port op q x s t g qi xi =
      let f = op_fits p v o op g in
      let i = subst (λ t. IsTyped t x) (sym (got_map kinds op.reads port q qi)) (got_all (HasType (kinds q)) (s.hist q) (s.taken q) x (t.queues q) xi) in
      let one = fire_typed op.kernel _ _ _ port x (s.kept o) f (t.shapes o op g) (t.holds o op g) i in
      let r = fire op.kernel port x (s.kept o) in
      let shape = fire_shape op.kernel port x (s.kept o) (shaped op.kernel _ _ _ f) (t.shapes o op g) in
      record {
        queues = λ n. All-append (HasType (kinds n)) (s.hist n) (joined op.writes r.outs n) (t.queues n) (joined_all IsTyped kinds op.writes r.outs one.0 n);
        shapes = λ o' op' g'. ⊎_elim
            (λ e. at_same p.ops (λ j k. HasShape k.kernel (at_key o r.states s.kept j)) o o' op op' g g' e
            (subst (HasShape op.kernel) (sym (at_key_same o r.states s.kept)) shape))
            (λ n. subst (HasShape op'.kernel) (sym (at_key_other o r.states s.kept o' n)) (t.shapes o' op' g'))
            (cases_eq o o');
        holds = λ o' op' g'. ⊎_elim
            (λ e. at_same p.ops (λ j k. Holds k.kernel (map kinds k.reads) (at_key o r.states s.kept j)) o o' op op' g g' e
            (subst (Holds op.kernel (map kinds op.reads)) (sym (at_key_same o r.states s.kept)) one.1))
            (λ n. subst (Holds op'.kernel (map kinds op'.reads)) (sym (at_key_other o r.states s.kept o' n)) (t.holds o' op' g'))
            (cases_eq o o');
      }

  -- each step keeps it
  pub step_typed : (s s' : Machine) (o port : ℕ) → IsTypedState p s → Step p s o port s' → IsTypedState p s'
  step_typed s s' o port t st = subst (IsTypedState p) (sym st.after) (fired_typed o port st.op st.queue st.item s t st.op_is st.queue_is st.item_is)

-- all items of all histories are of their queues' types
pub typed_law : HistoriesAreTyped
typed_law p inputs v a q = histories_typed p v inputs a q
