-- Hoisting keeps a plan valid, and what it means.
use Rattle.std.proofs.Common.{◌≡◌, ℕ, ℤ, ◌+◌, ◌<◌, ◌≤◌, Bool, false, Some, List, [], ◌∷◌, ◌++◌, length, refl, sym, ap, ◌∙◌, subst, arith, ⊎_elim, map}
use Rattle.std.specs.Prelude.{count_by, All, flat_map, slice_get, IsTrue, filter, nat_lt, ◌&&◌, Ok}
use Rattle.std.proofs.lemmas.Bool.{and_parts}
use Rattle.std.proofs.lemmas.List.{length-map, nil_from_length}
use Rattle.std.proofs.lemmas.List.Elements.{All-nil, All-cons}
use Rattle.std.proofs.lemmas.Option.{slice_get_within}
use Rattle.river_base.proofs.PlaceLemmas.{if_true}
use Rattle.river_base.proofs.Lists.{got_map}
use Rattle.brooklet_model.proofs.Traces.{got_count, got_read}
use Rattle.river_base.specs.declared.item.Item as item
use Rattle.river_base.specs.Name.{name_eq}
use Rattle.river_base.specs.Places.{list_at}
use Rattle.river_base.specs.declared.kind.QueueType.{QueueType}
use Rattle.river_base.specs.declared.kind.QueueType.TheVariants.{Flat}
use Rattle.work_code.specs.Term.{Term}
use Rattle.river_kernels.specs.declared.limit.Limit.{Limit}
use Rattle.river_kernels.specs.declared.limit.Limit.TheVariants.{Inputs, Operators, Queues, Variables, Ports, Statements, Slots, Rates, Weights, Nesting, Latest, Best}
use Rattle.river_kernels.specs.Limits.{part_numbers, nesting}
use Rattle.river_kernels.specs.Formed.{is_width, is_term}
use Rattle.river_kernels.specs.Fits.{Fits, spliced, is_sized, is_bag, width_of}
use Rattle.river_kernels.specs.Kern.{select}
use Rattle.river_kernels.specs.declared.types.VarKind.{VarKind}
use Rattle.river_plan.specs.Forms.{Name, OpForm, PlanForm, decl_names, table_names, all_decls, queue_names}
use Rattle.river_plan.specs.Names.{count, one_if}
use Rattle.river_plan.specs.Uses.{Each, total, writes_it, reads_it, vars_it, named_it, ReadsBefore}
use Rattle.river_plan.specs.Kinds.{kind_of, var_kind, FitsAt, IsFit}
use Rattle.river_plan.specs.Limits.{most_of, numbers}
use Rattle.river_plan.specs.Faults.{HasWidth, type_width}
use Rattle.river_plan.specs.Valid.{IsPlan}
use Rattle.river_plan.proofs.NameLemmas.{cases_name, more_or_zero}
use Rattle.brooklet_model.specs.Fire.{first_kept}
use Rattle.brooklet_model.specs.Words.{feed_all}
use Rattle.brooklet_model.specs.Histories.{History, lists_of, given_on, written, histories, joined, adds, tables_of, inputs_of, Lists, Solves}
use Rattle.brooklet_model.proofs.Lists.{funext}
use Rattle.brooklet_model.proofs.Ports.{counts, length-spliced}
use Rattle.brooklet_model.proofs.Solutions.{stays, written_out, plan_solves}
use Rattle.plan_edits.specs.Lists.{retyped, first_with}
use Rattle.plan_edits.specs.Meaning.{SameMeaning}
use Rattle.plan_edits.proofs.MeaningSame.{AreTypedHistories}
use Rattle.rw_local.specs.Hoist.{first_width, raised, lowered, hoisted_plan, passes}
use Rattle.rw_local.proofs.Edit.{Edit, Cut, cut_of, edit_of, Stays, sum_old, sum_new, Parts, parts, together, reordered, edited, edited_adds}
use Rattle.plan_edits.proofs.Lookups.{map_agree}
use Rattle.rw_local.proofs.Types.{each_fits, kind_last, tables_length, flat_each, each_flat, map_each, each_map, all_one, total_length}
use Rattle.rw_local.proofs.FuseLaw.{names_of}
use Rattle.rw_local.proofs.FuseLemmas.{map-spliced, one_counted}
use Rattle.rw_local.proofs.HoistLemmas.{moved_count, spliced_same, lists_moved, reads_of, found_too, only_one}
use Rattle.rw_local.proofs.HoistLemmas.{retyped_names, retyped_other, retyped_here, kind_there, retyped_length, all_retyped}
use Rattle.rw_local.proofs.PassCases.{with_at, Passed, passed, passed_tables, passed_fits, passed_commutes, Commutes}
use Rattle.rw_local.proofs.Passing.{sift, all_select}

-- the step is accepted, with this selection and the operator that feeds it
pub record MayHoist (p : PlanForm) (l : Name) (u b : OpForm) (t : Term) (side : ℕ) (t' : Term) (src mid out : Name) : Type 0 where
  pub here : first_with (named_it l) p.ops ≡ Some u
  pub selects : u.kernel ≡ select t
  pub reads : slice_get u.reads 0 ≡ Some mid
  pub writes : slice_get u.writes 0 ≡ Some out
  pub below : first_with (writes_it mid) p.ops ≡ Some b
  pub only : length b.writes ≡ 1
  pub passes : passes (first_width (map (kind_of (all_decls p)) b.reads)) b.kernel t ≡ Ok (side, t')
  pub source : slice_get b.reads side ≡ Some src

-- a selection has one input, one output and no variable, and both queues have its type
pub record IsSelection (kind : Name → QueueType) (var : Name → VarKind) (u : OpForm) (mid out : Name) : Type 0 where
  pub reads : u.reads ≡ mid ∷ []
  pub writes : u.writes ≡ out ∷ []
  pub vars : u.vars ≡ []
  pub types : kind mid ≡ kind out

no_names : {A : Type 0} (f : Name → A) (vs : List Name) → map f vs ≡ [] → vs ≡ []
no_names f [] h = refl
no_names f (v ∷ vs) h = absurd (cc h)

two_heads : (a b t : QueueType) (ms bs : List QueueType) → a ∷ ms ≡ t ∷ [] → b ∷ bs ≡ t ∷ [] → a ≡ b
two_heads a b t ms bs h g = cc

selection : (kind : Name → QueueType) (var : Name → VarKind) (u : OpForm) (t : Term) (mid out : Name) → FitsAt kind var u → u.kernel ≡ select t
    → slice_get u.reads 0 ≡ Some mid → slice_get u.writes 0 ≡ Some out → IsSelection kind var u mid out
selection kind var u t mid out f k r w =
    let g : Fits (select t) (map kind u.reads) (map kind u.writes) (map var u.vars) =
    subst (λ x. Fits x (map kind u.reads) (map kind u.writes) (map var u.vars)) k f in
    let rs = only_one u.reads mid (sym (length-map u.reads kind) ∙ ap length g.1) r in
    let ws = only_one u.writes out (sym (length-map u.writes kind) ∙ ap length g.2) w in
    record {
      reads = rs;
      writes = ws;
      vars = no_names var u.vars g.3;
      types = two_heads (kind mid) (kind out) (Flat g.0) [] [] (sym (ap (map kind) rs) ∙ g.1) (sym (ap (map kind) ws) ∙ g.2);
    }

no_tables : (tables : List Name) (b : OpForm) → length (tables_of tables b) ≡ 0 → tables_of tables b ≡ []
no_tables tables b e = nil_from_length (tables_of tables b) e

one_list : (ws : List Name) (w : Name) (f : ℕ → List item.Item) (h : History) → ws ≡ w ∷ [] → Lists ws f h → h w ≡ f 0
one_list ws w f h e l = (subst (λ v. Lists v f h) e l).0

-- the width of a type that a selection has
sized : (t : Term) (s : QueueType) (us : List VarKind) → Fits (select t) (s ∷ []) (s ∷ []) us → IsTrue (is_width (type_width s))
sized t s us f =
    let e : s ≡ Flat f.0 = head (Flat f.0) f.1 in
    subst (λ n. IsTrue (is_width (type_width n))) (sym e) (and_parts (is_sized f.0) (is_bag f.0 && is_term (width_of f.0) 0 t) f.4).0
  where
    head : (u : QueueType) → s ∷ [] ≡ u ∷ [] → s ≡ u
    head u h = cc h

module _ (p : PlanForm) (l : Name) (u b : OpForm) (t : Term) (side : ℕ) (t' : Term) (src mid out : Name) (v : IsPlan p)
    (m : MayHoist p l u b t side t' src mid out) where
  abbrev p' : PlanForm
  p' = hoisted_plan p u b side t' src mid out

  abbrev u' : OpForm
  u' = raised u t' src mid

  abbrev b' : OpForm
  b' = lowered b side mid out

  abbrev kind : Name → QueueType
  kind = kind_of (all_decls p)

  abbrev kind' : Name → QueueType
  kind' = kind_of (all_decls p')

  abbrev var : Name → VarKind
  var = var_kind p.tables p.vars

  -- WHERE THE TWO STAND

  u_reads : 0 < count mid u.reads
  u_reads = got_count u.reads 0 mid m.reads

  c : Cut p.ops mid b u
  c = cut_of p mid b u v m.below (found_too (named_it l) (reads_it mid) p.ops u m.here u_reads (let o = v.read_once mid in omega (arith, o)))

  abbrev e : Edit p.ops p'.ops
  e = edit_of p.ops mid b u (u' ∷ b' ∷ []) c

  sums : (f : OpForm → ℕ) → total f p'.ops + (f b + f u) ≡ total f p.ops + (f u' + f b')
  sums f = let a = sum_old p.ops p'.ops e f in let d = sum_new p.ops p'.ops e f in omega (arith, a, d)

  old : (P : OpForm → Type 0) → Each P p.ops → Parts p.ops p'.ops e P
  old P h = parts p.ops p'.ops e P h

  b_fit : IsFit p b
  b_fit = (old (IsFit p) v.fits).one.0

  u_fit : IsFit p u
  u_fit = (old (IsFit p) v.fits).two.0

  is : IsSelection kind var u mid out
  is = selection kind var u t mid out u_fit m.selects m.reads m.writes

  only : b.writes ≡ mid ∷ []
  only = one_counted b.writes mid m.only c.w_writes

  src_in : 0 < count src b.reads
  src_in = got_count b.reads side src m.source

  -- SUMS

  writes_same : (x : Name) → total (writes_it x) p'.ops ≡ total (writes_it x) p.ops
  writes_same x = let a = sums (writes_it x) in let d = ap (count x) is.writes in let f = ap (count x) only in omega (arith, a, d, f)

  reads_same : (x : Name) → total (reads_it x) p'.ops ≡ total (reads_it x) p.ops
  reads_same x =
      let a = sums (reads_it x) in let d = ap (count x) is.reads in let f = moved_count b.reads (mid ∷ []) side src x m.source in omega (arith, a, d, f)

  vars_same : (x : Name) → total (vars_it x) p'.ops ≡ total (vars_it x) p.ops
  vars_same x = let a = sums (vars_it x) in omega (arith, a)

  names_same : (x : Name) → count x (queue_names p') ≡ count x (queue_names p)
  names_same x = ap (λ ds. count x (decl_names p.outputs ++ (decl_names p.inputs ++ ds))) (retyped_names mid (kind src) p.queues)

  -- mid is neither an input nor an output
  pub mid_inner : (count mid (decl_names p.outputs) ≡ 0) × (count mid (decl_names p.inputs) ≡ 0) × (0 < count mid (decl_names p.queues))
  mid_inner =
      let a = sum_old p.ops p'.ops e (writes_it mid) in
      let a' = sum_old p.ops p'.ops e (reads_it mid) in
      let w = c.w_writes in
      let r = c.r_reads in
      let d = v.writes_declared mid (omega (arith, a, w)) in
      let f = names_of (decl_names p.outputs) (decl_names p.inputs) (decl_names p.queues) mid in
      let o = v.written_once mid in
      let o' = v.read_once mid in
      (omega (arith, a', r, o'), omega (arith, a, w, o), omega (arith, a, a', w, r, d, f, o, o'))

  -- TYPES

  kind_mid : kind' mid ≡ kind src
  kind_mid =
      kind_there p.outputs p.inputs (retyped mid (kind src) p.queues) mid (kind src) mid_inner.0 mid_inner.1 (retyped_here mid (kind src) p.queues mid_inner.2)

  kind_other : (x : Name) → name_eq mid x ≡ false → kind x ≡ kind' x
  kind_other x n = sym (kind_last p.outputs p.inputs p.queues (retyped mid (kind src) p.queues) x (retyped_other mid (kind src) p.queues x n))

  -- what an operator uses that does not use mid
  not_mid : (f : Name → ℕ) → f mid ≡ 0 → (x : Name) → 0 < f x → name_eq mid x ≡ false
  not_mid f z x lt = ⊎_elim (λ d. absurd (let k = ap f d.0 in omega (arith, k, z, lt))) (λ d. d.1) (cases_name mid x)

  read_other : (x : Name) → 0 < count x b.reads → name_eq mid x ≡ false
  read_other x lt = not_mid (λ n. count n b.reads) c.w_reads x lt

  out_other : name_eq mid out ≡ false
  out_other = not_mid (λ n. count n u.writes) c.r_writes out (got_count u.writes 0 out m.writes)

  is_passed : Passed (first_width (map kind b.reads)) b.kernel t side t'
  is_passed = passed (first_width (map kind b.reads)) b.kernel t (side, t') m.passes

  b_types : Fits b.kernel (map kind b.reads) (kind mid ∷ []) (map var b.vars)
  b_types = subst (λ ws. Fits b.kernel (map kind b.reads) (map kind ws) (map var b.vars)) only b_fit

  u_types : Fits (select t) (kind mid ∷ []) (map kind u.writes) (map var u.vars)
  u_types =
      subst (λ k. Fits k (kind mid ∷ []) (map kind u.writes) (map var u.vars)) m.selects
      (subst (λ rs. Fits u.kernel (map kind rs) (map kind u.writes) (map var u.vars)) is.reads u_fit)

  raised_types : Fits (select t') (kind src ∷ []) (kind src ∷ []) []
  raised_types =
      passed_fits b.kernel (map kind b.reads) (kind mid) (map var b.vars) t (map kind u.writes) (map var u.vars) side t' (kind src) b_types u_types is_passed
      (got_map kind b.reads side src m.source)

  u_new : FitsAt kind' var u'
  u_new =
      subst (λ vs. Fits (select t') (kind' src ∷ []) (kind' mid ∷ []) vs) (sym (ap (map var) is.vars))
      (subst (λ k. Fits (select t') (kind' src ∷ []) (k ∷ []) []) (sym kind_mid)
      (subst (λ k. Fits (select t') (k ∷ []) (kind src ∷ []) []) (kind_other src (read_other src src_in)) raised_types))

  lowered_reads : map kind' b'.reads ≡ map kind b.reads
  lowered_reads =
      map-spliced kind' side b.reads (mid ∷ []) (slice_get_within b.reads side src m.source)
      ∙ ap (λ k. spliced side (map kind' b.reads) (k ∷ [])) kind_mid
      ∙ ap (λ ks. spliced side ks (kind src ∷ [])) (sym (map_agree kind kind' b.reads (λ x lt. kind_other x (read_other x lt))))
      ∙ spliced_same (map kind b.reads) side (kind src) (got_map kind b.reads side src m.source)

  b_new : FitsAt kind' var b'
  b_new =
      subst (λ rs. Fits b.kernel rs (kind' out ∷ []) (map var b.vars)) (sym lowered_reads)
      (subst (λ k. Fits b.kernel (map kind b.reads) (k ∷ []) (map var b.vars)) (is.types ∙ kind_other out out_other) b_types)

  -- mid is written and read by the two alone
  apart : (q : Name) → 0 < Stays p.ops p'.ops e (reads_it q) + Stays p.ops p'.ops e (writes_it q) → name_eq mid q ≡ false
  apart q lt = not_mid (λ y. Stays p.ops p'.ops e (reads_it y) + Stays p.ops p'.ops e (writes_it y))
      (let a1 = c.before_w in let a2 = c.before_r in let a3 = c.middle_w in let a4 = c.middle_r in let a5 = c.behind_w in let a6 =
      c.behind_r in omega (arith, a1, a2, a3, a4, a5, a6)) q lt

  fits : Each (IsFit p') p'.ops
  fits =
      let a = old (IsFit p) v.fits in
      together p.ops p'.ops e (IsFit p')
      (each_fits kind kind' var e.before (λ x lt. kind_other x (apart x (omega (arith, lt)))) a.front)
      (u_new, (b_new, tt))
      (each_fits kind kind' var e.middle (λ x lt. kind_other x (apart x (omega (arith, lt)))) a.mid)
      (each_fits kind kind' var e.behind (λ x lt. kind_other x (apart x (omega (arith, lt)))) a.back)

  -- LIMITS

  kernels_within : (limit : Limit) (most : ℕ) → All (λ n. n ≤ most) (flat_map (λ op. part_numbers limit op.kernel) p.ops)
      → All (λ n. n ≤ most) (flat_map (λ op. part_numbers limit op.kernel) p'.ops)
  kernels_within limit most h =
      let P : ℕ → Type 0 = λ n. n ≤ most in
      let f : OpForm → List ℕ = λ op. part_numbers limit op.kernel in
      let a = old (λ op. All P (f op)) (flat_each f P p.ops h) in
      each_flat f P p'.ops (together p.ops p'.ops e (λ op. All P (f op)) a.front (All-nil P, (a.one.0, tt)) a.mid a.back)

  one_port : 1 ≤ 64
  one_port = omega arith

  reads_length : length b'.reads ≡ length b.reads
  reads_length = let a = length-spliced side b.reads (mid ∷ []) (slice_get_within b.reads side src m.source) in omega (arith, a)

  ports_within : All (λ n. n ≤ 64) (numbers Ports p')
  ports_within =
      let P : ℕ → Type 0 = λ n. n ≤ 64 in
      let f : OpForm → List ℕ = λ op. length op.reads ∷ length op.writes ∷ [] in
      let a = old (λ op. All P (f op)) (flat_each f P p.ops (v.within Ports)) in
      let ones : All P (1 ∷ []) = all_one P 1 one_port in
      each_flat f P p'.ops (together p.ops p'.ops e (λ op. All P (f op)) a.front (
        All-cons P 1 (1 ∷ []) one_port ones,
        (All-cons P (length b'.reads) (1 ∷ []) (subst P (sym reads_length) (a.one.0 0 0 (omega arith))) ones, tt),
      )
      a.mid a.back)

  nested_within : All (λ n. n ≤ 32) (numbers Nesting p')
  nested_within =
      let P : ℕ → Type 0 = λ n. n ≤ 32 in
      let f : OpForm → ℕ = λ op. nesting op.kernel in
      let a = old (λ op. P (f op)) (map_each f P p.ops (v.within Nesting)) in
      let one : 1 ≤ 32 = omega arith in
      each_map f P p'.ops (together p.ops p'.ops e (λ op. P (f op)) a.front (one, (a.one.0, tt)) a.mid a.back)

  operators_within : All (λ n. n ≤ 256) (numbers Operators p')
  operators_within =
      let a = v.within Operators 0 0 (omega arith) in
      let s = sums (λ op. 1) in
      let k = total_length p.ops in
      let d = total_length p'.ops in
      let f : length p'.ops ≤ 256 = omega (arith, a, s, k, d) in
      all_one (λ n. n ≤ 256) (length p'.ops) f

  queues_within : All (λ n. n ≤ 512) (numbers Queues p')
  queues_within =
      subst (λ n. All (λ k. k ≤ 512) ((length p.outputs + (length p.inputs + n)) ∷ [])) (sym (retyped_length mid (kind src) p.queues)) (v.within Queues)

  within : (limit : Limit) → All (λ n. n ≤ most_of limit) (numbers limit p')
  within Inputs = v.within Inputs
  within Operators = operators_within
  within Queues = queues_within
  within Variables = v.within Variables
  within Ports = ports_within
  within Statements = kernels_within Statements 16384 (v.within Statements)
  within Slots = kernels_within Slots 256 (v.within Slots)
  within Rates = kernels_within Rates 65536 (v.within Rates)
  within Weights = kernels_within Weights 65536 (v.within Weights)
  within Nesting = nested_within
  within Latest = kernels_within Latest 1000000 (v.within Latest)
  within Best = v.within Best

  -- THE ORDER

  src_read : (q : Name) → 0 < count q (src ∷ []) → 0 < count q b.reads
  src_read q lt = ⊎_elim (λ d. subst (λ x. 0 < count x b.reads) d.0 src_in) (λ d. absurd (let k = ap one_if d.1 in omega (arith, k, lt))) (cases_name src q)

  order : ReadsBefore (λ x. count x (decl_names p.inputs)) p'.ops
  order =
      reordered p.ops p'.ops e (λ x. count x (decl_names p.inputs)) v.in_order
      (λ h. (
        (λ q lt. h.0 q (src_read q lt)),
        (
          (λ q lt. ⊎_elim
              (λ k. let d = h.0 q k in omega (arith, d))
              (λ k. let d = moved_count b.reads (mid ∷ []) side src q m.source in omega (arith, d, k, lt))
              (more_or_zero (count q b.reads))),
          tt,
        ),
      ))
      (λ q lr. let d = ap (count q) is.writes in let f = ap (count q) only in omega (arith, d, f))

  valid : IsPlan p'
  valid = record {
    queues_once = λ x. let a = v.queues_once x in let d = names_same x in omega (arith, a, d);
    variables_once = v.variables_once;
    labels_once = λ k. let a = v.labels_once k in let d = sums (named_it k) in omega (arith, a, d);
    reads_declared = λ x lt. let a = reads_same x in let d = names_same x in let f = v.reads_declared x (omega (arith, a, lt)) in omega (arith, d, f);
    writes_declared = λ x lt. let a = writes_same x in let d = names_same x in let f = v.writes_declared x (omega (arith, a, lt)) in omega (arith, d, f);
    vars_declared = λ x lt. let a = vars_same x in v.vars_declared x (omega (arith, a, lt));
    written_once = λ x. let a = v.written_once x in let d = writes_same x in omega (arith, a, d);
    read_once = λ x. let a = v.read_once x in let d = reads_same x in omega (arith, a, d);
    in_order = order;
    outputs_typed = v.outputs_typed;
    inputs_typed = v.inputs_typed;
    queues_typed = all_retyped HasWidth mid (kind src) p.queues (λ d. sized t' (kind src) [] raised_types) v.queues_typed;
    tables_typed = v.tables_typed;
    fits = fits;
    within = within;
    vars_apart =
        let a = old (λ op. (x : Name) → vars_it x op ≤ 1) v.vars_apart in
        together p.ops p'.ops e (λ op. (x : Name) → vars_it x op ≤ 1) a.front (a.two.0, (a.one.0, tt)) a.mid a.back;
    private_once = λ x lt. let a = v.private_once x lt in let d = vars_same x in omega (arith, a, d);
  }

  -- MEANING

  abbrev tables : List Name
  tables = table_names p.tables

  u_tables : tables_of tables u ≡ []
  u_tables = ap (filter (λ x. nat_lt 0 (count x tables))) is.vars

  b_tables : tables_of tables b ≡ []
  b_tables = no_tables tables b
      (tables_length p.tables p.vars b.vars (λ x lt. v.vars_declared x (let a = sum_old p.ops p'.ops e (vars_it x) in omega (arith, a, lt)))
      ∙ (counts b.kernel _ _ _ b_fit).tables ∙ passed_tables (first_width (map kind b.reads)) b.kernel t side t' is_passed)

  module _ (inputs : List (List item.Item)) (typed : AreTypedHistories p inputs) where
    abbrev g : History
    g = inputs_of (decl_names p.inputs) (list_at inputs)

    abbrev h : History
    h = histories p.ops g

    abbrev h' : History
    h' = written (mid ∷ []) (λ j. sift t' (h src)) h

    at_mid : h' mid ≡ sift t' (h src)
    at_mid = ⊎_elim (λ d. if_true (name_eq mid mid) _ _ d.1) (λ d. absurd (d.0 refl)) (cases_name mid mid)

    else_same : (x : Name) → name_eq mid x ≡ false → h' x ≡ h x
    else_same x z = written_out (mid ∷ []) (λ j. sift t' (h src)) h x (let k = ap one_if z in omega (arith, k))

    solved : Parts p.ops p'.ops e (Solves h)
    solved = old (Solves h) (plan_solves p v g)

    mid_was : h mid ≡ (given_on b h).outs 0
    mid_was = one_list b.writes mid (given_on b h).outs h only solved.one.0

    -- what a selection gives
    selected_of : (op : OpForm) (s : Term) (r : Name) (f : History) → op.kernel ≡ select s → op.reads ≡ r ∷ [] → (given_on op f).outs 0 ≡ sift s (f r)
    selected_of op s r f k rs = ap (λ x. (given_on x f).outs 0) (same_op k rs) ∙ all_select s (lists_of f (r ∷ []))
      where
        same_op : op.kernel ≡ select s → op.reads ≡ r ∷ [] → op ≡ record op { kernel = select s; reads = r ∷ [] }
        same_op a d = λ i. record op { kernel = a i; reads = d i }

    out_was : h out ≡ sift t (h mid)
    out_was = one_list u.writes out (given_on u h).outs h is.writes solved.two.0 ∙ selected_of u t mid h m.selects is.reads

    commutes : Commutes b.kernel t side t' (lists_of h b.reads)
    commutes =
        passed_commutes b.kernel (map kind b.reads) (map kind b.writes) (map var b.vars) t side t' b_fit is_passed (lists_of h b.reads)
        (reads_of kind h b.reads typed)

    lowered_lists : with_at side (sift t' (lists_of h b.reads side)) (lists_of h b.reads) ≡ lists_of h' b'.reads
    lowered_lists = funext _ _ (λ j.
        ap (λ xs. with_at side xs (lists_of h b.reads) j) (ap (sift t') (got_read h b.reads side src m.source) ∙ sym at_mid)
        ∙ sym (lists_moved h h' b.reads side mid (slice_get_within b.reads side src m.source) (λ x lt. else_same x (read_other x lt)) j))

    put_solves : Each (Solves h') (u' ∷ b' ∷ [])
    put_solves = (
      (at_mid ∙ ap (sift t') (sym (else_same src (read_other src src_in))) ∙ sym (selected_of u' t' src h' refl refl), tt),
      (
        (
          else_same out out_other ∙ out_was ∙ ap (sift t) mid_was ∙ commutes ∙ ap (λ ls. (feed_all b.kernel ls (first_kept b.kernel)).outs 0) lowered_lists,
          tt,
        ),
        tt,
      ),
    )

    same_h : (x : Name) → 0 < Stays p.ops p'.ops e (reads_it x) + Stays p.ops p'.ops e (writes_it x) → h x ≡ h' x
    same_h x lt = sym (else_same x (apart x lt))

    -- what is not written is not mid
    unwritten : (q : Name) → total (writes_it q) p'.ops ≡ 0 → name_eq mid q ≡ false
    unwritten q z = ⊎_elim
        (λ d. absurd (
        let a = ap (λ y. total (writes_it y) p'.ops) d.0 in
        let n = sum_old p.ops p'.ops e (writes_it mid) in
        let w = c.w_writes in
        let s = writes_same mid in
        omega (arith, a, n, w, s, z)))
        (λ d. d.1)
        (cases_name mid q)

    in_put : (x : Name) → total (writes_it x) p'.ops ≡ 0 → h' x ≡ g x
    in_put x z = else_same x (unwritten x z) ∙ stays p.ops g x (let s = writes_same x in omega (arith, s, z))

    is_hist : (q : Name) → h' q ≡ histories p'.ops g q
    is_hist q = edited p p' v valid e g h' put_solves same_h in_put q

    same_adds : (x : Name) (test : List ℤ → Bool) → count_by test (adds tables p'.ops (histories p'.ops g) x) ≡ count_by test (adds tables p.ops h x)
    same_adds x test =
        let a = edited_adds p p' v valid e g h' put_solves same_h in_put tables x test in
        let d1 = ap (λ ts. count_by test (joined ts (given_on b h).adds x)) b_tables in
        let d2 = ap (λ ts. count_by test (joined ts (given_on u h).adds x)) u_tables in
        let d3 = ap (λ ts. count_by test (joined ts (given_on b' h').adds x)) b_tables in
        let d4 = ap (λ ts. count_by test (joined ts (given_on u' h').adds x)) u_tables in
        omega (arith, a, d1, d2, d3, d4)

    same : SameMeaning p p' inputs
    same = record {
      hist = λ x lt. sym (is_hist x) ∙ else_same x (not_mid (λ y. count y (decl_names p.outputs)) mid_inner.0 x lt);
      adds = same_adds;
    }

-- hoisting keeps a plan valid, and what it means
pub hoist_keeps : (p : PlanForm) (l : Name) (u b : OpForm) (t : Term) (side : ℕ) (t' : Term) (src mid out : Name) → IsPlan p
    → MayHoist p l u b t side t' src mid out
    → IsPlan (hoisted_plan p u b side t' src mid out) ×
    ((inputs : List (List item.Item)) → AreTypedHistories p inputs → SameMeaning p (hoisted_plan p u b side t' src mid out) inputs)
hoist_keeps p l u b t side t' src mid out v m = (valid p l u b t side t' src mid out v m, same p l u b t side t' src mid out v m)
