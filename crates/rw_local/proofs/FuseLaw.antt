-- Fusing keeps a plan valid, and what it means.
use Rattle.std.proofs.Common.{◌≡◌, ℕ, ℤ, ◌+◌, ◌<◌, ◌≤◌, Bool, false, List, [], ◌∷◌, ◌++◌, length, sym, ap, ◌∙◌, subst, arith, ⊎_elim, map, nat_lt}
use Rattle.std.specs.Prelude.{count_by, All, flat_map, Some}
use Rattle.std.proofs.lemmas.List.{map-append, length-map}
use Rattle.std.proofs.lemmas.List.Elements.{All-append, filter-append}
use Rattle.river_base.proofs.PlaceLemmas.{if_true}
use Rattle.river_base.proofs.Lists.{count_by-append}
use Rattle.river_base.specs.declared.item.Item as item
use Rattle.river_base.specs.Name.{name_eq}
use Rattle.river_base.specs.Places.{list_at}
use Rattle.river_base.specs.declared.kind.QueueType.{QueueType}
use Rattle.river_kernels.specs.declared.limit.Limit.{Limit}
use Rattle.river_kernels.specs.declared.limit.Limit.TheVariants.{Inputs, Operators, Queues, Variables, Ports, Statements, Slots, Rates, Weights, Nesting, Latest, Best}
use Rattle.river_kernels.specs.Limits.{part_numbers, nesting}
use Rattle.river_kernels.specs.Fits.{Fits}
use Rattle.river_kernels.specs.declared.types.VarKind.{VarKind}
use Rattle.river_plan.specs.Forms.{Name, OpForm, PlanForm, decl_names, table_names, all_decls, queue_names}
use Rattle.river_plan.specs.Names.{count, one_if}
use Rattle.river_plan.specs.Uses.{Each, total, writes_it, reads_it, vars_it, named_it, ReadsBefore}
use Rattle.river_plan.specs.Kinds.{kind_of, var_kind, FitsAt, IsFit}
use Rattle.river_plan.specs.Limits.{most_of, numbers}
use Rattle.river_plan.specs.Faults.{HasWidth}
use Rattle.river_plan.specs.Valid.{IsPlan}
use Rattle.river_plan.proofs.NameLemmas.{cases_name, count-append, more_or_zero}
use Rattle.brooklet_model.specs.Firings.{Same, splice, beside, fused_of}
use Rattle.brooklet_model.specs.Fire.{outs, tabs}
use Rattle.brooklet_model.specs.Histories.{History, given_on, written, histories, joined, adds, tables_of, inputs_of, Lists, Solves}
use Rattle.brooklet_model.proofs.Ports.{Counts, counts, shaped}
use Rattle.brooklet_model.proofs.Solutions.{stays, written_out, plan_solves}
use Rattle.brooklet_model.proofs.Traces.{adds_it, joined_cong, lists_cong}
use Rattle.plan_edits.specs.Lists.{place_of_name, undeclared, first_with}
use Rattle.plan_edits.specs.Meaning.{SameMeaning}
use Rattle.rw_local.specs.Fuse.{fused_op, fused_plan}
use Rattle.rw_local.proofs.Edit.{Edit, Cut, cut_of, edit_of, Stays, sum_old, sum_new, Parts, parts, together, reordered, edited, edited_adds}
use Rattle.plan_edits.proofs.Surgery.{all_agree, adds_it_same}
use Rattle.rw_local.proofs.Types.{each_fits, undeclared_count, undeclared_kind, kind_last, all_undeclared, undeclared_length, tables_length, flat_each}
use Rattle.rw_local.proofs.Types.{each_flat, map_each, each_map, all_one, all_here, total_length}
use Rattle.rw_local.proofs.FuseLemmas.{map-spliced, lists_spliced, place_below, place_of, list_at_place, count_spliced, joined_beside, fused_given, one_counted}

-- the step is accepted, with this writer and this reader
pub record MayFuse (p : PlanForm) (q : Name) (w r : OpForm) : Type 0 where
  pub writer : first_with (writes_it q) p.ops ≡ Some w
  pub reader : first_with (reads_it q) p.ops ≡ Some r
  pub only_input : length r.reads ≡ 1
  pub nested : nesting (fused_op q w r).kernel ≤ 32
  pub ports : length (fused_op q w r).writes ≤ 64
  pub apart : (v : Name) → 0 < count v w.vars → count v r.vars ≡ 0

-- how often a name is declared in three lists
pub names_of : (os is qs : List Name) (x : Name) → count x (os ++ (is ++ qs)) ≡ count x os + (count x is + count x qs)
names_of os is qs x = let a = count-append x os (is ++ qs) in let b = count-append x is qs in omega (arith, a, b)

module _ (p : PlanForm) (q : Name) (w r : OpForm) (v : IsPlan p) (m : MayFuse p q w r) where
  abbrev new : OpForm
  new = fused_op q w r

  abbrev p' : PlanForm
  p' = fused_plan p q w r

  abbrev kind : Name → QueueType
  kind = kind_of (all_decls p)

  abbrev kind' : Name → QueueType
  kind' = kind_of (all_decls p')

  abbrev var : Name → VarKind
  var = var_kind p.tables p.vars

  c : Cut p.ops q w r
  c = cut_of p q w r v m.writer m.reader

  abbrev e : Edit p.ops p'.ops
  e = edit_of p.ops q w r (new ∷ []) c

  -- sums over the old and the new operators
  sums : (f : OpForm → ℕ) → total f p.ops + f new ≡ total f p'.ops + f w + f r
  sums f = let a = sum_old p.ops p'.ops e f in let b = sum_new p.ops p'.ops e f in omega (arith, a, b)

  -- q is written and read once, so it is no input and no output
  q_written : 0 < total (writes_it q) p.ops
  q_written = let a = sum_old p.ops p'.ops e (writes_it q) in let b = c.w_writes in omega (arith, a, b)

  q_read : 0 < total (reads_it q) p.ops
  q_read = let a = sum_old p.ops p'.ops e (reads_it q) in let b = c.r_reads in omega (arith, a, b)

  named : 0 < count q (decl_names p.queues)
  named =
      let a = v.writes_declared q q_written in
      let b = v.written_once q in
      let d = v.read_once q in
      let f = names_of (decl_names p.outputs) (decl_names p.inputs) (decl_names p.queues) q in
      let g = q_written in
      let k = q_read in
      omega (arith, a, b, d, f, g, k)

  reads_are : r.reads ≡ q ∷ []
  reads_are = one_counted r.reads q m.only_input c.r_reads

  writes_fewer : (x : Name) → total (writes_it x) p'.ops + one_if (name_eq q x) ≡ total (writes_it x) p.ops
  writes_fewer x = let a = sums (writes_it x) in let b = count_spliced w.writes r.writes q x c.w_writes in omega (arith, a, b)

  reads_fewer : (x : Name) → total (reads_it x) p'.ops + one_if (name_eq q x) ≡ total (reads_it x) p.ops
  reads_fewer x = let a = sums (reads_it x) in let b = ap (count x) reads_are in omega (arith, a, b)

  names_fewer : (x : Name) → count x (queue_names p') + one_if (name_eq q x) ≡ count x (queue_names p)
  names_fewer x =
      let a = names_of (decl_names p.outputs) (decl_names p.inputs) (decl_names p.queues) x in
      let b = names_of (decl_names p.outputs) (decl_names p.inputs) (decl_names (undeclared q p.queues)) x in
      let d = undeclared_count q x p.queues named in
      omega (arith, a, b, d)

  vars_same : (t : Name) → total (vars_it t) p'.ops ≡ total (vars_it t) p.ops
  vars_same t = let a = sums (vars_it t) in let b = count-append t w.vars r.vars in omega (arith, a, b)

  old : (P : OpForm → Type 0) → Each P p.ops → Parts p.ops p'.ops e P
  old P h = parts p.ops p'.ops e P h

  -- q is used nowhere in the new plan
  apart : (x : Name) → 0 < total (reads_it x) p'.ops + total (writes_it x) p'.ops → name_eq q x ≡ false
  apart x lt = ⊎_elim
      (λ d. absurd (let k = ap one_if d.1 in let a = reads_fewer x in let b = writes_fewer x in let o = v.read_once x in let o' =
      v.written_once x in omega (arith, a, b, o, o', k, lt)))
      (λ d. d.1)
      (cases_name q x)

  apart_one : (x : Name) → 0 < total (reads_it x) p'.ops + total (writes_it x) p'.ops → one_if (name_eq q x) ≡ 0
  apart_one x lt = ap one_if (apart x lt)

  in_new : (x : Name) → 0 < total (reads_it x) e.put + total (writes_it x) e.put → 0 < total (reads_it x) p'.ops + total (writes_it x) p'.ops
  in_new x lt = let a = sum_new p.ops p'.ops e (reads_it x) in let b = sum_new p.ops p'.ops e (writes_it x) in omega (arith, a, b, lt)

  in_stays : (x : Name) → 0 < Stays p.ops p'.ops e (reads_it x) + Stays p.ops p'.ops e (writes_it x)
      → 0 < total (reads_it x) p'.ops + total (writes_it x) p'.ops
  in_stays x lt = let a = sum_new p.ops p'.ops e (reads_it x) in let b = sum_new p.ops p'.ops e (writes_it x) in omega (arith, a, b, lt)

  -- TYPES

  same_kind : (x : Name) → name_eq q x ≡ false → kind x ≡ kind' x
  same_kind x n = sym (kind_last p.outputs p.inputs p.queues (undeclared q p.queues) x (undeclared_kind q x p.queues n))

  w_fit : IsFit p w
  w_fit = (old (IsFit p) v.fits).one.0

  r_fit : IsFit p r
  r_fit = (old (IsFit p) v.fits).two.0

  at_below : place_of_name q w.writes < length w.writes
  at_below = place_below w.writes q c.w_writes

  -- the fused kernel fits the types as they were
  new_fits : FitsAt kind var new
  new_fits = (
    map kind w.writes,
    kind q,
    map kind r.writes,
    map var w.vars,
    map var r.vars,
    w_fit,
    place_of kind w.writes q c.w_writes,
    subst (λ rs. Fits r.kernel (map kind rs) (map kind r.writes) (map var r.vars)) reads_are r_fit,
    map-spliced kind (place_of_name q w.writes) w.writes r.writes at_below,
    map-append var w.vars r.vars,
  )

  fits : Each (IsFit p') p'.ops
  fits =
      let a = old (IsFit p) v.fits in
      together p.ops p'.ops e (IsFit p')
      (each_fits kind kind' var e.before (λ x lt. same_kind x (apart x (in_stays x (omega (arith, lt))))) a.front)
      (each_fits kind kind' var e.put (λ x lt. same_kind x (apart x (in_new x lt))) (new_fits, tt))
      (each_fits kind kind' var e.middle (λ x lt. same_kind x (apart x (in_stays x (omega (arith, lt))))) a.mid)
      (each_fits kind kind' var e.behind (λ x lt. same_kind x (apart x (in_stays x (omega (arith, lt))))) a.back)

  -- LIMITS

  -- numbers of operators: those of the whole are those of its parts
  kernels_within : (limit : Limit) (most : ℕ) → All (λ n. n ≤ most) (flat_map (λ op. part_numbers limit op.kernel) p.ops)
      → All (λ n. n ≤ most) (flat_map (λ op. part_numbers limit op.kernel) p'.ops)
  kernels_within limit most h =
      let P : ℕ → Type 0 = λ n. n ≤ most in
      let f : OpForm → List ℕ = λ op. part_numbers limit op.kernel in
      let a = old (λ op. All P (f op)) (flat_each f P p.ops h) in
      each_flat f P p'.ops (together p.ops p'.ops e (λ op. All P (f op)) a.front (All-append P (f w) (f r) a.one.0 a.two.0, tt) a.mid a.back)

  ports_within : All (λ n. n ≤ 64) (numbers Ports p')
  ports_within =
      let P : ℕ → Type 0 = λ n. n ≤ 64 in
      let f : OpForm → List ℕ = λ op. length op.reads ∷ length op.writes ∷ [] in
      let a = old (λ op. All P (f op)) (flat_each f P p.ops (v.within Ports)) in
      each_flat f P p'.ops (together p.ops p'.ops e (λ op. All P (f op)) a.front (
        All-append P (length w.reads ∷ []) (length new.writes ∷ []) (all_here P (length w.reads ∷ []) (length w.writes ∷ []) a.one.0)
            (all_one P (length new.writes) m.ports),
        tt,
      )
      a.mid a.back)

  nested_within : All (λ n. n ≤ 32) (numbers Nesting p')
  nested_within =
      let P : ℕ → Type 0 = λ n. n ≤ 32 in
      let f : OpForm → ℕ = λ op. nesting op.kernel in
      let a = old (λ op. P (f op)) (map_each f P p.ops (v.within Nesting)) in
      each_map f P p'.ops (together p.ops p'.ops e (λ op. P (f op)) a.front (m.nested, tt) a.mid a.back)

  operators_within : All (λ n. n ≤ 256) (numbers Operators p')
  operators_within =
      let a = v.within Operators 0 0 (omega arith) in
      let s = sums (λ op. 1) in
      let b = total_length p.ops in
      let d = total_length p'.ops in
      let f : length p'.ops ≤ 256 = omega (arith, a, s, b, d) in
      all_one (λ n. n ≤ 256) (length p'.ops) f

  queues_within : All (λ n. n ≤ 512) (numbers Queues p')
  queues_within =
      let a = v.within Queues 0 0 (omega arith) in
      let b = undeclared_length q p.queues in
      let f : length p'.outputs + (length p'.inputs + length p'.queues) ≤ 512 = omega (arith, a, b) in
      all_one (λ n. n ≤ 512) (length p'.outputs + (length p'.inputs + length p'.queues)) f

  within : (limit : Limit) → All (λ n. n ≤ most_of limit) (numbers limit p')
  within Inputs = v.within Inputs
  within Operators = operators_within
  within Queues = queues_within
  within Variables = v.within Variables
  within Ports = ports_within
  within Statements = kernels_within Statements 16384 (v.within Statements)
  within Slots = kernels_within Slots 256 (v.within Slots)
  within Rates = kernels_within Rates 65536 (v.within Rates)
  within Weights = kernels_within Weights 65536 (v.within Weights)
  within Nesting = nested_within
  within Latest = kernels_within Latest 1000000 (v.within Latest)
  within Best = v.within Best

  -- THE ORDER

  order : ReadsBefore (λ x. count x (decl_names p.inputs)) p'.ops
  order =
      reordered p.ops p'.ops e (λ x. count x (decl_names p.inputs)) v.in_order (λ h. h)
      (λ x lr. let o = ap one_if (apart x (in_stays x (omega (arith, lr)))) in let b = count_spliced w.writes r.writes q x c.w_writes in omega (arith, o, b))

  -- VARIABLES

  new_apart : ((x : Name) → vars_it x w ≤ 1) → ((x : Name) → vars_it x r ≤ 1) → (x : Name) → vars_it x new ≤ 1
  new_apart a b x =
      let d = count-append x w.vars r.vars in
      let ax = a x in
      let bx = b x in
      ⊎_elim (λ lt. let z = m.apart x lt in omega (arith, d, ax, z)) (λ z. omega (arith, d, bx, z)) (more_or_zero (count x w.vars))

  valid : IsPlan p'
  valid = record {
    queues_once = λ x. let a = v.queues_once x in let b = names_fewer x in omega (arith, a, b);
    variables_once = v.variables_once;
    labels_once = λ l. let a = v.labels_once l in let b = sums (named_it l) in omega (arith, a, b);
    reads_declared =
        λ x lt. let a = v.reads_declared x in let b = names_fewer x in let d = reads_fewer x in let o = v.read_once x in let k =
        a (omega (arith, d, lt)) in omega (arith, b, d, o, k, lt);
    writes_declared =
        λ x lt. let a = v.writes_declared x in let b = names_fewer x in let d = writes_fewer x in let o = v.written_once x in let k =
        a (omega (arith, d, lt)) in omega (arith, b, d, o, k, lt);
    vars_declared = λ t lt. let a = vars_same t in v.vars_declared t (omega (arith, a, lt));
    written_once = λ x. let a = v.written_once x in let b = writes_fewer x in omega (arith, a, b);
    read_once = λ x. let a = v.read_once x in let b = reads_fewer x in omega (arith, a, b);
    in_order = order;
    outputs_typed = v.outputs_typed;
    inputs_typed = v.inputs_typed;
    queues_typed = all_undeclared HasWidth q p.queues v.queues_typed;
    tables_typed = v.tables_typed;
    fits = fits;
    within = within;
    vars_apart =
        let a = old (λ op. (x : Name) → vars_it x op ≤ 1) v.vars_apart in
        together p.ops p'.ops e (λ op. (x : Name) → vars_it x op ≤ 1) a.front (new_apart a.one.0 a.two.0, tt) a.mid a.back;
    private_once = λ x lt. let a = v.private_once x lt in let b = vars_same x in omega (arith, a, b);
  }

  -- MEANING

  w_counts : Counts w.kernel (map kind w.reads) (map kind w.writes) (map var w.vars)
  w_counts = counts w.kernel _ _ _ w_fit

  r_counts : Counts r.kernel (map kind r.reads) (map kind r.writes) (map var r.vars)
  r_counts = counts r.kernel _ _ _ r_fit

  -- the old histories solve the new equations, except that q is not written there
  whole : (h : History) → Each (Solves h) p.ops → Same (given_on new h) (fused_of (place_of_name q w.writes) (outs r.kernel) (tabs w.kernel)
      (given_on w h) (λ xs. given_on r h))
  whole h s =
      let a = old (Solves h) s in
      fused_given q w r h (shaped new.kernel _ _ _ new_fits) reads_are (list_at_place w.writes q (given_on w h).outs h c.w_writes a.one.0)

  r_outs : length r.writes ≡ outs r.kernel
  r_outs = sym (length-map r.writes kind) ∙ r_counts.outs

  w_tables : length (tables_of (table_names p.tables) w) ≡ tabs w.kernel
  w_tables =
      tables_length p.tables p.vars w.vars (λ x lt. v.vars_declared x (let a = sum_old p.ops p'.ops e (vars_it x) in omega (arith, a, lt))) ∙ w_counts.tables

  new_solves : (h : History) → Each (Solves h) p.ops → Solves h new
  new_solves h s =
      let a = old (Solves h) s in
      let k = whole h s in
      let l = lists_spliced (place_of_name q w.writes) w.writes r.writes (given_on w h).outs (given_on r h).outs h at_below a.one.0 a.two.0 in
      let l' = subst (λ n. Lists new.writes (splice (place_of_name q w.writes) n (given_on w h).outs (given_on r h).outs) h) r_outs l in
      lists_cong new.writes _ (given_on new h).outs h (λ j. sym (k.outs j)) l'

  abbrev tables : List Name
  tables = table_names p.tables

  new_adds : (h : History) → Each (Solves h) p.ops → (t : Name) (test : List ℤ → Bool)
      → adds_it tables h t test new ≡ adds_it tables h t test w + adds_it tables h t test r
  new_adds h s t test =
      let k = whole h s in
      let f = (given_on w h).adds in
      let g = (given_on r h).adds in
      ap (count_by test) (joined_cong (tables_of tables new) (given_on new h).adds (beside (tabs w.kernel) f g) t (λ j. k.adds j)
      ∙ ap (λ n. joined (tables_of tables new) (beside n f g) t) (sym w_tables)
      ∙ ap (λ l. joined l (beside (length (tables_of tables w)) f g) t) (filter-append (λ x. nat_lt 0 (count x tables)) w.vars r.vars)
      ∙ joined_beside (tables_of tables w) (tables_of tables r) f g t)
      ∙ count_by-append test (joined (tables_of tables w) f t) (joined (tables_of tables r) g t)

  -- the histories: those of old, but nothing ever comes to q
  module _ (inputs : List (List item.Item)) where
    abbrev g : History
    g = inputs_of (decl_names p.inputs) (list_at inputs)

    abbrev h : History
    h = histories p.ops g

    abbrev h' : History
    h' = written (q ∷ []) (λ j. g q) h

    else_same : (x : Name) → one_if (name_eq q x) ≡ 0 → h' x ≡ h x
    else_same x z = written_out (q ∷ []) (λ j. g q) h x (omega (arith, z))

    solved : Each (Solves h) p.ops
    solved = plan_solves p v g

    put_solves : Each (Solves h') (new ∷ [])
    put_solves = all_agree (new ∷ []) h h' (λ x lt. sym (else_same x (apart_one x (in_new x lt)))) (new_solves h solved, tt)

    same_h : (x : Name) → 0 < Stays p.ops p'.ops e (reads_it x) + Stays p.ops p'.ops e (writes_it x) → h x ≡ h' x
    same_h x lt = sym (else_same x (apart_one x (in_stays x lt)))

    in_put : (x : Name) → total (writes_it x) p'.ops ≡ 0 → h' x ≡ g x
    in_put x z = ⊎_elim
        (λ d. if_true (name_eq q x) (g q) (h x) d.1 ∙ ap g d.0)
        (λ d. let n = ap one_if d.1 in else_same x n ∙ stays p.ops g x (let a = writes_fewer x in omega (arith, a, z, n)))
        (cases_name q x)

    is_hist : (x : Name) → h' x ≡ histories p'.ops g x
    is_hist x = edited p p' v valid e g h' put_solves same_h in_put x

    same_adds : (t : Name) (test : List ℤ → Bool) → count_by test (adds tables p'.ops (histories p'.ops g) t) ≡ count_by test (adds tables p.ops h t)
    same_adds t test =
        let a = edited_adds p p' v valid e g h' put_solves same_h in_put tables t test in
        let n = new_adds h solved t test in
        let k = adds_it_same tables (new ∷ []) h h' t test (λ x lt. sym (else_same x (apart_one x (in_new x (omega (arith, lt)))))) in
        omega (arith, a, n, k)

    same : SameMeaning p p' inputs
    same = record {
      hist =
          λ x lt. sym (is_hist x)
          ∙ else_same x (⊎_elim
          (λ d. absurd (let k = ap (λ n. count n (decl_names p.outputs)) d.0 in let a = q_read in let o = v.read_once q in omega (arith, a, o, k, lt)))
          (λ d. ap one_if d.1) (cases_name q x));
      adds = same_adds;
    }

-- fusion keeps a plan valid, and what it means
pub fuse_keeps : (p : PlanForm) (q : Name) (w r : OpForm) → IsPlan p → MayFuse p q w r
    → IsPlan (fused_plan p q w r) × ((inputs : List (List item.Item)) → SameMeaning p (fused_plan p q w r) inputs)
fuse_keeps p q w r v m = (valid p q w r v m, same p q w r v m)
