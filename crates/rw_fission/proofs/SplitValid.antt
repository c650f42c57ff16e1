-- A plan in which an operator is split is valid.
use Rattle.std.proofs.Common.{◌≡◌, ℕ, zero, suc, ◌+◌, ◌<◌, ◌≤◌, Option, Some, None, List, [], ◌∷◌, ◌++◌, map, replicate, refl, sym, ap, ◌∙◌, subst, arith}
use Rattle.std.proofs.Common.{append_assoc, ⊎_elim}
use Rattle.std.specs.Prelude.{unwrap_or, All, IsTrue}
use Rattle.std.proofs.lemmas.List.Elements.{All-append, All-nil, All-cons, All-head, All-tail}
use Rattle.river_plan.proofs.DeclLemmas.{names_append}
use Rattle.rw_fission.proofs.WayLemmas.{one_at_most}
use Rattle.brooklet_model.proofs.TypedPlan.{kind_front, kind_back}
use Rattle.river_plan.proofs.ValidLaw.{total-append}
use Rattle.river_base.specs.declared.item.Item as item
use Rattle.river_base.specs.declared.kind.QueueType.{QueueType}
use Rattle.river_kernels.specs.Fits.{Fits, rows}
use Rattle.river_kernels.specs.Kern.{Kern, deal}
use Rattle.river_kernels.specs.Formed.{is_width}
use Rattle.river_kernels.specs.declared.types.VarKind.{VarKind}
use Rattle.river_kernels.specs.declared.types.VarKind.TheVariants.{Private}
use Rattle.river_plan.specs.declared.plan.Decl.{Decl}
use Rattle.river_plan.specs.Faults.{HasWidth, IsOuter, type_width}
use Rattle.river_plan.specs.Forms.{Name, OpForm, PlanForm, decl_names, table_names, all_decls, queue_names, variable_names}
use Rattle.river_plan.specs.Kinds.{kind_in, kind_of, var_kind, IsFit}
use Rattle.river_plan.specs.Names.{count}
use Rattle.river_plan.specs.Uses.{Each, total, writes_it, reads_it, vars_it, named_it, AreAllKnown, ReadsBefore}
use Rattle.river_plan.specs.Valid.{IsPlan}
use Rattle.river_plan.proofs.NameLemmas.{count-append, more_or_zero}
use Rattle.brooklet_model.proofs.Solutions.{count_here}
use Rattle.rw_fission.specs.Fission.{Way, equal_weights, outs_of, replica_op, splitter_op, joiner_ops, each_op, split_ops, split_by, decls, given_decls}
use Rattle.plan_edits.specs.Lists.{first_with}
use Rattle.rw_fission.specs.Made.{FissionNames, each_name}
use Rattle.rw_fission.specs.Splits.{Splits, JoinerFits, given_types, given_names}
use Rattle.plan_edits.proofs.Surgery.{before_append, found}
use Rattle.river_plan.proofs.ShareLemmas.{each_append}
use Rattle.rw_fission.proofs.Swap.{Swap, swap_of, stay, sum_old, sum_new, it_is, together, reordered}
use Rattle.plan_edits.proofs.Lookups.{map_agree, kind_sized, private_is, table_is}
use Rattle.rw_fission.proofs.Declared.{names_of_decls, kind_decls, count_each, map_each, decls_sized}

-- REPLICAS AND JOINERS

-- how often replicas read a queue
pub copies_read : (x : Name) (g : ℕ → OpForm) (a : ℕ → Name) (n : ℕ) → ((i : ℕ) → (g i).reads ≡ a i ∷ [])
    → total (reads_it x) (each_op g n) ≡ count x (each_name a n)
copies_read x g a zero e = refl
copies_read x g a (suc n) e =
    let i = copies_read x (λ i. g (suc i)) (λ i. a (suc i)) n (λ i. e (suc i)) in let h = ap (count x) (e 0) in omega (arith, i, h)

-- how often replicas write a queue
pub copies_write : (x : Name) (g : ℕ → OpForm) (b : ℕ → Name) (j : Option (Kern × QueueType)) (n : ℕ) → ((i : ℕ) → (g i).writes ≡ outs_of j (b i))
    → total (writes_it x) (each_op g n) ≡ count x (given_names b n j)
copies_write x g b None zero e = refl
copies_write x g b (Some j) zero e = refl
copies_write x g b None (suc n) e =
    let i = copies_write x (λ i. g (suc i)) (λ i. b (suc i)) None n (λ i. e (suc i)) in let h = ap (count x) (e 0) in omega (arith, i, h)
copies_write x g b (Some j) (suc n) e =
    let i = copies_write x (λ i. g (suc i)) (λ i. b (suc i)) (Some j) n (λ i. e (suc i)) in let h = ap (count x) (e 0) in omega (arith, i, h)

-- what holds of each replica
pub each_copy : (P : OpForm → Type 0) (g : ℕ → OpForm) (n : ℕ) → ((i : ℕ) → i < n → P (g i)) → Each P (each_op g n)
each_copy P g zero h = tt
each_copy P g (suc n) h = (h 0 (omega arith), each_copy P (λ i. g (suc i)) n (λ i lt. h (suc i) (omega (arith, lt))))

copies_before : (g : ℕ → OpForm) (a : ℕ → Name) (n : ℕ) (known : Name → ℕ) → ((i : ℕ) → (g i).reads ≡ a i ∷ [])
    → ((q : Name) → 0 < count q (each_name a n) → 0 < known q) → ReadsBefore known (each_op g n)
copies_before g a zero known e h = tt
copies_before g a (suc n) known e h = (
  subst (AreAllKnown known) (sym (e 0)) (λ q lt. h q (omega (arith, lt))),
  copies_before (λ i. g (suc i)) (λ i. a (suc i)) n _ (λ i. e (suc i)) (λ q lt. let k = h q (omega (arith, lt)) in omega (arith, k)),
)

joins_read : (x : Name) (op : OpForm) (m : FissionNames) (n : ℕ) (j : Option (Kern × QueueType))
    → total (reads_it x) (joiner_ops op m n j) ≡ count x (given_names m.given n j)
joins_read x op m n None = refl
joins_read x op m n (Some j) = omega arith

joins_write : (p : PlanForm) (x : Name) (op : OpForm) (m : FissionNames) (n k : ℕ) (j : Option (Kern × QueueType)) → JoinerFits p op k j
    → total (writes_it x) (joiner_ops op m n j) ≡ count x op.writes
joins_write p x op m n k None e = sym (ap (count x) e)
joins_write p x op m n k (Some j) e = omega arith

joins_before : (op : OpForm) (m : FissionNames) (n : ℕ) (j : Option (Kern × QueueType)) (known : Name → ℕ)
    → ((q : Name) → 0 < count q (given_names m.given n j) → 0 < known q) → ReadsBefore known (joiner_ops op m n j)
joins_before op m n None known h = tt
joins_before op m n (Some j) known h = (h, tt)

-- what holds of the joiner
pub each_join : (P : OpForm → Type 0) (op : OpForm) (m : FissionNames) (n : ℕ) (j : Option (Kern × QueueType))
    → ((k : Kern × QueueType) → j ≡ Some k
    → P (record { label = m.joiner; kernel = k.0; reads = each_name m.given n; writes = op.writes; vars = m.joiner ∷ [] }))
    → Each P (joiner_ops op m n j)
each_join P op m n None h = tt
each_join P op m n (Some j) h = (h j refl, tt)

given_names_of : (m : FissionNames) (n : ℕ) (j : Option (Kern × QueueType)) → decl_names (given_decls m n j) ≡ given_names m.given n j
given_names_of m n None = refl
given_names_of m n (Some j) = names_of_decls j.1 (each_name m.given n)

given_sized : (p : PlanForm) (op : OpForm) (m : FissionNames) (n k : ℕ) (j : Option (Kern × QueueType)) → JoinerFits p op k j → All HasWidth (given_decls m n j)
given_sized p op m n k None e = All-nil HasWidth
given_sized p op m n k (Some j) e = decls_sized j.1 (each_name m.given n) e.2

outer : (ds : List Decl) → All IsOuter ds → All HasWidth ds
outer [] h = All-nil HasWidth
outer (d ∷ ds) h = All-cons HasWidth d ds (All-head IsOuter d ds h).0 (outer ds (All-tail IsOuter d ds h))

module _ (Good : item.Item → Type 0) (p : PlanForm) (l : Name) (op : OpForm) (m : FissionNames) (n : ℕ) (source : Name) (t : QueueType) (w : Way) (v : IsPlan p)
    (here : first_with (named_it l) p.ops ≡ Some op) (y : Splits Good p l op m n source t w) where
  -- the new plan
  abbrev pub p' : PlanForm
  p' = split_by p l op m n t w

  -- the queues from the splitter
  abbrev pub da : List Name
  da = each_name m.dealt n

  -- the queues to the joiner
  abbrev pub pa : List Name
  pa = given_names m.given n w.join

  -- the replicas
  abbrev pub copies : List OpForm
  copies = each_op (replica_op w m) n

  -- what is put in the place of the operator
  abbrev pub put : List OpForm
  put = split_ops op m n w

  -- the swap
  abbrev pub e : Swap p.ops p'.ops op put
  e = swap_of l p.ops op put (found (named_it l) p.ops op here)

  abbrev stays : (OpForm → ℕ) → ℕ
  stays f = stay p.ops p'.ops op put e f

  -- a sum over what is put
  pub put_sum : (f : OpForm → ℕ) → total f put ≡ f (splitter_op op m n w) + (total f copies + total f (joiner_ops op m n w.join))
  put_sum f = let a = total-append f copies (joiner_ops op m n w.join) in omega (arith, a)

  -- QUEUES

  -- a queue that was written before
  pub writes_old : (x : Name) → total (writes_it x) p.ops ≡ stays (writes_it x) + count x op.writes
  writes_old x = sum_old p.ops p'.ops op put e (writes_it x)

  -- a queue that was read before
  pub reads_old : (x : Name) → total (reads_it x) p.ops ≡ stays (reads_it x) + count x op.reads
  reads_old x = sum_old p.ops p'.ops op put e (reads_it x)

  put_writes : (x : Name) → total (writes_it x) put ≡ count x da + (count x pa + count x op.writes)
  put_writes x =
      let a = put_sum (writes_it x) in let b = copies_write x (replica_op w m) m.given w.join n (λ i. refl) in
      let c = joins_write p x op m n n w.join y.ends in
      omega (arith, a, b, c)

  put_reads : (x : Name) → total (reads_it x) put ≡ count x op.reads + (count x da + count x pa)
  put_reads x =
      let a = put_sum (reads_it x) in let b = copies_read x (replica_op w m) m.dealt n (λ i. refl) in
      let c = joins_read x op m n w.join in
      omega (arith, a, b, c)

  -- how often a queue is written
  pub writes_more : (x : Name) → total (writes_it x) p'.ops ≡ total (writes_it x) p.ops + (count x da + count x pa)
  writes_more x = let a = writes_old x in let b = sum_new p.ops p'.ops op put e (writes_it x) in let c = put_writes x in omega (arith, a, b, c)

  -- how often a queue is read
  pub reads_more : (x : Name) → total (reads_it x) p'.ops ≡ total (reads_it x) p.ops + (count x da + count x pa)
  reads_more x = let a = reads_old x in let b = sum_new p.ops p'.ops op put e (reads_it x) in let c = put_reads x in omega (arith, a, b, c)

  abbrev new_decls : List Decl
  new_decls = decls t da ++ given_decls m n w.join

  decls_are : all_decls p' ≡ all_decls p ++ new_decls
  decls_are = sym (append_assoc p.outputs (p.inputs ++ p.queues) new_decls ∙ ap (λ l. p.outputs ++ l) (append_assoc p.inputs p.queues new_decls))

  all_named : (r : PlanForm) → decl_names (all_decls r) ≡ queue_names r
  all_named r = names_append r.outputs (r.inputs ++ r.queues) ∙ ap (λ l. decl_names r.outputs ++ l) (names_append r.inputs r.queues)

  new_named : decl_names new_decls ≡ da ++ pa
  new_named =
      names_append (decls t da) (given_decls m n w.join) ∙ ap (λ l. l ++ decl_names (given_decls m n w.join)) (names_of_decls t da)
      ∙ ap (λ l. da ++ l) (given_names_of m n w.join)

  -- how often a queue is declared
  pub names_more : (x : Name) → count x (queue_names p') ≡ count x (queue_names p) + (count x da + count x pa)
  names_more x =
      let a = ap (count x) (sym (all_named p') ∙ ap decl_names decls_are ∙ names_append (all_decls p) new_decls) in
      let b = count-append x (decl_names (all_decls p)) (decl_names new_decls) in
      let c = ap (count x) (all_named p) in
      let d = ap (count x) new_named ∙ count-append x da pa in
      omega (arith, a, b, c, d)

  -- the ends are declared
  pub ends_named : (x : Name) → count x (decl_names p.inputs) + count x (decl_names p.outputs) ≤ count x (queue_names p)
  ends_named x =
      let a = count-append x (decl_names p.outputs) (decl_names p.inputs ++ decl_names p.queues) in
      let b = count-append x (decl_names p.inputs) (decl_names p.queues) in
      omega (arith, a, b)

  -- made names are new
  pub made_once : (x : Name) → count x da + count x pa ≤ 1
  made_once x = let b = names_more x in let o = y.queues_once x in omega (arith, b, o)

  -- a name that is declared, read or written is not a made one
  pub old_named : (x : Name) → 0 < count x (queue_names p) → count x da + count x pa ≡ 0
  old_named x lt = let b = names_more x in let o = y.queues_once x in omega (arith, b, o, lt)

  -- a queue that was written is not made
  pub old_write : (x : Name) → 0 < total (writes_it x) p.ops → count x da + count x pa ≡ 0
  old_write x lt = old_named x (v.writes_declared x lt)

  -- a queue that was read is not made
  pub old_read : (x : Name) → 0 < total (reads_it x) p.ops → count x da + count x pa ≡ 0
  old_read x lt = old_named x (v.reads_declared x lt)

  no_write : (x : Name) → 0 < count x da + count x pa → total (writes_it x) p.ops ≡ 0
  no_write x lt = ⊎_elim (λ h. absurd (let k = old_write x h in omega (arith, k, lt))) (λ h. h) (more_or_zero (total (writes_it x) p.ops))

  no_read : (x : Name) → 0 < count x da + count x pa → total (reads_it x) p.ops ≡ 0
  no_read x lt = ⊎_elim (λ h. absurd (let k = old_read x h in omega (arith, k, lt))) (λ h. h) (more_or_zero (total (reads_it x) p.ops))

  -- TYPES

  abbrev kind : Name → QueueType
  kind = kind_of (all_decls p)

  abbrev kind' : Name → QueueType
  kind' = kind_of (all_decls p')

  kind_old : (q : Name) → 0 < count q (queue_names p) → kind' q ≡ kind q
  kind_old q lt =
      ap (λ ds. kind_of ds q) decls_are
      ∙ ap (λ o. unwrap_or o (rows 0)) (kind_front (all_decls p) new_decls q (let a = ap (count q) (all_named p) in omega (arith, a, lt)))

  kind_new : (q : Name) → count q (queue_names p) ≡ 0 → kind' q ≡ unwrap_or (kind_in new_decls q) (rows 0)
  kind_new q z =
      ap (λ ds. kind_of ds q) decls_are
      ∙ ap (λ o. unwrap_or o (rows 0)) (kind_back (all_decls p) new_decls q (let a = ap (count q) (all_named p) in omega (arith, a, z)))

  kind_dealt : (q : Name) → 0 < count q da → kind' q ≡ t
  kind_dealt q lt =
      let b = names_more q in let o = y.queues_once q in
      kind_new q (omega (arith, b, o, lt))
      ∙ ap (λ o. unwrap_or o (rows 0))
      (kind_front (decls t da) (given_decls m n w.join) q (let a = ap (count q) (names_of_decls t da) in omega (arith, a, lt)) ∙ kind_decls t da q lt)

  kind_given : (j : Kern × QueueType) → w.join ≡ Some j → (q : Name) → 0 < count q (each_name m.given n) → kind' q ≡ j.1
  kind_given j ej q lt =
      let b = names_more q in let o = y.queues_once q in
      let c = ap (λ k. count q (given_names m.given n k)) ej in
      kind_new q (omega (arith, b, o, c, lt))
      ∙ ap (λ o. unwrap_or o (rows 0))
      (kind_back (decls t da) (given_decls m n w.join) q (let a = ap (count q) (names_of_decls t da) in omega (arith, a, b, o, c, lt))
      ∙ ap (λ k. kind_in (given_decls m n k) q) ej ∙ kind_decls j.1 (each_name m.given n) q lt)

  -- VARIABLES

  abbrev var : Name → VarKind
  var = var_kind p.tables p.vars

  abbrev var' : Name → VarKind
  var' = var_kind p.tables p'.vars

  vars_named : (x : Name) → count x p'.vars ≡ count x w.stay + count x w.new
  vars_named x = count-append x w.stay w.new

  names_of_vars : (r : PlanForm) (x : Name) → count x (variable_names r) ≡ count x (table_names r.tables) + count x r.vars
  names_of_vars r x = count-append x (table_names r.tables) r.vars

  vars_old : (x : Name) → total (vars_it x) p.ops ≡ stays (vars_it x) + count x op.vars
  vars_old x = sum_old p.ops p'.ops op put e (vars_it x)

  vars_put : (x : Name) → total (vars_it x) p'.ops ≡ stays (vars_it x) + total (vars_it x) put
  vars_put x = sum_new p.ops p'.ops op put e (vars_it x)

  -- a private variable of an operator that stays, stays
  still_there : (x : Name) → 0 < stays (vars_it x) → 0 < count x p.vars → 0 < count x w.stay
  still_there x lt pr =
      let a = vars_old x in let o = v.private_once x pr in
      let s = y.stay_but x (omega (arith, a, o, lt)) in
      omega (arith, s, pr)

  var_old : (x : Name) → 0 < stays (vars_it x) → var' x ≡ var x
  var_old x lt = ⊎_elim
      (λ h. sym (table_is p.tables p.vars p'.vars x h))
      (λ z.
      let a = vars_old x in let d = v.vars_declared x (omega (arith, a, lt)) in let b = names_of_vars p x in
      let pr : 0 < count x p.vars = omega (arith, d, b, z) in
      let s = still_there x lt pr in let c = vars_named x in
      private_is p.tables p'.vars x z (omega (arith, s, c)) ∙ sym (private_is p.tables p.vars x z pr))
      (more_or_zero (count x (table_names p.tables)))

  var_new : (x : Name) → 0 < count x w.new → var' x ≡ Private
  var_new x lt = let o = y.variables_once x in let c = vars_named x in private_is p.tables p'.vars x (omega (arith, o, lt)) (omega (arith, c, lt))

  -- tables are what they were
  pub var_tables : (x : Name) → 0 < count x (table_names p.tables) → var x ≡ var' x
  var_tables x lt = table_is p.tables p.vars p'.vars x lt

  -- made variables are private
  pub var_private : (x : Name) → 0 < count x w.new → var' x ≡ Private
  var_private x lt = var_new x lt

  -- EACH OPERATOR FITS

  op_fit : IsFit p op
  op_fit = it_is p.ops p'.ops op put e (IsFit p) v.fits

  kept_fit : (xs : List OpForm) → ((f : OpForm → ℕ) → total f xs ≤ stays f) → Each (IsFit p) xs → Each (IsFit p') xs
  kept_fit [] le h = tt
  kept_fit (x ∷ xs) le h = (
    (
        let a = map_agree kind kind' x.reads
        (λ q lt. sym (kind_old q (v.reads_declared q (let b = le (reads_it q) in let c = reads_old q in omega (arith, b, c, lt))))) in
        let b = map_agree kind kind' x.writes
        (λ q lt. sym (kind_old q (v.writes_declared q (let b = le (writes_it q) in let c = writes_old q in omega (arith, b, c, lt))))) in
        let c = map_agree var var' x.vars (λ q lt. sym (var_old q (let b = le (vars_it q) in omega (arith, b, lt)))) in
        subst (λ ts. Fits x.kernel ts (map kind' x.writes) (map var' x.vars)) a
        (subst (λ ts. Fits x.kernel (map kind x.reads) ts (map var' x.vars)) b
        (subst (λ ts. Fits x.kernel (map kind x.reads) (map kind x.writes) ts) c h.0))
        ),
    kept_fit xs (λ f. let b = le f in omega (arith, b)) h.1,
  )

  source_named : 0 < count source (queue_names p)
  source_named =
      v.reads_declared source (let a = reads_old source in let b = ap (count source) y.reads in let c = count_here source [] in omega (arith, a, b, c))

  reads_kind : map kind' op.reads ≡ t ∷ []
  reads_kind = ap (map kind') y.reads ∙ ap (λ k. k ∷ []) (kind_old source source_named ∙ y.kind)

  splitter_fit : IsFit p' (splitter_op op m n w)
  splitter_fit =
      let a = reads_kind in
      let b = map_each kind' m.dealt n t kind_dealt in
      let c = ap (λ k. k ∷ []) (var_new m.splitter y.splitter_new) in
      subst (λ ts. Fits (deal (equal_weights n w.share)) ts (map kind' da) (var' m.splitter ∷ [])) (sym a)
      (subst (λ ts. Fits (deal (equal_weights n w.share)) (t ∷ []) ts (var' m.splitter ∷ [])) (sym b)
      (subst (λ ts. Fits (deal (equal_weights n w.share)) (t ∷ []) (replicate n t) ts) (sym c) y.deals))

  given_kind : (i : ℕ) → i < n → (j : Option (Kern × QueueType)) → w.join ≡ j → map kind' (outs_of j (m.given i)) ≡ given_types j
  given_kind i lt None ej = refl
  given_kind i lt (Some j) ej = ap (λ k. k ∷ []) (kind_given j ej (m.given i) (count_each m.given n i lt))

  copy_fit : (i : ℕ) → i < n → IsFit p' (replica_op w m i)
  copy_fit i lt =
      let a = ap (λ k. k ∷ []) (kind_dealt (m.dealt i) (count_each m.dealt n i lt)) in
      subst (λ ts. Fits w.inner ts (map kind' (outs_of w.join (m.given i))) (map var' (w.vars i))) (sym a)
      (subst (λ ts. Fits w.inner (t ∷ []) ts (map var' (w.vars i))) (sym (given_kind i lt w.join refl))
      (y.inner var' (λ x h. sym (table_is p.tables p.vars p'.vars x h)) var_new i lt))

  joiner_fit : (j : Kern × QueueType) → w.join ≡ Some j
      → IsFit p' (record { label = m.joiner; kernel = j.0; reads = each_name m.given n; writes = op.writes; vars = m.joiner ∷ [] })
  joiner_fit j ej =
      let en : JoinerFits p op n (Some j) = subst (JoinerFits p op n) ej y.ends in
      let out = en.0 in
      let named : 0 < count out (queue_names p) =
      v.writes_declared out (let a = writes_old out in let b = ap (count out) en.1 in let c = count_here out [] in omega (arith, a, b, c)) in
      let a = map_each kind' m.given n j.1 (kind_given j ej) in
      let b = ap (map kind') en.1 ∙ ap (λ k. k ∷ []) (kind_old out named) in
      let c = ap (λ k. k ∷ []) (var_new m.joiner (y.joiner_new j ej)) in
      subst (λ ts. Fits j.0 ts (map kind' op.writes) (var' m.joiner ∷ [])) (sym a)
      (subst (λ ts. Fits j.0 (replicate n j.1) ts (var' m.joiner ∷ [])) (sym b)
      (subst (λ ts. Fits j.0 (replicate n j.1) (kind out ∷ []) ts) (sym c) en.3))

  -- what holds of splitter, replicas and joiner
  pub put_all : (P : OpForm → Type 0) → P (splitter_op op m n w) → ((i : ℕ) → i < n → P (replica_op w m i))
      → ((j : Kern × QueueType) → w.join ≡ Some j
      → P (record { label = m.joiner; kernel = j.0; reads = each_name m.given n; writes = op.writes; vars = m.joiner ∷ [] }))
      → Each P put
  put_all P s c j = (s, each_append P copies (joiner_ops op m n w.join) (each_copy P (replica_op w m) n c) (each_join P op m n w.join j))

  -- ORDER

  order : ReadsBefore (λ x. count x (decl_names p.inputs)) p'.ops
  order =
      reordered p.ops p'.ops op put e (λ x. count x (decl_names p.inputs)) v.in_order
      (λ k h. (
        h.0,
        before_append copies (joiner_ops op m n w.join) _
            (copies_before (replica_op w m) m.dealt n _ (λ i. refl) (λ q lt. omega (arith, lt)))
            (joins_before op m n w.join _ (λ q lt. let b = copies_write q (replica_op w m) m.given w.join n (λ i. refl) in omega (arith, b, lt))),
      ))
      (λ q lr. let a = put_writes q in omega (arith, a))

  -- THE WHOLE

  all_sized : All HasWidth (all_decls p)
  all_sized =
      All-append HasWidth p.outputs (p.inputs ++ p.queues) (outer p.outputs v.outputs_typed)
      (All-append HasWidth p.inputs p.queues (outer p.inputs v.inputs_typed) v.queues_typed)

  t_sized : IsTrue (is_width (type_width t))
  t_sized =
      subst (λ k. IsTrue (is_width (type_width k))) y.kind
      (kind_sized (all_decls p) source all_sized (let a = ap (count source) (all_named p) in let b = source_named in omega (arith, a, b)))

  -- the new plan is valid
  pub valid : IsPlan p'
  valid = record {
    queues_once = y.queues_once;
    variables_once = λ x. let a = names_of_vars p' x in let b = vars_named x in let o = y.variables_once x in omega (arith, a, b, o);
    labels_once = y.labels_once;
    reads_declared =
        λ x lt. let a = names_more x in let b =
        reads_more x in ⊎_elim (λ h. let k = v.reads_declared x h in omega (arith, a, k)) (λ h. omega (arith, a, b, h, lt))
        (more_or_zero (total (reads_it x) p.ops));
    writes_declared =
        λ x lt. let a = names_more x in let b =
        writes_more x in ⊎_elim (λ h. let k = v.writes_declared x h in omega (arith, a, k)) (λ h. omega (arith, a, b, h, lt))
        (more_or_zero (total (writes_it x) p.ops));
    vars_declared = λ x lt.
        let a = vars_put x in let b = names_of_vars p' x in let c = vars_named x in
        ⊎_elim (λ h. omega (arith, b, h))
        (λ z.
        let d = y.put_vars x z in
        ⊎_elim
        (λ h.
        let f = vars_old x in let g = v.vars_declared x (omega (arith, f, h)) in let k = names_of_vars p x in
        let s = still_there x h (omega (arith, g, k, z)) in omega (arith, b, c, s))
        (λ h. omega (arith, a, b, c, d, h, lt))
        (more_or_zero (stays (vars_it x))))
        (more_or_zero (count x (table_names p.tables)));
    written_once = λ x. let a = writes_more x in let o = v.written_once x in let i = ends_named x in let b = names_more x in let u = y.queues_once x in
        ⊎_elim (λ h. let z = no_write x h in omega (arith, a, z, i, b, u)) (λ h. omega (arith, a, o, h)) (more_or_zero (count x da + count x pa));
    read_once = λ x. let a = reads_more x in let o = v.read_once x in let i = ends_named x in let b = names_more x in let u = y.queues_once x in
        ⊎_elim (λ h. let z = no_read x h in omega (arith, a, z, i, b, u)) (λ h. omega (arith, a, o, h)) (more_or_zero (count x da + count x pa));
    in_order = order;
    outputs_typed = v.outputs_typed;
    inputs_typed = v.inputs_typed;
    queues_typed =
        All-append HasWidth p.queues new_decls v.queues_typed
        (All-append HasWidth (decls t da) (given_decls m n w.join) (decls_sized t da t_sized) (given_sized p op m n n w.join y.ends));
    tables_typed = v.tables_typed;
    fits = together p.ops p'.ops op put e (IsFit p) (IsFit p') v.fits kept_fit (put_all (IsFit p') splitter_fit copy_fit joiner_fit);
    within = y.within;
    vars_apart = together p.ops p'.ops op put e (λ o. (x : Name) → vars_it x o ≤ 1) (λ o. (x : Name) → vars_it x o ≤ 1) v.vars_apart (λ xs le h. h)
        (put_all (λ o. (x : Name) → vars_it x o ≤ 1) (λ x. one_at_most m.splitter x) (λ i lt x. y.apart i x lt) (λ j ej x. one_at_most m.joiner x));
    private_once = λ x lt.
        let o = y.variables_once x in let c = vars_named x in let a = vars_put x in
        let z : count x (table_names p.tables) ≡ 0 = omega (arith, o, c, lt) in
        let d = y.put_vars x z in let f = vars_old x in let i = y.stay_in x in
        ⊎_elim
        (λ h.
        let g = v.vars_declared x (omega (arith, f, h)) in let k = names_of_vars p x in
        let pr : 0 < count x p.vars = omega (arith, g, k, z) in
        let s = still_there x h pr in let u = v.private_once x pr in
        omega (arith, o, a, d, f, s, u))
        (λ h. omega (arith, o, a, d, h))
        (more_or_zero (stays (vars_it x)));
  }
