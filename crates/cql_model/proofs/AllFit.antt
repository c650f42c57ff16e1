-- All kernels of a plan fit.
use Rattle.std.proofs.Common.{◌≡◌, ℕ, zero, suc, ◌+◌, ◌<◌, true, List, [], ◌∷◌, ◌++◌, refl, sym, ap, ◌∙◌, arith, subst, length, ⊎_elim, replicate}
use Rattle.std.proofs.Common.{length-append}
use Rattle.std.specs.Prelude.{if◌then◌else◌, nat_le}
use Rattle.std.specs.List.{flat_map}
use Rattle.std.proofs.lemmas.Bool.{cases_lt, and_from, le-leb}
use Rattle.river_base.specs.declared.kind.FlatType.TheVariants.{Stream}
use Rattle.river_base.specs.declared.kind.QueueType.{QueueType}
use Rattle.river_kernels.specs.declared.types.VarKind.{VarKind}
use Rattle.river_kernels.specs.Fits.{stream}
use Rattle.river_kernels.specs.Formed.{is_width}
use Rattle.river_plan.specs.declared.plan.Decl.{Decl}
use Rattle.river_plan.specs.Forms.{Name}
use Rattle.river_plan.specs.Names.{one_if, count}
use Rattle.river_plan.specs.Uses.{Each}
use Rattle.river_plan.proofs.NameLemmas.{cases_name, one_same}
use Rattle.cql_model.specs.Plannable.{AreQueries}
use Rattle.cql_model.specs.Laws.{known_names, AreKnown}
use Rattle.cql_model.specs.Program.{streams_of, all_uses}
use Rattle.cql_text.specs.Tree.{Source, Columns, Star, Chosen, Query, Register, AQuery, Program}
use Rattle.cql_model.specs.Scopes.{Named, scope_of, fields_of, column_names}
use Rattle.cql_model.specs.Plan.{copy_names, copy_name, queue_of_use, queues_of_uses, query_named, queries_ops, copy_ops, input_ops, decls_of, widths_of, columns_width}
use Rattle.cql_model.specs.Plan.{item_decls, select_decls, project_decls, out_decls, query_decls, queries_decls, copy_decls, input_copies, input_decls}
use Rattle.cql_model.specs.Plan.{output_decls}
use Rattle.cql_model.proofs.Counting.{block_ops}
use Rattle.cql_model.proofs.Order.{Others, Fit, fit_next, query_source, InputsThere}
use Rattle.cql_model.proofs.Fitting as one
use Rattle.cql_model.proofs.Uses.{which}
use Rattle.river_plan.proofs.ShareLemmas.{each_append}
use Rattle.cql_model.proofs.Walk.{each-append}
use Rattle.cql_model.proofs.Widths.{length-names}

-- the columns of a query are as many as they are named
joined_fields : (scope : List Named) → length (flat_map (λ (i : Named). i.fields) scope) ≡ widths_of scope
joined_fields [] = refl
joined_fields (i ∷ is) = let m = joined_fields is in let a = length-append i.fields (flat_map (λ (j : Named). j.fields) is) in omega (arith, m, a)

-- there are as many names of columns as columns
pub columns_many : (scope : List Named) (cs : Columns) → length (column_names scope cs) ≡ columns_width scope cs
columns_many scope Star = joined_fields scope
columns_many scope (Chosen cs) = length-names 1 cs

module _ (kind : Name → QueueType) (var : Name → VarKind) (inputs all : List Name) where
  abbrev AreKinds : List Decl → Type 0
  AreKinds ds = one.AreKinds kind var ds

  abbrev Sized : List Named → Type 0
  Sized ks = one.Sized kind var ks

  -- each use of these streams reads a queue of their rows
  abbrev pub ServesKind : Name → ℕ → Type 0
  ServesKind n width = (j : ℕ) → j < count n all → kind (queue_of_use inputs all n j) ≡ stream width

  abbrev pub ServeKinds : List Named → Type 0
  ServeKinds [] = Unit {0}
  ServeKinds (k ∷ ks) = ServesKind k.name (length k.fields) × ServeKinds ks

  kind_one : (ks : List Named) (n : Name) → ServeKinds ks → 0 < count n (known_names ks) → ServesKind n (length (fields_of ks n))
  kind_one [] n s lt j lj = absurd (omega (arith, lt))
  kind_one (k ∷ ks) n s lt j lj = ⊎_elim
      (λ c. ap (λ m. kind (queue_of_use inputs all m j)) (sym c.0) ∙ s.0 j (subst (λ m. j < count m all) (sym c.0) lj)
      ∙ ap (λ b. stream (length (if b then k.fields else fields_of ks n))) (sym c.1))
      (λ c. kind_one ks n s.1 (let e = ap one_if c.1 in omega (arith, lt, e)) j lj
      ∙ ap (λ b. stream (length (if b then k.fields else fields_of ks n))) (sym c.1))
      (cases_name k.name n)

  sized_one : (ks : List Named) (n : Name) → Sized ks → 0 < count n (known_names ks) → is_width (length (fields_of ks n)) ≡ true
  sized_one [] n z lt = absurd (omega (arith, lt))
  sized_one (k ∷ ks) n z lt = ⊎_elim
      (λ c. ap (λ b. is_width (length (if b then k.fields else fields_of ks n))) c.1 ∙ z.0)
      (λ c. ap (λ b. is_width (length (if b then k.fields else fields_of ks n))) c.1 ∙ sized_one ks n z.1 (let e = ap one_if c.1 in omega (arith, lt, e)))
      (cases_name k.name n)

  -- the items of a query are from 1 to 16 wide, where the known streams are
  pub sized_scope : (ks : List Named) (items : List Source) → Sized ks → AreKnown ks (streams_of items) → Sized (scope_of ks items)
  sized_scope ks [] z a = tt
  sized_scope ks (i ∷ is) z a = (sized_one ks i.stream z a.0, sized_scope ks is z a.1)

  source_kinds : (ks : List Named) (past : List Name) (items : List Source) (rest : List Name) → ServeKinds ks → AreKnown ks (streams_of items)
      → Fit inputs all past (streams_of items ++ rest)
      → one.SourceKinds kind var (scope_of ks items) (queues_of_uses inputs all past (streams_of items))
  source_kinds ks past [] rest s a r = tt
  source_kinds ks past (i ∷ is) rest s a r = (
    kind_one ks i.stream s a.0 (count i.stream past) (let c = r i.stream in let o = one_same i.stream in omega (arith, c, o)),
    source_kinds ks (past ++ i.stream ∷ []) is rest s a.1 (fit_next inputs all past (i.stream ∷ []) (streams_of is ++ rest) r),
  )

  copies_kind : (b : Name) (k u : ℕ) (t : QueueType) → AreKinds (decls_of (copy_names b k u) t) → (j : ℕ) → j < u → kind (copy_name b (k + j)) ≡ t
  copies_kind b k zero t a j lt = absurd (omega (arith, lt))
  copies_kind b k (suc u) t a zero lt = (let z : k + 0 ≡ k = omega arith in ap (λ m. kind (copy_name b m)) z) ∙ a.0
  copies_kind b k (suc u) t a (suc j) lt =
      (let z : k + suc j ≡ (k + 1) + j = omega arith in ap (λ m. kind (copy_name b m)) z) ∙ copies_kind b (k + 1) u t a.1 j (omega (arith, lt))

  copy_kind : (b : Name) (u : ℕ) (t : QueueType) → AreKinds (decls_of (copy_names b 0 u) t) → (j : ℕ) → j < u → kind (copy_name b j) ≡ t
  copy_kind b u t a j lt = (let z : 0 + j ≡ j = omega arith in ap (λ m. kind (copy_name b m)) (sym z)) ∙ copies_kind b 0 u t a j lt

  out_kind : (b : Name) (width u : ℕ) → AreKinds (out_decls b width u) → (j : ℕ) → j < u → kind (copy_name b j) ≡ stream width
  out_kind b width zero a j lt = absurd (omega (arith, lt))
  out_kind b width (suc u) a j lt = copy_kind b (suc u) (stream width) a.1 j lt

  -- what a query's declarations say of its copies
  query_kind : (ks : List Named) (q : Query) → AreKinds (query_decls all ks q)
      → AreKinds (out_decls q.name (columns_width (scope_of ks q.items) q.columns) (count q.name all))
  query_kind ks q d =
      let b = q.name in let scope = scope_of ks q.items in
      let sd = select_decls b (widths_of scope) q.condition in
      let pd = project_decls b q.columns in
      let od = out_decls b (columns_width scope q.columns) (count q.name all) in
      let d1 = one.kinds-append kind var (item_decls b scope) (sd ++ (pd ++ od)) d in
      let d2 = one.kinds-append kind var sd (pd ++ od) d1.1 in
      let d3 = one.kinds-append kind var pd od d2.1 in d3.1

  abbrev pub InputKinds : Program → Type 0
  InputKinds [] = Unit {0}
  InputKinds (Register name fields ∷ ps) = ServesKind name (length fields) × InputKinds ps
  InputKinds (AQuery q ∷ ps) = InputKinds ps

  -- the operators of all queries fit their queues and variables
  pub queries_fit : (ks : List Named) (past : List Name) (ps : Program) → ServeKinds ks → Sized ks → InputKinds ps → AreQueries ks ps → Others inputs all ps
      → Fit inputs all past (all_uses ps)
      → AreKinds (queries_decls all ks ps) → AreKinds (output_decls ks ps) → Each (one.Own kind var) (queries_ops inputs all ks past ps)
      → Each (one.Fit kind var) (queries_ops inputs all ks past ps)
  queries_fit ks past [] s z i a o r d t v = tt
  queries_fit ks past (Register name fields ∷ ps) s z i a o r d t v =
      queries_fit (record { name = name; fields = fields } ∷ ks) past ps (i.0, s) (a.0, z) i.1 a.1 o r d t v
  queries_fit ks past (AQuery q ∷ ps) s z i a o r d t v =
      let srcs = queues_of_uses inputs all past (streams_of q.items) in
      let scope = scope_of ks q.items in
      let block = block_ops q scope (count q.name all) srcs in
      let rest = queries_ops inputs all (query_named ks q ∷ ks) (past ++ streams_of q.items) ps in
      let ds = one.kinds-append kind var (query_decls all ks q) (queries_decls all (query_named ks q ∷ ks) ps) d in
      let vs = each-append (one.Own kind var) block rest v in
      let many = columns_many scope q.columns in
      each_append (one.Fit kind var) block rest
      (one.block_fits kind var all ks q srcs a.0 (source_kinds ks past q.items (all_uses ps) s a.0.streams r)
      (sized_scope ks q.items z a.0.streams) ds.0 t.0 vs.0)
      (queries_fit (query_named ks q ∷ ks) (past ++ streams_of q.items) ps (
        (λ j lt. ap kind (query_source inputs all q.name j o.0) ∙ out_kind q.name (columns_width scope q.columns) (count q.name all) (query_kind ks q ds.0) j lt
            ∙ ap stream (sym many)),
        s,
      )
      (ap is_width many ∙ a.0.columns, z) i a.1 o.1 (fit_next inputs all past (streams_of q.items) (all_uses ps) r) ds.1 t.1 vs.1)

  -- THE COPIES OF THE INPUTS

  copy_fits : (n : Name) (width u : ℕ) → is_width width ≡ true → kind n ≡ stream width → AreKinds (copy_decls n width u)
      → Each (one.Fit kind var) (copy_ops n u)
  copy_fits n width zero w k d = tt
  copy_fits n width (suc zero) w k d = tt
  copy_fits n width (suc (suc u)) w k d = (
    (
      Stream width,
      ap (λ (x : QueueType). x ∷ []) k,
      one.copies_kinds kind var (copy_names n 0 (suc (suc u))) (stream width) d
          ∙ ap (λ m. replicate m (stream width)) (one.length-copies kind var n 0 (suc (suc u))),
      refl,
      and_from (is_width width) (nat_le 1 (suc (suc u))) w (le-leb 1 (suc (suc u)) (omega arith)),
    ),
    tt,
  )

  copied_kind : (n : Name) (width u : ℕ) → 1 < u → AreKinds (copy_decls n width u) → (j : ℕ) → j < u → kind (copy_name n j) ≡ stream width
  copied_kind n width zero h d j lt = absurd (omega (arith, h))
  copied_kind n width (suc zero) h d j lt = absurd (omega (arith, h))
  copied_kind n width (suc (suc u)) h d j lt = copy_kind n (suc (suc u)) (stream width) d j lt

  input_serves : (n : Name) (width : ℕ) → 0 < count n inputs → kind n ≡ stream width → AreKinds (copy_decls n width (count n all)) → ServesKind n width
  input_serves n width i k d j lt = ⊎_elim
      (λ o. ap kind o.is ∙ k)
      (λ c. ⊎_elim
      (λ more. ap kind c.is ∙ copied_kind n width (count n all) more d j lt)
      (λ le. (let e : queue_of_use inputs all n j ≡ n = grind (arith, i, le) in ap kind e) ∙ k)
      (cases_lt 1 (count n all)))
      (which inputs all n j)

  -- and so do those that copy the inputs
  pub inputs_fit : (ks : List Named) (ps : Program) → AreQueries ks ps → AreKinds (input_decls ps) → AreKinds (input_copies all ps)
      → Each (one.Fit kind var) (input_ops all ps)
  inputs_fit ks [] a d c = tt
  inputs_fit ks (Register name fields ∷ ps) a d c =
      let cs = one.kinds-append kind var (copy_decls name (length fields) (count name all)) (input_copies all ps) c in
      each_append (one.Fit kind var) (copy_ops name (count name all)) (input_ops all ps) (copy_fits name (length fields) (count name all) a.0 d.0 cs.0)
      (inputs_fit (record { name = name; fields = fields } ∷ ks) ps a.1 d.1 cs.1)
  inputs_fit ks (AQuery q ∷ ps) a d c = inputs_fit (query_named ks q ∷ ks) ps a.1 d c

  -- the queues that serve the inputs carry their streams
  pub input_kinds : (ps : Program) → InputsThere inputs all ps → AreKinds (input_decls ps) → AreKinds (input_copies all ps) → InputKinds ps
  input_kinds [] t d c = tt
  input_kinds (Register name fields ∷ ps) t d c =
      let cs = one.kinds-append kind var (copy_decls name (length fields) (count name all)) (input_copies all ps) c in
      (input_serves name (length fields) t.0 d.0 cs.0, input_kinds ps t.1 d.1 cs.1)
  input_kinds (AQuery q ∷ ps) t d c = input_kinds ps t d c
