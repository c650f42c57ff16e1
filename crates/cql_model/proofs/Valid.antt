-- The plan of an accepted program is valid.
use Rattle.std.proofs.Common.{◌≡◌, ℕ, zero, suc, ◌+◌, ◌<◌, ◌≤◌, true, Option, Some, None, List, [], ◌∷◌, ◌++◌, refl, ap, ◌∙◌, arith, subst, length}
use Rattle.std.proofs.Common.{⊎_elim, length-append}
use Rattle.std.specs.Prelude.{All, codes, if◌then◌else◌, IsTrue, unwrap_or}
use Rattle.std.specs.List.{AllByRecursion}
use Rattle.std.proofs.lemmas.List.{length-map}
use Rattle.std.proofs.lemmas.List.Elements.{All-cons, All-nil, All-append}
use Rattle.river_plan.proofs.DeclLemmas.{private_there}
use Rattle.river_base.specs.Name.{name_eq}
use Rattle.river_base.specs.declared.kind.QueueType.{QueueType}
use Rattle.river_kernels.specs.declared.types.VarKind.{VarKind}
use Rattle.river_kernels.specs.declared.types.VarKind.TheVariants.{Private, Table}
use Rattle.river_kernels.specs.Fits.{rows, stream, relation}
use Rattle.river_kernels.specs.Formed.{is_width}
use Rattle.river_plan.specs.declared.plan.Decl.{Decl}
use Rattle.river_plan.specs.Faults.{IsOuter, HasWidth, IsTableKind}
use Rattle.river_plan.specs.Forms.{Name, OpForm, decl_names, all_decls, queue_names}
use Rattle.river_plan.specs.Kinds.{kind_in, kind_of, var_kind}
use Rattle.river_plan.specs.Names.{one_if, count}
use Rattle.river_plan.specs.Uses.{Each, total, writes_it, reads_it, vars_it, named_it, all_vars, ReadsBefore}
use Rattle.river_plan.proofs.NameLemmas.{cases_name, name_same, count-append, one_same, more_or_zero, one_small}
use Rattle.river_plan.proofs.ShareLemmas.{total-vars}
use Rattle.cql_model.specs.Plannable.{has_no_at, declared_names, IsPlannableQuery, AreQueries, PlansKeep}
use Rattle.cql_model.specs.Laws.{known_names, AreKnown}
use Rattle.cql_model.specs.Program.{registered, streams_of, all_uses}
use Rattle.cql_text.specs.Tree.{Scalar, Source, Columns, Star, Chosen, Query, Register, AQuery, Program}
use Rattle.cql_model.specs.Scopes.{Named, scope_of, item_named}
use Rattle.cql_model.specs.Plan.{at_word, copy_names, queues_of_uses, window_ops, cross_ops, tail_ops, item_ops, item_last, query_ops, query_named, queries_ops}
use Rattle.cql_model.specs.Plan.{input_ops, ops_of, w_name, decl, decls_of, widths_of, columns_width, window_decls, cross_decls, item_decls, select_decls}
use Rattle.cql_model.specs.Plan.{project_decls, out_decls, query_decls, queries_decls, copy_decls, input_copies, input_decls, output_decls, plan_of}
use Rattle.river_plan.proofs.ValidLaw.{total-append}
use Rattle.cql_model.proofs.Counting.{names-append}
use Rattle.cql_model.proofs.Sums.{sums, sums_once, queues_of, vars_of, labels_of, taken_of, queues_once, vars_once, labels_once, taken_once, FewItems}
use Rattle.cql_model.proofs.Sums.{all_writes, all_vars_sum, all_labels, all_decls_sum, all_reads, inputs_declared, as_many}
use Rattle.cql_model.proofs.Uses.{Room, Apart, read_once, hit, hit_apart}
use Rattle.cql_model.proofs.Order.{InputsKnown, InputsThere, Others, queries_in_order, inputs_in_order, inputs_serve, reads_append, behind, reads_there}
use Rattle.cql_model.proofs.Fitting as one
use Rattle.cql_model.proofs.AllFit.{queries_fit, inputs_fit, input_kinds, sized_scope, columns_many}
use Rattle.river_plan.proofs.ShareLemmas.{each_append}
use Rattle.cql_model.proofs.Walk.{each-append}

-- FROM WHAT IS ACCEPTED

few_items : (ks : List Named) (ps : Program) → AreQueries ks ps → FewItems ps
few_items ks [] a = tt
few_items ks (Register name fields ∷ ps) a = few_items (record { name = name; fields = fields } ∷ ks) ps a.1
few_items ks (AQuery q ∷ ps) a = (a.0.some, a.0.few, few_items (query_named ks q ∷ ks) ps a.1)

-- the names of queries
abbrev pub asked : Program → List Name
asked [] = []
asked (Register name fields ∷ ps) = asked ps
asked (AQuery q ∷ ps) = q.name ∷ asked ps

-- a name is declared as a stream or as a query
pub declared_split : (n : Name) (ps : Program) → count n (declared_names ps) ≡ count n (registered ps) + count n (asked ps)
declared_split n [] = refl
declared_split n (Register name fields ∷ ps) = let m = declared_split n ps in omega (arith, m)
declared_split n (AQuery q ∷ ps) = let m = declared_split n ps in omega (arith, m)

-- queries have names of their own
apart_in : (inputs all : List Name) (ps : Program) → AllByRecursion (λ n. IsTrue (has_no_at n)) (declared_names ps)
    → ((n : Name) → 0 < count n (asked ps) → count n inputs ≡ 0) → Apart inputs all ps
apart_in inputs all [] h f = tt
apart_in inputs all (Register name fields ∷ ps) h f = (h.0, apart_in inputs all ps h.1 f)
apart_in inputs all (AQuery q ∷ ps) h f =
    (h.0, f q.name (let o = one_same q.name in omega (arith, o)), apart_in inputs all ps h.1 (λ n lt. f n (omega (arith, lt))))

others_in : (inputs all : List Name) (ps : Program) → ((n : Name) → 0 < count n (asked ps) → count n inputs ≡ 0) → Others inputs all ps
others_in inputs all [] f = tt
others_in inputs all (Register name fields ∷ ps) f = others_in inputs all ps f
others_in inputs all (AQuery q ∷ ps) f = (f q.name (let o = one_same q.name in omega (arith, o)), others_in inputs all ps (λ n lt. f n (omega (arith, lt))))

inputs_there : (inputs all : List Name) (ps : Program) → ((n : Name) → 0 < count n (registered ps) → 0 < count n inputs) → InputsThere inputs all ps
inputs_there inputs all [] f = tt
inputs_there inputs all (Register name fields ∷ ps) f =
    (f name (let o = one_same name in omega (arith, o)), inputs_there inputs all ps (λ n lt. f n (omega (arith, lt))))
inputs_there inputs all (AQuery q ∷ ps) f = inputs_there inputs all ps f

inputs_known : (inputs all : List Name) (known : Name → ℕ) (ps : Program) → ((n : Name) → 0 < count n (registered ps) → 0 < known n)
    → InputsKnown inputs all known ps
inputs_known inputs all known [] f = tt
inputs_known inputs all known (Register name fields ∷ ps) f =
    (f name (let o = one_same name in omega (arith, o)), inputs_known inputs all known ps (λ n lt. f n (omega (arith, lt))))
inputs_known inputs all known (AQuery q ∷ ps) f = inputs_known inputs all known ps f

-- the streams that are used have plain names
abbrev IsPlain : Name → Type 0
IsPlain n = IsTrue (has_no_at n)

plain_one : (ks : List Named) (n : Name) → AllByRecursion IsPlain (known_names ks) → 0 < count n (known_names ks) → IsPlain n
plain_one [] n h lt = absurd (omega (arith, lt))
plain_one (k ∷ ks) n h lt = ⊎_elim (λ c. subst IsPlain c.0 h.0) (λ c. plain_one ks n h.1 (let o = ap one_if c.1 in omega (arith, o, lt))) (cases_name k.name n)

plain_all : (ks : List Named) (ns : List Name) → AllByRecursion IsPlain (known_names ks) → AreKnown ks ns → AllByRecursion IsPlain ns
plain_all ks [] h a = tt
plain_all ks (n ∷ ns) h a = (plain_one ks n h a.0, plain_all ks ns h a.1)

both_lists : (xs ys : List Name) → AllByRecursion IsPlain xs → AllByRecursion IsPlain ys → AllByRecursion IsPlain (xs ++ ys)
both_lists [] ys a b = b
both_lists (x ∷ xs) ys a b = (a.0, both_lists xs ys a.1 b)

uses_plain : (ks : List Named) (ps : Program) → AllByRecursion IsPlain (known_names ks) → AllByRecursion IsPlain (declared_names ps) → AreQueries ks ps
    → AllByRecursion IsPlain (all_uses ps)
uses_plain ks [] h d a = tt
uses_plain ks (Register name fields ∷ ps) h d a = uses_plain (record { name = name; fields = fields } ∷ ks) ps (d.0, h) d.1 a.1
uses_plain ks (AQuery q ∷ ps) h d a =
    both_lists (streams_of q.items) (all_uses ps) (plain_all ks (streams_of q.items) h a.0.streams) (uses_plain (query_named ks q ∷ ks) ps (d.0, h) d.1 a.1)

-- each use is an operator, so they are few
pub count-length : (n : Name) (ns : List Name) → count n ns ≤ length ns
count-length n [] = omega arith
count-length n (m ∷ ms) = let e = count-length n ms in let b = one_small (name_eq m n) in omega (arith, e, b)

length-windows : (b : Name) (k : ℕ) (items : List Source) (srcs : List Name) → length srcs ≡ length items → length (window_ops b k items srcs) ≡ length items
length-windows b k [] srcs e = refl
length-windows b k (i ∷ is) [] e = absurd (omega (arith, e))
length-windows b k (i ∷ is) (s ∷ srcs) e = let m = length-windows b (k + 1) is srcs (omega (arith, e)) in omega (arith, m)

length-items : (b : Name) (items : List Source) (srcs : List Name) → length srcs ≡ length items → length items ≤ length (item_ops b items srcs)
length-items b [] srcs e = omega arith
length-items b (i ∷ is) srcs e =
    let a = length-append (window_ops b 1 (i ∷ is) srcs) (cross_ops b (w_name b 1) 2 is) in let m = length-windows b 1 (i ∷ is) srcs e in omega (arith, a, m)

-- there are no fewer operators than items
pub length-uses : (inputs all past : List Name) (ks : List Named) (ps : Program) → length (all_uses ps) ≤ length (queries_ops inputs all ks past ps)
length-uses inputs all past ks [] = omega arith
length-uses inputs all past ks (Register name fields ∷ ps) = length-uses inputs all past (record { name = name; fields = fields } ∷ ks) ps
length-uses inputs all past ks (AQuery q ∷ ps) =
    let srcs = queues_of_uses inputs all past (streams_of q.items) in
    let io = item_ops q.name q.items srcs in
    let to = tail_ops q (scope_of ks q.items) (count q.name all) (item_last q.name q.items) in
    let m = length-uses inputs all (past ++ streams_of q.items) (query_named ks q ∷ ks) ps in
    let a = length-append (streams_of q.items) (all_uses ps) in
    let e = length-map q.items (λ (i : Source). i.stream) in
    let b = length-append (query_ops inputs all ks past q) (queries_ops inputs all (query_named ks q ∷ ks) (past ++ streams_of q.items) ps) in
    let c = length-append io to in
    let l = length-items q.name q.items srcs (as_many inputs all past q.items) in
    omega (arith, m, a, e, b, c, l)

-- TYPES OF DECLARATIONS

kind_first : (d : Decl) (ds : List Decl) → kind_of (d ∷ ds) d.name ≡ d.kind
kind_first d ds = ap (λ b. unwrap_or (if b then Some d.kind else kind_in ds d.name) (rows 0)) (name_same d.name)

kind_next : (d : Decl) (ds es : List Decl) → ((z : Name) → count z (decl_names (d ∷ ds)) ≤ 1) → ((z : Name) → count z (decl_names es) ≤ count z (decl_names ds))
    → AllByRecursion (λ (e : Decl). kind_of ds e.name ≡ e.kind) es → AllByRecursion (λ (e : Decl). kind_of (d ∷ ds) e.name ≡ e.kind) es
kind_next d ds [] h sub a = tt
kind_next d ds (e ∷ es) h sub a = (
  ⊎_elim
      (λ c. absurd (let o = h e.name in let s = sub e.name in let f = one_same e.name in let g = ap one_if c.1 in omega (arith, o, s, f, g)))
      (λ c. ap (λ b. unwrap_or (if b then Some d.kind else kind_in ds e.name) (rows 0)) c.1 ∙ a.0)
      (cases_name d.name e.name),
  kind_next d ds es h (λ z. let s = sub z in omega (arith, s)) a.1,
)

kinds_are : (ds : List Decl) → ((z : Name) → count z (decl_names ds) ≤ 1) → AllByRecursion (λ (e : Decl). kind_of ds e.name ≡ e.kind) ds
kinds_are [] h = tt
kinds_are (d ∷ ds) h = (kind_first d ds, kind_next d ds ds h (λ z. omega arith) (kinds_are ds (λ z. let o = h z in omega (arith, o))))

own_from : (kind : Name → QueueType) (var : Name → VarKind) (ops : List OpForm) → ((v : Name) → 0 < total (vars_it v) ops → var v ≡ Private)
    → Each (one.Own kind var) ops
own_from kind var [] h = tt
own_from kind var (o ∷ os) h = ((λ v lt. h v (omega (arith, lt))), own_from kind var os (λ v lt. h v (omega (arith, lt))))

-- widths of declarations
all-decls : (P : Decl → Type 0) (ns : List Name) (k : QueueType) → ((n : Name) → P (decl n k)) → All P (decls_of ns k)
all-decls P [] k h = All-nil P
all-decls P (n ∷ ns) k h = All-cons P (decl n k) (decls_of ns k) (h n) (all-decls P ns k h)

windows_wide : (b : Name) (k : ℕ) (ks : List Named) → AllByRecursion (λ (i : Named). is_width (length i.fields) ≡ true) ks → All HasWidth (window_decls b k ks)
windows_wide b k [] z = All-nil HasWidth
windows_wide b k (i ∷ is) z = All-cons HasWidth (decl (w_name b k) (relation (length i.fields))) (window_decls b (k + 1) is) z.0 (windows_wide b (k + 1) is z.1)

crosses_wide : (b : Name) (width k : ℕ) (ks : List Named) → 1 ≤ width → width + widths_of ks ≤ 16 → All HasWidth (cross_decls b width k ks)
crosses_wide b width k [] some few = All-nil HasWidth
crosses_wide b width k (i ∷ is) some few =
    All-cons HasWidth _ (cross_decls b (width + length i.fields) (k + 1) is) (one.wide (width + length i.fields) (omega (arith, some)) (omega (arith, few)))
    (crosses_wide b (width + length i.fields) (k + 1) is (omega (arith, some)) (omega (arith, few)))

-- all that is known has a width of 1 to 16
abbrev pub Sized : List Named → Type 0
Sized ks = AllByRecursion (λ (i : Named). is_width (length i.fields) ≡ true) ks

items_wide : (b : Name) (ks : List Named) → Sized ks → widths_of ks ≤ 16 → All HasWidth (item_decls b ks)
items_wide b [] z few = All-nil HasWidth
items_wide b (i ∷ is) z few =
    All-append HasWidth (window_decls b 1 (i ∷ is)) (cross_decls b (length i.fields) 2 is) (windows_wide b 1 (i ∷ is) z)
    (crosses_wide b (length i.fields) 2 is (one.narrow (length i.fields) z.0).0 few)

select_wide : (b : Name) (width : ℕ) (o : Option Scalar) → is_width width ≡ true → All HasWidth (select_decls b width o)
select_wide b width None w = All-nil HasWidth
select_wide b width (Some e) w = All-cons HasWidth (decl (at_word b (codes "s")) (relation width)) [] w (All-nil HasWidth)

project_wide : (b : Name) (scope : List Named) (cs : Columns) → is_width (columns_width scope cs) ≡ true → All HasWidth (project_decls b cs)
project_wide b scope Star w = All-nil HasWidth
project_wide b scope (Chosen cs) w = All-cons HasWidth (decl (at_word b (codes "p")) (relation (length cs))) [] w (All-nil HasWidth)

out_wide : (b : Name) (width u : ℕ) → is_width width ≡ true → All HasWidth (out_decls b width u)
out_wide b width zero w = All-nil HasWidth
out_wide b width (suc u) w =
    All-cons HasWidth (decl (at_word b (codes "o")) (stream width)) (decls_of (copy_names b 0 (suc u)) (stream width)) w
    (all-decls HasWidth (copy_names b 0 (suc u)) (stream width) (λ n. w))

-- items are there, so their product has a value
pub sized_some : (ks : List Named) → 0 < length ks → Sized ks → 1 ≤ widths_of ks
sized_some [] some z = absurd (omega (arith, some))
sized_some (k ∷ ks) some z = let n = (one.narrow (length k.fields) z.0).0 in omega (arith, n)

query_wide : (all : List Name) (ks : List Named) (q : Query) → IsPlannableQuery ks q → Sized (scope_of ks q.items) → All HasWidth (query_decls all ks q)
query_wide all ks q a z =
    let b = q.name in let scope = scope_of ks q.items in
    let sd = select_decls b (widths_of scope) q.condition in
    let pd = project_decls b q.columns in
    let od = out_decls b (columns_width scope q.columns) (count q.name all) in
    let long : 0 < length scope = (let e = length-map q.items (item_named ks) in let m = a.some in omega (arith, e, m)) in
    let w : is_width (widths_of scope) ≡ true = one.wide (widths_of scope) (sized_some scope long z) a.product in
    All-append HasWidth (item_decls b scope) (sd ++ (pd ++ od)) (items_wide b scope z a.product)
    (All-append HasWidth sd (pd ++ od) (select_wide b (widths_of scope) q.condition w)
    (All-append HasWidth pd od (project_wide b scope q.columns a.columns) (out_wide b (columns_width scope q.columns) (count q.name all) a.columns)))

queries_wide : (inputs all : List Name) (ks : List Named) (ps : Program) → Sized ks → AreQueries ks ps → All HasWidth (queries_decls all ks ps)
queries_wide inputs all ks [] z a = All-nil HasWidth
queries_wide inputs all ks (Register name fields ∷ ps) z a = queries_wide inputs all (record { name = name; fields = fields } ∷ ks) ps (a.0, z) a.1
queries_wide inputs all ks (AQuery q ∷ ps) z a =
    All-append HasWidth (query_decls all ks q) (queries_decls all (query_named ks q ∷ ks) ps)
    (query_wide all ks q a.0 (sized_scope (λ n. rows 0) (λ v. Private) inputs all ks q.items z a.0.streams))
    (queries_wide inputs all (query_named ks q ∷ ks) ps (ap is_width (columns_many (scope_of ks q.items) q.columns) ∙ a.0.columns, z) a.1)

copy_wide : (n : Name) (width u : ℕ) → is_width width ≡ true → All HasWidth (copy_decls n width u)
copy_wide n width zero w = All-nil HasWidth
copy_wide n width (suc zero) w = All-nil HasWidth
copy_wide n width (suc (suc u)) w = all-decls HasWidth (copy_names n 0 (suc (suc u))) (stream width) (λ m. w)

copies_wide : (all : List Name) (ks : List Named) (ps : Program) → AreQueries ks ps → All HasWidth (input_copies all ps)
copies_wide all ks [] a = All-nil HasWidth
copies_wide all ks (Register name fields ∷ ps) a =
    All-append HasWidth (copy_decls name (length fields) (count name all)) (input_copies all ps) (copy_wide name (length fields) (count name all) a.0)
    (copies_wide all (record { name = name; fields = fields } ∷ ks) ps a.1)
copies_wide all ks (AQuery q ∷ ps) a = copies_wide all (query_named ks q ∷ ks) ps a.1

outer_inputs : (ks : List Named) (ps : Program) → AreQueries ks ps → All IsOuter (input_decls ps)
outer_inputs ks [] a = All-nil IsOuter
outer_inputs ks (Register name fields ∷ ps) a =
    All-cons IsOuter (decl name (stream (length fields))) (input_decls ps) (a.0, tt) (outer_inputs (record { name = name; fields = fields } ∷ ks) ps a.1)
outer_inputs ks (AQuery q ∷ ps) a = outer_inputs (query_named ks q ∷ ks) ps a.1

outer_outputs : (ks : List Named) (ps : Program) → AreQueries ks ps → All IsOuter (output_decls ks ps)
outer_outputs ks [] a = All-nil IsOuter
outer_outputs ks (Register name fields ∷ ps) a = outer_outputs (record { name = name; fields = fields } ∷ ks) ps a.1
outer_outputs ks (AQuery q ∷ ps) a =
    All-cons IsOuter (decl q.name (stream (columns_width (scope_of ks q.items) q.columns))) (output_decls (query_named ks q ∷ ks) ps) (a.0.columns, tt)
    (outer_outputs (query_named ks q ∷ ks) ps a.1)

-- VARIABLES: one at most in each operator

abbrev Single : OpForm → Type 0
Single o = (v : Name) → vars_it v o ≤ 1

single_from : (ops : List OpForm) → ((v : Name) → total (vars_it v) ops ≤ 1) → Each Single ops
single_from [] h = tt
single_from (o ∷ os) h = ((λ v. let t = h v in omega (arith, t)), single_from os (λ v. let t = h v in omega (arith, t)))

-- THE PLAN

-- the law: plans keep all rules but the limits
pub plans_keep : PlansKeep
plans_keep p a =
    let all = all_uses p in
    let ins = registered p in
    let io = input_ops all p in
    let ao = queries_ops ins all [] [] p in
    let items = few_items [] p a.queries in
    let plain = uses_plain [] p tt a.names a.queries in
    let room : Room ins all [] all = λ n. omega arith in
    let queries_apart : (n : Name) → 0 < count n (asked p)
    → count n ins ≡ 0 = λ n lt. (let s = declared_split n p in let o = a.once n in omega (arith, s, o, lt)) in
    let apart = apart_in ins all p a.names queries_apart in
    let others = others_in ins all p queries_apart in
    let there = inputs_there ins all p (λ n lt. lt) in
    -- how often names stand
    let queues : (z : Name) → sums (queues_of all) z p ≤ 1 = λ z. sums_once (queues_of all) z p a.names a.once (queues_once all p items) in
    let split_ops : (f : OpForm → ℕ) → total f (ops_of p) ≡ total f io + total f ao = λ f. total-append f io ao in
    let names_are : (z : Name) → count z (queue_names (plan_of p)) ≡ sums (queues_of all) z p = λ z.
    (let a1 = count-append z (decl_names (output_decls [] p)) (decl_names (input_decls p) ++ decl_names (input_copies all p ++ queries_decls all [] p)) in
    let a2 = count-append z (decl_names (input_decls p)) (decl_names (input_copies all p ++ queries_decls all [] p)) in
    let a3 = names-append z (input_copies all p) (queries_decls all [] p) in
    let d = all_decls_sum z all [] p in omega (arith, a1, a2, a3, d)) in
    let writes_are : (z : Name) → count z (decl_names (input_decls p)) + total (writes_it z) (ops_of p) ≡ sums (queues_of all) z p = λ z.
    (let s = split_ops (writes_it z) in let i = inputs_declared z p in let w = all_writes z ins all [] [] p in omega (arith, s, i, w)) in
    let reads_are : (z : Name)
    → count z (decl_names (output_decls [] p)) + total (reads_it z) (ops_of p) ≡ sums (taken_of all) z p + count z (queues_of_uses ins all [] all) = λ z.
    (let s = split_ops (reads_it z) in let r = all_reads z ins all [] [] p items in omega (arith, s, r)) in
    let vars : (v : Name) → total (vars_it v) (ops_of p) ≤ 1 = λ v.
    (let s = split_ops (vars_it v) in let e = all_vars_sum v ins all [] [] p in let o =
    sums_once vars_of v p a.names a.once (vars_once p items) in omega (arith, s, e, o)) in
    let read_by_one : (z : Name) → sums (taken_of all) z p + count z (queues_of_uses ins all [] all) ≤ 1 = λ z.
    (let o = sums_once (taken_of all) z p a.names a.once (taken_once all p items) in let r = read_once ins all z [] all plain room in
    ⊎_elim
    (λ lt. let n = hit_apart ins all z p (hit ins all z [] all plain room lt) apart items in omega (arith, n, r))
    (λ none. omega (arith, none, o))
    (more_or_zero (count z (queues_of_uses ins all [] all)))) in
    -- the order
    let known : Name → ℕ = λ z. count z (decl_names (input_decls p)) in
    let ins_known = inputs_known ins all known p (λ n lt. let i = inputs_declared n p in omega (arith, i, lt)) in
    let order : ReadsBefore known (ops_of p) =
    reads_append io ao known (inputs_in_order ins all known p ins_known)
    (queries_in_order ins all (behind known io) [] [] p tt (inputs_serve ins all known p there ins_known) a.queries others room) in
    -- the types
    let kind : Name → QueueType = kind_of (all_decls (plan_of p)) in
    let var : Name → VarKind = var_kind [] (all_vars (ops_of p)) in
    let one_decl : (z : Name) → count z (decl_names (all_decls (plan_of p))) ≤ 1 = λ z.
    (let q = queues z in let d = all_decls_sum z all [] p in
    let a1 = names-append z (output_decls [] p) (input_decls p ++ (input_copies all p ++ queries_decls all [] p)) in
    let a2 = names-append z (input_decls p) (input_copies all p ++ queries_decls all [] p) in
    let a3 = names-append z (input_copies all p) (queries_decls all [] p) in omega (arith, q, d, a1, a2, a3)) in
    let kinds = kinds_are (all_decls (plan_of p)) one_decl in
    let k1 = one.kinds-append kind var (output_decls [] p) (input_decls p ++ (input_copies all p ++ queries_decls all [] p)) kinds in
    let k2 = one.kinds-append kind var (input_decls p) (input_copies all p ++ queries_decls all [] p) k1.1 in
    let k3 = one.kinds-append kind var (input_copies all p) (queries_decls all [] p) k2.1 in
    let found : (v : Name) → 0 < total (vars_it v) (ops_of p) → var v ≡ Private = λ v lt.
    ap (λ o. unwrap_or o (Table 0)) (private_there (all_vars (ops_of p)) v (let t = total-vars v (ops_of p) in omega (arith, t, lt))) in
    let own = own_from kind var (ops_of p) found in
    let owns = each-append (one.Own kind var) io ao own in
    let fit = each_append (one.Fit kind var) io ao (inputs_fit kind var ins all [] p a.queries k2.0 k3.0)
    (queries_fit kind var ins all [] [] p tt tt (input_kinds kind var ins all p there k2.0 k3.0) a.queries others room k3.1 k1.0 owns.1) in
    record {
      queues_once = λ q. let e = names_are q in let o = queues q in omega (arith, e, o);
      variables_once = λ v. let t = total-vars v (ops_of p) in let o = vars v in omega (arith, t, o);
      labels_once =
          λ l. let s =
          split_ops (named_it l) in let e = all_labels l ins all [] [] p in let o =
          sums_once (labels_of all) l p a.names a.once (labels_once all p items) in omega (arith, s, e, o);
      reads_declared = λ q lt. let t = reads_there (ops_of p) known order q lt in let e = names_are q in let w = writes_are q in omega (arith, t, e, w);
      writes_declared = λ q lt. let e = names_are q in let w = writes_are q in omega (arith, e, w, lt);
      vars_declared = λ v lt. let t = total-vars v (ops_of p) in omega (arith, t, lt);
      written_once = λ q. let w = writes_are q in let o = queues q in omega (arith, w, o);
      read_once = λ q. let r = reads_are q in let o = read_by_one q in omega (arith, r, o);
      in_order = order;
      outputs_typed = outer_outputs [] p a.queries;
      inputs_typed = outer_inputs [] p a.queries;
      queues_typed = All-append HasWidth (input_copies all p) (queries_decls all [] p) (copies_wide all [] p a.queries)
          (queries_wide ins all [] p tt a.queries);
      tables_typed = All-nil (λ t. IsTableKind t.kind);
      fits = fit;
      vars_apart = single_from (ops_of p) vars;
      private_once = λ v lt. vars v;
    }
