-- How often a name stands among a plan's queues, variables and labels, part by part.
use Rattle.std.proofs.Common.{◌≡◌, ℕ, zero, suc, ◌+◌, ◌<◌, ◌≤◌, Option, Some, None, List, [], ◌∷◌, ◌++◌, refl, ap, ◌∙◌, arith, length, map}
use Rattle.std.specs.Prelude.{codes}
use Rattle.river_base.specs.Name.{name_eq}
use Rattle.river_plan.specs.declared.plan.Decl.{Decl}
use Rattle.river_base.specs.declared.kind.QueueType.{QueueType}
use Rattle.river_plan.specs.Forms.{Name, OpForm, decl_names}
use Rattle.river_plan.specs.Names.{one_if, count}
use Rattle.river_plan.specs.Uses.{total, writes_it, reads_it, vars_it, named_it}
use Rattle.cql_model.specs.KernelWords.{streamer_of}
use Rattle.cql_model.specs.Numeral.{numeral}
use Rattle.cql_text.specs.Tree.{Scalar, Source, Columns, Star, Chosen, Query}
use Rattle.cql_model.specs.Scopes.{Named, scope_of, item_named}
use Rattle.river_kernels.specs.Kern.{streamer}
use Rattle.river_kernels.specs.Fits.{stream}
use Rattle.cql_model.specs.Plan.{op, at_word, copy_names, window_ops, cross_ops, cross_last, select_ops, select_last, project_ops, project_last, out_ops}
use Rattle.cql_model.specs.Plan.{out_name, tail_ops, item_ops, item_last, w_name, x_name, decls_of, widths_of, window_decls, cross_decls, item_decls}
use Rattle.cql_model.specs.Plan.{select_decls, project_decls, out_decls, query_decls, columns_width}
use Rattle.river_plan.proofs.ValidLaw.{total-append}
use Rattle.cql_model.proofs.Naming.{Tag, tagged, numbers, From, Of, from_nil, from_more, of_nil, of_one, of_numbers, of_letter}

-- names of one stream or query
abbrev pub among : Name → Name → List Tag → ℕ
among z b ts = count z (map (tagged b) ts)

-- a name counts among two lists of tags as often as in both
pub among-append : (z b : Name) (xs ys : List Tag) → among z b (xs ++ ys) ≡ among z b xs + among z b ys
among-append z b [] ys = omega arith
among-append z b (x ∷ xs) ys = let e = among-append z b xs ys in omega (arith, e)

-- TAGS OF THE PARTS OF A QUERY

-- the name that is made of a word alone
abbrev pub word : List ℕ → List Tag
word w = Some w ∷ []

abbrev pub w_tags : ℕ → List Source → List Tag
w_tags k items = numbers (codes "w") k (length items)

abbrev pub x_tags : ℕ → List Source → List Tag
x_tags k items = numbers (codes "x") k (length items)

abbrev pub rest_of : List Source → List Source
rest_of [] = []
rest_of (i ∷ is) = is

abbrev pub s_tags : Option Scalar → List Tag
s_tags None = []
s_tags (Some e) = word (codes "s")

abbrev pub p_tags : Columns → List Tag
p_tags Star = []
p_tags (Chosen cs) = word (codes "p")

abbrev pub o_tags : ℕ → List Tag
o_tags zero = []
o_tags (suc u) = word (codes "o")

abbrev pub d_tags : ℕ → List Tag
d_tags zero = []
d_tags (suc u) = word (codes "d")

-- the queues between a query's operators
abbrev pub inner_tags : ℕ → Query → List Tag
inner_tags u q = o_tags u ++ (p_tags q.columns ++ (s_tags q.condition ++ (w_tags 1 q.items ++ x_tags 2 (rest_of q.items))))

-- all of its queues
abbrev pub query_tags : ℕ → Query → List Tag
query_tags u q = (None ∷ []) ++ (numbers [] 1 u ++ inner_tags u q)

-- WRITES

-- copies are numbered tags of their stream
pub copies_are : (b : Name) (k u : ℕ) → copy_names b k u ≡ map (tagged b) (numbers [] (k + 1) u)
copies_are b k zero = refl
copies_are b k (suc u) = ap (λ l. at_word b (numeral (k + 1)) ∷ l) (copies_are b (k + 1) u)

windows_write : (z b : Name) (k : ℕ) (items : List Source) (srcs : List Name) → length srcs ≡ length items
    → total (writes_it z) (window_ops b k items srcs) ≡ among z b (w_tags k items)
windows_write z b k [] srcs e = refl
windows_write z b k (i ∷ is) [] e = absurd (omega (arith, e))
windows_write z b k (i ∷ is) (s ∷ srcs) e = let m = windows_write z b (k + 1) is srcs (omega (arith, e)) in omega (arith, m)

crosses_write : (z b last : Name) (k : ℕ) (items : List Source) → total (writes_it z) (cross_ops b last k items) ≡ among z b (x_tags k items)
crosses_write z b last k [] = refl
crosses_write z b last k (i ∷ is) = let m = crosses_write z b (x_name b k) (k + 1) is in omega (arith, m)

items_write : (z b : Name) (items : List Source) (srcs : List Name) → length srcs ≡ length items
    → total (writes_it z) (item_ops b items srcs) ≡ among z b (w_tags 1 items) + among z b (x_tags 2 (rest_of items))
items_write z b [] srcs e = refl
items_write z b (i ∷ is) srcs e =
    let a = total-append (writes_it z) (window_ops b 1 (i ∷ is) srcs) (cross_ops b (w_name b 1) 2 is) in
    let w = windows_write z b 1 (i ∷ is) srcs e in let x = crosses_write z b (w_name b 1) 2 is in omega (arith, a, w, x)

select_writes : (z b : Name) (scope : List Named) (last : Name) (o : Option Scalar) → total (writes_it z) (select_ops b scope last o) ≡ among z b (s_tags o)
select_writes z b scope last None = refl
select_writes z b scope last (Some e) = omega arith

project_writes : (z b : Name) (scope : List Named) (last : Name) (cs : Columns) → total (writes_it z) (project_ops b scope last cs) ≡ among z b (p_tags cs)
project_writes z b scope last Star = refl
project_writes z b scope last (Chosen cs) = omega arith

out_writes : (z b : Name) (u : ℕ)
    → (count z (out_name b u ∷ []) + total (writes_it z) (out_ops b u)) ≡ among z b (None ∷ []) + (among z b (numbers [] 1 u) + among z b (o_tags u))
out_writes z b zero = omega arith
out_writes z b (suc u) = let e = ap (count z) (copies_are b 0 (suc u)) in omega (arith, e)

-- the operators behind the items
abbrev pub stream_op : Query → ℕ → Name → OpForm
stream_op q u last = op (at_word q.name (codes "i")) (streamer (streamer_of q.kind)) (last ∷ []) (out_name q.name u ∷ []) (at_word q.name (codes "i") ∷ [])

-- the queue that a projection reads
abbrev pub project_from : Query → Name → Name
project_from q last = select_last q.name last q.condition

tail_total : (f : OpForm → ℕ) (q : Query) (scope : List Named) (u : ℕ) (last : Name)
    → total f (tail_ops q scope u last) ≡ total f (select_ops q.name scope last q.condition)
    + (total f (project_ops q.name scope (project_from q last) q.columns) +
    (f (stream_op q u (project_last q.name (project_from q last) q.columns)) + total f (out_ops q.name u)))
tail_total f q scope u last =
    let so = select_ops q.name scope last q.condition in
    let po = project_ops q.name scope (project_from q last) q.columns in
    let rest : List OpForm = stream_op q u (project_last q.name (project_from q last) q.columns) ∷ out_ops q.name u in
    total-append f so (po ++ rest) ∙ ap (λ n. total f so + n) (total-append f po rest)

inner_split : (z b : Name) (u : ℕ) (q : Query)
    → among z b (inner_tags u q) ≡ among z b (o_tags u) +
    (among z b (p_tags q.columns) + (among z b (s_tags q.condition) + (among z b (w_tags 1 q.items) + among z b (x_tags 2 (rest_of q.items)))))
inner_split z b u q =
    let w = w_tags 1 q.items in let x = x_tags 2 (rest_of q.items) in let s = s_tags q.condition in let p = p_tags q.columns in
    among-append z b (o_tags u) (p ++ (s ++ (w ++ x)))
    ∙ ap (λ n. among z b (o_tags u) + n)
    (among-append z b p (s ++ (w ++ x)) ∙ ap (λ n. among z b p + n) (among-append z b s (w ++ x) ∙ ap (λ n. among z b s + n) (among-append z b w x)))

-- the operators of a query
abbrev pub block_ops : Query → List Named → ℕ → List Name → List OpForm
block_ops q scope u srcs = item_ops q.name q.items srcs ++ tail_ops q scope u (item_last q.name q.items)

-- how often the operators of a query write a queue
pub block_writes : (z : Name) (q : Query) (scope : List Named) (u : ℕ) (srcs : List Name) → length srcs ≡ length q.items
    → total (writes_it z) (block_ops q scope u srcs) ≡ among z q.name (query_tags u q)
block_writes z q scope u srcs e =
    let b = q.name in
    let last = item_last b q.items in
    let a = total-append (writes_it z) (item_ops b q.items srcs) (tail_ops q scope u last) in
    let i = items_write z b q.items srcs e in
    let t = tail_total (writes_it z) q scope u last in
    let s = select_writes z b scope last q.condition in
    let p = project_writes z b scope (project_from q last) q.columns in
    let o = out_writes z b u in
    let n = inner_split z b u q in
    let m = among-append z b (numbers [] 1 u) (inner_tags u q) in
    let k = among-append z b (None ∷ []) (numbers [] 1 u ++ inner_tags u q) in
    omega (arith, a, i, t, s, p, o, n, m, k)

-- READS: what comes in by the items, and each queue between

windows_read : (z b : Name) (k : ℕ) (items : List Source) (srcs : List Name) → length srcs ≡ length items
    → total (reads_it z) (window_ops b k items srcs) ≡ count z srcs
windows_read z b k [] [] e = refl
windows_read z b k [] (s ∷ srcs) e = absurd (omega (arith, e))
windows_read z b k (i ∷ is) [] e = absurd (omega (arith, e))
windows_read z b k (i ∷ is) (s ∷ srcs) e = let m = windows_read z b (k + 1) is srcs (omega (arith, e)) in omega (arith, m)

crosses_read : (z b last : Name) (k : ℕ) (items : List Source)
    → total (reads_it z) (cross_ops b last k items) + one_if (name_eq (cross_last b last k items) z) ≡ one_if (name_eq last z) +
    (among z b (w_tags k items) + among z b (x_tags k items))
crosses_read z b last k [] = omega arith
crosses_read z b last k (i ∷ is) = let m = crosses_read z b (x_name b k) (k + 1) is in omega (arith, m)

items_read : (z b : Name) (items : List Source) (srcs : List Name) → 0 < length items → length srcs ≡ length items
    → total (reads_it z) (item_ops b items srcs) + one_if (name_eq (item_last b items) z) ≡ count z srcs +
    (among z b (w_tags 1 items) + among z b (x_tags 2 (rest_of items)))
items_read z b [] srcs some e = absurd (omega (arith, some))
items_read z b (i ∷ is) srcs some e =
    let a = total-append (reads_it z) (window_ops b 1 (i ∷ is) srcs) (cross_ops b (w_name b 1) 2 is) in
    let w = windows_read z b 1 (i ∷ is) srcs e in let x = crosses_read z b (w_name b 1) 2 is in omega (arith, a, w, x)

select_reads : (z b : Name) (scope : List Named) (last : Name) (o : Option Scalar)
    → total (reads_it z) (select_ops b scope last o) + one_if (name_eq (select_last b last o) z) ≡ one_if (name_eq last z) + among z b (s_tags o)
select_reads z b scope last None = omega arith
select_reads z b scope last (Some e) = omega arith

project_reads : (z b : Name) (scope : List Named) (last : Name) (cs : Columns)
    → total (reads_it z) (project_ops b scope last cs) + one_if (name_eq (project_last b last cs) z) ≡ one_if (name_eq last z) + among z b (p_tags cs)
project_reads z b scope last Star = omega arith
project_reads z b scope last (Chosen cs) = omega arith

out_reads : (z b : Name) (u : ℕ) → total (reads_it z) (out_ops b u) ≡ among z b (o_tags u)
out_reads z b zero = refl
out_reads z b (suc u) = omega arith

-- how often they read one
pub block_reads : (z : Name) (q : Query) (scope : List Named) (u : ℕ) (srcs : List Name) → 0 < length q.items → length srcs ≡ length q.items
    → total (reads_it z) (block_ops q scope u srcs) ≡ count z srcs + among z q.name (inner_tags u q)
block_reads z q scope u srcs some e =
    let b = q.name in
    let last = item_last b q.items in
    let a = total-append (reads_it z) (item_ops b q.items srcs) (tail_ops q scope u last) in
    let i = items_read z b q.items srcs some e in
    let t = tail_total (reads_it z) q scope u last in
    let s = select_reads z b scope last q.condition in
    let p = project_reads z b scope (project_from q last) q.columns in
    let o = out_reads z b u in
    let n = inner_split z b u q in
    omega (arith, a, i, t, s, p, o, n)

-- VARIABLES AND LABELS

-- the variables of a query
abbrev pub var_tags : Query → List Tag
var_tags q = word (codes "i") ++ (w_tags 1 q.items ++ x_tags 2 (rest_of q.items))

-- the labels of a query
abbrev pub label_tags : ℕ → Query → List Tag
label_tags u q = d_tags u ++ (word (codes "i") ++ (p_tags q.columns ++ (s_tags q.condition ++ (w_tags 1 q.items ++ x_tags 2 (rest_of q.items)))))

windows_vars : (z b : Name) (k : ℕ) (items : List Source) (srcs : List Name) → length srcs ≡ length items
    → total (vars_it z) (window_ops b k items srcs) ≡ among z b (w_tags k items)
windows_vars z b k [] srcs e = refl
windows_vars z b k (i ∷ is) [] e = absurd (omega (arith, e))
windows_vars z b k (i ∷ is) (s ∷ srcs) e = let m = windows_vars z b (k + 1) is srcs (omega (arith, e)) in omega (arith, m)

crosses_vars : (z b last : Name) (k : ℕ) (items : List Source) → total (vars_it z) (cross_ops b last k items) ≡ among z b (x_tags k items)
crosses_vars z b last k [] = refl
crosses_vars z b last k (i ∷ is) = let m = crosses_vars z b (x_name b k) (k + 1) is in omega (arith, m)

items_vars : (z b : Name) (items : List Source) (srcs : List Name) → length srcs ≡ length items
    → total (vars_it z) (item_ops b items srcs) ≡ among z b (w_tags 1 items) + among z b (x_tags 2 (rest_of items))
items_vars z b [] srcs e = refl
items_vars z b (i ∷ is) srcs e =
    let a = total-append (vars_it z) (window_ops b 1 (i ∷ is) srcs) (cross_ops b (w_name b 1) 2 is) in
    let w = windows_vars z b 1 (i ∷ is) srcs e in let x = crosses_vars z b (w_name b 1) 2 is in omega (arith, a, w, x)

select_vars : (z b : Name) (scope : List Named) (last : Name) (o : Option Scalar) → total (vars_it z) (select_ops b scope last o) ≡ 0
select_vars z b scope last None = refl
select_vars z b scope last (Some e) = refl

project_vars : (z b : Name) (scope : List Named) (last : Name) (cs : Columns) → total (vars_it z) (project_ops b scope last cs) ≡ 0
project_vars z b scope last Star = refl
project_vars z b scope last (Chosen cs) = refl

out_vars : (z b : Name) (u : ℕ) → total (vars_it z) (out_ops b u) ≡ 0
out_vars z b zero = refl
out_vars z b (suc u) = refl

-- how often they use a variable
pub block_vars : (z : Name) (q : Query) (scope : List Named) (u : ℕ) (srcs : List Name) → length srcs ≡ length q.items
    → total (vars_it z) (block_ops q scope u srcs) ≡ among z q.name (var_tags q)
block_vars z q scope u srcs e =
    let b = q.name in
    let last = item_last b q.items in
    let a = total-append (vars_it z) (item_ops b q.items srcs) (tail_ops q scope u last) in
    let i = items_vars z b q.items srcs e in
    let t = tail_total (vars_it z) q scope u last in
    let s = select_vars z b scope last q.condition in
    let p = project_vars z b scope (project_from q last) q.columns in
    let o = out_vars z b u in
    let m = among-append z b (word (codes "i")) (w_tags 1 q.items ++ x_tags 2 (rest_of q.items)) in
    let n = among-append z b (w_tags 1 q.items) (x_tags 2 (rest_of q.items)) in
    omega (arith, a, i, t, s, p, o, m, n)

windows_label : (z b : Name) (k : ℕ) (items : List Source) (srcs : List Name) → length srcs ≡ length items
    → total (named_it z) (window_ops b k items srcs) ≡ among z b (w_tags k items)
windows_label z b k [] srcs e = refl
windows_label z b k (i ∷ is) [] e = absurd (omega (arith, e))
windows_label z b k (i ∷ is) (s ∷ srcs) e = let m = windows_label z b (k + 1) is srcs (omega (arith, e)) in omega (arith, m)

crosses_label : (z b last : Name) (k : ℕ) (items : List Source) → total (named_it z) (cross_ops b last k items) ≡ among z b (x_tags k items)
crosses_label z b last k [] = refl
crosses_label z b last k (i ∷ is) = let m = crosses_label z b (x_name b k) (k + 1) is in omega (arith, m)

items_label : (z b : Name) (items : List Source) (srcs : List Name) → length srcs ≡ length items
    → total (named_it z) (item_ops b items srcs) ≡ among z b (w_tags 1 items) + among z b (x_tags 2 (rest_of items))
items_label z b [] srcs e = refl
items_label z b (i ∷ is) srcs e =
    let a = total-append (named_it z) (window_ops b 1 (i ∷ is) srcs) (cross_ops b (w_name b 1) 2 is) in
    let w = windows_label z b 1 (i ∷ is) srcs e in let x = crosses_label z b (w_name b 1) 2 is in omega (arith, a, w, x)

select_label : (z b : Name) (scope : List Named) (last : Name) (o : Option Scalar) → total (named_it z) (select_ops b scope last o) ≡ among z b (s_tags o)
select_label z b scope last None = refl
select_label z b scope last (Some e) = refl

project_label : (z b : Name) (scope : List Named) (last : Name) (cs : Columns) → total (named_it z) (project_ops b scope last cs) ≡ among z b (p_tags cs)
project_label z b scope last Star = refl
project_label z b scope last (Chosen cs) = refl

out_label : (z b : Name) (u : ℕ) → total (named_it z) (out_ops b u) ≡ among z b (d_tags u)
out_label z b zero = refl
out_label z b (suc u) = refl

-- how often they have a label
pub block_labels : (z : Name) (q : Query) (scope : List Named) (u : ℕ) (srcs : List Name) → length srcs ≡ length q.items
    → total (named_it z) (block_ops q scope u srcs) ≡ among z q.name (label_tags u q)
block_labels z q scope u srcs e =
    let b = q.name in
    let last = item_last b q.items in
    let w = w_tags 1 q.items in let x = x_tags 2 (rest_of q.items) in let st = s_tags q.condition in let pt = p_tags q.columns in
    let a = total-append (named_it z) (item_ops b q.items srcs) (tail_ops q scope u last) in
    let i = items_label z b q.items srcs e in
    let t = tail_total (named_it z) q scope u last in
    let s = select_label z b scope last q.condition in
    let p = project_label z b scope (project_from q last) q.columns in
    let o = out_label z b u in
    let n1 = among-append z b (d_tags u) (word (codes "i") ++ (pt ++ (st ++ (w ++ x)))) in
    let n2 = among-append z b (word (codes "i")) (pt ++ (st ++ (w ++ x))) in
    let n3 = among-append z b pt (st ++ (w ++ x)) in
    let n4 = among-append z b st (w ++ x) in
    let n5 = among-append z b w x in
    omega (arith, a, i, t, s, p, o, n1, n2, n3, n4, n5)

-- DECLARATIONS

-- a name is declared in two lists as often as in both
pub names-append : (z : Name) (xs ys : List Decl) → count z (decl_names (xs ++ ys)) ≡ count z (decl_names xs) + count z (decl_names ys)
names-append z [] ys = omega arith
names-append z (x ∷ xs) ys = let e = names-append z xs ys in omega (arith, e)

-- the names of declarations of one type are the names they were made of
pub names_decls : (ns : List Name) (k : QueueType) → decl_names (decls_of ns k) ≡ ns
names_decls [] k = refl
names_decls (n ∷ ns) k = ap (λ l. n ∷ l) (names_decls ns k)

windows_decl : (z b : Name) (known : List Named) (k : ℕ) (items : List Source)
    → count z (decl_names (window_decls b k (scope_of known items))) ≡ among z b (w_tags k items)
windows_decl z b known k [] = refl
windows_decl z b known k (i ∷ is) = let m = windows_decl z b known (k + 1) is in omega (arith, m)

crosses_decl : (z b : Name) (known : List Named) (width k : ℕ) (items : List Source)
    → count z (decl_names (cross_decls b width k (scope_of known items))) ≡ among z b (x_tags k items)
crosses_decl z b known width k [] = refl
crosses_decl z b known width k (i ∷ is) = let m = crosses_decl z b known (width + length (item_named known i).fields) (k + 1) is in omega (arith, m)

items_decl : (z b : Name) (known : List Named) (items : List Source)
    → count z (decl_names (item_decls b (scope_of known items))) ≡ among z b (w_tags 1 items) + among z b (x_tags 2 (rest_of items))
items_decl z b known [] = refl
items_decl z b known (i ∷ is) =
    let i0 = item_named known i in
    let a = names-append z (window_decls b 1 (scope_of known (i ∷ is))) (cross_decls b (length i0.fields) 2 (scope_of known is)) in
    let w = windows_decl z b known 1 (i ∷ is) in let x = crosses_decl z b known (length i0.fields) 2 is in omega (arith, a, w, x)

select_decl : (z b : Name) (width : ℕ) (o : Option Scalar) → count z (decl_names (select_decls b width o)) ≡ among z b (s_tags o)
select_decl z b width None = refl
select_decl z b width (Some e) = refl

project_decl : (z b : Name) (cs : Columns) → count z (decl_names (project_decls b cs)) ≡ among z b (p_tags cs)
project_decl z b Star = refl
project_decl z b (Chosen cs) = refl

out_decl : (z b : Name) (width u : ℕ) → count z (decl_names (out_decls b width u)) ≡ among z b (numbers [] 1 u) + among z b (o_tags u)
out_decl z b width zero = refl
out_decl z b width (suc u) = let e = ap (count z) (names_decls (copy_names b 0 (suc u)) (stream width) ∙ copies_are b 0 (suc u)) in omega (arith, e)

-- the query's output beside its other queues
pub block_decls : (z : Name) (all : List Name) (known : List Named) (q : Query)
    → one_if (name_eq q.name z) + count z (decl_names (query_decls all known q)) ≡ among z q.name (query_tags (count q.name all) q)
block_decls z all known q =
    let b = q.name in let u = count q.name all in let scope = scope_of known q.items in
    let sd = select_decls b (widths_of scope) q.condition in
    let pd = project_decls b q.columns in
    let od = out_decls b (columns_width scope q.columns) u in
    let a1 = names-append z (item_decls b scope) (sd ++ (pd ++ od)) in
    let a2 = names-append z sd (pd ++ od) in
    let a3 = names-append z pd od in
    let i = items_decl z b known q.items in
    let s = select_decl z b (widths_of scope) q.condition in
    let p = project_decl z b q.columns in
    let o = out_decl z b (columns_width scope q.columns) u in
    let n = inner_split z b u q in
    let m = among-append z b (numbers [] 1 u) (inner_tags u q) in
    let k = among-append z b (None ∷ []) (numbers [] 1 u ++ inner_tags u q) in
    omega (arith, a1, a2, a3, i, s, p, o, n, m, k)

-- TAGS STAND ONCE

items_from : (items : List Source) → length items ≤ 4 → From 119 (w_tags 1 items ++ x_tags 2 (rest_of items))
items_from items h =
    from_more 119 120 (w_tags 1 items) (x_tags 2 (rest_of items)) (omega arith) (of_letter 119 1 (length items) (omega arith)) (x_from items h) where
      x_from : (is : List Source) → length is ≤ 4 → From 120 (x_tags 2 (rest_of is))
      x_from [] h = from_nil 120
      x_from (i ∷ is) h = all_from (of_letter 120 2 (length is) (omega arith)) where
        all_from : Of 120 (x_tags 2 is) → From 120 (x_tags 2 is)
        all_from o = record { once = o.once; above = λ t lt. let e = o.only t lt in omega (arith, e) }

s_from : (o : Option Scalar) (ts : List Tag) → From 119 ts → From 115 (s_tags o ++ ts)
s_from None ts f = from_more 115 119 [] ts (omega arith) (of_nil 115) f
s_from (Some e) ts f = from_more 115 119 (word (codes "s")) ts (omega arith) (of_one (Some (codes "s"))) f

p_from : (cs : Columns) (ts : List Tag) → From 115 ts → From 112 (p_tags cs ++ ts)
p_from Star ts f = from_more 112 115 [] ts (omega arith) (of_nil 112) f
p_from (Chosen cs) ts f = from_more 112 115 (word (codes "p")) ts (omega arith) (of_one (Some (codes "p"))) f

o_from : (u : ℕ) (ts : List Tag) → From 112 ts → From 111 (o_tags u ++ ts)
o_from zero ts f = from_more 111 112 [] ts (omega arith) (of_nil 111) f
o_from (suc u) ts f = from_more 111 112 (word (codes "o")) ts (omega arith) (of_one (Some (codes "o"))) f

d_from : (u : ℕ) (ts : List Tag) → From 105 ts → From 100 (d_tags u ++ ts)
d_from zero ts f = from_more 100 105 [] ts (omega arith) (of_nil 100) f
d_from (suc u) ts f = from_more 100 105 (word (codes "d")) ts (omega arith) (of_one (Some (codes "d"))) f

-- the tags of a query's inner queues are apart
pub inner_from : (u : ℕ) (q : Query) → length q.items ≤ 4 → From 111 (inner_tags u q)
inner_from u q h = o_from u _ (p_from q.columns _ (s_from q.condition _ (items_from q.items h)))

-- the tags of all its queues are apart
pub query_from : (u : ℕ) (q : Query) → length q.items ≤ 4 → From 0 (query_tags u q)
query_from u q h =
    from_more 0 2 (None ∷ []) (numbers [] 1 u ++ inner_tags u q) (omega arith) (of_one None)
    (from_more 2 111 (numbers [] 1 u) (inner_tags u q) (omega arith) (of_numbers 1 u) (inner_from u q h))

-- the tags of its variables are apart
pub vars_from : (q : Query) → length q.items ≤ 4 → From 105 (var_tags q)
vars_from q h =
    from_more 105 119 (word (codes "i")) (w_tags 1 q.items ++ x_tags 2 (rest_of q.items)) (omega arith) (of_one (Some (codes "i"))) (items_from q.items h)

-- the tags of its labels are apart
pub labels_from : (u : ℕ) (q : Query) → length q.items ≤ 4 → From 100 (label_tags u q)
labels_from u q h =
    d_from u _ (from_more 105 112 (word (codes "i")) _ (omega arith) (of_one (Some (codes "i")))
    (p_from q.columns _ (s_from q.condition _ (items_from q.items h))))
