-- The plan of a program.
use Rattle.std.specs.Prelude.{ℕ, zero, suc, ◌+◌, pos, nat_lt, nat_le, ◌&&◌, List, [], ◌∷◌, ◌++◌, length, map, Option, Some, None, codes, if◌then◌else◌}
use Rattle.river_base.specs.Name.{name_eq}
use Rattle.work_code.specs.Term.{Term}
use Rattle.work_code.specs.Term as term
use Rattle.river_kernels.specs.Fits.{stream, relation}
use Rattle.river_kernels.specs.Kern.{Kern, duplicate, window, select, project, cross, streamer}
use Rattle.river_plan.specs.declared.plan.Decl.{Decl}
use Rattle.river_base.specs.declared.kind.QueueType.{QueueType}
use Rattle.river_plan.specs.Forms.{Name, OpForm, PlanForm}
use Rattle.river_plan.specs.Names.{count}
use Rattle.river_plan.specs.Uses.{all_vars}
use Rattle.cql_model.specs.Numeral.{numeral}
use Rattle.cql_text.specs.Tree.{Scalar, Number, Field, ItemField, Neg, Not, Bin, Source, Column, Columns, Star, Chosen, Query, Register, AQuery, Program}
use Rattle.cql_model.specs.Program.{registered, streams_of, all_uses}
use Rattle.cql_model.specs.KernelWords.{oper_of, streamer_of, kernel_window}
use Rattle.cql_model.specs.Scopes.{Named, scope_of, column_names}

-- PLACES OF FIELDS in the joined row of all items

abbrev pub plus : ℕ → Option ℕ → Option ℕ
plus n None = None
plus n (Some k) = Some (n + k)

abbrev pub or_place : Option ℕ → Option ℕ → Option ℕ
or_place None o = o
or_place (Some k) o = Some k

abbrev pub place_among : Name → List Name → Option ℕ
place_among f [] = None
place_among f (g ∷ gs) = if name_eq g f then Some 0 else plus 1 (place_among f gs)

abbrev pub field_place : Name → List Named → Option ℕ
field_place f [] = None
field_place f (i ∷ is) = or_place (place_among f i.fields) (plus (length i.fields) (field_place f is))

abbrev pub item_place : Name → Name → List Named → Option ℕ
item_place a f [] = None
item_place a f (i ∷ is) = if name_eq i.name a then place_among f i.fields else plus (length i.fields) (item_place a f is)

-- a field that is nowhere is 0; a program that has one is refused
abbrev pub at_place : Option ℕ → Term
at_place None = term.Const (pos 0)
at_place (Some k) = term.Input k

abbrev pub resolved : List Named → Scalar → Term
resolved scope (Number n) = term.Const (pos n)
resolved scope (Field f) = at_place (field_place f scope)
resolved scope (ItemField a f) = at_place (item_place a f scope)
resolved scope (Neg e) = term.Neg (resolved scope e)
resolved scope (Not e) = term.Not (resolved scope e)
resolved scope (Bin o l r) = term.Bin (oper_of o) (resolved scope l) (resolved scope r)

-- NAMES

abbrev pub at_word : Name → List ℕ → Name
at_word n word = n ++ (codes "@" ++ word)

-- q@w1, q@x2: numbers from 1
abbrev pub numbered_name : Name → List ℕ → ℕ → Name
numbered_name n word k = at_word n (word ++ numeral k)

-- the copy of a stream for its use number k, from 0
abbrev pub copy_name : Name → ℕ → Name
copy_name n k = numbered_name n [] (k + 1)

abbrev pub copy_names : Name → ℕ → ℕ → List Name
copy_names n k zero = []
copy_names n k (suc u) = copy_name n k ∷ copy_names n (k + 1) u

-- the queue that use number k of a stream reads
abbrev pub queue_of_use : List Name → List Name → Name → ℕ → Name
queue_of_use inputs all n k = if nat_lt 0 (count n inputs) && nat_le (count n all) 1 then n else copy_name n k

abbrev pub queues_of_uses : List Name → List Name → List Name → List Name → List Name
queues_of_uses inputs all past [] = []
queues_of_uses inputs all past (n ∷ ns) = queue_of_use inputs all n (count n past) ∷ queues_of_uses inputs all (past ++ n ∷ []) ns

-- OPERATORS

abbrev pub op : Name → Kern → List Name → List Name → List Name → OpForm
op l k rs ws vs = record { label = l; kernel = k; reads = rs; writes = ws; vars = vs }

abbrev pub w_name : Name → ℕ → Name
w_name q k = numbered_name q (codes "w") k

abbrev pub x_name : Name → ℕ → Name
x_name q k = numbered_name q (codes "x") k

abbrev pub window_ops : Name → ℕ → List Source → List Name → List OpForm
window_ops q k [] srcs = []
window_ops q k (i ∷ is) [] = []
window_ops q k (i ∷ is) (src ∷ srcs) =
    op (w_name q k) (window (kernel_window i.window)) (src ∷ []) (w_name q k ∷ []) (w_name q k ∷ []) ∷ window_ops q (k + 1) is srcs

abbrev pub cross_ops : Name → Name → ℕ → List Source → List OpForm
cross_ops q last k [] = []
cross_ops q last k (i ∷ is) = op (x_name q k) cross (last ∷ w_name q k ∷ []) (x_name q k ∷ []) (x_name q k ∷ []) ∷ cross_ops q (x_name q k) (k + 1) is

abbrev pub cross_last : Name → Name → ℕ → List Source → Name
cross_last q last k [] = last
cross_last q last k (i ∷ is) = cross_last q (x_name q k) (k + 1) is

abbrev pub select_ops : Name → List Named → Name → Option Scalar → List OpForm
select_ops q scope last None = []
select_ops q scope last (Some e) = op (at_word q (codes "s")) (select (resolved scope e)) (last ∷ []) (at_word q (codes "s") ∷ []) [] ∷ []

abbrev pub select_last : Name → Name → Option Scalar → Name
select_last q last None = last
select_last q last (Some e) = at_word q (codes "s")

abbrev pub terms_of : List Named → List Column → List Term
terms_of scope cs = map (λ c. resolved scope c.value) cs

abbrev pub project_ops : Name → List Named → Name → Columns → List OpForm
project_ops q scope last Star = []
project_ops q scope last (Chosen cs) = op (at_word q (codes "p")) (project (terms_of scope cs)) (last ∷ []) (at_word q (codes "p") ∷ []) [] ∷ []

abbrev pub project_last : Name → Name → Columns → Name
project_last q last Star = last
project_last q last (Chosen cs) = at_word q (codes "p")

-- the stream goes to the query's own queue, or, where it is used, to a queue that is copied
abbrev pub out_name : Name → ℕ → Name
out_name q zero = q
out_name q (suc u) = at_word q (codes "o")

abbrev pub out_ops : Name → ℕ → List OpForm
out_ops q zero = []
out_ops q (suc u) = op (at_word q (codes "d")) (duplicate (suc (suc u))) (at_word q (codes "o") ∷ []) (q ∷ copy_names q 0 (suc u)) [] ∷ []

-- from the queue `last` of all items on
abbrev pub tail_ops : Query → List Named → ℕ → Name → List OpForm
tail_ops q scope uses last =
    let s = select_last q.name last q.condition in
    let p = project_last q.name s q.columns in
    let i = at_word q.name (codes "i") in
    select_ops q.name scope last q.condition
    ++ (project_ops q.name scope s q.columns
    ++ (op i (streamer (streamer_of q.kind)) (p ∷ []) (out_name q.name uses ∷ []) (i ∷ []) ∷ out_ops q.name uses))

abbrev pub item_ops : Name → List Source → List Name → List OpForm
item_ops q [] srcs = []
item_ops q (i ∷ is) srcs = window_ops q 1 (i ∷ is) srcs ++ cross_ops q (w_name q 1) 2 is

abbrev pub item_last : Name → List Source → Name
item_last q [] = q
item_last q (i ∷ is) = cross_last q (w_name q 1) 2 is

abbrev pub query_ops : List Name → List Name → List Named → List Name → Query → List OpForm
query_ops inputs all known past q =
    item_ops q.name q.items (queues_of_uses inputs all past (streams_of q.items))
    ++ tail_ops q (scope_of known q.items) (count q.name all) (item_last q.name q.items)

abbrev pub query_named : List Named → Query → Named
query_named known q = record { name = q.name; fields = column_names (scope_of known q.items) q.columns }

abbrev pub queries_ops : List Name → List Name → List Named → List Name → Program → List OpForm
queries_ops inputs all known past [] = []
queries_ops inputs all known past (Register name fields ∷ ps) = queries_ops inputs all (record { name = name; fields = fields } ∷ known) past ps
queries_ops inputs all known past (AQuery q ∷ ps) =
    query_ops inputs all known past q ++ queries_ops inputs all (query_named known q ∷ known) (past ++ streams_of q.items) ps

-- an input that is used more than once is copied first of all
abbrev pub copy_ops : Name → ℕ → List OpForm
copy_ops n zero = []
copy_ops n (suc zero) = []
copy_ops n (suc (suc u)) = op (at_word n (codes "d")) (duplicate (suc (suc u))) (n ∷ []) (copy_names n 0 (suc (suc u))) [] ∷ []

abbrev pub input_ops : List Name → Program → List OpForm
input_ops all [] = []
input_ops all (Register name fields ∷ ps) = copy_ops name (count name all) ++ input_ops all ps
input_ops all (AQuery q ∷ ps) = input_ops all ps

abbrev pub ops_of : Program → List OpForm
ops_of p = input_ops (all_uses p) p ++ queries_ops (registered p) (all_uses p) [] [] p

-- DECLARATIONS

abbrev pub decl : Name → QueueType → Decl
decl n k = record { name = n; kind = k }

abbrev pub decls_of : List Name → QueueType → List Decl
decls_of ns k = map (λ n. decl n k) ns

abbrev pub widths_of : List Named → ℕ
widths_of [] = 0
widths_of (i ∷ is) = length i.fields + widths_of is

abbrev pub window_decls : Name → ℕ → List Named → List Decl
window_decls q k [] = []
window_decls q k (i ∷ is) = decl (w_name q k) (relation (length i.fields)) ∷ window_decls q (k + 1) is

abbrev pub cross_decls : Name → ℕ → ℕ → List Named → List Decl
cross_decls q width k [] = []
cross_decls q width k (i ∷ is) = decl (x_name q k) (relation (width + length i.fields)) ∷ cross_decls q (width + length i.fields) (k + 1) is

abbrev pub item_decls : Name → List Named → List Decl
item_decls q [] = []
item_decls q (i ∷ is) = window_decls q 1 (i ∷ is) ++ cross_decls q (length i.fields) 2 is

abbrev pub select_decls : Name → ℕ → Option Scalar → List Decl
select_decls q width None = []
select_decls q width (Some e) = decl (at_word q (codes "s")) (relation width) ∷ []

abbrev pub project_decls : Name → Columns → List Decl
project_decls q Star = []
project_decls q (Chosen cs) = decl (at_word q (codes "p")) (relation (length cs)) ∷ []

abbrev pub columns_width : List Named → Columns → ℕ
columns_width scope Star = widths_of scope
columns_width scope (Chosen cs) = length cs

abbrev pub out_decls : Name → ℕ → ℕ → List Decl
out_decls q width zero = []
out_decls q width (suc u) = decl (at_word q (codes "o")) (stream width) ∷ decls_of (copy_names q 0 (suc u)) (stream width)

abbrev pub query_decls : List Name → List Named → Query → List Decl
query_decls all known q =
    let scope = scope_of known q.items in
    item_decls q.name scope
    ++ (select_decls q.name (widths_of scope) q.condition
    ++ (project_decls q.name q.columns ++ out_decls q.name (columns_width scope q.columns) (count q.name all)))

abbrev pub queries_decls : List Name → List Named → Program → List Decl
queries_decls all known [] = []
queries_decls all known (Register name fields ∷ ps) = queries_decls all (record { name = name; fields = fields } ∷ known) ps
queries_decls all known (AQuery q ∷ ps) = query_decls all known q ++ queries_decls all (query_named known q ∷ known) ps

abbrev pub copy_decls : Name → ℕ → ℕ → List Decl
copy_decls n width zero = []
copy_decls n width (suc zero) = []
copy_decls n width (suc (suc u)) = decls_of (copy_names n 0 (suc (suc u))) (stream width)

abbrev pub input_copies : List Name → Program → List Decl
input_copies all [] = []
input_copies all (Register name fields ∷ ps) = copy_decls name (length fields) (count name all) ++ input_copies all ps
input_copies all (AQuery q ∷ ps) = input_copies all ps

abbrev pub input_decls : Program → List Decl
input_decls [] = []
input_decls (Register name fields ∷ ps) = decl name (stream (length fields)) ∷ input_decls ps
input_decls (AQuery q ∷ ps) = input_decls ps

abbrev pub output_decls : List Named → Program → List Decl
output_decls known [] = []
output_decls known (Register name fields ∷ ps) = output_decls (record { name = name; fields = fields } ∷ known) ps
output_decls known (AQuery q ∷ ps) = decl q.name (stream (columns_width (scope_of known q.items) q.columns)) ∷ output_decls (query_named known q ∷ known) ps

abbrev pub plan_of : Program → PlanForm
plan_of p = record {
  outputs = output_decls [] p;
  inputs = input_decls p;
  queues = input_copies (all_uses p) p ++ queries_decls (all_uses p) [] p;
  tables = [];
  vars = all_vars (ops_of p);
  ops = ops_of p;
}
