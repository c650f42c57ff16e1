-- The plan of a tree can be written as River text: no `if` is there, and no window's range is below 0.
use Rattle.std.proofs.Common.{ℕ, zero, suc, ◌+◌, List, [], ◌∷◌, ◌++◌, Option, Some, None}
use Rattle.river_plan.specs.Forms.{Name}
use Rattle.river_plan.specs.Names.{count}
use Rattle.river_print.specs.Printable.{IsForward}
use Rattle.river_print.specs.Writable.{Every}
use Rattle.river_print.proofs.Spoken.{IsSpoken, every-joined, spoken-printable}
use Rattle.cql_model.specs.Program.{registered, streams_of, all_uses}
use Rattle.cql_model.specs.KernelWords.{kernel_window}
use Rattle.cql_text.specs.Tree.{Scalar, Window, Now, Range, Unbounded, Latest, Source, Columns, Star, Chosen, Query, Register, AQuery, Program}
use Rattle.cql_model.specs.Scopes.{Named, scope_of}
use Rattle.cql_model.specs.Plan.{queues_of_uses, w_name, x_name, window_ops, cross_ops, select_ops, project_ops, project_last, out_ops, tail_ops, item_ops}
use Rattle.cql_model.specs.Plan.{item_last, query_ops, query_named, queries_ops, copy_ops, input_ops, plan_of}
use Rattle.cql_model.proofs.Counting.{stream_op, project_from, block_ops}
use Rattle.cql_front.specs.Laws.{PlansArePrintable}

-- no window that a program can have has a range below 0
window-forward : (w : Window) → IsForward (kernel_window w)
window-forward Now = tt
window-forward (Range n unit) = tt
window-forward Unbounded = tt
window-forward (Latest n) = tt

windows-spoken : (b : Name) (k : ℕ) (items : List Source) (srcs : List Name) → Every IsSpoken (window_ops b k items srcs)
windows-spoken b k [] srcs = tt
windows-spoken b k (i ∷ is) [] = tt
windows-spoken b k (i ∷ is) (src ∷ srcs) = ((tt, window-forward i.window), windows-spoken b (k + 1) is srcs)

crosses-spoken : (b last : Name) (k : ℕ) (items : List Source) → Every IsSpoken (cross_ops b last k items)
crosses-spoken b last k [] = tt
crosses-spoken b last k (i ∷ is) = ((tt, tt), crosses-spoken b (x_name b k) (k + 1) is)

items-spoken : (b : Name) (items : List Source) (srcs : List Name) → Every IsSpoken (item_ops b items srcs)
items-spoken b [] srcs = tt
items-spoken b (i ∷ is) srcs =
    every-joined IsSpoken (window_ops b 1 (i ∷ is) srcs) (cross_ops b (w_name b 1) 2 is) (windows-spoken b 1 (i ∷ is) srcs)
    (crosses-spoken b (w_name b 1) 2 is)

select-spoken : (b : Name) (scope : List Named) (last : Name) (o : Option Scalar) → Every IsSpoken (select_ops b scope last o)
select-spoken b scope last None = tt
select-spoken b scope last (Some e) = ((tt, tt), tt)

project-spoken : (b : Name) (scope : List Named) (last : Name) (cs : Columns) → Every IsSpoken (project_ops b scope last cs)
project-spoken b scope last Star = tt
project-spoken b scope last (Chosen cs) = ((tt, tt), tt)

out-spoken : (b : Name) (u : ℕ) → Every IsSpoken (out_ops b u)
out-spoken b zero = tt
out-spoken b (suc u) = ((tt, tt), tt)

-- the operators of a query
query-spoken : (q : Query) (scope : List Named) (u : ℕ) (srcs : List Name) → Every IsSpoken (block_ops q scope u srcs)
query-spoken q scope u srcs =
    let b = q.name in
    let last = item_last b q.items in
    let from = project_from q last in
    let so = select_ops b scope last q.condition in
    let po = project_ops b scope from q.columns in
    let st = stream_op q u (project_last b from q.columns) in
    every-joined IsSpoken (item_ops b q.items srcs) (tail_ops q scope u last) (items-spoken b q.items srcs)
    (every-joined IsSpoken so (po ++ (st ∷ out_ops b u)) (select-spoken b scope last q.condition)
    (every-joined IsSpoken po (st ∷ out_ops b u) (project-spoken b scope from q.columns) ((tt, tt), out-spoken b u)))

queries-spoken : (inputs all : List Name) (ks : List Named) (past : List Name) (ps : Program) → Every IsSpoken (queries_ops inputs all ks past ps)
queries-spoken inputs all ks past [] = tt
queries-spoken inputs all ks past (Register name fields ∷ ps) = queries-spoken inputs all (record { name = name; fields = fields } ∷ ks) past ps
queries-spoken inputs all ks past (AQuery q ∷ ps) =
    every-joined IsSpoken (query_ops inputs all ks past q) (queries_ops inputs all (query_named ks q ∷ ks) (past ++ streams_of q.items) ps)
    (query-spoken q (scope_of ks q.items) (count q.name all) (queues_of_uses inputs all past (streams_of q.items)))
    (queries-spoken inputs all (query_named ks q ∷ ks) (past ++ streams_of q.items) ps)

copies-spoken : (n : Name) (u : ℕ) → Every IsSpoken (copy_ops n u)
copies-spoken n zero = tt
copies-spoken n (suc zero) = tt
copies-spoken n (suc (suc u)) = ((tt, tt), tt)

inputs-spoken : (all : List Name) (ps : Program) → Every IsSpoken (input_ops all ps)
inputs-spoken all [] = tt
inputs-spoken all (Register name fields ∷ ps) =
    every-joined IsSpoken (copy_ops name (count name all)) (input_ops all ps) (copies-spoken name (count name all)) (inputs-spoken all ps)
inputs-spoken all (AQuery q ∷ ps) = inputs-spoken all ps

-- the law: the plan of a program is within the bounds of River text
pub plans_are_printable : PlansArePrintable
plans_are_printable p =
    let all = all_uses p in
    spoken-printable (plan_of p)
    (every-joined IsSpoken (input_ops all p) (queries_ops (registered p) all [] [] p) (inputs-spoken all p) (queries-spoken (registered p) all [] [] p))
