-- What is made, behind what was there.
use Rattle.std.specs.Prelude.{◌≡◌, ℕ, suc, List, [], ◌∷◌, ◌++◌, length, codes, Option}
use Rattle.std.specs.List.{AllByRecursion}
use Rattle.river_base.specs.declared.kind.QueueType.{QueueType}
use Rattle.river_plan.specs.Forms.{OpForm, op_forms}
use Rattle.river_plan.specs.declared.plan.Decl.{Decl}
use Rattle.river_plan.specs.declared.plan.RawPlan.{RawPlan}
use Rattle.river_kernels.specs.Fits.{stream}
use Rattle.river_kernels.specs.Kern.{duplicate, streamer}
use Rattle.cql_text.specs.declared.tree.Kind.{Kind}
use Rattle.cql_model.specs.KernelWords.{streamer_of}
use Rattle.cql_model.specs.Plannable.{IsPlannableQuery}
use Rattle.cql_model.specs.Judged.{IsShortName}
use Rattle.cql_model.specs.Scopes.{Named, scope_of}
use Rattle.cql_model.specs.Plan.{op, at_word, cross_decls, out_name, out_ops, out_decls}
use Rattle.cql_model.specs.Plan.{decl, decls_of, copy_names, copy_decls, copy_ops, select_decls, select_ops, project_decls, widths_of, columns_width}
use Rattle.cql_model.specs.Plan.{window_decls, window_ops, queues_of_uses, tail_ops, query_decls, query_ops, output_decls, queries_decls, queries_ops}
use Rattle.cql_model.specs.Program.{streams_of}
use Rattle.cql_text.specs.Tree.{Scalar, Source, Query, UnitForm, Register, AQuery, Program}
use Rattle.cql_build.specs.declared.uses.StreamUses.{StreamUses}

-- the streams of a unit, behind those that were there
abbrev pub Notes : StreamUses → StreamUses → UnitForm → Type 0
Notes old new (Register name fields) = (new.inputs ≡ old.inputs ++ name ∷ []) × (new.all ≡ old.all) × (new.past ≡ old.past)
Notes old new (AQuery q) = (new.inputs ≡ old.inputs) × (new.all ≡ old.all ++ streams_of q.items) × (new.past ≡ old.past)

-- these outputs, other queues and operators, behind those that were there
pub record Grew (old new : RawPlan) (outs qs : List Decl) (os : List OpForm) : Type 0 where
  pub outputs : new.outputs ≡ old.outputs ++ outs
  pub queues : new.queues ≡ old.queues ++ qs
  pub ops : op_forms new.ops ≡ op_forms old.ops ++ os
  pub inputs : new.inputs ≡ old.inputs
  pub tables : new.tables ≡ old.tables
  pub vars : new.vars ≡ old.vars

-- these streams have their queues besides
pub record Used (old new : StreamUses) (more : List (List ℕ)) : Type 0 where
  pub past : new.past ≡ old.past ++ more
  pub inputs : new.inputs ≡ old.inputs
  pub all : new.all ≡ old.all

-- the queues of the products of a query's items, each as wide as the items up to it
abbrev pub product_decls : List ℕ → List Named → List Decl
product_decls q [] = []
product_decls q (i ∷ is) = cross_decls q (length i.fields) 2 is

-- the operator that makes a stream of a query's relation, and the one that copies it where it is used
abbrev pub stream_ops : List ℕ → Kind → List ℕ → ℕ → List OpForm
stream_ops q kind last uses =
    op (at_word q (codes "i")) (streamer (streamer_of kind)) (last ∷ []) (out_name q uses ∷ []) (at_word q (codes "i") ∷ []) ∷ out_ops q uses

-- the queues behind the products: of the condition, the columns, the stream and its copies
abbrev pub tail_decls : Query → List Named → ℕ → List Decl
tail_decls q is uses =
    select_decls q.name (widths_of is) q.condition ++ (project_decls q.name q.columns ++ out_decls q.name (columns_width is q.columns) uses)

-- the stream of a query
abbrev pub stream_decls : Query → List Named → List Decl
stream_decls q is = decl q.name (stream (columns_width is q.columns)) ∷ []

-- A UNIT: what it needs, and what is made of it

abbrev pub IsPlannableUnit : List Named → UnitForm → Type 0
IsPlannableUnit ks (Register name fields) = Unit {0}
IsPlannableUnit ks (AQuery q) = IsPlannableQuery ks q

abbrev pub IsShortUnit : UnitForm → Type 0
IsShortUnit (Register name fields) = Unit {0}
IsShortUnit (AQuery q) = IsShortName q.name × AllByRecursion IsShortName (streams_of q.items)

abbrev pub unit_uses : UnitForm → List (List ℕ)
unit_uses (Register name fields) = []
unit_uses (AQuery q) = streams_of q.items

abbrev pub unit_outputs : List Named → UnitForm → List Decl
unit_outputs ks (Register name fields) = []
unit_outputs ks (AQuery q) = stream_decls q (scope_of ks q.items)

abbrev pub unit_decls : List (List ℕ) → List Named → UnitForm → List Decl
unit_decls all ks (Register name fields) = []
unit_decls all ks (AQuery q) = query_decls all ks q

abbrev pub unit_ops : List (List ℕ) → List (List ℕ) → List Named → List (List ℕ) → UnitForm → List OpForm
unit_ops inputs all ks past (Register name fields) = []
unit_ops inputs all ks past (AQuery q) = query_ops inputs all ks past q

-- WHAT IS ADDED, where these streams are used

-- by the windows of a query's items
abbrev pub AddsWindows : StreamUses → List ℕ → List Source → List Named → RawPlan → RawPlan → Type 0
AddsWindows uses query items is old new =
    Grew old new [] (window_decls query 1 is) (window_ops query 1 items (queues_of_uses uses.inputs uses.all uses.past (streams_of items)))

-- by its condition
abbrev pub AddsSelect : List ℕ → List Named → List ℕ → Option Scalar → RawPlan → RawPlan → Type 0
AddsSelect query is last condition old new = Grew old new [] (select_decls query (widths_of is) condition) (select_ops query is last condition)

-- by what follows its products
abbrev pub AddsTail : Query → List Named → ℕ → List ℕ → RawPlan → RawPlan → Type 0
AddsTail q is uses last old new = Grew old new (stream_decls q is) (tail_decls q is uses) (tail_ops q is uses last)

-- by the copies of its stream
abbrev pub AddsOwnCopies : List ℕ → List ℕ → ℕ → QueueType → RawPlan → RawPlan → Type 0
AddsOwnCopies query from uses kind old new =
    let copies = copy_names query 0 uses in
    Grew old new [] (decl from kind ∷ decls_of copies kind) (op (at_word query (codes "d")) (duplicate (suc uses)) (from ∷ []) (query ∷ copies) [] ∷ [])

-- by the copies of a registered stream
abbrev pub AddsCopies : List ℕ → ℕ → ℕ → RawPlan → RawPlan → Type 0
AddsCopies name width uses old new = Grew old new [] (copy_decls name width uses) (copy_ops name uses)

abbrev pub AddsQuery : StreamUses → List Named → Query → RawPlan → RawPlan → Type 0
AddsQuery uses ks q old new = Grew old new (stream_decls q (scope_of ks q.items)) (query_decls uses.all ks q) (query_ops uses.inputs uses.all ks uses.past q)

abbrev pub AddsUnit : StreamUses → List Named → UnitForm → RawPlan → RawPlan → Type 0
AddsUnit uses ks p old new = Grew old new (unit_outputs ks p) (unit_decls uses.all ks p) (unit_ops uses.inputs uses.all ks uses.past p)

abbrev pub AddsQueries : StreamUses → Program → RawPlan → RawPlan → Type 0
AddsQueries uses p old new = Grew old new (output_decls [] p) (queries_decls uses.all [] p) (queries_ops uses.inputs uses.all [] uses.past p)
