-- The relation of a query over its inputs.
use Rattle.std.specs.Prelude.{ℤ, Bool, true, List, [], ◌∷◌, length, map, All, IsTrue, Option, Some, None}
use Rattle.river_kernels.specs.Formed.{is_width}
use Rattle.work_code.specs.Value.{is_true}
use Rattle.cql_text.specs.Tree.{Scalar, Columns, Query, Register, AQuery, Program}
use Rattle.cql_model.specs.Scopes.{Named, scope_of}
use Rattle.cql_model.specs.Streams.{Timed}
use Rattle.cql_model.specs.Meaning.{KnownStream, named_of, windows_at, Tuple, eval, product_of, where_true, selected_row}
use Rattle.cql_model.specs.Plan.{columns_width, query_named}
use Rattle.slow_cql.specs.Kept.{input_scope, input_content}
use Rattle.slow_cql.specs.declared.kept.Input.{Input}

-- whether the condition holds for a tuple
abbrev pub condition_holds : List Named → Option Scalar → Tuple → Bool
condition_holds names None tuple = true
condition_holds names (Some e) tuple = is_true (eval names e tuple)

abbrev pub product_at : ℤ → List Input → List Tuple
product_at t is = product_of (map (input_content t) is)

abbrev pub content_over : List Input → Query → Timed
content_over is q t = map (selected_row (input_scope is) q.columns) (where_true (input_scope is) q.condition (product_at t is))

-- the columns of a tuple are from 1 to 16
abbrev pub IsNarrowTuple : List Named → Columns → Tuple → Type 0
IsNarrowTuple names cs tuple = IsTrue (is_width (length (selected_row names cs tuple)))

-- and so are those of all tuples of a query
abbrev pub AreNarrow : List ℤ → List KnownStream → Query → Type 0
AreNarrow ts ks q = (t : ℤ) → All (IsNarrowTuple (scope_of (named_of ks) q.items) q.columns) (product_of (windows_at ts ks q.items t))

-- each query of a program selects from 1 to 16 columns
abbrev pub HaveColumns : List Named → Program → Type 0
HaveColumns known [] = Unit {0}
HaveColumns known (Register name fields ∷ ps) = HaveColumns (record { name = name; fields = fields } ∷ known) ps
HaveColumns known (AQuery q ∷ ps) = IsTrue (is_width (columns_width (scope_of known q.items) q.columns)) × HaveColumns (query_named known q ∷ known) ps
