-- What a CQL program means, at every instant of a run. To read: first programs as trees, in cql_text/specs/Tree. Then Scopes, which
-- says what the items, fields and columns of a query are called, and Streams: instants, windows, and streams of relations. Then this
-- file: `eval` is the value of an expression in a tuple, `content` the relation of a query at an instant, `answer` its stream, and
-- `answers` are the streams of all queries of a program. Instants has what that is for files: `program_means`. Refused says which
-- programs are accepted, and which fault is the first of another, over the places that Places lists. Translation has the plan of a
-- program, with the kernels' words of KernelWords; that the plan means what the program means is said in Laws, Instants and Refused.
use Rattle.std.specs.Prelude.{ℤ, pos, List, [], ◌∷◌, ◌++◌, map, filter, flat_map, fold, Option, Some, None, if◌then◌else◌}
use Rattle.std.specs.Ordering.{int_eq}
use Rattle.river_base.specs.Instants.{Timed, at_instant}
use Rattle.river_base.specs.Name.{name_eq}
use Rattle.river_base.specs.Number.{negate}
use Rattle.work_code.specs.Value.{truth, is_true, applied}
use Rattle.river_plan.specs.Forms.{Name}
use Rattle.cql_text.specs.Tree.{Scalar, Number, Field, ItemField, Neg, Not, Bin, Source, Columns, Star, Chosen, Query, Register, AQuery, Program}
use Rattle.cql_model.specs.KernelWords.{oper_of}
use Rattle.cql_model.specs.Scopes.{Named, scope_of, column_names}
use Rattle.cql_model.specs.Streams.{windowed, as_stream}

-- a stream that is known, with its rows
pub record KnownStream : Type 0 where
  pub named : Named
  pub rows : Timed

abbrev pub named_of : List KnownStream → List Named
named_of ks = map (λ k. k.named) ks

abbrev pub rows_named : List KnownStream → Name → Timed
rows_named [] n t = []
rows_named (k ∷ ks) n t = if name_eq k.named.name n then k.rows t else rows_named ks n t

-- a tuple is one row of each item. The value of a field in it: of the first item that has the field, or of the item of this name
abbrev pub Tuple : Type 0
Tuple = List (List ℤ)

abbrev pub field_in : Name → List Name → List ℤ → Option ℤ
field_in f [] row = None
field_in f (g ∷ gs) [] = None
field_in f (g ∷ gs) (z ∷ zs) = if name_eq g f then Some z else field_in f gs zs

abbrev pub or_else : {A : Type 0} → Option A → Option A → Option A
or_else None o = o
or_else (Some a) o = Some a

abbrev pub field_value : Name → List Named → Tuple → Option ℤ
field_value f [] tuple = None
field_value f (i ∷ is) [] = None
field_value f (i ∷ is) (row ∷ rows) = or_else (field_in f i.fields row) (field_value f is rows)

abbrev pub item_value : Name → Name → List Named → Tuple → Option ℤ
item_value a f [] tuple = None
item_value a f (i ∷ is) [] = None
item_value a f (i ∷ is) (row ∷ rows) = if name_eq i.name a then field_in f i.fields row else item_value a f is rows

abbrev pub or_zero : Option ℤ → ℤ
or_zero None = pos 0
or_zero (Some z) = z

abbrev pub eval : List Named → Scalar → Tuple → ℤ
eval scope (Number n) tuple = pos n
eval scope (Field f) tuple = or_zero (field_value f scope tuple)
eval scope (ItemField a f) tuple = or_zero (item_value a f scope tuple)
eval scope (Neg e) tuple = negate (eval scope e tuple)
eval scope (Not e) tuple = truth (int_eq (eval scope e tuple) (pos 0))
eval scope (Bin o l r) tuple = applied (oper_of o) (eval scope l tuple) (eval scope r tuple)

-- the product: all tuples with one row of each content
abbrev pub with_each : List Tuple → List (List ℤ) → List Tuple
with_each tuples rows = flat_map (λ tuple. map (λ row. tuple ++ row ∷ []) rows) tuples

abbrev pub product_of : List (List (List ℤ)) → List Tuple
product_of contents = fold with_each ([] ∷ []) contents

-- those for which the condition holds
abbrev pub where_true : List Named → Option Scalar → List Tuple → List Tuple
where_true scope None tuples = tuples
where_true scope (Some e) tuples = filter (λ tuple. is_true (eval scope e tuple)) tuples

-- the row of a tuple: all its values, or those of the columns
abbrev pub all_values : Tuple → List ℤ
all_values tuple = flat_map (λ row. row) tuple

abbrev pub selected_row : List Named → Columns → Tuple → List ℤ
selected_row scope Star tuple = all_values tuple
selected_row scope (Chosen cs) tuple = map (λ c. eval scope c.value tuple) cs

abbrev pub windows_at : List ℤ → List KnownStream → List Source → ℤ → List (List (List ℤ))
windows_at ts known items t = map (λ i. windowed i.window ts (rows_named known i.stream) t) items

-- the relation of a query at instant t, as a bag
abbrev pub content : List ℤ → List KnownStream → Query → Timed
content ts known q t =
    let scope = scope_of (named_of known) q.items in
    map (selected_row scope q.columns) (where_true scope q.condition (product_of (windows_at ts known q.items t)))

-- its stream
abbrev pub answer : List ℤ → List KnownStream → Query → Timed
answer ts known q = as_stream q.kind ts (content ts known q)

abbrev pub query_known : List ℤ → List KnownStream → Query → KnownStream
query_known ts known q = record {
  named = record { name = q.name; fields = column_names (scope_of (named_of known) q.items) q.columns };
  rows = answer ts known q;
}

-- query by query, with what is known before it; each registered stream has a file
abbrev pub first_file : List (List (ℤ × List ℤ)) → List (ℤ × List ℤ)
first_file [] = []
first_file (f ∷ fs) = f

abbrev pub other_files : List (List (ℤ × List ℤ)) → List (List (ℤ × List ℤ))
other_files [] = []
other_files (f ∷ fs) = fs

abbrev pub stream_known : Name → List Name → List (List (ℤ × List ℤ)) → KnownStream
stream_known name fields files = record { named = record { name = name; fields = fields }; rows = at_instant (first_file files) }

abbrev pub answers : List ℤ → List KnownStream → Program → List (List (ℤ × List ℤ)) → List Timed
answers ts known [] files = []
answers ts known (Register name fields ∷ ps) files = answers ts (stream_known name fields files ∷ known) ps (other_files files)
answers ts known (AQuery q ∷ ps) files = answer ts known q ∷ answers ts (query_known ts known q ∷ known) ps files
