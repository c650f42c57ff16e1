-- What is kept of the streams and queries that are known, and what it stands for.
use Rattle.std.specs.Prelude.{◌≡◌, ℤ, List, [], map, flat_map, filter, fold, Option, Some, None, if◌then◌else◌}
use Rattle.std.specs.List.{AllByRecursion}
use Rattle.std.specs.List.Sorted.{IsSortedByKey}
use Rattle.std.specs.Ordering.{int_cmp}
use Rattle.river_base.specs.Name.{name_eq}
use Rattle.river_base.specs.declared.item.Item as item
use Rattle.river_base.specs.declared.item.Flat.TheVariants.{One, Batch as Batched, Change as Changed}
use Rattle.river_base.specs.declared.item.Item.TheVariants.{Flat, Pack}
use Rattle.river_plan.specs.Forms.{Name}
pub use Rattle.csv_streams.specs.Timed.{Entry}
use Rattle.cql_model.specs.Scopes.{Named, fields_of, item_named, scope_of}
use Rattle.cql_model.specs.Streams.{Timed, in_reach, kept_rows, windowed}
use Rattle.cql_model.specs.Meaning.{KnownStream, named_of, rows_named, windows_at}
use Rattle.cql_text.specs.Tree.{Window, Source, window_of}
use Rattle.slow_cql.specs.declared.kept.Kept.{Kept}
use Rattle.slow_cql.specs.declared.kept.Input.{Input}

-- the rows of all instants, in their order
abbrev pub timed : List ℤ → Timed → List Entry
timed ts s = flat_map (λ t. map (λ row. (t, row)) (s t)) ts

abbrev pub is_in_order : List Entry → Type 0
is_in_order es = IsSortedByKey (λ (e : Entry). e.0) int_cmp es

-- the latest of this name
abbrev pub latest : Name → List Kept → Option Kept
latest n all = fold (λ (o : Option Kept) (k : Kept). if name_eq k.name n then Some k else o) None all

abbrev pub fields_or : Option Kept → List Name
fields_or None = []
fields_or (Some k) = k.fields

abbrev pub entries_or : Option Kept → List Entry
entries_or None = []
entries_or (Some k) = k.entries

-- the rows of items with their instants
abbrev pub entries_at : item.Item → List Entry
entries_at (Flat (Batched b)) = map (λ row. (b.at, row)) b.rows
entries_at (Flat (One row)) = []
entries_at (Flat (Changed c)) = []
entries_at (Pack fs) = []

abbrev pub entries_in : List item.Item → List Entry
entries_in items = flat_map entries_at items

-- what is kept stands for what is known: each name has its fields, and its rows at these instants
pub record StandsKept (ts : List ℤ) (all : List Kept) (ks : List KnownStream) : Type 0 where
  pub fields : (n : Name) → fields_or (latest n all) ≡ fields_of (named_of ks) n
  pub rows : (n : Name) → entries_or (latest n all) ≡ timed ts (rows_named ks n)

-- the rows in a window
abbrev pub reached : Window → ℤ → List Entry → List (List ℤ)
reached w t es = kept_rows w (map (λ (e : Entry). e.1) (filter (λ (e : Entry). in_reach w t e.0) es))

abbrev pub named_input : Input → Named
named_input i = record { name = i.name; fields = i.fields.now }

abbrev pub input_scope : List Input → List Named
input_scope is = map named_input is

-- the content of an input at an instant
abbrev pub input_content : ℤ → Input → List (List ℤ)
input_content t i = reached (window_of i.window) t i.entries.now

-- the input is the window of this item
pub record IsItemInput (ts : List ℤ) (ks : List KnownStream) (item : Source) (i : Input) : Type 0 where
  pub named : named_input i ≡ item_named (named_of ks) item
  pub content : (t : ℤ) → input_content t i ≡ windowed item.window ts (rows_named ks item.stream) t
  pub in_order : is_in_order i.entries.now

-- the inputs are those of these items
pub record AreInputsOf (ts : List ℤ) (ks : List KnownStream) (items : List Source) (is : List Input) : Type 0 where
  pub named : input_scope is ≡ scope_of (named_of ks) items
  pub contents : (t : ℤ) → map (input_content t) is ≡ windows_at ts ks items t
  pub in_order : AllByRecursion (λ i. is_in_order i.entries.now) is
