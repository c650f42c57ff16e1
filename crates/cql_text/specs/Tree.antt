-- Programs of CQL as plain trees, with all that is written but keywords and punctuation (Arasu, Babu, Widom, 2006). Meaning, plans
-- and laws speak of these trees; below stands which of them the code's values are.
use Rattle.std.specs.Prelude.{ℕ, suc, max, List, map, Option, Some, None}
use Rattle.cql_text.specs.declared.operator.Operator.{Operator}
use Rattle.cql_text.specs.declared.tree.Kind.{Kind}
use Rattle.cql_text.specs.declared.tree.TimeUnit.{TimeUnit}
use Rattle.cql_text.specs.declared.tree.Window as code_window
use Rattle.cql_text.specs.declared.tree.Window.TheVariants as window
use Rattle.cql_text.specs.declared.tree.Scalar as code_scalar
use Rattle.cql_text.specs.declared.tree.Scalar.{fold-Scalar}
use Rattle.cql_text.specs.declared.tree.Scalar.TheOpen.{Scalar-F}
use Rattle.cql_text.specs.declared.tree.Scalar.TheOpen as layer
use Rattle.cql_text.specs.declared.tree.Source as code_source
use Rattle.cql_text.specs.declared.tree.Column as code_column
use Rattle.cql_text.specs.declared.tree.Columns as code_columns
use Rattle.cql_text.specs.declared.tree.Columns.TheVariants as columns
use Rattle.cql_text.specs.declared.tree.Query as code_query
use Rattle.cql_text.specs.declared.tree.Unit as code_part
use Rattle.cql_text.specs.declared.tree.Unit.TheVariants as part
use Rattle.cql_text.specs.declared.tree.CqlProgram as code

abbrev pub Name : Type 0
Name = List ℕ

-- a value: a field by its name alone, or by its item's name and its own
pub data Scalar : Type 0 where
  Number : ℕ → Scalar
  Field : Name → Scalar
  ItemField : Name → Name → Scalar
  Neg : Scalar → Scalar
  Not : Scalar → Scalar
  Bin : Operator → Scalar → Scalar → Scalar

-- how deep a value is; a leaf is 1 deep
abbrev pub scalar_depth : Scalar → ℕ
scalar_depth (Number n) = 1
scalar_depth (Field f) = 1
scalar_depth (ItemField a f) = 1
scalar_depth (Neg e) = suc (scalar_depth e)
scalar_depth (Not e) = suc (scalar_depth e)
scalar_depth (Bin o l r) = suc (max (scalar_depth l) (scalar_depth r))

pub data Window : Type 0 where
  Now : Window
  Range : ℕ → Option TimeUnit → Window
  Unbounded : Window
  Latest : ℕ → Window

-- a window on a stream, under a name of its own or the stream's
pub record Source : Type 0 where
  pub stream : Name
  pub window : Window
  pub alias : Option Name

pub record Column : Type 0 where
  pub value : Scalar
  pub alias : Option Name

pub data Columns : Type 0 where
  Star : Columns
  Chosen : List Column → Columns

pub record Query : Type 0 where
  pub name : Name
  pub kind : Kind
  pub columns : Columns
  pub items : List Source
  pub condition : Option Scalar

pub data UnitForm : Type 0 where
  Register : Name → List Name → UnitForm
  AQuery : Query → UnitForm

abbrev pub Program : Type 0
Program = List UnitForm

-- WHAT THE CODE'S VALUES STAND FOR

-- one layer of a value, whose units are trees already
abbrev pub scalar_layer : Scalar-F Scalar → Scalar
scalar_layer (layer.Number n) = Number n.value
scalar_layer (layer.Field f) = Field f
scalar_layer (layer.ItemField a f) = ItemField a f
scalar_layer (layer.Neg x) = Neg x.value
scalar_layer (layer.Not x) = Not x.value
scalar_layer (layer.Bin o l r) = Bin o l.value r.value

abbrev pub scalar : code_scalar.Scalar → Scalar
scalar e = fold-Scalar Scalar scalar_layer e

abbrev pub window_of : code_window.Window → Window
window_of window.Now = Now
window_of (window.Range n u) = Range n.value u
window_of window.Unbounded = Unbounded
window_of (window.Rows n) = Latest n

abbrev pub source_of : code_source.Source → Source
source_of i = record { stream = i.stream; window = window_of i.window; alias = i.alias }

abbrev pub sources_of : List code_source.Source → List Source
sources_of is = map source_of is

abbrev pub column_of : code_column.Column → Column
column_of c = record { value = scalar c.value; alias = c.alias }

-- columns that are chosen
abbrev pub chosen_of : List code_column.Column → List Column
chosen_of cs = map column_of cs

abbrev pub columns_of : code_columns.Columns → Columns
columns_of columns.Star = Star
columns_of (columns.Chosen cs) = Chosen (chosen_of cs.items)

abbrev pub condition_of : Option code_scalar.Scalar → Option Scalar
condition_of None = None
condition_of (Some e) = Some (scalar e)

abbrev pub query_of : code_query.Query → Query
query_of q = record { name = q.name; kind = q.kind; columns = columns_of q.columns; items = sources_of q.items.items; condition = condition_of q.condition }

abbrev pub unit_form : code_part.Unit → UnitForm
unit_form (part.Register s) = Register s.name s.fields.items
unit_form (part.Query q) = AQuery (query_of q)

abbrev pub unit_forms : List code_part.Unit → Program
unit_forms ps = map unit_form ps

abbrev pub program_of : code.CqlProgram → Program
program_of p = unit_forms p.units.items
