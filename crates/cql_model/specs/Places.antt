-- The places of a program at which faults are told, in the order of reading, each with the text before it.
use Rattle.std.specs.Prelude.{List, [], ◌∷◌, ◌++◌, map, flat_map, fold, Option, Some, None}
use Rattle.river_plan.specs.Forms.{Name}
use Rattle.cql_text.specs.Tree.{Scalar, Number, Field, ItemField, Neg, Not, Bin, Window, Source, Column, Columns, Star, Chosen, Register, AQuery, UnitForm, Program}
use Rattle.cql_model.specs.Scopes.{Named}
use Rattle.cql_model.specs.Plan.{query_named}

-- the elements of a list, each with those before it
abbrev pub with_earlier : {A : Type 0} → List A → List (List A × A)
with_earlier [] = []
with_earlier (x ∷ xs) = ([], x) ∷ map (λ e. (x ∷ e.0, e.1)) (with_earlier xs)

-- the stream or query that a unit declares, with its fields
abbrev pub declares : List Named → UnitForm → Named
declares known (Register name fields) = record { name = name; fields = fields }
declares known (AQuery q) = query_named known q

-- the streams and queries that these units declare, the latest first
abbrev pub known_by : Program → List Named
known_by units = fold (λ known unit. declares known unit ∷ known) [] units

-- a field as a value names it: by its name alone, or by its item's name and its own
pub data Mention : Type 0 where
  Alone : Name → Mention
  OfItem : Name → Name → Mention

-- the fields that a value names, as they are read
abbrev pub mentions : Scalar → List Mention
mentions (Number n) = []
mentions (Field f) = Alone f ∷ []
mentions (ItemField a f) = OfItem a f ∷ []
mentions (Neg e) = mentions e
mentions (Not e) = mentions e
mentions (Bin o l r) = mentions l ++ mentions r

-- what is read in a unit
pub data Spot : Type 0 where
  -- the name of a stream that is registered
  StreamName : Name → Spot
  -- a field of it, behind these fields
  FieldName : List Name → Name → Spot
  -- the name of a query
  QueryName : Name → Spot
  -- the stream of an item, the window on it, and the name of the item, with which the item ends; behind these items
  ItemStream : List Source → Source → Spot
  ItemWindow : Window → Spot
  ItemName : List Source → Source → Spot
  -- the beginning of a column, behind these columns
  ColumnStart : List Column → Spot
  -- a field in a value, over these items
  FieldUse : List Source → Mention → Spot

abbrev pub item_spots : List Source × Source → List Spot
item_spots e = ItemStream e.0 e.1 ∷ ItemWindow e.1.window ∷ ItemName e.0 e.1 ∷ []

abbrev pub value_spots : List Source → Scalar → List Spot
value_spots items e = map (FieldUse items) (mentions e)

abbrev pub column_spots : List Source → List Column × Column → List Spot
column_spots items e = ColumnStart e.0 ∷ value_spots items e.1.value

abbrev pub columns_spots : List Source → Columns → List Spot
columns_spots items Star = []
columns_spots items (Chosen cs) = flat_map (column_spots items) (with_earlier cs)

abbrev pub condition_spots : List Source → Option Scalar → List Spot
condition_spots items None = []
condition_spots items (Some e) = value_spots items e

-- of a query the items come first, although they are written behind the columns; then the columns, then the condition
abbrev pub spots : UnitForm → List Spot
spots (Register name fields) = StreamName name ∷ map (λ e. FieldName e.0 e.1) (with_earlier fields)
spots (AQuery q) = QueryName q.name ∷ (flat_map item_spots (with_earlier q.items) ++ (columns_spots q.items q.columns ++ condition_spots q.items q.condition))

-- a place: the units before its unit, the unit, and what of it is read there
pub record Place : Type 0 where
  pub before : Program
  pub unit : UnitForm
  pub spot : Spot

abbrev pub unit_places : Program × UnitForm → List Place
unit_places e = map (λ spot. record { before = e.0; unit = e.1; spot = spot }) (spots e.1)

-- all places of a program
abbrev pub program_places : Program → List Place
program_places p = flat_map unit_places (with_earlier p)
