-- Which names the items, fields and columns of a query have.
use Rattle.std.specs.Prelude.{ℕ, ◌+◌, List, [], ◌∷◌, ◌++◌, map, flat_map, Option, Some, None, codes, if◌then◌else◌}
use Rattle.std.specs.Fmt.{decimal}
use Rattle.river_base.specs.Name.{name_eq}
use Rattle.river_plan.specs.Forms.{Name}
use Rattle.cql_text.specs.Tree.{Scalar, Field, ItemField, Number, Neg, Not, Bin, Source, Column, Columns, Star, Chosen}

-- a name and its fields: a stream that is known, or an item of a query
pub record Named : Type 0 where
  pub name : Name
  pub fields : List Name

-- the fields of a stream, by its latest declaration
abbrev pub fields_of : List Named → Name → List Name
fields_of [] n = []
fields_of (k ∷ ks) n = if name_eq k.name n then k.fields else fields_of ks n

-- an item is known by its alias, or by its stream's name
abbrev pub alias_or : Option Name → Name → Name
alias_or None n = n
alias_or (Some a) n = a

abbrev pub item_named : List Named → Source → Named
item_named known i = record { name = alias_or i.alias i.stream; fields = fields_of known i.stream }

abbrev pub scope_of : List Named → List Source → List Named
scope_of known items = map (item_named known) items

-- a column is known by its alias, by its field where it is a plain field, or by its place from 1
abbrev pub plain_name : Scalar → Name → Name
plain_name (Field f) other = f
plain_name (ItemField a f) other = f
plain_name (Number z) other = other
plain_name (Neg e) other = other
plain_name (Not e) other = other
plain_name (Bin o l r) other = other

abbrev pub column_name : ℕ → Column → Name
column_name k c = alias_or c.alias (plain_name c.value (codes "c" ++ decimal k))

abbrev pub names_from : ℕ → List Column → List Name
names_from k [] = []
names_from k (c ∷ cs) = column_name k c ∷ names_from (k + 1) cs

abbrev pub column_names : List Named → Columns → List Name
column_names scope Star = flat_map (λ i. i.fields) scope
column_names scope (Chosen cs) = names_from 1 cs
