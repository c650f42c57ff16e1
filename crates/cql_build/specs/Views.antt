-- What the items of a query stand for.
use Rattle.std.specs.Prelude.{List, map}
use Rattle.cql_model.specs.Scopes.{Named}
use Rattle.cql_build.specs.declared.item.Item.{Item}

-- an item of a query
abbrev pub named_item : Item → Named
named_item i = record { name = i.name; fields = i.fields.now }

abbrev pub scope : List Item → List Named
scope is = map named_item is
