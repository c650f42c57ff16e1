-- The streams and queries that are known, by their names.
use Rattle.std.specs.Prelude.{◌≡◌, ◌<◌, List, Option, Some, None}
use Rattle.indexmap.specs.IndexMap.{get}
use Rattle.river_base.specs.Name.{name_eq}
use Rattle.river_plan.specs.Forms.{Name}
use Rattle.river_plan.specs.Names.{count}
use Rattle.cql_model.specs.Laws.{known_names}
use Rattle.cql_model.specs.Scopes.{Named, fields_of}
use Rattle.cql_build.specs.declared.known.Known.{Known}

-- a name has fields exactly where it is known
abbrev pub IsFound : Option (List Name) → List Named → Name → Type 0
IsFound None ks n = count n (known_names ks) ≡ 0
IsFound (Some fields) ks n = (0 < count n (known_names ks)) × (fields ≡ fields_of ks n)

pub record Knows (k : Known) (ks : List Named) : Type 0 where
  pub names : (n : Name) → IsFound (get name_eq k.streams n) ks n
