-- What is true of all texts.
use Rattle.std.specs.Prelude.{◌≡◌, ℕ, List, [], Ok}
use Rattle.cql_text.specs.Tree.{UnitForm}
use Rattle.cql_front.specs.Meaning.{compiled}
use Rattle.slow_cql.specs.Contents.{HaveColumns}

-- the program that a text stands for has what its meaning asks of it
abbrev pub CompiledHaveColumns : Type 0
CompiledHaveColumns = (text : List ℕ) (p : List UnitForm) → compiled text ≡ Ok p → HaveColumns [] p
