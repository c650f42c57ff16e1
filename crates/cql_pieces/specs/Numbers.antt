-- The numbers of a program that a text stands for are values: the grammar of cql_text has no NUMBER above 2^63 - 1.
use Rattle.std.specs.Prelude.{ℕ, List}
use Rattle.cql_text.specs.Grammar.{IsText}
use Rattle.cql_text.specs.Tree.{Program}
use Rattle.cql_pieces.specs.Values.{AreNumbers}

-- whatever text stands for the program
abbrev pub TextsHaveNumbers : Type 0
TextsHaveNumbers = (text : List ℕ) (p : Program) → IsText text p → AreNumbers p
