-- Programs whose tables compute to what they should.
use Rattle.std.proofs.Common.{◌≡◌, ℕ, pos, negsuc, List, [], ◌∷◌, Option, Some, None, refl}
use Rattle.std.specs.Prelude.{codes}
use Rattle.std.specs.Int.{int_wrap}
use Rattle.saw_text.specs.declared.tree.Kind.{Kind}
use Rattle.saw_text.specs.declared.tree.Kind.TheVariants.{Sum, Maximum}
use Rattle.saw_text.specs.declared.tree.Field.{Field}
use Rattle.saw_text.specs.Tree as tree
use Rattle.saw_text.specs.Tree.{Program, TableForm, TableUnit, StatementUnit, Emit}
use Rattle.saw_model.specs.Meaning.{program_tables, width}

abbrev int_field : Field
int_field = record { name = None }

abbrev named : List ℕ → Field
named n = record { name = Some n }

abbrev table : List ℕ → Kind → List Field → Field → Option Field → TableForm
table n k is v w = record { name = n; kind = k; indexes = is; value = v; weight = w }

-- count: table sum of int; total: table sum[k: int] of v: int; emit count <- 1; emit total[input[0]] <- input[1];
abbrev tallies : Program
tallies =
    TableUnit (table (codes "count") Sum [] int_field None) ∷ TableUnit (table (codes "total") Sum (named (codes "k") ∷ []) (named (codes "v")) None)
    ∷ StatementUnit (Emit (codes "count") [] (tree.Number 1) None) ∷ StatementUnit (Emit (codes "total") (tree.Input 0 ∷ []) (tree.Input 1) None) ∷ []

-- big: table maximum(2) of v: int weight w: int; emit big <- input[0] weight input[1];
abbrev greatest : Program
greatest = TableUnit (table (codes "big") (Maximum 2) [] (named (codes "v")) (Some (named (codes "w")))) ∷ StatementUnit
    (Emit (codes "big") [] (tree.Input 0) (Some (tree.Input 1))) ∷ []

three : program_tables tallies ((pos 1 ∷ pos 5 ∷ []) ∷ (pos 2 ∷ pos 7 ∷ []) ∷ (pos 1 ∷ negsuc 4 ∷ []) ∷ []) ≡ ((pos 3 ∷ []) ∷ []) ∷
    ((pos 1 ∷ pos 0 ∷ []) ∷ (pos 2 ∷ pos 7 ∷ []) ∷ []) ∷ []
unfolding int_wrap
three = refl

nothing : program_tables tallies [] ≡ [] ∷ [] ∷ []
nothing = refl

-- equal pairs are kept as often as they came
twice : program_tables greatest ((pos 9 ∷ pos 4 ∷ []) ∷ (pos 3 ∷ pos 4 ∷ []) ∷ (pos 3 ∷ pos 4 ∷ []) ∷ (pos 1 ∷ pos 1 ∷ []) ∷ []) ≡
    ((pos 3 ∷ pos 4 ∷ []) ∷ (pos 3 ∷ pos 4 ∷ []) ∷ []) ∷ []
twice = refl

wide : width tallies ≡ 2
wide = refl
