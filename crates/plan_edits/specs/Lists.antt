-- Lists of operators and declarations that are changed in places.
use Rattle.std.specs.Prelude.{ℕ, suc, nat_lt, if◌then◌else◌, Option, Some, None, List, [], ◌∷◌, ◌++◌}
use Rattle.river_base.specs.Name.{name_eq}
use Rattle.river_base.specs.declared.kind.QueueType.{QueueType}
use Rattle.river_plan.specs.declared.plan.Decl.{Decl}
use Rattle.river_plan.specs.Forms.{Name, OpForm}
use Rattle.river_plan.specs.Names.{count}
use Rattle.river_plan.specs.Uses.{named_it}

-- the place of a name in a list
abbrev pub place_of_name : Name → List Name → ℕ
place_of_name q [] = 0
place_of_name q (w ∷ ws) = if name_eq w q then 0 else suc (place_of_name q ws)

-- the declarations, without the first of this name
abbrev pub undeclared : Name → List Decl → List Decl
undeclared q [] = []
undeclared q (d ∷ ds) = if name_eq d.name q then ds else d ∷ undeclared q ds

-- the first operator at which a number is not 0
abbrev pub first_with : (OpForm → ℕ) → List OpForm → Option OpForm
first_with f [] = None
first_with f (op ∷ ops) = if nat_lt 0 (f op) then Some op else first_with f ops

-- in the place of what writes q these operators, and none in the place of what reads it
abbrev pub replaced : Name → List OpForm → List OpForm → List OpForm
replaced q news [] = []
replaced q news (op ∷ ops) =
    if nat_lt 0 (count q op.writes) then news ++ replaced q news ops
    else (if nat_lt 0 (count q op.reads) then replaced q news ops else op ∷ replaced q news ops)

-- the declarations, the first of this name with another type
abbrev pub retyped : Name → QueueType → List Decl → List Decl
retyped q t [] = []
retyped q t (d ∷ ds) = if name_eq d.name q then record d { kind = t } ∷ ds else d ∷ retyped q t ds

-- the new operators in the place of the first one of this label
abbrev pub swapped : Name → List OpForm → List OpForm → List OpForm
swapped l news [] = []
swapped l news (op ∷ ops) = if nat_lt 0 (named_it l op) then news ++ ops else op ∷ swapped l news ops
