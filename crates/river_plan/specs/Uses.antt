-- What operators use.
use Rattle.std.specs.Prelude.{ℕ, ◌+◌, ◌<◌, List, [], ◌∷◌, flat_map}
use Rattle.river_base.specs.Name.{name_eq}
use Rattle.river_plan.specs.Forms.{Name, OpForm}
use Rattle.river_plan.specs.Names.{count, one_if}

-- the fact holds of each operator
abbrev pub Each : (OpForm → Type 0) → List OpForm → Type 0
Each P [] = Unit {0}
Each P (op ∷ ops) = P op × Each P ops

-- the sum over the operators
abbrev pub total : (OpForm → ℕ) → List OpForm → ℕ
total f [] = 0
total f (op ∷ ops) = f op + total f ops

-- how often the operator writes, reads or uses a name
abbrev pub writes_it : Name → OpForm → ℕ
writes_it q op = count q op.writes

abbrev pub reads_it : Name → OpForm → ℕ
reads_it q op = count q op.reads

abbrev pub vars_it : Name → OpForm → ℕ
vars_it v op = count v op.vars

-- how often it has this label
abbrev pub named_it : Name → OpForm → ℕ
named_it l op = one_if (name_eq op.label l)

-- each of these names is known
abbrev pub AreAllKnown : (Name → ℕ) → List Name → Type 0
AreAllKnown known rs = (q : Name) → 0 < count q rs → 0 < known q

-- what is known, and what the operator writes
abbrev pub and_writes : (Name → ℕ) → OpForm → Name → ℕ
and_writes known op q = known q + count q op.writes

-- each operator reads what is known, or what one before it writes
abbrev pub ReadsBefore : (Name → ℕ) → List OpForm → Type 0
ReadsBefore known [] = Unit {0}
ReadsBefore known (op ∷ ops) = AreAllKnown known op.reads × ReadsBefore (and_writes known op) ops

-- all that the operators write and use, in order
abbrev pub all_writes : List OpForm → List Name
all_writes ops = flat_map (λ op. op.writes) ops

abbrev pub all_vars : List OpForm → List Name
all_vars ops = flat_map (λ op. op.vars) ops
