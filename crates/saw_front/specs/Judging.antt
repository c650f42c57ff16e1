-- What the judge stands for, and what it does with the statements of a list.
use Rattle.std.specs.Prelude.{◌≡◌, ℕ, List, ◌∷◌, ◌++◌, length, map, take, nat_le, nat_lt, nat_eq, Option, Result, Ok, Err}
use Rattle.work_code.specs.declared.code.Stmt.{Stmt}
use Rattle.work_code.specs.declared.code.Stmts.{Stmts}
use Rattle.work_code.specs.Steps.{Steps, Done, step, statements, in_turn}
use Rattle.work_code.specs.Term.{Term}
use Rattle.kern_tables.specs.declared.kind.TableKind.{TableKind}
use Rattle.river_plan.specs.Forms.{Name}
use Rattle.saw_text.specs.Tree.{Expression}
use Rattle.saw_model.specs.Elaborate.{At, Read, Scope, on_ok, demand, find, is_new, term_of, indexes_of, weight_of, keys_in, is_best}
use Rattle.saw_model.specs.declared.fault.Fault.{Fault}
use Rattle.saw_model.specs.declared.fault.Fault.TheVariants.{Shape, Limit}
use Rattle.saw_model.specs.declared.fault.Refusal.{Refusal}
use Rattle.saw_front.specs.declared.judge.Judge.{Judge}
use Rattle.saw_front.specs.declared.refused.Refused.{Refused}
use Rattle.saw_front.specs.declared.refused.RefusedUnit.{RefusedUnit}
use Rattle.saw_front.specs.Planning.{IsWhyRefused}
use Rattle.saw_front.specs.View.{scope_of, IsWhyUnit}

abbrev pub at_of : Judge → At
at_of j = record { scope = scope_of j.names.items.items; slots = j.slots; size = j.size; tables = j.tables }

-- the names that were known are still the first ones
abbrev pub KeepsNames : Judge → Judge → Type 0
KeepsNames old new = take (length old.names.items.items) new.names.items.items ≡ old.names.items.items

-- statements were appended, which are those that are read, or the fault is the first
abbrev pub Reads : Result (Unit {0}) RefusedUnit → Stmts → Stmts → Judge → Judge → Read → Type 0
Reads (Ok u) old new at at' r =
    (added : List Stmt) × (statements new ≡ statements old ++ added) × (r ≡ Ok (in_turn (map step added), at_of at')) × KeepsNames at at'
Reads (Err e) old new at at' r = IsWhyUnit e r

-- an arm was read, and the names are those from before
abbrev pub ReadsArm : Result Stmts RefusedUnit → Judge → Judge → Read → Type 0
ReadsArm (Ok body) at at' r =
    (last : At) × (r ≡ Ok (in_turn (map step (statements body)), last)) × (at_of at' ≡ record last { scope = scope_of at.names.items.items })
    × (at'.names.items.items ≡ at.names.items.items)
ReadsArm (Err e) at at' r = IsWhyUnit e r

-- the values of an emit to a table of this kind
abbrev pub row_of : Scope → TableKind → List Expression → Expression → Option Expression → Result (List Term) Fault
row_of sc k is v w =
    on_ok (indexes_of sc 0 is) (λ us.
    on_ok (demand (nat_eq (length is) (keys_in k)) Shape) (λ x.
    on_ok (term_of sc v) (λ u.
    on_ok (weight_of k w sc) (λ ws. Ok (us ++ u ∷ ws)))))

-- a kind within its limits
abbrev pub kind_within : TableKind → Result TableKind Fault
kind_within k = on_ok (demand (is_best k) Limit) (λ w. on_ok (demand (nat_le (keys_in k) 8) Limit) (λ x. Ok k))

-- the kind of a table whose name is new, where there may be one more
abbrev pub fits_of : At → Name → TableKind → Result TableKind Fault
fits_of s n k = on_ok (is_new (find s.scope n)) (λ u. on_ok (demand (nat_lt s.tables 64) Limit) (λ v. kind_within k))

-- a table was read, which no statement stands for
abbrev pub ReadsTable : Result (Unit {0}) RefusedUnit → Judge → Judge → Read → Type 0
ReadsTable (Ok u) at at' r = (r ≡ Ok (Done, at_of at')) × KeepsNames at at'
ReadsTable (Err e) at at' r = IsWhyUnit e r

-- all units are accepted, and their statements are appended; or the fault is the first
abbrev pub JudgesAll : Result (Unit {0}) Refused → Stmts → Stmts → Judge → Result (Steps × At) Refusal → Type 0
JudgesAll (Ok u) old new at' r = (added : List Stmt) × (statements new ≡ statements old ++ added) × (r ≡ Ok (in_turn (map step added), at_of at'))
JudgesAll (Err e) old new at' r = IsWhyRefused r e
