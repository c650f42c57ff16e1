-- What the unroller stands for, and what it does with the statements of a list.
use Rattle.std.specs.Prelude.{◌≡◌, ℕ, ◌+◌, Bool, List, ◌∷◌, ◌++◌, length, map, take, Option, Some, None, Result, Ok, Err, if◌then◌else◌}
use Rattle.work_code.specs.declared.code.Stmt.{Stmt}
use Rattle.work_code.specs.declared.code.Stmts.{Stmts}
use Rattle.work_code.specs.Steps.{BodyForm, step, statements, in_turn}
use Rattle.streamit_text.specs.Tree.{Expression}
use Rattle.river_plan.specs.Forms.{Name}
use Rattle.streamit_model.specs.Elaborate.{At, Read, on_ok, counted, find, is_new, constant, bound_of, steps_of}
use Rattle.streamit_model.specs.Elaborate as spec
use Rattle.streamit_model.specs.ElaborateFilter.{kept_rates}
use Rattle.streamit_text.specs.Tree as source
use Rattle.streamit_unroll.specs.declared.blocks.Span.{Span}
use Rattle.streamit_model.specs.declared.fault.Fault.{Fault}
use Rattle.streamit_unroll.specs.declared.refused.RefusedUnit.{RefusedUnit}
use Rattle.streamit_unroll.specs.declared.unroll.Unroller.{Unroller}
use Rattle.streamit_unroll.specs.Numbers.{AreValues}
use Rattle.streamit_unroll.specs.View.{scope_of, IsWhyUnit}

abbrev pub at_of : Unroller → At
at_of u = record { scope = scope_of u.names.items.items; slots = u.slots; popped = u.popped; pushed = u.pushed; size = u.size }

-- the names that were known are still the first ones
abbrev pub KeepsNames : Unroller → Unroller → Type 0
KeepsNames old new = take (length old.names.items.items) new.names.items.items ≡ old.names.items.items

-- statements were appended, which are those that are read, or the fault is the first
abbrev pub Reads : Result (Unit {0}) RefusedUnit → Stmts → Stmts → Unroller → Unroller → Read → Type 0
Reads (Ok u) old new at at' r =
    (added : List Stmt) × (statements new ≡ statements old ++ added) × (r ≡ Ok (in_turn (map step added), at_of at')) × KeepsNames at at'
Reads (Err f) old new at at' r = IsWhyUnit f r

-- the body of `prework` or `work`, where it keeps the rates
abbrev pub worked : (peek push pop : ℕ) → source.Block → At → Result BodyForm Fault
worked peek push pop b s =
    on_ok (steps_of peek b s) (λ w. on_ok (kept_rates push pop w.1) (λ v. Ok (record { inputs = peek; slots = w.1.slots; steps = w.0 })))

-- an arm was read, and the names are those from before
abbrev pub ReadsArm : Result Stmts RefusedUnit → Unroller → Unroller → Read → Type 0
ReadsArm (Ok body) at at' r =
    (last : At) × (r ≡ Ok (in_turn (map step (statements body)), last)) × (at_of at' ≡ record last { scope = scope_of at.names.items.items })
    × (at'.names.items.items ≡ at.names.items.items)
ReadsArm (Err f) at at' r = IsWhyUnit f r

-- the turns of a loop: the first value of its variable, and the one behind the last
abbrev pub turns_of : spec.Scope → Name → Expression → Bool → Expression → Result (ℕ × ℕ) Fault
turns_of sc n low upto high =
    on_ok (is_new (find sc n)) (λ u.
    on_ok (on_ok (constant sc low) bound_of) (λ l.
    on_ok (on_ok (constant sc high) bound_of) (λ h. Ok (l, h + (if upto then 1 else 0)))))

abbrev pub span : Span → ℕ × ℕ
span s = (s.low, s.end)

-- one turn of a loop
abbrev pub turn_of : (At → Read) → Name → ℕ → At → Read
turn_of block n v s = on_ok (counted s) (λ t. on_ok (block (record t { scope = (n, spec.Turn v) ∷ s.scope })) (λ a. Ok (a.0, record a.1 { scope = s.scope })))

abbrev pub ReadsTurn : Result (Unit {0}) RefusedUnit → Stmts → Stmts → Unroller → Unroller → Read → Type 0
ReadsTurn (Ok u) old new at at' r =
    (added : List Stmt) × (statements new ≡ statements old ++ added) × (r ≡ Ok (in_turn (map step added), at_of at'))
    × (at'.names.items.items ≡ at.names.items.items)
ReadsTurn (Err f) old new at at' r = IsWhyUnit f r

-- the numbers of a block are values
abbrev pub AreOptional : Option Expression → Type 0
AreOptional None = Unit {0}
AreOptional (Some t) = AreValues t

abbrev mutual
  pub IsWritten : source.Statement → Type 0
  IsWritten (source.Declare n t) = AreOptional t
  IsWritten (source.Assign n t) = AreValues t
  IsWritten (source.Push t) = AreValues t
  IsWritten source.Discard = Unit {0}
  IsWritten (source.If t a b) = AreValues t × AreWritten a × AreWrittenOptional b
  IsWritten (source.For n low upto high b) = AreValues low × AreValues high × AreWritten b

  pub AreWritten : source.Block → Type 0
  AreWritten source.End = Unit {0}
  AreWritten (source.Then c b) = IsWritten c × AreWritten b

  pub AreWrittenOptional : source.Optional → Type 0
  AreWrittenOptional source.Unwritten = Unit {0}
  AreWrittenOptional (source.Written b) = AreWritten b
