-- What a plan keeps beside its lists, and the faults of lists whose names are in order.
use Rattle.std.specs.Prelude.{◌≡◌, ℕ, List, length, Option, None}
use Rattle.river_plan.specs.declared.fault.PlanFault.{PlanFault}
use Rattle.river_plan.specs.declared.fault.PlanFault.TheVariants.{P3, P4, P5, P6, P7, P9}
use Rattle.river_plan.specs.declared.wiring.Uses.{Uses}
use Rattle.river_plan.specs.declared.wiring.Wiring.{Wiring}
use Rattle.river_plan.specs.Forms.{PlanForm, queue_names, variable_names}
use Rattle.river_plan.specs.First.{OrElse, As}
use Rattle.river_plan.specs.Faults.{Repeated, Undeclared, WrittenTwice, ReadTwice, ReadTooEarly, Mistyped, Misfit, Shared}
use Rattle.river_plan.specs.Limits.{OverLimit}
use Rattle.river_plan.specs.Places.{read_places, write_places, var_places, users}

-- the places that each operator uses, and for each of the first m places the operators that use it
pub record AreUses (m : ℕ) (ls : List (List ℕ)) (u : Uses) : Type 0 where
  pub by_op : u.by_op ≡ ls
  pub by_place : u.by_place ≡ users m ls

-- the wiring has the places of what each operator names, and the operators of each queue and variable
pub record IsWired (p : PlanForm) (w : Wiring) : Type 0 where
  pub reads : AreUses (length (queue_names p)) (read_places p) w.reads
  pub writes : AreUses (length (queue_names p)) (write_places p) w.writes
  pub vars : AreUses (length (variable_names p)) (var_places p) w.vars

-- no name stands twice, and what operators name is declared
abbrev pub AreNamed : PlanForm → Type 0
AreNamed p = Repeated p None × Undeclared p None

-- the first fault of the lists, where their names are in order
abbrev pub LaterFault : PlanForm → Option PlanFault → Type 0
LaterFault p =
    OrElse (As P3 (WrittenTwice p))
    (OrElse (As P4 (ReadTwice p))
    (OrElse (As P5 (ReadTooEarly p))
    (OrElse (As P6 (Mistyped p))
    (OrElse (As P7 (Misfit p))
    (OrElse (OverLimit p)
    (As P9 (Shared p)))))))
