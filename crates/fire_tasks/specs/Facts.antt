-- The laws that code uses once all rings are settled.
use Rattle.std.specs.Prelude.{ℕ, ℤ, List, ◌*◌, ◌≤◌}
use Rattle.river_base.specs.declared.item.Item as item
use Rattle.river_plan.specs.Forms.{PlanForm, queue_names}
use Rattle.brooklet_model.specs.Bounded.{Capacities}
use Rattle.brooklet_model.specs.Histories.{hist, lengths}
use Rattle.river_plan.specs.Valid.{IsPlan}
use Rattle.brooklet_model.specs.Typed.{AreInputs}
use Rattle.fire_tasks.specs.declared.task.Task.{Task}
use Rattle.fire_tasks.specs.Tasks.{all_moves}
use Rattle.fire_tasks.specs.Layout.{AreLaid, AreTasks, AreSettled, MakeNet}

-- Tasks that keep their facts, laid out by the plan, with settled rings, are a net.
abbrev pub SettledIsNet : Type 0
SettledIsNet =
    (p : PlanForm) (inputs : List (List item.Item)) (caps : Capacities) (adds : ℕ → ℕ → List (List ℤ)) (ts : List Task) → IsPlan p
    → AreLaid p inputs caps ts → AreTasks p adds ts → AreSettled p ts
    → AreInputs p.inputs inputs → MakeNet p inputs caps adds ts

-- The numbers of tasks that are a net are at most twice the items of the defined histories.
abbrev pub NumbersAreFew : Type 0
NumbersAreFew =
    (p : PlanForm) (inputs : List (List item.Item)) (caps : Capacities) (adds : ℕ → ℕ → List (List ℤ)) (ts : List Task) → IsPlan p
    → AreLaid p inputs caps ts → AreTasks p adds ts → AreSettled p ts
    → AreInputs p.inputs inputs → all_moves ts ≤ 2 * lengths (hist p inputs) (queue_names p)
