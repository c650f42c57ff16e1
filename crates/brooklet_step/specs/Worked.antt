-- A worked row: a firing at a state to which no firings lead.
use Rattle.std.specs.Prelude.{◌≡◌, ℤ, pos, List, [], ◌∷◌}
use Rattle.river_base.specs.declared.item.Item as item
use Rattle.river_base.specs.declared.item.Item.TheVariants.{Flat}
use Rattle.river_base.specs.declared.item.Flat.TheVariants.{One}
use Rattle.river_base.specs.declared.kind.QueueType.{QueueType}
use Rattle.river_base.specs.Places.{list_at}
use Rattle.work_code.specs.Steps.{Push, Then, Done}
use Rattle.work_code.specs.Term.{Slot}
use Rattle.river_kernels.specs.declared.types.VarKind.{VarKind}
use Rattle.river_kernels.specs.Fits.{Fits}
use Rattle.river_kernels.specs.Kern.{Kern, code}
use Rattle.brooklet_step.specs.declared.emit.Emit.{Emit}
use Rattle.brooklet_step.specs.declared.state.State.{State}
use Rattle.brooklet_step.specs.declared.state.State.TheVariants as state
use Rattle.brooklet_step.specs.Given.{IsHeldOf, FiresAt}
use Rattle.brooklet_step.specs.Took.{IsBlank}

-- the kernel `code(1, 1) (1) (5) { push 0 (slot[0]); }`: it gives its kept slot, which begins with 5 and never changes
abbrev pub give_slot : Kern
give_slot = code (record { body = record { inputs = 1; slots = 1; steps = Then (Push 0 (Slot 0 ∷ [])) Done }; outs = pos 1 ∷ []; starts = pos 5 ∷ [] })

abbrev pub single_row : ℤ → item.Item
single_row z = Flat (One (z ∷ []))

-- where its slot has the value z, it gives z for a row; no firing leads there, unless z is 5
abbrev pub SlotsAreGiven : Type 0
SlotsAreGiven =
    (z v : ℤ) (reads writes : List QueueType) (vars : List VarKind) (out out' : Emit) (st' : List State) → Fits give_slot reads writes vars
    → IsHeldOf reads 0 (single_row v) → IsBlank give_slot out → FiresAt give_slot 0 (single_row v) out out' (state.Slots (z ∷ []) ∷ []) st'
    → list_at out'.outs 0 ≡ single_row z ∷ []
