-- Laws of firings, of what waits and of what queues hold: statements over the contracts and the definitions alone.
use Rattle.std.specs.Prelude.{◌≡◌, ◌↔◌, ℕ, false, List, [], ◌∷◌, All, slice_get}
use Rattle.river_base.specs.declared.item.Change.{Change}
use Rattle.river_base.specs.declared.item.Flat as flat
use Rattle.river_base.specs.declared.item.Item as item
use Rattle.river_base.specs.declared.item.Flat.TheVariants.{Change as Changed}
use Rattle.river_base.specs.declared.item.Item.TheVariants.{Flat, Pack}
use Rattle.river_base.specs.declared.kind.FlatType.TheVariants.{Relation}
use Rattle.river_base.specs.declared.kind.QueueType.{QueueType}
use Rattle.river_base.specs.declared.kind.QueueType.TheVariants.{Flat as FlatOf, Pack as PackOf}
use Rattle.river_base.specs.Changes.{IsChangeOf}
use Rattle.river_base.specs.Held.{held, HasType, IsHeld, IsPlain}
use Rattle.river_base.specs.Places.{each_grew}
use Rattle.river_kernels.specs.declared.types.VarKind.{VarKind}
use Rattle.river_kernels.specs.Fits.{Fits}
use Rattle.river_kernels.specs.Kern.{Kern, packed, window, project, cross, streamer, fused}
use Rattle.river_kernels.specs.Types.{types_of}
use Rattle.river_plan.specs.Valid.{IsPlan}
use Rattle.brooklet_model.specs.Firings.{Kept}
use Rattle.brooklet_model.specs.Fire.{fire}
use Rattle.brooklet_model.specs.Machine.{Machine, HasItem}
use Rattle.brooklet_model.specs.Typed.{IsOf, IsStart, between}
use Rattle.brooklet_step.specs.declared.emit.Emit.{Emit}
use Rattle.brooklet_step.specs.declared.parts.MachineState.{MachineState}
use Rattle.brooklet_step.specs.declared.state.State.{State}
use Rattle.brooklet_step.specs.Given.{held_at, IsHeldOf, IsPlainBy, FitState, StandsAfter, FiresAt, CanTake}
use Rattle.brooklet_step.specs.Works.{StandsForMachine, IsEnabled}

-- where a kernel could take an item and fired on it, it can take any other item, at any port, that a queue of the port's type may
-- hold; the types are those of the first firing
abbrev pub FiringsChain : Type 0
FiringsChain =
    (k : Kern) (port next : ℕ) (i j : item.Item) (st st' : List State) (out out' : Emit) (t : CanTake k port i st out)
    → FiresAt k port i out out' st st' → IsHeldOf t.reads next j → CanTake k next j st' out'

-- the states of the definition for which states of the code stand, and from which firings may begin
pub record StandForSome (k : Kern) (reads : List QueueType) (st : List State) : Type 0 where
  pub start : List Kept
  pub is_start : IsStart k reads start
  pub stands : StandsAfter k reads start st []

-- no relation passes: neither at the ports, nor between kernels inside
abbrev pub PassesNone : Kern → List QueueType → Type 0
PassesNone (packed k) reads = PassesNone k reads
PassesNone (window v) reads = ⊥
PassesNone (project es) reads = ⊥
PassesNone cross reads = ⊥
PassesNone (streamer s) reads = ⊥
PassesNone (fused a b at) reads = PassesNone a reads × PassesNone b (between at (types_of a reads))
PassesNone kernel reads = IsPlainBy (slice_get reads 0)

-- where no relation passes, all states that fit stand for some of the definition: so what is said of these says something of all states
-- on which a kernel can fire. Where one does, changes that stand for no contents may have come
abbrev pub FitStatesStand : Type 0
FitStatesStand =
    (k : Kern) (reads writes : List QueueType) (vars : List VarKind) (st : List State) → Fits k reads writes vars → PassesNone k reads → FitState k reads st
    → StandForSome k reads st

-- what a firing gave is what queues hold for what the definition gives from the states `now`; and the new states stand for what is there
-- after it. Where no relation passes, they also stand for the definition's next states as a start of their own
pub record FiredFrom (k : Kern) (reads writes : List QueueType) (port : ℕ) (x : item.Item) (now : List Kept) (out out' : Emit)
    (st' : List State) : Type 0 where
  pub outs : out'.outs ≡ each_grew out.outs (λ p. held_at writes p [] ((fire k port x now).outs p))
  pub adds : out'.adds ≡ each_grew out.adds (fire k port x now).adds
  pub after : StandsAfter k reads now st' ((port, x) ∷ [])
  pub next : PassesNone k reads → StandsAfter k reads (fire k port x now).states st' []

-- let the code's states stand for states of the definition before a firing. Then what is given is what the definition gives from these, and
-- afterwards the code's states stand for the definition's next states: for those after the firing; and where no relation passes, also
-- for these as a start, from which a firing can be said again. This is so for all such states, and not only for those to which firings
-- lead from the first ones
abbrev pub FiringsStep : Type 0
FiringsStep =
    (k : Kern) (reads writes : List QueueType) (vars : List VarKind) (port : ℕ) (i x : item.Item) (st st' : List State) (out out' : Emit) (now : List Kept)
    → Fits k reads writes vars → FitState k reads st → IsHeldOf reads port i → FiresAt k port i out out' st st'
    → IsStart k reads now → StandsAfter k reads now st [] → IsOf reads port x → held_at reads port [] (x ∷ []) ≡ i ∷ []
    → FiredFrom k reads writes port x now out out' st'

-- a machine that is not stopped can fire an operator at a port exactly where an item that is not taken is there in the state of the
-- definition, whichever of the states it is that the machine stands for
abbrev pub EnabledIsItem : Type 0
EnabledIsItem =
    (m : MachineState) (s : Machine) (o port : ℕ) → IsPlan m.plan → m.stopped ≡ false → StandsForMachine m s → IsEnabled m o port ↔ HasItem m.plan s o port

-- where no relation passes, a queue may hold an item exactly where the item is of the queue's type
abbrev pub PlainQueuesHoldTyped : Type 0
PlainQueuesHoldTyped = (t : QueueType) (x : item.Item) → IsPlain t → IsHeld t x ↔ HasType t x

-- what is no pack is a normalised change of rows so wide
abbrev pub IsChangeItem : ℕ → flat.Flat → Type 0
IsChangeItem n f = (c : Change) × (f ≡ Changed c) × IsChangeOf n c

-- a queue of a relation may hold an item exactly where that is a normalised change of rows so wide,
-- and a queue of packs of a relation exactly where it is a pack of such changes
abbrev pub RelationsHoldChanges : Type 0
RelationsHoldChanges =
    (n : ℕ) (x : item.Item)
    → (IsHeld (FlatOf (Relation n)) x ↔ ((c : Change) × (x ≡ Flat (Changed c)) × IsChangeOf n c))
    × (IsHeld (PackOf (Relation n)) x ↔ ((fs : List flat.Flat) × (x ≡ Pack fs) × All (IsChangeItem n) fs))

-- what a queue holds for items of its type, after others of its type, is what it may hold
abbrev pub TypedIsHeld : Type 0
TypedIsHeld = (t : QueueType) (past xs : List item.Item) → All (HasType t) past → All (HasType t) xs → All (IsHeld t) (held t past xs)
