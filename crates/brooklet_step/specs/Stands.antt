-- What the kept states stand for, when a kernel can fire, and what a firing does.
use Rattle.std.specs.Prelude.{◌≡◌, ℕ, ℤ, List, [], ◌∷◌, length}
use Rattle.river_base.specs.declared.item.Item as item
use Rattle.river_base.specs.declared.item.Item.TheVariants.{Flat, Pack}
use Rattle.river_base.specs.declared.item.Flat as flat
use Rattle.river_base.specs.declared.item.Flat.TheVariants.{One, Batch as Batched, Change as Changed}
use Rattle.river_base.specs.declared.item.Batch.{Batch}
use Rattle.river_base.specs.declared.item.Change.{Change}
use Rattle.river_base.specs.declared.kind.QueueType.{QueueType}
use Rattle.river_base.specs.Places.{none}
use Rattle.work_code.specs.Steps.{BodyForm}
use Rattle.kern_rows.specs.Dealing.{Dealt}
use Rattle.kern_rows.specs.Forms.{CodeForm, FilterForm}
use Rattle.kern_rows.specs.Runs.{Filtering, run_kept, pushed_to}
use Rattle.kern_rows.specs.Stands.{Waiting, StandsForFiltering}
use Rattle.kern_rows.specs.Turns.{IsTurn}
use Rattle.river_kernels.specs.declared.types.VarKind.{VarKind}
use Rattle.river_kernels.specs.Fits.{Fits}
use Rattle.river_kernels.specs.Kern.{Kern, code, filter, duplicate, deal, collect, packed, unpack, window, select, project, cross, streamer, tally, fused}
use Rattle.brooklet_model.specs.Firings.{Kept, Slots, Buffered, Turn, Fired}
use Rattle.brooklet_model.specs.Fire.{code_one}
use Rattle.brooklet_model.specs.Typed.{IsOf, Holds}
use Rattle.brooklet_step.specs.declared.emit.Emit.{Emit}
use Rattle.brooklet_step.specs.declared.state.State.{State}
use Rattle.brooklet_step.specs.declared.state.State.TheVariants as state
use Rattle.brooklet_step.specs.Took.{Took, HasLists}

-- there are no states
pub record AreNone (st : List State) (ks : List Kept) : Type 0 where
  pub code : st ≡ []
  pub defined : ks ≡ []

-- so many slots are kept
pub record AreKeptSlots (n : ℕ) (st : List State) (ks : List Kept) : Type 0 where
  pub slots : List ℤ
  pub code : st ≡ state.Slots slots ∷ []
  pub defined : ks ≡ Slots slots ∷ []
  pub count : length slots ≡ n

-- the kept slots of a body are one state, where there are some
abbrev pub StandsForSlots : List ℤ → List State → List Kept → Type 0
StandsForSlots [] st ks = AreNone st ks
StandsForSlots (z ∷ zs) st ks = AreKeptSlots (length (z ∷ zs)) st ks

-- the values that wait in a filter, for all that it has received
pub record StandsForFilter (f : FilterForm) (st : List State) (ks : List Kept) : Type 0 where
  pub now : Waiting
  pub seen : Filtering
  pub code : st ≡ state.Filter now ∷ []
  pub defined : ks ≡ Buffered seen ∷ []
  pub stands : StandsForFiltering f now seen
  pub count : length now.kept ≡ length f.starts

-- the turn of a splitter, and what its lists owe
pub record StandsForTurn (ws : List ℕ) (st : List State) (ks : List Kept) : Type 0 where
  pub now : Dealt
  pub code : st ≡ state.Deal now ∷ []
  pub defined : ks ≡ Turn now.turn.port now.turn.had ∷ []
  pub turn : IsTurn ws now.turn.port now.turn.had
  pub lists : length now.owed ≡ length ws

-- the states that the code keeps stand for these, of a kernel that keeps no items and no contents. Those of other kernels stand for
-- what they are after a word of firings, and not for states alone
abbrev pub StandsForKept : Kern → List State → List Kept → Type 0
StandsForKept (code k) st ks = StandsForSlots k.starts st ks
StandsForKept (filter f) st ks = StandsForFilter f st ks
StandsForKept (duplicate n) st ks = AreNone st ks
StandsForKept (deal ws) st ks = ⊥
StandsForKept (collect ws) st ks = ⊥
StandsForKept (packed k) st ks = ⊥
StandsForKept (unpack n) st ks = ⊥
StandsForKept (window w) st ks = ⊥
StandsForKept (select e) st ks = AreNone st ks
StandsForKept (project es) st ks = AreNone st ks
StandsForKept cross st ks = ⊥
StandsForKept (streamer s) st ks = ⊥
StandsForKept tally st ks = AreNone st ks
StandsForKept (fused a b at) st ks = ⊥

-- the item is a row
pub record IsRow (x : item.Item) : Type 0 where
  pub row : List ℤ
  pub is : x ≡ Flat (One row)

-- the item is a pack
pub record IsPack (x : item.Item) : Type 0 where
  pub flats : List flat.Flat
  pub is : x ≡ Pack flats

-- the item is a batch
pub record IsBatch (x : item.Item) : Type 0 where
  pub batch : Batch
  pub is : x ≡ Flat (Batched batch)

-- the item is a change
pub record IsChange (x : item.Item) : Type 0 where
  pub change : Change
  pub is : x ≡ Flat (Changed change)

-- the item is no pack, and this holds of it
pub record IsFlatWith (P : flat.Flat → Type 0) (x : item.Item) : Type 0 where
  pub content : flat.Flat
  pub is : x ≡ Flat content
  pub holds : P content

abbrev pub IsFlat : item.Item → Type 0
IsFlat x = IsFlatWith (λ f. Unit {0}) x

-- the state is so many slots
pub record IsSlots (n : ℕ) (s : State) : Type 0 where
  pub slots : List ℤ
  pub is : s ≡ state.Slots slots
  pub count : length slots ≡ n

-- a body ran on the values of a row with the kept slots: what it pushed, and the new slots
pub record RanKept (b : BodyForm) (row : List ℤ) (s s' : State) (pushes : List (ℕ × List ℤ)) : Type 0 where
  pub each : (slots : List ℤ) → s ≡ state.Slots slots → (pushes ≡ (run_kept b slots row).pushes) × (s' ≡ state.Slots (run_kept b slots row).slots)

-- the body ran on the row: what it pushed, and what the new states stand for
pub record Pushed (k : CodeForm) (x : item.Item) (st st' : List State) (pushes : List (ℕ × List ℤ)) : Type 0 where
  pub given : (ks : List Kept) → StandsForSlots k.starts st ks
      → ((code_one k x ks).outs ≡ (λ p. pushed_to p pushes)) × ((code_one k x ks).adds ≡ none) × StandsForSlots k.starts st' (code_one k x ks).states

-- from all states that the old ones stand for, the lists grew by what the firing gives, and the new ones stand for its states
pub record Fires (k : Kern) (out new : Emit) (st st' : List State) (r : List Kept → Fired) : Type 0 where
  pub given : (ks : List Kept) → StandsForKept k st ks → Took out new (r ks) × StandsForKept k st' (r ks).states

-- the states stand for some that keep only items of these types
pub record KeepsOnlyItems (k : Kern) (reads : List QueueType) (st : List State) : Type 0 where
  pub kept : List Kept
  pub stands : StandsForKept k st kept
  pub holds : Holds k reads kept

-- the kernel fits these types of its input ports, and the states keep what is of them
pub record Fitted (k : Kern) (reads : List QueueType) (st : List State) : Type 0 where
  pub writes : List QueueType
  pub vars : List VarKind
  pub fits : Fits k reads writes vars
  pub keeps : KeepsOnlyItems k reads st

-- the item and its port fit too
pub record MayTake (k : Kern) (port : ℕ) (x : item.Item) (st : List State) : Type 0 where
  pub reads : List QueueType
  pub fitted : Fitted k reads st
  pub item : IsOf reads port x

-- a firing can be made: the lists for what it gives are there
pub record Applies (k : Kern) (port : ℕ) (x : item.Item) (st : List State) (out : Emit) : Type 0 where
  pub takes : MayTake k port x st
  pub room : HasLists k out
