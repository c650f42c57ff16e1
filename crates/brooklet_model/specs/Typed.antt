-- Items of the types of their ports, and states that keep such items.
use Rattle.std.specs.Prelude.{◌≡◌, ℕ, ℤ, List, [], ◌∷◌, All, Option, Some, None, length, slice_get, take, drop}
use Rattle.river_base.specs.declared.item.Item as item
use Rattle.river_base.specs.declared.kind.QueueType.{QueueType}
use Rattle.river_base.specs.Held.{HasType}
use Rattle.river_base.specs.Places.{list_at}
use Rattle.river_plan.specs.declared.plan.Decl.{Decl}
use Rattle.river_kernels.specs.declared.types.Types.{Types}
use Rattle.river_kernels.specs.declared.types.VarKind.{VarKind}
use Rattle.river_kernels.specs.declared.types.VarKind.TheVariants.{Private, Table}
use Rattle.river_kernels.specs.Types.{types_of}
use Rattle.river_kernels.specs.Kern.{Kern, collect, packed, unpack, window, cross, streamer, fused}
use Rattle.brooklet_model.specs.Firings.{Kept, Joining, Received, Crossing}
use Rattle.brooklet_model.specs.Fire.{privates}
use Rattle.brooklet_model.specs.Shapes.{HasShape}
use Rattle.brooklet_model.specs.Words.{Word}

-- the item is one of the port at this place; beyond the ports there is none
abbrev pub IsTyped : Option QueueType → item.Item → Type 0
IsTyped None x = ⊥
IsTyped (Some t) x = HasType t x

abbrev pub IsOf : List QueueType → ℕ → item.Item → Type 0
IsOf types p x = IsTyped (slice_get types p) x

-- all items at all ports are of their types
abbrev pub AreOf : List QueueType → (ℕ → List item.Item) → Type 0
AreOf types f = (p : ℕ) → All (IsOf types p) (f p)

-- so are those of a word of firings
abbrev pub IsWordOf : List QueueType → Word → Type 0
IsWordOf types [] = Unit {0}
IsWordOf types (e ∷ es) = IsOf types e.0 e.1 × IsWordOf types es

-- what waits in a joiner is of the types of its ports
abbrev pub AreWaiting : List QueueType → List Kept → Type 0
AreWaiting is (Joining s ∷ ss) = AreOf is (list_at s.lists)
AreWaiting is ss = Unit {0}

-- what a window or a streamer has received is of the type of its port
abbrev pub AreReceived : List QueueType → List Kept → Type 0
AreReceived is (Received past ∷ ss) = All (IsOf is 0) past
AreReceived is ss = Unit {0}

-- what waits at the ports of a product is of their types
abbrev pub WaitAsTyped : List QueueType → List Kept → Type 0
WaitAsTyped is (Crossing s ∷ ss) = All (IsOf is 0) s.left × All (IsOf is 1) s.right
WaitAsTyped is ss = Unit {0}

-- the type of the port between two kernels, by the types that the first writes
abbrev pub one_type : Option QueueType → List QueueType
one_type None = []
one_type (Some t) = t ∷ []

abbrev pub between : ℕ → Option Types → List QueueType
between at None = []
between at (Some types) = one_type (slice_get types.outs at)

-- the states of a kernel on rows that reads these types keep only items of them
abbrev pub Holds : Kern → List QueueType → List Kept → Type 0
Holds (collect ws) is ss = AreWaiting is ss
Holds (packed k) is ss = Holds k is ss
Holds (unpack n) is ss = AreWaiting is ss
Holds (window w) is ss = AreReceived is ss
Holds cross is ss = WaitAsTyped is ss
Holds (streamer s) is ss = AreReceived is ss
Holds (fused a b at) is ss = Holds a is (take (privates a) ss) × Holds b (between at (types_of a is)) (drop (privates a) ss)
Holds kernel is ss = Unit {0}

-- firings may begin at these states: they are those of the kernel's private variables, and keep only items of what it reads. The first
-- states are such, and so are the states after each firing on items of these types; there may be others, to which no firings lead
pub record IsStart (k : Kern) (reads : List QueueType) (start : List Kept) : Type 0 where
  pub shape : HasShape k start
  pub holds : Holds k reads start

-- an item at each place of each list is of the type of this place
abbrev pub AreInputs : List Decl → List (List item.Item) → Type 0
AreInputs [] [] = Unit {0}
AreInputs [] (xs ∷ ls) = ⊥
AreInputs (d ∷ ds) [] = ⊥
AreInputs (d ∷ ds) (xs ∷ ls) = All (HasType d.kind) xs × AreInputs ds ls

-- the widths of the tables among these variables
abbrev pub widths_in : List VarKind → List ℕ
widths_in [] = []
widths_in (Private ∷ vs) = widths_in vs
widths_in (Table n ∷ vs) = n ∷ widths_in vs

abbrev pub IsWide : Option ℕ → List ℤ → Type 0
IsWide None row = ⊥
IsWide (Some n) row = length row ≡ n

-- all rows for each table are of its width
abbrev pub AreWide : List ℕ → (ℕ → List (List ℤ)) → Type 0
AreWide ns f = (j : ℕ) → All (IsWide (slice_get ns j)) (f j)
