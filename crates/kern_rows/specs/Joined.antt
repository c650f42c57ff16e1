-- Joiners of rows, streams and relations: items that wait at ports which take turns, and what each port owes, by contents.
use Rattle.std.specs.Prelude.{◌≡◌, ◌<◌, ◌≢◌, ℕ, ℤ, List, ◌++◌, length, All}
use Rattle.river_base.specs.declared.item.Flat as flat
use Rattle.river_base.specs.declared.item.Flat.TheVariants.{One, Batch as Batched, Change as Changed}
use Rattle.river_base.specs.declared.item.Item as item
use Rattle.river_base.specs.declared.item.Item.TheVariants.{Flat, Pack}
use Rattle.river_base.specs.declared.kind.FlatType as flat_type
use Rattle.river_base.specs.declared.kind.FlatType.TheVariants.{Rows, Stream, Relation}
use Rattle.river_base.specs.declared.kind.QueueType as queue_type
use Rattle.river_base.specs.declared.kind.QueueType.TheVariants.{Flat as FlatOf, Pack as PackOf}
use Rattle.river_base.specs.Grew.{GrewByPrefix}
use Rattle.river_base.specs.Held.{MayHold, IsHeld, after_flat, after_flats, after_item, content_from, held_flat, held_flats, held_item, held_from, flats_as_items, items_of}
use Rattle.river_base.specs.Places.{list_at}
use Rattle.kern_rows.specs.Needs.{IsJoiner}
use Rattle.kern_rows.specs.Passing.{PassesFront}
use Rattle.kern_rows.specs.Turns.{Turns, turns_start, put, settled}
use Rattle.kern_changes.specs.declared.owed.Debt.{Debt}
use Rattle.kern_changes.specs.Owed.{AreOwed, AreDebtsOf, OweLittle, owed_start}

-- WHAT IS KEPT

-- the port in turn, how many items it had, the items that wait at each port, and what each port owes
pub record JoinKept : Type 0 where
  pub turns : Turns
  pub owed : List Debt

-- nothing waits, and nothing is owed
abbrev pub join_start : ℕ → JoinKept
join_start ports = record { turns = turns_start ports; owed = owed_start ports }

-- an item comes to a port
abbrev pub put_item : ℕ → item.Item → JoinKept → JoinKept
put_item port x s = record { turns = put port x s.turns; owed = s.owed }

-- the port in turn is one of the ports, and there are a line and a debt for each
pub record HasJoinShape (ws : List ℕ) (s : JoinKept) : Type 0 where
  pub joined : IsJoiner ws s.turns
  pub owed : length s.owed ≡ length ws

-- ITEMS OF THE DEFINITION

-- it is no change, and no pack of changes
abbrev pub IsUnchanged : flat.Flat → Type 0
IsUnchanged (One row) = Unit {0}
IsUnchanged (Batched b) = Unit {0}
IsUnchanged (Changed c) = ⊥

abbrev pub HasNoChange : item.Item → Type 0
HasNoChange (Flat f) = IsUnchanged f
HasNoChange (Pack fs) = All IsUnchanged fs

-- no change is in it, and where it passes, it is given as it is, or opened where it is a pack
pub record PassesOpened (give : item.Item → List item.Item) (x : item.Item) : Type 0 where
  pub opened : give x ≡ items_of x
  pub same : HasNoChange x

-- so it is with all items that wait
abbrev pub AreOpened : (item.Item → List item.Item) → Turns → Type 0
AreOpened give s = (p : ℕ) → All (PassesOpened give) (list_at s.lists p)

-- WHAT IT STANDS FOR

-- a joiner of contents: the items that wait and whose turn it is, the content given last, and for each port its content that passed last
pub record Joining : Type 0 where
  pub turns : Turns
  pub last : List (List ℤ)
  pub now : ℕ → List (List ℤ)

-- what waits stands for the items that wait: in place of contents their changes. What a port owes leads from the content given last
-- to its own
pub record StandsForJoining (s : JoinKept) (m : Joining) : Type 0 where
  pub port : s.turns.port ≡ m.turns.port
  pub had : s.turns.had ≡ m.turns.had
  pub lists : length s.turns.lists ≡ length m.turns.lists
  pub lines : (p : ℕ) → p < length m.turns.lists → list_at s.turns.lists p ≡ held_from (m.now p) (list_at m.turns.lists p)
  pub owed : AreOwed s.owed (λ p. m.last) m.now

-- what passes of the items that wait, as long as the port in turn has one: it was given, with the changes from what was given last in
-- place of contents, and what is kept stands for what is left. The content that comes last at a port is as it was
pub record JoinedItems (give : item.Item → List item.Item) (ws : List ℕ) (m : Joining) (s : JoinKept) (out out' : List item.Item) : Type 0 where
  pub now : ℕ → List (List ℤ)
  pub gave : out' ≡ out ++ held_from m.last (settled give ws m.turns).0
  pub stands : StandsForJoining s (record { turns = (settled give ws m.turns).1; last = content_from m.last (settled give ws m.turns).0; now = now })
  pub ends : (p : ℕ) → p < length m.turns.lists
      → content_from (now p) (list_at (settled give ws m.turns).1.lists p) ≡ content_from (m.now p) (list_at m.turns.lists p)

-- the same for whatever contents there were
pub record JoinsItems (ws : List ℕ) (old new : JoinKept) (out out' : List item.Item) : Type 0 where
  pub each : (give : item.Item → List item.Item) (m : Joining) → AreOpened give m.turns → StandsForJoining old m → JoinedItems give ws m new out out'

-- items that wait pass as they are, and nothing else is kept
pub record JoinedPlainly (give : item.Item → List item.Item) (ws : List ℕ) (old new : JoinKept) (out out' : List item.Item) : Type 0 where
  pub gave : out' ≡ out ++ (settled give ws old.turns).0
  pub turns : new.turns ≡ (settled give ws old.turns).1
  pub owed : new.owed ≡ old.owed

-- so they do where no change is in what waits
pub record JoinsPlainly (ws : List ℕ) (old new : JoinKept) (out out' : List item.Item) : Type 0 where
  pub each : (give : item.Item → List item.Item) → AreOpened give old.turns → JoinedPlainly give ws old new out out'

-- WITHOUT MEMORY

-- a part of what passes was given: whatever contents there were, and also where no change is in what waits
pub record JoinsPart (ws : List ℕ) (old : JoinKept) (out out' : List item.Item) : Type 0 where
  pub contents : (give : item.Item → List item.Item) (m : Joining) → AreOpened give m.turns → StandsForJoining old m
      → GrewByPrefix out (held_from m.last (settled give ws m.turns).0) out'
  pub plain : (give : item.Item → List item.Item) → AreOpened give old.turns → GrewByPrefix out (settled give ws old.turns).0 out'

-- WHATEVER IT STANDS FOR

-- the items in a queue's packs, or those of the queue where it has none
abbrev pub flat_in : queue_type.QueueType → flat_type.FlatType
flat_in (FlatOf t) = t
flat_in (PackOf t) = t

-- where these are changes, all rows that are owed are as wide
abbrev pub MayOwe : flat_type.FlatType → List Debt → Type 0
MayOwe (Rows n) s = Unit {0}
MayOwe (Stream n) s = Unit {0}
MayOwe (Relation n) s = AreDebtsOf n s

-- what waits is what a queue of this type may hold, and so is what is owed
pub record IsJoinOf (t : queue_type.QueueType) (s : JoinKept) : Type 0 where
  pub lines : (p : ℕ) → All (IsHeld t) (list_at s.turns.lists p)
  pub owed : MayOwe (flat_in t) s.owed

-- what a queue of this type may hold was given
pub record GaveHeld (t : flat_type.FlatType) (out out' : List item.Item) : Type 0 where
  pub given : List item.Item
  pub grew : out' ≡ out ++ given
  pub each : All (IsHeld (FlatOf t)) given

-- what is given is what a queue may hold, where what waits is, and no port owes much
pub record KeepsJoin (ws : List ℕ) (old new : JoinKept) (out out' : List item.Item) : Type 0 where
  pub shape : HasJoinShape ws new
  pub few : OweLittle old.owed → OweLittle new.owed
  pub wide : (t : queue_type.QueueType) → IsJoinOf t old → GaveHeld (flat_in t) out out' × IsJoinOf t new

-- ONE ITEM

-- the port in turn had an item, which left; or it had none
pub record TakesItem (share : ℕ) (old new : Turns) (taken : ℕ × item.Item) : Type 0 where
  pub port : taken.0 ≡ old.port
  pub passes : PassesFront share old new taken.1

-- an item that is no pack has passed from a port: whatever contents were there, it is given with the change from what was given last in
-- place of its content
pub record FlatJoined (port : ℕ) (last : List (List ℤ)) (now : ℕ → List (List ℤ)) (f : flat.Flat) (s : List Debt) (given : flat.Flat) : Type 0 where
  pub next : ℕ → List (List ℤ)
  pub here : next port ≡ after_flat (now port) f
  pub others : (q : ℕ) → port ≢ q → next q ≡ now q
  pub owed : AreOwed s (λ p. after_flat last f) next
  pub gave : given ≡ held_flat last f

-- the same of the items of a pack
pub record FlatsJoined (port : ℕ) (last : List (List ℤ)) (now : ℕ → List (List ℤ)) (fs : List flat.Flat)
    (s : List Debt) (out out' : List item.Item) : Type 0 where
  pub next : ℕ → List (List ℤ)
  pub here : next port ≡ after_flats (now port) fs
  pub others : (q : ℕ) → port ≢ q → next q ≡ now q
  pub owed : AreOwed s (λ p. after_flats last fs) next
  pub gave : out' ≡ out ++ flats_as_items (held_flats last fs)

-- the same of an item, and its items where it is a pack
pub record ItemJoined (port : ℕ) (last : List (List ℤ)) (now : ℕ → List (List ℤ)) (x : item.Item) (s : List Debt) (out out' : List item.Item) : Type 0 where
  pub next : ℕ → List (List ℤ)
  pub here : next port ≡ after_item (now port) x
  pub others : (q : ℕ) → port ≢ q → next q ≡ now q
  pub owed : AreOwed s (λ p. after_item last x) next
  pub gave : out' ≡ out ++ held_from last (items_of x)

-- one item that is no pack passes, whatever it stands for
pub record JoinsFlat (port : ℕ) (f : flat.Flat) (old new : List Debt) (given : flat.Flat) : Type 0 where
  pub each : (last : List (List ℤ)) (now : ℕ → List (List ℤ)) (g : flat.Flat) → IsUnchanged g → AreOwed old (λ p. last) now → f ≡ held_flat (now port) g
      → FlatJoined port last now g new given
  pub plain : IsUnchanged f → (given ≡ f) × (new ≡ old)
  pub lists : length new ≡ length old
  pub few : OweLittle old → OweLittle new
  pub wide : (t : flat_type.FlatType) → MayHold t f → MayOwe t old → MayHold t given × MayOwe t new

-- the items of a pack do
pub record JoinsFlats (port : ℕ) (fs : List flat.Flat) (old new : List Debt) (out out' : List item.Item) : Type 0 where
  pub each : (last : List (List ℤ)) (now : ℕ → List (List ℤ)) (gs : List flat.Flat) → All IsUnchanged gs → AreOwed old (λ p. last) now
      → fs ≡ held_flats (now port) gs → FlatsJoined port last now gs new out out'
  pub plain : All IsUnchanged fs → (out' ≡ out ++ flats_as_items fs) × (new ≡ old)
  pub lists : length new ≡ length old
  pub few : OweLittle old → OweLittle new
  pub wide : (t : flat_type.FlatType) → All (MayHold t) fs → MayOwe t old → GaveHeld t out out' × MayOwe t new

-- an item does
pub record JoinsItem (port : ℕ) (x : item.Item) (old new : List Debt) (out out' : List item.Item) : Type 0 where
  pub each : (last : List (List ℤ)) (now : ℕ → List (List ℤ)) (y : item.Item) → HasNoChange y → AreOwed old (λ p. last) now → x ≡ held_item (now port) y
      → ItemJoined port last now y new out out'
  pub plain : HasNoChange x → (out' ≡ out ++ items_of x) × (new ≡ old)
  pub lists : length new ≡ length old
  pub few : OweLittle old → OweLittle new
  pub wide : (t : queue_type.QueueType) → IsHeld t x → MayOwe (flat_in t) old → GaveHeld (flat_in t) out out' × MayOwe (flat_in t) new

-- ONE ITEM, WITHOUT MEMORY

-- a part of a pack was given
pub record JoinsFlatsPart (port : ℕ) (fs : List flat.Flat) (old : List Debt) (out out' : List item.Item) : Type 0 where
  pub each : (last : List (List ℤ)) (now : ℕ → List (List ℤ)) (gs : List flat.Flat) → All IsUnchanged gs → AreOwed old (λ p. last) now
      → fs ≡ held_flats (now port) gs → GrewByPrefix out (flats_as_items (held_flats last gs)) out'
  pub plain : All IsUnchanged fs → GrewByPrefix out (flats_as_items fs) out'

-- a part of an item was given
pub record JoinsItemPart (port : ℕ) (x : item.Item) (old : List Debt) (out out' : List item.Item) : Type 0 where
  pub each : (last : List (List ℤ)) (now : ℕ → List (List ℤ)) (y : item.Item) → HasNoChange y → AreOwed old (λ p. last) now → x ≡ held_item (now port) y
      → GrewByPrefix out (held_from last (items_of y)) out'
  pub plain : HasNoChange x → GrewByPrefix out (items_of x) out'
