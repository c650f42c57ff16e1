-- Firings from any states of the definition and after any word: what a firing gives where what was received and given before it is known.
use Rattle.std.specs.Prelude.{◌≡◌, ℕ, ℤ, ◌+◌, ◌<◌, Bool, false, Option, Some, None, List, [], ◌∷◌, ◌++◌, All, length, map, take, drop, slice_get}
use Rattle.river_base.specs.declared.item.Batch.{Batch}
use Rattle.river_base.specs.declared.item.Item as item
use Rattle.river_base.specs.declared.item.Flat.TheVariants.{Batch as Batched}
use Rattle.river_base.specs.declared.item.Item.TheVariants.{Flat}
use Rattle.river_base.specs.declared.kind.FlatType.TheVariants.{Relation}
use Rattle.river_base.specs.declared.kind.QueueType.{QueueType}
use Rattle.river_base.specs.declared.kind.QueueType.TheVariants.{Flat as FlatOf, Pack as PackOf}
use Rattle.river_base.specs.Changes.{last_content}
use Rattle.river_base.specs.Held.{held, content_from, IsHeld, IsPlain, IsRelation, HaveWidth, batches}
use Rattle.river_base.specs.Places.{each_grew, list_at}
use Rattle.kern_rows.specs.Joined.{JoinKept, HasJoinShape, StandsForJoining}
use Rattle.kern_rows.specs.Joined as joined
use Rattle.kern_rows.specs.Dealing.{Dealt}
use Rattle.kern_rows.specs.Forms.{FilterForm, RunForm}
use Rattle.kern_rows.specs.Stands.{Waiting, needs_now}
use Rattle.kern_rows.specs.Turns.{IsTurn, shares, ones}
use Rattle.kern_bags.specs.Contents.{content_of, product}
use Rattle.kern_bags.specs.Following.{CrossKept, StandsForCrossing, IsCrossOf, KeepsContent}
use Rattle.kern_bags.specs.Following as following
use Rattle.kern_bags.specs.Kept.{Stamped, WindowKept, IsWindowKept, StandsForWindow}
use Rattle.kern_bags.specs.Steps.{last_rows}
use Rattle.kern_bags.specs.declared.kernel.Streamer.{Streamer}
use Rattle.kern_bags.specs.declared.kernel.Window.{Window}
use Rattle.kern_changes.specs.Owed.{AreOwed, OweLittle, AreDebtsOf}
use Rattle.river_kernels.specs.declared.types.VarKind.{VarKind}
use Rattle.river_kernels.specs.Fits.{Fits, stream, relation}
use Rattle.river_kernels.specs.Types.{types_of}
use Rattle.river_kernels.specs.Kern.{Kern, code, filter, duplicate, deal, collect, packed, unpack, window, select, project, cross, streamer, tally, fused}
use Rattle.brooklet_model.specs.Firings.{Kept, Joining, Received, Crossing, Fired, feed, splice, beside}
use Rattle.brooklet_model.specs.Fire.{fire, privates, outs, tabs}
use Rattle.brooklet_model.specs.Typed.{IsOf, IsWordOf, IsStart, between, widths_in, AreWide}
use Rattle.brooklet_model.specs.Words.{Word, run, at_port, word_of}
use Rattle.brooklet_step.specs.declared.emit.Emit.{Emit}
use Rattle.brooklet_step.specs.declared.state.State.{State}
use Rattle.brooklet_step.specs.declared.state.State.TheVariants as state
use Rattle.brooklet_step.specs.Stands.{StandsForKept, StandsForTurn}
use Rattle.brooklet_step.specs.Took.{HasLists, IsBlank}

-- QUEUES AT PORTS

-- what the queue at a port holds; beyond the ports the items themselves
abbrev pub held_by : Option QueueType → List item.Item → List item.Item → List item.Item
held_by None past xs = xs
held_by (Some t) past xs = held t past xs

abbrev pub held_at : List QueueType → ℕ → List item.Item → List item.Item → List item.Item
held_at types p past xs = held_by (slice_get types p) past xs

-- the item is what the queue at a port may hold
abbrev pub IsHeldBy : Option QueueType → item.Item → Type 0
IsHeldBy None i = ⊥
IsHeldBy (Some t) i = IsHeld t i

abbrev pub IsHeldOf : List QueueType → ℕ → item.Item → Type 0
IsHeldOf types p i = IsHeldBy (slice_get types p) i

abbrev pub AreHeldOf : List QueueType → (ℕ → List item.Item) → Type 0
AreHeldOf types f = (p : ℕ) → All (IsHeldOf types p) (f p)

-- a queue at a port holds items as they are, and beyond the ports there is none that does not; or it holds changes, alone or in packs
abbrev pub IsPlainBy : Option QueueType → Type 0
IsPlainBy None = Unit {0}
IsPlainBy (Some t) = IsPlain t

abbrev pub IsRelationBy : Option QueueType → Type 0
IsRelationBy None = ⊥
IsRelationBy (Some t) = IsRelation t

-- of a relation, how many columns it has
abbrev pub columns_by : Option QueueType → Option ℕ
columns_by None = None
columns_by (Some (FlatOf (Relation n))) = Some n
columns_by (Some (PackOf (Relation n))) = Some n
columns_by (Some t) = None

-- WHAT STATES ARE

-- so many slots
pub record FitsSlots (n : ℕ) (st : List State) : Type 0 where
  pub slots : List ℤ
  pub code : st ≡ state.Slots slots ∷ []
  pub count : length slots ≡ n

abbrev pub FitSlots : List ℤ → List State → Type 0
FitSlots [] st = st ≡ []
FitSlots (z ∷ zs) st = FitsSlots (length (z ∷ zs)) st

-- a first run of its own is to come only where there is one
abbrev pub MayBeFresh : Option RunForm → Bool → Type 0
MayBeFresh None fresh = fresh ≡ false
MayBeFresh (Some r) fresh = Unit {0}

pub record FitFilter (f : FilterForm) (st : List State) : Type 0 where
  pub now : Waiting
  pub code : st ≡ state.Filter now ∷ []
  pub count : length now.kept ≡ length f.starts
  pub few : length now.buffer < needs_now f now.fresh
  pub fresh : MayBeFresh f.first now.fresh

-- the turn of a splitter. What its lists owe is as wide as what it reads, and not much
pub record FitTurn (ws : List ℕ) (reads : List QueueType) (st : List State) : Type 0 where
  pub now : Dealt
  pub code : st ≡ state.Deal now ∷ []
  pub turn : IsTurn ws now.turn.port now.turn.had
  pub lists : length now.owed ≡ length ws
  pub few : OweLittle now.owed
  pub wide : (n : ℕ) → columns_by (slice_get reads 0) ≡ Some n → AreDebtsOf n now.owed

-- what waits in a joiner is what its queues may hold, and so is what its ports owe
pub record FitJoiner (ws : List ℕ) (reads : List QueueType) (st : List State) : Type 0 where
  pub now : JoinKept
  pub code : st ≡ state.Join now ∷ []
  pub joined : HasJoinShape ws now
  pub items : AreHeldOf reads (list_at now.turns.lists)
  pub few : OweLittle now.owed
  pub wide : (n : ℕ) → columns_by (slice_get reads 0) ≡ Some n → AreDebtsOf n now.owed

-- what a window keeps of some batches, in rows of its port's width
pub record FitWindow (w : Window) (reads : List QueueType) (st : List State) : Type 0 where
  pub now : WindowKept
  pub code : st ≡ state.Window now ∷ []
  pub kept : IsWindowKept w now
  pub wide : (n : ℕ) → slice_get reads 0 ≡ Some (stream n) → HaveWidth n (map (λ (e : Stamped). e.1) now.rows)

-- the content that a streamer keeps has rows of its port's width
pub record FitStreamer (reads : List QueueType) (st : List State) : Type 0 where
  pub now : List (List ℤ)
  pub code : st ≡ state.Streamer now ∷ []
  pub wide : (n : ℕ) → slice_get reads 0 ≡ Some (relation n) → HaveWidth n now

-- what waits at the ports of a product, and what passed there, is of their widths
pub record FitCross (reads : List QueueType) (st : List State) : Type 0 where
  pub now : CrossKept
  pub code : st ≡ state.Cross now ∷ []
  pub wide : (a b : ℕ) → reads ≡ relation a ∷ relation b ∷ [] → IsCrossOf a b now

-- the states are the kernel's own, and what they keep is what queues of these types may hold. It speaks of the states alone: of
-- no state of the definition and of no word, since a task also fires on items of which it does not yet know what they stand for
abbrev pub FitState : Kern → List QueueType → List State → Type 0
FitState (code k) reads st = FitSlots k.starts st
FitState (filter f) reads st = FitFilter f st
FitState (duplicate n) reads st = st ≡ []
FitState (deal ws) reads st = FitTurn (shares ws) reads st
FitState (collect ws) reads st = FitJoiner (shares ws) reads st
FitState (packed k) reads st = FitState k reads st
FitState (unpack n) reads st = FitJoiner (ones n) reads st
FitState (window w) reads st = FitWindow w reads st
FitState (select e) reads st = st ≡ []
FitState (project es) reads st = st ≡ []
FitState cross reads st = FitCross reads st
FitState (streamer s) reads st = FitStreamer reads st
FitState tally reads st = st ≡ []
FitState (fused a b at) reads st = FitState a reads (take (privates a) st) × FitState b (between at (types_of a reads)) (drop (privates a) st)

-- kernels without a kernel inside
abbrev pub IsLeafKernel : Kern → Type 0
IsLeafKernel (packed k) = ⊥
IsLeafKernel (fused a b at) = ⊥
IsLeafKernel kernel = Unit {0}

-- WHAT STATES STAND FOR

-- all that a kernel gives in the firings of a word that begins at these states, and the states after them
abbrev pub ran_from : Kern → List Kept → Word → Fired
ran_from k start w = run (fire k) w start

-- a splitter: its turn; and where it deals a relation, what each list owes leads from the content last given there to the content last
-- received
pub record DealStands (ws : List ℤ) (reads : List QueueType) (start : List Kept) (st : List State) (w : Word) : Type 0 where
  pub stands : StandsForTurn (shares ws) st (ran_from (deal ws) start w).states
  pub owed : IsRelationBy (slice_get reads 0)
      → AreOwed stands.now.owed (λ p. content_from [] ((ran_from (deal ws) start w).outs p)) (λ p. content_from [] (at_port 0 w))

-- a joiner of relations: what waits stands for the items that wait there by the definition, after contents that passed
pub record ContentsWait (k : Kern) (start : List Kept) (now : JoinKept) (w : Word) : Type 0 where
  pub contents : joined.Joining
  pub defined : (ran_from k start w).states ≡ Joining contents.turns ∷ []
  pub stands : StandsForJoining now contents
  pub given : contents.last ≡ content_from [] ((ran_from k start w).outs 0)
  pub received : (p : ℕ) → p < length contents.turns.lists → content_from (contents.now p) (list_at contents.turns.lists p) ≡ content_from [] (at_port p w)

-- a joiner: the items themselves wait, or changes that stand for them
pub record JoinStands (k : Kern) (ws : List ℕ) (reads : List QueueType) (start : List Kept) (st : List State) (w : Word) : Type 0 where
  pub now : JoinKept
  pub code : st ≡ state.Join now ∷ []
  pub shape : HasJoinShape ws now
  pub plain : IsPlainBy (slice_get reads 0) → (ran_from k start w).states ≡ Joining now.turns ∷ []
  pub relation : IsRelationBy (slice_get reads 0) → ContentsWait k start now w

-- a window: the batches that it has received, of which it keeps what it keeps; what was given is its content
pub record WindowStands (v : Window) (start : List Kept) (st : List State) (w : Word) : Type 0 where
  pub now : WindowKept
  pub past : List item.Item
  pub code : st ≡ state.Window now ∷ []
  pub defined : (ran_from (window v) start w).states ≡ Received past ∷ []
  pub stands : StandsForWindow v now past
  pub given : content_of v (batches past) ≡ content_from [] ((ran_from (window v) start w).outs 0)

-- batches as items
abbrev pub as_batches : List Batch → List item.Item
as_batches bs = map (λ b. Flat (Batched b)) bs

-- a product: the contents that passed last and those that wait, for which the kept changes stand
pub record CrossStands (start : List Kept) (st : List State) (w : Word) : Type 0 where
  pub now : CrossKept
  pub contents : following.Crossing
  pub code : st ≡ state.Cross now ∷ []
  pub defined : (ran_from cross start w).states ≡ Crossing (record { left = as_batches contents.left; right = as_batches contents.right }) ∷ []
  pub stands : StandsForCrossing now contents
  pub given : content_from [] ((ran_from cross start w).outs 0) ≡ product contents.lefts contents.rights
  pub left : content_from [] (at_port 0 w) ≡ last_content contents.lefts contents.left
  pub right : content_from [] (at_port 1 w) ≡ last_content contents.rights contents.right

-- a streamer: the last of the contents that it has received is that of its queue
pub record StreamerStands (s : Streamer) (start : List Kept) (st : List State) (w : Word) : Type 0 where
  pub now : List (List ℤ)
  pub past : List item.Item
  pub code : st ≡ state.Streamer now ∷ []
  pub defined : (ran_from (streamer s) start w).states ≡ Received past ∷ []
  pub last : last_rows (batches past) ≡ content_from [] (at_port 0 w)
  pub kept : KeepsContent s now (content_from [] (at_port 0 w))

-- the states stand for the definition's states after this word of firings, which began at its states `start`; so where the word is empty,
-- they stand for `start`. The queues at the ports begin there too: what a queue has is what it holds for the items of the word, as though
-- none had come before the start. So where a relation passes, the states stand for such a start alone whose last contents are empty
abbrev pub StandsAfter : Kern → List QueueType → List Kept → List State → Word → Type 0
StandsAfter (deal ws) reads start st w = DealStands ws reads start st w
StandsAfter (collect ws) reads start st w = JoinStands (collect ws) (shares ws) reads start st w
StandsAfter (packed k) reads start st w = StandsAfter k reads start st w
StandsAfter (unpack n) reads start st w = JoinStands (unpack n) (ones n) reads start st w
StandsAfter (window v) reads start st w = WindowStands v start st w
StandsAfter cross reads start st w = CrossStands start st w
StandsAfter (streamer s) reads start st w = StreamerStands s start st w
StandsAfter (fused a b at) reads start st w =
    StandsAfter a reads (take (privates a) start) (take (privates a) st) w
    × StandsAfter b (between at (types_of a reads)) (drop (privates a) start) (drop (privates a) st)
    (word_of 0 ((ran_from a (take (privates a) start) w).outs at))
StandsAfter kernel reads start st w = StandsForKept kernel st (ran_from kernel start w).states

-- FIRINGS

-- a firing after which `before` had been given: what queues hold for its items came to what was there
pub record TookHeld (writes : List QueueType) (before : Fired) (old new : Emit) (r : Fired) : Type 0 where
  pub outs : new.outs ≡ each_grew old.outs (λ p. held_at writes p (before.outs p) (r.outs p))
  pub adds : new.adds ≡ each_grew old.adds r.adds

-- wherever firings may begin, and whatever was received since: where the states stand for the definition's after it, and the item i is what
-- the queue holds for the item x after it, what came is what queues hold for what the firing on x gives there, and the new states stand
-- for the definition's after it and x. Where nothing was received since: let the states stand for states of the definition; then what came
-- is what the firing gives from these, and the new states stand for the next ones
pub record GivesAsDefined (k : Kern) (reads writes : List QueueType) (port : ℕ) (i : item.Item) (out new : Emit) (st st' : List State) : Type 0 where
  pub given : (start : List Kept) (w : Word) (x : item.Item) → IsStart k reads start → IsWordOf reads w → IsOf reads port x → StandsAfter k reads start st w
      → held_at reads port (at_port port w) (x ∷ []) ≡ i ∷ []
      → TookHeld writes (ran_from k start w) out new (fire k port x (ran_from k start w).states) × StandsAfter k reads start st' (w ++ (port, x) ∷ [])

-- whatever was received: what came is what queues may hold, rows for tables have the tables' widths, and the states fit again
pub record CameAsHeld (k : Kern) (reads writes : List QueueType) (vars : List VarKind) (out new : Emit) (st' : List State) : Type 0 where
  pub outs : ℕ → List item.Item
  pub adds : ℕ → List (List ℤ)
  pub outs_are : new.outs ≡ each_grew out.outs outs
  pub adds_are : new.adds ≡ each_grew out.adds adds
  pub held : AreHeldOf writes outs
  pub wide : AreWide (widths_in vars) adds
  pub again : FitState k reads st'

pub record Does (k : Kern) (reads writes : List QueueType) (vars : List VarKind) (port : ℕ)
    (i : item.Item) (out new : Emit) (st st' : List State) : Type 0 where
  pub gives : GivesAsDefined k reads writes port i out new st st'
  pub came : CameAsHeld k reads writes vars out new st'

-- under each choice of types for the ports
pub record FiresAt (k : Kern) (port : ℕ) (i : item.Item) (out new : Emit) (st st' : List State) : Type 0 where
  pub each : (reads writes : List QueueType) (vars : List VarKind) → Fits k reads writes vars → FitState k reads st → IsHeldOf reads port i
      → Does k reads writes vars port i out new st st'

-- the same of the items of a list, one after another at the first port
pub record GivesAll (k : Kern) (reads writes : List QueueType) (is : List item.Item) (out new : Emit) (st st' : List State) : Type 0 where
  pub given : (start : List Kept) (w : Word) (xs : List item.Item) → IsStart k reads start → IsWordOf reads w → All (IsOf reads 0) xs
      → StandsAfter k reads start st w → held_at reads 0 (at_port 0 w) xs ≡ is
      → TookHeld writes (ran_from k start w) out new (feed (fire k 0) xs (ran_from k start w).states) × StandsAfter k reads start st' (w ++ word_of 0 xs)

pub record DoesAll (k : Kern) (reads writes : List QueueType) (vars : List VarKind) (is : List item.Item) (out new : Emit) (st st' : List State) : Type 0 where
  pub gives : GivesAll k reads writes is out new st st'
  pub came : CameAsHeld k reads writes vars out new st'

pub record FiresEach (k : Kern) (is : List item.Item) (out new : Emit) (st st' : List State) : Type 0 where
  pub each : (reads writes : List QueueType) (vars : List VarKind) → Fits k reads writes vars → FitState k reads st → All (IsHeldOf reads 0) is
      → DoesAll k reads writes vars is out new st st'

-- WHEN FIRINGS CAN BE MADE

pub record Fitting (k : Kern) (reads : List QueueType) (st : List State) : Type 0 where
  pub writes : List QueueType
  pub vars : List VarKind
  pub fits : Fits k reads writes vars
  pub state : FitState k reads st

pub record CanTake (k : Kern) (port : ℕ) (i : item.Item) (st : List State) (out : Emit) : Type 0 where
  pub reads : List QueueType
  pub fitting : Fitting k reads st
  pub item : IsHeldOf reads port i
  pub room : HasLists k out

pub record CanTakeAll (k : Kern) (is : List item.Item) (st : List State) (out : Emit) : Type 0 where
  pub reads : List QueueType
  pub fitting : Fitting k reads st
  pub items : All (IsHeldOf reads 0) is
  pub room : HasLists k out

-- a firing on the first of the items, at the first port; it is left out of them
pub record FiresFront (k : Kern) (items left : List item.Item) (out new : Emit) (st st' : List State) : Type 0 where
  pub front : item.Item
  pub is : items ≡ front ∷ left
  pub fires : FiresAt k 0 front out new st st'

-- TWO KERNELS

-- the second of two kernels can take what the first gave at port `at`, whatever empty lists there are for what it gives, and there
-- is room for what both give
pub record CanTakeOn (b : Kern) (at : ℕ) (st : List State) (mid out : Emit) : Type 0 where
  pub place : at < length mid.outs
  pub outs : length out.outs + 1 ≡ length mid.outs + outs b
  pub adds : length out.adds ≡ length mid.adds + tabs b
  pub takes : (blank : Emit) → IsBlank b blank → CanTakeAll b (list_at mid.outs at) st blank

-- it fired on each of these items, and what both gave came to the lists
pub record TookOn (b : Kern) (at : ℕ) (mid out new : Emit) (st st' : List State) : Type 0 where
  pub blank : Emit
  pub last : Emit
  pub is_blank : IsBlank b blank
  pub fires : FiresEach b (list_at mid.outs at) blank last st st'
  pub outs : new.outs ≡ each_grew out.outs (splice at (length last.outs) (list_at mid.outs) (list_at last.outs))
  pub adds : new.adds ≡ each_grew out.adds (beside (length mid.adds) (list_at mid.adds) (list_at last.adds))
