-- What steps on changes do, by contents.
use Rattle.std.specs.Prelude.{◌≡◌, ◌+◌, ◌≤◌, ℕ, zero, suc, ℤ, List, [], ◌∷◌, ◌++◌, length, map, All}
use Rattle.river_base.specs.Changes.{change_to, changes, IsWideChange, IsChangeOf, GaveChanges}
use Rattle.river_base.specs.Grew.{GrewByPrefix}
use Rattle.river_base.specs.Held.{batches, IsAscending, HaveWidth}
use Rattle.river_base.specs.declared.item.Batch.{Batch}
use Rattle.river_base.specs.declared.item.Change.{Change}
use Rattle.river_base.specs.declared.item.Flat as flat
use Rattle.river_base.specs.declared.item.Flat.TheVariants.{One, Batch as Batched, Change as Changed}
use Rattle.river_base.specs.declared.item.Item as item
use Rattle.river_base.specs.declared.item.Item.TheVariants.{Flat}
use Rattle.work_code.specs.Term.{Term}
use Rattle.kern_changes.specs.Counted.{AreSame}
use Rattle.kern_bags.specs.Contents.{content_of, product, selected, projected}
use Rattle.kern_bags.specs.Kept.{Stamped, WindowKept, StandsForWindow}
use Rattle.kern_bags.specs.Steps.{select_one, streamed}
use Rattle.kern_bags.specs.declared.kernel.Window.{Window}
use Rattle.kern_bags.specs.declared.kernel.Streamer.{Streamer}
use Rattle.kern_bags.specs.declared.kernel.Streamer.TheVariants.{Istream, Dstream, Rstream}

-- a batch with these rows at the instant of another
abbrev pub stamped_as : Batch → List (List ℤ) → Batch
stamped_as b rows = record { at = b.at; rows = rows }

-- a kernel that is a function of the content: whatever content was there and came, where c is the change to it, d is the change of
-- the function
pub record FollowsContent (F : List (List ℤ) → List (List ℤ)) (c d : Change) : Type 0 where
  pub each : (before : List (List ℤ)) (b : Batch) → c ≡ change_to before b → d ≡ change_to (F before) (stamped_as b (F b.rows))

-- the rows in front have left, and came to others without their instants
pub record LetGo (old new : List Stamped) (gone gone' : List (List ℤ)) : Type 0 where
  pub left : List Stamped
  pub parts : old ≡ left ++ new
  pub rows : gone' ≡ gone ++ map (λ (e : Stamped). e.1) left

-- a batch came to a window: whatever batches it had, the change is that of its content, and it keeps what it keeps of them and this one
pub record Windows (w : Window) (b : Batch) (old new : WindowKept) (c : Change) : Type 0 where
  pub each : (past : List item.Item) → StandsForWindow w old past
      → (c ≡ change_to (content_of w (batches past)) (stamped_as b (content_of w (batches (past ++ Flat (Batched b) ∷ [])))))
      × StandsForWindow w new (past ++ Flat (Batched b) ∷ [])

-- whatever batches there were: the change is normalised, and as wide as the rows that came and those that are kept
pub record WindowFits (b : Batch) (old new : WindowKept) (c : Change) : Type 0 where
  pub each : (w : ℕ) → HaveWidth w b.rows → HaveWidth w (map (λ (e : Stamped). e.1) old.rows)
      → IsChangeOf w c × HaveWidth w (map (λ (e : Stamped). e.1) new.rows)

-- WHAT ONE ITEM GIVES

-- one change was given, of which this holds
pub record GaveChange (P : Change → Type 0) (out out' : List item.Item) : Type 0 where
  pub change : Change
  pub grew : out' ≡ out ++ Flat (Changed change) ∷ []
  pub is : P change

-- one batch was given, of which this holds
pub record GaveBatch (P : Batch → Type 0) (out out' : List item.Item) : Type 0 where
  pub batch : Batch
  pub grew : out' ≡ out ++ Flat (Batched batch) ∷ []
  pub is : P batch

-- changes as items
abbrev pub as_changes : List Change → List item.Item
as_changes cs = map (λ c. Flat (Changed c)) cs

-- a batch came to a window: the change is that of its content, and it fits
pub record WindowSteps (w : Window) (b : Batch) (old new : WindowKept) (c : Change) : Type 0 where
  pub contents : Windows w b old new c
  pub fits : WindowFits b old new c

-- a change came to a selection: the change is that of what is selected, and as wide
pub record Selects (t : Term) (c d : Change) : Type 0 where
  pub contents : FollowsContent (selected t) c d
  pub fits : (w : ℕ) → IsChangeOf w c → IsChangeOf w d

-- an item came to a selection: of a stream its rows that are selected are given, of a relation the change
abbrev pub SelectsFlat : Term → flat.Flat → List item.Item → List item.Item → Type 0
SelectsFlat t (One row) out out' = out' ≡ out
SelectsFlat t (Batched b) out out' = out' ≡ out ++ select_one t (Flat (Batched b))
SelectsFlat t (Changed c) out out' = GaveChange (Selects t c) out out'

-- a change came to a projection: the change is that of what is projected, as wide as there are expressions
pub record Projects (ts : List Term) (c d : Change) : Type 0 where
  pub contents : FollowsContent (projected ts) c d
  pub fits : IsChangeOf (length ts) d

-- an item that is a change came to a projection
pub record ProjectsFlat (ts : List Term) (x : flat.Flat) (out out' : List item.Item) : Type 0 where
  pub each : (c : Change) → x ≡ Changed c → GaveChange (Projects ts c) out out'

-- STREAMERS

-- what a streamer keeps of a content: Rstream the bag of its rows, the others nothing
abbrev pub KeepsContent : Streamer → List (List ℤ) → List (List ℤ) → Type 0
KeepsContent Istream now content = Unit {0}
KeepsContent Dstream now content = Unit {0}
KeepsContent Rstream now content = AreSame now content

-- a change came to a streamer: whatever the content was of which it kept what it keeps, the batch is what the streamer gives, and it
-- keeps what it keeps of the content after it
pub record StreamsChange (s : Streamer) (c : Change) (old new : List (List ℤ)) (given : Batch) : Type 0 where
  pub each : (before : List (List ℤ)) (b : Batch) → IsAscending b.rows → KeepsContent s old before → c ≡ change_to before b
      → (given ≡ stamped_as b (streamed s before b.rows)) × KeepsContent s new b.rows

-- what is given and what is kept is as wide as the change and what was kept
pub record StreamFits (c : Change) (old new : List (List ℤ)) (given : Batch) : Type 0 where
  pub each : (w : ℕ) → HaveWidth w old → IsWideChange w c → HaveWidth w new × HaveWidth w given.rows

-- both
pub record StreamSteps (s : Streamer) (c : Change) (old new : List (List ℤ)) (given : Batch) : Type 0 where
  pub contents : StreamsChange s c old new given
  pub fits : StreamFits c old new given

-- an item that is a change came to a streamer
pub record StreamsFlat (s : Streamer) (x : flat.Flat) (old new : List (List ℤ)) (out out' : List item.Item) : Type 0 where
  pub each : (c : Change) → x ≡ Changed c → GaveBatch (StreamSteps s c old new) out out'

-- a change came to a streamer that keeps nothing: whatever the content was, the batch is what the streamer gives
pub record StreamsFree (s : Streamer) (c : Change) (given : Batch) : Type 0 where
  pub each : (before : List (List ℤ)) (b : Batch) → c ≡ change_to before b → given ≡ stamped_as b (streamed s before b.rows)

-- a change came to a streamer that keeps the content as a bag: whatever the content was, the batch is all of it
pub record StreamsAll (c : Change) (old new : List (List ℤ)) (given : Batch) : Type 0 where
  pub each : (before : List (List ℤ)) (b : Batch) → IsAscending b.rows → AreSame old before → c ≡ change_to before b
      → (given ≡ stamped_as b (streamed Rstream before b.rows))
      × AreSame new b.rows

-- A PRODUCT OF TWO RELATIONS

-- what a product keeps: the changes that wait at each port, and the bags of the contents that passed last
pub record CrossKept : Type 0 where
  pub left : List Change
  pub right : List Change
  pub lefts : List (List ℤ)
  pub rights : List (List ℤ)

-- the contents that passed last, and those that wait
pub record Crossing : Type 0 where
  pub lefts : List (List ℤ)
  pub rights : List (List ℤ)
  pub left : List Batch
  pub right : List Batch

-- nothing waits, and nothing has passed
abbrev pub cross_start : CrossKept
cross_start = record { left = []; right = []; lefts = []; rights = [] }

-- these contents
abbrev pub crossing : List (List ℤ) → List (List ℤ) → List Batch → List Batch → Crossing
crossing lefts rights left right = record { lefts = lefts; rights = rights; left = left; right = right }

-- what passes as long as a content waits at both ports, and what is left
abbrev pub passing : List (List ℤ) → List (List ℤ) → List Batch → List Batch → List Batch × Crossing
passing lefts rights [] rs = ([], crossing lefts rights [] rs)
passing lefts rights (l ∷ ls) [] = ([], crossing lefts rights (l ∷ ls) [])
passing lefts rights (l ∷ ls) (r ∷ rs) = let p = passing l.rows r.rows ls rs in (stamped_as l (product l.rows r.rows) ∷ p.0, p.1)

-- the same of a meaning
abbrev pub passed_pairs : Crossing → List Batch × Crossing
passed_pairs m = passing m.lefts m.rights m.left m.right

-- the changes that are kept stand for the contents that wait, after those that passed
pub record StandsForCrossing (kept : CrossKept) (m : Crossing) : Type 0 where
  pub lefts : AreSame kept.lefts m.lefts
  pub rights : AreSame kept.rights m.rights
  pub left : kept.left ≡ changes m.lefts m.left
  pub right : kept.right ≡ changes m.rights m.right

-- as long as both ports had a change, pairs passed: whatever contents the changes stand for, the changes of the products came, and
-- what is kept stands for what is left
pub record Crosses (old new : CrossKept) (out out' : List Change) : Type 0 where
  pub each : (m : Crossing) → StandsForCrossing old m
      → (out' ≡ out ++ changes (product m.lefts m.rights) (passed_pairs m).0) × StandsForCrossing new (passed_pairs m).1

-- a change comes to a port, the first or the second
abbrev pub put_change : ℕ → Change → CrossKept → CrossKept
put_change zero c s = record { left = s.left ++ c ∷ []; right = s.right; lefts = s.lefts; rights = s.rights }
put_change (suc p) c s = record { left = s.left; right = s.right ++ c ∷ []; lefts = s.lefts; rights = s.rights }

-- the rows that wait at the ports and those that are kept are so wide at the left and at the right
pub record IsCrossOf (left right : ℕ) (s : CrossKept) : Type 0 where
  pub few : left + right ≤ 16
  pub lefts : HaveWidth left s.lefts
  pub rights : HaveWidth right s.rights
  pub wait_left : All (IsWideChange left) s.left
  pub wait_right : All (IsWideChange right) s.right

-- whatever contents there were: the changes given are normalised, and as wide as both sides together
pub record CrossFits (old new : CrossKept) (out out' : List Change) : Type 0 where
  pub each : (left right : ℕ) → IsCrossOf left right old → GaveChanges (left + right) out out' × IsCrossOf left right new

-- both
pub record CrossSteps (old new : CrossKept) (given : List Change) : Type 0 where
  pub contents : Crosses old new [] given
  pub fits : CrossFits old new [] given

-- a change came to a port: the changes that it lets pass were given
pub record CrossesChange (port : ℕ) (c : Change) (old new : CrossKept) (out out' : List item.Item) : Type 0 where
  pub given : List Change
  pub grew : out' ≡ out ++ as_changes given
  pub is : CrossSteps (put_change port c old) new given

-- an item that is a change came to a port
pub record CrossesFlat (port : ℕ) (x : flat.Flat) (old new : CrossKept) (out out' : List item.Item) : Type 0 where
  pub each : (c : Change) → x ≡ Changed c → CrossesChange port c old new out out'

-- there was no memory: whatever contents the changes stand for, a part of the changes of the products was given
pub record CrossesPart (port : ℕ) (x : flat.Flat) (old : CrossKept) (out out' : List item.Item) : Type 0 where
  pub each : (c : Change) → x ≡ Changed c → (m : Crossing) → StandsForCrossing (put_change port c old) m
      → GrewByPrefix out (as_changes (changes (product m.lefts m.rights) (passed_pairs m).0)) out'
