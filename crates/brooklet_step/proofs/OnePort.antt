-- Kernels with one input port, and what comes at the first output port alone.
use Rattle.std.proofs.Common.{◌≡◌, ℕ, zero, suc, ◌<◌, List, [], ◌∷◌, length, refl, sym, ◌∙◌, subst, arith}
use Rattle.std.specs.Prelude.{All, slice_get, Some}
use Rattle.std.proofs.lemmas.List.Elements.{All-cons, All-nil}
use Rattle.river_base.specs.declared.item.Batch.{Batch}
use Rattle.river_base.specs.declared.item.Change.{Change}
use Rattle.river_base.specs.declared.item.Item as item
use Rattle.river_base.specs.declared.item.Item.TheVariants.{Flat, Pack}
use Rattle.river_base.specs.declared.item.Flat.TheVariants.{One, Batch as Batched, Change as Changed}
use Rattle.river_base.specs.declared.kind.FlatType.{FlatType}
use Rattle.river_base.specs.declared.kind.FlatType.TheVariants.{Rows, Stream, Relation}
use Rattle.river_base.specs.declared.kind.QueueType.{QueueType}
use Rattle.river_base.specs.declared.kind.QueueType.TheVariants.{Flat as FlatOf}
use Rattle.river_base.specs.Held.{held, content_from, HasType, IsHeld, HaveWidth, IsAscending}
use Rattle.river_base.specs.Changes.{change_to, IsChangeOf}
use Rattle.river_base.proofs.HeldLemmas.{held-relation}
use Rattle.river_base.specs.Places.{only, none}
use Rattle.river_base.proofs.PlaceLemmas.{each_grew_cong}
use Rattle.river_kernels.specs.declared.types.VarKind.{VarKind}
use Rattle.river_kernels.specs.Fits.{stream, relation}
use Rattle.river_kernels.specs.Kern.{Kern}
use Rattle.brooklet_model.specs.Firings.{Kept, Fired, gives}
use Rattle.brooklet_model.specs.Fire.{outs}
use Rattle.brooklet_model.specs.Typed.{IsOf, widths_in, IsWide}
use Rattle.brooklet_step.specs.declared.emit.Emit.{Emit}
use Rattle.brooklet_step.specs.declared.state.State.{State}
use Rattle.brooklet_step.specs.Took.{Took, HasLists}
use Rattle.brooklet_step.specs.Given.{held_at, IsHeldOf, FitState, TookHeld, CameAsHeld, Does}

-- WHAT QUEUES MAY HOLD

-- the item is a batch so wide
pub record IsBatchOf (n : ℕ) (i : item.Item) : Type 0 where
  pub batch : Batch
  pub is : i ≡ Flat (Batched batch)
  pub wide : HaveWidth n batch.rows

-- the item is the whole content of a relation so wide
pub record IsContentOf (n : ℕ) (i : item.Item) : Type 0 where
  pub batch : Batch
  pub is : i ≡ Flat (Batched batch)
  pub wide : HaveWidth n batch.rows
  pub up : IsAscending batch.rows

-- the item is a normalised change so wide
pub record IsItemOf (n : ℕ) (i : item.Item) : Type 0 where
  pub change : Change
  pub is : i ≡ Flat (Changed change)
  pub of : IsChangeOf n change

-- a queue of a stream may hold batches
pub stream_holds : (n : ℕ) (i : item.Item) → IsHeld (stream n) i → IsBatchOf n i
unfolding IsHeld
stream_holds n (Flat (Batched b)) h = record { batch = b; is = refl; wide = h }
stream_holds n (Flat (One row)) h = absurd h
stream_holds n (Flat (Changed c)) h = absurd h
stream_holds n (Pack fs) h = absurd h

-- a queue of a relation may hold changes
pub relation_holds : (n : ℕ) (i : item.Item) → IsHeld (relation n) i → IsItemOf n i
unfolding IsHeld
relation_holds n (Flat (Changed c)) h = record { change = c; is = refl; of = h }
relation_holds n (Flat (One row)) h = absurd h
relation_holds n (Flat (Batched b)) h = absurd h
relation_holds n (Pack fs) h = absurd h

-- and these it may
pub batch_held : (n : ℕ) (b : Batch) → HaveWidth n b.rows → IsHeld (stream n) (Flat (Batched b))
unfolding IsHeld
batch_held n b h = h

-- a normalised change of the width may be held by a queue of a relation
pub change_held : (n : ℕ) (c : Change) → IsChangeOf n c → IsHeld (relation n) (Flat (Changed c))
unfolding IsHeld
change_held n c h = h

-- a batch that a queue of a stream may hold has rows of its width
pub held_batch : (n : ℕ) (b : Batch) → IsHeld (stream n) (Flat (Batched b)) → HaveWidth n b.rows
unfolding IsHeld
held_batch n b h = h

-- a change that a queue of a relation may hold is normalised and of its width
pub held_change : (n : ℕ) (c : Change) → IsHeld (relation n) (Flat (Changed c)) → IsChangeOf n c
unfolding IsHeld
held_change n c h = h

-- a queue that may hold a batch is one of a stream
pub batch_type : (t : FlatType) (b : Batch) → IsHeld (FlatOf t) (Flat (Batched b)) → (n : ℕ) × (t ≡ Stream n) × HaveWidth n b.rows
unfolding IsHeld
batch_type (Stream n) b h = (n, refl, h)
batch_type (Rows n) b h = absurd h
batch_type (Relation n) b h = absurd h

-- one that may hold a change is one of a relation
pub change_type : (t : FlatType) (c : Change) → IsHeld (FlatOf t) (Flat (Changed c)) → (n : ℕ) × (t ≡ Relation n) × IsChangeOf n c
unfolding IsHeld
change_type (Relation n) c h = (n, refl, h)
change_type (Rows n) c h = absurd h
change_type (Stream n) c h = absurd h

-- an item of a relation is a content
pub relation_typed : (n : ℕ) (x : item.Item) → HasType (relation n) x → IsContentOf n x
relation_typed n (Flat (Batched b)) h = record { batch = b; is = refl; wide = h.0; up = h.1 }
relation_typed n (Flat (One row)) h = absurd h
relation_typed n (Flat (Changed c)) h = absurd h
relation_typed n (Pack fs) h = absurd h

pub same_change : (c d : Change) → Flat (Changed c) ∷ [] ≡ Flat (Changed d) ∷ [] → c ≡ d
same_change c d e = cc

-- a content that came, by its change
pub came_content : (n : ℕ) (past : List item.Item) (c : Change) (b : Batch) (x : item.Item) → x ≡ Flat (Batched b)
    → held (relation n) past (x ∷ []) ≡ Flat (Changed c) ∷ [] → c ≡ change_to (content_from [] past) b
came_content n past c b x e h =
    let y : held (relation n) past (Flat (Batched b) ∷ []) ≡ Flat (Changed c) ∷ [] = subst (λ z. held (relation n) past (z ∷ []) ≡ Flat (Changed c) ∷ []) e h in
    same_change c (change_to (content_from [] past) b) (sym y ∙ held-relation n past (Flat (Batched b) ∷ []))

-- equal ports
pub same_stream : (n m : ℕ) → Some (stream n) ≡ Some (stream m) → n ≡ m
same_stream n m e = cc

-- relations of one type are as wide
pub same_relation : (n m : ℕ) → Some (relation n) ≡ Some (relation m) → n ≡ m
same_relation n m e = cc

-- AT THE ONLY INPUT PORT

-- what is held at one of one port is held at it
pub held_first : (t : QueueType) (p : ℕ) (i : item.Item) → IsHeldOf (t ∷ []) p i → IsHeld t i
held_first t zero i h = h
held_first t (suc p) i h = absurd h

-- a typed item at one of one port
pub typed_first : (t : QueueType) (p : ℕ) (x : item.Item) → IsOf (t ∷ []) p x → HasType t x
typed_first t zero x h = h
typed_first t (suc p) x h = absurd h

-- an item of a kernel with one input port comes to the first
pub typed_port : (t : QueueType) (p : ℕ) (x : item.Item) → IsOf (t ∷ []) p x → p ≡ 0
typed_port t zero x h = refl
typed_port t (suc p) x h = absurd h

-- AT THE FIRST OUTPUT PORT

-- of one output port: its list is there
pub one_list : (k : Kern) (out : Emit) → outs k ≡ 1 → HasLists k out → 0 < length out.outs
one_list k out e h = let r = h.outs in omega (arith, r, e)

-- what came at the first port alone is what the queue there holds
pub took_first : (t : QueueType) (before : Fired) (ss ss' : List Kept) (out out' : Emit) (is xs : List item.Item) → Took out out' (gives 0 is ss)
    → held t (before.outs 0) xs ≡ is → TookHeld (t ∷ []) before out out' (gives 0 xs ss')
took_first t before ss ss' out out' is xs took e = record {
  outs = took.outs ∙ each_grew_cong out.outs (only 0 is) (λ p. held_at (t ∷ []) p (before.outs p) (only 0 xs p)) (λ p lt. at p);
  adds = took.adds;
}
  where
    at : (p : ℕ) → only 0 is p ≡ held_at (t ∷ []) p (before.outs p) (only 0 xs p)
    at zero = sym e
    at (suc p) = refl

-- and it may hold it
pub came_first : (k : Kern) (reads : List QueueType) (t : QueueType) (vars : List VarKind) (ss : List Kept) (out out' : Emit) (st' : List State)
    (is : List item.Item) → Took out out' (gives 0 is ss) → All (IsHeld t) is → FitState k reads st' → CameAsHeld k reads (t ∷ []) vars out out' st'
came_first k reads t vars ss out out' st' is took h again = record {
  outs = only 0 is;
  adds = none;
  outs_are = took.outs;
  adds_are = took.adds;
  held = at;
  wide = λ j. All-nil (IsWide (slice_get (widths_in vars) j));
  again = again;
}
  where
    at : (p : ℕ) → All (IsHeldOf (t ∷ []) p) (only 0 is p)
    at zero = h
    at (suc p) = All-nil (IsHeldOf (t ∷ []) (suc p))

-- one item is held
pub one_held : (t : QueueType) (i : item.Item) → IsHeld t i → All (IsHeld t) (i ∷ [])
one_held t i h = All-cons (IsHeld t) i [] h (All-nil (IsHeld t))

-- equal types
pub does_at : (k : Kern) (port : ℕ) (i : item.Item) (out out' : Emit) (st st' : List State) (r r' w w' : List QueueType) (v v' : List VarKind) → r ≡ r' → w ≡ w'
    → v ≡ v' → Does k r' w' v' port i out out' st st' → Does k r w v port i out out' st st'
does_at k port i out out' st st' r r' w w' v v' er ew ev d =
    subst (λ l. Does k l w v port i out out' st st') (sym er)
    (subst (λ l. Does k r' l v port i out out' st st') (sym ew) (subst (λ l. Does k r' w' l port i out out' st st') (sym ev) d))
