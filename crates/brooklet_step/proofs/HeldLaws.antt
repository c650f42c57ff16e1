-- What a queue may hold: what has its type, or changes.
use Rattle.std.proofs.Common.{◌≡◌, ℕ, List, get_or, refl, sym, subst}
use Rattle.std.specs.Prelude.{All}
use Rattle.river_base.specs.declared.item.Flat as flat
use Rattle.river_base.specs.declared.item.Item as item
use Rattle.river_base.specs.declared.item.Flat.TheVariants.{One, Batch as Batched, Change as Changed}
use Rattle.river_base.specs.declared.item.Item.TheVariants.{Flat, Pack}
use Rattle.river_base.specs.declared.kind.FlatType.TheVariants.{Rows, Stream, Relation}
use Rattle.river_base.specs.declared.kind.QueueType.TheVariants.{Flat as FlatOf, Pack as PackOf}
use Rattle.river_base.specs.Held.{IsHeld, MayHold}
use Rattle.brooklet_step.specs.Laws.{IsChangeItem, PlainQueuesHoldTyped, RelationsHoldChanges}
use Rattle.brooklet_step.proofs.OnePort.{relation_holds, change_held}

-- what a queue of no relation may hold is what has its type
pub plain_law : PlainQueuesHoldTyped
unfolding IsHeld
plain_law (FlatOf (Rows w)) (Flat f) p = ((λ h. h), (λ h. h))
plain_law (FlatOf (Rows w)) (Pack fs) p = ((λ h. h), (λ h. h))
plain_law (FlatOf (Stream w)) (Flat f) p = ((λ h. h), (λ h. h))
plain_law (FlatOf (Stream w)) (Pack fs) p = ((λ h. h), (λ h. h))
plain_law (FlatOf (Relation w)) x p = absurd p
plain_law (PackOf (Rows w)) (Flat f) p = ((λ h. h), (λ h. h))
plain_law (PackOf (Rows w)) (Pack fs) p = ((λ h. h), (λ h. h))
plain_law (PackOf (Stream w)) (Flat f) p = ((λ h. h), (λ h. h))
plain_law (PackOf (Stream w)) (Pack fs) p = ((λ h. h), (λ h. h))
plain_law (PackOf (Relation w)) x p = absurd p

may_change : (n : ℕ) (f : flat.Flat) → MayHold (Relation n) f → IsChangeItem n f
may_change n (One row) h = absurd h
may_change n (Batched b) h = absurd h
may_change n (Changed c) h = (c, refl, h)

change_may : (n : ℕ) (f : flat.Flat) → IsChangeItem n f → MayHold (Relation n) f
change_may n f h = subst (MayHold (Relation n)) (sym h.1) h.2

may_changes : (n : ℕ) (fs : List flat.Flat) → All (MayHold (Relation n)) fs → All (IsChangeItem n) fs
may_changes n fs h k d lt = may_change n (get_or fs k d) (h k d lt)

changes_may : (n : ℕ) (fs : List flat.Flat) → All (IsChangeItem n) fs → All (MayHold (Relation n)) fs
changes_may n fs h k d lt = change_may n (get_or fs k d) (h k d lt)

packs_hold : (n : ℕ) (x : item.Item) → IsHeld (PackOf (Relation n)) x → (fs : List flat.Flat) × (x ≡ Pack fs) × All (IsChangeItem n) fs
unfolding IsHeld
packs_hold n (Flat f) h = absurd h
packs_hold n (Pack fs) h = (fs, refl, may_changes n fs h)

holds_pack : (n : ℕ) (fs : List flat.Flat) → All (IsChangeItem n) fs → IsHeld (PackOf (Relation n)) (Pack fs)
unfolding IsHeld
holds_pack n fs h = changes_may n fs h

-- a queue of a relation may hold normalised changes alone
pub relation_law : RelationsHoldChanges
relation_law n x = (
  (
    (λ h. let c = relation_holds n x h in (c.change, c.is, c.of)),
    (λ h. subst (IsHeld (FlatOf (Relation n))) (sym h.1) (change_held n h.0 h.2)),
  ),
  ((λ h. packs_hold n x h), (λ h. subst (IsHeld (PackOf (Relation n))) (sym h.1) (holds_pack n h.0 h.2))),
)
