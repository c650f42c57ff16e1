-- A change of the right side meets the left side.
use Rattle.std.proofs.Common.{ℤ, List}
use Rattle.river_base.specs.declared.item.Change.{Change}
use Rattle.kern_changes.specs.Counted.{Changed}
use Rattle.kern_changes.proofs.Widths.{wide_changed}
use Rattle.kern_bags.specs.Takes.{CanJoinBoth, CanMeet}
use Rattle.kern_bags.proofs.Wide.{can_join}

-- its parts can be joined with the side
pub can_meet : (c d : Change) (lefts : List (List ℤ)) → CanMeet c d lefts → CanJoinBoth lefts d
can_meet c d lefts can = record {
  plus = can_join can.left can.right lefts d.plus can.few can.lefts can.second.plus;
  minus = can_join can.left can.right lefts d.minus can.few can.lefts can.second.minus;
}

-- so it is when the first change is made
pub still_meets : (c d : Change) (lefts lefts' : List (List ℤ)) → CanMeet c d lefts → Changed c lefts lefts' → CanMeet c d lefts'
still_meets c d lefts lefts' can made = record {
  left = can.left;
  right = can.right;
  few = can.few;
  lefts = wide_changed can.left c lefts lefts' can.lefts can.first.plus made;
  first = can.first;
  second = can.second;
}

-- so both parts can be joined then
pub can_meet_then : (c d : Change) (lefts lefts' : List (List ℤ)) → CanMeet c d lefts → Changed c lefts lefts' → CanJoinBoth lefts' d
can_meet_then c d lefts lefts' can made = can_meet c d lefts' (still_meets c d lefts lefts' can made)
