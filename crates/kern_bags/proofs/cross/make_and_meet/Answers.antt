use Rattle.std.proofs.Common.{ℤ, List, rules}
use Rattle.kern_changes.specs.Counted.{Changed}
use Rattle.kern_bags.specs.Takes.{CanJoinBoth}
use Rattle.kern_bags.proofs.Meeting.{can_meet, can_meet_then}
use Rattle.kern_bags.proofs.cross.make_and_meet.Goals as goal

pub meet_left-requires : goal.meet_left-requires
meet_left-requires c =
    let x = c.args.left.now in let y = c.args.right.now in let side = c.args.lefts.now in
    let before : CanJoinBoth side y = can_meet x y side c.requires in
    let made : (side' : List (List ℤ)) → Changed x side side' → CanJoinBoth side' y = λ side' m. can_meet_then x y side side' c.requires m in
    search (rules, before, made)
