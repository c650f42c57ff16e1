use Rattle.std.proofs.Common.{sym, subst}
use Rattle.kern_bags.specs.Following.{CrossKept}
use Rattle.kern_bags.specs.Takes.{CanMeet}
use Rattle.kern_bags.proofs.cross.CrossState.join.Goals as goal

pub make_and_meet-requires : goal.make_and_meet-requires
make_and_meet-requires c =
    let can = c.requires in
    subst (λ (s : CrossKept). CanMeet c.args.left.now c.args.right.now s.lefts) (sym c.self.view_is)
    (record { left = can.left; right = can.right; few = can.few; lefts = can.lefts; first = can.first; second = can.second })
