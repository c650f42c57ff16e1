use Rattle.std.proofs.Common.{◌≡◌, ◌++◌, map, take}
use Rattle.kern_bags.proofs.product.join_each.Given as goal

abbrev pub invariant-loop-right : goal.invariant-loop-right
invariant-loop-right l = l.all ≡ l.initial.all ++ map (λ y. l.left ++ y) (take l.right-index l.rights)
