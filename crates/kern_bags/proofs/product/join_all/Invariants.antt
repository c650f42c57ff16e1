use Rattle.std.proofs.Common.{◌≡◌, ◌++◌, take}
use Rattle.river_base.specs.Changes.{all_pairs}
use Rattle.kern_bags.proofs.product.join_all.Given as goal

abbrev pub invariant-loop-left : goal.invariant-loop-left
invariant-loop-left l = l.all ≡ l.initial.all ++ all_pairs (take l.left-index l.lefts) l.rights
