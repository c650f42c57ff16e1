use Rattle.std.proofs.Common.{◌≡◌, ◌++◌, map, take}
use Rattle.work_code.specs.Term.{term}
use Rattle.kern_bags.specs.Contents.{selected}
use Rattle.kern_bags.proofs.joined.join_row.Given as goal

abbrev pub invariant-loop-right : goal.invariant-loop-right
invariant-loop-right l = l.all ≡ l.initial.all ++ selected (term l.cond) (map (λ y. l.left ++ y) (take l.right-index l.rights))
