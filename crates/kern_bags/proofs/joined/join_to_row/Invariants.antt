use Rattle.std.proofs.Common.{◌≡◌, ◌++◌, map, take}
use Rattle.work_code.specs.Term.{term}
use Rattle.kern_bags.specs.Contents.{selected}
use Rattle.kern_bags.proofs.joined.join_to_row.Given as goal

abbrev pub invariant-loop-left : goal.invariant-loop-left
invariant-loop-left l = l.all ≡ l.initial.all ++ selected (term l.cond) (map (λ x. x ++ l.right) (take l.left-index l.lefts))
