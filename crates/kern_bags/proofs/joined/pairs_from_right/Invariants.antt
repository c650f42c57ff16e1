use Rattle.std.proofs.Common.{◌++◌, take}
use Rattle.river_base.specs.Changes.{all_pairs}
use Rattle.work_code.specs.Term.{term}
use Rattle.kern_changes.specs.Counted.{AreSame}
use Rattle.kern_bags.specs.Contents.{selected}
use Rattle.kern_bags.proofs.joined.pairs_from_right.Given as goal

abbrev pub invariant-loop-right : goal.invariant-loop-right
invariant-loop-right l = record {
  same : AreSame l.initial.lefts l.lefts;
  pairs : AreSame l.all (l.initial.all ++ selected (term l.cond) (all_pairs l.initial.lefts (take l.right-index l.rights)));
}
