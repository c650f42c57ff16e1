use Rattle.std.proofs.Common.{◌++◌, take}
use Rattle.river_base.specs.Changes.{all_pairs}
use Rattle.work_code.specs.Term.{term}
use Rattle.kern_changes.specs.Counted.{AreSame}
use Rattle.kern_bags.specs.Contents.{selected}
use Rattle.kern_bags.proofs.joined.pairs_from_left.Given as goal

abbrev pub invariant-loop-left : goal.invariant-loop-left
invariant-loop-left l = record {
  same : AreSame l.initial.rights l.rights;
  pairs : AreSame l.all (l.initial.all ++ selected (term l.cond) (all_pairs (take l.left-index l.lefts) l.initial.rights));
}
