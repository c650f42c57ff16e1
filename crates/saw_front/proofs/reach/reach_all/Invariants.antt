use Rattle.std.proofs.Common.{◌≡◌, drop}
use Rattle.std.specs.Prelude.{max}
use Rattle.saw_model.specs.Meaning.{reach_all}
use Rattle.saw_text.specs.View.{expressions}
use Rattle.saw_front.proofs.reach.reach_all.Given as goal

abbrev pub invariant-loop-e : goal.invariant-loop-e
invariant-loop-e l = max l.most (reach_all (expressions (drop l.e-index l.es))) ≡ reach_all (expressions l.es)
