use Rattle.std.proofs.Common.{◌≡◌, drop, map}
use Rattle.streamit_text.specs.Tree.{expression}
use Rattle.params_model.specs.Laws.{AreFit}
use Rattle.params_model.specs.Making.{are_ranged}
use Rattle.params_front.proofs.ranges.are_ranged.Given as goal

abbrev pub invariant-items : goal.invariant-items
invariant-items l = record {
  same : are_ranged l.known (map expression (drop l.each-index l.each-items)) ≡ are_ranged l.known (map expression l.each-items);
  fit : AreFit (map expression (drop l.each-index l.each-items));
}
