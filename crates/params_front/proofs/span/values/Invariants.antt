use Rattle.std.proofs.Common.{◌≡◌, drop, take, map}
use Rattle.streamit_text.specs.Tree.{expression}
use Rattle.params_model.specs.Environment.{value}
use Rattle.params_model.specs.Laws.{AreFit}
use Rattle.params_front.proofs.span.values.Given as goal

abbrev pub invariant-items : goal.invariant-items
invariant-items l = record {
  same : l.all ≡ map (value l.known) (map expression (take l.each-index l.each-items));
  fit : AreFit (map expression (drop l.each-index l.each-items));
}
