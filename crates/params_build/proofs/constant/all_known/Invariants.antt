use Rattle.std.proofs.Common.{◌≡◌, drop, map}
use Rattle.streamit_text.specs.Tree.{expression}
use Rattle.params_model.specs.Judged.{all_known}
use Rattle.params_build.proofs.constant.all_known.Given as goal

abbrev pub invariant-items : goal.invariant-items
invariant-items l = all_known l.names (map expression (drop l.each-index l.each-items)) ≡ all_known l.names (map expression l.each-items)
