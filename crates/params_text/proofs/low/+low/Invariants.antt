use Rattle.std.proofs.Common.{◌≡◌, drop, map}
use Rattle.streamit_text.specs.Tree.{statement, in_turn}
use Rattle.params_text.specs.Params.{low}
use Rattle.params_text.proofs.low.+low.Given as goal

abbrev pub invariant-low-items : goal.invariant-low-items
invariant-low-items l = low l.names (in_turn (map statement (drop l.each-index l.each-items))) ≡ low l.names (in_turn (map statement l.each-items))
