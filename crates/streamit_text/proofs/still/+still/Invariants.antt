use Rattle.std.proofs.Common.{◌≡◌, drop, map}
use Rattle.streamit_text.specs.Tree.{statement, in_turn}
use Rattle.streamit_text.specs.Grammar.{stay}
use Rattle.streamit_text.proofs.still.+still.Given as goal

abbrev pub invariant-stay-items : goal.invariant-stay-items
invariant-stay-items l = stay (in_turn (map statement (drop l.each-index l.each-items))) ≡ stay (in_turn (map statement l.each-items))
