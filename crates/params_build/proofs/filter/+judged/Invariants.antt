use Rattle.std.proofs.Common.{◌≡◌, ℕ, drop, map}
use Rattle.streamit_text.specs.Tree.{statement, in_turn}
use Rattle.params_model.specs.Judged.{block_judged}
use Rattle.params_build.proofs.filter.+judged.Given as goal

abbrev pub invariant-block-items : goal.invariant-block-items
invariant-block-items l = (k : ℕ)
    → block_judged k l.params (in_turn (map statement (drop l.each-index l.each-items))) ≡ block_judged k l.params (in_turn (map statement l.each-items))
