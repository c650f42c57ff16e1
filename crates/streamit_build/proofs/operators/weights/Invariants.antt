use Rattle.std.proofs.Common.{◌≡◌, take}
use Rattle.streamit_model.specs.Plan.{weights}
use Rattle.streamit_build.proofs.operators.weights.Given as goal

abbrev pub invariant-loop-share : goal.invariant-loop-share
invariant-loop-share l = l.all ≡ weights (take l.share-index l.shares)
