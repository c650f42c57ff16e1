use Rattle.std.proofs.Common.{rules, get_or}
use Rattle.streamit_build.proofs.Numbered.{weights-more}
use Rattle.streamit_build.proofs.operators.weights.Goals as goal

pub loop-share-preserved : goal.loop-share-preserved
loop-share-preserved c =
    let shares = c.args.shares.now in
    let i = c.loop-share.share-index in
    rw (weights-more shares i (get_or shares i 0) (search rules) (search rules)) (search rules)
