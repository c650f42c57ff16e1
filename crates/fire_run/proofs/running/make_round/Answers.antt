use Rattle.std.proofs.Common.{inl, inr, refl}
use Rattle.std.proofs.lemmas.Result.{IfOk-weaker}
use Rattle.fire_run.proofs.RunLemmas.{dealt_in, goes_moved, goes_still, goes_then, rounded, stays_has}
use Rattle.fire_run.proofs.running.make_round.Goals as goal

pub work_all-requires-clause-dealt : goal.work_all-requires-clause-dealt
work_all-requires-clause-dealt g c κs within =
    dealt_in c.args.net c.in-Ok.frame c.in-Ok.bundles.items c.args.workers c.in-Ok.ensures.frame c.in-Ok.ensures.dealt

pub move_once-requires : goal.move_once-requires
move_once-requires g c =
    let h = goes_still c.args.plan.now c.args.net c.in_ok-net-in-Ok.net c.in-Ok.frame c.in-Ok.bundles.items c.in_ok-net-in-Ok.moved c.args.workers
    c.in-Ok.ensures.frame c.in-Ok.ensures.moves c.in_ok-net-in-Ok.ensures c.if-moved.false in
    stays_has c.args.plan.now c.args.net c.in_ok-net-in-Ok.net c.requires.net h.stays

pub returns-then-moved-clause-goes : goal.returns-then-moved-clause-goes
returns-then-moved-clause-goes g c =
    goes_moved c.args.plan.now c.args.net c.in_ok-net-in-Ok.net c.in-Ok.frame c.in-Ok.bundles.items c.in_ok-net-in-Ok.moved c.args.workers
    c.in-Ok.ensures.frame c.in-Ok.ensures.moves c.in_ok-net-in-Ok.ensures c.if-moved.true

pub returns-then-moved-clause-round : goal.returns-then-moved-clause-round
returns-then-moved-clause-round g c = λ late.
    rounded c.args.plan.now c.args.net c.in_ok-net-in-Ok.net c.in_ok-net-in-Ok.net c.in-Ok.frame c.in-Ok.bundles.items c.in_ok-net-in-Ok.moved c.args.workers
    c.in-Ok.ensures.dealt c.in_ok-net-in-Ok.ensures (inl refl)

pub returns-in-Ok-clause-goes : goal.returns-in-Ok-clause-goes
returns-in-Ok-clause-goes g c =
    let h = goes_still c.args.plan.now c.args.net c.in_ok-net-in-Ok.net c.in-Ok.frame c.in-Ok.bundles.items c.in_ok-net-in-Ok.moved c.args.workers
    c.in-Ok.ensures.frame c.in-Ok.ensures.moves c.in_ok-net-in-Ok.ensures c.if-moved.false in
    IfOk-weaker c.move_once.result _ _ (λ both k. goes_then c.args.plan.now c.args.net c.in_ok-net-in-Ok.net both.0 both.1 h k) c.move_once.ensures.goes

pub returns-in-Ok-clause-round : goal.returns-in-Ok-clause-round
returns-in-Ok-clause-round g c =
    IfOk-weaker c.move_once.result _ _
    (λ both k late. rounded c.args.plan.now c.args.net c.in_ok-net-in-Ok.net both.0 c.in-Ok.frame c.in-Ok.bundles.items c.in_ok-net-in-Ok.moved c.args.workers
    c.in-Ok.ensures.dealt c.in_ok-net-in-Ok.ensures (inr k))
    c.move_once.ensures.once
