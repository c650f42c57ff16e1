use Rattle.fire_run.proofs.RoundLemmas.{round_seated}
use Rattle.fire_run.proofs.RunLemmas.{joined, ready_by, worked}
use Rattle.fire_run.proofs.running.work_all.Goals as goal

pub work_each-requires-clause-ready : goal.work_each-requires-clause-ready
work_each-requires-clause-ready g c κs within = ready_by c.raw.result.now c.args.plan.now c.args.frame c.args.bundles.items c.raw.ensures.raw c.requires.bundles

pub scrap-requires : goal.scrap-requires
scrap-requires g c = round_seated c.raw.result.now c.args.frame c.args.bundles.items c.work_each.new.bundles.items c.requires.bundles.seated c.work_each.ensures

pub join-requires : goal.join-requires
join-requires g c = (
  c.args.plan.now,
  worked c.raw.result.now c.args.plan.now c.args.frame c.args.bundles.items c.work_each.new.bundles.items c.raw.ensures.raw c.requires.bundles
      c.work_each.ensures (c.is_refused.ensures.0 c.if-is_refused.false),
)

pub returns : goal.returns
returns g c =
    joined c.raw.result.now c.args.plan.now c.args.frame c.args.bundles.items c.work_each.new.bundles.items c.join.result c.has_moved-moved.result
    c.raw.ensures.raw c.requires.bundles c.requires.dealt c.work_each.ensures (c.is_refused.ensures.0 c.if-is_refused.false) c.join.ensures.stays
    c.join.ensures.ends c.join.ensures.tasks c.join.ensures.moves
    c.has_moved-moved.ensures.some c.has_moved-moved.ensures.none
