use Rattle.std.proofs.Common.{subst, get_or}
use Rattle.fire_tasks.proofs.rounds.round.Goals as goal

pub returns-clause-each : goal.returns-clause-each
returns-clause-each g c = λ i d lt. let e = (c.for_each_mut.ensures i d lt).1 in
    subst (λ y. g.C.Works.worked c.args.plan.now (get_or c.args.bundles.now i d) y) e.left
    (subst (λ x. g.C.Works.worked c.args.plan.now x e.after_call.now) e.argument_is e.call)
