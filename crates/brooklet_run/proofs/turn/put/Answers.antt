use Rattle.std.proofs.Common.{refl}
use Rattle.std.proofs.lemmas.Result.{on_ok_weaker}
use Rattle.river_base.proofs.PlaceLemmas.{append_at_by}
use Rattle.brooklet_run.proofs.turn.put.Goals as goal

pub returns-clause-queues : goal.returns-clause-queues
returns-clause-queues c =
    on_ok_weaker c.take_from.result
    (λ e. append_at_by c.args.queues.now c.args.queues.now c.args.queue c.at_mut.result.now c.args.items.now c.take_from.new.self refl c.requires
    (c.at_mut.ensures.value c.at_mut.result.now) e)
    c.take_from.ensures.ok
