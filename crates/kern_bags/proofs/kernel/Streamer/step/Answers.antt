use Rattle.std.proofs.lemmas.Result.{on_ok_weaker}
use Rattle.kern_bags.proofs.Flats.{streams_flat}
use Rattle.kern_bags.proofs.kernel.Streamer.step.Goals as goal

pub returns-clause-ok : goal.returns-clause-ok
returns-clause-ok c =
    on_ok_weaker c.give_batch.result
    (streams_flat c.args.self.now c.args.item c.change_of.result c.in_ok-batch.batch c.args.state.now c.take.new.self c.args.out.now
    c.give_batch.new.out c.change_of.ensures c.in_ok-batch.ensures) c.give_batch.ensures.ok
