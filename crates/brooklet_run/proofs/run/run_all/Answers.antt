use Rattle.std.proofs.Common.{length}
use Rattle.std.proofs.lemmas.Result.{on_ok_weaker}
use Rattle.brooklet_step.proofs.RunLemmas.{drained_after}
use Rattle.brooklet_run.proofs.run.run_all.Goals as goal

pub returns-clause-drained : goal.returns-clause-drained
returns-clause-drained c =
    on_ok_weaker c.drain_all.result
    (λ d. drained_after c.args.machine.now c.run_rounds.new.machine c.drain_all.new.machine (length c.args.plan.now.ops) c.in_ok-run_rounds.ensures d)
    c.drain_all.ensures
