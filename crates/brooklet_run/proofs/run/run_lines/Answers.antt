use Rattle.std.proofs.lemmas.Result.{IfOk-weaker}
use Rattle.brooklet_step.proofs.RunLemmas.{run_outs, run_tables, run_rows, run_counts}
use Rattle.brooklet_run.proofs.run.run_lines.Goals as goal

pub returns-clause-outs : goal.returns-clause-outs
returns-clause-outs c =
    IfOk-weaker c.into_outcome.result _ _
    (λ o h. run_outs c.args.plan.now c.args.inputs c.in_ok-machine.machine c.run_all.new.machine c.run_all.ensures.valid c.in_ok-machine.ensures
    c.in_ok-run_all.ensures.drained o.outs h)
    c.into_outcome.ensures.outs

pub returns-clause-counts : goal.returns-clause-counts
returns-clause-counts c =
    IfOk-weaker c.into_outcome.result _ _
    (λ o h. run_counts c.args.plan.now c.args.inputs c.in_ok-machine.machine c.run_all.new.machine c.run_all.ensures.valid c.in_ok-machine.ensures
    c.in_ok-run_all.ensures.drained o.counts h)
    c.into_outcome.ensures.counts

pub returns-clause-tables : goal.returns-clause-tables
returns-clause-tables c =
    IfOk-weaker c.into_outcome.result _ _
    (λ o h. run_tables c.args.plan.now c.args.inputs c.in_ok-machine.machine c.run_all.new.machine c.run_all.ensures.valid c.in_ok-machine.ensures
    c.in_ok-run_all.ensures.drained o.tables h)
    c.into_outcome.ensures.tables

pub returns-clause-rows : goal.returns-clause-rows
returns-clause-rows c =
    IfOk-weaker c.into_outcome.result _ _
    (λ o h. run_rows c.args.plan.now c.args.inputs c.in_ok-machine.machine c.run_all.new.machine c.run_all.ensures.valid c.in_ok-machine.ensures
    c.in_ok-run_all.ensures.drained o.tables h)
    c.into_outcome.ensures.tables
