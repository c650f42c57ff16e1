use Rattle.brooklet_model.specs.Histories.{History}
use Rattle.fire_run.specs.Closed.{AreOuts, HaveOuts}
use Rattle.fire_run.proofs.closing.all_outs.Given as goal

abbrev pub invariant-loop-op : goal.invariant-loop-op
invariant-loop-op l = record {
  lines : (h : History) → HaveOuts l.plan h 0 l.initial.tasks → AreOuts l.plan h l.op 0 l.lines;
  tasks : (h : History) → HaveOuts l.plan h 0 l.initial.tasks → HaveOuts l.plan h l.op l.tasks;
}
