use Rattle.std.proofs.Common.{◌≡◌, length}
use Rattle.brooklet_model.specs.Histories.{History}
use Rattle.fire_run.specs.Closed.{AreOuts, HasOuts}
use Rattle.fire_run.proofs.closing.take_outs.Given as goal

abbrev pub invariant-loop-port : goal.invariant-loop-port
invariant-loop-port l = record {
  many : length l.outs ≡ length l.initial.outs;
  lines : (h : History) → AreOuts l.plan h l.op 0 l.initial.lines → HasOuts l.plan h l.op 0 l.initial.outs → AreOuts l.plan h l.op l.port l.lines;
  outs : (h : History) → HasOuts l.plan h l.op 0 l.initial.outs → HasOuts l.plan h l.op l.port l.outs;
}
