use Rattle.fire_run.proofs.RunLemmas.{WentOn}
use Rattle.fire_run.proofs.running.make_rounds.Given as goal

abbrev pub invariant-loop-round : goal.invariant-loop-round
invariant-loop-round g l = WentOn l.plan l.fn.net l.round l.net
