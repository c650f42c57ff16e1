use Rattle.brooklet_step.specs.Drained.{RunsOn}
use Rattle.brooklet_step.specs.Reading.{IsBlankOf}
use Rattle.brooklet_step.specs.Works.{IsRunning}
use Rattle.brooklet_run.proofs.turn.fire_all.Given as goal

abbrev pub invariant-loop-firing : goal.invariant-loop-firing
invariant-loop-firing l = record {
  ran : RunsOn l.initial.parts l.parts;
  goes_on : IsRunning l.parts;
  blank : IsBlankOf l.parts.plan l.op l.out;
}
