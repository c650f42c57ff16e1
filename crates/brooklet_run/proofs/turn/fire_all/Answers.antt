use Rattle.brooklet_step.proofs.RunLemmas.{runs_none, runs_step}
use Rattle.brooklet_run.proofs.turn.fire_all.Goals as goal

pub loop-firing-init : goal.loop-firing-init
loop-firing-init c = record { ran = runs_none c.args.parts.now c.requires.running; goes_on = c.requires.goes_on; blank = c.requires.blank }

pub loop-firing-preserved : goal.loop-firing-preserved
loop-firing-preserved c = record {
  ran =
      runs_step c.args.parts.now c.loop-firing.parts c.fire_with.new.parts c.args.op c.args.port c.requires.goes_on.valid c.loop-firing.invariant.ran
      c.in_ok-fire_with.ensures.fired;
  goes_on = c.in_ok-fire_with.ensures.goes_on;
  blank = c.in_ok-fire_with.ensures.blank;
}
