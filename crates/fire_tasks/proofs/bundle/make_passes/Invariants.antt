use Rattle.std.specs.Prelude.{◌≡◌, false}
use Rattle.river_plan.specs.Forms.{plan_form}
use Rattle.fire_tasks.specs.Bundles.{IsBundle, ManyPasses, SameSeat, HasGone}
use Rattle.fire_tasks.proofs.bundle.make_passes.Given as goal

abbrev pub invariant-loop-pass : goal.invariant-loop-pass
invariant-loop-pass g l = record {
  calm : l.bundle.refused ≡ false;
  bundle : IsBundle (plan_form l.plan) l.bundle;
  seat : SameSeat l.initial.bundle l.bundle;
  many : ManyPasses l._pass l.initial.bundle l.bundle;
  gone : HasGone l.initial.bundle l.bundle l.bundle.moved;
}
