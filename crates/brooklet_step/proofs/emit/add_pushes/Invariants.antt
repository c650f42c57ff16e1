use Rattle.std.proofs.Common.{◌≡◌, take}
use Rattle.river_base.specs.Places.{each_grew}
use Rattle.kern_rows.specs.Runs.{pushed_to}
use Rattle.brooklet_step.proofs.emit.add_pushes.Given as goal

abbrev pub invariant-loop-i : goal.invariant-loop-i
invariant-loop-i l = l.outs ≡ each_grew l.initial.outs (λ p. pushed_to p (take l.i l.pushes))
