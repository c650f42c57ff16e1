use Rattle.std.proofs.Common.{◌≡◌, [], ◌∷◌}
use Rattle.river_base.specs.Places.{each_grew, upto}
use Rattle.brooklet_step.proofs.emit.copy_below.Given as goal

abbrev pub invariant-loop-port : goal.invariant-loop-port
invariant-loop-port l = l.outs ≡ each_grew l.initial.outs (upto l.port (λ q. l.item ∷ []))
