use Rattle.std.proofs.Common.{◌≡◌, true, take, drop, map}
use Rattle.river_base.specs.Number.{count_of}
use Rattle.river_kernels.specs.Fits.{rows, are_widths}
use Rattle.kern_check.proofs.ports.body_ports.Given as goal

abbrev pub invariant-loop-width : goal.invariant-loop-width
invariant-loop-width l = (l.kinds ≡ map (λ w. rows (count_of w)) (take l.width-index l.outs)) × (are_widths (drop l.width-index l.outs) ≡ true)
