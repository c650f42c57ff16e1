use Rattle.std.proofs.Common.{◌≡◌, All, pos, ◌-◌, ◌++◌, take}
use Rattle.std.proofs.Math.ListN.{replicate}
use Rattle.river_base.specs.Number.{IsValue}
use Rattle.river_base.proofs.values.Values.from_slice.Given as goal

abbrev pub invariant-loop-i : goal.invariant-loop-i
invariant-loop-i l = All IsValue l.all × (l.all ≡ take l.i l.values ++ replicate (16 - l.i) (pos 0))
