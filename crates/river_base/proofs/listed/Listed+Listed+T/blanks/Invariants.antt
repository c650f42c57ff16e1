use Rattle.std.proofs.Common.{◌≡◌, replicate, []}
use Rattle.river_base.proofs.listed.Listed+Listed+T.blanks.Given as goal

abbrev pub invariant-loop-i : goal.invariant-loop-i
invariant-loop-i g l = l.all ≡ replicate l._i []
