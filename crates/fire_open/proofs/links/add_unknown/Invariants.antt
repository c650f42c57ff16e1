use Rattle.std.proofs.Common.{◌≡◌, ◌++◌, None, replicate}
use Rattle.fire_open.proofs.links.add_unknown.Given as goal

abbrev pub invariant-loop-i : goal.invariant-loop-i
invariant-loop-i l = l.sources ≡ l.initial.sources ++ replicate l._i None
