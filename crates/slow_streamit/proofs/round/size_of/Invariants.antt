use Rattle.std.proofs.Common.{◌≡◌, ◌+◌, drop}
use Rattle.brooklet_model.specs.ByIndex.{size_of}
use Rattle.slow_streamit.proofs.round.size_of.Given as goal

abbrev pub invariant-loop-items : goal.invariant-loop-items
invariant-loop-items l = l.size + size_of (drop l.items-index l.branches) ≡ size_of l.branches
