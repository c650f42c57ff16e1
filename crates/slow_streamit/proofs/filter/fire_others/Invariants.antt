use Rattle.streamit_text.specs.Program.{filter_tree}
use Rattle.slow_streamit.proofs.Filters.{FiredSoFar}
use Rattle.slow_streamit.proofs.filter.fire_others.Given as goal

abbrev pub invariant-loop-j : goal.invariant-loop-j
invariant-loop-j l = FiredSoFar (filter_tree l.tree) l.items l.initial.out l.start l.j l.initial.kept l.kept l.out
