use Rattle.fire_open.specs.Sources.{KnowWriters}
use Rattle.fire_open.proofs.links.add_writes.Given as goal

abbrev pub invariant-loop-out : goal.invariant-loop-out
invariant-loop-out l = KnowWriters l.plan l.writer l.out l.sources
