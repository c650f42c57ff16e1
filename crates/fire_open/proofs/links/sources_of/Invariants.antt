use Rattle.fire_open.specs.Sources.{KnowWriters}
use Rattle.fire_open.proofs.links.sources_of.Given as goal

abbrev pub invariant-loop-writer : goal.invariant-loop-writer
invariant-loop-writer l = KnowWriters l.plan l.writer 0 l.sources
