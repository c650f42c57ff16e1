use Rattle.fire_open.specs.Sources.{LinkReaders}
use Rattle.fire_open.proofs.links.links_of.Given as goal

abbrev pub invariant-loop-reader : goal.invariant-loop-reader
invariant-loop-reader l = LinkReaders l.plan l.reader 0 l.links
