use Rattle.fire_open.specs.Sources.{LinkReaders}
use Rattle.fire_open.proofs.links.add_links.Given as goal

abbrev pub invariant-loop-port : goal.invariant-loop-port
invariant-loop-port l = LinkReaders l.plan l.reader l.port l.links
