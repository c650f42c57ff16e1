use Rattle.std.proofs.Common.{[], drop, map}
use Rattle.cql_model.specs.Meaning.{answers}
use Rattle.cql_model.specs.Streams.{spread}
use Rattle.cql_text.specs.Tree.{unit_forms}
use Rattle.slow_cql.proofs.Run.{Rest}
use Rattle.slow_cql.proofs.program.answered.Given as goal

abbrev pub invariant-loop-part : goal.invariant-loop-part
invariant-loop-part l =
    Rest l.instants (drop l.part-index (unit_forms l.units)) l.rest l.known l.outs
    (map (spread l.instants) (answers l.instants [] (unit_forms l.units) l.files))
