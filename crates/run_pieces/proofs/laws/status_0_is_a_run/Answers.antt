use Rattle.std.proofs.Common.{refl}
use Rattle.run_pieces.proofs.Ran.{gives_run}
use Rattle.run_pieces.proofs.laws.status_0_is_a_run.Goals as goal

pub returns : goal.returns
returns g c = λ words shelf shelf' out out' err err' does.
    gives_run words (g.S.Shelf.held shelf) (g.O.Sink.taken out) (g.O.Sink.taken out') (does.done refl).0
