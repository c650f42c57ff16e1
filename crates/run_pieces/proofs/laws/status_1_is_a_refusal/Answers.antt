use Rattle.std.proofs.Common.{refl}
use Rattle.run_pieces.proofs.Refused.{gives_refusal}
use Rattle.run_pieces.proofs.laws.status_1_is_a_refusal.Goals as goal

pub returns : goal.returns
returns g c = λ words shelf shelf' out out' err err' does.
    gives_refusal words (g.S.Shelf.held shelf) (g.E.Sink.taken err) (g.E.Sink.taken err') (does.refused refl).0
