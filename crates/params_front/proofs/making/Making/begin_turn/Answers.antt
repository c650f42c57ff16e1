use Rattle.std.proofs.Common.{suc, length}
use Rattle.params_front.proofs.Parts.{turn-stands}
use Rattle.params_front.proofs.making.Making.begin_turn.Goals as goal

pub returns : goal.returns
returns c = λ m h. turn-stands c.args.self.now m (suc (length c.args.above.now)) h c.in_ok-demand.ensures
