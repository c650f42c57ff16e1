use Rattle.std.proofs.Common.{sym, [], ◌∷◌, arith}
use Rattle.brooklet_step.proofs.Fires.{append_past}
use Rattle.brooklet_step.proofs.emit.give_last.Goals as goal

pub returns-else-port-len : goal.returns-else-port-len
returns-else-port-len c = sym (append_past c.args.outs.now c.args.port (c.args.item ∷ []) (omega arith))
