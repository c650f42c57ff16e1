use Rattle.std.proofs.Common.{subst}
use Rattle.class_locks.specs.declared.view.View.{View}
use Rattle.class_locks.specs.Seats.{LogsHaveGrown}
use Rattle.lock_uses.proofs.Totals.{total}
use Rattle.lock_uses.proofs.round.end.Goals as goal

pub returns : goal.returns
returns c a b one two =
    total a b c.args.first.view c.args.second.view one two c.close.new.cells
    (subst (λ (v : View). LogsHaveGrown v c.close.new.cells) c.join.ensures.both c.close.ensures)
