use Rattle.std.proofs.Common.{[], sym, ◌∙◌}
use Rattle.std.proofs.lemmas.List.{nil_from_length}
use Rattle.fire_tasks.proofs.PassLemmas.{flushed_at}
use Rattle.fire_tasks.proofs.ports.flush_port.Goals as goal

pub returns-then-is_empty : goal.returns-then-is_empty
returns-then-is_empty c =
    flushed_at c.args.port c.args.outs.now c.args.pending.now c.flush_at.new.outs
    (sym (c.at.ensures []) ∙ nil_from_length c.at.result.now (c.is_empty.ensures.0 c.if-is_empty.true))
    c.flush_at.ensures.same c.flush_at.ensures.sent c.flush_at.ensures.others
