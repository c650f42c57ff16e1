use Rattle.std.proofs.Common.{◌-◌, [], length, ap, ◌∙◌, arith}
use Rattle.std.proofs.lemmas.List.{length-replicate, length-take}
use Rattle.brooklet_step.proofs.Moving.{refilled}
use Rattle.brooklet_step.proofs.emit.renewed.Goals as goal

pub returns : goal.returns
returns c =
    let few = ap length c.truncate.ensures ∙ length-take c.args.count c.args.lines in
    let many = c.len.ensures ∙ ap length c.clear_lines.ensures ∙ length-replicate (length c.truncate.new.self) [] in
    refilled c.args.count (length c.truncate.new.self) (c.args.count - c.len.result) c.clear_lines.new.lines c.add_empty.new.queues c.clear_lines.ensures
    c.in_ok-add_empty.ensures (omega (arith, few, many))
