use Rattle.std.proofs.Common.{map, ap, ◌∙◌}
use Rattle.kern_changes.specs.Keyed.{turned}
use Rattle.kern_changes.proofs.Turning.{turned_anew}
use Rattle.kern_changes.proofs.keyed.turn_to.Goals as goal

pub returns : goal.returns
returns c =
    turned_anew c.args.from c.args.to c.args.content.now c.turn_all.new.rows c.turn_all-2.new.rows c.as_slice.result.now c.new-by_column.result
    c.put_all.new.self (c.turn_all.ensures ∙ ap (map (turned c.args.from)) c.in_ok-rows.ensures) c.turn_all-2.ensures c.as_slice.ensures
    c.new-by_column.ensures c.in_ok-put_all.ensures
