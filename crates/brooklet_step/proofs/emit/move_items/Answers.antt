use Rattle.std.proofs.Common.{ap, ◌∙◌, ◌++◌, reverse}
use Rattle.std.proofs.lemmas.List.{reverse-reverse}
use Rattle.brooklet_step.proofs.Moving.{line_next, one_less}
use Rattle.brooklet_step.proofs.emit.move_items.Goals as goal

pub loop-item-init : goal.loop-item-init
loop-item-init c = ap (λ l. c.args.line.now ++ l) (ap reverse c.turn_round.ensures ∙ reverse-reverse c.args.items.now)

pub loop-item-smaller : goal.loop-item-smaller
loop-item-smaller c = one_less c.loop-item.items c.pop.new.self c.in-Some.item c.in-Some.ensures

pub loop-item-preserved : goal.loop-item-preserved
loop-item-preserved c =
    line_next c.loop-item.line c.push.new.self c.loop-item.items c.pop.new.self _ c.in-Some.item c.in-Some.ensures c.in_ok-push.ensures.ok c.loop-item.invariant
