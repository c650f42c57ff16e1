use Rattle.std.proofs.Common.{length, ◌<◌, ◌++◌, [], ◌∷◌, ap, sym, ◌∙◌, subst}
use Rattle.river_rings.specs.Rows.{row_item}
use Rattle.fire_tasks.specs.Ports.{known_of, received_of}
use Rattle.fire_tasks.proofs.PortLemmas.{put_back, received_more}
use Rattle.fire_tasks.proofs.ports.pop_row_at.Goals as goal

pub pop_row-requires : goal.pop_row-requires
pop_row-requires c = subst (λ i. 0 < length (known_of i)) (sym (c.at_mut.ensures.value c.at_mut.result.now)) (c.requires.known c.at_mut.result.now)

pub returns-clause-received : goal.returns-clause-received
returns-clause-received c = λ t.
    let x = row_item c.pop_row.new.row in
    received_more c.args.ins.now c.args.port c.pop_row.new.self (x ∷ []) c.requires.there
    (c.pop_row.ensures.received t ∙ ap (λ i. received_of i ++ x ∷ []) (c.at_mut.ensures.value c.pop_row.new.self))

pub returns-clause-none : goal.returns-clause-none
returns-clause-none c = λ f.
    put_back c.args.ins.now c.args.port c.at_mut.result.now c.pop_row.new.self (c.at_mut.ensures.value c.at_mut.result.now) (c.pop_row.ensures.none f)
