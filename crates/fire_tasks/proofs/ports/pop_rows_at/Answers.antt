use Rattle.std.proofs.Common.{length, ◌<◌, ◌++◌, take, ap, sym, ◌∙◌, subst}
use Rattle.river_rings.specs.Rows.{rows_in}
use Rattle.fire_tasks.specs.Ports.{known_of, received_of}
use Rattle.fire_tasks.proofs.PortLemmas.{put_back, received_more}
use Rattle.fire_tasks.proofs.ports.pop_rows_at.Goals as goal

pub pop_rows-requires-clause-known : goal.pop_rows-requires-clause-known
pop_rows-requires-clause-known c =
    subst (λ i. 0 < length (known_of i)) (sym (c.at_mut.ensures.value c.at_mut.result.now)) (c.requires.known c.at_mut.result.now)

pub returns-clause-received : goal.returns-clause-received
returns-clause-received c =
    let xs = rows_in c.args.width (take c.pop_rows.result c.pop_rows.new.rows) in
    received_more c.args.ins.now c.args.port c.pop_rows.new.self xs c.requires.there
    (c.pop_rows.ensures.received ∙ ap (λ i. received_of i ++ xs) (c.at_mut.ensures.value c.pop_rows.new.self))

pub returns-clause-none : goal.returns-clause-none
returns-clause-none c = λ z.
    put_back c.args.ins.now c.args.port c.at_mut.result.now c.pop_rows.new.self (c.at_mut.ensures.value c.at_mut.result.now) (c.pop_rows.ensures.none z)
