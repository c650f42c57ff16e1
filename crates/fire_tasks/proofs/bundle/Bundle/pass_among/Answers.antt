use Rattle.std.proofs.Common.{false}
use Rattle.fire_tasks.proofs.Fronts.{has_gone}
use Rattle.fire_tasks.proofs.bundle.Bundle.pass_among.Goals as goal

pub returns-clause-gone : goal.returns-clause-gone
returns-clause-gone g c =
    let s = c.in_ok-moved.ensures.swept in
    let b = c.args.self.now in
    has_gone b (record b { tasks = c.pass_all.new.tasks; seat = c.pass_all.new.seat; room = c.pass_all.new.room; refused = false }) c.in_ok-moved.moved
    s.ends s.goes_on s.number
