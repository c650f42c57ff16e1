use Rattle.std.proofs.Common.{refl}
use Rattle.river_outside.specs.Causes.{Rose}
use Rattle.river_cli.specs.Points.{points_of, of_command}
use Rattle.river_cli.proofs.Points.{command-decides, never-usage}
use Rattle.river_cli.proofs.road.decide.Goals as goal

pub answered-requires-clause-now : goal.answered-requires-clause-now
answered-requires-clause-now g c = λ _ _. c.requires.now c.in-Ok.command c.in-Ok.ensures.ok

pub returns-in-Ok-clause-decided : goal.returns-in-Ok-clause-decided
unfolding points_of
returns-in-Ok-clause-decided g c =
    let rose = Rose g.S.Shelf.stays_at_last (g.S.Shelf.faults c.args.shelf.now) (g.S.Shelf.faults c.answered.new.shelf) in
    rw c.in-Ok.ensures.ok (command-decides c.in-Ok.command (g.S.Shelf.held c.args.shelf.now) rose c.answered.result c.answered.ensures.passes)

pub returns-in-Err-Usage-clause-decided : goal.returns-in-Err-Usage-clause-decided
unfolding points_of
returns-in-Err-Usage-clause-decided g c = rw ((rw c.in-Err-Usage.field-0-is at c.in-Err-Usage.ensures.usage) refl) refl

pub returns-in-Ok-clause-unread : goal.returns-in-Ok-clause-unread
returns-in-Ok-clause-unread g c is =
    let rose = Rose g.S.Shelf.stays_at_last (g.S.Shelf.faults c.args.shelf.now) (g.S.Shelf.faults c.answered.new.shelf) in
    absurd (never-usage (of_command c.in-Ok.command) (g.S.Shelf.held c.args.shelf.now) rose c.answered.result c.answered.ensures.passes is)
