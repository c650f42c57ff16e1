use Rattle.std.proofs.Common.{◌≡◌}
use Rattle.river_outside.specs.Causes.{Rose}
use Rattle.river_cli.specs.Points.{points_of}
use Rattle.river_cli.proofs.Does.{tells-does}
use Rattle.river_cli.proofs.Free.{free-does}
use Rattle.river_cli.proofs.top.river_now.Goals as goal

pub returns-clause-does : goal.returns-clause-does
returns-clause-does g c =
    tells-does (points_of c.args.words.now) (g.S.Shelf.held c.args.shelf.now) (c.decide-decided.new.shelf ≡ c.args.shelf.now)
    (Rose g.S.Shelf.stays_at_last (g.S.Shelf.faults c.args.shelf.now) (g.S.Shelf.faults c.decide-decided.new.shelf))
    (g.O.Sink.taken c.args.out.now) (g.O.Sink.taken c.tell.new.out) (Rose g.O.Sink.stays_at_last (g.O.Sink.faults c.args.out.now) (g.O.Sink.faults c.tell.new.out))
    (g.E.Sink.taken c.args.err.now) (g.E.Sink.taken c.tell.new.err) (Rose g.E.Sink.stays_at_last (g.E.Sink.faults c.args.err.now) (g.E.Sink.faults c.tell.new.err))
    c.tell.result c.decide-decided.result c.decide-decided.ensures.decided c.decide-decided.ensures.unread c.tell.ensures

pub returns-clause-free : goal.returns-clause-free
returns-clause-free g c =
    free-does c.args.words.now _ _ _ _ _ _ _ _ _ _
    (tells-does (points_of c.args.words.now) (g.S.Shelf.held c.args.shelf.now) (c.decide-decided.new.shelf ≡ c.args.shelf.now)
    (Rose g.S.Shelf.stays_at_last (g.S.Shelf.faults c.args.shelf.now) (g.S.Shelf.faults c.decide-decided.new.shelf))
    (g.O.Sink.taken c.args.out.now) (g.O.Sink.taken c.tell.new.out) (Rose g.O.Sink.stays_at_last (g.O.Sink.faults c.args.out.now) (g.O.Sink.faults c.tell.new.out))
    (g.E.Sink.taken c.args.err.now) (g.E.Sink.taken c.tell.new.err) (Rose g.E.Sink.stays_at_last (g.E.Sink.faults c.args.err.now) (g.E.Sink.faults c.tell.new.err))
    c.tell.result c.decide-decided.result c.decide-decided.ensures.decided c.decide-decided.ensures.unread c.tell.ensures)
