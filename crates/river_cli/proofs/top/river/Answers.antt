use Rattle.std.proofs.Common.{◌≡◌}
use Rattle.river_outside.specs.Causes.{Rose}
use Rattle.river_cli.specs.Points.{points_of}
use Rattle.river_cli.proofs.Does.{tells-does}
use Rattle.river_cli.proofs.Free.{free-does}
use Rattle.river_cli.proofs.Live.{none-now, live-decides}
use Rattle.river_cli.proofs.top.river.Goals as goal

pub river_now-requires-clause-now : goal.river_now-requires-clause-now
river_now-requires-clause-now g c = λ _ _. none-now c.args.words.now (rw c.in-Ok-None.field-0-is at c.in-Ok-None.ensures)

pub returns-in-Ok-Some-clause-does : goal.returns-in-Ok-Some-clause-does
returns-in-Ok-Some-clause-does g c =
    let rose = Rose g.S.Shelf.stays_at_last (g.S.Shelf.faults c.args.shelf.now) (g.S.Shelf.faults c.run_waiting-decided.new.shelf) in
    let both = live-decides c.args.words.now c.in-Ok-Some.run' (g.S.Shelf.held c.args.shelf.now) rose c.run_waiting-decided.result
    (rw c.in-Ok-Some.field-0-is at c.in-Ok-Some.ensures) c.run_waiting-decided.ensures.passes in
    tells-does (points_of c.args.words.now) (g.S.Shelf.held c.args.shelf.now) (c.run_waiting-decided.new.shelf ≡ c.args.shelf.now) rose
    (g.O.Sink.taken c.args.out.now) (g.O.Sink.taken c.tell.new.out) (Rose g.O.Sink.stays_at_last (g.O.Sink.faults c.args.out.now) (g.O.Sink.faults c.tell.new.out))
    (g.E.Sink.taken c.args.err.now) (g.E.Sink.taken c.tell.new.err) (Rose g.E.Sink.stays_at_last (g.E.Sink.faults c.args.err.now) (g.E.Sink.faults c.tell.new.err))
    c.tell.result c.run_waiting-decided.result both.0 (λ is. absurd (both.1 is)) c.tell.ensures

pub returns-in-Ok-Some-clause-free : goal.returns-in-Ok-Some-clause-free
returns-in-Ok-Some-clause-free g c =
    let rose = Rose g.S.Shelf.stays_at_last (g.S.Shelf.faults c.args.shelf.now) (g.S.Shelf.faults c.run_waiting-decided.new.shelf) in
    let both = live-decides c.args.words.now c.in-Ok-Some.run' (g.S.Shelf.held c.args.shelf.now) rose c.run_waiting-decided.result
    (rw c.in-Ok-Some.field-0-is at c.in-Ok-Some.ensures) c.run_waiting-decided.ensures.passes in
    free-does c.args.words.now _ _ _ _ _ _ _ _ _ _
    (tells-does (points_of c.args.words.now) (g.S.Shelf.held c.args.shelf.now) (c.run_waiting-decided.new.shelf ≡ c.args.shelf.now) rose
    (g.O.Sink.taken c.args.out.now) (g.O.Sink.taken c.tell.new.out) (Rose g.O.Sink.stays_at_last (g.O.Sink.faults c.args.out.now) (g.O.Sink.faults c.tell.new.out))
    (g.E.Sink.taken c.args.err.now) (g.E.Sink.taken c.tell.new.err) (Rose g.E.Sink.stays_at_last (g.E.Sink.faults c.args.err.now) (g.E.Sink.faults c.tell.new.err))
    c.tell.result c.run_waiting-decided.result both.0 (λ is. absurd (both.1 is)) c.tell.ensures)
