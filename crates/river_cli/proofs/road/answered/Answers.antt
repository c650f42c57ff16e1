use Rattle.river_outside.specs.Causes.{Rose}
use Rattle.river_cli.proofs.Points.{run-answers, show-answers, mean-answers, upgrade-answers, load-answers, free-answers}
use Rattle.river_cli.proofs.road.answered.Goals as goal

pub returns-in-Run-clause-passes : goal.returns-in-Run-clause-passes
returns-in-Run-clause-passes g c =
    let rose = Rose g.S.Shelf.stays_at_last (g.S.Shelf.faults c.args.shelf.now) (g.S.Shelf.faults c.run.new.shelf) in
    rw c.in-Run.is (run-answers (g.S.Shelf.held c.args.shelf.now) rose c.in-Run.words c.run.result c.run.ensures.passes)

pub returns-in-Plan-clause-passes : goal.returns-in-Plan-clause-passes
returns-in-Plan-clause-passes g c =
    let rose = Rose g.S.Shelf.stays_at_last (g.S.Shelf.faults c.args.shelf.now) (g.S.Shelf.faults c.show_in.new.shelf) in
    rw c.in-Plan.is (show-answers (g.S.Shelf.held c.args.shelf.now) rose c.in-Plan.lang c.in-Plan.file c.in-Plan.script c.show_in.result c.show_in.ensures.passes)

pub returns-in-Mean-clause-passes : goal.returns-in-Mean-clause-passes
returns-in-Mean-clause-passes g c =
    let rose = Rose g.S.Shelf.stays_at_last (g.S.Shelf.faults c.args.shelf.now) (g.S.Shelf.faults c.mean_in.new.shelf) in
    rw c.in-Mean.is (mean-answers (g.S.Shelf.held c.args.shelf.now) rose c.in-Mean.lang c.in-Mean.file c.in-Mean.ins c.in-Mean.header c.mean_in.result c.mean_in.ensures.passes)

pub returns-in-Upgrade-clause-passes : goal.returns-in-Upgrade-clause-passes
returns-in-Upgrade-clause-passes g c =
    let rose = Rose g.S.Shelf.stays_at_last (g.S.Shelf.faults c.args.shelf.now) (g.S.Shelf.faults c.upgrade.new.shelf) in
    rw c.in-Upgrade.is (upgrade-answers (g.S.Shelf.held c.args.shelf.now) rose c.in-Upgrade.file c.upgrade.result c.upgrade.ensures.passes)

pub returns-in-Load-clause-passes : goal.returns-in-Load-clause-passes
returns-in-Load-clause-passes g c =
    let rose = Rose g.S.Shelf.stays_at_last (g.S.Shelf.faults c.args.shelf.now) (g.S.Shelf.faults c.args.shelf.now) in
    rw c.in-Load.is (load-answers (g.S.Shelf.held c.args.shelf.now) rose c.in-Load.number c.load.result c.load.ensures)

pub returns-in-Free-clause-passes : goal.returns-in-Free-clause-passes
returns-in-Free-clause-passes g c =
    let rose = Rose g.S.Shelf.stays_at_last (g.S.Shelf.faults c.args.shelf.now) (g.S.Shelf.faults c.free.new.shelf) in
    rw c.in-Free.is (free-answers (g.S.Shelf.held c.args.shelf.now) rose c.in-Free.words c.free.result c.free.ensures.passes)
