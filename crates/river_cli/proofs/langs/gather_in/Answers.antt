use Rattle.river_outside.specs.Causes.{Rose}
use Rattle.command_line.specs.declared.command.Lang.TheVariants as lang
use Rattle.river_cli.proofs.Points.{gather-answers}
use Rattle.river_cli.proofs.langs.gather_in.Goals as goal

pub returns-in-River-clause-passes : goal.returns-in-River-clause-passes
returns-in-River-clause-passes g c =
    let rose = Rose g.S.Shelf.stays_at_last (g.S.Shelf.faults c.args.shelf.now) (g.S.Shelf.faults c.gather_run.new.shelf) in
    gather-answers c.args.words.now lang.River (g.S.Shelf.held c.args.shelf.now) rose c.gather_run.result c.in-River.is c.gather_run.ensures.passes

pub returns-in-Streamit-clause-passes : goal.returns-in-Streamit-clause-passes
returns-in-Streamit-clause-passes g c =
    let rose = Rose g.S.Shelf.stays_at_last (g.S.Shelf.faults c.args.shelf.now) (g.S.Shelf.faults c.gather_run-in-Streamit.new.shelf) in
    gather-answers c.args.words.now lang.Streamit (g.S.Shelf.held c.args.shelf.now) rose c.gather_run-in-Streamit.result c.in-Streamit.is c.gather_run-in-Streamit.ensures.passes

pub returns-in-Params-clause-passes : goal.returns-in-Params-clause-passes
returns-in-Params-clause-passes g c =
    let rose = Rose g.S.Shelf.stays_at_last (g.S.Shelf.faults c.args.shelf.now) (g.S.Shelf.faults c.gather_run-in-Params.new.shelf) in
    gather-answers c.args.words.now lang.Params (g.S.Shelf.held c.args.shelf.now) rose c.gather_run-in-Params.result c.in-Params.is c.gather_run-in-Params.ensures.passes

pub returns-in-Sawzall-clause-passes : goal.returns-in-Sawzall-clause-passes
returns-in-Sawzall-clause-passes g c =
    let rose = Rose g.S.Shelf.stays_at_last (g.S.Shelf.faults c.args.shelf.now) (g.S.Shelf.faults c.gather_run-in-Sawzall.new.shelf) in
    gather-answers c.args.words.now lang.Sawzall (g.S.Shelf.held c.args.shelf.now) rose c.gather_run-in-Sawzall.result c.in-Sawzall.is c.gather_run-in-Sawzall.ensures.passes

pub returns-in-Cql-clause-passes : goal.returns-in-Cql-clause-passes
returns-in-Cql-clause-passes g c =
    let rose = Rose g.S.Shelf.stays_at_last (g.S.Shelf.faults c.args.shelf.now) (g.S.Shelf.faults c.gather_run-in-Cql.new.shelf) in
    gather-answers c.args.words.now lang.Cql (g.S.Shelf.held c.args.shelf.now) rose c.gather_run-in-Cql.result c.in-Cql.is c.gather_run-in-Cql.ensures.passes
