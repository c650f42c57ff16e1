use Rattle.river_road.proofs.Means.{mean-says, given-outs, given-tables}
use Rattle.river_road.proofs.meant.mean_text.Goals as goal

pub print_outcome-requires-clause-outs : goal.print_outcome-requires-clause-outs
print_outcome-requires-clause-outs g c =
    given-outs g.L.Language.stands c.args.compiled.now c.args.files c.in_ok-outcome.outcome c.requires.contents c.requires.known c.in_ok-outcome.ensures

pub print_outcome-requires-clause-tables : goal.print_outcome-requires-clause-tables
print_outcome-requires-clause-tables g c =
    given-tables g.L.Language.stands c.args.compiled.now c.args.files c.in_ok-outcome.outcome c.requires.contents c.requires.known c.in_ok-outcome.ensures

pub returns : goal.returns
returns g c =
    mean-says g.L.Language.stands c.args.compiled.now c.args.files c.in_ok-outcome.outcome c.print_outcome.result c.print_outcome.ensures
    c.in_ok-outcome.ensures
