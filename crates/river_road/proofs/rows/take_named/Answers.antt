use Rattle.std.proofs.Common.{sym, ◌∙◌}
use Rattle.river_road.proofs.Arranged.{taken-there}
use Rattle.river_road.proofs.rows.take_named.Goals as goal

pub returns-in-Some-clause-taken : goal.returns-in-Some-clause-taken
returns-in-Some-clause-taken c =
    let d = c.at_mut.result.now in
    c.replace.ensures.value ∙ c.at_mut.ensures.value d ∙ sym (c.in-Some.ensures.gives c.args.all.now d c.requires)

pub returns-in-Some-clause-others : goal.returns-in-Some-clause-others
returns-in-Some-clause-others c = λ q other.
    taken-there c.args.ins.now c.args.all.now c.args.name.now c.in-Some.place c.replace.new.dest q c.in-Some.ensures other
