use Rattle.std.proofs.Common.{arith}
use Rattle.plan_classes.proofs.Named.{few_tables}
use Rattle.fire_open.proofs.HomeLemmas.{numbers_below, own_there, homes_are}
use Rattle.fire_open.proofs.homes.homes_of.Goals as goal

pub overflow_cast-count : goal.overflow_cast-count
overflow_cast-count c =
    let f = few_tables c.args.plan.now c.requires.valid in
    let m = c.requires.classes.many in
    let n = c.len-count.ensures in
    omega (arith, f, m, n)

pub classes_below-requires : goal.classes_below-requires
classes_below-requires c k d lt =
    let b = numbers_below c.args.plan.now c.args.op c.in_ok-tables.tables c.requires.there c.in_ok-tables.ensures k d lt in
    let m = c.requires.classes.many in
    omega (arith, b, m)

pub ports_of-requires-clause-there : goal.ports_of-requires-clause-there
ports_of-requires-clause-there c k d lt =
    let b = numbers_below c.args.plan.now c.args.op c.in_ok-tables.tables c.requires.there c.in_ok-tables.ensures k d lt in
    let m = c.requires.classes.many in
    omega (arith, b, m)

pub ports_of-requires-clause-own : goal.ports_of-requires-clause-own
ports_of-requires-clause-own c k d lt =
    own_there c.args.plan.now c.args.op c.args.classes.now c.in_ok-tables.tables c.len-count.result c.in_ok-own.own c.requires.there c.requires.classes
    c.in_ok-tables.ensures
    c.len-count.ensures c.in_ok-own.ensures k d lt

pub returns : goal.returns
returns c =
    homes_are c.args.plan.now c.args.op c.args.classes.now c.in_ok-tables.tables c.in_ok-own.own c.len-count.result c.in_ok-ports.ports c.requires.there
    c.requires.classes
    c.in_ok-tables.ensures c.in_ok-own.ensures c.in_ok-ports.ensures.tables c.in_ok-ports.ensures.places
