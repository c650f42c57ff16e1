use Rattle.fire_open.proofs.HomeLemmas.{own_next}
use Rattle.fire_open.proofs.homes.classes_below.Goals as goal

pub loop-class-preserved : goal.loop-class-preserved
loop-class-preserved c =
    own_next c.args.classes.now c.args.tables.now c.loop-class.class c.loop-class.own c.add_if.new.own c.has_class-found.result c.loop-class.invariant
    c.has_class-found.ensures.yes c.has_class-found.ensures.no c.in_ok-add_if.ensures
