use Rattle.std.proofs.Common.{sym, subst}
use Rattle.std.proofs.lemmas.Result.{on_ok_weaker}
use Rattle.work_code.specs.Term.{terms}
use Rattle.kern_bags.specs.Takes.{CanProjectFlat}
use Rattle.kern_bags.proofs.Flats.{projects_flat}
use Rattle.kern_bags.proofs.rowwise.project.Goals as goal

pub project_change-requires : goal.project_change-requires
project_change-requires c = subst (CanProjectFlat (terms c.args.list.now)) (sym c.change_of.ensures) c.requires.fits

pub returns-clause-ok : goal.returns-clause-ok
returns-clause-ok c =
    on_ok_weaker c.give_change.result
    (projects_flat (terms c.args.list.now) c.args.item c.change_of.result c.in_ok-change.change c.args.out.now c.give_change.new.out
    c.change_of.ensures c.in_ok-change.ensures) c.give_change.ensures.ok
