use Rattle.std.proofs.Common.{[], subst}
use Rattle.std.proofs.lemmas.Result.{on_ok_weaker}
use Rattle.work_code.specs.Term.{terms}
use Rattle.kern_bags.specs.Following.{ProjectsFlat}
use Rattle.river_kernels.specs.Kern.{project}
use Rattle.brooklet_step.specs.Given.{FiresAt}
use Rattle.brooklet_step.proofs.BagLeaves.{change_flat, flat_changed, project_item, project_flat_can, project_room}
use Rattle.brooklet_step.proofs.RowwiseFires.{project_flat_does}
use Rattle.brooklet_step.proofs.bag.fire_project.Goals as goal

pub flat_of-requires : goal.flat_of-requires
flat_of-requires c = change_flat c.args.item (project_item (terms c.args.list.now) c.args.item [] c.args.out.now c.requires)

pub project-requires-clause-change : goal.project-requires-clause-change
project-requires-clause-change c =
    flat_changed c.flat_of.result c.args.item c.flat_of.ensures (project_item (terms c.args.list.now) c.args.item [] c.args.out.now c.requires)

pub project-requires-clause-fits : goal.project-requires-clause-fits
project-requires-clause-fits c = project_flat_can (terms c.args.list.now) c.args.item [] c.args.out.now c.requires c.flat_of.result c.flat_of.ensures

pub give_all-requires : goal.give_all-requires
give_all-requires c = project_room (terms c.args.list.now) c.args.item [] c.args.out.now c.requires

pub returns : goal.returns
returns c =
    let es = terms c.args.list.now in
    let f = c.flat_of.result in
    let items = c.project.new.out in
    let out = c.args.out.now in
    let out' = c.give_all.new.self in
    let is = flat_changed f c.args.item c.flat_of.ensures (project_item es c.args.item [] out c.requires) in
    let one = subst (λ l. ProjectsFlat es f l items) c.take_items-items.ensures c.in_ok-project.ensures.ok in
    on_ok_weaker c.give_all.result (λ took.
    subst (λ i. FiresAt (project es) 0 i out out' [] []) c.flat_of.ensures (project_flat_does es f items out out' is one took)
    ) c.give_all.ensures
