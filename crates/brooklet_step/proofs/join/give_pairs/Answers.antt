use Rattle.std.proofs.Common.{subst}
use Rattle.std.proofs.lemmas.Result.{on_ok_weaker}
use Rattle.work_code.specs.Term.{term}
use Rattle.kern_bags.specs.Joined.{JoinsFlat}
use Rattle.brooklet_step.proofs.BagLeaves.{change_flat, flat_changed}
use Rattle.brooklet_step.proofs.SelectedCross.{keep_item, keep_flat, keep_pairs}
use Rattle.brooklet_step.proofs.join.give_pairs.Goals as goal

pub flat_of-requires : goal.flat_of-requires
flat_of-requires c = change_flat c.args.item (keep_item (term c.args.cond.now) c.args.port c.args.item c.args.state.now c.requires.can)

pub step_where-requires-clause-change : goal.step_where-requires-clause-change
step_where-requires-clause-change c =
    flat_changed c.flat_of.result c.args.item c.flat_of.ensures
    (keep_item (term c.args.cond.now) c.args.port c.args.item c.args.state.now c.requires.can)

pub step_where-requires-clause-fits : goal.step_where-requires-clause-fits
step_where-requires-clause-fits c =
    keep_flat (term c.args.cond.now) c.args.port c.args.item c.args.state.now c.requires.can c.in-Cross.rows c.flat_of.result c.in-Cross.is c.flat_of.ensures

pub returns : goal.returns
returns c =
    let e = term c.args.cond.now in
    let one = subst (λ l. JoinsFlat e c.args.port c.flat_of.result c.in-Cross.rows c.step_where.new.state l c.step_where.new.out) c.take_items-items.ensures
    c.in_ok-step_where-in-Cross.ensures.ok in
    on_ok_weaker c.give_all.result
    (keep_pairs e c.args.port c.args.item c.args.state.now c.requires.can c.in-Cross.rows c.step_where.new.state c.flat_of.result c.step_where.new.out
    c.args.out.now c.give_all.new.self c.in-Cross.is c.flat_of.ensures one)
    c.give_all.ensures
