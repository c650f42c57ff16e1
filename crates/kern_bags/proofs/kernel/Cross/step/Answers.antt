use Rattle.std.proofs.Common.{sym, subst}
use Rattle.std.proofs.lemmas.Result.{on_ok_weaker, on_err_weaker}
use Rattle.kern_bags.specs.Takes.{CanCrossChanges, CanCrossFlat}
use Rattle.kern_bags.proofs.Flats.{crosses_flat, crosses_part}
use Rattle.kern_bags.proofs.kernel.Cross.step.Goals as goal

pub pass_pairs-requires : goal.pass_pairs-requires
pass_pairs-requires c =
    subst CanCrossChanges (sym c.in_ok-put.ensures) (subst (λ x. CanCrossFlat c.args.port x c.args.state.now) (sym c.change_of.ensures) c.requires.fits)

pub returns-clause-ok : goal.returns-clause-ok
returns-clause-ok c =
    on_ok_weaker c.give_changes.result
    (crosses_flat c.args.port c.args.item c.change_of.result c.args.state.now c.put.new.self c.args.out.now c.give_changes.new.out
    c.change_of.ensures c.in_ok-put.ensures c.pass_pairs.new.self c.new-changes.result c.pass_pairs.new.out c.new-changes.ensures
    c.in_ok-pass_pairs.ensures.contents
    c.in_ok-pass_pairs.ensures.fits) c.give_changes.ensures.ok

pub returns-clause-err : goal.returns-clause-err
returns-clause-err c =
    on_err_weaker c.give_changes.result
    (crosses_part c.args.port c.args.item c.change_of.result c.args.state.now c.put.new.self c.args.out.now c.give_changes.new.out
    c.change_of.ensures c.in_ok-put.ensures c.pass_pairs.new.self c.new-changes.result c.pass_pairs.new.out c.new-changes.ensures
    c.in_ok-pass_pairs.ensures.contents)
    c.give_changes.ensures.err
