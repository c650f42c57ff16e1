use Rattle.std.proofs.Common.{sym, subst}
use Rattle.std.proofs.lemmas.Result.{on_ok_weaker, on_err_weaker}
use Rattle.work_code.specs.Term.{term}
use Rattle.kern_bags.specs.Joined.{CanJoinChanges, CanJoinFlat}
use Rattle.kern_bags.proofs.JoinedPairs.{joins_flat, joins_part}
use Rattle.kern_bags.proofs.kernel.Cross.step_where.Goals as goal

pub pass_pairs_where-requires : goal.pass_pairs_where-requires
pass_pairs_where-requires c =
    let t = term c.args.cond.now in
    subst (CanJoinChanges t) (sym c.in_ok-put.ensures) (subst (λ x. CanJoinFlat t c.args.port x c.args.state.now) (sym c.change_of.ensures) c.requires.fits)

pub returns-clause-ok : goal.returns-clause-ok
returns-clause-ok c =
    on_ok_weaker c.give_changes.result
    (joins_flat (term c.args.cond.now) c.args.port c.args.item c.change_of.result c.args.state.now c.put.new.self c.pass_pairs_where.new.self
    c.new-changes.result c.pass_pairs_where.new.out c.args.out.now c.give_changes.new.out c.change_of.ensures c.in_ok-put.ensures c.new-changes.ensures
    c.in_ok-pass_pairs_where.ensures) c.give_changes.ensures.ok

pub returns-clause-err : goal.returns-clause-err
returns-clause-err c =
    on_err_weaker c.give_changes.result
    (joins_part (term c.args.cond.now) c.args.port c.args.item c.change_of.result c.args.state.now c.put.new.self c.pass_pairs_where.new.self
    c.new-changes.result c.pass_pairs_where.new.out c.args.out.now c.give_changes.new.out c.change_of.ensures c.in_ok-put.ensures c.new-changes.ensures
    c.in_ok-pass_pairs_where.ensures) c.give_changes.ensures.err
