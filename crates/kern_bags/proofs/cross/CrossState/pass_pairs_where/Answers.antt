use Rattle.work_code.specs.Term.{term}
use Rattle.kern_bags.proofs.JoinedPairs.{joined_start, joined_makes, joined_step, joined_end, joined_less}
use Rattle.kern_bags.proofs.cross.CrossState.pass_pairs_where.Goals as goal

pub loop-left-init : goal.loop-left-init
loop-left-init c = joined_start (term c.args.cond.now) c.args.self.now c.args.out.now c.requires

pub join_where-requires : goal.join_where-requires
join_where-requires c =
    joined_makes (term c.args.cond.now) c.args.self.now c.loop-left.self c.take_pair.new.self c.in-Some.left c.in-Some.right c.args.out.now c.loop-left.out
    c.requires c.loop-left.invariant c.in-Some.ensures

pub loop-left-preserved : goal.loop-left-preserved
loop-left-preserved c =
    joined_step (term c.args.cond.now) c.args.self.now c.loop-left.self c.take_pair.new.self c.join_where.new.self c.in-Some.left c.in-Some.right
    c.args.out.now c.loop-left.out c.join_where.new.out c.loop-left.invariant c.in-Some.ensures c.in_ok-join_where.ensures

pub loop-left-smaller : goal.loop-left-smaller
loop-left-smaller c =
    joined_less (term c.args.cond.now) c.loop-left.self c.take_pair.new.self c.join_where.new.self c.in-Some.left c.in-Some.right c.loop-left.out
    c.join_where.new.out c.in-Some.ensures c.in_ok-join_where.ensures

pub returns : goal.returns
returns c =
    joined_end (term c.args.cond.now) c.args.self.now c.loop-left.self c.take_pair.new.self c.args.out.now c.loop-left.out c.loop-left.invariant
    c.in_default.ensures
