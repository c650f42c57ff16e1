use Rattle.kern_bags.proofs.Crossed.{pairs_start, pairs_step, pairs_end, pairs_fit, can_make, pairs_less}
use Rattle.kern_bags.proofs.cross.CrossState.pass_pairs.Goals as goal

pub loop-left-init : goal.loop-left-init
loop-left-init c = pairs_start c.args.self.now c.args.out.now c.requires

pub join-requires : goal.join-requires
join-requires c = can_make c.loop-left.self c.take_pair.new.self c.in-Some.left c.in-Some.right c.loop-left.invariant.can c.in-Some.ensures

pub loop-left-preserved : goal.loop-left-preserved
loop-left-preserved c =
    pairs_step c.args.self.now c.loop-left.self c.take_pair.new.self c.join.new.self c.in-Some.left c.in-Some.right c.args.out.now c.loop-left.out
    c.join.new.out c.loop-left.invariant c.in-Some.ensures c.in_ok-join.ensures

pub loop-left-smaller : goal.loop-left-smaller
loop-left-smaller c =
    pairs_less c.loop-left.self c.take_pair.new.self c.join.new.self c.in-Some.left c.in-Some.right c.loop-left.out c.join.new.out c.in-Some.ensures
    c.in_ok-join.ensures

pub returns-clause-contents : goal.returns-clause-contents
returns-clause-contents c =
    pairs_end c.args.self.now c.loop-left.self c.take_pair.new.self c.args.out.now c.loop-left.out c.loop-left.invariant c.in_default.ensures

pub returns-clause-fits : goal.returns-clause-fits
returns-clause-fits c =
    pairs_fit c.args.self.now c.loop-left.self c.take_pair.new.self c.args.out.now c.loop-left.out c.loop-left.invariant c.in_default.ensures
