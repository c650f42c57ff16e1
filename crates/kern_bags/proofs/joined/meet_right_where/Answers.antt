use Rattle.std.proofs.Common.{◌++◌, sym, subst}
use Rattle.std.proofs.lemmas.Result.{on_ok_weaker}
use Rattle.river_base.specs.Changes.{all_pairs}
use Rattle.work_code.specs.Term.{term}
use Rattle.kern_changes.specs.Counted.{AreSame}
use Rattle.kern_bags.specs.Contents.{selected}
use Rattle.kern_bags.specs.Joined.{CanPair}
use Rattle.kern_bags.proofs.JoinedRows.{pair_same, same_trans, pairs_again_right}
use Rattle.kern_bags.proofs.joined.meet_right_where.Goals as goal

pub pairs_from_left-requires-2 : goal.pairs_from_left-requires-2
pairs_from_left-requires-2 c =
    let t = term c.args.cond.now in
    subst (λ l. CanPair t l c.pairs_from_left.new.rights) (sym c.as_slice-2.ensures)
    (pair_same t c.args.change.now.minus c.args.rights.now c.pairs_from_left.new.rights c.requires.minus c.in_ok-pairs_from_left.ensures.same)

pub returns-clause-same : goal.returns-clause-same
returns-clause-same c =
    on_ok_weaker c.pairs_from_left-2.result
    (λ h. same_trans c.args.rights.now c.pairs_from_left.new.rights c.pairs_from_left-2.new.rights c.in_ok-pairs_from_left.ensures.same h)
    c.pairs_from_left-2.ensures.same

pub returns-clause-minus : goal.returns-clause-minus
returns-clause-minus c =
    let t = term c.args.cond.now in
    on_ok_weaker c.pairs_from_left-2.result
    (λ h. pairs_again_right t c.args.change.now.minus c.args.rights.now c.pairs_from_left.new.rights c.args.minus.now c.pairs_from_left-2.new.all
    c.in_ok-pairs_from_left.ensures.same
    (subst (λ l. AreSame c.pairs_from_left-2.new.all (c.args.minus.now ++ selected t (all_pairs l c.pairs_from_left.new.rights))) c.as_slice-2.ensures h))
    c.pairs_from_left-2.ensures.pairs
