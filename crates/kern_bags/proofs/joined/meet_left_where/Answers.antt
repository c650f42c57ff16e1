use Rattle.std.proofs.Common.{◌++◌, sym, subst}
use Rattle.std.proofs.lemmas.Result.{on_ok_weaker}
use Rattle.river_base.specs.Changes.{all_pairs}
use Rattle.work_code.specs.Term.{term}
use Rattle.kern_changes.specs.Counted.{AreSame}
use Rattle.kern_bags.specs.Contents.{selected}
use Rattle.kern_bags.specs.Joined.{CanPairOf}
use Rattle.kern_bags.proofs.JoinedRows.{pair_of, pair_of_same, same_trans, pairs_again_left}
use Rattle.kern_bags.proofs.joined.meet_left_where.Goals as goal

pub pairs_from_right-requires : goal.pairs_from_right-requires
pairs_from_right-requires c =
    let t = term c.args.cond.now in
    let w = c.in-Some.width in
    subst (λ l. CanPairOf w t c.args.lefts.now l) (sym c.as_slice.ensures)
    (pair_of t c.args.lefts.now c.args.change.now.plus w c.requires.plus c.in-Some.ensures)

pub pairs_from_right-requires-in-Some : goal.pairs_from_right-requires-in-Some
pairs_from_right-requires-in-Some c =
    let t = term c.args.cond.now in
    let w = c.in-Some.width in
    subst (λ l. CanPairOf w t c.pairs_from_right.new.lefts l) (sym c.as_slice-in-Some.ensures)
    (pair_of_same w t c.args.lefts.now c.pairs_from_right.new.lefts c.args.change.now.minus
    (pair_of t c.args.lefts.now c.args.change.now.minus w c.requires.minus c.in-Some.ensures) c.in_ok-pairs_from_right-in-Some.ensures.same)

pub returns-in_ok-pairs_from_right-in-Some-clause-same : goal.returns-in_ok-pairs_from_right-in-Some-clause-same
returns-in_ok-pairs_from_right-in-Some-clause-same c =
    on_ok_weaker c.pairs_from_right-in-Some.result
    (λ h. same_trans c.args.lefts.now c.pairs_from_right.new.lefts c.pairs_from_right-in-Some.new.lefts c.in_ok-pairs_from_right-in-Some.ensures.same h)
    c.pairs_from_right-in-Some.ensures.same

pub returns-in_ok-pairs_from_right-in-Some-clause-minus : goal.returns-in_ok-pairs_from_right-in-Some-clause-minus
returns-in_ok-pairs_from_right-in-Some-clause-minus c =
    let t = term c.args.cond.now in
    on_ok_weaker c.pairs_from_right-in-Some.result
    (λ h. pairs_again_left t c.args.lefts.now c.pairs_from_right.new.lefts c.args.change.now.minus c.args.minus.now c.pairs_from_right-in-Some.new.all
    c.in_ok-pairs_from_right-in-Some.ensures.same
    (subst (λ l. AreSame c.pairs_from_right-in-Some.new.all (c.args.minus.now ++ selected t (all_pairs c.pairs_from_right.new.lefts l)))
    c.as_slice-in-Some.ensures h))
    c.pairs_from_right-in-Some.ensures.pairs
