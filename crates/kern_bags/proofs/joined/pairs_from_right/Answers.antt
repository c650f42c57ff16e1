use Rattle.std.proofs.Common.{[], ◌∷◌, ◌++◌, map, sym, ap, ◌∙◌, subst, arith}
use Rattle.std.proofs.lemmas.List.{append-nil, take_all}
use Rattle.river_base.specs.Changes.{all_pairs}
use Rattle.work_code.specs.Term.{term}
use Rattle.kern_changes.specs.Counted.{AreSame}
use Rattle.kern_bags.specs.Contents.{selected}
use Rattle.kern_bags.specs.Joined.{CanPair}
use Rattle.kern_bags.proofs.Stepping.{pairs_none}
use Rattle.kern_bags.proofs.JoinedRows.{pair_column, right_more, same_self, same_trans, same_by, finds_again_left}
use Rattle.kern_bags.proofs.joined.pairs_from_right.Goals as goal

pub loop-right-init : goal.loop-right-init
loop-right-init c =
    let all = c.args.all.now in
    let t = term c.args.cond.now in
    record {
      same = same_self c.args.lefts.now;
      pairs = same_by all (all ++ selected t (all_pairs c.args.lefts.now [])) (sym (append-nil all) ∙ ap (λ l. all ++ selected t l) (sym (pairs_none c.args.lefts.now)));
    }

pub find_left-requires : goal.find_left-requires
find_left-requires c =
    pair_column c.args.width (term c.args.cond.now) c.args.lefts.now c.loop-right.lefts c.args.rights.now c.loop-right.right-index c.right-item.result
    c.requires (omega arith) c.right-item.is c.loop-right.invariant.same

pub join_to_row-requires : goal.join_to_row-requires
join_to_row-requires c =
    subst (λ l. CanPair (term c.args.cond.now) l (c.right-item.result ∷ [])) (sym c.as_slice.ensures) c.in_ok-found.ensures.wide

pub loop-right-preserved : goal.loop-right-preserved
loop-right-preserved c =
    let t = term c.args.cond.now in
    let y = c.right-item.result in
    let found = c.in_ok-found.found in
    record {
      same = same_trans c.args.lefts.now c.loop-right.lefts c.find_left.new.lefts c.loop-right.invariant.same c.in_ok-found.ensures.same;
      pairs =
          right_more t c.args.lefts.now c.args.rights.now c.args.all.now c.loop-right.all found c.join_to_row.new.all c.loop-right.right-index y
          (omega arith) c.right-item.is c.loop-right.invariant.pairs
          (finds_again_left t y c.args.lefts.now c.loop-right.lefts found c.loop-right.invariant.same c.in_ok-found.ensures.found)
          (c.in_ok-join_to_row.ensures ∙ ap (λ l. c.loop-right.all ++ selected t (map (λ x. x ++ y) l)) c.as_slice.ensures);
    }

pub returns : goal.returns
returns c =
    let t = term c.args.cond.now in
    record {
      same = c.loop-right.invariant.same;
      pairs =
          subst (λ l. AreSame c.loop-right.all (c.args.all.now ++ selected t (all_pairs c.args.lefts.now l)))
          (take_all c.loop-right.right-index c.args.rights.now (omega arith)) c.loop-right.invariant.pairs;
    }
