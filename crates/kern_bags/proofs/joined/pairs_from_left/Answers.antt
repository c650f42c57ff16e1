use Rattle.std.proofs.Common.{[], ◌∷◌, ◌++◌, map, sym, ap, ◌∙◌, subst, arith}
use Rattle.std.proofs.lemmas.List.{append-nil, take_all}
use Rattle.river_base.specs.Changes.{all_pairs}
use Rattle.work_code.specs.Term.{term}
use Rattle.kern_changes.specs.Counted.{AreSame}
use Rattle.kern_bags.specs.Contents.{selected}
use Rattle.kern_bags.specs.Joined.{CanPair}
use Rattle.kern_bags.proofs.JoinedRows.{pair_row, left_more, same_self, same_trans, same_by, finds_again_right}
use Rattle.kern_bags.proofs.joined.pairs_from_left.Goals as goal

pub loop-left-init : goal.loop-left-init
loop-left-init c = record {
  same = same_self c.args.rights.now;
  pairs = same_by c.args.all.now (c.args.all.now ++ []) (sym (append-nil c.args.all.now));
}

pub find_right-requires : goal.find_right-requires
find_right-requires c =
    pair_row (term c.args.cond.now) c.args.lefts.now c.args.rights.now c.loop-left.rights c.loop-left.left-index c.left-item.result c.requires
    (omega arith) c.left-item.is c.loop-left.invariant.same

pub join_row-requires : goal.join_row-requires
join_row-requires c =
    subst (λ l. CanPair (term c.args.cond.now) (c.left-item.result ∷ []) l) (sym c.as_slice.ensures) c.in_ok-found.ensures.wide

pub loop-left-preserved : goal.loop-left-preserved
loop-left-preserved c =
    let t = term c.args.cond.now in
    let x = c.left-item.result in
    let found = c.in_ok-found.found in
    record {
      same = same_trans c.args.rights.now c.loop-left.rights c.find_right.new.rights c.loop-left.invariant.same c.in_ok-found.ensures.same;
      pairs =
          left_more t c.args.lefts.now c.args.rights.now c.args.all.now c.loop-left.all found c.join_row.new.all c.loop-left.left-index x (omega arith)
          c.left-item.is c.loop-left.invariant.pairs
          (finds_again_right t x c.args.rights.now c.loop-left.rights found c.loop-left.invariant.same c.in_ok-found.ensures.found)
          (c.in_ok-join_row.ensures ∙ ap (λ l. c.loop-left.all ++ selected t (map (λ y. x ++ y) l)) c.as_slice.ensures);
    }

pub returns : goal.returns
returns c =
    let t = term c.args.cond.now in
    record {
      same = c.loop-left.invariant.same;
      pairs =
          subst (λ l. AreSame c.loop-left.all (c.args.all.now ++ selected t (all_pairs l c.args.rights.now)))
          (take_all c.loop-left.left-index c.args.lefts.now (omega arith)) c.loop-left.invariant.pairs;
    }
