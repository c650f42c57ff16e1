use Rattle.std.proofs.Common.{ℤ, List, [], ◌∷◌, length, ◌++◌, sym, ap, ◌∙◌, subst, arith}
use Rattle.work_code.specs.Term.{term}
use Rattle.work_code.specs.Value.{IsWithin}
use Rattle.kern_bags.specs.Contents.{selected}
use Rattle.kern_bags.proofs.JoinedRows.{reads_pair_left, few_pair_left, join_more}
use Rattle.kern_bags.proofs.joined.join_to_row.Goals as goal

pub joined-requires : goal.joined-requires
joined-requires c =
    few_pair_left (term c.args.cond.now) c.args.lefts.now c.args.right.now c.loop-left.left-index c.left-item.result c.requires (omega arith) c.left-item.is

pub push_passing-requires : goal.push_passing-requires
push_passing-requires c =
    let t = term c.args.cond.now in
    subst (λ (r : List ℤ). IsWithin (length r) 0 t) (sym c.joined.ensures)
    (reads_pair_left t c.args.lefts.now c.args.right.now c.loop-left.left-index c.left-item.result c.requires (omega arith) c.left-item.is)

pub loop-left-preserved : goal.loop-left-preserved
loop-left-preserved c =
    let t = term c.args.cond.now in
    let f : List ℤ → List ℤ = λ (x : List ℤ). x ++ c.args.right.now in
    join_more t f c.args.lefts.now c.args.all.now c.loop-left.all c.push_passing.new.all c.loop-left.left-index c.left-item.result
    (omega arith) c.left-item.is c.loop-left.invariant (c.in_ok-push_passing.ensures ∙ ap (λ r. c.loop-left.all ++ selected t (r ∷ [])) c.joined.ensures)
