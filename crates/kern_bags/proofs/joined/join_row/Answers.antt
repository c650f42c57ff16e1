use Rattle.std.proofs.Common.{ℤ, List, [], ◌∷◌, length, ◌++◌, sym, ap, ◌∙◌, subst, arith}
use Rattle.work_code.specs.Term.{term}
use Rattle.work_code.specs.Value.{IsWithin}
use Rattle.kern_bags.specs.Contents.{selected}
use Rattle.kern_bags.proofs.JoinedRows.{reads_pair, few_pair, join_more}
use Rattle.kern_bags.proofs.joined.join_row.Goals as goal

pub joined-requires : goal.joined-requires
joined-requires c =
    few_pair (term c.args.cond.now) c.args.left.now c.args.rights.now c.loop-right.right-index c.right-item.result c.requires (omega arith) c.right-item.is

pub push_passing-requires : goal.push_passing-requires
push_passing-requires c =
    let t = term c.args.cond.now in
    subst (λ (r : List ℤ). IsWithin (length r) 0 t) (sym c.joined.ensures)
    (reads_pair t c.args.left.now c.args.rights.now c.loop-right.right-index c.right-item.result c.requires (omega arith) c.right-item.is)

pub loop-right-preserved : goal.loop-right-preserved
loop-right-preserved c =
    let t = term c.args.cond.now in
    let f : List ℤ → List ℤ = λ (y : List ℤ). c.args.left.now ++ y in
    join_more t f c.args.rights.now c.args.all.now c.loop-right.all c.push_passing.new.all c.loop-right.right-index c.right-item.result
    (omega arith) c.right-item.is c.loop-right.invariant (c.in_ok-push_passing.ensures ∙ ap (λ r. c.loop-right.all ++ selected t (r ∷ [])) c.joined.ensures)
