use Rattle.std.proofs.Common.{◌∷◌, [], length, length-append, arith, ap, sym, subst}
use Rattle.fire_run.proofs.GatherLemmas.{Putting, putting_next, putting_within}
use Rattle.fire_run.proofs.joining.put_back.Goals as goal

pub put_task-requires : goal.put_task-requires
put_task-requires c =
    putting_within c.args.own c.args.tasks.now c.loop-task.own c.loop-task.tasks c.pop.new.self c.in-Some.task c.loop-task.invariant
    c.in-Some.ensures c.requires

pub loop-task-smaller : goal.loop-task-smaller
loop-task-smaller c =
    let e = ap (λ l. length l) c.in-Some.ensures in
    let l = length-append c.pop.new.self (c.in-Some.task ∷ []) in
    omega (arith, e, l)

pub loop-task-preserved : goal.loop-task-preserved
loop-task-preserved c =
    subst (Putting c.args.own c.args.tasks.now c.pop.new.self) (sym c.put_task.ensures)
    (putting_next c.args.own c.args.tasks.now c.loop-task.own c.loop-task.tasks c.pop.new.self c.in-Some.task c.loop-task.invariant c.in-Some.ensures)
