use Rattle.std.proofs.Common.{List, length, arith, ap, ◌∙◌, sym, subst}
use Rattle.fire_tasks.specs.declared.bundle.Bundle.{Bundle}
use Rattle.fire_tasks.specs.declared.task.Task.{Task}
use Rattle.fire_run.specs.Shares.{AreWithin, put_each}
use Rattle.fire_run.proofs.GatherLemmas.{gathering_next, gathering_within}
use Rattle.fire_run.proofs.joining.gather.Goals as goal

pub put_back-requires : goal.put_back-requires
put_back-requires c =
    let b = c.index_mut.result.now in
    subst (AreWithin (length c.loop-place.tasks)) (sym c.take_tasks.ensures.tasks)
    (gathering_within c.args.bundles.now.items c.loop-place.bundles.items c.args.tasks.now c.loop-place.tasks c.loop-place.place b c.loop-place.invariant
    (omega arith)
    c.index_mut.ensures.value c.requires)

pub loop-place-preserved : goal.loop-place-preserved
loop-place-preserved c =
    let b = c.index_mut.result.now in
    gathering_next c.args.bundles.now.items c.loop-place.bundles.items c.args.tasks.now c.loop-place.tasks c.put_back.new.tasks c.loop-place.place b _
    c.loop-place.invariant (omega arith)
    c.index_mut.ensures.value (ap (λ (x : Bundle). x.seat) c.take_tasks.ensures.rest)
    (c.put_back.ensures ∙ ap (λ (own : List Task). put_each own c.loop-place.tasks) c.take_tasks.ensures.tasks)
