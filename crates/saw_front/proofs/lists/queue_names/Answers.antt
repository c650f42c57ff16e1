use Rattle.std.proofs.Common.{◌≡◌, ◌+◌, ◌++◌, ◌∷◌, [], take, rules, sym, ap, ◌∙◌, subst}
use Rattle.river_base.proofs.Lists.{map_more}
use Rattle.saw_model.specs.Plan.{queue_name, queues_of}
use Rattle.saw_front.specs.Plans.{IsListed, AreListed}
use Rattle.saw_front.proofs.Planned.{each_at}
use Rattle.saw_front.proofs.lists.queue_names.Goals as goal

pub queue-requires : goal.queue-requires
queue-requires c =
    (each_at IsListed c.as_slice-table-items.result.now c.loop-table.table-index c.table-item.result
    (subst AreListed (sym c.as_slice-table-items.ensures) c.requires) (search rules) c.table-item.is).short

pub loop-table-preserved : goal.loop-table-preserved
loop-table-preserved c =
    let items = c.as_slice-table-items.result.now in
    let i = c.loop-table.table-index in
    let t = c.table-item.result in
    let more : queues_of (take (i + 1) items) ≡ queues_of (take i items) ++ queue_name t.name ∷ [] = map_more _ items i t (search rules) c.table-item.is in
    c.in_ok-push.ensures.ok
    ∙ ap (λ l. l ++ c.in_ok-queue.field-0 ∷ []) c.loop-table.invariant
    ∙ ap (λ q. queues_of (take i items) ++ q ∷ []) c.in_ok-queue.ensures
    ∙ sym more
