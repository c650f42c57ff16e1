use Rattle.std.proofs.Common.{◌≡◌, ◌+◌, ◌++◌, ◌∷◌, [], take, rules, sym, ap, ◌∙◌, subst}
use Rattle.river_base.proofs.Lists.{map_more}
use Rattle.river_kernels.specs.Fits.{rows}
use Rattle.river_plan.specs.Kinds.{table_width}
use Rattle.river_plan.specs.declared.plan.Decl.{Decl}
use Rattle.saw_model.specs.Plan.{queue_name, queue_decls}
use Rattle.saw_front.specs.Plans.{IsListed, AreListed}
use Rattle.saw_front.proofs.Planned.{each_at}
use Rattle.saw_front.proofs.lists.queues.Goals as goal

pub queue-requires : goal.queue-requires
queue-requires c =
    (each_at IsListed c.as_slice-table-items.result.now c.loop-table.table-index c.table-item.result
    (subst AreListed (sym c.as_slice-table-items.ensures) c.requires) (search rules) c.table-item.is).short

pub table_width-requires : goal.table_width-requires
table_width-requires c =
    (each_at IsListed c.as_slice-table-items.result.now c.loop-table.table-index c.table-item.result
    (subst AreListed (sym c.as_slice-table-items.ensures) c.requires) (search rules) c.table-item.is).keys

pub loop-table-preserved : goal.loop-table-preserved
loop-table-preserved c =
    let items = c.as_slice-table-items.result.now in
    let i = c.loop-table.table-index in
    let t = c.table-item.result in
    let made : Decl = record { name = c.in_ok-name.name; kind = rows c.table_width.result } in
    let is : made ≡ record { name = queue_name t.name; kind = rows (table_width t.kind) } =
    λ k. record { name = c.in_ok-name.ensures k; kind = rows (c.table_width.ensures k) } in
    let more : queue_decls (take (i + 1) items) ≡ queue_decls (take i items) ++ record { name = queue_name t.name; kind = rows (table_width t.kind) } ∷ [] =
    map_more _ items i t (search rules) c.table-item.is in
    c.in_ok-push.ensures.ok
    ∙ ap (λ l. l ++ made ∷ []) c.loop-table.invariant
    ∙ ap (λ d. queue_decls (take i items) ++ d ∷ []) is
    ∙ sym more
