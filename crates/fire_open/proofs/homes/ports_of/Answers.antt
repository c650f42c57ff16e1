use Rattle.std.proofs.Common.{◌<◌, Some, [], ◌∷◌, ◌++◌, length, ap, sym, ◌∙◌, arith}
use Rattle.std.specs.Prelude.{slice_index_or}
use Rattle.fire_tasks.specs.declared.task.TablePort.{TablePort}
use Rattle.fire_open.proofs.HomeLemmas.{ports_first, ports_next}
use Rattle.fire_open.proofs.homes.ports_of.Goals as goal

pub loop-table-init : goal.loop-table-init
loop-table-init c = ports_first c.args.classes.now c.args.own.now c.new-ports.result c.new-ports.ensures

pub place_of-place-requires : goal.place_of-place-requires
place_of-place-requires c =
    let k = c.loop-table.table-index in
    let lt : k < length c.args.tables.now = (let t = c.loop-table-test.true in let e = ap length c.as_slice-table-items.ensures in omega (arith, t, e)) in
    let o = c.requires.own k 0 lt in
    (o.0, o.1 ∙ ap Some (sym (c.at.ensures 0 ∙ ap (λ l. slice_index_or c.args.classes.now (slice_index_or l k 0) 0) c.as_slice-table-items.ensures)))

pub loop-table-preserved : goal.loop-table-preserved
loop-table-preserved c =
    ports_next c.args.classes.now c.args.own.now c.as_slice-table-items.result.now c.loop-table.table-index c.loop-table.ports c.push.new.self
    c.place_of-place.result c.at.result.now
    c.loop-table.invariant c.loop-table-test.true (c.in_ok-push.ensures.ok ∙ ap (λ (h : TablePort). c.loop-table.ports ++ h ∷ []) c.new.ensures)
    c.place_of-place.ensures (c.at.ensures 0)
