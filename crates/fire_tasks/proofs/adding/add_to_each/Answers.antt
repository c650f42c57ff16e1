use Rattle.std.proofs.Common.{◌≡◌, ◌<◌, Some, length, sym, ap, ◌∙◌, subst, arith}
use Rattle.std.specs.Prelude.{slice_get, slice_set, slice_index_or}
use Rattle.std.proofs.lemmas.List.{take_all}
use Rattle.std.proofs.lemmas.Option.{slice_get-get_or}
use Rattle.river_base.specs.Places.{list_at}
use Rattle.brooklet_step.proofs.Moving.{emptied, emptied_next, emptied_all}
use Rattle.class_locks.specs.Logs.{TakesRows}
use Rattle.fire_tasks.specs.Turns.{logged}
use Rattle.fire_tasks.specs.Rows.{cells_grown, cells_with_rows}
use Rattle.fire_tasks.proofs.CellLemmas.{class_below, added_first, added_step, cell_now}
use Rattle.fire_tasks.proofs.adding.add_to_each.Goals as goal

pub loop-port-init : goal.loop-port-init
loop-port-init c = record {
  emptied = emptied c.args.adds.now;
  added = added_first c.args.op c.args.classes.now c.args.tables.now (list_at c.args.adds.now) c.args.cells.now;
}

pub at-class-requires : goal.at-class-requires
at-class-requires c =
    let j = c.loop-port.port in
    let h = c.at-to.result.now in
    c.requires.can.there j h
    (slice_get-get_or c.args.tables.now j h (let a = c.loop-port-test.true in let n = c.len-port-end.ensures in omega (arith, a, n))
    ∙ ap Some (sym (c.at-to.ensures h)))

pub add_in-requires-clause-there : goal.add_in-requires-clause-there
add_in-requires-clause-there c =
    let j = c.loop-port.port in
    let h = c.at-to.result.now in
    let x = cell_now c.args.op c.args.classes.now c.args.tables.now (list_at c.args.adds.now) j c.args.cells.now c.loop-port.cells h c.requires.can
    (slice_get-get_or c.args.tables.now j h (let a = c.loop-port-test.true in let n = c.len-port-end.ensures in omega (arith, a, n))
    ∙ ap Some (sym (c.at-to.ensures h))) c.loop-port.invariant.added in
    subst (λ k. k < length c.loop-port.cells) (sym (c.at-class.ensures 0)) x.there

pub add_in-requires-clause-takes : goal.add_in-requires-clause-takes
add_in-requires-clause-takes c d =
    let j = c.loop-port.port in
    let h = c.at-to.result.now in
    let x = cell_now c.args.op c.args.classes.now c.args.tables.now (list_at c.args.adds.now) j c.args.cells.now c.loop-port.cells h c.requires.can
    (slice_get-get_or c.args.tables.now j h (let a = c.loop-port-test.true in let n = c.len-port-end.ensures in omega (arith, a, n))
    ∙ ap Some (sym (c.at-to.ensures h))) c.loop-port.invariant.added in
    let same = c.at_mut.ensures.value _ ∙ c.loop-port.invariant.emptied.left.rest j (omega arith) in
    subst (λ k. TakesRows (slice_index_or c.loop-port.cells k d).kinds h.table c.at_mut.result.now) (sym (c.at-class.ensures 0))
    (subst (TakesRows (slice_index_or c.loop-port.cells (slice_index_or c.args.classes.now h.place 0) d).kinds h.table) (sym same) (x.takes d))

pub loop-port-preserved : goal.loop-port-preserved
loop-port-preserved c =
    let j = c.loop-port.port in
    let h = c.at-to.result.now in
    let rows = list_at c.args.adds.now in
    let g : slice_get c.args.tables.now j ≡ Some h =
    slice_get-get_or c.args.tables.now j h (let a = c.loop-port-test.true in let n = c.len-port-end.ensures in omega (arith, a, n))
    ∙ ap Some (sym (c.at-to.ensures h)) in
    let same = c.at_mut.ensures.value _ ∙ c.loop-port.invariant.emptied.left.rest j (omega arith) in
    let many = c.requires.many in
    let lt = c.loop-port-test.true in
    let end = c.len-port-end.ensures in
    let x = cell_now c.args.op c.args.classes.now c.args.tables.now rows j c.args.cells.now c.loop-port.cells h c.requires.can g c.loop-port.invariant.added in
    let long = ap length c.loop-port.invariant.added in
    record {
      emptied = emptied_next j c.args.adds.now c.loop-port.adds _ c.loop-port.invariant.emptied (omega (arith, many, lt, end))
          (ap (λ r. slice_set c.loop-port.adds j r) c.in_ok-add_in.ensures.blank);
      added = added_step c.args.op c.args.classes.now c.args.tables.now rows j c.args.cells.now c.loop-port.cells c.add_in.new.cells h g
          (class_below c.args.classes.now c.args.tables.now rows c.args.cells.now j h c.requires.can g) c.loop-port.invariant.added
          (c.in_ok-add_in.ensures.ok ∙ ap (λ k. cells_with_rows c.args.op h.table k c.at_mut.result.now c.loop-port.cells) (c.at-class.ensures 0)
          ∙ ap (λ r. cells_with_rows c.args.op h.table (slice_index_or c.args.classes.now h.place 0) r c.loop-port.cells) same);
    }

pub returns-clause-logged : goal.returns-clause-logged
returns-clause-logged c =
    c.loop-port.invariant.added ∙ ap (λ l. cells_grown (logged c.args.op c.args.classes.now l (list_at c.args.adds.now)) 0 c.args.cells.now)
    (take_all c.loop-port.port c.args.tables.now (let end = c.len-port-end.ensures in let f = c.loop-port-test.false in omega (arith, end, f)))

pub returns-clause-blank : goal.returns-clause-blank
returns-clause-blank c =
    emptied_all c.loop-port.port c.args.adds.now c.loop-port.adds c.loop-port.invariant.emptied
    (let many = c.requires.many in let end = c.len-port-end.ensures in let f = c.loop-port-test.false in omega (arith, many, end, f))
