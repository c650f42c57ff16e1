use Rattle.std.proofs.Common.{◌≡◌, Some, sym, ap, ◌∙◌, subst, arith}
use Rattle.std.specs.Prelude.{slice_get, slice_set}
use Rattle.std.proofs.lemmas.Option.{slice_get-get_or}
use Rattle.river_base.specs.Places.{list_at}
use Rattle.brooklet_step.proofs.Moving.{emptied, emptied_next, emptied_all}
use Rattle.class_locks.specs.Logs.{TakesRows}
use Rattle.fire_tasks.specs.Turns.{HaveGained, cell_with_rows}
use Rattle.fire_tasks.proofs.AddLemmas.{added_none, added_next, added_gained, added_whole, cell_now}
use Rattle.fire_tasks.proofs.adding.add_rows.Goals as goal

pub loop-port-init : goal.loop-port-init
loop-port-init c = record {
  emptied = emptied c.args.adds.now;
  added = added_none c.args.op c.args.tables.now (list_at c.args.adds.now) c.args.pile.now.items;
}

pub add_at-requires : goal.add_at-requires
add_at-requires c =
    let j = c.loop-port.port in
    let h = c.at.result.now in
    let g : slice_get c.args.tables.now j ≡ Some h =
    slice_get-get_or c.args.tables.now j h (let a = c.loop-port-test.true in let n = c.len-port-end.ensures in omega (arith, a, n))
    ∙ ap Some (sym (c.at.ensures h)) in
    let x = cell_now c.args.op c.args.tables.now
    (list_at c.args.adds.now) j c.args.pile.now.items c.loop-port.pile.items h c.loop-port.invariant.added c.requires.can g in
    let same = c.at_mut.ensures.value _ ∙ c.loop-port.invariant.emptied.left.rest j (omega arith) in
    (x.0, x.1, subst (TakesRows x.0.1.kinds h.table) (sym same) x.2)

pub returns-in_err-add_at-clause-gained : goal.returns-in_err-add_at-clause-gained
returns-in_err-add_at-clause-gained c =
    subst (HaveGained c.args.op c.args.pile.now.items) (sym c.in_err-add_at.ensures.err)
    (added_gained c.args.op c.args.tables.now
    (list_at c.args.adds.now) c.loop-port.port c.args.pile.now.items c.loop-port.pile.items c.loop-port.invariant.added)

pub loop-port-preserved : goal.loop-port-preserved
loop-port-preserved c =
    let j = c.loop-port.port in
    let h = c.at.result.now in
    let rows = list_at c.args.adds.now in
    let g : slice_get c.args.tables.now j ≡ Some h =
    slice_get-get_or c.args.tables.now j h (let a = c.loop-port-test.true in let n = c.len-port-end.ensures in omega (arith, a, n))
    ∙ ap Some (sym (c.at.ensures h)) in
    let x = cell_now c.args.op c.args.tables.now rows j c.args.pile.now.items c.loop-port.pile.items h c.loop-port.invariant.added c.requires.can g in
    let same = c.at_mut.ensures.value _ ∙ c.loop-port.invariant.emptied.left.rest j (omega arith) in
    let many = c.requires.many in
    let lt = c.loop-port-test.true in
    let end = c.len-port-end.ensures in
    record {
      emptied = emptied_next j c.args.adds.now c.loop-port.adds _ c.loop-port.invariant.emptied (omega (arith, many, lt, end))
          (ap (λ r. slice_set c.loop-port.adds j r) c.in_ok-add_at.ensures.blank);
      added = added_next c.args.op c.args.tables.now rows j c.args.pile.now.items c.loop-port.pile.items c.add_at.new.pile.items h x.0 c.requires.ascend
          c.loop-port.invariant.added g x.1
          (c.in_ok-add_at.ensures.ok x.0 x.1 ∙ ap (λ r. slice_set c.loop-port.pile.items h.place (cell_with_rows c.args.op h.table r x.0)) same);
    }

pub returns-clause-gained : goal.returns-clause-gained
returns-clause-gained c =
    added_gained c.args.op c.args.tables.now (list_at c.args.adds.now) c.loop-port.port c.args.pile.now.items c.loop-port.pile.items c.loop-port.invariant.added

pub returns-clause-logged : goal.returns-clause-logged
returns-clause-logged c =
    added_whole c.args.op c.args.tables.now (list_at c.args.adds.now) c.loop-port.port c.args.pile.now.items c.loop-port.pile.items c.loop-port.invariant.added
    (let end = c.len-port-end.ensures in let f = c.loop-port-test.false in omega (arith, end, f))

pub returns-clause-blank : goal.returns-clause-blank
returns-clause-blank c =
    emptied_all c.loop-port.port c.args.adds.now c.loop-port.adds c.loop-port.invariant.emptied
    (let many = c.requires.many in let end = c.len-port-end.ensures in let f = c.loop-port-test.false in omega (arith, many, end, f))
