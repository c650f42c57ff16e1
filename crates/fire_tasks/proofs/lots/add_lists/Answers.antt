use Rattle.std.proofs.Common.{◌++◌, [], refl, sym, ap, ◌∙◌, arith}
use Rattle.std.specs.Prelude.{slice_set}
use Rattle.river_base.specs.Places.{list_at}
use Rattle.river_base.proofs.PlaceLemmas.{append_at_by, each_grew-upto_none, upto_step, upto_length}
use Rattle.brooklet_step.proofs.Moving.{emptied, emptied_next, emptied_all}
use Rattle.fire_tasks.proofs.lots.add_lists.Goals as goal

pub loop-table-init : goal.loop-table-init
loop-table-init c = record {
  grew = sym (each_grew-upto_none c.args.to.now (list_at c.args.from.now));
  emptied = emptied c.args.from.now;
}

pub at_mut-requires : goal.at_mut-requires
at_mut-requires c =
    let n = upto_length c.args.to.now c.loop-table.to (list_at c.args.from.now) c.loop-table.table c.loop-table.invariant.grew in
    let lt = c.loop-table-test.true in
    let end = c.len-table-end.ensures in
    omega (arith, n, lt, end)

pub loop-table-preserved : goal.loop-table-preserved
loop-table-preserved c =
    let j = c.loop-table.table in
    let f = list_at c.args.from.now in
    let n = upto_length c.args.to.now c.loop-table.to f j c.loop-table.invariant.grew in
    let lt = c.loop-table-test.true in
    let end = c.len-table-end.ensures in
    let r = c.requires in
    record {
      grew = upto_step c.args.to.now c.loop-table.to (slice_set c.loop-table.to j c.move_rows.new.to) f j (list_at c.loop-table.from j) c.loop-table.invariant.grew
          (c.loop-table.invariant.emptied.left.rest j (omega arith))
          (append_at_by c.loop-table.to c.loop-table.to j c.at_mut.result.now (list_at c.loop-table.from j) _ refl (omega (arith, n, lt, end))
          (c.at_mut.ensures.value c.at_mut.result.now) (c.in_ok-move_rows.ensures.grew ∙ ap (λ l. c.at_mut.result.now ++ l) (c.at_mut-in-loop-table.ensures.value [])));
      emptied = emptied_next j c.args.from.now c.loop-table.from (slice_set c.loop-table.from j c.move_rows.new.from) c.loop-table.invariant.emptied
          (omega (arith, n, lt, end, r)) (ap (slice_set c.loop-table.from j) c.in_ok-move_rows.ensures.left);
    }

pub returns-clause-left : goal.returns-clause-left
returns-clause-left c =
    emptied_all c.loop-table.table c.args.from.now c.loop-table.from c.loop-table.invariant.emptied
    (let r = c.requires in let end = c.len-table-end.ensures in let f = c.loop-table-test.false in omega (arith, r, end, f))
