use Rattle.std.proofs.Common.{◌++◌, [], refl, sym, ap, ◌∙◌, arith}
use Rattle.std.specs.Prelude.{slice_set}
use Rattle.river_base.specs.Places.{list_at}
use Rattle.river_base.proofs.PlaceLemmas.{append_at_by, each_grew-upto_none, upto_step, upto_length}
use Rattle.brooklet_step.proofs.Moving.{emptied, emptied_next, emptied_all}
use Rattle.fire_tasks.proofs.lots.add_lines.Goals as goal

pub loop-port-init : goal.loop-port-init
loop-port-init c = record {
  grew = sym (each_grew-upto_none c.args.to.now (list_at c.args.from.now));
  emptied = emptied c.args.from.now;
}

pub at_mut-requires : goal.at_mut-requires
at_mut-requires c =
    let n = upto_length c.args.to.now c.loop-port.to (list_at c.args.from.now) c.loop-port.port c.loop-port.invariant.grew in
    let lt = c.loop-port-test.true in
    let end = c.len-port-end.ensures in
    omega (arith, n, lt, end)

pub loop-port-preserved : goal.loop-port-preserved
loop-port-preserved c =
    let j = c.loop-port.port in
    let f = list_at c.args.from.now in
    let n = upto_length c.args.to.now c.loop-port.to f j c.loop-port.invariant.grew in
    let lt = c.loop-port-test.true in
    let end = c.len-port-end.ensures in
    let r = c.requires in
    record {
      grew = upto_step c.args.to.now c.loop-port.to (slice_set c.loop-port.to j c.take_from.new.self) f j (list_at c.loop-port.from j) c.loop-port.invariant.grew
          (c.loop-port.invariant.emptied.left.rest j (omega arith))
          (append_at_by c.loop-port.to c.loop-port.to j c.at_mut.result.now (list_at c.loop-port.from j) _ refl (omega (arith, n, lt, end))
          (c.at_mut.ensures.value c.at_mut.result.now) (c.in_ok-take_from.ensures.ok ∙ ap (λ l. c.at_mut.result.now ++ l) (c.at_mut-in-loop-port.ensures.value [])));
      emptied = emptied_next j c.args.from.now c.loop-port.from (slice_set c.loop-port.from j c.take_from.new.other) c.loop-port.invariant.emptied
          (omega (arith, n, lt, end, r)) (ap (slice_set c.loop-port.from j) c.in_ok-take_from.ensures.left);
    }

pub returns-clause-left : goal.returns-clause-left
returns-clause-left c =
    emptied_all c.loop-port.port c.args.from.now c.loop-port.from c.loop-port.invariant.emptied
    (let r = c.requires in let end = c.len-port-end.ensures in let f = c.loop-port-test.false in omega (arith, r, end, f))
