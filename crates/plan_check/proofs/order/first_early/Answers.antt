use Rattle.std.proofs.Common.{[], length, refl, sym, arith}
use Rattle.std.specs.Prelude.{slice_index}
use Rattle.river_plan.specs.ByUsers.{IsKnownAt}
use Rattle.river_plan.proofs.NameLemmas.{not_false}
use Rattle.plan_check.proofs.PlacedFaults.{same_known}
use Rattle.plan_check.proofs.Remains.{remains_at-next, remains_at-found}
use Rattle.plan_check.proofs.order.first_early.Goals as goal

pub loop-port-preserved : goal.loop-port-preserved
loop-port-preserved c =
    remains_at-next (λ i. IsKnownAt (length c.args.raw.now.outputs) (length c.args.raw.now.inputs) c.args.op c.args.writers.now
    (slice_index c.args.places.now i)) c.args.reads.now c.loop-port.port [] (omega arith)
    (same_known _ _ _ _ c.args.op _ _ c.args.writers.now c.len.ensures c.len-in-loop-port.ensures (c.at-place.ensures 0)
    (c.if-not-is_known.ensures.0 refl)) c.loop-port.invariant

pub returns-then-not-is_known : goal.returns-then-not-is_known
returns-then-not-is_known c =
    remains_at-found (λ i. IsKnownAt (length c.args.raw.now.outputs) (length c.args.raw.now.inputs) c.args.op c.args.writers.now
    (slice_index c.args.places.now i)) c.args.reads.now c.loop-port.port c.at.result.now (omega arith) (c.at.ensures c.at.result.now)
    (λ g. not_false (c.if-not-is_known.ensures.1
    (same_known _ _ _ _ c.args.op _ _ c.args.writers.now (sym c.len.ensures) (sym c.len-in-loop-port.ensures)
    (sym (c.at-place.ensures 0)) g))) c.loop-port.invariant
