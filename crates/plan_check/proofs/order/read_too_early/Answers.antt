use Rattle.std.proofs.Common.{[], None, Some, ap, length, refl, ◌∙◌, arith}
use Rattle.std.proofs.lemmas.List.{length-map}
use Rattle.river_plan.specs.Forms.{plan_form, op_form, queue_names, decl_names}
use Rattle.river_plan.specs.Places.{place}
use Rattle.river_plan.specs.Faults.{ReadTooEarlyAt}
use Rattle.river_plan.specs.declared.fault.Named.TheVariants.{Queue}
use Rattle.plan_check.proofs.PlacedFaults.{read_there, early_at}
use Rattle.plan_check.proofs.Remains.{remains_by-next, remains_by-found}
use Rattle.plan_check.proofs.order.read_too_early.Goals as goal

pub first_early-requires : goal.first_early-requires
first_early-requires c =
    let p = plan_form c.args.raw.now in
    ap length (read_there p c.args.wiring.now c.args.raw.now.ops c.loop-op.op c.at.result.now refl c.requires.wired (omega arith)
    (c.at.ensures c.at.result.now) c.at-places.result.now (c.at-places.ensures []))
    ∙ length-map c.at.result.now.reads (place (queue_names p))

pub loop-op-preserved : goal.loop-op-preserved
loop-op-preserved c =
    let p = plan_form c.args.raw.now in
    let e = c.at.ensures c.at.result.now in
    remains_by-next op_form (ReadTooEarlyAt (decl_names c.args.raw.now.inputs)) c.args.raw.now.ops c.loop-op.op c.at.result.now (omega arith) e
    (early_at p c.args.wiring.now c.args.raw.now.ops c.loop-op.op c.at.result.now refl c.requires.wired
    (omega arith) e c.at-places.result.now _ _ c.requires.named (c.at-places.ensures []) refl refl None c.in_default.ensures)
    c.loop-op.invariant

pub returns-in-Some : goal.returns-in-Some
returns-in-Some c =
    let p = plan_form c.args.raw.now in
    let e = c.at.ensures c.at.result.now in
    remains_by-found op_form (ReadTooEarlyAt (decl_names c.args.raw.now.inputs)) c.args.raw.now.ops c.loop-op.op c.at.result.now (Queue c.in-Some.name)
    (omega arith) e (
      c.in-Some.name,
      refl,
      early_at p c.args.wiring.now c.args.raw.now.ops c.loop-op.op c.at.result.now refl c.requires.wired
          (omega arith) e c.at-places.result.now _ _ c.requires.named (c.at-places.ensures []) refl refl (Some c.in-Some.name) c.in-Some.ensures,
    )
    c.loop-op.invariant
