use Rattle.std.proofs.Common.{[], ◌∷◌, sym, ◌∙◌}
use Rattle.std.proofs.lemmas.Result.{on_ok_weaker}
use Rattle.river_plan.specs.Forms.{op_form, op_forms}
use Rattle.river_plan.proofs.NameLemmas.{nat_zero, not_false}
use Rattle.rw_local.specs.Fuse.{fused_op}
use Rattle.rw_local.proofs.HoistCode.{pushed, for_writer, for_reader, for_other}
use Rattle.rw_local.proofs.ops.add.Goals as goal

pub returns-then-is_writer : goal.returns-then-is_writer
returns-then-is_writer c =
    let two = fused_op c.args.queue (op_form c.args.writer.now) (op_form c.args.reader.now) in
    on_ok_weaker c.push.result
    (λ e. for_writer c.args.queue (two ∷ []) (op_form c.args.op.now) (op_forms c.args.all.now) _ (c.contains-is_writer.ensures.0 c.if-is_writer.true)
    (pushed c.args.all.now c.push.new.self c.in_ok-whole.field-0 two e c.in_ok-whole.ensures))
    c.push.ensures.ok

pub returns-then-is_reader : goal.returns-then-is_reader
returns-then-is_reader c =
    let two = fused_op c.args.queue (op_form c.args.writer.now) (op_form c.args.reader.now) in
    for_reader c.args.queue (two ∷ []) (op_form c.args.op.now) (op_forms c.args.all.now)
    (nat_zero (λ lt. not_false (sym c.if-is_writer.false ∙ c.contains-is_writer.ensures.1 lt))) (c.contains-is_reader.ensures.0 c.if-is_reader.true)

pub returns : goal.returns
returns c =
    let two = fused_op c.args.queue (op_form c.args.writer.now) (op_form c.args.reader.now) in
    on_ok_weaker c.push-2.result
    (λ e. for_other c.args.queue (two ∷ []) (op_form c.args.op.now) (op_forms c.args.all.now) _
    (nat_zero (λ lt. not_false (sym c.if-is_writer.false ∙ c.contains-is_writer.ensures.1 lt)))
    (nat_zero (λ lt. not_false (sym c.if-is_reader.false ∙ c.contains-is_reader.ensures.1 lt)))
    (pushed c.args.all.now c.push-2.new.self c.in_ok-copy.field-0 (op_form c.args.op.now) e c.in_ok-copy.ensures))
    c.push-2.ensures.ok
