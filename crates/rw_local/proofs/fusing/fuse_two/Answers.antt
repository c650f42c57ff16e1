use Rattle.std.proofs.Common.{sym, ap, ◌∙◌, subst}
use Rattle.std.specs.Prelude.{Ok}
use Rattle.river_plan.specs.Forms.{plan_form, op_form}
use Rattle.river_plan.specs.Valid.{IsPlan}
use Rattle.rw_local.proofs.FuseCode.{writes_there, declared_there, few, fused_valid, two_ok}
use Rattle.rw_local.proofs.fusing.fuse_two.Goals as goal

pub is_large-requires : goal.is_large-requires
is_large-requires c = writes_there (plan_form c.args.raw.now) c.args.queue (op_form c.args.writer.now) (op_form c.args.reader.now) c.requires.valid
    c.requires.written c.requires.read

pub fused_lists-requires-clause-there : goal.fused_lists-requires-clause-there
fused_lists-requires-clause-there c =
    declared_there (plan_form c.args.raw.now) c.args.queue (op_form c.args.writer.now) (op_form c.args.reader.now) c.requires.valid
    c.requires.written c.requires.read

pub fused_lists-requires-clause-written : goal.fused_lists-requires-clause-written
fused_lists-requires-clause-written c =
    writes_there (plan_form c.args.raw.now) c.args.queue (op_form c.args.writer.now) (op_form c.args.reader.now) c.requires.valid c.requires.written
    c.requires.read

pub fused_lists-requires-clause-few : goal.fused_lists-requires-clause-few
fused_lists-requires-clause-few c =
    few (plan_form c.args.raw.now) c.args.queue (op_form c.args.writer.now) (op_form c.args.reader.now) c.requires.valid c.requires.written c.requires.read

pub plan_of-requires : goal.plan_of-requires
plan_of-requires c =
    subst IsPlan (sym c.in_ok-lists.ensures)
    (fused_valid (plan_form c.args.raw.now) c.args.queue (op_form c.args.writer.now) (op_form c.args.reader.now) c.requires.valid c.requires.written
    c.requires.read (sym c.len.ensures ∙ c.if-len-ne1.false) (sym c.if-is_large.ensures) (sym c.if-share.ensures))

pub returns : goal.returns
returns c =
    two_ok (plan_form c.args.raw.now) c.args.queue (op_form c.args.writer.now) (op_form c.args.reader.now) (sym c.len.ensures ∙ c.if-len-ne1.false)
    (sym c.if-is_large.ensures) (sym c.if-share.ensures)
    ∙ ap Ok (sym (c.in_ok-plan_of.ensures ∙ c.in_ok-lists.ensures))
