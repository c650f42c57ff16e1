use Rattle.river_base.specs.declared.item.Item.TheVariants as variant
use Rattle.river_base.specs.declared.item.Flat.TheVariants as flat
use Rattle.kern_rows.specs.Forms.{code_form}
use Rattle.brooklet_step.proofs.Fires.{on_both}
use Rattle.brooklet_step.proofs.Leaves.{code_below, code_fires}
use Rattle.brooklet_step.proofs.leaf.run_row.Goals as goal

pub give_pushes-requires : goal.give_pushes-requires
give_pushes-requires c =
    code_below (code_form c.args.kernel.now) (variant.Flat (flat.One c.args.row.now)) c.args.states.now c.push_all.new.states c.args.out.now c.push_all.new.pushes c.requires
    c.in_ok-push_all.ensures

pub returns : goal.returns
returns c =
    on_both _ _ _ c.give_pushes.result
    (λ o a. code_fires (code_form c.args.kernel.now) (variant.Flat (flat.One c.args.row.now)) c.args.states.now c.push_all.new.states c.args.out.now c.give_pushes.new.self
    c.push_all.new.pushes c.in_ok-push_all.ensures o a)
    c.give_pushes.ensures.outs c.give_pushes.ensures.adds
