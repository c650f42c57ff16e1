use Rattle.std.proofs.Common.{refl, get_or}
use Rattle.std.proofs.lemmas.Result.{on_ok_weaker}
use Rattle.river_base.specs.declared.item.Item.TheVariants as variant
use Rattle.river_base.specs.declared.item.Flat.TheVariants as flat
use Rattle.kern_rows.specs.Forms.{code_form}
use Rattle.brooklet_step.proofs.Leaves.{code_can, pushes_kept}
use Rattle.brooklet_step.proofs.leaf.push_all.Goals as goal

pub push_once-requires-clause-formed : goal.push_once-requires-clause-formed
push_once-requires-clause-formed c = code_can (code_form c.args.kernel.now) 0 (variant.Flat (flat.One c.args.row.now)) c.args.states.now c.requires.takes

pub push_kept-requires-clause-formed : goal.push_kept-requires-clause-formed
push_kept-requires-clause-formed c = code_can (code_form c.args.kernel.now) 0 (variant.Flat (flat.One c.args.row.now)) c.args.states.now c.requires.takes

pub returns-else-is_empty : goal.returns-else-is_empty
returns-else-is_empty c =
    let s = get_or c.args.states.now 0 c.index-states-0.result in
    on_ok_weaker c.push_kept.result
    (λ ran. pushes_kept (code_form c.args.kernel.now) (variant.Flat (flat.One c.args.row.now)) c.args.states.now c.index-states-0.result s c.push_kept.new.state
    c.args.row.now c.push_kept.new.pushes c.requires.takes c.if-is_empty.ensures refl refl ran)
    c.push_kept.ensures
