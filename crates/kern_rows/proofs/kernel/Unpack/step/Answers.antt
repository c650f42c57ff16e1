use Rattle.std.proofs.Common.{sym, subst}
use Rattle.river_base.specs.declared.item.Item.TheVariants.{Pack}
use Rattle.river_base.proofs.PlaceLemmas.{on_err}
use Rattle.kern_rows.specs.Joined.{HasJoinShape, put_item}
use Rattle.kern_rows.specs.Turns.{ones}
use Rattle.kern_rows.proofs.JoinLaws.{put_shape, part_none}
use Rattle.kern_rows.proofs.kernel.Unpack.step.Goals as goal

pub open_all-requires-clause-shape : goal.open_all-requires-clause-shape
open_all-requires-clause-shape c =
    subst (HasJoinShape (ones c.args.ports)) (sym c.in_ok-put.ensures)
    (put_shape (ones c.args.ports) c.args.port (Pack c.args.pack) c.args.state.now c.requires.shape)

pub returns-in_err-put-clause-err : goal.returns-in_err-put-clause-err
returns-in_err-put-clause-err c =
    on_err c.from_residual.result (part_none (ones c.args.ports) (put_item c.args.port (Pack c.args.pack) c.args.state.now) c.args.out.now)
