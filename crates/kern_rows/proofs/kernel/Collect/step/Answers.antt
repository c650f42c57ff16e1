use Rattle.std.proofs.Common.{sym, subst}
use Rattle.river_base.proofs.PlaceLemmas.{on_err}
use Rattle.kern_rows.specs.Joined.{HasJoinShape, put_item}
use Rattle.kern_rows.specs.Turns.{shares}
use Rattle.kern_rows.proofs.JoinLaws.{put_shape, part_none}
use Rattle.kern_rows.proofs.kernel.Collect.step.Goals as goal

pub pass_all-requires-clause-shape : goal.pass_all-requires-clause-shape
pass_all-requires-clause-shape c =
    subst (HasJoinShape (shares c.args.weights.now)) (sym c.in_ok-put.ensures)
    (put_shape (shares c.args.weights.now) c.args.port c.args.item c.args.state.now c.requires.shape)

pub returns-in_err-put-clause-err : goal.returns-in_err-put-clause-err
returns-in_err-put-clause-err c =
    on_err c.from_residual.result (part_none (shares c.args.weights.now) (put_item c.args.port c.args.item c.args.state.now) c.args.out.now)
