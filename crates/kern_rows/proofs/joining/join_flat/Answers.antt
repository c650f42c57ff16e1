use Rattle.std.proofs.Common.{sym, subst}
use Rattle.river_base.specs.declared.item.Flat.TheVariants.{One, Batch as Batched, Change as Changed}
use Rattle.kern_rows.specs.Joined.{JoinsFlat}
use Rattle.kern_rows.proofs.JoinLaws.{row_passes, batch_passes, change_passes}
use Rattle.kern_rows.proofs.joining.join_flat.Goals as goal

pub returns-in-One : goal.returns-in-One
returns-in-One c =
    subst (λ f. JoinsFlat c.args.place f c.args.owed.now c.args.owed.now (One c.in-One.row)) (sym c.in-One.is)
    (row_passes c.args.place c.in-One.row c.args.owed.now)

pub returns-in-Batch : goal.returns-in-Batch
returns-in-Batch c =
    subst (λ f. JoinsFlat c.args.place f c.args.owed.now c.args.owed.now (Batched c.in-Batch.batch)) (sym c.in-Batch.is)
    (batch_passes c.args.place c.in-Batch.batch c.args.owed.now)

pub returns-in_ok-join-in-Change : goal.returns-in_ok-join-in-Change
returns-in_ok-join-in-Change c =
    subst (λ f. JoinsFlat c.args.place f c.args.owed.now c.join.new.self (Changed c.in_ok-join-in-Change.field-0)) (sym c.in-Change.is)
    (change_passes c.args.place c.in-Change.change c.in_ok-join-in-Change.field-0 c.args.owed.now c.join.new.self c.in_ok-join-in-Change.ensures.contents
    c.in_ok-join-in-Change.ensures.keeps)
