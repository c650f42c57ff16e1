use Rattle.std.proofs.Common.{sym, subst}
use Rattle.std.proofs.lemmas.Result.{on_ok_weaker, on_err_weaker}
use Rattle.river_base.specs.declared.item.Item.TheVariants.{Flat}
use Rattle.kern_rows.specs.Joined.{JoinsItem, JoinsItemPart}
use Rattle.kern_rows.proofs.JoinLaws.{item_pack, item_part, item_none}
use Rattle.kern_rows.proofs.joining.join_item.Goals as goal

pub returns-in-Flat-clause-err : goal.returns-in-Flat-clause-err
returns-in-Flat-clause-err c =
    on_err_weaker c.join_alone.result (λ e. subst (λ x. JoinsItemPart c.args.place x c.args.owed.now c.args.out.now c.join_alone.new.out) (sym c.in-Flat.is)
    (item_none c.args.place (Flat c.in-Flat.flat) c.args.owed.now c.args.out.now c.join_alone.new.out e)) c.join_alone.ensures.err

pub returns-in-Pack-clause-ok : goal.returns-in-Pack-clause-ok
returns-in-Pack-clause-ok c =
    on_ok_weaker c.join_pack.result
    (λ j. subst (λ x. JoinsItem c.args.place x c.args.owed.now c.join_pack.new.owed c.args.out.now c.join_pack.new.out) (sym c.in-Pack.is)
    (item_pack c.args.place c.in-Pack.pack c.args.owed.now c.join_pack.new.owed c.args.out.now c.join_pack.new.out j)) c.join_pack.ensures.ok

pub returns-in-Pack-clause-err : goal.returns-in-Pack-clause-err
returns-in-Pack-clause-err c =
    on_err_weaker c.join_pack.result (λ j. subst (λ x. JoinsItemPart c.args.place x c.args.owed.now c.args.out.now c.join_pack.new.out) (sym c.in-Pack.is)
    (item_part c.args.place c.in-Pack.pack c.args.owed.now c.args.out.now c.join_pack.new.out j)) c.join_pack.ensures.err
