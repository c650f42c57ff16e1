use Rattle.kern_rows.proofs.JoinLaws.{item_alone}
use Rattle.kern_rows.proofs.joining.join_alone.Goals as goal

pub returns-clause-ok : goal.returns-clause-ok
returns-clause-ok c =
    item_alone c.args.place c.args.flat c.in_ok-given.given c.args.owed.now c.join_flat.new.owed c.args.out.now c.push.new.self
    c.in_ok-given.ensures c.in_ok-push.ensures.ok
