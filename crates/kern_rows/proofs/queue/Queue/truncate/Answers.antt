use Rattle.std.proofs.Common.{take, drop, ap, ◌∙◌}
use Rattle.std.proofs.lemmas.List.{drop-take}
use Rattle.kern_rows.proofs.queue.Queue.truncate.Goals as goal

pub returns : goal.returns
returns c =
    let q = c.self.inside in
    ap (drop q.taken) c.truncate.ensures.items ∙ drop-take q.taken c.args.count q.items.items ∙ ap (take c.args.count) c.self.view_is
