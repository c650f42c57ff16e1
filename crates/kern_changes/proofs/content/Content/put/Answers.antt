use Rattle.std.proofs.Common.{ap, ◌∙◌, sym, subst}
use Rattle.river_base.specs.Row.{copies}
use Rattle.kern_changes.specs.Counted.{rows_counted, CameOne}
use Rattle.kern_changes.proofs.Counted.{put_one}
use Rattle.kern_changes.proofs.content.Content.put.Goals as goal

pub returns : goal.returns
returns c =
    let es = c.self.inside.counts.entries in
    let k = c.args.row.now in
    subst (λ l. CameOne k l (rows_counted c.insert.new.self.entries)) c.self.view_is
    (subst (λ l. CameOne k (rows_counted es) (rows_counted l)) (sym c.in_ok-insert.ensures.entries)
    (put_one k es c.count-count.result c.insert.ensures.was_ordered (c.count-count.ensures ∙ ap (copies k) (sym c.self.view_is))))
