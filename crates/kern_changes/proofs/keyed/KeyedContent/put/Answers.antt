use Rattle.std.proofs.Common.{map, subst}
use Rattle.std.proofs.lemmas.Result.{on_ok_weaker}
use Rattle.kern_changes.specs.Counted.{CameOne}
use Rattle.kern_changes.specs.Keyed.{turned}
use Rattle.kern_changes.proofs.Turning.{came_turned}
use Rattle.kern_changes.proofs.keyed.KeyedContent.put.Goals as goal

pub returns : goal.returns
returns c =
    let k = c.self.inside.column in
    let row = c.args.row.now in
    let new = c.put.new.self in
    on_ok_weaker c.put.result (λ h.
    subst (λ l. CameOne row l (map (turned k) new)) c.self.view_is
    (came_turned k row c.self.inside.content new (subst (λ x. CameOne x c.self.inside.content new) c.turned.ensures h)))
    c.put.ensures
