use Rattle.std.proofs.Common.{map, subst}
use Rattle.std.proofs.lemmas.Result.{on_ok_weaker}
use Rattle.kern_changes.specs.Counted.{WentOne}
use Rattle.kern_changes.specs.Keyed.{turned}
use Rattle.kern_changes.proofs.Turning.{went_turned}
use Rattle.kern_changes.proofs.keyed.KeyedContent.take.Goals as goal

pub returns : goal.returns
returns c =
    let k = c.self.inside.column in
    let row = c.args.row.now in
    let new = c.take.new.self in
    on_ok_weaker c.take.result (λ h.
    subst (λ l. WentOne row l (map (turned k) new)) c.self.view_is
    (went_turned k row c.self.inside.content new (subst (λ x. WentOne x c.self.inside.content new) c.turned.ensures h)))
    c.take.ensures
