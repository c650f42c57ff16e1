use Rattle.std.proofs.Common.{◌<◌, ◌∷◌, [], length, refl, ap, ◌∙◌}
use Rattle.river_base.proofs.PlaceLemmas.{append_at_by}
use Rattle.kern_rows.specs.Turns.{put}
use Rattle.kern_rows.proofs.joined.Joined.put.Goals as goal

pub returns : goal.returns
returns c =
    let lists = c.self.inside.lines.items in
    let lt : c.args.port < length lists = rw (ap (λ s. length s.lists) c.self.view_is) c.requires in
    ap (λ ls. record { port = c.self.inside.port; had = c.self.inside.had; lists = ls })
    (append_at_by lists lists c.args.port c.index_mut-line.result.now
    (c.args.item ∷ []) c.push.new.self refl lt c.index_mut-line.ensures.value c.in_ok-push.ensures.ok)
    ∙ ap (put c.args.port c.args.item) c.self.view_is
