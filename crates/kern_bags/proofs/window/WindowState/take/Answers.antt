use Rattle.std.proofs.Common.{◌≡◌, Some, w64, to_z, of_z, ap, ◌∙◌, subst, rules}
use Rattle.std.proofs.lemmas.Result.{IfOk-weaker}
use Rattle.kern_bags.specs.Kept.{inserted, still_in, now_after}
use Rattle.river_base.specs.Changes.{cancelled}
use Rattle.kern_bags.specs.Following.{LetGo, Windows, WindowFits}
use Rattle.kern_bags.proofs.Sliding.{slides, slide_fits}
use Rattle.kern_bags.proofs.window.WindowState.take.Goals as goal

pub returns-clause-contents : goal.returns-clause-contents
returns-clause-contents c =
    let at : to_z w64 (of_z w64 c.args.batch.at) ≡ c.args.batch.at = search rules in
    let w = c.args.window.now in
    let b = c.args.batch in
    let old = c.args.self.now in
    let new = c.renew.new.self in
    let gone = c.renew.new.gone in
    IfOk-weaker c.settle.result (λ change. change ≡ cancelled (to_z w64 (of_z w64 b.at)) b.rows gone) (λ change. Windows w b old new change)
    (λ change e. slides w b old new gone change
    (c.in_ok-renew.ensures.now ∙ ap (λ t. Some (now_after old.now t)) at)
    (c.in_ok-renew.ensures.kept ∙ ap (λ t. still_in w (now_after old.now t) (inserted t b.rows old.rows)) at)
    (subst (λ l. LetGo (inserted b.at b.rows old.rows) new.rows l gone) c.new-gone.ensures
    (subst (λ t. LetGo (inserted t b.rows old.rows) new.rows c.new-gone.result gone) at c.in_ok-renew.ensures.gone))
    (e ∙ ap (λ t. cancelled t b.rows gone) at)) c.settle.ensures

pub returns-clause-fits : goal.returns-clause-fits
returns-clause-fits c =
    let at : to_z w64 (of_z w64 c.args.batch.at) ≡ c.args.batch.at = search rules in
    let b = c.args.batch in
    let old = c.args.self.now in
    let new = c.renew.new.self in
    let gone = c.renew.new.gone in
    IfOk-weaker c.settle.result (λ change. change ≡ cancelled (to_z w64 (of_z w64 b.at)) b.rows gone) (λ change. WindowFits b old new change)
    (λ change e. slide_fits b old new gone change
    (subst (λ l. LetGo (inserted b.at b.rows old.rows) new.rows l gone) c.new-gone.ensures
    (subst (λ t. LetGo (inserted t b.rows old.rows) new.rows c.new-gone.result gone) at c.in_ok-renew.ensures.gone))
    (e ∙ ap (λ t. cancelled t b.rows gone) at)) c.settle.ensures
