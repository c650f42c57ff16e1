use Rattle.std.proofs.Common.{refl, ◌∙◌, [], ◌∷◌, ◌+◌, arith}
use Rattle.river_base.proofs.PlaceLemmas.{upto_step, upto_length, each_grew-upto_all}
use Rattle.brooklet_step.proofs.Fires.{on_ok}
use Rattle.brooklet_step.proofs.emit.Emit.give_everywhere.Goals as goal

pub returns-clause-outs : goal.returns-clause-outs
returns-clause-outs c =
    let last = c.saturating_sub-last.result in
    let e = upto_length _ _ (λ q. c.args.item ∷ []) last c.in_ok-copy_below.ensures in
    on_ok _ _ c.give_last.result
    (λ given. upto_step _ _ _ (λ q. c.args.item ∷ []) last _ c.in_ok-copy_below.ensures refl given
    ∙ each_grew-upto_all c.args.self.now.outs (λ q. c.args.item ∷ []) (last + 1) (omega (arith, e)))
    c.give_last.ensures
