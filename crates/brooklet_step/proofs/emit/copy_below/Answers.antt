use Rattle.std.proofs.Common.{sym, ap, ◌∙◌, ◌≡◌, [], ◌∷◌, arith}
use Rattle.river_base.specs.Places.{each_grew, upto}
use Rattle.river_base.proofs.PlaceLemmas.{each_grew-upto_none, upto_step, upto_length}
use Rattle.brooklet_step.proofs.emit.copy_below.Goals as goal

pub loop-port-init : goal.loop-port-init
loop-port-init c = sym (each_grew-upto_none c.args.outs.now (λ q. c.args.item.now ∷ []))

pub push_item-requires : goal.push_item-requires
push_item-requires c = let e = upto_length _ _ (λ q. c.args.item.now ∷ []) c.loop-port.port c.loop-port.invariant in let r = c.requires in omega (arith, e, r)

pub loop-port-preserved : goal.loop-port-preserved
loop-port-preserved c =
    upto_step _ _ _ (λ q. c.args.item.now ∷ []) c.loop-port.port _ c.loop-port.invariant (ap (λ x. x ∷ []) c.in_ok-copy.ensures) c.in_ok-push_item.ensures

pub returns : goal.returns
returns c =
    let e : c.loop-port.port ≡ c.args.ports = omega arith in c.loop-port.invariant ∙ ap (λ n. each_grew c.args.outs.now (upto n (λ q. c.args.item.now ∷ []))) e
