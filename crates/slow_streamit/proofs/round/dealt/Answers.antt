use Rattle.std.proofs.Common.{◌≡◌, ◌+◌, ◌<◌, pos, ◌∷◌, [], ◌++◌, length, get_or, ap, sym, subst, ◌∙◌, rules, w64}
use mir.Val.{SFits}
use Rattle.std.proofs.lemmas.Int.{to_z-of_z}
use Rattle.std.proofs.lemmas.List.{get_or_default}
use Rattle.slow_streamit.proofs.Rounds.{DealtSoFar, dealt_this, dealt_other}
use Rattle.slow_streamit.proofs.round.dealt.Goals.{then-is_dealt+in_ok-push, else-is_dealt}
use Rattle.slow_streamit.proofs.round.dealt.Goals as goal

pub loop-x-preserved : goal.loop-x-preserved
loop-x-preserved c =
    let ws = c.args.weights.now in
    let p = c.args.branch in
    let xs = c.args.items.now in
    let x = c.loop-x.x in
    let lt : x < length xs = search rules in
    let y = get_or xs x (pos 0) in
    elim c.if-is_dealt.branch [
      | then-is_dealt+in_ok-push w ↦
          let fits : SFits w64 y = search rules in
          let e : c.if-is_dealt.out ≡ c.loop-x.out ++ y ∷ [] = w.out-is ∙ w.in_ok-push.ensures.ok ∙ ap (λ z. c.loop-x.out ++ z ∷ []) (to_z-of_z w64 y fits) in
          subst (DealtSoFar ws p xs (x + 1)) (sym e)
          (dealt_this ws p xs x c.loop-x.out y lt (get_or_default xs x (pos 0) y lt) (sym c.is_dealt.ensures ∙ w.if-is_dealt.true) c.loop-x.invariant)
      | else-is_dealt w ↦
          subst (DealtSoFar ws p xs (x + 1)) (sym w.out-is)
          (dealt_other ws p xs x c.loop-x.out y lt (get_or_default xs x (pos 0) y lt) (sym c.is_dealt.ensures ∙ w.if-is_dealt.false) c.loop-x.invariant)
    ]
