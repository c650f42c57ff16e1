use Rattle.std.proofs.Common.{◌+◌, ◌<◌, ◌++◌, ◌∷◌, [], ap, sym, subst, ◌∙◌, rules, w64}
use mir.Val.{SFits}
use Rattle.std.proofs.lemmas.Int.{to_z-of_z}
use Rattle.brooklet_model.specs.ByIndex.{collected_at, found_front}
use Rattle.slow_streamit.proofs.Rounds.{CollectedSoFar, collected_more, collected_none}
use Rattle.slow_streamit.proofs.round.collected.Goals as goal

pub returns-in-None : goal.returns-in-None
returns-in-None c =
    let ws = c.args.weights.now in
    let ls = c.args.branches.now in
    let lt : c.loop-x.x < c.in_ok-size.size = search rules in
    collected_none ws ls c.in_ok-size.size c.loop-x.x c.loop-x.out lt (sym (c.in_ok-item.ensures {u = tt}) ∙ c.in-None.is) c.loop-x.invariant
    ∙ ap (λ n. found_front (collected_at ws ls) n 0) (c.in_ok-size.ensures {u = tt})

pub loop-x-preserved : goal.loop-x-preserved
loop-x-preserved c =
    let ws = c.args.weights.now in
    let ls = c.args.branches.now in
    let lt : c.loop-x.x < c.in_ok-size.size = search rules in
    let y = c.in-Some.item in
    let fits : SFits w64 y = search rules in
    subst (CollectedSoFar ws ls c.in_ok-size.size (c.loop-x.x + 1))
    (sym (c.in_ok-push-in-Some.ensures.ok ∙ ap (λ z. c.loop-x.out ++ z ∷ []) (to_z-of_z w64 y fits)))
    (collected_more ws ls c.in_ok-size.size c.loop-x.x c.loop-x.out c.in-Some.item lt (sym (c.in_ok-item.ensures {u = tt}) ∙ c.in-Some.is) c.loop-x.invariant)
