use Rattle.std.proofs.Common.{refl, subst, [], ◌∷◌}
use Rattle.std.proofs.lemmas.Result.{on_ok_weaker}
use Rattle.brooklet_model.specs.Firings.{gives}
use Rattle.brooklet_step.specs.Took.{Took}
use Rattle.brooklet_step.proofs.DealFires.{deal_needs, deal_does}
use Rattle.brooklet_step.proofs.leaf.fire_deal.Goals as goal

pub deal_item-requires-clause-weights : goal.deal_item-requires-clause-weights
deal_item-requires-clause-weights c = (deal_needs c.args.weights.now c.args.item c.args.state.now c.in-Deal.dealt c.args.out.now c.in-Deal.is c.requires).0

pub deal_item-requires-clause-turn : goal.deal_item-requires-clause-turn
deal_item-requires-clause-turn c = (deal_needs c.args.weights.now c.args.item c.args.state.now c.in-Deal.dealt c.args.out.now c.in-Deal.is c.requires).1

pub deal_item-requires-clause-owed : goal.deal_item-requires-clause-owed
deal_item-requires-clause-owed c = (deal_needs c.args.weights.now c.args.item c.args.state.now c.in-Deal.dealt c.args.out.now c.in-Deal.is c.requires).2

pub returns : goal.returns
returns c =
    let needs = deal_needs c.args.weights.now c.args.item c.args.state.now c.in-Deal.dealt c.args.out.now c.in-Deal.is c.requires in
    let one = c.in_ok-port-in-Deal in
    let given = one.given in
    on_ok_weaker c.give.result (λ took.
    deal_does c.args.weights.now c.args.item given c.args.state.now _ c.in-Deal.dealt _ c.args.out.now c.give.new.self c.requires.room c.in-Deal.is refl
    one.ensures.turn.port one.ensures.turn.had (subst (λ p. Took c.args.out.now c.give.new.self (gives p (given ∷ []) [])) one.ensures.port took)
    one.ensures.item needs.0) c.give.ensures
