use Rattle.std.proofs.Common.{length, ◌<◌, ◌++◌, [], ◌∷◌, ap, sym, ◌∙◌, subst}
use Rattle.std.proofs.lemmas.Result.{IfOk-weaker}
use Rattle.fire_tasks.specs.Ports.{known_of, received_of}
use Rattle.fire_tasks.proofs.PortLemmas.{received_more}
use Rattle.fire_tasks.proofs.ports.pop_at.Goals as goal

pub pop-requires : goal.pop-requires
pop-requires c = subst (λ i. 0 < length (known_of i)) (sym (c.at_mut.ensures.value c.at_mut.result.now)) (c.requires.known c.at_mut.result.now)

pub returns-clause-received : goal.returns-clause-received
returns-clause-received c =
    IfOk-weaker c.pop.result _ _
    (λ x h. received_more c.args.ins.now c.args.port c.pop.new.self (x ∷ []) c.requires.there
    (h ∙ ap (λ i. received_of i ++ x ∷ []) (c.at_mut.ensures.value c.pop.new.self)))
    c.pop.ensures.received
