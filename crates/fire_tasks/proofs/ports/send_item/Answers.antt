use Rattle.std.proofs.Common.{[], ◌++◌, ◌∷◌, ap, sym, ◌∙◌, refl, subst}
use Rattle.std.proofs.lemmas.Result.{on_ok_weaker}
use Rattle.fire_tasks.specs.Ports.{sent_of, out_end, HasRoom}
use Rattle.fire_tasks.proofs.PortLemmas.{sent_more, sent_front, outs_set, may_front}
use Rattle.fire_tasks.proofs.PassLemmas.{one_sent}
use Rattle.fire_tasks.proofs.ports.send_item.Goals as goal

pub put-requires-clause-may : goal.put-requires-clause-may
put-requires-clause-may c =
    let x = c.at_mut-in-Some.result.now in
    may_front c.args.outs.now c.args.pending.now c.args.port x c.pop.new.self c.in-Some.item c.requires.may c.requires.outs (c.at_mut-in-Some.ensures.value x)
    (sym (c.at_mut.ensures.value []) ∙ c.in-Some.ensures)

pub put-requires-clause-room : goal.put-requires-clause-room
put-requires-clause-room c = let x = c.at_mut-in-Some.result.now in subst HasRoom (sym (c.at_mut-in-Some.ensures.value x)) (c.requires.room x)

pub returns-clause-sent : goal.returns-clause-sent
returns-clause-sent c =
    let x = c.put.new.self in
    on_ok_weaker c.put.result
    (λ s. one_sent c.args.outs.now c.args.pending.now c.args.port x c.pop.new.self c.in-Some.item c.requires.outs c.requires.pending
    (outs_set c.args.outs.now c.args.port x (c.put.ensures.same ∙ ap out_end (c.at_mut-in-Some.ensures.value x)))
    (sym (c.at_mut.ensures.value c.pop.new.self) ∙ c.in-Some.ensures)
    (s ∙ ap (λ o. sent_of o ++ c.in-Some.item ∷ []) (c.at_mut-in-Some.ensures.value x)))
    c.put.ensures.ok

pub returns-clause-one : goal.returns-clause-one
returns-clause-one c =
    let x = c.put.new.self in
    on_ok_weaker c.put.result
    (λ s. sent_more c.args.outs.now c.args.port x c.in-Some.item c.requires.outs
    (s ∙ ap (λ o. sent_of o ++ c.in-Some.item ∷ []) (c.at_mut-in-Some.ensures.value x)))
    c.put.ensures.ok

pub returns-clause-front : goal.returns-clause-front
returns-clause-front c =
    let x = c.put.new.self in
    on_ok_weaker c.put.result
    (λ s. record {
      item = c.in-Some.item;
      rest = c.pop.new.self;
      was = sym (c.at_mut.ensures.value []) ∙ c.in-Some.ensures;
      left = refl;
      sent = sent_front c.args.outs.now c.args.port x c.in-Some.item (s ∙ ap (λ o. sent_of o ++ c.in-Some.item ∷ []) (c.at_mut-in-Some.ensures.value x));
    })
    c.put.ensures.ok
