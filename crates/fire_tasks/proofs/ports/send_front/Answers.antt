use Rattle.std.proofs.Common.{[], ◌++◌, ◌∷◌, ap, sym, ◌∙◌, refl, subst}
use Rattle.river_base.specs.declared.item.Item.TheVariants.{Flat}
use Rattle.river_base.specs.declared.item.Flat.TheVariants.{One}
use Rattle.fire_tasks.specs.Ports.{sent_of, out_end, HasRoom}
use Rattle.fire_tasks.proofs.PortLemmas.{sent_more, sent_front, outs_set, may_front, left_behind}
use Rattle.fire_tasks.proofs.PassLemmas.{one_sent}
use Rattle.fire_tasks.proofs.ports.send_front.Goals as goal

pub put_row-requires-clause-may : goal.put_row-requires-clause-may
put_row-requires-clause-may c =
    let x = c.at_mut.result.now in
    let f = c.in-Some.ensures.front in
    may_front c.args.outs.now c.args.pending.now c.args.port x f.0 (Flat (One c.in-Some.row.now)) c.requires.may c.requires.outs (c.at_mut.ensures.value x)
    (sym (c.at.ensures []) ∙ f.1)

pub put_row-requires-clause-room : goal.put_row-requires-clause-room
put_row-requires-clause-room c = let x = c.at_mut.result.now in subst HasRoom (sym (c.at_mut.ensures.value x)) (c.requires.room x)

pub returns-in_ok-put_row-in-Some-clause-sent : goal.returns-in_ok-put_row-in-Some-clause-sent
returns-in_ok-put_row-in-Some-clause-sent c =
    let x = c.put_row.new.self in
    let y = Flat (One c.in-Some.row.now) in
    let f = c.in-Some.ensures.front in
    let l = c.drop_front.new.self in
    let was = sym (c.at.ensures []) ∙ f.1 in
    let left = left_behind c.at_mut-in-Some.result.now l f.0 y (c.at_mut-in-Some.ensures.value [] ∙ was) c.drop_front.ensures in
    one_sent c.args.outs.now c.args.pending.now c.args.port x l y c.requires.outs c.requires.pending
    (outs_set c.args.outs.now c.args.port x (c.put_row.ensures.same ∙ ap out_end (c.at_mut.ensures.value x)))
    (sym (c.at.ensures l) ∙ f.1 ∙ ap (λ m. y ∷ m) (sym left))
    (c.in_ok-put_row-in-Some.ensures.ok ∙ ap (λ o. sent_of o ++ y ∷ []) (c.at_mut.ensures.value x))

pub returns-in_ok-put_row-in-Some-clause-one : goal.returns-in_ok-put_row-in-Some-clause-one
returns-in_ok-put_row-in-Some-clause-one c =
    let x = c.put_row.new.self in
    let y = Flat (One c.in-Some.row.now) in
    sent_more c.args.outs.now c.args.port x y c.requires.outs
    (c.in_ok-put_row-in-Some.ensures.ok ∙ ap (λ o. sent_of o ++ y ∷ []) (c.at_mut.ensures.value x))

pub returns-in_ok-put_row-in-Some-clause-front : goal.returns-in_ok-put_row-in-Some-clause-front
returns-in_ok-put_row-in-Some-clause-front c =
    let x = c.put_row.new.self in
    let y = Flat (One c.in-Some.row.now) in
    let f = c.in-Some.ensures.front in
    let l = c.drop_front.new.self in
    let was = sym (c.at.ensures []) ∙ f.1 in
    let left = left_behind c.at_mut-in-Some.result.now l f.0 y (c.at_mut-in-Some.ensures.value [] ∙ was) c.drop_front.ensures in
    record {
      item = y;
      rest = l;
      was = was ∙ ap (λ m. y ∷ m) (sym left);
      left = refl;
      sent = sent_front c.args.outs.now c.args.port x y
          (c.in_ok-put_row-in-Some.ensures.ok ∙ ap (λ o. sent_of o ++ y ∷ []) (c.at_mut.ensures.value x));
    }
