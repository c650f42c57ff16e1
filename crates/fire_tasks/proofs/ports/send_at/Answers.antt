use Rattle.std.proofs.Common.{List, [], ◌∷◌, ◌++◌, ap, sym, ◌∙◌, ◌+◌}
use Rattle.std.proofs.lemmas.List.{nil_from_length}
use Rattle.river_base.specs.declared.item.Item as item
use Rattle.river_base.specs.Places.{append_at, list_at}
use Rattle.fire_tasks.proofs.PassLemmas.{idle_sent, full_sent, looked_sent, may_still}
use Rattle.fire_tasks.proofs.PortLemmas.{sent_count_same}
use Rattle.fire_tasks.proofs.ports.send_at.Goals as goal

pub send_front-requires-clause-may : goal.send_front-requires-clause-may
send_front-requires-clause-may c =
    may_still c.args.outs.now c.args.pending.now c.has_room_at.new.outs c.args.pending.now c.has_room_at.ensures.same
    (λ j. ap (λ (x : List (List item.Item)). list_at x j ++ list_at c.args.pending.now j) c.has_room_at.ensures.sent) c.requires.may

pub returns-then-is_empty-clause-sent : goal.returns-then-is_empty-clause-sent
returns-then-is_empty-clause-sent c =
    idle_sent c.args.outs.now c.args.pending.now c.args.port (sym (c.at.ensures []) ∙ nil_from_length c.at.result.now (c.is_empty.ensures.0 c.if-is_empty.true))

pub returns-then-not-has_room_at-clause-sent : goal.returns-then-not-has_room_at-clause-sent
returns-then-not-has_room_at-clause-sent c =
    full_sent c.args.outs.now c.has_room_at.new.outs c.args.pending.now c.args.port c.has_room_at.ensures.same c.has_room_at.ensures.sent
    c.has_room_at.ensures.others (c.has_room_at.ensures.no c.if-not-has_room_at.true)

pub returns-clause-sent : goal.returns-clause-sent
returns-clause-sent c =
    looked_sent c.args.outs.now c.has_room_at.new.outs c.send_front.new.outs c.args.pending.now c.send_front.new.pending c.args.port
    c.has_room_at.ensures.same c.has_room_at.ensures.sent c.has_room_at.ensures.others c.in_ok-send_front.ensures.sent

pub returns-clause-one : goal.returns-clause-one
returns-clause-one c =
    λ m. c.in_ok-send_front.ensures.one
    ∙ ap (λ n. n + 1) (sent_count_same c.has_room_at.new.outs c.args.outs.now c.has_room_at.ensures.sent)

pub returns-clause-front : goal.returns-clause-front
returns-clause-front c =
    λ m.
    let f = c.in_ok-send_front.ensures.front in
    record {
      item = f.item;
      rest = f.rest;
      was = f.was;
      left = f.left;
      sent = f.sent ∙ ap (λ ls. append_at ls c.args.port (f.item ∷ [])) c.has_room_at.ensures.sent;
    }
