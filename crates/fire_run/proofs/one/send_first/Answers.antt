use Rattle.std.proofs.Common.{◌≡◌, ◌+◌, List, arith, sym, ap, ◌∙◌, subst}
use Rattle.std.specs.Prelude.{slice_index_or}
use Rattle.fire_tasks.specs.Outlet.{Outlet}
use Rattle.fire_tasks.specs.declared.task.Task.{Task}
use Rattle.fire_tasks.specs.Ports.{HasRoom, OutEnd, in_ends, received_count, sent_count}
use Rattle.fire_tasks.specs.Tasks.{HasWord, IsTask, TaskEnds, ends_of, moves}
use Rattle.fire_tasks.proofs.PassLemmas.{sent_task, sent_word}
use Rattle.fire_run.proofs.one.send_first.Goals as goal

pub returns-clause-task : goal.returns-clause-task
returns-clause-task c = λ p adds k.
    let e = c.send_at.new.self in
    subst (IsTask p adds) (sym c.send_at.ensures.rest)
    (sent_task p adds c.args.task.now e.outs e.pending c.in_ok-send_at.field-0 k c.in_ok-send_at.ensures.sent.sent)

pub returns-clause-same : goal.returns-clause-same
returns-clause-same c =
    let t = c.args.task.now in
    let same : ends_of c.send_at.new.self ≡ ends_of (record t { outs = c.send_at.new.self.outs; pending = c.send_at.new.self.pending })
    = ap ends_of c.send_at.ensures.rest in
    same ∙ ap (λ (o : List OutEnd). let e : TaskEnds = record { op = t.op; ins = in_ends t.ins; outs = o } in e) c.in_ok-send_at.ensures.sent.sent.ends

pub returns-clause-one : goal.returns-clause-one
returns-clause-one c =
    let t = c.args.task.now in
    let u = c.send_at.new.self in
    let room : (d : Outlet) → HasRoom (slice_index_or t.outs c.args.port d) = λ d. c.requires.room.each c.args.port d c.requires.some in
    let e = c.in_ok-send_at.ensures in
    let is : moves u ≡ received_count t.ins + sent_count u.outs = ap moves c.send_at.ensures.rest in
    let one = e.one (e.goes c.requires.some room) in
    omega (arith, is, one)

pub returns-clause-sends : goal.returns-clause-sends
returns-clause-sends c =
    let t = c.args.task.now in
    let u = c.send_at.new.self in
    let room : (d : Outlet) → HasRoom (slice_index_or t.outs c.args.port d) = λ d. c.requires.room.each c.args.port d c.requires.some in
    let e = c.in_ok-send_at.ensures in
    record {
      port = c.args.port;
      there = c.requires.there;
      room = room;
      front = e.front (e.goes c.requires.some room);
      stays = c.send_at.ensures.rest;
      word = λ p adds k. subst (λ (x : Task). HasWord p adds x k.word) (sym c.send_at.ensures.rest) (record {
        task = sent_task p adds t u.outs u.pending c.in_ok-send_at.field-0 k e.sent.sent;
        word = sent_word p adds t u.outs u.pending c.in_ok-send_at.field-0 k e.sent.sent;
      });
    }
