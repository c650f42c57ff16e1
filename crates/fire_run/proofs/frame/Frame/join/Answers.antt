use Rattle.std.proofs.Common.{◌≡◌, false, length, map, sym, subst, ap, ◌∙◌}
use Rattle.class_locks.specs.Seats.{HasAll, LogsHaveGrown}
use Rattle.class_locks.specs.declared.view.View.{View}
use Rattle.fire_open.specs.Links.{ShareNoEnd, AreMet, ArePaired}
use Rattle.fire_open.specs.TaskCores.{task_core}
use Rattle.fire_run.specs.declared.net.Net.{Net}
use Rattle.fire_run.specs.Frames.{Framed}
use Rattle.fire_run.specs.Shares.{AreAtRest, merged_view, put_bundles}
use Rattle.fire_run.proofs.JoinNet.{all_within, as_many, at_rest, has_all, joined_logs, net_apart, net_ends, net_moves, net_paired, net_stays, net_tasks, one_round}
use Rattle.fire_run.proofs.frame.Frame.join.Goals as goal

pub gather-requires : goal.gather-requires
gather-requires c =
    all_within c.requires.0 c.args.self c.args.bundles.items c.requires.1 (length c.self.inside.tasks)
    (c.self.invariant.0 ∙ ap (λ (f : Framed). length f.net.tasks) c.self.view_is)

pub one_seat-seat-requires : goal.one_seat-seat-requires
one_seat-seat-requires c = subst AreAtRest (sym c.gather.ensures.seats) (at_rest c.args.self c.args.bundles.items c.requires.1.seated)

pub close-requires-clause-all : goal.close-requires-clause-all
close-requires-clause-all c =
    subst HasAll (sym (c.one_seat-seat.ensures ∙ ap merged_view c.gather.ensures.seats)) (has_all c.args.self c.args.bundles.items c.requires.1.seated)

pub close-requires-clause-rests : goal.close-requires-clause-rests
close-requires-clause-rests c =
    ap (λ (v : View). v.held) (c.one_seat-seat.ensures ∙ ap merged_view c.gather.ensures.seats)
    ∙ (one_round c.args.self c.args.bundles.items c.requires.1.seated).rests

pub close-requires-clause-as_many : goal.close-requires-clause-as_many
close-requires-clause-as_many c =
    as_many c.args.self c.args.bundles.items c.requires.1.seated (length c.self.inside.cells)
    (c.self.invariant.2 ∙ ap (λ (f : Framed). length f.net.cells) c.self.view_is)
    ∙ sym (ap (λ (v : View). length v.starts) (c.one_seat-seat.ensures ∙ ap merged_view c.gather.ensures.seats))

pub settle_all-requires-clause-paired : goal.settle_all-requires-clause-paired
settle_all-requires-clause-paired c =
    let f = c.args.self in
    let bs = c.args.bundles.items in
    let ts0 = c.self.inside.tasks in
    let long : length ts0 ≡ length f.net.tasks = c.self.invariant.0 ∙ ap (λ (g : Framed). length g.net.tasks) c.self.view_is in
    let links : c.self.inside.links ≡ f.net.links = c.self.invariant.1 ∙ ap (λ (g : Framed). g.net.links) c.self.view_is in
    let grown = subst (λ v. LogsHaveGrown v c.close.new.cells) (c.one_seat-seat.ensures ∙ ap merged_view c.gather.ensures.seats) c.close.ensures in
    subst (λ ts. ArePaired ts c.self.inside.links) (sym c.gather.ensures.tasks)
    (subst (ArePaired (put_bundles bs ts0)) (sym links)
    (net_paired c.requires.0 f bs c.requires.1 ts0 c.gather.new.tasks c.close.new.cells long (ap (map task_core) c.gather.ensures.tasks) grown))

pub settle_all-requires-clause-apart : goal.settle_all-requires-clause-apart
settle_all-requires-clause-apart c =
    let f = c.args.self in
    let bs = c.args.bundles.items in
    let ts0 = c.self.inside.tasks in
    let long : length ts0 ≡ length f.net.tasks = c.self.invariant.0 ∙ ap (λ (g : Framed). length g.net.tasks) c.self.view_is in
    let links : c.self.inside.links ≡ f.net.links = c.self.invariant.1 ∙ ap (λ (g : Framed). g.net.links) c.self.view_is in
    subst ShareNoEnd (sym links)
    (net_apart c.requires.0 f bs c.requires.1 ts0 c.gather.new.tasks c.close.new.cells long (ap (map task_core) c.gather.ensures.tasks))

pub returns-clause-stays : goal.returns-clause-stays
returns-clause-stays c = λ p h.
    let f = c.args.self in
    let bs = c.args.bundles.items in
    let ts0 = c.self.inside.tasks in
    let long : length ts0 ≡ length f.net.tasks = c.self.invariant.0 ∙ ap (λ (g : Framed). length g.net.tasks) c.self.view_is in
    let links : c.self.inside.links ≡ f.net.links = c.self.invariant.1 ∙ ap (λ (g : Framed). g.net.links) c.self.view_is in
    let grown = subst (λ v. LogsHaveGrown v c.close.new.cells) (c.one_seat-seat.ensures ∙ ap merged_view c.gather.ensures.seats) c.close.ensures in
    let met = subst (λ l. AreMet c.settle_all.new.tasks l (length l)) links c.settle_all.ensures.met in
    let net : Net = record { tasks = c.settle_all.new.tasks; links = c.self.inside.links; cells = c.close.new.cells; refused = false } in
    let is = ap (λ l. record net { links = l }) links in
    net_stays p f bs h ts0 c.settle_all.new.tasks c.close.new.cells long (c.settle_all.ensures.task_core ∙ ap (map task_core) c.gather.ensures.tasks) net is grown met

pub returns-clause-ends : goal.returns-clause-ends
returns-clause-ends c =
    net_ends c.requires.0 c.args.self c.args.bundles.items c.requires.1 c.self.inside.tasks c.settle_all.new.tasks c.close.new.cells
    (c.self.invariant.0 ∙ ap (λ (g : Framed). length g.net.tasks) c.self.view_is) (c.settle_all.ensures.task_core ∙ ap (map task_core) c.gather.ensures.tasks)

pub returns-clause-tasks : goal.returns-clause-tasks
returns-clause-tasks c =
    net_tasks c.requires.0 c.args.self c.args.bundles.items c.requires.1 c.self.inside.tasks c.settle_all.new.tasks c.close.new.cells
    (c.self.invariant.0 ∙ ap (λ (g : Framed). length g.net.tasks) c.self.view_is) (c.settle_all.ensures.task_core ∙ ap (map task_core) c.gather.ensures.tasks)

pub returns-clause-moves : goal.returns-clause-moves
returns-clause-moves c =
    net_moves c.requires.0 c.args.self c.args.bundles.items c.requires.1 c.self.inside.tasks c.settle_all.new.tasks c.close.new.cells
    (c.self.invariant.0 ∙ ap (λ (g : Framed). length g.net.tasks) c.self.view_is) (c.settle_all.ensures.task_core ∙ ap (map task_core) c.gather.ensures.tasks)

pub returns-clause-logs : goal.returns-clause-logs
returns-clause-logs c =
    joined_logs c.requires.0 c.args.self c.args.bundles.items c.requires.1 c.close.new.cells
    (subst (λ v. LogsHaveGrown v c.close.new.cells) (c.one_seat-seat.ensures ∙ ap merged_view c.gather.ensures.seats) c.close.ensures)
