use Rattle.std.proofs.Common.{false, subst, sym, refl, ◌∙◌}
use Rattle.fire_tasks.specs.Adds.{added, logs_of}
use Rattle.fire_tasks.specs.Tasks.{all_moves}
use Rattle.fire_tasks.specs.Layout.{AreTasks}
use Rattle.fire_open.specs.Homes.{AreClassCells}
use Rattle.fire_open.proofs.Laid.{paired_net, apart_net, laid_same}
use Rattle.fire_open.proofs.StillLemmas.{still_all_moves, still_ends}
use Rattle.fire_run.specs.Cells.{HaveMoved}
use Rattle.fire_run.specs.declared.net.Net.{Net}
use Rattle.fire_run.specs.OneMove.{MayHaveMoved}
use Rattle.fire_run.proofs.BoundedMoves.{moved_state}
use Rattle.fire_run.proofs.GoingOn.{one_goes}
use Rattle.fire_run.proofs.OneMoves.{moved_busy, one_moved}
use Rattle.fire_run.specs.NetOf.{OneMore}
use Rattle.fire_run.proofs.Standing.{can_send, single_tasks, net_again, idle_again}
use Rattle.fire_run.proofs.net.Net.one.Goals as goal

pub move_last-requires-clause-tasks : goal.move_last-requires-clause-tasks
move_last-requires-clause-tasks g c =
    subst (λ p. AreTasks p (added p (logs_of c.args.self.now.cells)) c.args.self.now.tasks) (sym c.raw.ensures.raw) c.requires.is.tasks

pub move_last-requires-clause-single : goal.move_last-requires-clause-single
move_last-requires-clause-single g c = single_tasks c.args.plan.now c.requires.inputs c.requires.caps c.args.self.now.tasks c.requires.is.laid

pub move_last-requires-clause-cells : goal.move_last-requires-clause-cells
move_last-requires-clause-cells g c = subst (λ p. AreClassCells p c.args.self.now.cells) (sym c.raw.ensures.raw) c.requires.is.cells

pub move_last-requires-clause-room : goal.move_last-requires-clause-room
move_last-requires-clause-room g c =
    let n = c.requires in
    can_send c.args.plan.now n.inputs n.caps c.args.self.now c.raw.ensures.valid n.is

pub settle_all-requires-clause-paired : goal.settle_all-requires-clause-paired
settle_all-requires-clause-paired g c =
    let n = c.requires in
    let p = c.args.plan.now in
    let k : AreTasks p (added p (logs_of c.move_last.new.cells)) c.move_last.new.tasks
    = subst (λ q. AreTasks q (added q (logs_of c.move_last.new.cells)) c.move_last.new.tasks) c.raw.ensures.raw c.in_ok-moved.ensures.tasks in
    paired_net p n.inputs n.caps (added p (logs_of c.move_last.new.cells)) c.move_last.new.tasks c.args.self.now.links c.raw.ensures.valid
    (laid_same p n.inputs n.caps c.args.self.now.tasks c.move_last.new.tasks c.in_ok-moved.ensures.same n.is.laid) k n.is.links

pub settle_all-requires-clause-apart : goal.settle_all-requires-clause-apart
settle_all-requires-clause-apart g c = apart_net c.args.plan.now c.args.self.now.links c.raw.ensures.valid c.requires.is.links

pub returns-clause-stays : goal.returns-clause-stays
returns-clause-stays g c =
    let p = c.args.plan.now in
    let k : AreTasks p (added p (logs_of c.move_last.new.cells)) c.move_last.new.tasks
    = subst (λ q. AreTasks q (added q (logs_of c.move_last.new.cells)) c.move_last.new.tasks) c.raw.ensures.raw c.in_ok-moved.ensures.tasks in
    let m : HaveMoved p c.args.self.now.cells c.move_last.new.cells =
    subst (λ q. HaveMoved q c.args.self.now.cells c.move_last.new.cells) c.raw.ensures.raw c.in_ok-moved.ensures.cells in
    record {
      fine = refl;
      is = λ inputs caps n. net_again p inputs caps c.args.self.now _ c.move_last.new.tasks c.raw.ensures.valid n k c.in_ok-moved.ensures.same
          c.settle_all.ensures.task_core refl c.settle_all.ensures.met m;
    }

pub returns-clause-moved : goal.returns-clause-moved
returns-clause-moved g c =
    subst (λ n. OneMore (all_moves c.args.self.now.tasks) n c.in_ok-moved.moved)
    (sym (still_all_moves c.move_last.new.tasks c.settle_all.new.tasks c.settle_all.ensures.task_core)) c.in_ok-moved.ensures.moved

pub returns-clause-same : goal.returns-clause-same
returns-clause-same g c = still_ends c.move_last.new.tasks c.settle_all.new.tasks c.settle_all.ensures.task_core ∙ c.in_ok-moved.ensures.same

pub returns-clause-logs : goal.returns-clause-logs
returns-clause-logs g c = subst (λ q. HaveMoved q c.args.self.now.cells c.move_last.new.cells) c.raw.ensures.raw c.in_ok-moved.ensures.cells

pub returns-clause-still : goal.returns-clause-still
returns-clause-still g c = λ f. c.settle_all.ensures.task_core ∙ c.in_ok-moved.ensures.still f

pub returns-clause-idle : goal.returns-clause-idle
returns-clause-idle g c =
    let p = c.args.plan.now in
    let r = c.requires in
    let k : AreTasks p (added p (logs_of c.move_last.new.cells)) c.move_last.new.tasks
    = subst (λ q. AreTasks q (added q (logs_of c.move_last.new.cells)) c.move_last.new.tasks) c.raw.ensures.raw c.in_ok-moved.ensures.tasks in
    let m : HaveMoved p c.args.self.now.cells c.move_last.new.cells =
    subst (λ q. HaveMoved q c.args.self.now.cells c.move_last.new.cells) c.raw.ensures.raw c.in_ok-moved.ensures.cells in
    λ f. idle_again p r.inputs r.caps c.args.self.now
    (record { tasks = c.settle_all.new.tasks; links = c.args.self.now.links; cells = c.move_last.new.cells; refused = false }) c.raw.ensures.valid r.is
    (net_again p r.inputs r.caps c.args.self.now _ c.move_last.new.tasks c.raw.ensures.valid r.is k c.in_ok-moved.ensures.same c.settle_all.ensures.task_core refl
    c.settle_all.ensures.met m)
    (c.settle_all.ensures.task_core ∙ c.in_ok-moved.ensures.still f) (c.in_ok-moved.ensures.idle f)

pub returns-clause-step : goal.returns-clause-step
returns-clause-step g c =
    let p = c.args.plan.now in
    let r = c.requires in
    let k : AreTasks p (added p (logs_of c.move_last.new.cells)) c.move_last.new.tasks
    = subst (λ q. AreTasks q (added q (logs_of c.move_last.new.cells)) c.move_last.new.tasks) c.raw.ensures.raw c.in_ok-moved.ensures.tasks in
    let m : HaveMoved p c.args.self.now.cells c.move_last.new.cells =
    subst (λ q. HaveMoved q c.args.self.now.cells c.move_last.new.cells) c.raw.ensures.raw c.in_ok-moved.ensures.cells in
    let net : Net = record { tasks = c.settle_all.new.tasks; links = c.args.self.now.links; cells = c.move_last.new.cells; refused = false } in
    let ends = still_ends c.move_last.new.tasks c.settle_all.new.tasks c.settle_all.ensures.task_core ∙ c.in_ok-moved.ensures.same in
    λ t.
    one_moved p r.inputs r.caps c.args.self.now net c.move_last.new.tasks c.raw.ensures.valid r.is
    (net_again p r.inputs r.caps c.args.self.now net c.move_last.new.tasks c.raw.ensures.valid r.is k c.in_ok-moved.ensures.same c.settle_all.ensures.task_core refl
    c.settle_all.ensures.met m)
    ends c.settle_all.ensures.task_core
    (subst (λ q. MayHaveMoved q c.args.self.now.tasks c.move_last.new.tasks c.args.self.now.cells c.move_last.new.cells) c.raw.ensures.raw
    (c.in_ok-moved.ensures.step t))

pub returns-clause-goes : goal.returns-clause-goes
returns-clause-goes g c =
    let p = c.args.plan.now in
    let r = c.requires in
    let k : AreTasks p (added p (logs_of c.move_last.new.cells)) c.move_last.new.tasks
    = subst (λ q. AreTasks q (added q (logs_of c.move_last.new.cells)) c.move_last.new.tasks) c.raw.ensures.raw c.in_ok-moved.ensures.tasks in
    let m : HaveMoved p c.args.self.now.cells c.move_last.new.cells =
    subst (λ q. HaveMoved q c.args.self.now.cells c.move_last.new.cells) c.raw.ensures.raw c.in_ok-moved.ensures.cells in
    let net : Net = record { tasks = c.settle_all.new.tasks; links = c.args.self.now.links; cells = c.move_last.new.cells; refused = false } in
    let ends = still_ends c.move_last.new.tasks c.settle_all.new.tasks c.settle_all.ensures.task_core ∙ c.in_ok-moved.ensures.same in
    one_goes p c.args.self.now.tasks c.settle_all.new.tasks c.args.self.now.cells c.move_last.new.cells c.in_ok-moved.moved
    (λ t. one_moved p r.inputs r.caps c.args.self.now net c.move_last.new.tasks c.raw.ensures.valid r.is
    (net_again p r.inputs r.caps c.args.self.now net c.move_last.new.tasks c.raw.ensures.valid r.is k c.in_ok-moved.ensures.same c.settle_all.ensures.task_core refl
    c.settle_all.ensures.met m)
    ends c.settle_all.ensures.task_core
    (subst (λ q. MayHaveMoved q c.args.self.now.tasks c.move_last.new.tasks c.args.self.now.cells c.move_last.new.cells) c.raw.ensures.raw
    (c.in_ok-moved.ensures.step t)))
    (λ f. c.settle_all.ensures.task_core ∙ c.in_ok-moved.ensures.still f)

pub returns-clause-bounded : goal.returns-clause-bounded
returns-clause-bounded g c = λ inputs caps n t.
    let p = c.args.plan.now in
    let k : AreTasks p (added p (logs_of c.move_last.new.cells)) c.move_last.new.tasks
    = subst (λ q. AreTasks q (added q (logs_of c.move_last.new.cells)) c.move_last.new.tasks) c.raw.ensures.raw c.in_ok-moved.ensures.tasks in
    let m : HaveMoved p c.args.self.now.cells c.move_last.new.cells =
    subst (λ q. HaveMoved q c.args.self.now.cells c.move_last.new.cells) c.raw.ensures.raw c.in_ok-moved.ensures.cells in
    let net : Net = record { tasks = c.settle_all.new.tasks; links = c.args.self.now.links; cells = c.move_last.new.cells; refused = false } in
    let ends = still_ends c.move_last.new.tasks c.settle_all.new.tasks c.settle_all.ensures.task_core ∙ c.in_ok-moved.ensures.same in
    let again = net_again p inputs caps c.args.self.now net c.move_last.new.tasks c.raw.ensures.valid n k c.in_ok-moved.ensures.same c.settle_all.ensures.task_core
    refl c.settle_all.ensures.met m in
    moved_state p inputs caps c.args.self.now net c.raw.ensures.valid n again
    (one_moved p inputs caps c.args.self.now net c.move_last.new.tasks c.raw.ensures.valid n again ends c.settle_all.ensures.task_core
    (subst (λ q. MayHaveMoved q c.args.self.now.tasks c.move_last.new.tasks c.args.self.now.cells c.move_last.new.cells) c.raw.ensures.raw
    (c.in_ok-moved.ensures.step t)))

pub returns-clause-busy : goal.returns-clause-busy
returns-clause-busy g c =
    let p = c.args.plan.now in
    let r = c.requires in
    let k : AreTasks p (added p (logs_of c.move_last.new.cells)) c.move_last.new.tasks
    = subst (λ q. AreTasks q (added q (logs_of c.move_last.new.cells)) c.move_last.new.tasks) c.raw.ensures.raw c.in_ok-moved.ensures.tasks in
    let m : HaveMoved p c.args.self.now.cells c.move_last.new.cells =
    subst (λ q. HaveMoved q c.args.self.now.cells c.move_last.new.cells) c.raw.ensures.raw c.in_ok-moved.ensures.cells in
    let net : Net = record { tasks = c.settle_all.new.tasks; links = c.args.self.now.links; cells = c.move_last.new.cells; refused = false } in
    let ends = still_ends c.move_last.new.tasks c.settle_all.new.tasks c.settle_all.ensures.task_core ∙ c.in_ok-moved.ensures.same in
    λ t.
    moved_busy p c.args.self.now.tasks c.settle_all.new.tasks c.args.self.now.cells c.move_last.new.cells
    (one_moved p r.inputs r.caps c.args.self.now net c.move_last.new.tasks c.raw.ensures.valid r.is
    (net_again p r.inputs r.caps c.args.self.now net c.move_last.new.tasks c.raw.ensures.valid r.is k c.in_ok-moved.ensures.same c.settle_all.ensures.task_core refl
    c.settle_all.ensures.met m)
    ends c.settle_all.ensures.task_core
    (subst (λ q. MayHaveMoved q c.args.self.now.tasks c.move_last.new.tasks c.args.self.now.cells c.move_last.new.cells) c.raw.ensures.raw
    (c.in_ok-moved.ensures.step t)))
