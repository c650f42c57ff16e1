use Rattle.std.proofs.Common.{◌≡◌, ◌+◌, ◌%◌, ◌<◌, length, set, arith, sym, subst, ap, ◌∙◌}
use Rattle.fire_tasks.specs.declared.task.Task.{Task}
use Rattle.fire_run.proofs.ShareLemmas.{Taking, taking_in, taking_past}
use Rattle.fire_run.proofs.splitting.take_part.Goals.{then-op-workers+in_ok-push, else-op-workers}
use Rattle.fire_run.proofs.splitting.take_part.Goals as goal

pub loop-place-preserved : goal.loop-place-preserved
loop-place-preserved c =
    let i = c.loop-place.place in
    let m = c.loop-place.invariant.stay.many in
    let test = c.loop-place-test.true in
    let len = c.len-place-end.ensures in
    let there : i < length c.loop-place.tasks = omega (arith, m, test, len) in
    elim c.if-op-workers.branch [
      | then-op-workers+in_ok-push w ↦
          (let t = w.replace.result in
          let here = w.replace.ensures.value ∙ w.at_mut.ensures.value t in
          let same : t ≡ c.at.result.now = here ∙ sym (c.at.ensures t) in
          let empty = ap (λ (x : Task). x.op) w.replace.ensures.after ∙ w.empty.ensures ∙ c.op-op.ensures ∙ ap (λ (x : Task). x.op) (sym same) in
          subst (λ ts. Taking c.args.workers c.args.part c.args.tasks.now (i + 1) ts c.if-op-workers.own) (sym w.tasks-is)
          (subst (λ own. Taking c.args.workers c.args.part c.args.tasks.now (i + 1) (set c.loop-place.tasks i w.replace.new.dest) own) (sym (w.own-is
          ∙ w.in_ok-push.ensures.ok))
          (taking_in c.args.workers c.args.part i c.args.tasks.now c.loop-place.tasks c.loop-place.own t w.replace.new.dest
          c.loop-place.invariant there here empty
          (ap (λ (x : Task). x.op % c.args.workers) same ∙ ap (λ n. n % c.args.workers) (sym c.op-op.ensures) ∙ w.if-op-workers.true))))
      | else-op-workers w ↦
          (let t = c.at.result.now in
          subst (λ ts. Taking c.args.workers c.args.part c.args.tasks.now (i + 1) ts c.if-op-workers.own) (sym w.tasks-is)
          (subst (λ own. Taking c.args.workers c.args.part c.args.tasks.now (i + 1) c.loop-place.tasks own) (sym w.own-is)
          (taking_past c.args.workers c.args.part i c.args.tasks.now c.loop-place.tasks c.loop-place.own t c.loop-place.invariant there
          (c.at.ensures t) (λ e. w.if-op-workers.false (ap (λ n. n % c.args.workers) c.op-op.ensures ∙ e)))))
    ]
