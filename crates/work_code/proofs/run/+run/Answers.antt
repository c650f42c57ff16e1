use Rattle.std.proofs.Common.{◌≡◌, ◌+◌, [], ◌∷◌, ◌++◌, drop, map, ap, sym, ◌∙◌, subst, arith}
use Rattle.std.specs.Prelude.{OnOk}
use Rattle.work_code.specs.Acts.{act_step}
use Rattle.work_code.specs.Calcs.{calc_term}
use Rattle.work_code.specs.Ran.{ran_once}
use Rattle.work_code.specs.Value.{val}
use Rattle.work_code.proofs.ActTrees.{acts-is, act-push}
use Rattle.work_code.proofs.Lists.{at_place, none_left}
use Rattle.work_code.proofs.Running.{SoFar, so_far_end, so_far_refused, on_err}
use Rattle.work_code.proofs.run.+run.Goals as goal

pub run_step-returns-in-Push-clause-pushes : goal.run_step-returns-in-Push-clause-pushes
run_step-returns-in-Push-clause-pushes t c =
    subst (λ s. OnOk c.push_row.result (c.push_row.new.self ≡ c.args.out.now ++ (ran_once s c.args.input.now c.args.slots.now).pushes))
    (sym (ap act_step c.in-Push.is ∙ act-push c.in-Push.port c.in-Push.values))
    (subst (λ l. OnOk c.push_row.result (c.push_row.new.self ≡ c.args.out.now ++ (c.in-Push.port, map (λ x. val x c.args.input.now c.args.slots.now) (map calc_term l)) ∷ []))
    c.as_slice.ensures.value c.push_row.ensures.ok)

pub run_steps-returns-in_err-run_step-clause-err : goal.run_steps-returns-in_err-run_step-clause-err
run_steps-returns-in_err-run_step-clause-err t c =
    let items = c.as_slice-s-items.result.now in
    let f = subst (λ l. SoFar c.args.input.now (map act_step items) l c.args.slots.now c.loop-s.slots c.args.out.now c.loop-s.out)
    (at_place act_step items c.loop-s.s-index c.s-item.result (omega arith) c.s-item.is) c.loop-s.invariant in
    let g = so_far_refused c.args.input.now (map act_step items) (act_step c.s-item.result)
    (map act_step (drop (c.loop-s.s-index + 1) items)) c.args.slots.now c.loop-s.slots c.args.out.now c.loop-s.out c.run_step.new.out f
    c.in_err-run_step.ensures.err in
    on_err c.from_residual.result (rw (acts-is c.args.body.now, ← c.as_slice-s-items.ensures) g)

pub run_steps-returns-clause-pushes : goal.run_steps-returns-clause-pushes
run_steps-returns-clause-pushes t c =
    let items = c.as_slice-s-items.result.now in
    let f = subst (λ l. SoFar c.args.input.now (map act_step items) l c.args.slots.now c.loop-s.slots c.args.out.now c.loop-s.out)
    (none_left act_step items c.loop-s.s-index (omega arith)) c.loop-s.invariant in
    let e = so_far_end c.args.input.now (map act_step items) c.args.slots.now c.loop-s.slots c.args.out.now c.loop-s.out f in
    rw (acts-is c.args.body.now, ← c.as_slice-s-items.ensures) e.0

pub run_steps-returns-clause-slots : goal.run_steps-returns-clause-slots
run_steps-returns-clause-slots t c =
    let items = c.as_slice-s-items.result.now in
    let f = subst (λ l. SoFar c.args.input.now (map act_step items) l c.args.slots.now c.loop-s.slots c.args.out.now c.loop-s.out)
    (none_left act_step items c.loop-s.s-index (omega arith)) c.loop-s.invariant in
    let e = so_far_end c.args.input.now (map act_step items) c.args.slots.now c.loop-s.slots c.args.out.now c.loop-s.out f in
    rw (acts-is c.args.body.now, ← c.as_slice-s-items.ensures) e.1
