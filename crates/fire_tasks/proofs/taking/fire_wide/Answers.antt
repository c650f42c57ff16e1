use Rattle.std.proofs.Common.{◌≡◌, ◌<◌, ℕ, ℤ, List, length, sym, subst}
use Rattle.std.specs.Prelude.{None, slice_index_or}
use Rattle.river_plan.specs.Forms.{plan_form}
use Rattle.fire_tasks.specs.declared.task.Task.{Task}
use Rattle.fire_tasks.specs.Inlet as inlet
use Rattle.fire_tasks.specs.Ports.{IsIdle, known_of}
use Rattle.fire_tasks.specs.Tasks.{IsTask}
use Rattle.fire_tasks.proofs.taking.fire_wide.Goals as goal

pub fire_item-requires-clause-task : goal.fire_item-requires-clause-task
fire_item-requires-clause-task g c =
    subst (λ (t : Task). (adds : ℕ → List (List ℤ)) × IsTask (plan_form c.args.plan.now) adds t) (sym (c.in_ok-fire_row.ensures.stays c.if-branch.false))
    c.requires.task

pub fire_item-requires-clause-idle : goal.fire_item-requires-clause-idle
fire_item-requires-clause-idle g c = subst (λ (t : Task). IsIdle t.pending) (sym (c.in_ok-fire_row.ensures.stays c.if-branch.false)) c.requires.idle

pub fire_item-requires-clause-fine : goal.fire_item-requires-clause-fine
fire_item-requires-clause-fine g c = subst (λ (t : Task). t.bad ≡ None) (sym (c.in_ok-fire_row.ensures.stays c.if-branch.false)) c.requires.fine

pub fire_item-requires-clause-port : goal.fire_item-requires-clause-port
fire_item-requires-clause-port g c = subst (λ (t : Task). c.args.port < length t.ins) (sym (c.in_ok-fire_row.ensures.stays c.if-branch.false)) c.requires.port

pub fire_item-requires-clause-known : goal.fire_item-requires-clause-known
fire_item-requires-clause-known g c =
    subst (λ (t : Task). (d : inlet.Inlet) → 0 < length (known_of (slice_index_or t.ins c.args.port d))) (sym (c.in_ok-fire_row.ensures.stays c.if-branch.false))
    c.requires.known

pub returns-then-branch : goal.returns-then-branch
returns-then-branch g c = c.in_ok-fire_row.ensures.fired c.if-branch.true
