use Rattle.std.proofs.Common.{◌∙◌, [], length, map, subst, sym, ap}
use Rattle.std.specs.Prelude.{replicate}
use Rattle.river_plan.specs.ByPlace.{kind_at}
use Rattle.brooklet_step.specs.Initial.{AreFirstStates}
use Rattle.brooklet_step.specs.Took.{IsBlank}
use Rattle.fire_tasks.specs.Outlet.{Stored}
use Rattle.fire_tasks.specs.Adds.{AreHomes}
use Rattle.fire_open.specs.First.{whole_list, HasLeft}
use Rattle.fire_open.proofs.TakenLemmas.{reads_apart}
use Rattle.fire_open.proofs.tasks.task_of.Goals as goal

pub returns-clause-task : goal.returns-clause-task
returns-clause-task c =
    let e = c.new-task.ensures in
    let t = c.new-task.result in
    record {
      there = c.requires.there;
      number = e.number;
      ins = e.takes.0 ∙ c.in_ok-ins.ensures.ins ∙ ap (map (whole_list c.args.queues.now)) c.reads_of.ensures;
      kinds_are = e.takes.1 ∙ c.in_ok-ins.ensures.kinds ∙ ap (map (kind_at c.args.kinds.now)) c.reads_of.ensures;
      outs = e.sends.0 ∙ c.in_ok-outs.ensures.outs ∙ ap (λ l. replicate (length l) (Stored [])) c.writes_of.ensures;
      pending = e.sends.1 ∙ c.in_ok-outs.ensures.pending ∙ ap (λ l. replicate (length l) []) c.writes_of.ensures;
      first = λ op g. (
        subst (AreFirstStates op.kernel) (sym e.keeps.0) (c.in_ok-first.ensures.states op g),
        subst (IsBlank op.kernel) (sym e.keeps.1) (c.in_ok-first.ensures.emit op g),
      );
      homes = subst (λ hs. AreHomes c.args.plan.now c.args.op hs t.classes) (sym e.homes.0)
          (subst (AreHomes c.args.plan.now c.args.op c.in_ok-first.homes.0) (sym e.homes.1) c.in_ok-first.ensures.homes);
      count = e.fresh.0;
      bad = e.fresh.1;
    }

pub returns-clause-left : goal.returns-clause-left
returns-clause-left c = subst (λ ps. HasLeft ps c.args.queues.now c.taken_from.new.queues) c.reads_of.ensures c.in_ok-ins.ensures.left

pub taken_from-requires-clause-apart : goal.taken_from-requires-clause-apart
taken_from-requires-clause-apart c = reads_apart c.args.plan.now c.args.op c.reads_of.result.now c.requires.valid c.requires.there c.reads_of.ensures
