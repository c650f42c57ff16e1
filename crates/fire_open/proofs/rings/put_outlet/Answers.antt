use Rattle.std.proofs.Common.{◌<◌, length, ap, subst, sym}
use Rattle.std.specs.Prelude.{slice_set}
use Rattle.fire_tasks.specs.declared.task.Task.{Task}
use Rattle.fire_open.proofs.rings.put_outlet.Goals as goal

pub put_out-requires : goal.put_out-requires
put_out-requires c =
    let t = c.at_mut-writer.result.now in
    subst (λ (y : Task). c.args.link.out < length y.outs) (sym (c.at_mut-writer.ensures.value t)) (c.requires.out t)

pub returns : goal.returns
returns c =
    let t = c.at_mut-writer.result.now in (
      t,
      c.at_mut-writer.ensures.value t,
      ap (λ (x : Task). slice_set c.args.tasks.now c.args.link.writer x) c.put_out.ensures,
    )
