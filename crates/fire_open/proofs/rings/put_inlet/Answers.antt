use Rattle.std.proofs.Common.{◌<◌, length, ap, subst, sym}
use Rattle.std.specs.Prelude.{slice_set}
use Rattle.fire_tasks.specs.declared.task.Task.{Task}
use Rattle.fire_open.proofs.rings.put_inlet.Goals as goal

pub put_in-requires : goal.put_in-requires
put_in-requires c =
    let t = c.at_mut-reader.result.now in
    subst (λ (y : Task). c.args.link.port < length y.ins) (sym (c.at_mut-reader.ensures.value t)) (c.requires.port t)

pub returns : goal.returns
returns c =
    let t = c.at_mut-reader.result.now in (
      t,
      c.at_mut-reader.ensures.value t,
      ap (λ (x : Task). slice_set c.args.tasks.now c.args.link.reader x) c.put_in.ensures,
    )
