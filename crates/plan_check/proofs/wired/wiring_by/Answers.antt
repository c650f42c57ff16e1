use Rattle.std.proofs.Common.{map, length, subst}
use Rattle.river_plan.specs.Forms.{op_forms}
use Rattle.river_plan.specs.Places.{places}
use Rattle.river_plan.specs.Wired.{AreUses}
use Rattle.plan_check.proofs.wired.wiring_by.Goals as goal

pub returns : goal.returns
returns c =
    let ops = op_forms c.args.raw.now.ops in
    record {
      reads = subst (λ ns. AreUses (length ns) (map (λ op. places ns op.reads) ops) c.in_ok-reads.reads) c.requires.queues c.in_ok-reads.ensures;
      writes = subst (λ ns. AreUses (length ns) (map (λ op. places ns op.writes) ops) c.in_ok-writes.writes) c.requires.queues c.in_ok-writes.ensures;
      vars = subst (λ ns. AreUses (length ns) (map (λ op. places ns op.vars) ops) c.in_ok-vars.vars) c.requires.variables c.in_ok-vars.ensures;
    }
