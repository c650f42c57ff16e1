use Rattle.std.proofs.Common.{subst, sym}
use Rattle.river_plan.specs.Forms.{plan_form, decl_names, queue_names}
use Rattle.river_plan.specs.Places.{read_places}
use Rattle.river_plan.specs.Names.{count, IsUsedOnce}
use Rattle.river_plan.specs.Uses.{total, reads_it}
use Rattle.river_plan.specs.Faults.{ReadTwice}
use Rattle.river_plan.specs.First.{IsFirst}
use Rattle.river_plan.specs.declared.fault.Named.TheVariants.{Queue}
use Rattle.river_plan.proofs.Searches.{as-map}
use Rattle.plan_check.proofs.PlacedFaults.{read_first}
use Rattle.river_plan.proofs.UserLemmas.{users-length}
use Rattle.plan_check.proofs.once.read_twice.Goals as goal

pub used_twice-found-requires : goal.used_twice-found-requires
used_twice-found-requires c =
    let p = plan_form c.args.raw.now in
    users-length (read_places p) c.args.wiring.now.reads.by_place c.in_ok-names.names (queue_names p) c.in_ok-names.ensures c.requires.wired.reads.by_place

pub returns : goal.returns
returns c =
    let p = plan_form c.args.raw.now in
    subst (ReadTwice p) (sym c.as_queue.ensures)
    (as-map Queue (IsFirst (λ before q. IsUsedOnce (count q (decl_names p.outputs)) (total (reads_it q) p.ops)) (queue_names p)) c.used_twice-found.result
    (read_first p c.args.wiring.now c.in_ok-names.names c.len.result c.requires.named c.requires.wired c.in_ok-names.ensures c.len.ensures
    c.used_twice-found.result c.used_twice-found.ensures))
