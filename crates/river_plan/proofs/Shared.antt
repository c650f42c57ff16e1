-- The lists of a plan may be shared among threads.
use denote.Param.Send.{IsSync, sendable}
use Rattle.std.proofs.Crossing.{crosses}
use Rattle.river_base.proofs.listed.Listed.TheSendSync as listed
use Rattle.river_base.proofs.name.Name.TheSendSync as name
use Rattle.river_kernels.specs.contracts.kernel.Kernel as Kernel
use Rattle.river_kernels.proofs.Shared.{kernel_shared}
use Rattle.river_plan.specs.contracts.op.Op as Op
use Rattle.river_plan.specs.contracts.plan.RawPlan as RawPlan
use Rattle.river_plan.proofs.plan.Decl.TheSendSync as decl
use Rattle.river_plan.proofs.plan.TableDecl.TheSendSync as table

operator : IsSync (Op.the_field).row
operator = let k : IsSync (Kernel.the_field).row = kernel_shared in search (sendable, crosses, listed.the_sync, name.the_sync) depth 40

-- a raw plan may be shared among threads
pub plan_shared : IsSync (RawPlan.the_field).row
plan_shared =
    let o : IsSync (Op.the_field).row = operator in
    search (sendable, crosses, listed.the_sync, name.the_sync, decl.the_sync, decl.the_field_sync, table.the_sync, table.the_field_sync) depth 40
