-- Free programs may be shared among threads.
use denote.Param.Send.{IsSync, sendable}
use Rattle.std.proofs.Crossing.{crosses}
use Rattle.work_code.specs.contracts.code.Code as Code
use Rattle.work_code.proofs.Shared.{code_shared}
use Rattle.river_base.proofs.listed.Listed.TheSendSync as listed
use Rattle.river_base.proofs.name.Name.TheSendSync as name
use Rattle.river_plan.proofs.plan.Decl.TheSendSync as decl
use Rattle.free_model.proofs.raw.CellDecl.TheSendSync as cell
use Rattle.free_model.specs.contracts.raw.FreeOp as FreeOp
use Rattle.free_model.specs.contracts.raw.FreeRaw as FreeRaw
use Rattle.free_model.specs.contracts.valid.FreePlan as FreePlan

operator : IsSync (FreeOp.the_field).row
operator = let c : IsSync (Code.the_field).row = code_shared in search (sendable, crosses, listed.the_sync, name.the_sync) depth 40

lists : IsSync (FreeRaw.the_field).row
lists =
    let o : IsSync (FreeOp.the_field).row = operator in
    search (sendable, crosses, listed.the_sync, decl.the_sync, cell.the_sync) depth 40

-- a free program may be shared among threads
pub free_shared : IsSync (FreePlan.the_field).row
free_shared = let l : IsSync (FreeRaw.the_field).row = lists in search (sendable, crosses, listed.the_sync) depth 40
