-- Kernels may be shared among threads.
use denote.Param.Send.{IsSync, sendable}
use Rattle.std.proofs.Crossing.{crosses}
use Rattle.work_code.specs.contracts.code.Code as Code
use Rattle.work_code.proofs.Shared.{formula, formulas, code_shared}
use Rattle.kern_rows.specs.contracts.kernel.CodeKernel as CodeKernel
use Rattle.kern_rows.specs.contracts.kernel.Filter as Filter
use Rattle.kern_rows.specs.contracts.kernel.First as First
use denote.Builtin.{i64}
use Rattle.river_base.specs.contracts.listed.Listed as Listed
use Rattle.river_base.proofs.listed.Listed.TheSendSync as listed
use Rattle.kern_bags.proofs.kernel.Window.TheSendSync as window
use Rattle.kern_bags.proofs.kernel.Streamer.TheSendSync as streamer
use Rattle.river_kernels.specs.contracts.kernel.Kernel as Kernel
use Rattle.river_kernels.proofs.kernel.Kernel.TheLaws.TheKnot as kernel

numbers : IsSync (Listed.the_field i64).row
numbers = search (sendable, crosses, listed.the_sync) depth 40

code_kernel : IsSync (CodeKernel.the_field).row
code_kernel = let c : IsSync (Code.the_field).row = code_shared in let n : IsSync (Listed.the_field i64).row = numbers in search (sendable, crosses) depth 40

first : IsSync (First.the_field).row
first = let c : IsSync (Code.the_field).row = code_shared in search (sendable, crosses) depth 40

filter : IsSync (Filter.the_field).row
filter =
    let c : IsSync (Code.the_field).row = code_shared in
    let r : IsSync (First.the_field).row = first in
    let n : IsSync (Listed.the_field i64).row = numbers in
    search (sendable, crosses) depth 40

-- a kernel may be shared among threads
pub kernel_shared : IsSync (Kernel.the_field).row
kernel_shared =
    kernel.sync-Kernel code_kernel filter (search sendable) numbers (λ h s. search crosses) (search (sendable, window.the_field_sync)) formula formulas
    (search (sendable, streamer.the_field_sync))
