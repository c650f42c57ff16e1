use Rattle.std.proofs.Common.{◌+◌, ◌*◌}
use Rattle.std.specs.Prelude.{max}
use Rattle.river_kernels.specs.declared.kernel.Kernel.{size-Kernel}
use Rattle.river_print.proofs.kernel.+print_kernel.Given as goal

abbrev pub decreases-print_kernel : goal.decreases-print_kernel
decreases-print_kernel l = size-Kernel l.kernel.now * 3

abbrev pub decreases-print_between : goal.decreases-print_between
decreases-print_between l = size-Kernel l.kernel.now * 3 + 1

abbrev pub decreases-print_fused : goal.decreases-print_fused
decreases-print_fused l = max (size-Kernel l.first.now) (size-Kernel l.second.now) * 3 + 2
