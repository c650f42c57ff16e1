use Rattle.std.proofs.Common.{◌+◌, ◌*◌}
use Rattle.river_text.proofs.kernel.+kernel.Given as goal

abbrev pub decreases-kernel : goal.decreases-kernel
decreases-kernel l = l.brackets * 6 + 5

abbrev pub decreases-ports_after : goal.decreases-ports_after
decreases-ports_after l = l.brackets * 6 + 4

abbrev pub decreases-packed_after : goal.decreases-packed_after
decreases-packed_after l = l.brackets * 6 + 3

abbrev pub decreases-fused : goal.decreases-fused
decreases-fused l = l.brackets * 6 + 2

abbrev pub decreases-boxed : goal.decreases-boxed
decreases-boxed l = l.brackets * 6 + 1

abbrev pub decreases-braced : goal.decreases-braced
decreases-braced l = l.brackets * 6
