-- How many kernels a kernel has inside: firings come to their end.
use Rattle.std.specs.Prelude.{ℕ, suc, ◌+◌}
use Rattle.river_kernels.specs.Kern.{Kern, packed, fused}

-- how many kernels stand within
abbrev pub size : Kern → ℕ
size (packed k) = suc (size k)
size (fused a b at) = suc (size a + size b)
size kernel = 0
