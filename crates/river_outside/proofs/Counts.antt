-- When a count of faults rose over several calls.
use Rattle.std.proofs.Common.{arith, ℕ, ◌≤◌, Bool}
use Rattle.river_outside.specs.Causes.{Rose}

-- it rose since a moment before
pub rose_before : (s : Bool) (first before now : ℕ) → first ≤ before → Rose s before now → Rose s first now
rose_before s first before now = grind arith
