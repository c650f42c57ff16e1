use Rattle.std.proofs.Common.{◌≡◌, take}
use Rattle.std.specs.Option.{option_copied}
use Rattle.slow_cql.specs.Kept.{latest}
use Rattle.slow_cql.proofs.kept.latest.Given as goal

abbrev pub invariant-loop-kept : goal.invariant-loop-kept
invariant-loop-kept l = option_copied l.found ≡ latest l.name (take l.kept-index l.known)
