use Rattle.std.proofs.Common.{◌≡◌, map, take}
use Rattle.slow_streamit.specs.Firing.{named_values}
use Rattle.slow_streamit.proofs.firing.Firing.fields.Given as goal

abbrev pub invariant-loop-name : goal.invariant-loop-name
invariant-loop-name l = l.kept ≡ map (named_values l.self.values) (take l.name-index l.fields)
