use Rattle.std.proofs.Common.{◌≡◌, ℕ, [], take, drop}
use Rattle.params_model.specs.Judged.{new_names}
use Rattle.params_build.proofs.unit.new_names.Given as goal

abbrev pub invariant-names : goal.invariant-names
invariant-names l = (l.known ≡ take l.each-index l.names)
    × ((k : ℕ) → new_names k (take l.each-index l.names) (drop l.each-index l.names) ≡ new_names k [] l.names)
