use Rattle.std.proofs.Common.{◌≡◌, ℕ, drop}
use Rattle.params_model.specs.Judged.{other_names}
use Rattle.params_build.proofs.filter.other_names.Given as goal

abbrev pub invariant-names : goal.invariant-names
invariant-names l = (k : ℕ) → other_names k l.params (drop l.each-index l.names) ≡ other_names k l.params l.names
