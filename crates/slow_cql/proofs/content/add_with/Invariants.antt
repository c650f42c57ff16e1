use Rattle.std.proofs.Common.{◌≡◌, [], ◌∷◌, ◌++◌, take, map}
use Rattle.slow_cql.specs.Kept.{Entry}
use Rattle.slow_cql.proofs.content.add_with.Given as goal

abbrev pub invariant-loop-entry : goal.invariant-loop-entry
invariant-loop-entry l = l.all ≡ l.initial.all ++ map (λ row. l.tuple ++ row ∷ []) (map (λ (e : Entry). e.1) (take l.entry-index l.entries))
