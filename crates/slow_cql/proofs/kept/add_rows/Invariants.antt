use Rattle.std.proofs.Common.{◌≡◌, ◌++◌, map, take}
use Rattle.slow_cql.proofs.kept.add_rows.Given as goal

abbrev pub invariant-loop-row : goal.invariant-loop-row
invariant-loop-row l = l.all ≡ l.initial.all ++ map (λ row. (l.at, row)) (take l.row-index l.rows)
