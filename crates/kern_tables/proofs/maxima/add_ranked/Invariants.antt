use Rattle.std.proofs.Common.{◌≡◌, ◌++◌, take, map}
use Rattle.kern_tables.specs.Tables.{ranked_row}
use Rattle.kern_tables.proofs.maxima.add_ranked.Given as goal

abbrev pub invariant-loop-r : goal.invariant-loop-r
invariant-loop-r l = l.rows ≡ l.fn.rows ++ map (ranked_row l.key) (take l.r-index l.r-items)
