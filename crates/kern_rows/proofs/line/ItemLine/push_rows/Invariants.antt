use Rattle.std.proofs.Common.{◌≡◌, ◌++◌, take}
use Rattle.kern_rows.specs.Even.{row_items}
use Rattle.kern_rows.proofs.line.ItemLine.push_rows.Given as goal

abbrev pub invariant-loop-place : goal.invariant-loop-place
invariant-loop-place l = l.self ≡ l.initial.self ++ row_items (take l.place l.fn.rows)
