use Rattle.std.proofs.Common.{◌≡◌, ◌++◌, drop}
use Rattle.csv_streams.specs.Outcome.{texts_of, item_text}
use Rattle.csv_streams.proofs.outcome.print_others.Given as goal

abbrev pub invariant-loop-place : goal.invariant-loop-place
invariant-loop-place l = l.to ++ texts_of item_text (drop l.place l.items.items) ≡ l.initial.to ++ texts_of item_text l.items.items
