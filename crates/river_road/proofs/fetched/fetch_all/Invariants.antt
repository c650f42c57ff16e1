use Rattle.std.proofs.Common.{◌≡◌, ◌≤◌, drop, length}
use Rattle.river_road.proofs.Fetches.{ComesTo}
use Rattle.river_road.proofs.fetched.fetch_all.Given as goal

abbrev pub invariant-loop-word : goal.invariant-loop-word
invariant-loop-word g l = record {
  stays : g.S.Shelf.held l.shelf ≡ g.S.Shelf.held l.initial.shelf;
  later : g.S.Shelf.faults l.initial.shelf ≤ g.S.Shelf.faults l.shelf;
  count : length l.files ≡ l.word-index;
  comes : ComesTo l.ins (g.S.Shelf.held l.initial.shelf) l.files (drop l.word-index l.ins);
}
