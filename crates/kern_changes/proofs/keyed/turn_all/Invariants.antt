use Rattle.std.proofs.Common.{◌≡◌, length, map, take, drop}
use Rattle.kern_changes.specs.Keyed.{turned}
use Rattle.kern_changes.proofs.keyed.turn_all.Given as goal

abbrev pub invariant-loop-place : goal.invariant-loop-place
invariant-loop-place l = record {
  all : length l.rows ≡ length l.initial.rows;
  front : take l.place l.rows ≡ map (turned l.column) (take l.place l.initial.rows);
  back : drop l.place l.rows ≡ drop l.place l.initial.rows;
}
