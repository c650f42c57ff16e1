use Rattle.std.proofs.Common.{◌≡◌, ◌≤◌, length, take, drop}
use Rattle.work_code.specs.Term.{term}
use Rattle.kern_bags.specs.Contents.{selected}
use Rattle.kern_bags.proofs.rowwise.keep_rows.Given as goal

abbrev pub invariant-loop-place : goal.invariant-loop-place
invariant-loop-place l = record {
  fewer : l.kept ≤ l.place;
  all : length l.rows ≡ length l.initial.rows;
  front : take l.kept l.rows ≡ selected (term l.cond) (take l.place l.initial.rows);
  back : drop l.place l.rows ≡ drop l.place l.initial.rows;
}
