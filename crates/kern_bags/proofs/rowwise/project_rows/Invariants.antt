use Rattle.std.proofs.Common.{◌≡◌, [], length, map, take, drop}
use Rattle.work_code.specs.Term.{terms}
use Rattle.work_code.specs.Value.{val}
use Rattle.kern_bags.proofs.rowwise.project_rows.Given as goal

abbrev pub invariant-loop-place : goal.invariant-loop-place
invariant-loop-place l = record {
  all : length l.rows ≡ length l.initial.rows;
  front : take l.place l.rows ≡ map (λ row. map (λ t. val t row []) (terms l.list)) (take l.place l.initial.rows);
  back : drop l.place l.rows ≡ drop l.place l.initial.rows;
}
