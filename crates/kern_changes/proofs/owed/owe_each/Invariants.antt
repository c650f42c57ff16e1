use Rattle.std.proofs.Common.{◌≡◌, length, map, take, drop}
use Rattle.kern_changes.specs.Owed.{owing}
use Rattle.kern_changes.proofs.owed.owe_each.Given as goal

abbrev pub invariant-loop-place : goal.invariant-loop-place
invariant-loop-place l = record {
  all : length l.debts ≡ length l.initial.debts;
  front : take l.place l.debts ≡ map (owing l.plus l.minus) (take l.place l.initial.debts);
  back : drop l.place l.debts ≡ drop l.place l.initial.debts;
}
