use Rattle.std.proofs.Common.{◌≡◌, ◌-◌, ℕ, List, length}
use Rattle.std.specs.Prelude.{slice_index_or}
use Rattle.class_locks.specs.declared.log.LogEntry.{LogEntry}
use Rattle.fire_run.specs.Closed.{AreInClassLists}
use Rattle.fire_run.proofs.SortLemmas.{Going}
use Rattle.fire_run.proofs.sorting.place_all.Given as goal

abbrev pub invariant-loop-back : goal.invariant-loop-back
invariant-loop-back l = record {
  long : length l.tables ≡ length l.decls;
  going : (logs : ℕ → List LogEntry) → AreInClassLists (λ n. slice_index_or l.classes n 0) logs l.decls l.initial.lists
      → Going (λ n. slice_index_or l.classes n 0) logs (l.count - l.back) l.decls l.lists l.tables;
}
