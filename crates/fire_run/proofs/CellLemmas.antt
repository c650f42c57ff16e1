-- Cells whose logs grow.
use Rattle.std.proofs.Common.{List, ◌∙◌, arith, ℕ}
use Rattle.river_plan.specs.Forms.{PlanForm}
use Rattle.class_locks.specs.declared.log.LogEntry.{LogEntry}
use Rattle.class_locks.specs.Logs.{Holding}
use Rattle.fire_tasks.specs.Rows.{cells_grown}
use Rattle.fire_tasks.proofs.CellLemmas.{grown_got, grown_long}
use Rattle.fire_open.specs.Homes.{AreClassCells}

-- they are still the cells of the classes
pub cells_again : (p : PlanForm) (more : ℕ → List LogEntry) (cells : List Holding) → AreClassCells p cells → AreClassCells p (cells_grown more 0 cells)
cells_again p more cells h = record {
  kinds = λ c y g. let x = grown_got more 0 cells c y g in x.2 ∙ h.kinds c x.0 x.1;
  all = λ n lt. let a = h.all n lt in let b = grown_long more 0 cells in omega (arith, a, b);
  used = λ c lt. h.used c (let b = grown_long more 0 cells in omega (arith, lt, b));
}
