-- What the code of hoisting speaks of.
use Rattle.std.specs.Prelude.{◌≡◌, ℕ, Option, Some, Result, Ok, Err, slice_get}
use Rattle.work_code.specs.declared.expr.Expr.{Expr}
use Rattle.work_code.specs.Term.{Term, term, terms}
use Rattle.river_kernels.specs.Kern.{select}
use Rattle.river_plan.specs.Forms.{Name, OpForm, PlanForm}
use Rattle.river_plan.specs.Uses.{named_it}
use Rattle.plan_edits.specs.Lists.{first_with}
use Rattle.plan_edits.specs.declared.unfit.Unfit.{Unfit}
use Rattle.plan_edits.specs.declared.unfit.Unfit.TheVariants.{NoMemory}
use Rattle.rw_local.specs.declared.exprs.Fields.{Fields}
use Rattle.rw_local.specs.declared.exprs.Fields.TheVariants.{Projection, First, Second}
use Rattle.rw_local.specs.Hoist.{of_projection, of_first, of_second}

abbrev pub field_behind : Fields → ℕ → Option ℕ
field_behind (Projection es) = of_projection (terms es.now)
field_behind (First width) = of_first width
field_behind (Second width) = of_second width

-- what the code may say of where a selection goes
abbrev pub IsPassing : Result (ℕ × Term) Unfit → Result (ℕ × Expr) Unfit → Type 0
IsPassing told (Ok x) = told ≡ Ok (x.0, term x.1)
IsPassing told (Err NoMemory) = Unit {0}
IsPassing told (Err f) = told ≡ Err f

-- the first operator of this label selects by this condition, and these are the first queues that it reads and writes
pub record SelectsAt (p : PlanForm) (l : Name) (u : OpForm) (t : Term) (mid out : Name) : Type 0 where
  pub here : first_with (named_it l) p.ops ≡ Some u
  pub kernel : u.kernel ≡ select t
  pub reads : slice_get u.reads 0 ≡ Some mid
  pub writes : slice_get u.writes 0 ≡ Some out
