-- The two bounds that the grammar of River text has and a valid plan need not meet.
use Rattle.std.specs.Prelude.{◌≤◌, pos, negsuc, Option, None, Some}
use Rattle.kern_bags.specs.declared.kernel.Window.{Window}
use Rattle.kern_bags.specs.declared.kernel.Window.TheVariants.{Now, Range, Unbounded, Latest}
use Rattle.kern_rows.specs.Forms.{RunForm}
use Rattle.river_kernels.specs.Kern.{Kern}
use Rattle.river_kernels.specs.Kern as kern
use Rattle.river_plan.specs.Forms.{PlanForm}
use Rattle.river_print.specs.Writable.{Every, depths}

abbrev pub IsShallowFirst : Option RunForm → Type 0
IsShallowFirst None = Unit {0}
IsShallowFirst (Some r) = depths r.body.steps ≤ 16

-- in each body of the kernel `if` nests at most 16 deep
abbrev pub IsShallow : Kern → Type 0
IsShallow (kern.code c) = depths c.body.steps ≤ 16
IsShallow (kern.filter f) = (depths f.body.steps ≤ 16) × IsShallowFirst f.first
IsShallow (kern.packed k) = IsShallow k
IsShallow (kern.fused a b at) = IsShallow a × IsShallow b
IsShallow kernel = Unit {0}

-- no window's range is below 0
abbrev pub IsForward : Window → Type 0
IsForward Now = Unit {0}
IsForward (Range (pos n)) = Unit {0}
IsForward (Range (negsuc n)) = ⊥
IsForward Unbounded = Unit {0}
IsForward (Latest n) = Unit {0}

abbrev pub HasForward : Kern → Type 0
HasForward (kern.packed k) = HasForward k
HasForward (kern.window w) = IsForward w
HasForward (kern.fused a b at) = HasForward a × HasForward b
HasForward kernel = Unit {0}

-- `if` nests at most 16 deep, and no window's range is below 0
pub record IsPrintable (p : PlanForm) : Type 0 where
  pub shallow : Every (λ op. IsShallow op.kernel) p.ops
  pub forward : Every (λ op. HasForward op.kernel) p.ops
