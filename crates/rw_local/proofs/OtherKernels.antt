-- Kernels that no selection passes, and that are none.
use Rattle.std.proofs.Common.{◌≡◌, ℕ, Err, refl, ap}
use Rattle.work_code.specs.Term.{Term}
use Rattle.work_code.specs.declared.expr.Expr.{Expr}
use Rattle.work_code.specs.declared.expr.Exprs.{Exprs}
use Rattle.kern_bags.specs.declared.kernel.Window.{Window}
use Rattle.kern_bags.specs.declared.kernel.Streamer.{Streamer}
use Rattle.river_kernels.specs.declared.kernel.Kernel.{Kernel, fold_out-Kernel}
use Rattle.river_kernels.specs.declared.kernel.Kernel as view
use Rattle.river_kernels.specs.declared.kernel.Kernel.TheVariants as kernel
use Rattle.river_kernels.specs.Kern.{Kern, kern_of, kern_at}
use Rattle.river_plan.specs.Forms.{OpForm, PlanForm}
use Rattle.plan_edits.specs.declared.unfit.Unfit.TheVariants.{H1, H3}
use Rattle.rw_local.specs.Hoist.{passes, hoist_kernel}

-- it is no selection
pub no_condition : (k : Kernel) → ((e : Expr) → k ≡ kernel.Select e → ⊥) → (p : PlanForm) (u : OpForm) → hoist_kernel p u (kern_of k) ≡ Err H1
unfolding view.out-Kernel denote.Hole.Carrier.out
no_condition (kernel.Select e) h p u = absurd (h e refl)
no_condition k h p u = ap (hoist_kernel p u) (fold_out-Kernel Kern kern_at k)

-- none passes it
pub no_passing : (k : Kernel) → ((w : Window) → k ≡ kernel.Window w → ⊥) → ((s : Streamer) → k ≡ kernel.Streamer s → ⊥)
    → ((es : Exprs) → k ≡ kernel.Project es → ⊥) → (k ≡ kernel.Cross → ⊥) → (width : ℕ) (t : Term) → passes width (kern_of k) t ≡ Err H3
unfolding view.out-Kernel denote.Hole.Carrier.out
no_passing (kernel.Window w) a b c d width t = absurd (a w refl)
no_passing (kernel.Streamer s) a b c d width t = absurd (b s refl)
no_passing (kernel.Project es) a b c d width t = absurd (c es refl)
no_passing kernel.Cross a b c d width t = absurd (d refl)
no_passing k a b c d width t = ap (λ j. passes width j t) (fold_out-Kernel Kern kern_at k)
