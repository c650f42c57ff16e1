-- Kernels that are no filters are not split by blocks, and the kernels of joiners.
use Rattle.std.proofs.Common.{◌≡◌, ℕ, None, refl, ap}
use Rattle.kern_rows.specs.declared.kernel.Filter.{Filter}
use Rattle.river_kernels.specs.declared.kernel.Kernel.{Kernel, fold_out-Kernel}
use Rattle.river_kernels.specs.declared.kernel.Kernel as view
use Rattle.river_kernels.specs.declared.kernel.Kernel.TheVariants as kernel
use Rattle.river_kernels.specs.Kern.{Kern, kern_of, kern_at}
use Rattle.river_plan.specs.Forms.{OpForm, PlanForm}
use Rattle.rw_fission.specs.Asked.{blocks_way}
use Rattle.rw_fission.specs.Made.{FissionNames}

-- a kernel that is no filter is not split by blocks
pub no_blocks : (k : Kernel) → ((f : Filter) → k ≡ kernel.Filter f → ⊥) → (p : PlanForm) (op : OpForm) (m : FissionNames) (n : ℕ)
    → blocks_way p op m n (kern_of k) ≡ None
unfolding view.out-Kernel denote.Hole.Carrier.out
no_blocks (kernel.Filter f) h p op m n = absurd (h f refl)
no_blocks k h p op m n = ap (blocks_way p op m n) (fold_out-Kernel Kern kern_at k)
