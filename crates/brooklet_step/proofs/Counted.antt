-- The ports and variables of a kernel, as its shape tells them.
use Rattle.std.proofs.Common.{◌≡◌, ◌+◌, ◌-◌, ℤ, List, [], ◌∷◌, replicate, refl, ap, ◌∙◌}
use Rattle.std.proofs.Math.Path.{ap₂}
use Rattle.river_kernels.specs.declared.shape.Shape.{Shape}
use Rattle.river_kernels.specs.Kern.{Kern, code, packed, fused}
use Rattle.river_kernels.specs.Shape.{shape, kept_vars as kept_told}
use Rattle.brooklet_model.specs.Fire.{outs, tabs, privates, kept_vars}
use Rattle.brooklet_step.specs.declared.emit.Emit.{Emit}
use Rattle.brooklet_step.specs.declared.counts.Counts.{Counts}
use Rattle.brooklet_step.specs.Counts.{AreCountsOf}
use Rattle.brooklet_step.specs.Took.{IsBlank}

-- the number of outputs that the code counts
pub outs_told : (k : Kern) → (shape k).outs ≡ outs k
outs_told (fused a b at) = ap₂ (λ m n. m + n - 1) (outs_told a) (outs_told b)
outs_told kernel = refl

-- the number of tables that the code counts
pub tabs_told : (k : Kern) → (shape k).tables ≡ tabs k
tabs_told (fused a b at) = ap₂ (λ m n. m + n) (tabs_told a) (tabs_told b)
tabs_told kernel = refl

kept_same : (zs : List ℤ) → kept_told zs ≡ kept_vars zs
kept_same [] = refl
kept_same (z ∷ zs) = refl

-- the number of private variables that the code counts
pub privates_told : (k : Kern) → (shape k).privates ≡ privates k
privates_told (code k) = kept_same k.starts
privates_told (packed k) = privates_told k
privates_told (fused a b at) = ap₂ (λ m n. m + n) (privates_told a) (privates_told b)
privates_told kernel = refl

-- so what a shape tells are the numbers of the kernel
pub shape_counts : (k : Kern) (s : Shape) → s ≡ shape k → AreCountsOf k (record { outs = s.outs; tables = s.tables; privates = s.privates })
shape_counts k s e = record {
  outs_are = ap (λ (t : Shape). t.outs) e ∙ outs_told k;
  tables_are = ap (λ (t : Shape). t.tables) e ∙ tabs_told k;
  privates_are = ap (λ (t : Shape). t.privates) e ∙ privates_told k;
}

-- empty lists for the ports and tables that are counted are those of the kernel
pub blank_by : (k : Kern) (c : Counts) (e : Emit) → AreCountsOf k c → e.outs ≡ replicate c.outs [] → e.adds ≡ replicate c.tables [] → IsBlank k e
blank_by k c e h o a = record { outs = o ∙ ap (λ n. replicate n []) h.outs_are; adds = a ∙ ap (λ n. replicate n []) h.tables_are }
