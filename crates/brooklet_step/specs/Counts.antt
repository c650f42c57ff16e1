-- How many ports, tables and private variables a kernel has.
use Rattle.std.specs.Prelude.{◌≡◌}
use Rattle.river_kernels.specs.Kern.{Kern}
use Rattle.brooklet_model.specs.Fire.{outs, tabs, privates}
use Rattle.brooklet_step.specs.declared.counts.Counts.{Counts}

-- the numbers are the kernel's
pub record AreCountsOf (k : Kern) (c : Counts) : Type 0 where
  pub outs_are : c.outs ≡ outs k
  pub tables_are : c.tables ≡ tabs k
  pub privates_are : c.privates ≡ privates k
