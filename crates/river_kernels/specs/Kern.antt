-- Kernels as plain data, without the places in memory where they are kept: all definitions speak of these.
use Rattle.std.specs.Prelude.{ℕ, ℤ, List}
use Rattle.work_code.specs.Term.{Term, term, terms}
use Rattle.kern_rows.specs.Forms.{CodeForm, FilterForm, code_form, filter_form}
use Rattle.kern_bags.specs.declared.kernel.Window.{Window}
use Rattle.kern_bags.specs.declared.kernel.Streamer.{Streamer}
use Rattle.river_kernels.specs.declared.kernel.Kernel.{Kernel, fold-Kernel}
use Rattle.river_kernels.specs.declared.kernel.Kernel.TheOpen.{Kernel-F}
use Rattle.river_kernels.specs.declared.kernel.Kernel.TheOpen as layer

pub data Kern : Type 0 where
  code : CodeForm → Kern
  filter : FilterForm → Kern
  duplicate : ℕ → Kern
  deal : List ℤ → Kern
  collect : List ℤ → Kern
  packed : Kern → Kern
  unpack : ℕ → Kern
  window : Window → Kern
  select : Term → Kern
  project : List Term → Kern
  cross : Kern
  streamer : Streamer → Kern
  tally : Kern
  fused : Kern → Kern → ℕ → Kern

-- one layer of a kernel, whose parts are plain already
abbrev pub kern_at : Kernel-F Kern → Kern
kern_at (layer.Code k) = code (code_form k)
kern_at (layer.Filter f) = filter (filter_form f)
kern_at (layer.Duplicate n) = duplicate n
kern_at (layer.Deal ws) = deal ws
kern_at (layer.Collect ws) = collect ws
kern_at (layer.Packed k) = packed k.value
kern_at (layer.Unpack n) = unpack n
kern_at (layer.Window w) = window w
kern_at (layer.Select e) = select (term e)
kern_at (layer.Project es) = project (terms es)
kern_at layer.Cross = cross
kern_at (layer.Streamer s) = streamer s
kern_at layer.Tally = tally
kern_at (layer.Fused a b at) = fused a.value b.value at

-- the kernel as plain data
abbrev pub kern_of : Kernel → Kern
kern_of k = fold-Kernel Kern kern_at k
