-- The plain form of each kernel.
use Rattle.std.proofs.Common.{◌≡◌, ℕ, ℤ, List, Global, Box, sym, ap, ◌∙◌}
use Rattle.work_code.specs.Term.{term, terms}
use Rattle.work_code.specs.declared.expr.Expr.{Expr}
use Rattle.work_code.specs.declared.expr.Exprs.{Exprs}
use Rattle.kern_rows.specs.Forms.{code_form, filter_form}
use Rattle.kern_rows.specs.declared.kernel.CodeKernel.{CodeKernel}
use Rattle.kern_rows.specs.declared.kernel.Filter.{Filter}
use Rattle.kern_bags.specs.declared.kernel.Window.{Window}
use Rattle.kern_bags.specs.declared.kernel.Streamer.{Streamer}
use Rattle.river_kernels.specs.declared.kernel.Kernel.{Kernel, fold-roll-Kernel}
use Rattle.river_kernels.specs.declared.kernel.Kernel.TheVariants as kernel
use Rattle.river_kernels.specs.declared.kernel.Kernel.TheOpen as layer
use Rattle.river_kernels.specs.Kern.{Kern, kern_of, kern_at, code, filter, duplicate, deal, collect, packed, unpack, window, select, project, cross}
use Rattle.river_kernels.specs.Kern.{streamer, tally, fused}

-- a body as plain data
pub kern_of-code : (k : CodeKernel) → kern_of (kernel.Code k) ≡ code (code_form k)
kern_of-code k = ap kern_of (sym (kernel.rolls-Code k)) ∙ fold-roll-Kernel Kern kern_at (layer.Code k)

-- a filter as plain data
pub kern_of-filter : (f : Filter) → kern_of (kernel.Filter f) ≡ filter (filter_form f)
kern_of-filter f = ap kern_of (sym (kernel.rolls-Filter f)) ∙ fold-roll-Kernel Kern kern_at (layer.Filter f)

-- a kernel that copies, as plain data
pub kern_of-duplicate : (n : ℕ) → kern_of (kernel.Duplicate n) ≡ duplicate n
kern_of-duplicate n = ap kern_of (sym (kernel.rolls-Duplicate n)) ∙ fold-roll-Kernel Kern kern_at (layer.Duplicate n)

-- a splitter as plain data
pub kern_of-deal : (ws : List ℤ) → kern_of (kernel.Deal ws) ≡ deal ws
kern_of-deal ws = ap kern_of (sym (kernel.rolls-Deal ws)) ∙ fold-roll-Kernel Kern kern_at (layer.Deal ws)

-- a joiner as plain data
pub kern_of-collect : (ws : List ℤ) → kern_of (kernel.Collect ws) ≡ collect ws
kern_of-collect ws = ap kern_of (sym (kernel.rolls-Collect ws)) ∙ fold-roll-Kernel Kern kern_at (layer.Collect ws)

-- a packed kernel as plain data
pub kern_of-packed : (a : Box Kernel Global) → kern_of (kernel.Packed a) ≡ packed (kern_of a.value)
kern_of-packed a = ap kern_of (sym (kernel.rolls-Packed a)) ∙ fold-roll-Kernel Kern kern_at (layer.Packed a)

-- a joiner of packs as plain data
pub kern_of-unpack : (n : ℕ) → kern_of (kernel.Unpack n) ≡ unpack n
kern_of-unpack n = ap kern_of (sym (kernel.rolls-Unpack n)) ∙ fold-roll-Kernel Kern kern_at (layer.Unpack n)

-- a window as plain data
pub kern_of-window : (w : Window) → kern_of (kernel.Window w) ≡ window w
kern_of-window w = ap kern_of (sym (kernel.rolls-Window w)) ∙ fold-roll-Kernel Kern kern_at (layer.Window w)

-- a selection as plain data
pub kern_of-select : (e : Expr) → kern_of (kernel.Select e) ≡ select (term e)
kern_of-select e = ap kern_of (sym (kernel.rolls-Select e)) ∙ fold-roll-Kernel Kern kern_at (layer.Select e)

-- a projection as plain data
pub kern_of-project : (es : Exprs) → kern_of (kernel.Project es) ≡ project (terms es)
kern_of-project es = ap kern_of (sym (kernel.rolls-Project es)) ∙ fold-roll-Kernel Kern kern_at (layer.Project es)

-- a product as plain data
pub kern_of-cross : kern_of kernel.Cross ≡ cross
kern_of-cross = ap kern_of (sym kernel.rolls-Cross) ∙ fold-roll-Kernel Kern kern_at layer.Cross

-- a streamer as plain data
pub kern_of-streamer : (s : Streamer) → kern_of (kernel.Streamer s) ≡ streamer s
kern_of-streamer s = ap kern_of (sym (kernel.rolls-Streamer s)) ∙ fold-roll-Kernel Kern kern_at (layer.Streamer s)

-- a tally as plain data
pub kern_of-tally : kern_of kernel.Tally ≡ tally
kern_of-tally = ap kern_of (sym kernel.rolls-Tally) ∙ fold-roll-Kernel Kern kern_at layer.Tally

-- a fused kernel as plain data
pub kern_of-fused : (a b : Box Kernel Global) (at : ℕ) → kern_of (kernel.Fused a b at) ≡ fused (kern_of a.value) (kern_of b.value) at
kern_of-fused a b at = ap kern_of (sym (kernel.rolls-Fused a b at)) ∙ fold-roll-Kernel Kern kern_at (layer.Fused a b at)
