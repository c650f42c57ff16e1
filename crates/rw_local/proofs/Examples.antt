-- Steps on small plans, computed.
use Rattle.std.proofs.Common.{◌≡◌, ℕ, pos, List, [], ◌∷◌, refl}
use Rattle.std.specs.Prelude.{Ok, Err}
use Rattle.work_code.specs.declared.expr.BinOp.TheVariants as op
use Rattle.work_code.specs.Term.{Term, Const, Input, Bin}
use Rattle.kern_bags.specs.declared.kernel.Window.TheVariants.{Range, Latest}
use Rattle.river_kernels.specs.Kern.{Kern, window, select, cross, duplicate, fused}
use Rattle.river_kernels.specs.Fits.{relation, stream, rows}
use Rattle.river_base.specs.declared.kind.QueueType.{QueueType}
use Rattle.river_plan.specs.declared.plan.Decl.{Decl}
use Rattle.river_plan.specs.Forms.{Name, OpForm, PlanForm}
use Rattle.plan_edits.specs.declared.unfit.Unfit.TheVariants.{U1, U2, H1, H3, H4}
use Rattle.rw_local.specs.Fuse.{fuse_of}
use Rattle.rw_local.specs.Hoist.{hoist_of}

abbrev n : ℕ → Name
n k = k ∷ []

abbrev d : ℕ → QueueType → Decl
d k t = record { name = n k; kind = t }

abbrev o : ℕ → Kern → List Name → List Name → List Name → OpForm
o l k rs ws vs = record { label = n l; kernel = k; reads = rs; writes = ws; vars = vs }

-- field i is above 5
abbrev above : ℕ → Term
above i = Bin op.Gt (Input i) (Const (pos 5))

-- a window, and a selection of what it gives
abbrev windowed : Kern → PlanForm
windowed k = record {
  outputs = [];
  inputs = d 1 (stream 2) ∷ [];
  queues = d 2 (relation 2) ∷ d 3 (relation 2) ∷ [];
  tables = [];
  vars = n 9 ∷ [];
  ops = o 11 k (n 1 ∷ []) (n 2 ∷ []) (n 9 ∷ []) ∷ o 12 (select (above 1)) (n 2 ∷ []) (n 3 ∷ []) [] ∷ [];
}

range_passes : hoist_of (windowed (window (Range (pos 3)))) (n 12) ≡ Ok (record {
  outputs = [];
  inputs = d 1 (stream 2) ∷ [];
  queues = d 2 (stream 2) ∷ d 3 (relation 2) ∷ [];
  tables = [];
  vars = n 9 ∷ [];
  ops = o 12 (select (above 1)) (n 1 ∷ []) (n 2 ∷ []) [] ∷ o 11 (window (Range (pos 3))) (n 2 ∷ []) (n 3 ∷ []) (n 9 ∷ []) ∷ [];
})
range_passes = refl

latest_stops : hoist_of (windowed (window (Latest 4))) (n 12) ≡ Err H3
latest_stops = refl

no_selection : hoist_of (windowed (window (Latest 4))) (n 11) ≡ Err H1
no_selection = refl

-- a product, and a selection of what it gives
abbrev crossed : Term → PlanForm
crossed t = record {
  outputs = [];
  inputs = [];
  queues = d 1 (relation 2) ∷ d 2 (relation 1) ∷ d 3 (relation 3) ∷ d 4 (relation 3) ∷ [];
  tables = [];
  vars = n 9 ∷ [];
  ops = o 11 cross (n 1 ∷ n 2 ∷ []) (n 3 ∷ []) (n 9 ∷ []) ∷ o 12 (select t) (n 3 ∷ []) (n 4 ∷ []) [] ∷ [];
}

second_side : hoist_of (crossed (above 2)) (n 12) ≡ Ok (record (crossed (above 2)) {
  queues = d 1 (relation 2) ∷ d 2 (relation 1) ∷ d 3 (relation 1) ∷ d 4 (relation 3) ∷ [];
  ops = o 12 (select (above 0)) (n 2 ∷ []) (n 3 ∷ []) [] ∷ o 11 cross (n 1 ∷ n 3 ∷ []) (n 4 ∷ []) (n 9 ∷ []) ∷ [];
})
second_side = refl

both_sides : hoist_of (crossed (Bin op.Lt (Input 0) (Input 2))) (n 12) ≡ Err H4
both_sides = refl

no_field : hoist_of (crossed (Const (pos 1))) (n 12) ≡ Ok (record (crossed (Const (pos 1))) {
  queues = d 1 (relation 2) ∷ d 2 (relation 1) ∷ d 3 (relation 2) ∷ d 4 (relation 3) ∷ [];
  ops = o 12 (select (Const (pos 1))) (n 1 ∷ []) (n 3 ∷ []) [] ∷ o 11 cross (n 3 ∷ n 2 ∷ []) (n 4 ∷ []) (n 9 ∷ []) ∷ [];
})
no_field = refl

-- two operators and the queue 2 between them
abbrev fused_two : PlanForm
fused_two = record {
  outputs = d 4 (rows 1) ∷ d 3 (rows 1) ∷ d 5 (rows 1) ∷ [];
  inputs = d 1 (rows 1) ∷ [];
  queues = d 2 (rows 1) ∷ [];
  tables = [];
  vars = [];
  ops = o 11 (duplicate 2) (n 1 ∷ []) (n 2 ∷ n 3 ∷ []) [] ∷ o 12 (duplicate 2) (n 2 ∷ []) (n 4 ∷ n 5 ∷ []) [] ∷ [];
}

two_fuse : fuse_of fused_two (n 2) ≡ Ok
    (record fused_two { queues = []; ops = o 11 (fused (duplicate 2) (duplicate 2) 0) (n 1 ∷ []) (n 4 ∷ n 5 ∷ n 3 ∷ []) [] ∷ [] })
two_fuse = refl

unknown : fuse_of fused_two (n 8) ≡ Err U1
unknown = refl

an_output : fuse_of fused_two (n 3) ≡ Err U2
an_output = refl
