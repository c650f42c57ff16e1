-- How many ports and variables a kernel has.
use Rattle.std.specs.Prelude.{ℕ, ◌+◌, ◌-◌, ℤ, List, [], ◌∷◌, length}
use Rattle.river_kernels.specs.declared.shape.Shape.{Shape}
use Rattle.river_kernels.specs.Kern.{Kern, code, filter, duplicate, deal, collect, packed, unpack, window, select, project, cross, streamer, tally, fused}

abbrev pub shape_with : (ins outs tables privates : ℕ) → Shape
shape_with i o t p = record { ins = i; outs = o; tables = t; privates = p }

-- the slots that are kept are one variable
abbrev pub kept_vars : List ℤ → ℕ
kept_vars [] = 0
kept_vars (z ∷ zs) = 1

-- the second kernel in place of one of the first one's output ports
abbrev pub fused_shape : Shape → Shape → Shape
fused_shape a b = shape_with a.ins (a.outs + b.outs - 1) (a.tables + b.tables) (a.privates + b.privates)

-- input ports, output ports, tables, private variables
abbrev pub shape : Kern → Shape
shape (code k) = shape_with 1 (length k.outs) 0 (kept_vars k.starts)
shape (filter f) = shape_with 1 1 0 1
shape (duplicate n) = shape_with 1 n 0 0
shape (deal ws) = shape_with 1 (length ws) 0 1
shape (collect ws) = shape_with (length ws) 1 0 1
shape (packed k) = shape_with 1 1 0 (shape k).privates
shape (unpack n) = shape_with n 1 0 1
shape (window w) = shape_with 1 1 0 1
shape (select e) = shape_with 1 1 0 0
shape (project es) = shape_with 1 1 0 0
shape cross = shape_with 2 1 0 1
shape (streamer s) = shape_with 1 1 0 1
shape tally = shape_with 1 0 1 0
shape (fused a b at) = fused_shape (shape a) (shape b)
