-- The numbers in a kernel that are limited, in the order of its parts.
use Rattle.std.specs.Prelude.{ℕ, ◌+◌, ◌-◌, ◌^◌, ℤ, List, [], ◌∷◌, ◌++◌, Option, Some, None, min, max, nat_lt, if◌then◌else◌}
use Rattle.work_code.specs.Steps.{Step, Steps, Set, Push, If, Done, Then, BodyForm}
use Rattle.kern_rows.specs.Forms.{FilterForm, RunForm}
use Rattle.kern_bags.specs.declared.kernel.Window.{Window}
use Rattle.kern_bags.specs.declared.kernel.Window.TheVariants.{Now, Range, Unbounded, Latest as LatestRows}
use Rattle.river_kernels.specs.declared.limit.Limit.{Limit}
use Rattle.river_kernels.specs.declared.limit.Limit.TheVariants.{Inputs, Operators, Queues, Variables, Ports, Statements, Slots, Rates, Weights, Nesting}
use Rattle.river_kernels.specs.declared.limit.Limit.TheVariants.{Latest, Best}
use Rattle.river_base.specs.Number.{count_of}
use Rattle.river_kernels.specs.Kern.{Kern, code, filter, deal, collect, packed, window, fused}

-- a number as it is told; from 2^128 on it is told as 2^128 - 1
abbrev pub told : ℕ → ℕ
told n = min n (2 ^ 128 - 1)

-- the first, or where there is none the second
abbrev pub either : {A : Type 0} → Option A → Option A → Option A
either (Some x) o = Some x
either None o = o

-- the first number above the most, as it is told
abbrev pub first_above : ℕ → List ℕ → Option ℕ
first_above most [] = None
first_above most (n ∷ ns) = if nat_lt most n then Some (told n) else first_above most ns

-- how many statements there are, those of both arms counted
abbrev mutual
  pub size_once : Step → ℕ
  size_once (Set slot t) = 1
  size_once (Push port ts) = 1
  size_once (If cond when otherwise) = 1 + (size when + size otherwise)

  pub size : Steps → ℕ
  size Done = 0
  size (Then s ss) = size_once s + size ss

-- the sum of the weights; one below 0 counts as 0
abbrev pub weight_sum : List ℤ → ℕ
weight_sum [] = 0
weight_sum (w ∷ ws) = count_of w + weight_sum ws

-- 1 more than the greatest of the parts of `packed` and `fused`; 1 for other kernels
abbrev pub nesting : Kern → ℕ
nesting (packed k) = 1 + nesting k
nesting (fused a b at) = 1 + max (nesting a) (nesting b)
nesting kernel = 1

-- the statements, or the slots, of one body
abbrev pub body_numbers : Limit → BodyForm → List ℕ
body_numbers Inputs b = []
body_numbers Operators b = []
body_numbers Queues b = []
body_numbers Variables b = []
body_numbers Ports b = []
body_numbers Statements b = size b.steps ∷ []
body_numbers Slots b = b.slots ∷ []
body_numbers Rates b = []
body_numbers Weights b = []
body_numbers Nesting b = []
body_numbers Latest b = []
body_numbers Best b = []

-- the rates of one filter: peek, pop, push
abbrev pub rate_numbers : Limit → FilterForm → List ℕ
rate_numbers Inputs f = []
rate_numbers Operators f = []
rate_numbers Queues f = []
rate_numbers Variables f = []
rate_numbers Ports f = []
rate_numbers Statements f = []
rate_numbers Slots f = []
rate_numbers Rates f = f.peek ∷ f.pop ∷ f.push ∷ []
rate_numbers Weights f = []
rate_numbers Nesting f = []
rate_numbers Latest f = []
rate_numbers Best f = []

-- the rates of a first run
abbrev pub run_numbers : Limit → RunForm → List ℕ
run_numbers Inputs r = []
run_numbers Operators r = []
run_numbers Queues r = []
run_numbers Variables r = []
run_numbers Ports r = []
run_numbers Statements r = []
run_numbers Slots r = []
run_numbers Rates r = r.peek ∷ r.pop ∷ r.push ∷ []
run_numbers Weights r = []
run_numbers Nesting r = []
run_numbers Latest r = []
run_numbers Best r = []

abbrev pub first_numbers : Limit → Option RunForm → List ℕ
first_numbers limit None = []
first_numbers limit (Some r) = body_numbers limit r.body ++ run_numbers limit r

-- the first run is read before the others
abbrev pub filter_numbers : Limit → FilterForm → List ℕ
filter_numbers limit f = first_numbers limit f.first ++ (body_numbers limit f.body ++ rate_numbers limit f)

-- the sum of the weights of one splitter or joiner
abbrev pub weight_numbers : Limit → List ℤ → List ℕ
weight_numbers Inputs ws = []
weight_numbers Operators ws = []
weight_numbers Queues ws = []
weight_numbers Variables ws = []
weight_numbers Ports ws = []
weight_numbers Statements ws = []
weight_numbers Slots ws = []
weight_numbers Rates ws = []
weight_numbers Weights ws = weight_sum ws ∷ []
weight_numbers Nesting ws = []
weight_numbers Latest ws = []
weight_numbers Best ws = []

-- the rows of one window of the latest rows
abbrev pub latest_rows : Window → List ℕ
latest_rows Now = []
latest_rows (Range t) = []
latest_rows Unbounded = []
latest_rows (LatestRows n) = n ∷ []

abbrev pub window_numbers : Limit → Window → List ℕ
window_numbers Inputs w = []
window_numbers Operators w = []
window_numbers Queues w = []
window_numbers Variables w = []
window_numbers Ports w = []
window_numbers Statements w = []
window_numbers Slots w = []
window_numbers Rates w = []
window_numbers Weights w = []
window_numbers Nesting w = []
window_numbers Latest w = latest_rows w
window_numbers Best w = []

-- the numbers of the parts that hold no kernel, first those of the first part
abbrev pub part_numbers : Limit → Kern → List ℕ
part_numbers limit (code k) = body_numbers limit k.body
part_numbers limit (filter f) = filter_numbers limit f
part_numbers limit (deal ws) = weight_numbers limit ws
part_numbers limit (collect ws) = weight_numbers limit ws
part_numbers limit (packed k) = part_numbers limit k
part_numbers limit (window w) = window_numbers limit w
part_numbers limit (fused a b at) = part_numbers limit a ++ part_numbers limit b
part_numbers limit kernel = []
