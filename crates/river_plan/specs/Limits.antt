-- What is limited in a plan.
use Rattle.std.specs.Prelude.{ℕ, ◌+◌, ◌≤◌, List, [], ◌∷◌, Option, length, map, flat_map}
use Rattle.kern_tables.specs.declared.kind.TableKind.{TableKind}
use Rattle.kern_tables.specs.declared.kind.TableKind.TheVariants.{Sum, Collection, Maximum}
use Rattle.river_kernels.specs.declared.limit.Limit.{Limit}
use Rattle.river_kernels.specs.declared.limit.Limit.TheVariants.{Inputs, Operators, Queues, Variables, Ports, Statements, Slots, Rates, Weights, Nesting}
use Rattle.river_kernels.specs.declared.limit.Limit.TheVariants.{Latest, Best}
use Rattle.river_kernels.specs.Limits.{told, part_numbers, nesting}
use Rattle.river_plan.specs.declared.fault.PlanFault.{PlanFault}
use Rattle.river_plan.specs.declared.fault.PlanFault.TheVariants.{P8}
use Rattle.river_plan.specs.Forms.{OpForm, PlanForm}
use Rattle.river_plan.specs.First.{As, IsFirst, Along}

-- the most that is allowed
abbrev pub most_of : Limit → ℕ
most_of Inputs = 8
most_of Operators = 256
most_of Queues = 512
most_of Variables = 256
most_of Ports = 64
most_of Statements = 16384
most_of Slots = 256
most_of Rates = 65536
most_of Weights = 65536
most_of Nesting = 32
most_of Latest = 1000000
most_of Best = 1000000

-- the order in which limits are told
abbrev pub limits : List Limit
limits = Inputs ∷ Operators ∷ Queues ∷ Variables ∷ Ports ∷ Statements ∷ Slots ∷ Rates ∷ Weights ∷ Nesting ∷ Latest ∷ Best ∷ []

-- the ports of an operator: how many queues it reads, how many it writes
abbrev pub port_numbers : List OpForm → List ℕ
port_numbers ops = flat_map (λ op. length op.reads ∷ length op.writes ∷ []) ops

-- the numbers in the kernels of the operators
abbrev pub kernel_numbers : Limit → List OpForm → List ℕ
kernel_numbers limit ops = flat_map (λ op. part_numbers limit op.kernel) ops

abbrev pub nestings : List OpForm → List ℕ
nestings ops = map (λ op. nesting op.kernel) ops

-- the rows that a maximum keeps for each key
abbrev pub best_rows : TableKind → List ℕ
best_rows (Sum keys) = []
best_rows (Collection keys) = []
best_rows (Maximum best keys) = best ∷ []

-- the numbers of a plan that a limit bounds, in the order of the lists
abbrev pub numbers : Limit → PlanForm → List ℕ
numbers Inputs p = length p.inputs ∷ []
numbers Operators p = length p.ops ∷ []
numbers Queues p = (length p.outputs + (length p.inputs + length p.queues)) ∷ []
numbers Variables p = (length p.tables + length p.vars) ∷ []
numbers Ports p = port_numbers p.ops
numbers Statements p = kernel_numbers Statements p.ops
numbers Slots p = kernel_numbers Slots p.ops
numbers Rates p = kernel_numbers Rates p.ops
numbers Weights p = kernel_numbers Weights p.ops
numbers Nesting p = nestings p.ops
numbers Latest p = kernel_numbers Latest p.ops
numbers Best p = flat_map (λ t. best_rows t.kind) p.tables

-- P8: the first limit that a number exceeds, and the first number that exceeds it
abbrev pub OverLimitAt : PlanForm → Limit → Option PlanFault → Type 0
OverLimitAt p limit = As (λ n. P8 limit (told n)) (IsFirst (λ before n. n ≤ most_of limit) (numbers limit p))

abbrev pub OverLimit : PlanForm → Option PlanFault → Type 0
OverLimit p = Along (λ before limit. OverLimitAt p limit) [] limits
