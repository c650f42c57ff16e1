-- The plan of a stream: operators numbered in order, joined by numbered queues.
use Rattle.std.specs.Prelude.{ℕ, zero, suc, ℤ, pos, ◌+◌, Bool, not, List, [], ◌∷◌, ◌++◌, map, filter, codes}
use Rattle.std.specs.Fmt.{decimal}
use Rattle.river_kernels.specs.Fits.{rows}
use Rattle.river_base.specs.Name.{name_eq}
use Rattle.river_kernels.specs.Kern.{Kern, duplicate, deal, collect}
use Rattle.river_kernels.specs.Kern as kern
use Rattle.river_plan.specs.declared.plan.Decl.{Decl}
use Rattle.river_plan.specs.Forms.{Name, OpForm, PlanForm}
use Rattle.river_plan.specs.Uses.{all_writes, all_vars}
use Rattle.streamit_model.specs.Unrolled.{Splitter, Duplicate, RoundRobin, Stream, Filter, Pipeline, SplitJoin, Streams, Last, Then, number_of}

-- a name with a number behind it
abbrev pub numbered : Name → ℕ → Name
numbered name k = name ++ (codes "@" ++ decimal k)

abbrev pub queue : ℕ → Name
queue k = numbered (codes "q") k

-- n queues, the first of which is number k
abbrev pub queues : ℕ → ℕ → List Name
queues k zero = []
queues k (suc n) = queue k ∷ queues (suc k) n

-- how many operators and how many queues of its own a stream has
abbrev mutual
  pub ops_in : Stream → ℕ
  ops_in (Filter name f) = 1
  ops_in (Pipeline ss) = ops_of ss
  ops_in (SplitJoin d ss ws) = 1 + (ops_of ss + 1)

  pub ops_of : Streams → ℕ
  ops_of (Last s) = ops_in s
  ops_of (Then s ss) = ops_in s + ops_of ss

abbrev mutual
  pub queues_in : Stream → ℕ
  queues_in (Filter name f) = 0
  queues_in (Pipeline ss) = queues_between ss
  queues_in (SplitJoin d ss ws) = number_of ss + (number_of ss + queues_within ss)

  -- of streams in a line: those within them, and one before each but the last
  pub queues_between : Streams → ℕ
  queues_between (Last s) = queues_in s
  queues_between (Then s ss) = suc (queues_in s + queues_between ss)

  pub queues_within : Streams → ℕ
  queues_within (Last s) = queues_in s
  queues_within (Then s ss) = queues_in s + queues_within ss

-- an operator with a variable of its own, named as itself
abbrev pub with_own : Name → Kern → List Name → List Name → OpForm
with_own label kernel reads writes = record { label = label; kernel = kernel; reads = reads; writes = writes; vars = label ∷ [] }

abbrev pub weights : List ℕ → List ℤ
weights ws = map pos ws

abbrev pub splitter : Splitter → ℕ → Name → Name → List Name → OpForm
splitter Duplicate n label from to = record { label = label; kernel = duplicate n; reads = from ∷ []; writes = to; vars = [] }
splitter (RoundRobin ws) n label from to = with_own label (deal (weights ws)) (from ∷ []) to

abbrev pub joiner : List ℕ → Name → List Name → Name → OpForm
joiner ws label from to = with_own label (collect (weights ws)) from (to ∷ [])

-- the operators of a stream from one queue to another, where c is the number of the first of them, and k that of the first queue made
abbrev mutual
  pub build : Stream → ℕ → ℕ → Name → Name → List OpForm
  build (Filter name f) c k from to = with_own (numbered name c) (kern.filter f) (from ∷ []) (to ∷ []) ∷ []
  build (Pipeline ss) c k from to = build_line ss c k from to
  build (SplitJoin d ss ws) c k from to =
      let n = number_of ss in
      splitter d n (numbered (codes "split") c) from (queues k n)
      ∷ (build_branches ss (suc c) (k + (n + n)) k (k + n)
      ++ joiner ws (numbered (codes "join") (suc c + ops_of ss)) (queues (k + n) n) to ∷ [])

  -- a queue before each but the last is built
  pub build_line : Streams → ℕ → ℕ → Name → Name → List OpForm
  build_line (Last s) c k from to = build s c k from to
  build_line (Then s ss) c k from to = build s c (suc k) from (queue k) ++ build_line ss (c + ops_in s) (suc k + queues_in s) (queue k) to

  -- each from its queue to its queue: a and b are the numbers of those of the first
  pub build_branches : Streams → ℕ → ℕ → ℕ → ℕ → List OpForm
  build_branches (Last s) c k a b = build s c k (queue a) (queue b)
  build_branches (Then s ss) c k a b = build s c k (queue a) (queue b) ++ build_branches ss (c + ops_in s) (k + queues_in s) (suc a) (suc b)

-- a queue of single values
abbrev pub values_in : Name → Decl
values_in name = record { name = name; kind = rows 1 }

abbrev pub ops_from : Stream → List OpForm
ops_from s = build s 1 1 (codes "in") (codes "out")

-- a queue of the plan's own: not its output
abbrev pub is_own_queue : Name → Bool
is_own_queue q = not (name_eq q (codes "out"))

-- the queues of its own, in the order in which the operators write them
abbrev pub own_queues : List OpForm → List Name
own_queues ops = filter is_own_queue (all_writes ops)

abbrev pub plan_of : Stream → PlanForm
plan_of s =
    record {
      outputs = values_in (codes "out") ∷ [];
      inputs = values_in (codes "in") ∷ [];
      queues = map values_in (own_queues (ops_from s));
      tables = [];
      vars = all_vars (ops_from s);
      ops = ops_from s;
    }
