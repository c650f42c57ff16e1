-- Each operator of a stream's plan fits its queues and its variable, names its variable as itself, and is within its limits.
use Rattle.std.proofs.Common.{◌≡◌, ℕ, zero, suc, pos, ◌+◌, ◌<◌, ◌≤◌, true, Option, Some, None, List, [], ◌∷◌, ◌++◌, length, map, refl, sym, ap, ◌∙◌, arith, ⊎_elim}
use Rattle.std.specs.Prelude.{All, nat_le, replicate}
use Rattle.std.specs.List.{AllByRecursion, list_all}
use Rattle.std.proofs.lemmas.List.{length-map}
use Rattle.std.proofs.lemmas.List.Elements.{All-nil, All-cons, All-append}
use Rattle.std.proofs.lemmas.Bool.{and_from, le-leb}
use Rattle.river_base.specs.Number.{count_of}
use Rattle.river_base.specs.declared.kind.FlatType.TheVariants.{Rows}
use Rattle.river_base.specs.declared.kind.QueueType.{QueueType}
use Rattle.kern_rows.specs.Forms.{FilterForm, RunForm}
use Rattle.river_kernels.specs.Fits.{rows}
use Rattle.river_kernels.specs.Formed.{are_weights}
use Rattle.river_kernels.specs.Kern.{filter}
use Rattle.river_kernels.specs.Limits.{body_numbers, rate_numbers, run_numbers, first_numbers, part_numbers, weight_numbers, nesting, weight_sum, size}
use Rattle.river_kernels.specs.declared.limit.Limit.{Limit}
use Rattle.river_kernels.specs.declared.limit.Limit.TheVariants as limit
use Rattle.river_kernels.specs.declared.types.VarKind.{VarKind}
use Rattle.river_kernels.specs.declared.types.VarKind.TheVariants.{Private}
use Rattle.river_plan.specs.Forms.{Name, OpForm}
use Rattle.river_plan.specs.Names.{count}
use Rattle.river_plan.specs.Uses.{Each, total, reads_it, writes_it, vars_it, named_it}
use Rattle.river_plan.specs.Kinds.{FitsAt}
use Rattle.river_plan.specs.Limits.{most_of, port_numbers, kernel_numbers, nestings}
use Rattle.river_plan.proofs.NameLemmas.{one_same, more_or_zero}
use Rattle.brooklet_model.specs.ByIndex.{cycle}
use Rattle.streamit_model.specs.Unrolled.{Splitter, Duplicate, RoundRobin, IsSplitter, IsRound, IsSmallFilter, IsSmallRun, IsSmallFirst, IsSmallSplitter}
use Rattle.streamit_model.specs.Plan.{queue, queues, weights, splitter}
use Rattle.streamit_model.proofs.EachOp.{OfEach}

-- THE VARIABLE

-- an operator owns its variable
abbrev pub OwnsIt : OpForm → Type 0
OwnsIt op = (v : Name) → vars_it v op ≤ named_it v op

owns_split : (d : Splitter) (n k : ℕ) (label from : Name) → OwnsIt (splitter d n label from (queues k n))
owns_split Duplicate n k label from v = omega arith
owns_split (RoundRobin ws) n k label from v = omega arith

-- no variable is named more often than the operator has its name
pub own_each : OfEach OwnsIt
own_each = record {
  filters = λ label f from to ok small v. omega arith;
  splits = λ d n k label from ok small some few v. owns_split d n k label from v;
  joins = λ ws n k label to ok small some few v. omega arith;
}

-- THE TYPES

-- an operator's kernel fits its queues
abbrev pub IsFitting : OpForm → Type 0
IsFitting op =
    (kind : Name → QueueType) (var : Name → VarKind) → ((q : Name) → 0 < reads_it q op + writes_it q op → kind q ≡ rows 1)
    → ((v : Name) → 0 < vars_it v op → var v ≡ Private)
    → FitsAt kind var op

kinds_of : (kind : Name → QueueType) (n k : ℕ) → ((q : Name) → 0 < count q (queues k n) → kind q ≡ rows 1) → map kind (queues k n) ≡ replicate n (rows 1)
kinds_of kind zero k h = refl
kinds_of kind (suc n) k h =
    ap (λ t. t ∷ map kind (queues (suc k) n)) (h (queue k) (let o = one_same (queue k) in omega (arith, o)))
    ∙ ap (λ ts. rows 1 ∷ ts) (kinds_of kind n (suc k) (λ q lt. h q (omega (arith, lt))))

one_kind : {K : Type 0} (kind : Name → K) (k : K) (q : Name) → ((x : Name) → 0 < count x (q ∷ []) → kind x ≡ k) → map kind (q ∷ []) ≡ k ∷ []
one_kind kind k q h = ap (λ t. t ∷ []) (h q (let o = one_same q in omega (arith, o)))

all_positive : (ws : List ℕ) → AllByRecursion (λ w. 0 < w) ws → list_all (λ w. nat_le 1 (count_of w)) (weights ws) ≡ true
all_positive [] h = refl
all_positive (w ∷ ws) h = and_from (nat_le 1 w) (list_all (λ w. nat_le 1 (count_of w)) (weights ws)) (let a = h.0 in grind (arith, a)) (all_positive ws h.1)

weights_good : (ws : List ℕ) (n : ℕ) → IsRound ws n → 0 < n → are_weights (weights ws) ≡ true
weights_good ws n r lt =
    let l = length-map ws pos in
    let m = r.number in
    and_from (nat_le 1 (length (weights ws))) (list_all (λ w. nat_le 1 (count_of w)) (weights ws)) (le-leb 1 (length (weights ws)) (omega (arith, l, m, lt)))
    (all_positive ws r.each)

many : (ws : List ℕ) (n : ℕ) → IsRound ws n → replicate n (rows 1) ≡ replicate (length (weights ws)) (rows 1)
many ws n r = ap (λ k. replicate k (rows 1)) (sym (length-map ws pos ∙ r.number))

fits_split : (d : Splitter) (n k : ℕ) (label from : Name) → IsSplitter d n → 0 < n → IsFitting (splitter d n label from (queues k n))
fits_split Duplicate n k label from ok some kind var hq hv =
    (Rows 1, one_kind kind (rows 1) from (λ q lt. hq q (omega (arith, lt))), kinds_of kind n k (λ q lt. hq q (omega (arith, lt))), refl, le-leb 1 n some)
fits_split (RoundRobin ws) n k label from ok some kind var hq hv = (
  Rows 1,
  one_kind kind (rows 1) from (λ q lt. hq q (omega (arith, lt))),
  kinds_of kind n k (λ q lt. hq q (omega (arith, lt)))
      ∙ many ws n ok,
  one_kind var Private label hv,
  weights_good ws n ok some,
)

-- the queues and the variable of each operator fit its kernel
pub fits_each : OfEach IsFitting
fits_each = record {
  filters = λ label f from to ok small kind var hq hv. (
    one_kind kind (rows 1) from (λ q lt. hq q (omega (arith, lt))),
    one_kind kind (rows 1) to (λ q lt. hq q (omega (arith, lt))),
    one_kind var Private label hv,
    ok,
  );
  splits = λ d n k label from ok small some few. fits_split d n k label from ok some;
  joins = λ ws n k label to ok small some few kind var hq hv. (
    Rows 1,
    kinds_of kind n k (λ q lt. hq q (omega (arith, lt)))
        ∙ many ws n ok,
    one_kind kind (rows 1) to (λ q lt. hq q (omega (arith, lt))),
    one_kind var Private label hv,
    weights_good ws n ok some,
  );
}

-- where all queues that the operators name carry single values, and all their variables are private, they fit
pub all_fit : (kind : Name → QueueType) (var : Name → VarKind) (ops : List OpForm) → Each IsFitting ops
    → ((q : Name) → 0 < total (reads_it q) ops → kind q ≡ rows 1) → ((q : Name) → 0 < total (writes_it q) ops → kind q ≡ rows 1)
    → ((v : Name) → 0 < total (vars_it v) ops → var v ≡ Private)
    → Each (FitsAt kind var) ops
all_fit kind var [] h r w v = tt
all_fit kind var (op ∷ ops) h r w v = (
  h.0 kind var (λ q lt. ⊎_elim (λ a. r q (omega (arith, a))) (λ z. w q (omega (arith, lt, z))) (more_or_zero (reads_it q op)))
      (λ x lt. v x (omega (arith, lt))),
  all_fit kind var ops h.1 (λ q lt. r q (omega (arith, lt))) (λ q lt. w q (omega (arith, lt))) (λ x lt. v x (omega (arith, lt))),
)

-- THE LIMITS

-- an operator's ports are within their limits
pub record IsWithin (op : OpForm) : Type 0 where
  pub reads : length op.reads ≤ 64
  pub writes : length op.writes ≤ 64
  pub numbers : (l : Limit) → All (λ n. n ≤ most_of l) (part_numbers l op.kernel)
  pub nested : nesting op.kernel ≤ 32
  pub vars : length op.vars ≤ 1

length-queues : (n k : ℕ) → length (queues k n) ≡ n
length-queues zero k = refl
length-queues (suc n) k = ap suc (length-queues n (suc k))

one : (most n : ℕ) → n ≤ most → All (λ (m : ℕ). m ≤ most) (n ∷ [])
one most n h = All-cons (λ (m : ℕ). m ≤ most) n [] h (All-nil (λ (m : ℕ). m ≤ most))

more : (most n : ℕ) (ns : List ℕ) → n ≤ most → All (λ (m : ℕ). m ≤ most) ns → All (λ (m : ℕ). m ≤ most) (n ∷ ns)
more most n ns h all = All-cons (λ (m : ℕ). m ≤ most) n ns h all

nothing : (most : ℕ) → All (λ (m : ℕ). m ≤ most) []
nothing most = All-nil (λ (m : ℕ). m ≤ most)

usual_within : (f : FilterForm) (l : Limit) → IsSmallFilter f → All (λ n. n ≤ most_of l) (body_numbers l f.body ++ rate_numbers l f)
usual_within f limit.Inputs h = nothing 8
usual_within f limit.Operators h = nothing 256
usual_within f limit.Queues h = nothing 512
usual_within f limit.Variables h = nothing 256
usual_within f limit.Ports h = nothing 64
usual_within f limit.Statements h = one 16384 (size f.body.steps) h.statements
usual_within f limit.Slots h = one 256 f.body.slots h.slots
usual_within f limit.Rates h = more 65536 f.peek (f.pop ∷ f.push ∷ []) h.peek (more 65536 f.pop (f.push ∷ []) h.pop (one 65536 f.push h.push))
usual_within f limit.Weights h = nothing 65536
usual_within f limit.Nesting h = nothing 32
usual_within f limit.Latest h = nothing 1000000
usual_within f limit.Best h = nothing 1000000

run_within : (f : RunForm) (l : Limit) → IsSmallRun f → All (λ n. n ≤ most_of l) (body_numbers l f.body ++ run_numbers l f)
run_within f limit.Inputs h = nothing 8
run_within f limit.Operators h = nothing 256
run_within f limit.Queues h = nothing 512
run_within f limit.Variables h = nothing 256
run_within f limit.Ports h = nothing 64
run_within f limit.Statements h = one 16384 (size f.body.steps) h.statements
run_within f limit.Slots h = one 256 f.body.slots h.slots
run_within f limit.Rates h = more 65536 f.peek (f.pop ∷ f.push ∷ []) h.peek (more 65536 f.pop (f.push ∷ []) h.pop (one 65536 f.push h.push))
run_within f limit.Weights h = nothing 65536
run_within f limit.Nesting h = nothing 32
run_within f limit.Latest h = nothing 1000000
run_within f limit.Best h = nothing 1000000

first_within : (o : Option RunForm) (l : Limit) → IsSmallFirst o → All (λ n. n ≤ most_of l) (first_numbers l o)
first_within None l h = All-nil (λ n. n ≤ most_of l)
first_within (Some r) l h = run_within r l h

filter_within : (f : FilterForm) (l : Limit) → IsSmallFilter f → All (λ n. n ≤ most_of l) (part_numbers l (filter f))
filter_within f l h =
    All-append (λ n. n ≤ most_of l) (first_numbers l f.first) (body_numbers l f.body ++ rate_numbers l f) (first_within f.first l h.first) (usual_within f l h)

none_within : (l : Limit) → All (λ n. n ≤ most_of l) []
none_within l = All-nil (λ n. n ≤ most_of l)

weights_sum : (ws : List ℕ) → weight_sum (weights ws) ≡ cycle ws
weights_sum [] = refl
weights_sum (w ∷ ws) = ap (λ s. w + s) (weights_sum ws)

deal_within : (ws : List ℕ) (l : Limit) → cycle ws ≤ 65536 → All (λ n. n ≤ most_of l) (weight_numbers l (weights ws))
deal_within ws limit.Inputs h = nothing 8
deal_within ws limit.Operators h = nothing 256
deal_within ws limit.Queues h = nothing 512
deal_within ws limit.Variables h = nothing 256
deal_within ws limit.Ports h = nothing 64
deal_within ws limit.Statements h = nothing 16384
deal_within ws limit.Slots h = nothing 256
deal_within ws limit.Rates h = nothing 65536
deal_within ws limit.Weights h = one 65536 (weight_sum (weights ws)) (let e = weights_sum ws in omega (arith, e, h))
deal_within ws limit.Nesting h = nothing 32
deal_within ws limit.Latest h = nothing 1000000
deal_within ws limit.Best h = nothing 1000000

within_split : (d : Splitter) (n k : ℕ) (label from : Name) → IsSmallSplitter d → n ≤ 64 → IsWithin (splitter d n label from (queues k n))
within_split Duplicate n k label from small few = let e = length-queues n k in record {
  reads = omega arith;
  writes = omega (arith, e, few);
  numbers = none_within;
  nested = omega arith;
  vars = omega arith;
}
within_split (RoundRobin ws) n k label from small few = let e = length-queues n k in record {
  reads = omega arith;
  writes = omega (arith, e, few);
  numbers = λ l. deal_within ws l small;
  nested = omega arith;
  vars = omega arith;
}

-- the numbers of each operator are within the limits
pub within_each : OfEach IsWithin
within_each = record {
  filters = λ label f from to ok small. record {
    reads = omega arith;
    writes = omega arith;
    numbers = λ l. filter_within f l small;
    nested = omega arith;
    vars = omega arith;
  };
  splits = λ d n k label from ok small some few. within_split d n k label from small few;
  joins = λ ws n k label to ok small some few. let e = length-queues n k in record {
    reads = omega (arith, e, few);
    writes = omega arith;
    numbers = λ l. deal_within ws l small;
    nested = omega arith;
    vars = omega arith;
  };
}

-- no kernel has more than 64 ports
pub ports_within : (ops : List OpForm) → Each IsWithin ops → All (λ n. n ≤ 64) (port_numbers ops)
ports_within [] h = nothing 64
ports_within (op ∷ ops) h =
    more 64 (length op.reads) (length op.writes ∷ port_numbers ops) h.0.reads (more 64 (length op.writes) (port_numbers ops) h.0.writes (ports_within ops h.1))

-- no number of a kernel is above its limit
pub kernels_within : (l : Limit) (ops : List OpForm) → Each IsWithin ops → All (λ n. n ≤ most_of l) (kernel_numbers l ops)
kernels_within l [] h = All-nil (λ n. n ≤ most_of l)
kernels_within l (op ∷ ops) h = All-append (λ n. n ≤ most_of l) (part_numbers l op.kernel) (kernel_numbers l ops) (h.0.numbers l) (kernels_within l ops h.1)

-- no expression or statement nests too deep
pub nested_within : (ops : List OpForm) → Each IsWithin ops → All (λ n. n ≤ 32) (nestings ops)
nested_within [] h = nothing 32
nested_within (op ∷ ops) h = more 32 (nesting op.kernel) (nestings ops) h.0.nested (nested_within ops h.1)
