-- The plan of a stream is valid.
use Rattle.std.proofs.Common.{◌≡◌, ℕ, zero, suc, ◌+◌, ◌<◌, ◌≤◌, List, [], ◌∷◌, length, map, Some, refl, sym, ap, ◌∙◌, subst, arith, ⊎_elim, length-append}
use Rattle.std.specs.Prelude.{codes, All, unwrap_or, if◌then◌else◌}
use Rattle.std.proofs.lemmas.List.{length-map}
use Rattle.std.proofs.lemmas.List.Elements.{All-nil, All-cons}
use Rattle.river_base.specs.Name.{name_eq}
use Rattle.river_kernels.specs.Fits.{rows}
use Rattle.river_kernels.specs.declared.limit.Limit.{Limit}
use Rattle.river_kernels.specs.declared.limit.Limit.TheVariants as limit
use Rattle.river_kernels.specs.declared.types.VarKind.TheVariants.{Private, Table}
use Rattle.river_plan.specs.Forms.{Name, OpForm, decl_names, queue_names, all_decls}
use Rattle.river_plan.specs.Names.{one_if, count}
use Rattle.river_plan.specs.Uses.{Each, total, reads_it, writes_it, vars_it, named_it, all_writes, all_vars}
use Rattle.river_plan.specs.Faults.{IsOuter, HasWidth, IsTableKind}
use Rattle.river_plan.specs.Kinds.{kind_in, kind_of, private_in, var_kind}
use Rattle.river_plan.specs.Limits.{most_of, numbers}
use Rattle.river_plan.specs.Valid.{IsPlan}
use Rattle.river_plan.proofs.NameLemmas.{cases_name, one_same}
use Rattle.river_plan.proofs.ShareLemmas.{total-vars}
use Rattle.streamit_model.specs.Unrolled.{Stream, IsStream, IsSmall}
use Rattle.streamit_model.specs.Plan.{queues, ops_in, queues_in, values_in, ops_from, own_queues, plan_of}
use Rattle.streamit_model.specs.Laws.{PlansAreValid}
use Rattle.streamit_model.proofs.Numbers.{number_in, meets_once, queue_count, queues_once}
use Rattle.streamit_model.proofs.Counts.{writes, reads, named, operators, few_queues}
use Rattle.streamit_model.proofs.EachOp.{each_op}
use Rattle.streamit_model.proofs.Ordered.{ordered}
use Rattle.streamit_model.proofs.OwnQueues.{total-writes, own_never, own_other, own_length, written_length}
use Rattle.streamit_model.proofs.Fitting.{OwnsIt, own_each, IsFitting, fits_each, all_fit, IsWithin, within_each, ports_within, kernels_within, nested_within}

-- NAMES

-- no queue with a number is called `in` or `out`
no_in : (n k : ℕ) → count (codes "in") (queues k n) ≡ 0
no_in zero k = refl
no_in (suc n) k = let e = no_in n (suc k) in omega (arith, e)

no_out : (n k : ℕ) → count (codes "out") (queues k n) ≡ 0
no_out zero k = refl
no_out (suc n) k = let e = no_out n (suc k) in omega (arith, e)

-- the names of queues that are declared
pub names_of : (ns : List Name) → decl_names (map values_in ns) ≡ ns
names_of [] = refl
names_of (n ∷ ns) = ap (λ l. n ∷ l) (names_of ns)

kind_known : (ns : List Name) (q : Name) → 0 < count q ns → kind_of (map values_in ns) q ≡ rows 1
kind_known [] q lt = absurd (omega (arith, lt))
kind_known (n ∷ ns) q lt = ⊎_elim
    (λ c. ap (λ b. unwrap_or (if b then Some (rows 1) else kind_in (map values_in ns) q) (rows 0)) c.1)
    (λ c. ap (λ b. unwrap_or (if b then Some (rows 1) else kind_in (map values_in ns) q) (rows 0)) c.1
    ∙ kind_known ns q (let o = ap one_if c.1 in omega (arith, o, lt)))
    (cases_name n q)

var_known : (vs : List Name) (v : Name) → 0 < count v vs → var_kind [] vs v ≡ Private
var_known [] v lt = absurd (omega (arith, lt))
var_known (w ∷ vs) v lt = ⊎_elim
    (λ c. ap (λ b. unwrap_or (if b then Some Private else private_in vs v) (Table 0)) c.1)
    (λ c. ap (λ b. unwrap_or (if b then Some Private else private_in vs v) (Table 0)) c.1 ∙ var_known vs v (let o = ap one_if c.1 in omega (arith, o, lt)))
    (cases_name w v)

each_le : (f g : OpForm → ℕ) (ops : List OpForm) → Each (λ op. f op ≤ g op) ops → total f ops ≤ total g ops
each_le f g [] h = omega arith
each_le f g (op ∷ ops) h = let a = h.0 in let b = each_le f g ops h.1 in omega (arith, a, b)

each_map : (P Q : OpForm → Type 0) (ops : List OpForm) → ((op : OpForm) → P op → Q op) → Each P ops → Each Q ops
each_map P Q [] f h = tt
each_map P Q (op ∷ ops) f h = (f op h.0, each_map P Q ops f h.1)

few_vars : (ops : List OpForm) → Each IsWithin ops → length (all_vars ops) ≤ length ops
few_vars [] h = omega arith
few_vars (op ∷ ops) h = let a = h.0.vars in let b = few_vars ops h.1 in let l = length-append op.vars (all_vars ops) in omega (arith, a, b, l)

one : (most n : ℕ) → n ≤ most → All (λ (m : ℕ). m ≤ most) (n ∷ [])
one most n h = All-cons (λ (m : ℕ). m ≤ most) n [] h (All-nil (λ (m : ℕ). m ≤ most))

widths : (ns : List Name) → All HasWidth (map values_in ns)
widths [] = All-nil HasWidth
widths (n ∷ ns) = All-cons HasWidth (values_in n) (map values_in ns) refl (widths ns)

module _ (s : Stream) (ok : IsStream s) (small : IsSmall s) (few : ops_in s ≤ 256) where
  abbrev ops : List OpForm
  ops = ops_from s

  abbrev ours : List Name
  ours = own_queues ops

  abbrev all : List Name
  all = codes "out" ∷ codes "in" ∷ ours

  numbered_ones : (q : Name) → total (writes_it q) ops ≡ one_if (name_eq (codes "out") q) + count q (queues 1 (queues_in s))
  numbered_ones q = writes s 1 1 (codes "in") (codes "out") q ∙ ap (λ n. one_if (name_eq (codes "out") q) + n) (sym (queue_count q (queues_in s) 1))

  -- a queue is declared as often as its number is one of the stream's
  ours_are : (q : Name) → count q ours ≡ count q (queues 1 (queues_in s))
  ours_are q = ⊎_elim
      (λ c.
      let n : count q (queues 1 (queues_in s)) ≡ 0 = subst (λ n. count n (queues 1 (queues_in s)) ≡ 0) c.0 (no_out (queues_in s) 1) in
      let o : count q ours ≡ 0 = subst (λ n. count n ours ≡ 0) c.0 (own_never (all_writes ops)) in
      omega (arith, n, o))
      (λ c.
      let a = own_other q (all_writes ops) c.1 in
      let t = total-writes q ops in
      let w = numbered_ones q in
      let o : one_if (name_eq (codes "out") q) ≡ 0 = ap one_if c.1 in
      omega (arith, a, t, w, o))
      (cases_name (codes "out") q)

  queue_names_are : queue_names (plan_of s) ≡ all
  queue_names_are = ap (λ l. codes "out" ∷ codes "in" ∷ l) (names_of ours)

  ours_once : (q : Name) → count q ours ≤ 1
  ours_once q = let a = ours_are q in let e = few_queues s in let b = queues_once q (queues_in s) 1 (omega (arith, e, few)) in omega (arith, a, b)

  all_once : (q : Name) → count q all ≤ 1
  all_once q = ⊎_elim
      (λ c.
      let o : one_if (name_eq (codes "out") q) ≡ 1 = ap one_if c.1 in
      let i : one_if (name_eq (codes "in") q) ≡ 0 = subst (λ n. one_if (name_eq (codes "in") n) ≡ 0) c.0 refl in
      let n : count q ours ≡ 0 = subst (λ n. count n ours ≡ 0) c.0 (own_never (all_writes ops)) in
      omega (arith, o, i, n))
      (λ c.
      let o : one_if (name_eq (codes "out") q) ≡ 0 = ap one_if c.1 in ⊎_elim
      (λ d.
      let i : one_if (name_eq (codes "in") q) ≡ 1 = ap one_if d.1 in
      let n : count q ours ≡ 0 = subst (λ n. count n ours ≡ 0) d.0 (ours_are (codes "in") ∙ no_in (queues_in s) 1) in
      omega (arith, o, i, n))
      (λ d. let i : one_if (name_eq (codes "in") q) ≡ 0 = ap one_if d.1 in let n = ours_once q in omega (arith, o, i, n))
      (cases_name (codes "in") q))
      (cases_name (codes "out") q)

  written : (q : Name) → total (writes_it q) ops ≡ one_if (name_eq (codes "out") q) + count q ours
  written q = numbered_ones q ∙ ap (λ n. one_if (name_eq (codes "out") q) + n) (sym (ours_are q))

  read : (q : Name) → total (reads_it q) ops ≡ one_if (name_eq (codes "in") q) + count q ours
  read q = reads s 1 1 (codes "in") (codes "out") q ∙ ap (λ n. one_if (name_eq (codes "in") q) + n) (sym (ours_are q ∙ queue_count q (queues_in s) 1))

  ours_length : length ours ≡ queues_in s
  ours_length =
      let a = own_length (all_writes ops) in
      let b = written_length s 1 1 (codes "in") (codes "out") in
      let t = total-writes (codes "out") ops in
      let w = written (codes "out") in
      let n = own_never (all_writes ops) in
      let o = one_same (codes "out") in
      omega (arith, a, b, t, w, n, o)

  labels : (l : Name) → total (named_it l) ops ≤ 1
  labels l =
      let a = named s 1 1 (codes "in") (codes "out") l (omega (arith, few)) in
      let b = meets_once (number_in l) (ops_in s) 1 in
      omega (arith, a, b)

  owned : Each OwnsIt ops
  owned = each_op OwnsIt own_each s 1 1 (codes "in") (codes "out") ok small

  vars_le : (v : Name) → total (vars_it v) ops ≤ 1
  vars_le v =
      let a = each_le (vars_it v) (named_it v) ops (each_map OwnsIt (λ op. vars_it v op ≤ named_it v op) ops (λ op h. h v) owned) in
      let b = labels v in
      omega (arith, a, b)

  bit : (l : Name) (op : OpForm) → named_it l op ≤ 1
  bit l op = ⊎_elim (λ c. let e = ap one_if c.1 in omega (arith, e)) (λ c. let e = ap one_if c.1 in omega (arith, e)) (cases_name op.label l)

  within : Each IsWithin ops
  within = each_op IsWithin within_each s 1 1 (codes "in") (codes "out") ok small

  limited : (l : Limit) → All (λ n. n ≤ most_of l) (numbers l (plan_of s))
  limited limit.Inputs = one 8 1 (omega arith)
  limited limit.Operators = one 256 (length ops) (let e = operators s 1 1 (codes "in") (codes "out") in omega (arith, e, few))
  limited limit.Queues =
      one 512 (1 + (1 + length (map values_in ours)))
      (let a = length-map ours values_in in let b = ours_length in let c = few_queues s in omega (arith, a, b, c, few))
  limited limit.Variables =
      one 256 (0 + length (all_vars ops)) (let a = few_vars ops within in let e = operators s 1 1 (codes "in") (codes "out") in omega (arith, a, e, few))
  limited limit.Ports = ports_within ops within
  limited limit.Statements = kernels_within limit.Statements ops within
  limited limit.Slots = kernels_within limit.Slots ops within
  limited limit.Rates = kernels_within limit.Rates ops within
  limited limit.Weights = kernels_within limit.Weights ops within
  limited limit.Nesting = nested_within ops within
  limited limit.Latest = kernels_within limit.Latest ops within
  limited limit.Best = All-nil (λ (m : ℕ). m ≤ 1000000)

  -- the plan of a stream is valid
  pub valid : IsPlan (plan_of s)
  valid = record {
    queues_once = λ q. subst (λ l. count q l ≤ 1) (sym queue_names_are) (all_once q);
    variables_once = λ v. let a = total-vars v ops in let b = vars_le v in omega (arith, a, b);
    labels_once = labels;
    reads_declared = λ q lt. subst (λ l. 0 < count q l) (sym queue_names_are) (let r = read q in omega (arith, r, lt));
    writes_declared = λ q lt. subst (λ l. 0 < count q l) (sym queue_names_are) (let w = written q in omega (arith, w, lt));
    vars_declared = λ v lt. let a = total-vars v ops in omega (arith, a, lt);
    written_once = λ q. let w = written q in let a = all_once q in omega (arith, w, a);
    read_once = λ q. let r = read q in let a = all_once q in omega (arith, r, a);
    in_order = ordered s 1 1 (codes "in") (codes "out") (λ q. count q (codes "in" ∷ [])) (let o = one_same (codes "in") in omega (arith, o));
    outputs_typed = All-cons IsOuter (values_in (codes "out")) [] (refl, tt) (All-nil IsOuter);
    inputs_typed = All-cons IsOuter (values_in (codes "in")) [] (refl, tt) (All-nil IsOuter);
    queues_typed = widths ours;
    tables_typed = All-nil (λ t. IsTableKind t.kind);
    fits = all_fit (kind_of (all_decls (plan_of s))) (var_kind [] (all_vars ops)) ops (each_op IsFitting fits_each s 1 1 (codes "in") (codes "out") ok small)
        (λ q lt. kind_known all q (let r = read q in omega (arith, r, lt)))
        (λ q lt. kind_known all q (let w = written q in omega (arith, w, lt)))
        (λ v lt. var_known (all_vars ops) v (let a = total-vars v ops in omega (arith, a, lt)));
    within = limited;
    vars_apart = each_map OwnsIt (λ op. (v : Name) → vars_it v op ≤ 1) ops (λ op h v. let a = h v in let b = bit v op in omega (arith, a, b)) owned;
    private_once = λ v lt. vars_le v;
  }

-- the law: so are all plans of streams
pub plans_are_valid : PlansAreValid
plans_are_valid s ok small few = valid s ok small few
