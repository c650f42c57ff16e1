-- Each operator of a stream reads what is known, or what one before it writes.
use Rattle.std.proofs.Common.{ℕ, suc, ◌+◌, ◌<◌, List, [], ◌∷◌, ◌++◌, ap, subst, arith, ⊎_elim}
use Rattle.std.specs.Prelude.{codes}
use Rattle.river_plan.specs.Forms.{Name, OpForm}
use Rattle.river_plan.specs.Names.{one_if, count}
use Rattle.river_plan.specs.Uses.{total, writes_it, AreAllKnown, and_writes, ReadsBefore}
use Rattle.river_plan.proofs.NameLemmas.{cases_name, one_same, more_or_zero}
use Rattle.streamit_model.specs.Unrolled.{Splitter, Duplicate, RoundRobin, Stream, Filter, Pipeline, SplitJoin, Streams, Last, Then, number_of}
use Rattle.streamit_model.specs.Plan.{numbered, queue, queues, ops_in, ops_of, queues_in, splitter, joiner, build, build_line, build_branches}
use Rattle.streamit_model.proofs.Numbers.{queue_count}
use Rattle.streamit_model.proofs.Counts.{writes, writes_branches, split_writes}

more_known : (ops : List OpForm) (known known' : Name → ℕ) → ((q : Name) → 0 < known q → 0 < known' q) → ReadsBefore known ops → ReadsBefore known' ops
more_known [] known known' m h = tt
more_known (op ∷ ops) known known' m h = (
  λ q lt. m q (h.0 q lt),
  more_known ops (and_writes known op) (and_writes known' op) (λ q lt. ⊎_elim
      (λ z. let w = m q z in omega (arith, w))
      (λ z. omega (arith, z, lt))
      (more_or_zero (known q))) h.1,
)

reads-append : (xs ys : List OpForm) (known after : Name → ℕ) → ReadsBefore known xs → ((q : Name) → 0 < after q → 0 < known q + total (writes_it q) xs)
    → ReadsBefore after ys → ReadsBefore known (xs ++ ys)
reads-append [] ys known after h m r = more_known ys after known (λ q lt. let e = m q lt in omega (arith, e)) r
reads-append (x ∷ xs) ys known after h m r = (h.0, reads-append xs ys (and_writes known x) after h.1 (λ q lt. let e = m q lt in omega (arith, e)) r)

known_one : (known : Name → ℕ) (from : Name) → 0 < known from → AreAllKnown known (from ∷ [])
known_one known from h q lt = ⊎_elim
    (λ c. subst (λ x. 0 < known x) c.0 h)
    (λ c. absurd (let o = ap one_if c.1 in omega (arith, o, lt)))
    (cases_name from q)

split_first : (d : Splitter) (n k : ℕ) (label from : Name) (known : Name → ℕ) → 0 < known from → AreAllKnown known (splitter d n label from (queues k n)).reads
split_first Duplicate n k label from known h = known_one known from h
split_first (RoundRobin ws) n k label from known h = known_one known from h

mutual
  -- each operator reads queues that are known: the input, or one that operators before it write
  pub ordered : (s : Stream) (c k : ℕ) (from to : Name) (known : Name → ℕ) → 0 < known from → ReadsBefore known (build s c k from to)
  ordered (Filter name f) c k from to known h = (known_one known from h, tt)
  ordered (Pipeline ss) c k from to known h = ordered_line ss c k from to known h
  ordered (SplitJoin d ss ws) c k from to known h =
      let n = number_of ss in
      let first = splitter d n (numbered (codes "split") c) from (queues k n) in
      let branches = build_branches ss (suc c) (k + (n + n)) k (k + n) in
      let after = λ (q : Name). and_writes known first q + total (writes_it q) branches in (
        split_first d n k (numbered (codes "split") c) from known h,
        reads-append branches (joiner ws (numbered (codes "join") (suc c + ops_of ss)) (queues (k + n) n) to ∷ []) (and_writes known first) after
            (ordered_branches ss (suc c) (k + (n + n)) k (k + n) (and_writes known first)
            (λ q lt. let w = split_writes d n k (numbered (codes "split") c) from q in let e = queue_count q n k in omega (arith, w, e, lt)))
            (λ q lt. lt)
            ((λ q lt. let w = writes_branches ss (suc c) (k + (n + n)) k (k + n) q in let e = queue_count q n (k + n) in omega (arith, w, e, lt)), tt),
      )

  ordered_line : (ss : Streams) (c k : ℕ) (from to : Name) (known : Name → ℕ) → 0 < known from → ReadsBefore known (build_line ss c k from to)
  ordered_line (Last s) c k from to known h = ordered s c k from to known h
  ordered_line (Then s ss) c k from to known h =
      let one = build s c (suc k) from (queue k) in
      reads-append one (build_line ss (c + ops_in s) (suc k + queues_in s) (queue k) to) known (λ q. known q + total (writes_it q) one)
      (ordered s c (suc k) from (queue k) known h)
      (λ q lt. lt)
      (ordered_line ss (c + ops_in s) (suc k + queues_in s) (queue k) to _
      (let w = writes s c (suc k) from (queue k) (queue k) in let o = one_same (queue k) in omega (arith, w, o)))

  ordered_branches : (ss : Streams) (c k a b : ℕ) (known : Name → ℕ) → ((q : Name) → 0 < count q (queues a (number_of ss)) → 0 < known q)
      → ReadsBefore known (build_branches ss c k a b)
  ordered_branches (Last s) c k a b known h = ordered s c k (queue a) (queue b) known (h (queue a) (let o = one_same (queue a) in omega (arith, o)))
  ordered_branches (Then s ss) c k a b known h =
      let one = build s c k (queue a) (queue b) in
      reads-append one (build_branches ss (c + ops_in s) (k + queues_in s) (suc a) (suc b)) known (λ q. known q + total (writes_it q) one)
      (ordered s c k (queue a) (queue b) known (h (queue a) (let o = one_same (queue a) in omega (arith, o))))
      (λ q lt. lt)
      (ordered_branches ss (c + ops_in s) (k + queues_in s) (suc a) (suc b) _ (λ q lt. let e = h q (omega (arith, lt)) in omega (arith, e)))
