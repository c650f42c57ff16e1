-- How often a stream's operators write, read and name.
use Rattle.std.proofs.Common.{◌≡◌, ℕ, suc, ◌+◌, ◌^◌, ◌≤◌, [], ◌∷◌, ◌++◌, length, refl, ap, ◌∙◌, arith, length-append}
use Rattle.std.specs.Prelude.{codes}
use Rattle.river_plan.proofs.ValidLaw.{total-append}
use Rattle.river_base.specs.Name.{name_eq}
use Rattle.river_plan.specs.Forms.{Name}
use Rattle.river_plan.specs.Names.{one_if, count}
use Rattle.river_plan.specs.Uses.{total, writes_it, reads_it, named_it}
use Rattle.streamit_model.specs.Unrolled.{Splitter, Duplicate, RoundRobin, Stream, Filter, Pipeline, SplitJoin, Streams, Last, Then, number_of}
use Rattle.streamit_model.specs.Plan.{numbered, queue, queues, ops_in, ops_of, queues_in, queues_between, queues_within, splitter, joiner, build, build_line}
use Rattle.streamit_model.specs.Plan.{build_branches}
use Rattle.streamit_model.proofs.Numbers.{number_in, sum_from, sum_split, meets, named_le, queue_count}

-- queue number j is x
abbrev pub here : Name → ℕ → ℕ
here x j = one_if (name_eq (queue j) x)

-- how often a splitter writes a queue
pub split_writes : (d : Splitter) (n k : ℕ) (label from x : Name) → count x (splitter d n label from (queues k n)).writes ≡ sum_from (here x) k n
split_writes Duplicate n k label from x = queue_count x n k
split_writes (RoundRobin ws) n k label from x = queue_count x n k

split_reads : (d : Splitter) (n k : ℕ) (label from x : Name) → count x (splitter d n label from (queues k n)).reads ≡ one_if (name_eq from x) + 0
split_reads Duplicate n k label from x = refl
split_reads (RoundRobin ws) n k label from x = refl

-- how often a splitter owns a name
pub split_named : (d : Splitter) (n k : ℕ) (label from x : Name) → named_it x (splitter d n label from (queues k n)) ≡ one_if (name_eq label x)
split_named Duplicate n k label from x = refl
split_named (RoundRobin ws) n k label from x = refl

-- the queues of a split-join, in the order in which they are made
three : (f : ℕ → ℕ) (k n m : ℕ) → sum_from f k (n + (n + m)) ≡ sum_from f k n + (sum_from f (k + n) n + sum_from f (k + (n + n)) m)
three f k n m =
    let a = sum_split f n (n + m) k in
    let b = sum_split f n m (k + n) in
    let c = ap (λ j. sum_from f j m) (let e : k + n + n ≡ k + (n + n) = omega arith in e) in
    omega (arith, a, b, c)

-- those of streams in a line
two : (f : ℕ → ℕ) (k m n : ℕ) → sum_from f k (suc (m + n)) ≡ f k + (sum_from f (suc k) m + sum_from f (suc k + m) n)
two f k m n = ap (λ s. f k + s) (sum_split f m n (suc k))

-- the operators of a split-join: one, those of the branches, one
ends : (f : ℕ → ℕ) (c m : ℕ) → sum_from f c (1 + (m + 1)) ≡ f c + (sum_from f (suc c) m + f (suc c + m))
ends f c m =
    let a = sum_split f m 1 (suc c) in
    ap (sum_from f c) (let e : 1 + (m + 1) ≡ suc (m + 1) = omega arith in e) ∙ omega (arith, a)

mutual
  -- how often the operators of a stream write a queue
  pub writes : (s : Stream) (c k : ℕ) (from to x : Name) → total (writes_it x) (build s c k from to) ≡ one_if (name_eq to x) + sum_from (here x) k (queues_in s)
  writes (Filter name f) c k from to x = omega arith
  writes (Pipeline ss) c k from to x = writes_line ss c k from to x
  writes (SplitJoin d ss ws) c k from to x =
      let n = number_of ss in
      let a = split_writes d n k (numbered (codes "split") c) from x in
      let b = writes_branches ss (suc c) (k + (n + n)) k (k + n) x in
      let t = total-append (writes_it x) (build_branches ss (suc c) (k + (n + n)) k (k + n))
      (joiner ws (numbered (codes "join") (suc c + ops_of ss)) (queues (k + n) n) to ∷ []) in
      let q = three (here x) k n (queues_within ss) in
      ap (λ j. j + total (writes_it x)
      (build_branches ss (suc c) (k + (n + n)) k (k + n) ++ (joiner ws (numbered (codes "join") (suc c + ops_of ss)) (queues (k + n) n) to ∷ []))) a
      ∙ omega (arith, b, t, q)

  writes_line : (ss : Streams) (c k : ℕ) (from to x : Name)
      → total (writes_it x) (build_line ss c k from to) ≡ one_if (name_eq to x) + sum_from (here x) k (queues_between ss)
  writes_line (Last s) c k from to x = writes s c k from to x
  writes_line (Then s ss) c k from to x =
      let a = writes s c (suc k) from (queue k) x in
      let b = writes_line ss (c + ops_in s) (suc k + queues_in s) (queue k) to x in
      let t = total-append (writes_it x) (build s c (suc k) from (queue k)) (build_line ss (c + ops_in s) (suc k + queues_in s) (queue k) to) in
      let q = two (here x) k (queues_in s) (queues_between ss) in
      omega (arith, a, b, t, q)

  -- and those of branches
  pub writes_branches : (ss : Streams) (c k a b : ℕ) (x : Name)
      → total (writes_it x) (build_branches ss c k a b) ≡ sum_from (here x) b (number_of ss) + sum_from (here x) k (queues_within ss)
  writes_branches (Last s) c k a b x = let e = writes s c k (queue a) (queue b) x in omega (arith, e)
  writes_branches (Then s ss) c k a b x =
      let e = writes s c k (queue a) (queue b) x in
      let i = writes_branches ss (c + ops_in s) (k + queues_in s) (suc a) (suc b) x in
      let t = total-append (writes_it x) (build s c k (queue a) (queue b)) (build_branches ss (c + ops_in s) (k + queues_in s) (suc a) (suc b)) in
      let q = sum_split (here x) (queues_in s) (queues_within ss) k in
      omega (arith, e, i, t, q)

mutual
  -- how often they read it
  pub reads : (s : Stream) (c k : ℕ) (from to x : Name) → total (reads_it x) (build s c k from to) ≡ one_if (name_eq from x) + sum_from (here x) k (queues_in s)
  reads (Filter name f) c k from to x = omega arith
  reads (Pipeline ss) c k from to x = reads_line ss c k from to x
  reads (SplitJoin d ss ws) c k from to x =
      let n = number_of ss in
      let a = split_reads d n k (numbered (codes "split") c) from x in
      let b = reads_branches ss (suc c) (k + (n + n)) k (k + n) x in
      let j = queue_count x n (k + n) in
      let t = total-append (reads_it x) (build_branches ss (suc c) (k + (n + n)) k (k + n))
      (joiner ws (numbered (codes "join") (suc c + ops_of ss)) (queues (k + n) n) to ∷ []) in
      let q = three (here x) k n (queues_within ss) in
      ap (λ j. j + total (reads_it x)
      (build_branches ss (suc c) (k + (n + n)) k (k + n) ++ (joiner ws (numbered (codes "join") (suc c + ops_of ss)) (queues (k + n) n) to ∷ []))) a
      ∙ omega (arith, b, j, t, q)

  reads_line : (ss : Streams) (c k : ℕ) (from to x : Name)
      → total (reads_it x) (build_line ss c k from to) ≡ one_if (name_eq from x) + sum_from (here x) k (queues_between ss)
  reads_line (Last s) c k from to x = reads s c k from to x
  reads_line (Then s ss) c k from to x =
      let a = reads s c (suc k) from (queue k) x in
      let b = reads_line ss (c + ops_in s) (suc k + queues_in s) (queue k) to x in
      let t = total-append (reads_it x) (build s c (suc k) from (queue k)) (build_line ss (c + ops_in s) (suc k + queues_in s) (queue k) to) in
      let q = two (here x) k (queues_in s) (queues_between ss) in
      omega (arith, a, b, t, q)

  reads_branches : (ss : Streams) (c k a b : ℕ) (x : Name)
      → total (reads_it x) (build_branches ss c k a b) ≡ sum_from (here x) a (number_of ss) + sum_from (here x) k (queues_within ss)
  reads_branches (Last s) c k a b x = let e = reads s c k (queue a) (queue b) x in omega (arith, e)
  reads_branches (Then s ss) c k a b x =
      let e = reads s c k (queue a) (queue b) x in
      let i = reads_branches ss (c + ops_in s) (k + queues_in s) (suc a) (suc b) x in
      let t = total-append (reads_it x) (build s c k (queue a) (queue b)) (build_branches ss (c + ops_in s) (k + queues_in s) (suc a) (suc b)) in
      let q = sum_split (here x) (queues_in s) (queues_within ss) k in
      omega (arith, e, i, t, q)

-- a label stands at most where its number does
mutual
  -- how often they own a name, at most
  pub named : (s : Stream) (c k : ℕ) (from to x : Name) → c + ops_in s ≤ 2 ^ 64
      → total (named_it x) (build s c k from to) ≤ sum_from (meets (number_in x)) c (ops_in s)
  named (Filter name f) c k from to x le = let e = named_le name x c (omega (arith, le)) in omega (arith, e)
  named (Pipeline ss) c k from to x le = named_line ss c k from to x le
  named (SplitJoin d ss ws) c k from to x le =
      let n = number_of ss in
      let branches = build_branches ss (suc c) (k + (n + n)) k (k + n) in
      let a = split_named d n k (numbered (codes "split") c) from x in
      let a' = named_le (codes "split") x c (omega (arith, le)) in
      let b = named_branches ss (suc c) (k + (n + n)) k (k + n) x (omega (arith, le)) in
      let j = named_le (codes "join") x (suc c + ops_of ss) (omega (arith, le)) in
      let t = total-append (named_it x) branches (joiner ws (numbered (codes "join") (suc c + ops_of ss)) (queues (k + n) n) to ∷ []) in
      let q = ends (meets (number_in x)) c (ops_of ss) in
      omega (arith, a, a', b, j, t, q)

  named_line : (ss : Streams) (c k : ℕ) (from to x : Name) → c + ops_of ss ≤ 2 ^ 64
      → total (named_it x) (build_line ss c k from to) ≤ sum_from (meets (number_in x)) c (ops_of ss)
  named_line (Last s) c k from to x le = named s c k from to x le
  named_line (Then s ss) c k from to x le =
      let a = named s c (suc k) from (queue k) x (omega (arith, le)) in
      let b = named_line ss (c + ops_in s) (suc k + queues_in s) (queue k) to x (omega (arith, le)) in
      let t = total-append (named_it x) (build s c (suc k) from (queue k)) (build_line ss (c + ops_in s) (suc k + queues_in s) (queue k) to) in
      let q = sum_split (meets (number_in x)) (ops_in s) (ops_of ss) c in
      omega (arith, a, b, t, q)

  named_branches : (ss : Streams) (c k a b : ℕ) (x : Name) → c + ops_of ss ≤ 2 ^ 64
      → total (named_it x) (build_branches ss c k a b) ≤ sum_from (meets (number_in x)) c (ops_of ss)
  named_branches (Last s) c k a b x le = named s c k (queue a) (queue b) x le
  named_branches (Then s ss) c k a b x le =
      let e = named s c k (queue a) (queue b) x (omega (arith, le)) in
      let i = named_branches ss (c + ops_in s) (k + queues_in s) (suc a) (suc b) x (omega (arith, le)) in
      let t = total-append (named_it x) (build s c k (queue a) (queue b)) (build_branches ss (c + ops_in s) (k + queues_in s) (suc a) (suc b)) in
      let q = sum_split (meets (number_in x)) (ops_in s) (ops_of ss) c in
      omega (arith, e, i, t, q)

-- how many operators there are
mutual
  -- how many operators there are
  pub operators : (s : Stream) (c k : ℕ) (from to : Name) → length (build s c k from to) ≡ ops_in s
  operators (Filter name f) c k from to = refl
  operators (Pipeline ss) c k from to = operators_line ss c k from to
  operators (SplitJoin d ss ws) c k from to =
      let n = number_of ss in
      let b = operators_branches ss (suc c) (k + (n + n)) k (k + n) in
      let t = length-append (build_branches ss (suc c) (k + (n + n)) k (k + n))
      (joiner ws (numbered (codes "join") (suc c + ops_of ss)) (queues (k + n) n) to ∷ []) in
      omega (arith, b, t)

  operators_line : (ss : Streams) (c k : ℕ) (from to : Name) → length (build_line ss c k from to) ≡ ops_of ss
  operators_line (Last s) c k from to = operators s c k from to
  operators_line (Then s ss) c k from to =
      let a = operators s c (suc k) from (queue k) in
      let b = operators_line ss (c + ops_in s) (suc k + queues_in s) (queue k) to in
      let t = length-append (build s c (suc k) from (queue k)) (build_line ss (c + ops_in s) (suc k + queues_in s) (queue k) to) in
      omega (arith, a, b, t)

  operators_branches : (ss : Streams) (c k a b : ℕ) → length (build_branches ss c k a b) ≡ ops_of ss
  operators_branches (Last s) c k a b = operators s c k (queue a) (queue b)
  operators_branches (Then s ss) c k a b =
      let e = operators s c k (queue a) (queue b) in
      let i = operators_branches ss (c + ops_in s) (k + queues_in s) (suc a) (suc b) in
      let t = length-append (build s c k (queue a) (queue b)) (build_branches ss (c + ops_in s) (k + queues_in s) (suc a) (suc b)) in
      omega (arith, e, i, t)

-- there are fewer queues than two for each operator
mutual
  -- there are not many more queues than operators
  pub few_queues : (s : Stream) → queues_in s + 2 ≤ ops_in s + ops_in s
  few_queues (Filter name f) = omega arith
  few_queues (Pipeline ss) = few_between ss
  few_queues (SplitJoin d ss ws) = let e = few_within ss in omega (arith, e)

  few_between : (ss : Streams) → queues_between ss + 2 ≤ ops_of ss + ops_of ss
  few_between (Last s) = few_queues s
  few_between (Then s ss) = let a = few_queues s in let b = few_between ss in omega (arith, a, b)

  few_within : (ss : Streams) → queues_within ss + (number_of ss + number_of ss) ≤ ops_of ss + ops_of ss
  few_within (Last s) = few_queues s
  few_within (Then s ss) = let a = few_queues s in let b = few_within ss in omega (arith, a, b)
