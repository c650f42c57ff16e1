-- The queues of a plan's own: each stands as often as its number is one of the stream's, and there are as many as the stream has.
use Rattle.std.proofs.Common.{◌≡◌, ℕ, zero, suc, ◌+◌, true, false, not, cond, List, [], ◌∷◌, ◌++◌, length, refl, sym, ap, ◌∙◌, arith, ⊎_elim, length-append}
use Rattle.std.specs.Prelude.{codes, filter}
use Rattle.std.proofs.lemmas.List.Concat.{flat_map-append}
use Rattle.std.proofs.lemmas.Bool.{cases_Bool}
use Rattle.river_base.specs.Name.{name_eq}
use Rattle.river_plan.specs.Forms.{Name, OpForm}
use Rattle.river_plan.specs.Names.{one_if, count}
use Rattle.river_plan.specs.Uses.{total, writes_it, all_writes}
use Rattle.river_plan.proofs.NameLemmas.{cases_name, count-append, name_sym}
use Rattle.streamit_model.specs.Unrolled.{Splitter, Duplicate, RoundRobin, Stream, Filter, Pipeline, SplitJoin, Streams, Last, Then, number_of}
use Rattle.streamit_model.specs.Plan.{numbered, queue, queues, ops_in, ops_of, queues_in, queues_between, queues_within, splitter, joiner, build, build_line}
use Rattle.streamit_model.specs.Plan.{build_branches, is_own_queue}

pub length-queues : (n k : ℕ) → length (queues k n) ≡ n
length-queues zero k = refl
length-queues (suc n) k = ap suc (length-queues n (suc k))

-- what is counted over the operators stands so often in the list of all that they write
pub total-writes : (q : Name) (ops : List OpForm) → total (writes_it q) ops ≡ count q (all_writes ops)
total-writes q [] = refl
total-writes q (op ∷ ops) = let e = total-writes q ops in let f = count-append q op.writes (all_writes ops) in omega (arith, e, f)

-- a queue of the plan's own stays, and the output does not
pub kept : (w : Name) (ws : List Name) → is_own_queue w ≡ true → filter is_own_queue (w ∷ ws) ≡ w ∷ filter is_own_queue ws
kept w ws h = ap (λ b. cond b (w ∷ filter is_own_queue ws) (filter is_own_queue ws)) h

-- the output is left out
pub left : (w : Name) (ws : List Name) → is_own_queue w ≡ false → filter is_own_queue (w ∷ ws) ≡ filter is_own_queue ws
left w ws h = ap (λ b. cond b (w ∷ filter is_own_queue ws) (filter is_own_queue ws)) h

-- the output is no queue of the plan's own, and any other is
pub is-out : (w : Name) → name_eq (codes "out") w ≡ true → is_own_queue w ≡ false
is-out w h = ap not (name_sym w (codes "out") ∙ h)

-- another name is a queue of the plan's own
pub no-out : (w : Name) → name_eq (codes "out") w ≡ false → is_own_queue w ≡ true
no-out w h = ap not (name_sym w (codes "out") ∙ h)

-- the output is none of them
pub own_never : (ws : List Name) → count (codes "out") (filter is_own_queue ws) ≡ 0
own_never [] = refl
own_never (w ∷ ws) = let i = own_never ws in ⊎_elim
    (λ t. ap (count (codes "out")) (left w ws (is-out w t)) ∙ i)
    (λ f. ap (count (codes "out")) (kept w ws (no-out w f)) ∙ (let o = ap one_if (name_sym w (codes "out") ∙ f) in omega (arith, o, i)))
    (cases_Bool (name_eq (codes "out") w))

-- any other queue stands as often as it is written
pub own_other : (q : Name) (ws : List Name) → name_eq (codes "out") q ≡ false → count q (filter is_own_queue ws) ≡ count q ws
own_other q [] h = refl
own_other q (w ∷ ws) h = let i = own_other q ws h in ⊎_elim
    (λ c.
    let o : one_if (name_eq w q) ≡ 0 = ap (λ x. one_if (name_eq x q)) (sym c.0) ∙ ap one_if h in
    ap (count q) (left w ws (is-out w c.1)) ∙ (let e = i in omega (arith, o, e)))
    (λ c. ap (count q) (kept w ws (no-out w c.1)) ∙ ap (λ k. one_if (name_eq w q) + k) i)
    (cases_name (codes "out") w)

-- so many are left as were not the output
pub own_length : (ws : List Name) → length (filter is_own_queue ws) + count (codes "out") ws ≡ length ws
own_length [] = refl
own_length (w ∷ ws) = let i = own_length ws in ⊎_elim
    (λ t.
    let o = ap one_if (name_sym w (codes "out") ∙ t) in let l = ap length (left w ws (is-out w t)) in
    omega (arith, o, l, i))
    (λ f.
    let o = ap one_if (name_sym w (codes "out") ∙ f) in let l = ap length (kept w ws (no-out w f)) in
    omega (arith, o, l, i))
    (cases_Bool (name_eq (codes "out") w))

written-append : (xs ys : List OpForm) → length (all_writes (xs ++ ys)) ≡ length (all_writes xs) + length (all_writes ys)
written-append xs ys = ap length (flat_map-append (λ (o : OpForm). o.writes) xs ys) ∙ length-append (all_writes xs) (all_writes ys)

split-length : (d : Splitter) (n k : ℕ) (label from : Name) → length (splitter d n label from (queues k n)).writes ≡ n
split-length Duplicate n k label from = length-queues n k
split-length (RoundRobin ws) n k label from = length-queues n k

-- how many queues the operators of a stream write: its own, and the last
mutual
  -- the operators write one queue more than the stream has of its own
  pub written_length : (s : Stream) (c k : ℕ) (from to : Name) → length (all_writes (build s c k from to)) ≡ suc (queues_in s)
  written_length (Filter name f) c k from to = refl
  written_length (Pipeline ss) c k from to = line_length ss c k from to
  written_length (SplitJoin d ss ws) c k from to =
      let n = number_of ss in
      let first = splitter d n (numbered (codes "split") c) from (queues k n) in
      let branches = build_branches ss (suc c) (k + (n + n)) k (k + n) in
      let last = joiner ws (numbered (codes "join") (suc c + ops_of ss)) (queues (k + n) n) to in
      let a = length-append first.writes (all_writes (branches ++ last ∷ [])) in
      let b = written-append branches (last ∷ []) in
      let e = split-length d n k (numbered (codes "split") c) from in
      let i = branches_length ss (suc c) (k + (n + n)) k (k + n) in
      omega (arith, a, b, e, i)

  line_length : (ss : Streams) (c k : ℕ) (from to : Name) → length (all_writes (build_line ss c k from to)) ≡ suc (queues_between ss)
  line_length (Last s) c k from to = written_length s c k from to
  line_length (Then s ss) c k from to =
      let a = written_length s c (suc k) from (queue k) in
      let b = line_length ss (c + ops_in s) (suc k + queues_in s) (queue k) to in
      let t = written-append (build s c (suc k) from (queue k)) (build_line ss (c + ops_in s) (suc k + queues_in s) (queue k) to) in
      omega (arith, a, b, t)

  branches_length : (ss : Streams) (c k a b : ℕ) → length (all_writes (build_branches ss c k a b)) ≡ number_of ss + queues_within ss
  branches_length (Last s) c k a b = let e = written_length s c k (queue a) (queue b) in omega (arith, e)
  branches_length (Then s ss) c k a b =
      let e = written_length s c k (queue a) (queue b) in
      let i = branches_length ss (c + ops_in s) (k + queues_in s) (suc a) (suc b) in
      let t = written-append (build s c k (queue a) (queue b)) (build_branches ss (c + ops_in s) (k + queues_in s) (suc a) (suc b)) in
      omega (arith, e, i, t)
