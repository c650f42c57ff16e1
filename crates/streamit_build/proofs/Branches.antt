-- A split-join that is built branch by branch.
use Rattle.std.proofs.Common.{◌≡◌, ℕ, suc, ◌+◌, ◌<◌, List, [], ◌∷◌, ◌++◌, length, Some, Result, Ok, Err, refl, sym, ap, ◌∙◌, subst, arith, append_assoc}
use Rattle.std.proofs.Common.{append-nil}
use Rattle.std.specs.Prelude.{slice_get, codes, OnOk}
use Rattle.std.specs.List.{AllByRecursion}
use Rattle.kern_rows.specs.Forms.{FilterForm}
use Rattle.river_plan.specs.Forms.{Name, OpForm, op_forms}
use Rattle.streamit_model.specs.Unrolled.{Splitter, Stream, Streams, Last, Then, Filter, Pipeline, SplitJoin, number_of}
use Rattle.streamit_model.specs.Plan.{numbered, queue, queues, splitter, joiner, build, build_branches, ops_in, ops_of, queues_in, queues_within}
use Rattle.streamit_build.specs.declared.builder.Made.{Made}
use Rattle.streamit_build.specs.Units.{DeclaredForm, AFilter, APipe, ASplit, IsTree, AreTrees, Built}

-- the branches that are still to be built, from and to queues number a and b on
pub record Rest (us : List DeclaredForm) (rest : List ℕ) (last : ℕ) (ss : Streams) (old now : Made) (a0 b0 a b : ℕ) : Type 0 where
  pub left : Streams
  pub trees : AreTrees us rest last left
  pub added : List OpForm
  pub grew : op_forms now.ops ≡ op_forms old.ops ++ added
  pub all : build_branches ss old.next_op old.next_queue a0 b0 ≡ added ++ build_branches left now.next_op now.next_queue a b
  pub ops : now.next_op + ops_of left ≡ old.next_op + ops_of ss
  pub queues : now.next_queue + queues_within left ≡ old.next_queue + queues_within ss

-- how far the branches of a split have come
pub record RestSoFar (us : List DeclaredForm) (front rest : List ℕ) (last i : ℕ) (old now : Made) (a0 b0 a b : ℕ) : Type 0 where
  pub lower : AllByRecursion (λ j. j < i) rest
  pub branches : (ss : Streams) → AreTrees us front last ss → Rest us rest last ss old now a0 b0 a b

-- no branch was built
pub rest_start : (us : List DeclaredForm) (front : List ℕ) (last i : ℕ) (old : Made) (a b : ℕ) → AllByRecursion (λ j. j < i) front
    → RestSoFar us front front last i old old a b a b
rest_start us front last i old a b low = record {
  lower = low;
  branches = λ ss t. record { left = ss; trees = t; added = []; grew = sym (append-nil (op_forms old.ops)); all = refl; ops = refl; queues = refl };
}

go_on : (us : List DeclaredForm) (j : ℕ) (js : List ℕ) (last : ℕ) (ss : Streams) (old now next : Made) (a0 b0 a b a' b' : ℕ) (start end : Name) (left : Streams)
    (added : List OpForm)
    → AreTrees us (j ∷ js) last left → op_forms now.ops ≡ op_forms old.ops ++ added
    → build_branches ss old.next_op old.next_queue a0 b0 ≡ added ++ build_branches left now.next_op now.next_queue a b
    → now.next_op + ops_of left ≡ old.next_op + ops_of ss → now.next_queue + queues_within left ≡ old.next_queue + queues_within ss
    → start ≡ queue a → end ≡ queue b → a' ≡ a + 1 → b' ≡ b + 1
    → ((s : Stream) → IsTree us j s → Built now next (build s now.next_op now.next_queue start end) (ops_in s) (queues_in s))
    → Rest us js last ss old next a0 b0 a' b'
go_on us j js last ss old now next a0 b0 a b a' b' start end (Last s) added t g al o q e1 e2 e3 e4 bu = absurd t
go_on us j js last ss old now next a0 b0 a b a' b' start end (Then s left) added t g al o q e1 e2 e3 e4 bu =
    let d = bu s t.0 in
    let here = build s now.next_op now.next_queue start end in
    let n1 = d.next_op in
    let n2 = d.next_queue in
    record {
      left = left;
      trees = t.1;
      added = added ++ here;
      grew = d.ops ∙ ap (λ l. l ++ here) g ∙ append_assoc (op_forms old.ops) added here;
      all =
          al
          ∙ ap (λ x. added ++ (build s now.next_op now.next_queue x (queue b) ++ build_branches left (now.next_op + ops_in s) (now.next_queue + queues_in s)
          (suc a) (suc b))) (sym e1)
          ∙ ap (λ x. added ++ (build s now.next_op now.next_queue start x ++ build_branches left (now.next_op + ops_in s) (now.next_queue + queues_in s)
          (suc a) (suc b))) (sym e2)
          ∙ ap (λ n. added ++ (here ++ build_branches left n (now.next_queue + queues_in s) (suc a) (suc b))) (sym n1)
          ∙ ap (λ n. added ++ (here ++ build_branches left next.next_op n (suc a) (suc b))) (sym n2)
          ∙ ap (λ n. added ++ (here ++ build_branches left next.next_op next.next_queue n (suc b))) (let z : suc a ≡ a' = omega (arith, e3) in z)
          ∙ ap (λ n. added ++ (here ++ build_branches left next.next_op next.next_queue a' n)) (let z : suc b ≡ b' = omega (arith, e4) in z)
          ∙ sym (append_assoc added here (build_branches left next.next_op next.next_queue a' b'));
      ops = omega (arith, o, n1);
      queues = omega (arith, q, n2);
    }

-- one branch more
pub rest_next : (us : List DeclaredForm) (front : List ℕ) (j : ℕ) (js : List ℕ) (last i : ℕ) (old now next : Made) (a0 b0 a b a' b' : ℕ) (start end : Name)
    → RestSoFar us front (j ∷ js) last i old now a0 b0 a b
    → start ≡ queue a → end ≡ queue b → a' ≡ a + 1 → b' ≡ b + 1
    → ((s : Stream) → IsTree us j s → Built now next (build s now.next_op now.next_queue start end) (ops_in s) (queues_in s))
    → RestSoFar us front js last i old next a0 b0 a' b'
rest_next us front j js last i old now next a0 b0 a b a' b' start end f e1 e2 e3 e4 bu = record {
  lower = f.lower.1;
  branches =
      λ ss t. let l = f.branches ss t in go_on us j js last ss old now next a0 b0 a b a' b' start end l.left l.added l.trees l.grew l.all l.ops l.queues e1 e2 e3 e4 bu;
}

end_on : (us : List DeclaredForm) (last : ℕ) (ss : Streams) (old now next : Made) (a0 b0 a b : ℕ) (start end : Name) (left : Streams) (added : List OpForm)
    → AreTrees us [] last left → op_forms now.ops ≡ op_forms old.ops ++ added
    → build_branches ss old.next_op old.next_queue a0 b0 ≡ added ++ build_branches left now.next_op now.next_queue a b
    → now.next_op + ops_of left ≡ old.next_op + ops_of ss → now.next_queue + queues_within left ≡ old.next_queue + queues_within ss
    → start ≡ queue a → end ≡ queue b
    → ((s : Stream) → IsTree us last s → Built now next (build s now.next_op now.next_queue start end) (ops_in s) (queues_in s))
    → Built old next (build_branches ss old.next_op old.next_queue a0 b0) (ops_of ss) (queues_within ss)
end_on us last ss old now next a0 b0 a b start end (Last s) added t g al o q e1 e2 bu =
    let d = bu s t in
    let n1 = d.next_op in
    let n2 = d.next_queue in
    let same : build s now.next_op now.next_queue start end ≡ build s now.next_op now.next_queue (queue a) (queue b) =
    ap (λ x. build s now.next_op now.next_queue x end) e1 ∙ ap (build s now.next_op now.next_queue (queue a)) e2 in
    record {
      ops =
          d.ops ∙ ap (λ l. op_forms now.ops ++ l) same ∙ ap (λ l. l ++ build s now.next_op now.next_queue (queue a) (queue b)) g
          ∙ append_assoc (op_forms old.ops) added (build s now.next_op now.next_queue (queue a) (queue b)) ∙ ap (λ l. op_forms old.ops ++ l) (sym al);
      next_op = omega (arith, n1, o);
      next_queue = omega (arith, n2, q);
    }
end_on us last ss old now next a0 b0 a b start end (Then s left) added t g al o q e1 e2 bu = absurd t

-- all branches
pub rest_end : (us : List DeclaredForm) (front : List ℕ) (last i : ℕ) (old now next : Made) (a0 b0 a b : ℕ) (start end : Name) (ss : Streams)
    → RestSoFar us front [] last i old now a0 b0 a b → AreTrees us front last ss
    → start ≡ queue a → end ≡ queue b
    → ((s : Stream) → IsTree us last s → Built now next (build s now.next_op now.next_queue start end) (ops_in s) (queues_in s))
    → Built old next (build_branches ss old.next_op old.next_queue a0 b0) (ops_of ss) (queues_within ss)
rest_end us front last i old now next a0 b0 a b start end ss f t e1 e2 bu =
    let l = f.branches ss t in end_on us last ss old now next a0 b0 a b start end l.left l.added l.trees l.grew l.all l.ops l.queues e1 e2 bu

number_is : (us : List DeclaredForm) (front : List ℕ) (last : ℕ) (ss : Streams) → AreTrees us front last ss → number_of ss ≡ suc (length front)
number_is us [] last (Last s) t = refl
number_is us (j ∷ js) last (Last s) t = absurd t
number_is us [] last (Then s ss) t = absurd t
number_is us (j ∷ js) last (Then s ss) t = ap suc (number_is us js last ss t.1)

split_same : (d e : Splitter) (f g : List ℕ) (l m : ℕ) (v w : List ℕ) → Some (ASplit d f l v) ≡ Some (ASplit e g m w) → (d ≡ e) × (f ≡ g) × (l ≡ m) × (v ≡ w)
split_same d e f g l m v w h = (cc, cc, cc, cc)

filter_split : (n : Name) (f : FilterForm) (d : Splitter) (g : List ℕ) (m : ℕ) (ws : List ℕ) → Some (AFilter n f) ≡ Some (ASplit d g m ws) → ⊥
filter_split n f d g m ws h = cc h

pipe_split : (f : List ℕ) (l : ℕ) (d : Splitter) (g : List ℕ) (m : ℕ) (ws : List ℕ) → Some (APipe f l) ≡ Some (ASplit d g m ws) → ⊥
pipe_split f l d g m ws h = cc h

-- a splitter, the branches, a joiner
pub split_built : {E : Type 0} (us : List DeclaredForm) (i : ℕ) (d : Splitter) (front : List ℕ) (last : ℕ) (ws : List ℕ) (old first mid new : Made)
    (from to : Name) (n : ℕ) (sop jop : OpForm) (r : Result (Unit {0}) E)
    → slice_get us i ≡ Some (ASplit d front last ws) → n ≡ suc (length front)
    → sop ≡ splitter d n (numbered (codes "split") old.next_op) from (queues old.next_queue n)
    → op_forms first.ops ≡ op_forms old.ops ++ sop ∷ [] → first.next_op ≡ old.next_op + 1 → first.next_queue ≡ (old.next_queue + n) + n
    → ((ss : Streams) → AreTrees us front last ss
    → Built first mid (build_branches ss first.next_op first.next_queue old.next_queue (old.next_queue + n)) (ops_of ss) (queues_within ss))
    → jop ≡ joiner ws (numbered (codes "join") mid.next_op) (queues (old.next_queue + n) n) to
    → OnOk r (op_forms new.ops ≡ op_forms mid.ops ++ jop ∷ []) → OnOk r (new.next_op ≡ mid.next_op + 1) → new.next_queue ≡ mid.next_queue
    → (s : Stream) → IsTree us i s → OnOk r (Built old new (build s old.next_op old.next_queue from to) (ops_in s) (queues_in s))
split_built us i d front last ws old first mid new from to n sop jop (Err x) u en es g1 o1 q1 b ej g2 o2 q2 s t = tt
split_built us i d front last ws old first mid new from to n sop jop (Ok x) u en es g1 o1 q1 b ej g2 o2 q2 (Filter name f) t =
    absurd (filter_split name f d front last ws (sym t ∙ u))
split_built us i d front last ws old first mid new from to n sop jop (Ok x) u en es g1 o1 q1 b ej g2 o2 q2 (Pipeline ss) t =
    absurd (pipe_split t.0 t.1 d front last ws (sym t.2 ∙ u))
split_built us i d front last ws old first mid new from to n sop jop (Ok x) u en es g1 o1 q1 b ej o o2 q2 (SplitJoin d' ss ws') t =
    let e = split_same d' d t.0 front t.1 last ws' ws (sym t.2 ∙ u) in
    let trees = subst (λ f. AreTrees us f last ss) e.1 (subst (λ l. AreTrees us t.0 l ss) e.2 t.3) in
    let number : n ≡ number_of ss = en ∙ sym (number_is us front last ss trees) in
    let bb = b ss trees in
    let c = old.next_op in
    let k = old.next_queue in
    let branches = build_branches ss first.next_op first.next_queue k (k + n) in
    let whole = λ (m : ℕ) (v : Splitter) (w : List ℕ) (f q l : ℕ). splitter v m (numbered (codes "split") c) from (queues k m) ∷
    (build_branches ss f q k (k + m) ++ joiner w (numbered (codes "join") l) (queues (k + m) m) to ∷ []) in
    let n1 = bb.next_op in
    let n2 = bb.next_queue in
    let q' : first.next_queue ≡ k + (number_of ss + number_of ss) = omega (arith, q1, number) in
    let f' : first.next_op ≡ suc c = omega (arith, o1) in
    let l' : mid.next_op ≡ suc c + ops_of ss = omega (arith, n1, o1) in
    record {
      ops =
          o
          ∙ ap (λ l. l ++ jop ∷ []) (bb.ops ∙ ap (λ l. l ++ branches) g1)
          ∙ append_assoc (op_forms old.ops ++ sop ∷ []) branches (jop ∷ [])
          ∙ append_assoc (op_forms old.ops) (sop ∷ []) (branches ++ jop ∷ [])
          ∙ ap (λ l. op_forms old.ops ++ l)
          (ap (λ x. x ∷ (branches ++ jop ∷ [])) es
          ∙ ap (λ x. splitter d n (numbered (codes "split") c) from (queues k n) ∷ (branches ++ x ∷ [])) ej
          ∙ ap (λ m. whole m d ws first.next_op first.next_queue mid.next_op) number
          ∙ ap (λ v. whole (number_of ss) v ws first.next_op first.next_queue mid.next_op) (sym e.0)
          ∙ ap (λ w. whole (number_of ss) d' w first.next_op first.next_queue mid.next_op) (sym e.3)
          ∙ ap (λ f. whole (number_of ss) d' ws' f first.next_queue mid.next_op) f'
          ∙ ap (λ q. whole (number_of ss) d' ws' (suc c) q mid.next_op) q'
          ∙ ap (whole (number_of ss) d' ws' (suc c) (k + (number_of ss + number_of ss))) l');
      next_op = omega (arith, o1, n1, o2);
      next_queue = omega (arith, q', n2, q2);
    }

-- the last branch was built
pub rest_returns : {E : Type 0} (us : List DeclaredForm) (front : List ℕ) (last i : ℕ) (old now next : Made) (a0 b0 a b : ℕ) (r : Result (Unit {0}) E)
    → RestSoFar us front [] last i old now a0 b0 a b
    → ((s : Stream) → IsTree us last s → OnOk r (Built now next (build s now.next_op now.next_queue (queue a) (queue b)) (ops_in s) (queues_in s)))
    → (ss : Streams) → AreTrees us front last ss → OnOk r (Built old next (build_branches ss old.next_op old.next_queue a0 b0) (ops_of ss) (queues_within ss))
rest_returns us front last i old now next a0 b0 a b (Ok x) f h ss t = rest_end us front last i old now next a0 b0 a b (queue a) (queue b) ss f t refl refl h
rest_returns us front last i old now next a0 b0 a b (Err x) f h ss t = tt
