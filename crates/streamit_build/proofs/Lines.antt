-- A pipeline that is built child by child.
use Rattle.std.proofs.Common.{◌≡◌, ℕ, zero, suc, ◌+◌, ◌<◌, ◌≤◌, List, [], ◌∷◌, ◌++◌, length, get_or, Some, Result, Ok, Err, map, refl, sym, ap, ◌∙◌}
use Rattle.std.proofs.Common.{subst, arith, append_assoc, append-nil}
use Rattle.std.specs.Prelude.{slice_get, OnOk}
use Rattle.kern_rows.specs.Forms.{FilterForm}
use Rattle.river_kernels.specs.Kern.{filter}
use Rattle.streamit_build.specs.declared.builder.Declared.{Declared}
use Rattle.std.specs.List.{AllByRecursion}
use Rattle.river_plan.specs.Forms.{Name, OpForm, op_forms}
use Rattle.streamit_model.specs.Unrolled.{Splitter, Stream, Streams, Last, Then, Filter, Pipeline, SplitJoin}
use Rattle.streamit_model.specs.Plan.{numbered, with_own, queue, build, build_line, ops_in, ops_of, queues_in, queues_between}
use Rattle.streamit_build.specs.declared.builder.Made.{Made}
use Rattle.streamit_build.specs.Units.{DeclaredForm, AFilter, APipe, ASplit, declared_form, declared_forms, AreBelow, AreLower, IsLower, HaveShortFilters, HasShortFilters, IsTree}
use Rattle.streamit_build.specs.Units.{AreTrees}
use Rattle.streamit_build.specs.Units.{Built}

-- the streams that are still to be built
pub record Line (us : List DeclaredForm) (rest : List ℕ) (last : ℕ) (ss : Streams) (old now : Made) (from start to : Name) : Type 0 where
  pub left : Streams
  pub trees : AreTrees us rest last left
  pub added : List OpForm
  pub grew : op_forms now.ops ≡ op_forms old.ops ++ added
  pub all : build_line ss old.next_op old.next_queue from to ≡ added ++ build_line left now.next_op now.next_queue start to
  pub ops : now.next_op + ops_of left ≡ old.next_op + ops_of ss
  pub queues : now.next_queue + queues_between left ≡ old.next_queue + queues_between ss

-- how far the streams of a line have come
pub record LineSoFar (us : List DeclaredForm) (front rest : List ℕ) (last i : ℕ) (old now : Made) (from start to : Name) : Type 0 where
  pub lower : AllByRecursion (λ j. j < i) rest
  pub line : (ss : Streams) → AreTrees us front last ss → Line us rest last ss old now from start to

-- no stream was built
pub line_start : (us : List DeclaredForm) (front : List ℕ) (last i : ℕ) (old : Made) (from to : Name) → AllByRecursion (λ j. j < i) front
    → LineSoFar us front front last i old old from from to
line_start us front last i old from to low = record {
  lower = low;
  line = λ ss t. record { left = ss; trees = t; added = []; grew = sym (append-nil (op_forms old.ops)); all = refl; ops = refl; queues = refl };
}

go_on : (us : List DeclaredForm) (j : ℕ) (js : List ℕ) (last : ℕ) (ss : Streams) (old now mid next : Made) (from start to end : Name) (left : Streams)
    (added : List OpForm)
    → AreTrees us (j ∷ js) last left → op_forms now.ops ≡ op_forms old.ops ++ added
    → build_line ss old.next_op old.next_queue from to ≡ added ++ build_line left now.next_op now.next_queue start to
    → now.next_op + ops_of left ≡ old.next_op + ops_of ss → now.next_queue + queues_between left ≡ old.next_queue + queues_between ss
    → end ≡ queue now.next_queue → mid.next_queue ≡ now.next_queue + 1 → mid.next_op ≡ now.next_op → mid.ops ≡ now.ops
    → ((s : Stream) → IsTree us j s → Built mid next (build s mid.next_op mid.next_queue start end) (ops_in s) (queues_in s))
    → Line us js last ss old next from end to
go_on us j js last ss old now mid next from start to end (Last s) added t g a o q e1 e2 e3 e4 b = absurd t
go_on us j js last ss old now mid next from start to end (Then s left) added t g a o q e1 e2 e3 e4 b =
    let d = b s t.0 in
    let here = build s mid.next_op mid.next_queue start end in
    let n1 = d.next_op in
    let n2 = d.next_queue in
    let k : mid.next_queue ≡ suc now.next_queue = omega (arith, e2) in
    record {
      left = left;
      trees = t.1;
      added = added ++ here;
      grew = d.ops ∙ ap (λ l. op_forms l ++ here) e4 ∙ ap (λ l. l ++ here) g ∙ append_assoc (op_forms old.ops) added here;
      all =
          a
          ∙ ap (λ f. added ++ (build s f (suc now.next_queue) start (queue now.next_queue) ++ build_line left (now.next_op + ops_in s)
          (suc now.next_queue + queues_in s) (queue now.next_queue) to)) (sym e3)
          ∙ ap (λ m. added ++ (build s mid.next_op m start (queue now.next_queue) ++ build_line left (now.next_op + ops_in s)
          (suc now.next_queue + queues_in s) (queue now.next_queue) to)) (sym k)
          ∙ ap (λ x. added ++ (build s mid.next_op mid.next_queue start x ++ build_line left (now.next_op + ops_in s) (suc now.next_queue + queues_in s) x to))
          (sym e1)
          ∙ ap (λ n. added ++ (here ++ build_line left n (suc now.next_queue + queues_in s) end to))
          (let z : now.next_op + ops_in s ≡ next.next_op = omega (arith, n1, e3) in z)
          ∙ ap (λ n. added ++ (here ++ build_line left next.next_op n end to))
          (let z : suc now.next_queue + queues_in s ≡ next.next_queue = omega (arith, n2, k) in z)
          ∙ sym (append_assoc added here (build_line left next.next_op next.next_queue end to));
      ops = omega (arith, o, n1, e3);
      queues = omega (arith, q, n2, k);
    }

-- one stream more
pub line_next : (us : List DeclaredForm) (front : List ℕ) (j : ℕ) (js : List ℕ) (last i : ℕ) (old now mid next : Made) (from start to end : Name)
    → LineSoFar us front (j ∷ js) last i old now from start to
    → end ≡ queue now.next_queue → mid.next_queue ≡ now.next_queue + 1 → mid.next_op ≡ now.next_op → mid.ops ≡ now.ops
    → ((s : Stream) → IsTree us j s → Built mid next (build s mid.next_op mid.next_queue start end) (ops_in s) (queues_in s))
    → LineSoFar us front js last i old next from end to
line_next us front j js last i old now mid next from start to end f e1 e2 e3 e4 b = record {
  lower = f.lower.1;
  line =
      λ ss t. let l = f.line ss t in go_on us j js last ss old now mid next from start to end l.left l.added l.trees l.grew l.all l.ops l.queues e1 e2 e3 e4 b;
}

end_on : (us : List DeclaredForm) (last : ℕ) (ss : Streams) (old now next : Made) (from start to : Name) (left : Streams) (added : List OpForm)
    → AreTrees us [] last left → op_forms now.ops ≡ op_forms old.ops ++ added
    → build_line ss old.next_op old.next_queue from to ≡ added ++ build_line left now.next_op now.next_queue start to
    → now.next_op + ops_of left ≡ old.next_op + ops_of ss → now.next_queue + queues_between left ≡ old.next_queue + queues_between ss
    → ((s : Stream) → IsTree us last s → Built now next (build s now.next_op now.next_queue start to) (ops_in s) (queues_in s))
    → Built old next (build_line ss old.next_op old.next_queue from to) (ops_of ss) (queues_between ss)
end_on us last ss old now next from start to (Last s) added t g a o q b =
    let d = b s t in
    let n1 = d.next_op in
    let n2 = d.next_queue in
    record {
      ops =
          d.ops ∙ ap (λ l. l ++ build s now.next_op now.next_queue start to) g
          ∙ append_assoc (op_forms old.ops) added (build s now.next_op now.next_queue start to) ∙ ap (λ l. op_forms old.ops ++ l) (sym a);
      next_op = omega (arith, n1, o);
      next_queue = omega (arith, n2, q);
    }
end_on us last ss old now next from start to (Then s left) added t g a o q b = absurd t

-- all streams
pub line_end : (us : List DeclaredForm) (front : List ℕ) (last i : ℕ) (old now next : Made) (from start to : Name) (ss : Streams)
    → LineSoFar us front [] last i old now from start to → AreTrees us front last ss
    → ((s : Stream) → IsTree us last s → Built now next (build s now.next_op now.next_queue start to) (ops_in s) (queues_in s))
    → Built old next (build_line ss old.next_op old.next_queue from to) (ops_of ss) (queues_between ss)
line_end us front last i old now next from start to ss f t b =
    let l = f.line ss t in end_on us last ss old now next from start to l.left l.added l.trees l.grew l.all l.ops l.queues b

-- UNITS BY NUMBER

got : {X Y : Type 0} (f : X → Y) (xs : List X) (i : ℕ) (x : X) → i < length xs → x ≡ get_or xs i x → slice_get (map f xs) i ≡ Some (f x)
got f [] i x lt e = absurd (omega (arith, lt))
got f (y ∷ ys) zero x lt e = ap (λ z. Some (f z)) (sym e)
got f (y ∷ ys) (suc i) x lt e = got f ys i x (omega (arith, lt)) e

-- the unit at a place
pub unit_at : (us : List Declared) (i : ℕ) (x y : Declared) → i < length us → x ≡ get_or us i x → x ≡ y → slice_get (declared_forms us) i ≡ Some (declared_form y)
unit_at us i x y lt e f = got declared_form us i x lt e ∙ ap (λ z. Some (declared_form z)) f

-- the children of a pipeline are lower
pub lower_of : (us : List DeclaredForm) (i : ℕ) (front : List ℕ) (last : ℕ) → AreLower us → slice_get us i ≡ Some (APipe front last)
    → AllByRecursion (λ j. j < i) front × (last < i)
lower_of us i front last low e = subst (IsLower i) e (low i)

-- those of a split-join are
pub lower_split : (us : List DeclaredForm) (i : ℕ) (d : Splitter) (front : List ℕ) (last : ℕ) (ws : List ℕ) → AreLower us
    → slice_get us i ≡ Some (ASplit d front last ws) → AllByRecursion (λ j. j < i) front × (last < i)
lower_split us i d front last ws low e = subst (IsLower i) e (low i)

-- parts that are the same are as low
pub below_same : (i : ℕ) (f g : List ℕ) (l m : ℕ) → f ≡ g → l ≡ m → AreBelow i g m → AreBelow i f l
below_same i f g l m e d low = subst (λ n. AreBelow i f n) (sym d) (subst (λ h. AreBelow i h m) (sym e) low)

-- and have the same trees
pub trees_same : (us : List DeclaredForm) (f g : List ℕ) (l m : ℕ) (ss : Streams) → f ≡ g → l ≡ m → AreTrees us g m ss → AreTrees us f l ss
trees_same us f g l m ss e d t = subst (λ n. AreTrees us f n ss) (sym d) (subst (λ h. AreTrees us h m ss) (sym e) t)

pipe_front : (f g : List ℕ) (l m : ℕ) → Some (APipe f l) ≡ Some (APipe g m) → (f ≡ g) × (l ≡ m)
pipe_front f g l m h = (cc, cc)

filter_pipe : (name : Name) (f : FilterForm) (g : List ℕ) (m : ℕ) → Some (AFilter name f) ≡ Some (APipe g m) → ⊥
filter_pipe name f g m h = cc h

pipe_split : (f : List ℕ) (l : ℕ) (d : Splitter) (g : List ℕ) (m : ℕ) (ws : List ℕ) → Some (APipe f l) ≡ Some (ASplit d g m ws) → ⊥
pipe_split f l d g m ws h = cc h

filter_split : (n : Name) (f : FilterForm) (d : Splitter) (g : List ℕ) (m : ℕ) (ws : List ℕ) → Some (AFilter n f) ≡ Some (ASplit d g m ws) → ⊥
filter_split n f d g m ws h = cc h

-- a pipeline's tree is one of its children
pub pipe_returns : {E : Type 0} (us : List DeclaredForm) (i : ℕ) (front : List ℕ) (last : ℕ) (old new : Made) (from to : Name) (r : Result (Unit {0}) E)
    → slice_get us i ≡ Some (APipe front last)
    → ((ss : Streams) → AreTrees us front last ss → OnOk r (Built old new (build_line ss old.next_op old.next_queue from to) (ops_of ss) (queues_between ss)))
    → (s : Stream) → IsTree us i s → OnOk r (Built old new (build s old.next_op old.next_queue from to) (ops_in s) (queues_in s))
pipe_returns us i front last old new from to r u h (Filter name f) t = absurd (filter_pipe name f front last (sym t ∙ u))
pipe_returns us i front last old new from to r u h (Pipeline ss) t =
    let e = pipe_front t.0 front t.1 last (sym t.2 ∙ u) in
    h ss (subst (λ f. AreTrees us f last ss) e.0 (subst (λ l. AreTrees us t.0 l ss) e.1 t.3))
pipe_returns us i front last old new from to r u h (SplitJoin d ss ws) t = absurd (pipe_split front last d t.0 t.1 ws (sym u ∙ t.2))

-- the last stream was built
pub last_returns : {E : Type 0} (us : List DeclaredForm) (front : List ℕ) (last i : ℕ) (old now next : Made) (from start to : Name) (r : Result (Unit {0}) E)
    → LineSoFar us front [] last i old now from start to
    → ((s : Stream) → IsTree us last s → OnOk r (Built now next (build s now.next_op now.next_queue start to) (ops_in s) (queues_in s)))
    → (ss : Streams) → AreTrees us front last ss → OnOk r (Built old next (build_line ss old.next_op old.next_queue from to) (ops_of ss) (queues_between ss))
last_returns us front last i old now next from start to (Ok x) f b ss t = line_end us front last i old now next from start to ss f t b
last_returns us front last i old now next from start to (Err x) f b ss t = tt

-- a filter was built
pub filter_returns : {E : Type 0} (us : List DeclaredForm) (i : ℕ) (name : Name) (f : FilterForm) (old new : Made) (op : OpForm) (from to : Name)
    (r : Result (Unit {0}) E)
    → slice_get us i ≡ Some (AFilter name f)
    → op ≡ with_own (numbered name old.next_op) (filter f) (from ∷ []) (to ∷ []) → OnOk r (op_forms new.ops ≡ op_forms old.ops ++ op ∷ [])
    → OnOk r (new.next_op ≡ old.next_op + 1) → new.next_queue ≡ old.next_queue
    → (s : Stream) → IsTree us i s → OnOk r (Built old new (build s old.next_op old.next_queue from to) (ops_in s) (queues_in s))
filter_returns us i name f old new op from to (Err x) u e o n q s t = tt
filter_returns us i name f old new op from to (Ok x) u e o n q (Filter name' f') t =
    let same = filter_same name' name f' f (sym t ∙ u) in
    record {
      ops =
          o
          ∙ ap (λ x. op_forms old.ops ++ x ∷ [])
          (e ∙ ap (λ m. with_own (numbered m old.next_op) (filter f) (from ∷ []) (to ∷ [])) (sym same.0)
          ∙ ap (λ g. with_own (numbered name' old.next_op) (filter g) (from ∷ []) (to ∷ [])) (sym same.1));
      next_op = n;
      next_queue = omega (arith, q);
    }
  where
    filter_same : (n m : Name) (f g : FilterForm) → Some (AFilter n f) ≡ Some (AFilter m g) → (n ≡ m) × (f ≡ g)
    filter_same n m f g h = (cc, cc)
filter_returns us i name f old new op from to (Ok x) u e o n q (Pipeline ss) t = absurd (filter_pipe name f t.0 t.1 (sym u ∙ t.2))
filter_returns us i name f old new op from to (Ok x) u e o n q (SplitJoin d ss ws) t = absurd (filter_split name f d t.0 t.1 ws (sym u ∙ t.2))

-- the name of a filter has at most 40 bytes
pub short_of : (us : List DeclaredForm) (i : ℕ) (name : Name) (f : FilterForm) → HaveShortFilters us → slice_get us i ≡ Some (AFilter name f) → length name ≤ 40
short_of us i name f a e = subst HasShortFilters e (a i)
