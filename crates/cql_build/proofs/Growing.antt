-- What is made one after another.
use Rattle.std.proofs.Common.{◌≡◌, ℕ, zero, suc, ◌-◌, ◌+◌, ◌<◌, ◌≤◌, Result, Ok, Err, List, [], ◌∷◌, ◌++◌, length, drop, get_or, refl, sym, ap, ◌∙◌, subst}
use Rattle.std.proofs.Common.{arith, append_assoc, append-nil, ◌^◌}
use Rattle.std.specs.Prelude.{codes, OnOk}
use Rattle.std.specs.List.{AllByRecursion}
use Rattle.std.proofs.lemmas.List.{drop_all}
use Rattle.river_base.proofs.Lists.{drop_next}
use Rattle.cql_text.specs.declared.tree.Kind.{Kind}
use Rattle.cql_model.specs.KernelWords.{streamer_of, kernel_window}
use Rattle.river_base.specs.declared.kind.QueueType.{QueueType}
use Rattle.river_kernels.specs.Fits.{relation, stream}
use Rattle.river_kernels.specs.Kern.{window, cross, duplicate, streamer}
use Rattle.river_plan.specs.Forms.{Name, OpForm, op_forms}
use Rattle.river_plan.specs.Names.{count}
use Rattle.river_plan.specs.declared.plan.Decl.{Decl}
use Rattle.river_plan.specs.declared.plan.RawPlan.{RawPlan}
use Rattle.cql_model.specs.Judged.{IsShortName}
use Rattle.cql_model.specs.Program.{streams_of}
use Rattle.cql_model.specs.Plan.{op, decl, queues_of_uses, queue_of_use, w_name, x_name, window_ops, window_decls, cross_ops, cross_decls, cross_last, widths_of}
use Rattle.cql_model.specs.Plan.{copy_names, copy_name, decls_of, at_word, copy_decls, copy_ops, out_name, out_decls}
use Rattle.cql_model.proofs.Valid.{count-length}
use Rattle.cql_text.specs.declared.tree.Source.{Source}
use Rattle.cql_build.specs.declared.item.Item.{Item}
use Rattle.cql_build.specs.declared.uses.StreamUses.{StreamUses}
use Rattle.cql_build.specs.Grown.{Grew, Used, product_decls, stream_ops}
use Rattle.cql_text.specs.Tree.{sources_of, window_of}
use Rattle.cql_build.specs.Views.{scope}
use Rattle.cql_build.proofs.Lists.{drop_some}

-- what is left to be made of these lists
pub record Left (old now : RawPlan) (outs ro qs rq : List Decl) (os rp : List OpForm) : Type 0 where
  pub outputs : old.outputs ++ outs ≡ now.outputs ++ ro
  pub queues : old.queues ++ qs ≡ now.queues ++ rq
  pub ops : op_forms old.ops ++ os ≡ op_forms now.ops ++ rp
  pub inputs : now.inputs ≡ old.inputs
  pub tables : now.tables ≡ old.tables
  pub vars : now.vars ≡ old.vars

-- nothing is made
pub left_start : (raw : RawPlan) (outs qs : List Decl) (os : List OpForm) → Left raw raw outs outs qs qs os os
left_start raw outs qs os = record { outputs = refl; queues = refl; ops = refl; inputs = refl; tables = refl; vars = refl }

-- something more is made
pub left_next : (old now next : RawPlan) (outs o ro qs q rq : List Decl) (os p rp : List OpForm) → Left old now outs (o ++ ro) qs (q ++ rq) os (p ++ rp)
    → Grew now next o q p
    → Left old next outs ro qs rq os rp
left_next old now next outs o ro qs q rq os p rp l g = record {
  outputs = l.outputs ∙ sym (append_assoc now.outputs o ro) ∙ ap (λ x. x ++ ro) (sym g.outputs);
  queues = l.queues ∙ sym (append_assoc now.queues q rq) ∙ ap (λ x. x ++ rq) (sym g.queues);
  ops = l.ops ∙ sym (append_assoc (op_forms now.ops) p rp) ∙ ap (λ x. x ++ rp) (sym g.ops);
  inputs = g.inputs ∙ l.inputs;
  tables = g.tables ∙ l.tables;
  vars = g.vars ∙ l.vars;
}

-- what is left, said otherwise
pub left_is : (old now : RawPlan) (outs ro ro' qs rq rq' : List Decl) (os rp rp' : List OpForm) → Left old now outs ro qs rq os rp → ro ≡ ro' → rq ≡ rq'
    → rp ≡ rp'
    → Left old now outs ro' qs rq' os rp'
left_is old now outs ro ro' qs rq rq' os rp rp' l a b c = record {
  outputs = l.outputs ∙ ap (λ x. now.outputs ++ x) a;
  queues = l.queues ∙ ap (λ x. now.queues ++ x) b;
  ops = l.ops ∙ ap (λ x. op_forms now.ops ++ x) c;
  inputs = l.inputs;
  tables = l.tables;
  vars = l.vars;
}

-- all is made
pub left_end : (old now : RawPlan) (outs qs : List Decl) (os : List OpForm) → Left old now outs [] qs [] os [] → Grew old now outs qs os
left_end old now outs qs os l = record {
  outputs = sym (l.outputs ∙ append-nil now.outputs);
  queues = sym (l.queues ∙ append-nil now.queues);
  ops = sym (l.ops ∙ append-nil (op_forms now.ops));
  inputs = l.inputs;
  tables = l.tables;
  vars = l.vars;
}

-- one thing made after another
pub grew_then : (a b c : RawPlan) (o o' q q' : List Decl) (p p' : List OpForm) → Grew a b o q p → Grew b c o' q' p' → Grew a c (o ++ o') (q ++ q') (p ++ p')
grew_then a b c o o' q q' p p' g h = record {
  outputs = h.outputs ∙ ap (λ x. x ++ o') g.outputs ∙ append_assoc a.outputs o o';
  queues = h.queues ∙ ap (λ x. x ++ q') g.queues ∙ append_assoc a.queues q q';
  ops = h.ops ∙ ap (λ x. x ++ p') g.ops ∙ append_assoc (op_forms a.ops) p p';
  inputs = h.inputs ∙ g.inputs;
  tables = h.tables ∙ g.tables;
  vars = h.vars ∙ g.vars;
}

-- nothing made
pub grew_nothing : (raw : RawPlan) → Grew raw raw [] [] []
grew_nothing raw = record {
  outputs = sym (append-nil raw.outputs);
  queues = sym (append-nil raw.queues);
  ops = sym (append-nil (op_forms raw.ops));
  inputs = refl;
  tables = refl;
  vars = refl;
}

-- WINDOWS

-- the windows from number i on are left
pub record WindowsLeft (old now : RawPlan) (before after : StreamUses) (q : Name) (all : List Source) (items : List Item) (i : ℕ) : Type 0 where
  pub left : Left old now [] [] (window_decls q 1 (scope items)) (window_decls q (i + 1) (scope (drop i items)))
      (window_ops q 1 (sources_of all) (queues_of_uses before.inputs before.all before.past (streams_of (sources_of all))))
      (window_ops q (i + 1) (sources_of (drop i all)) (queues_of_uses before.inputs before.all after.past (streams_of (sources_of (drop i all)))))
  pub past : before.past ++ streams_of (sources_of all) ≡ after.past ++ streams_of (sources_of (drop i all))
  pub inputs : after.inputs ≡ before.inputs
  pub uses : after.all ≡ before.all
  pub short : AllByRecursion IsShortName (streams_of (sources_of (drop i all)))

-- before the first item all windows are left
pub windows_start : (raw : RawPlan) (uses : StreamUses) (q : Name) (all : List Source) (items : List Item) → AllByRecursion IsShortName (streams_of (sources_of all))
    → WindowsLeft raw raw uses uses q all items 0
windows_start raw uses q all items s = record { left = left_start raw _ _ _; past = refl; inputs = refl; uses = refl; short = s }

-- the stream of the next item has a short name
pub windows_short : (old now : RawPlan) (before after : StreamUses) (q : Name) (all : List Source) (items : List Item) (i : ℕ) (x : Source)
    → WindowsLeft old now before after q all items i
    → i < length all → x ≡ get_or all i x → length x.stream ≤ 40
windows_short old now before after q all items i x w lt e =
    (subst (λ l. AllByRecursion IsShortName (streams_of (sources_of l))) (drop_next all i x lt e) w.short).0

-- each item is at most as wide as all
pub width_at : (xs : List Item) (i : ℕ) (x : Item) → i < length xs → x ≡ get_or xs i x → widths_of (scope xs) ≤ 16 → length x.fields.now < 2 ^ 32
width_at xs i x lt e low = let m = at_most xs i lt e in omega (arith, m, low) where
  at_most : (ys : List Item) (i : ℕ) → i < length ys → x ≡ get_or ys i x → length x.fields.now ≤ widths_of (scope ys)
  at_most [] i lt e = absurd (omega (arith, lt))
  at_most (y ∷ ys) zero lt e = let l = ap (λ (z : Item). length z.fields.now) e in omega (arith, l)
  at_most (y ∷ ys) (suc i) lt e = let m = at_most ys i (omega (arith, lt)) e in omega (arith, m)

-- one window more
pub windows_next : (old now next : RawPlan) (before after later : StreamUses) (q name from : Name) (kind : QueueType) (all : List Source) (items : List Item) (i : ℕ)
    (x : Source) (y : Item)
    → WindowsLeft old now before after q all items i → i < length all → x ≡ get_or all i x → i < length items → y ≡ get_or items i y
    → name ≡ w_name q (i + 1) → kind ≡ relation (length y.fields.now) → from ≡ queue_of_use after.inputs after.all x.stream (count x.stream after.past)
    → later.past ≡ after.past ++ x.stream ∷ [] → later.inputs ≡ after.inputs → later.all ≡ after.all
    → Grew now next [] (decl name kind ∷ []) (op name (window (kernel_window (window_of x.window))) (from ∷ []) (name ∷ []) (name ∷ []) ∷ [])
    → WindowsLeft old next before later q all items (i + 1)
windows_next old now next before after later q name from kind all items i x y w lt e lt' e' n k f p a b g =
    let rest = drop (i + 1) all in
    let srcs = queues_of_uses before.inputs before.all in
    let now_src : from ≡ queue_of_use before.inputs before.all x.stream (count x.stream after.past) =
    f ∙ ap (λ l. queue_of_use l after.all x.stream (count x.stream after.past)) w.inputs
    ∙ ap (λ l. queue_of_use before.inputs l x.stream (count x.stream after.past)) w.uses in
    let ds : window_decls q (i + 1) (scope (drop i items)) ≡ decl name kind ∷ window_decls q (i + 1 + 1) (scope (drop (i + 1) items)) =
    ap (λ l. window_decls q (i + 1) (scope l)) (drop_next items i y lt' e')
    ∙ ap (λ m. decl m (relation (length y.fields.now)) ∷ window_decls q (i + 1 + 1) (scope (drop (i + 1) items))) (sym n)
    ∙ ap (λ m. decl name m ∷ window_decls q (i + 1 + 1) (scope (drop (i + 1) items))) (sym k) in
    let os : window_ops q (i + 1) (sources_of (drop i all)) (srcs after.past (streams_of (sources_of (drop i all))))
    ≡ op name (window (kernel_window (window_of x.window))) (from ∷ []) (name ∷ []) (name ∷ []) ∷ window_ops q (i + 1 + 1) (sources_of rest)
    (srcs later.past (streams_of (sources_of rest))) =
    ap (λ l. window_ops q (i + 1) (sources_of l) (srcs after.past (streams_of (sources_of l)))) (drop_next all i x lt e)
    ∙ ap (λ m. op m (window (kernel_window (window_of x.window))) (queue_of_use before.inputs before.all x.stream (count x.stream after.past) ∷ []) (m ∷ [])
    (m ∷ []) ∷ window_ops q (i + 1 + 1) (sources_of rest) (srcs (after.past ++ x.stream ∷ []) (streams_of (sources_of rest)))) (sym n)
    ∙ ap (λ m. op name (window (kernel_window (window_of x.window))) (m ∷ []) (name ∷ []) (name ∷ []) ∷ window_ops q (i + 1 + 1) (sources_of rest)
    (srcs (after.past ++ x.stream ∷ []) (streams_of (sources_of rest)))) (sym now_src)
    ∙ ap (λ l. op name (window (kernel_window (window_of x.window))) (from ∷ []) (name ∷ []) (name ∷ []) ∷ window_ops q (i + 1 + 1) (sources_of rest)
    (srcs l (streams_of (sources_of rest)))) (sym p) in
    record {
      left = left_next old now next [] [] [] (window_decls q 1 (scope items)) (decl name kind ∷ []) (window_decls q (i + 1 + 1) (scope (drop (i + 1) items)))
          (window_ops q 1 (sources_of all) (srcs before.past (streams_of (sources_of all))))
          (op name (window (kernel_window (window_of x.window))) (from ∷ []) (name ∷ []) (name ∷ []) ∷ [])
          (window_ops q (i + 1 + 1) (sources_of rest) (srcs later.past (streams_of (sources_of rest))))
          (left_is old now [] [] [] (window_decls q 1 (scope items)) _ _
          (window_ops q 1 (sources_of all) (srcs before.past (streams_of (sources_of all)))) _ _ w.left refl ds os) g;
      past =
          w.past ∙ ap (λ l. after.past ++ streams_of (sources_of l)) (drop_next all i x lt e)
          ∙ sym (append_assoc after.past (x.stream ∷ []) (streams_of (sources_of rest))) ∙ ap (λ l. l ++ streams_of (sources_of rest)) (sym p);
      inputs = a ∙ w.inputs;
      uses = b ∙ w.uses;
      short = (subst (λ l. AllByRecursion IsShortName (streams_of (sources_of l))) (drop_next all i x lt e) w.short).1;
    }

-- all windows
pub windows_end : (old now : RawPlan) (before after : StreamUses) (q : Name) (all : List Source) (items : List Item) (i : ℕ)
    → WindowsLeft old now before after q all items i
    → length all ≤ i → length items ≤ i
    → Grew old now [] (window_decls q 1 (scope items))
    (window_ops q 1 (sources_of all) (queues_of_uses before.inputs before.all before.past (streams_of (sources_of all))))
    × Used before after (streams_of (sources_of all))
windows_end old now before after q all items i w le le' =
    let none = drop_all i all le in
    let none' = drop_all i items le' in
    let l = left_is old now [] [] [] (window_decls q 1 (scope items)) _ []
    (window_ops q 1 (sources_of all) (queues_of_uses before.inputs before.all before.past (streams_of (sources_of all)))) _ [] w.left refl
    (ap (λ xs. window_decls q (i + 1) (scope xs)) none')
    (ap (λ xs. window_ops q (i + 1) (sources_of xs) (queues_of_uses before.inputs before.all after.past (streams_of (sources_of xs)))) none) in (
      left_end old now [] (window_decls q 1 (scope items)) _ l,
      record { past = sym (w.past ∙ ap (λ xs. after.past ++ streams_of (sources_of xs)) none ∙ append-nil after.past); inputs = w.inputs; all = w.uses },
    )

-- PRODUCTS

-- the products from number i on are left
pub record CrossesLeft (old now : RawPlan) (q : Name) (all : List Source) (items : List Item) (last : Name) (wide i : ℕ) : Type 0 where
  pub left : Left old now [] [] (product_decls q (scope items)) (cross_decls q wide (i + 1) (scope (drop i items)))
      (cross_ops q (w_name q 1) 2 (drop 1 (sources_of all))) (cross_ops q last (i + 1) (sources_of (drop i all)))
  pub last_is : cross_last q (w_name q 1) 2 (drop 1 (sources_of all)) ≡ cross_last q last (i + 1) (sources_of (drop i all))
  pub narrow : wide + widths_of (scope (drop i items)) ≤ 16

-- no product is made
pub crosses_start : (raw : RawPlan) (q : Name) (all : List Source) (items : List Item) (last : Name) (wide : ℕ) (y : Item) → 0 < length items
    → length items ≡ length all → y ≡ get_or items 0 y
    → wide ≡ length y.fields.now → last ≡ w_name q 1 → widths_of (scope items) ≤ 16 → CrossesLeft raw raw q all items last wide 1
crosses_start raw q all [] last wide y some each e w l low = absurd (omega (arith, some))
crosses_start raw q [] (z ∷ zs) last wide y some each e w l low = absurd (omega (arith, each))
crosses_start raw q (x ∷ xs) (z ∷ zs) last wide y some each e w l low =
    let same : wide ≡ length z.fields.now = w ∙ ap (λ (u : Item). length u.fields.now) e in
    record {
      left = left_is raw raw [] [] [] (cross_decls q (length z.fields.now) 2 (scope zs)) _ _ (cross_ops q (w_name q 1) 2 (sources_of xs)) _ _
          (left_start raw [] (cross_decls q (length z.fields.now) 2 (scope zs)) (cross_ops q (w_name q 1) 2 (sources_of xs))) refl
          (ap (λ n. cross_decls q n 2 (scope zs)) (sym same)) (ap (λ n. cross_ops q n 2 (sources_of xs)) (sym l));
      last_is = ap (λ n. cross_last q n 2 (sources_of xs)) (sym l);
      narrow = omega (arith, low, same);
    }

-- one product more
pub crosses_next : (old now next : RawPlan) (q : Name) (all : List Source) (items : List Item) (last name right : Name) (wide wider i : ℕ) (y : Item)
    → CrossesLeft old now q all items last wide i → i < length all → i < length items → y ≡ get_or items i y
    → name ≡ x_name q (i + 1) → right ≡ w_name q (i + 1) → wider ≡ wide + length y.fields.now
    → Grew now next [] (decl name (relation wider) ∷ []) (op name cross (last ∷ right ∷ []) (name ∷ []) (name ∷ []) ∷ [])
    → CrossesLeft old next q all items name wider (i + 1)
crosses_next old now next q all items last name right wide wider i y c lt lt' e' n r w g =
    let some = drop_some all i lt in
    let ds : cross_decls q wide (i + 1) (scope (drop i items)) ≡ decl name (relation wider) ∷ cross_decls q wider (i + 1 + 1) (scope (drop (i + 1) items)) =
    ap (λ l. cross_decls q wide (i + 1) (scope l)) (drop_next items i y lt' e')
    ∙ ap (λ m. decl m (relation (wide + length y.fields.now)) ∷ cross_decls q (wide + length y.fields.now) (i + 1 + 1) (scope (drop (i + 1) items))) (sym n)
    ∙ ap (λ m. decl name (relation m) ∷ cross_decls q m (i + 1 + 1) (scope (drop (i + 1) items))) (sym w) in
    let os : cross_ops q last (i + 1) (sources_of (drop i all)) ≡ op name cross (last ∷ right ∷ []) (name ∷ []) (name ∷ []) ∷ cross_ops q name (i + 1 + 1)
    (sources_of (drop (i + 1) all)) =
    ap (λ l. cross_ops q last (i + 1) (sources_of l)) some.1
    ∙ ap (λ m. op m cross (last ∷ w_name q (i + 1) ∷ []) (m ∷ []) (m ∷ []) ∷ cross_ops q m (i + 1 + 1) (sources_of (drop (i + 1) all))) (sym n)
    ∙ ap (λ m. op name cross (last ∷ m ∷ []) (name ∷ []) (name ∷ []) ∷ cross_ops q name (i + 1 + 1) (sources_of (drop (i + 1) all))) (sym r) in
    let d = ap (λ l. widths_of (scope l)) (drop_next items i y lt' e') in
    record {
      left =
          left_next old now next [] [] [] (product_decls q (scope items)) (decl name (relation wider) ∷ [])
          (cross_decls q wider (i + 1 + 1) (scope (drop (i + 1) items)))
          (cross_ops q (w_name q 1) 2 (drop 1 (sources_of all))) (op name cross (last ∷ right ∷ []) (name ∷ []) (name ∷ []) ∷ [])
          (cross_ops q name (i + 1 + 1) (sources_of (drop (i + 1) all)))
          (left_is old now [] [] [] (product_decls q (scope items)) _ _ (cross_ops q (w_name q 1) 2 (drop 1 (sources_of all))) _ _ c.left refl ds os) g;
      last_is =
          c.last_is ∙ ap (λ l. cross_last q last (i + 1) (sources_of l)) some.1 ∙ ap (λ m. cross_last q m (i + 1 + 1) (sources_of (drop (i + 1) all))) (sym n);
      narrow = let k = c.narrow in omega (arith, k, d, w);
    }

-- all products
pub crosses_end : (old now : RawPlan) (q : Name) (all : List Source) (items : List Item) (last : Name) (wide i : ℕ)
    → CrossesLeft old now q all items last wide i → length all ≤ i → length items ≤ i
    → Grew old now [] (product_decls q (scope items)) (cross_ops q (w_name q 1) 2 (drop 1 (sources_of all)))
    × (last ≡ cross_last q (w_name q 1) 2 (drop 1 (sources_of all)))
crosses_end old now q all items last wide i c le le' =
    let none = drop_all i all le in
    let none' = drop_all i items le' in (
      left_end old now [] (product_decls q (scope items)) (cross_ops q (w_name q 1) 2 (drop 1 (sources_of all)))
          (left_is old now [] [] [] (product_decls q (scope items)) _ [] (cross_ops q (w_name q 1) 2 (drop 1 (sources_of all))) _ [] c.left refl
          (ap (λ l. cross_decls q wide (i + 1) (scope l)) none') (ap (λ l. cross_ops q last (i + 1) (sources_of l)) none)),
      sym (c.last_is ∙ ap (λ l. cross_last q last (i + 1) (sources_of l)) none),
    )

-- COPIES

-- one copy more
pub copies_next : (b : Name) (k n : ℕ) → k < n → copy_names b k (n - k) ≡ copy_name b k ∷ copy_names b (k + 1) (n - (k + 1))
copies_next b k n lt = ap (copy_names b k) (let e : n - k ≡ suc (n - (k + 1)) = omega (arith, lt) in e)

pub copies_none : (b : Name) (k n : ℕ) → n ≤ k → copy_names b k (n - k) ≡ []
copies_none b k n le = ap (copy_names b k) (let e : n - k ≡ 0 = omega (arith, le) in e)

pub length-copies : (b : Name) (k u : ℕ) → length (copy_names b k u) ≡ u
length-copies b k zero = refl
length-copies b k (suc u) = ap suc (length-copies b (k + 1) u)

-- few copies
pub copies_few : (b : Name) (u : ℕ) (names : List Name) → names ≡ copy_names b 0 u → u ≤ 256 → length names < 2 ^ 32
copies_few b u names e le = let l = length-copies b 0 u in let n = ap (λ (ns : List Name). length ns) e in omega (arith, l, n, le)

-- the copies and the query's own queue are few, too
pub copies_few_more : (b q : Name) (u : ℕ) (own made names : List Name) → own ≡ q ∷ [] → made ≡ copy_names b 0 u → names ≡ own ++ made → u ≤ 256
    → length names < 2 ^ 32
copies_few_more b q u own made names o m e le =
    let l = length-copies b 0 u in
    let a = ap (λ (ns : List Name). length ns) m in
    let c = ap (λ (ns : List Name). length ns) (e ∙ ap (λ ns. ns ++ made) o) in
    omega (arith, l, a, c, le)

-- a name stands among few names a few times
pub count_few : (n : Name) (ns : List Name) → length ns ≤ 256 → count n ns ≤ 256
count_few n ns le = let c = count-length n ns in omega (arith, c, le)

-- where a call did what it says, there is what follows from it
pub on_ok_then : {E P Q : Type 0} (r : Result (Unit {0}) E) → (P → Q) → OnOk r P → OnOk r Q
on_ok_then (Ok u) f p = f p
on_ok_then (Err e) f p = tt

-- a registered stream that is used more than once is copied
pub copied_input : (raw new : RawPlan) (queues : List Decl) (name : Name) (wide n : ℕ) (kind : QueueType) (writes : List Name)
    → queues ≡ raw.queues ++ decls_of writes kind → kind ≡ stream wide
    → writes ≡ copy_names name 0 n → 2 ≤ n
    → Grew (record raw { queues = queues }) new [] [] (op (at_word name (codes "d")) (duplicate (length writes)) (name ∷ []) writes [] ∷ [])
    → Grew raw new [] (copy_decls name wide n) (copy_ops name n)
copied_input raw new queues name wide zero kind writes e k w two g = absurd (omega (arith, two))
copied_input raw new queues name wide (suc zero) kind writes e k w two g = absurd (omega (arith, two))
copied_input raw new queues name wide (suc (suc u)) kind writes e k w two g =
    let n : length writes ≡ suc (suc u) = ap (λ (l : List Name). length l) w ∙ length-copies name 0 (suc (suc u)) in
    record {
      outputs = g.outputs;
      queues = g.queues ∙ append-nil queues ∙ e ∙ ap (λ l. raw.queues ++ decls_of l kind) w
          ∙ ap (λ t. raw.queues ++ decls_of (copy_names name 0 (suc (suc u))) t) k;
      ops = g.ops ∙ ap (λ m. op_forms raw.ops ++ op (at_word name (codes "d")) (duplicate m) (name ∷ []) writes [] ∷ []) n
          ∙ ap (λ l. op_forms raw.ops ++ op (at_word name (codes "d")) (duplicate (suc (suc u))) (name ∷ []) l [] ∷ []) w;
      inputs = g.inputs;
      tables = g.tables;
      vars = g.vars;
    }

-- a query's stream is copied
pub copied_output : (raw new : RawPlan) (first queues : List Decl) (q from : Name) (n : ℕ) (kind : QueueType) (own made writes : List Name)
    → first ≡ raw.queues ++ decl from kind ∷ []
    → queues ≡ first ++ decls_of made kind → own ≡ q ∷ [] → writes ≡ own ++ made → made ≡ copy_names q 0 n
    → Grew (record raw { queues = queues }) new [] [] (op (at_word q (codes "d")) (duplicate (length writes)) (from ∷ []) writes [] ∷ [])
    → Grew raw new [] (decl from kind ∷ decls_of (copy_names q 0 n) kind)
    (op (at_word q (codes "d")) (duplicate (suc n)) (from ∷ []) (q ∷ copy_names q 0 n) [] ∷ [])
copied_output raw new first queues q from n kind own made writes e f o w m g =
    let all : writes ≡ q ∷ copy_names q 0 n = w ∙ ap (λ l. l ++ made) o ∙ ap (λ l. q ∷ l) m in
    let many : length writes ≡ suc n = ap (λ (l : List Name). length l) all ∙ ap suc (length-copies q 0 n) in
    record {
      outputs = g.outputs;
      queues = g.queues ∙ append-nil queues ∙ f ∙ ap (λ l. l ++ decls_of made kind) e ∙ append_assoc raw.queues (decl from kind ∷ []) (decls_of made kind)
          ∙ ap (λ l. raw.queues ++ (decl from kind ∷ decls_of l kind)) m;
      ops = g.ops ∙ ap (λ k. op_forms raw.ops ++ op (at_word q (codes "d")) (duplicate k) (from ∷ []) writes [] ∷ []) many
          ∙ ap (λ l. op_forms raw.ops ++ op (at_word q (codes "d")) (duplicate (suc n)) (from ∷ []) l [] ∷ []) all;
      inputs = g.inputs;
      tables = g.tables;
      vars = g.vars;
    }

-- the stream of a query that is used
pub output_used : (raw mid new : RawPlan) (outs : List Decl) (q last to : Name) (kind : Kind) (wide n : ℕ) (t : QueueType) → 0 < n → to ≡ out_name q n
    → t ≡ stream wide
    → Grew raw mid [] [] (op (at_word q (codes "i")) (streamer (streamer_of kind)) (last ∷ []) (to ∷ []) (at_word q (codes "i") ∷ []) ∷ [])
    → outs ≡ mid.outputs ++ decl q t ∷ []
    → Grew (record mid { outputs = outs }) new [] (decl to t ∷ decls_of (copy_names q 0 n) t)
    (op (at_word q (codes "d")) (duplicate (suc n)) (to ∷ []) (q ∷ copy_names q 0 n) [] ∷ [])
    → Grew raw new (decl q (stream wide) ∷ []) (out_decls q wide n) (stream_ops q kind last n)
output_used raw mid new outs q last to kind wide zero t some e k g o h = absurd (omega (arith, some))
output_used raw mid new outs q last to kind wide (suc u) t some e k g o h = record {
  outputs = h.outputs ∙ append-nil outs ∙ o ∙ ap (λ l. l ++ decl q t ∷ []) (g.outputs ∙ append-nil raw.outputs) ∙ ap (λ x. raw.outputs ++ decl q x ∷ []) k;
  queues = h.queues ∙ ap (λ l. l ++ (decl to t ∷ decls_of (copy_names q 0 (suc u)) t)) (g.queues ∙ append-nil raw.queues)
      ∙ ap (λ x. raw.queues ++ (decl x t ∷ decls_of (copy_names q 0 (suc u)) t)) e
      ∙ ap (λ x. raw.queues ++ (decl (at_word q (codes "o")) x ∷ decls_of (copy_names q 0 (suc u)) x)) k;
  ops = h.ops ∙ ap (λ l. l ++ op (at_word q (codes "d")) (duplicate (suc (suc u))) (to ∷ []) (q ∷ copy_names q 0 (suc u)) [] ∷ []) g.ops
      ∙ append_assoc (op_forms raw.ops) (op (at_word q (codes "i")) (streamer (streamer_of kind)) (last ∷ []) (to ∷ []) (at_word q (codes "i") ∷ []) ∷ [])
      (op (at_word q (codes "d")) (duplicate (suc (suc u))) (to ∷ []) (q ∷ copy_names q 0 (suc u)) [] ∷ [])
      ∙ ap (λ x. op_forms raw.ops ++
      (op (at_word q (codes "i")) (streamer (streamer_of kind)) (last ∷ []) (x ∷ []) (at_word q (codes "i") ∷ []) ∷ op (at_word q (codes "d"))
      (duplicate (suc (suc u))) (x ∷ []) (q ∷ copy_names q 0 (suc u)) [] ∷ [])) e;
  inputs = h.inputs ∙ g.inputs;
  tables = h.tables ∙ g.tables;
  vars = h.vars ∙ g.vars;
}
