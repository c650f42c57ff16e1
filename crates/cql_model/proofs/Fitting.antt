-- Each kernel fits its queues and variables.
use Rattle.std.proofs.Common.{◌≡◌, ℕ, zero, suc, ◌+◌, ◌<◌, ◌≤◌, Bool, true, false, Option, Some, None, List, [], ◌∷◌, ◌++◌, refl, sym, ap, ◌∙◌, arith, length}
use Rattle.std.proofs.Common.{map, replicate}
use Rattle.std.specs.Prelude.{codes, if◌then◌else◌, IsTrue, ◌&&◌, nat_le, max}
use Rattle.std.specs.List.{list_all, AllByRecursion}
use Rattle.std.proofs.lemmas.Bool.{and_parts, and_from, le-leb}
use Rattle.std.proofs.lemmas.List.{length-map}
use Rattle.brooklet_model.proofs.Solutions.{count_here}
use Rattle.river_base.specs.Name.{name_eq}
use Rattle.river_base.specs.declared.kind.FlatType.TheVariants.{Stream, Relation}
use Rattle.river_base.specs.declared.kind.QueueType.{QueueType}
use Rattle.work_code.specs.Term.{depth_of}
use Rattle.river_kernels.specs.declared.types.VarKind.{VarKind}
use Rattle.river_kernels.specs.declared.types.VarKind.TheVariants.{Private}
use Rattle.river_kernels.specs.Fits.{stream, relation}
use Rattle.river_kernels.specs.Formed.{is_width, is_sound, is_term, is_window}
use Rattle.river_plan.specs.declared.plan.Decl.{Decl}
use Rattle.river_plan.specs.Forms.{Name, OpForm}
use Rattle.river_plan.specs.Kinds.{FitsAt}
use Rattle.river_plan.specs.Names.{count}
use Rattle.river_plan.specs.Uses.{Each}
use Rattle.cql_model.specs.KernelWords.{kernel_window}
use Rattle.cql_model.specs.Plannable.{AreShallowColumns, IsShallowCondition, IsPlannableQuery}
use Rattle.cql_text.specs.Tree.{Scalar, scalar_depth, Number, Field, ItemField, Neg, Not, Bin, Source, Column, Columns, Star, Chosen, Query}
use Rattle.cql_model.specs.Scopes.{Named, scope_of, item_named, fields_of}
use Rattle.cql_model.specs.Plan.{plus, or_place, place_among, field_place, item_place, at_place, resolved, at_word, copy_names, w_name, x_name, window_ops}
use Rattle.cql_model.specs.Plan.{cross_ops, cross_last, select_ops, select_last, terms_of, project_ops, project_last, out_ops, out_name, tail_ops}
use Rattle.cql_model.specs.Plan.{item_ops, item_last, decls_of, widths_of, window_decls, cross_decls, item_decls, select_decls, project_decls}
use Rattle.cql_model.specs.Plan.{columns_width, out_decls, query_decls}
use Rattle.cql_model.proofs.Counting.{stream_op, project_from, block_ops}
use Rattle.river_plan.proofs.ShareLemmas.{each_append}
use Rattle.cql_model.proofs.Walk.{each-append}

-- VALUES

abbrev pub Below : Option ℕ → ℕ → Type 0
Below None n = Unit {0}
Below (Some k) n = k < n

plus_below : (o : Option ℕ) (n m : ℕ) → Below o m → Below (plus n o) (n + m)
plus_below None n m h = tt
plus_below (Some k) n m h = omega (arith, h)

widen : (o : Option ℕ) (n m : ℕ) → n ≤ m → Below o n → Below o m
widen None n m le h = tt
widen (Some k) n m le h = omega (arith, le, h)

or_below : (o p : Option ℕ) (n : ℕ) → Below o n → Below p n → Below (or_place o p) n
or_below None p n h g = g
or_below (Some k) p n h g = h

in_below : (f : Name) (fields : List Name) → Below (place_among f fields) (length fields)
in_below f [] = tt
in_below f (g ∷ gs) = step (name_eq g f) (plus_below (place_among f gs) 1 (length gs) (in_below f gs)) where
  step : (b : Bool) → Below (plus 1 (place_among f gs)) (1 + length gs) → Below (if b then Some 0 else plus 1 (place_among f gs)) (length (g ∷ gs))
  step true h = omega arith
  step false h = widen (plus 1 (place_among f gs)) (1 + length gs) (length (g ∷ gs)) (omega arith) h

pub field_below : (f : Name) (scope : List Named) → Below (field_place f scope) (widths_of scope)
field_below f [] = tt
field_below f (i ∷ is) =
    or_below (place_among f i.fields) (plus (length i.fields) (field_place f is)) (length i.fields + widths_of is)
    (widen (place_among f i.fields) (length i.fields) (length i.fields + widths_of is) (omega arith) (in_below f i.fields))
    (plus_below (field_place f is) (length i.fields) (widths_of is) (field_below f is))

pub item_below : (a f : Name) (scope : List Named) → Below (item_place a f scope) (widths_of scope)
item_below a f [] = tt
item_below a f (i ∷ is) =
    step (name_eq i.name a) (widen (place_among f i.fields) (length i.fields) (length i.fields + widths_of is) (omega arith) (in_below f i.fields))
    (plus_below (item_place a f is) (length i.fields) (widths_of is) (item_below a f is)) where
      step : (b : Bool) → Below (place_among f i.fields) (length i.fields + widths_of is)
          → Below (plus (length i.fields) (item_place a f is)) (length i.fields + widths_of is)
          → Below (if b then place_among f i.fields else plus (length i.fields) (item_place a f is)) (length i.fields + widths_of is)
      step true h g = h
      step false h g = g

place_sound : (o : Option ℕ) (n : ℕ) → Below o n → is_sound n 0 (at_place o) ≡ true
place_sound None n h = refl
place_sound (Some k) n h = grind (arith, h)

sound : (scope : List Named) (e : Scalar) → is_sound (widths_of scope) 0 (resolved scope e) ≡ true
sound scope (Number n) = refl
sound scope (Field f) = place_sound (field_place f scope) (widths_of scope) (field_below f scope)
sound scope (ItemField a f) = place_sound (item_place a f scope) (widths_of scope) (item_below a f scope)
sound scope (Neg e) = sound scope e
sound scope (Not e) = sound scope e
sound scope (Bin o l r) =
    and_from (is_sound (widths_of scope) 0 (resolved scope l)) (is_sound (widths_of scope) 0 (resolved scope r)) (sound scope l) (sound scope r)

place_depth : (o : Option ℕ) → depth_of (at_place o) ≡ 1
place_depth None = refl
place_depth (Some k) = refl

same_depth : (scope : List Named) (e : Scalar) → depth_of (resolved scope e) ≡ scalar_depth e
same_depth scope (Number n) = refl
same_depth scope (Field f) = place_depth (field_place f scope)
same_depth scope (ItemField a f) = place_depth (item_place a f scope)
same_depth scope (Neg e) = ap suc (same_depth scope e)
same_depth scope (Not e) = ap suc (same_depth scope e)
same_depth scope (Bin o l r) = ap (λ n. suc (max n (depth_of (resolved scope r)))) (same_depth scope l)
    ∙ ap (λ n. suc (max (scalar_depth l) n)) (same_depth scope r)

pub is_value : (scope : List Named) (e : Scalar) → scalar_depth e ≤ 64 → is_term (widths_of scope) 0 (resolved scope e) ≡ true
is_value scope e h =
    and_from (is_sound (widths_of scope) 0 (resolved scope e)) (nat_le (depth_of (resolved scope e)) 64) (sound scope e)
    (le-leb (depth_of (resolved scope e)) 64 (let d = same_depth scope e in omega (arith, d, h)))

are_values : (scope : List Named) (cs : List Column) → AllByRecursion (λ (c : Column). scalar_depth c.value ≤ 64) cs
    → list_all (is_term (widths_of scope) 0) (terms_of scope cs) ≡ true
are_values scope [] h = refl
are_values scope (c ∷ cs) h =
    and_from (is_term (widths_of scope) 0 (resolved scope c.value)) (list_all (is_term (widths_of scope) 0) (terms_of scope cs)) (is_value scope c.value h.0)
    (are_values scope cs h.1)

-- a number from 1 to 16 is a width
pub wide : (n : ℕ) → 1 ≤ n → n ≤ 16 → is_width n ≡ true
wide n h g = grind (arith, h, g)

-- a width is from 1 to 16
pub narrow : (n : ℕ) → is_width n ≡ true → (1 ≤ n) × (n ≤ 16)
narrow n h = let p = and_parts (nat_le 1 n) (nat_le n 16) h in (grind (arith, p.0), grind (arith, p.1))

-- KERNELS

module _ (kind : Name → QueueType) (var : Name → VarKind) where
  abbrev pub Fit : OpForm → Type 0
  Fit o = FitsAt kind var o

  abbrev pub Own : OpForm → Type 0
  Own o = (v : Name) → 0 < count v o.vars → var v ≡ Private

  -- the queues have the types that are declared
  abbrev pub AreKinds : List Decl → Type 0
  AreKinds ds = AllByRecursion (λ (d : Decl). kind d.name ≡ d.kind) ds

  -- what holds of the types of two lists of declarations
  pub kinds-append : (xs ys : List Decl) → AreKinds (xs ++ ys) → AreKinds xs × AreKinds ys
  kinds-append [] ys h = (tt, h)
  kinds-append (x ∷ xs) ys h = let m = kinds-append xs ys h.1 in ((h.0, m.0), m.1)

  -- the scope of a query: each item has a width
  abbrev pub Sized : List Named → Type 0
  Sized ks = AllByRecursion (λ (k : Named). is_width (length k.fields) ≡ true) ks

  abbrev pub SourceKinds : List Named → List Name → Type 0
  SourceKinds [] srcs = Unit {0}
  SourceKinds (i ∷ is) [] = ⊥
  SourceKinds (i ∷ is) (s ∷ ss) = (kind s ≡ stream (length i.fields)) × SourceKinds is ss

  windows_fit : (known : List Named) (b : Name) (k : ℕ) (items : List Source) (srcs : List Name) → SourceKinds (scope_of known items) srcs
      → AreKinds (window_decls b k (scope_of known items)) → Sized (scope_of known items)
      → AllByRecursion (λ (i : Source). IsTrue (is_window (kernel_window i.window))) items → Each Own (window_ops b k items srcs)
      → Each Fit (window_ops b k items srcs)
  windows_fit known b k [] srcs s d z w o = tt
  windows_fit known b k (i ∷ is) [] s d z w o = tt
  windows_fit known b k (i ∷ is) (src ∷ srcs) s d z w o = (
    (
      length (fields_of known i.stream),
      ap (λ (x : QueueType). x ∷ []) s.0,
      ap (λ (x : QueueType). x ∷ []) d.0,
      ap (λ (x : VarKind). x ∷ []) (o.0 (w_name b k) (count_here (w_name b k) [])),
      and_from (is_width (length (fields_of known i.stream)))
          (is_window (kernel_window i.window)) z.0 w.0,
    ),
    windows_fit known b (k + 1) is srcs s.1 d.1 z.1 w.1 o.1,
  )

  abbrev two : QueueType → QueueType → List QueueType
  two x y = x ∷ y ∷ []

  crosses_fit : (known : List Named) (b last : Name) (width k : ℕ) (items : List Source) → kind last ≡ relation width → 1 ≤ width
      → width + widths_of (scope_of known items) ≤ 16
      → AreKinds (window_decls b k (scope_of known items)) → AreKinds (cross_decls b width k (scope_of known items)) → Sized (scope_of known items)
      → Each Own (cross_ops b last k items)
      → Each Fit (cross_ops b last k items) × (kind (cross_last b last k items) ≡ relation (width + widths_of (scope_of known items)))
  crosses_fit known b last width k [] l some few w d z o = (tt, l ∙ ap relation (omega arith))
  crosses_fit known b last width k (i ∷ is) l some few w d z o =
      let n = length (fields_of known i.stream) in
      let m = widths_of (scope_of known is) in
      let rest = crosses_fit known b (x_name b k) (width + n) (k + 1) is d.0 (omega (arith, some)) (omega (arith, few)) w.1 d.1 z.1 o.1 in
      let fits = and_from (is_width width) (is_width n && is_width (width + n)) (wide width some (omega (arith, few)))
      (and_from (is_width n) (is_width (width + n)) z.0 (wide (width + n) (omega (arith, some)) (omega (arith, few)))) in (
        (
          (
            width,
            n,
            ap (λ x. two x (kind (w_name b k))) l
                ∙ ap (λ y. two (relation width) y) w.0,
            ap (λ (x : QueueType). x ∷ []) d.0,
            ap (λ (x : VarKind). x ∷ [])
                (o.0 (x_name b k) (count_here (x_name b k) [])),
            fits,
          ),
          rest.0,
        ),
        rest.1 ∙ ap relation (omega arith),
      )

  items_fit : (known : List Named) (b : Name) (items : List Source) (srcs : List Name) → 0 < length items → SourceKinds (scope_of known items) srcs
      → AreKinds (item_decls b (scope_of known items)) → Sized (scope_of known items)
      → AllByRecursion (λ (i : Source). IsTrue (is_window (kernel_window i.window))) items → widths_of (scope_of known items) ≤ 16
      → Each Own (item_ops b items srcs)
      → Each Fit (item_ops b items srcs) × (kind (item_last b items) ≡ relation (widths_of (scope_of known items)))
  items_fit known b [] srcs some s d z w few o = absurd (omega (arith, some))
  items_fit known b (i ∷ is) srcs some s d z w few o =
      let n = length (fields_of known i.stream) in
      let ds = kinds-append (window_decls b 1 (scope_of known (i ∷ is))) (cross_decls b n 2 (scope_of known is)) d in
      let os = each-append Own (window_ops b 1 (i ∷ is) srcs) (cross_ops b (w_name b 1) 2 is) o in
      let c = crosses_fit known b (w_name b 1) n 2 is ds.0.0 (narrow n z.0).0 few ds.0.1 ds.1 z.1 os.1 in
      (each_append Fit (window_ops b 1 (i ∷ is) srcs) (cross_ops b (w_name b 1) 2 is) (windows_fit known b 1 (i ∷ is) srcs s ds.0 z w os.0) c.0, c.1)

  select_fits : (b : Name) (scope : List Named) (last : Name) (o : Option Scalar) → kind last ≡ relation (widths_of scope) → is_width (widths_of scope) ≡ true
      → IsShallowCondition o → AreKinds (select_decls b (widths_of scope) o)
      → Each Fit (select_ops b scope last o) × (kind (select_last b last o) ≡ relation (widths_of scope))
  select_fits b scope last None l n h d = (tt, l)
  select_fits b scope last (Some e) l n h d = (
    (
      (
        Relation (widths_of scope),
        ap (λ (x : QueueType). x ∷ []) l,
        ap (λ (x : QueueType). x ∷ []) d.0,
        refl,
        and_from (is_width (widths_of scope)) (is_term (widths_of scope) 0 (resolved scope e)) n (is_value scope e h),
      ),
      tt,
    ),
    d.0,
  )

  project_fits : (b : Name) (scope : List Named) (last : Name) (cs : Columns) → kind last ≡ relation (widths_of scope) → is_width (widths_of scope) ≡ true
      → is_width (columns_width scope cs) ≡ true → AreShallowColumns cs → AreKinds (project_decls b cs)
      → Each Fit (project_ops b scope last cs) × (kind (project_last b last cs) ≡ relation (columns_width scope cs))
  project_fits b scope last Star l n c h d = (tt, l)
  project_fits b scope last (Chosen cs) l n c h d =
      let e : length (terms_of scope cs) ≡ length cs = length-map cs _ in (
        (
          (
            widths_of scope,
            ap (λ (x : QueueType). x ∷ []) l,
            ap (λ (x : QueueType). x ∷ []) (d.0 ∙ ap relation (sym e)),
            refl,
            and_from (is_width (widths_of scope)) (is_width (length (terms_of scope cs)) && list_all (is_term (widths_of scope) 0) (terms_of scope cs)) n
                (and_from (is_width (length (terms_of scope cs))) (list_all (is_term (widths_of scope) 0) (terms_of scope cs)) (ap is_width e ∙ c)
                (are_values scope cs h)),
          ),
          tt,
        ),
        d.0,
      )

  -- copies
  pub copies_kinds : (ns : List Name) (t : QueueType) → AreKinds (decls_of ns t) → map kind ns ≡ replicate (length ns) t
  copies_kinds [] t h = refl
  copies_kinds (n ∷ ns) t h = ap (λ x. x ∷ map kind ns) h.0 ∙ ap (λ l. t ∷ l) (copies_kinds ns t h.1)

  -- there are so many copies
  pub length-copies : (b : Name) (k u : ℕ) → length (copy_names b k u) ≡ u
  length-copies b k zero = refl
  length-copies b k (suc u) = let e = length-copies b (k + 1) u in omega (arith, e)

  out_fits : (b : Name) (width u : ℕ) → is_width width ≡ true → kind b ≡ stream width → AreKinds (out_decls b width u)
      → Each Fit (out_ops b u) × (kind (out_name b u) ≡ stream width)
  out_fits b width zero n o d = (tt, o)
  out_fits b width (suc u) n o d = (
    (
      (
        Stream width,
        ap (λ (x : QueueType). x ∷ []) d.0,
        ap (λ x. x ∷ map kind (copy_names b 0 (suc u))) o
            ∙ ap (λ l. stream width ∷ l)
            (copies_kinds (copy_names b 0 (suc u)) (stream width) d.1 ∙ ap (λ m. replicate m (stream width)) (length-copies b 0 (suc u))),
        refl,
        and_from (is_width width) (nat_le 1 (suc (suc u))) n (le-leb 1 (suc (suc u)) (omega arith)),
      ),
      tt,
    ),
    d.0,
  )

  -- the items of a query have widths, so their product has
  sized_some : (ks : List Named) → 0 < length ks → Sized ks → 1 ≤ widths_of ks
  sized_some [] some z = absurd (omega (arith, some))
  sized_some (k ∷ ks) some z = let n = (narrow (length k.fields) z.0).0 in omega (arith, n)

  -- the operators of a query fit their queues and variables
  pub block_fits : (all : List Name) (known : List Named) (q : Query) (srcs : List Name) → IsPlannableQuery known q → SourceKinds (scope_of known q.items) srcs
      → Sized (scope_of known q.items)
      → AreKinds (query_decls all known q) → kind q.name ≡ stream (columns_width (scope_of known q.items) q.columns)
      → Each Own (block_ops q (scope_of known q.items) (count q.name all) srcs)
      → Each Fit (block_ops q (scope_of known q.items) (count q.name all) srcs)
  block_fits all known q srcs a s z d k o =
      let b = q.name in let u = count q.name all in let scope = scope_of known q.items in
      let width = columns_width scope q.columns in
      let last = item_last b q.items in
      let from = project_from q last in
      let pro = project_last b from q.columns in
      let io = item_ops b q.items srcs in
      let so = select_ops b scope last q.condition in
      let po = project_ops b scope from q.columns in
      let st = stream_op q u pro in
      let sd = select_decls b (widths_of scope) q.condition in
      let pd = project_decls b q.columns in
      let od = out_decls b width u in
      let d1 = kinds-append (item_decls b scope) (sd ++ (pd ++ od)) d in
      let d2 = kinds-append sd (pd ++ od) d1.1 in
      let d3 = kinds-append pd od d2.1 in
      let o1 = each-append Own io (tail_ops q scope u last) o in
      let o2 = each-append Own so (po ++ (st ∷ out_ops b u)) o1.1 in
      let o3 = each-append Own po (st ∷ out_ops b u) o2.1 in
      let long : 0 < length scope = (let e = length-map q.items (item_named known) in let m = a.some in omega (arith, e, m)) in
      let n : is_width (widths_of scope) ≡ true = wide (widths_of scope) (sized_some scope long z) a.product in
      let is = items_fit known b q.items srcs a.some s d1.0 z a.windows a.product o1.0 in
      let se = select_fits b scope last q.condition is.1 n a.condition d2.0 in
      let pr = project_fits b scope from q.columns se.1 n a.columns a.values d3.0 in
      let out = out_fits b width u a.columns k d3.1 in
      each_append Fit io (tail_ops q scope u last) is.0
      (each_append Fit so (po ++ (st ∷ out_ops b u)) se.0
      (each_append Fit po (st ∷ out_ops b u) pr.0 (
        (
          width,
          ap (λ (x : QueueType). x ∷ []) pr.1,
          ap (λ (x : QueueType). x ∷ []) out.1,
          ap (λ (x : VarKind). x ∷ []) (o3.1.0 (at_word b (codes "i")) (count_here (at_word b (codes "i")) [])),
          a.columns,
        ),
        out.0,
      )))
