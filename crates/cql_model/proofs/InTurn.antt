-- Queues and variables are declared in the order in which the operators first use them.
use Rattle.std.proofs.Common.{◌≡◌, ℕ, zero, suc, ◌+◌, ◌<◌, ◌≤◌, Bool, true, false, cond, Option, Some, None, List, [], ◌∷◌, ◌++◌, refl, sym, ap, ◌∙◌, arith}
use Rattle.std.proofs.Common.{subst, length, ⊎_elim, append_assoc}
use Rattle.std.specs.Prelude.{nat_eq, filter, fold, codes, IsTrue}
use Rattle.std.specs.List.{AllByRecursion}
use Rattle.std.proofs.lemmas.List.{append-nil}
use Rattle.std.proofs.lemmas.List.Concat.{flat_map-append}
use Rattle.std.proofs.lemmas.List.Elements.{filter-append}
use Rattle.std.proofs.lemmas.List.Sums.{fold-append}
use Rattle.river_base.proofs.PlaceLemmas.{if_lt, if_ge}
use Rattle.river_kernels.specs.Fits.{stream}
use Rattle.river_kernels.specs.Kern.{streamer}
use Rattle.river_base.specs.Name.{name_eq}
use Rattle.river_plan.specs.declared.plan.Decl.{Decl}
use Rattle.river_plan.specs.Forms.{Name, OpForm, decl_names}
use Rattle.river_plan.specs.Names.{one_if, count, with_name}
use Rattle.river_plan.specs.Uses.{total, writes_it, and_writes, ReadsBefore, all_writes, all_vars}
use Rattle.river_plan.proofs.NameLemmas.{cases_name, count-append, one_same, more_or_zero, all_new}
use Rattle.river_plan.proofs.ShareLemmas.{total-vars}
use Rattle.cql_model.specs.KernelWords.{streamer_of}
use Rattle.cql_model.specs.Plannable.{has_no_at, declared_names}
use Rattle.cql_model.specs.InTurn.{PlansInTurn}
use Rattle.river_plan.specs.InTurn.{mentioned}
use Rattle.cql_model.specs.Numeral.{numeral}
use Rattle.cql_model.specs.Program.{registered, streams_of, all_uses}
use Rattle.cql_text.specs.Tree.{Scalar, Source, Columns, Star, Chosen, Query, Register, AQuery, Program}
use Rattle.cql_model.specs.Scopes.{Named, scope_of, item_named}
use Rattle.cql_model.specs.Plan.{op, at_word, copy_names, copy_name, queues_of_uses, w_name, x_name, window_ops, cross_ops, select_ops, select_last, project_ops}
use Rattle.cql_model.specs.Plan.{project_last, out_ops, out_name, item_ops, item_last, query_ops, query_named, queries_ops, copy_ops, input_ops, ops_of}
use Rattle.cql_model.specs.Plan.{widths_of, window_decls, cross_decls, item_decls, select_decls, project_decls, out_decls, columns_width, query_decls}
use Rattle.cql_model.specs.Plan.{queries_decls, copy_decls, input_copies, input_decls, output_decls}
use Rattle.cql_model.proofs.Counting.{names_decls}
use Rattle.cql_model.proofs.Naming.{split, split_tagged, Tag}
use Rattle.cql_model.proofs.Sums.{as_many}
use Rattle.cql_model.proofs.Valid.{asked, plans_keep}
use Rattle.std.proofs.lemmas.Option.{none-some}
use Rattle.river_plan.proofs.DeclLemmas.{names_append}

-- ANY PLAN: what is named for the first time is what is written

-- the name is none of these
abbrev pub other : List Name → Name → Bool
other outs z = nat_eq (count z outs) 0

is_other : (outs : List Name) (z : Name) → count z outs ≡ 0 → other outs z ≡ true
is_other outs z h = rw h refl

not_other : (outs : List Name) (z : Name) → 0 < count z outs → other outs z ≡ false
not_other outs z h = grind (arith, h)

abbrev There : List Name → List Name → Type 0
There outs seen = (z : Name) → 0 < count z outs → 0 < count z seen

there_stays : (seen rs : List Name) → There rs seen → fold with_name seen rs ≡ seen
there_stays seen [] h = refl
there_stays seen (r ∷ rs) h =
    ap (λ s. fold with_name s rs) (if_lt 0 (count r seen) seen (seen ++ r ∷ []) (h r (let o = one_same r in omega (arith, o))))
    ∙ there_stays seen rs (λ z lt. h z (omega (arith, lt)))

news : (outs seen ws : List Name) → There outs seen → ((z : Name) → count z outs ≡ 0 → count z seen + count z ws ≤ 1)
    → fold with_name seen ws ≡ seen ++ filter (other outs) ws
news outs seen [] h once = sym (append-nil seen)
news outs seen (w ∷ ws) h once = ⊎_elim
    (λ some. ap (λ s. fold with_name s ws) (if_lt 0 (count w seen) seen (seen ++ w ∷ []) (h w some))
    ∙ news outs seen ws h (λ z n. let b = once z n in omega (arith, b))
    ∙ sym (ap (λ b. seen ++ cond b (w ∷ filter (other outs) ws) (filter (other outs) ws)) (not_other outs w some)))
    (λ none. ap (λ s. fold with_name s ws) (if_ge 0 (count w seen) seen (seen ++ w ∷ []) (let o = one_same w in let b = once w none in omega (arith, o, b)))
    ∙ news outs (seen ++ w ∷ []) ws
    (λ z some. let c = count-append z seen (w ∷ []) in let k = h z some in omega (arith, c, k))
    (λ z n. let c = count-append z seen (w ∷ []) in let b = once z n in omega (arith, c, b))
    ∙ append_assoc seen (w ∷ []) (filter (other outs) ws)
    ∙ sym (ap (λ b. seen ++ cond b (w ∷ filter (other outs) ws) (filter (other outs) ws)) (is_other outs w none)))
    (more_or_zero (count w outs))

count_other : (outs : List Name) (z : Name) (ws : List Name) → count z outs ≡ 0 → count z (filter (other outs) ws) ≡ count z ws
count_other outs z [] n = refl
count_other outs z (w ∷ ws) n = ⊎_elim
    (λ some. ap (λ b. count z (cond b (w ∷ filter (other outs) ws) (filter (other outs) ws))) (not_other outs w some)
    ∙ count_other outs z ws n
    ∙ ⊎_elim
    (λ c. absurd (let e = ap (λ x. count x outs) c.0 in omega (arith, e, some, n)))
    (λ c. let o = ap one_if c.1 in omega (arith, o))
    (cases_name w z))
    (λ none. ap (λ b. count z (cond b (w ∷ filter (other outs) ws) (filter (other outs) ws))) (is_other outs w none)
    ∙ ap (λ k. one_if (name_eq w z) + k) (count_other outs z ws n))
    (more_or_zero (count w outs))

pub first_named : (outs seen : List Name) (known : Name → ℕ) (ops : List OpForm) → ReadsBefore known ops → ((z : Name) → 0 < known z → 0 < count z seen)
    → There outs seen
    → ((z : Name) → count z outs ≡ 0 → count z seen + total (writes_it z) ops ≤ 1)
    → fold with_name seen (mentioned ops) ≡ seen ++ filter (other outs) (all_writes ops)
first_named outs seen known [] r k h once = sym (append-nil seen)
first_named outs seen known (o ∷ os) r k h once =
    let new = filter (other outs) o.writes in
    fold-append with_name seen (o.reads ++ o.writes) (mentioned os)
    ∙ ap (λ s. fold with_name s (mentioned os)) (fold-append with_name seen o.reads o.writes
    ∙ ap (λ s. fold with_name s o.writes) (there_stays seen o.reads (λ z lt. k z (r.0 z lt)))
    ∙ news outs seen o.writes h (λ z n. let b = once z n in omega (arith, b)))
    ∙ first_named outs (seen ++ new) (and_writes known o) os r.1
    (λ z lt. let c = count-append z seen new in ⊎_elim
    (λ some. let m = k z some in omega (arith, c, m))
    (λ z0. ⊎_elim
    (λ some. let m = h z some in omega (arith, c, m))
    (λ none. let e = count_other outs z o.writes none in omega (arith, c, e, lt, z0))
    (more_or_zero (count z outs)))
    (more_or_zero (known z)))
    (λ z some. let c = count-append z seen new in let m = h z some in omega (arith, c, m))
    (λ z n. let c = count-append z seen new in let e = count_other outs z o.writes n in let b = once z n in omega (arith, c, e, b))
    ∙ append_assoc seen new (filter (other outs) (all_writes os))
    ∙ ap (λ l. seen ++ l) (sym (filter-append (other outs) o.writes (all_writes os)))

-- THE PLANS OF CQL: what is written and is no output, is what is declared

module _ (f : Name → Bool) where
  abbrev Keeps : Name → Type 0
  Keeps b = (w : List ℕ) → f (at_word b w) ≡ true

  -- what these operators write, but for the outputs
  abbrev kept : List OpForm → List Name
  kept ops = filter f (all_writes ops)

  kept-append : (xs ys : List OpForm) → kept (xs ++ ys) ≡ kept xs ++ kept ys
  kept-append xs ys = ap (filter f) (flat_map-append (λ (o : OpForm). o.writes) xs ys) ∙ filter-append f (all_writes xs) (all_writes ys)

  keep : (x : Name) (xs : List Name) → f x ≡ true → filter f (x ∷ xs) ≡ x ∷ filter f xs
  keep x xs h = ap (λ b. cond b (x ∷ filter f xs) (filter f xs)) h

  leave : (x : Name) (xs : List Name) → f x ≡ false → filter f (x ∷ xs) ≡ filter f xs
  leave x xs h = ap (λ b. cond b (x ∷ filter f xs) (filter f xs)) h

  join : (xs ys : List OpForm) (ds es : List Decl) → kept xs ≡ decl_names ds → kept ys ≡ decl_names es → kept (xs ++ ys) ≡ decl_names (ds ++ es)
  join xs ys ds es a b = kept-append xs ys ∙ ap (λ l. l ++ kept ys) a ∙ ap (λ l. decl_names ds ++ l) b ∙ sym (names_append ds es)

  windows_kept : (b : Name) (known : List Named) (k : ℕ) (items : List Source) (srcs : List Name) → length srcs ≡ length items → Keeps b
      → kept (window_ops b k items srcs) ≡ decl_names (window_decls b k (scope_of known items))
  windows_kept b known k [] srcs e h = refl
  windows_kept b known k (i ∷ is) [] e h = absurd (omega (arith, e))
  windows_kept b known k (i ∷ is) (s ∷ srcs) e h =
      keep (w_name b k) (all_writes (window_ops b (k + 1) is srcs)) (h (codes "w" ++ numeral k))
      ∙ ap (λ l. w_name b k ∷ l) (windows_kept b known (k + 1) is srcs (omega (arith, e)) h)

  crosses_kept : (b last : Name) (known : List Named) (width k : ℕ) (items : List Source) → Keeps b
      → kept (cross_ops b last k items) ≡ decl_names (cross_decls b width k (scope_of known items))
  crosses_kept b last known width k [] h = refl
  crosses_kept b last known width k (i ∷ is) h =
      keep (x_name b k) (all_writes (cross_ops b (x_name b k) (k + 1) is)) (h (codes "x" ++ numeral k))
      ∙ ap (λ l. x_name b k ∷ l) (crosses_kept b (x_name b k) known (width + length (item_named known i).fields) (k + 1) is h)

  items_kept : (b : Name) (known : List Named) (items : List Source) (srcs : List Name) → length srcs ≡ length items → Keeps b
      → kept (item_ops b items srcs) ≡ decl_names (item_decls b (scope_of known items))
  items_kept b known [] srcs e h = refl
  items_kept b known (i ∷ is) srcs e h =
      join (window_ops b 1 (i ∷ is) srcs) (cross_ops b (w_name b 1) 2 is) (window_decls b 1 (scope_of known (i ∷ is)))
      (cross_decls b (length (item_named known i).fields) 2 (scope_of known is))
      (windows_kept b known 1 (i ∷ is) srcs e h) (crosses_kept b (w_name b 1) known (length (item_named known i).fields) 2 is h)

  select_kept : (b : Name) (scope : List Named) (last : Name) (width : ℕ) (o : Option Scalar) → Keeps b
      → kept (select_ops b scope last o) ≡ decl_names (select_decls b width o)
  select_kept b scope last width None h = refl
  select_kept b scope last width (Some e) h = keep (at_word b (codes "s")) [] (h (codes "s"))

  project_kept : (b : Name) (scope : List Named) (last : Name) (cs : Columns) → Keeps b → kept (project_ops b scope last cs) ≡ decl_names (project_decls b cs)
  project_kept b scope last Star h = refl
  project_kept b scope last (Chosen cs) h = keep (at_word b (codes "p")) [] (h (codes "p"))

  copies_kept : (b : Name) (k u : ℕ) → Keeps b → filter f (copy_names b k u) ≡ copy_names b k u
  copies_kept b k zero h = refl
  copies_kept b k (suc u) h = keep (copy_name b k) (copy_names b (k + 1) u) (h (numeral (k + 1))) ∙ ap (λ l. copy_name b k ∷ l) (copies_kept b (k + 1) u h)

  out_kept : (q : Query) (p : Name) (width u : ℕ) → Keeps q.name → f q.name ≡ false
      → kept (op (at_word q.name (codes "i")) (streamer (streamer_of q.kind)) (p ∷ []) (out_name q.name u ∷ [])
      (at_word q.name (codes "i") ∷ []) ∷ out_ops q.name u) ≡ decl_names (out_decls q.name width u)
  out_kept q p width zero h n = leave q.name [] n
  out_kept q p width (suc u) h n =
      let b = q.name in
      keep (at_word b (codes "o")) (b ∷ copy_names b 0 (suc u) ++ []) (h (codes "o"))
      ∙ ap (λ l. at_word b (codes "o") ∷ l)
      (ap (λ l. filter f (b ∷ l)) (append-nil (copy_names b 0 (suc u))) ∙ leave b (copy_names b 0 (suc u)) n ∙ copies_kept b 0 (suc u) h
      ∙ sym (names_decls (copy_names b 0 (suc u)) (stream width)))

  query_kept : (inputs all past : List Name) (known : List Named) (q : Query) → Keeps q.name → f q.name ≡ false
      → kept (query_ops inputs all known past q) ≡ decl_names (query_decls all known q)
  query_kept inputs all past known q h n =
      let b = q.name in let u = count q.name all in let scope = scope_of known q.items in
      let srcs = queues_of_uses inputs all past (streams_of q.items) in
      let last = item_last b q.items in
      let s = select_last b last q.condition in
      let p = project_last b s q.columns in
      let so = select_ops b scope last q.condition in
      let po = project_ops b scope s q.columns in
      let oo = op (at_word b (codes "i")) (streamer (streamer_of q.kind)) (p ∷ []) (out_name b u ∷ []) (at_word b (codes "i") ∷ []) ∷ out_ops b u in
      let sd = select_decls b (widths_of scope) q.condition in
      let pd = project_decls b q.columns in
      let od = out_decls b (columns_width scope q.columns) u in
      join (item_ops b q.items srcs) (so ++ (po ++ oo)) (item_decls b scope) (sd ++ (pd ++ od))
      (items_kept b known q.items srcs (as_many inputs all past q.items) h)
      (join so (po ++ oo) sd (pd ++ od) (select_kept b scope last (widths_of scope) q.condition h)
      (join po oo pd od (project_kept b scope s q.columns h) (out_kept q p (columns_width scope q.columns) u h n)))

  abbrev AreKept : Program → Type 0
  AreKept [] = Unit {0}
  AreKept (Register name fields ∷ ps) = Keeps name × AreKept ps
  AreKept (AQuery q ∷ ps) = Keeps q.name × (f q.name ≡ false) × AreKept ps

  queries_kept : (inputs all past : List Name) (known : List Named) (ps : Program) → AreKept ps
      → kept (queries_ops inputs all known past ps) ≡ decl_names (queries_decls all known ps)
  queries_kept inputs all past known [] h = refl
  queries_kept inputs all past known (Register name fields ∷ ps) h = queries_kept inputs all past (record { name = name; fields = fields } ∷ known) ps h.1
  queries_kept inputs all past known (AQuery q ∷ ps) h =
      join (query_ops inputs all known past q) (queries_ops inputs all (query_named known q ∷ known) (past ++ streams_of q.items) ps) (query_decls all known q)
      (queries_decls all (query_named known q ∷ known) ps)
      (query_kept inputs all past known q h.0 h.1) (queries_kept inputs all (past ++ streams_of q.items) (query_named known q ∷ known) ps h.2)

  copy_kept : (n : Name) (width u : ℕ) → Keeps n → kept (copy_ops n u) ≡ decl_names (copy_decls n width u)
  copy_kept n width zero h = refl
  copy_kept n width (suc zero) h = refl
  copy_kept n width (suc (suc u)) h =
      ap (filter f) (append-nil (copy_names n 0 (suc (suc u)))) ∙ copies_kept n 0 (suc (suc u)) h
      ∙ sym (names_decls (copy_names n 0 (suc (suc u))) (stream width))

  inputs_kept : (all : List Name) (ps : Program) → AreKept ps → kept (input_ops all ps) ≡ decl_names (input_copies all ps)
  inputs_kept all [] h = refl
  inputs_kept all (Register name fields ∷ ps) h =
      join (copy_ops name (count name all)) (input_ops all ps) (copy_decls name (length fields) (count name all)) (input_copies all ps)
      (copy_kept name (length fields) (count name all) h.0) (inputs_kept all ps h.1)
  inputs_kept all (AQuery q ∷ ps) h = inputs_kept all ps h.2

-- NAMES WITH A WORD ARE NO OUTPUTS

abbrev Plain : List Name → Type 0
Plain ns = AllByRecursion (λ n. IsTrue (has_no_at n)) ns

word_apart : (b : Name) (w : List ℕ) (ns : List Name) → IsTrue (has_no_at b) → Plain ns → count (at_word b w) ns ≡ 0
word_apart b w [] h a = refl
word_apart b w (n ∷ ns) h a = ⊎_elim
    (λ c. absurd (none-some w (ap (λ (x : Name × Tag). x.1) (sym (split_tagged n None a.0) ∙ ap split c.0 ∙ split_tagged b (Some w) h))))
    (λ c. let o = ap one_if c.1 in let m = word_apart b w ns h a.1 in omega (arith, o, m))
    (cases_name n (at_word b w))

outputs_are : (known : List Named) (ps : Program) → decl_names (output_decls known ps) ≡ asked ps
outputs_are known [] = refl
outputs_are known (Register name fields ∷ ps) = outputs_are (record { name = name; fields = fields } ∷ known) ps
outputs_are known (AQuery q ∷ ps) = ap (λ l. q.name ∷ l) (outputs_are (query_named known q ∷ known) ps)

plain_asked : (ps : Program) → Plain (declared_names ps) → Plain (asked ps)
plain_asked [] a = tt
plain_asked (Register name fields ∷ ps) a = plain_asked ps a.1
plain_asked (AQuery q ∷ ps) a = (a.0, plain_asked ps a.1)

all_kept : (outs : List Name) (ps : Program) → Plain outs → Plain (declared_names ps) → There (asked ps) outs → AreKept (other outs) ps
all_kept outs [] a b t = tt
all_kept outs (Register name fields ∷ ps) a b t = ((λ w. is_other outs (at_word name w) (word_apart name w outs b.0 a)), all_kept outs ps a b.1 t)
all_kept outs (AQuery q ∷ ps) a b t = (
  (λ w. is_other outs (at_word q.name w) (word_apart q.name w outs b.0 a)),
  not_other outs q.name (t q.name (let o = one_same q.name in omega (arith, o))),
  all_kept outs ps a b.1 (λ z lt. t z (omega (arith, lt))),
)

-- the law: queues and variables stand in the order of the operators
pub plans_in_turn : PlansInTurn
plans_in_turn p a =
    let all = all_uses p in
    let ins = registered p in
    let outs = decl_names (output_decls [] p) in
    let inputs = decl_names (input_decls p) in
    let k = plans_keep p a in
    let are = outputs_are [] p in
    let good : AreKept (other outs) p =
    all_kept outs p (subst Plain (sym are) (plain_asked p a.names)) a.names (λ z lt. subst (λ l. 0 < count z l) (sym are) lt) in
    let io = input_ops all p in let ao = queries_ops ins all [] [] p in (
      first_named outs (outs ++ inputs) (λ z. count z inputs) (ops_of p) k.in_order
          (λ z lt. let c = count-append z outs inputs in omega (arith, c, lt))
          (λ z lt. let c = count-append z outs inputs in omega (arith, c, lt))
          (λ z n. let c = count-append z outs inputs in let w = k.written_once z in omega (arith, c, n, w))
          ∙ ap (λ l. (outs ++ inputs) ++ l)
          (join (other outs) io ao (input_copies all p) (queries_decls all [] p) (inputs_kept (other outs) all p good)
          (queries_kept (other outs) ins all [] [] p good)),
      all_new [] (all_vars (ops_of p))
          (λ v. ⊎_elim (λ lt. let o = k.private_once v lt in let t = total-vars v (ops_of p) in omega (arith, o, t)) (λ z. omega (arith, z))
          (more_or_zero (count v (all_vars (ops_of p))))),
    )
