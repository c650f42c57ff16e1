-- The histories of a query's operators, one equation after another.
use Rattle.std.proofs.Common.{◌≡◌, ℕ, zero, suc, ℤ, ◌+◌, ◌<◌, Option, Some, None, List, [], ◌∷◌, ◌++◌, refl, sym, ap, ◌∙◌, arith, length, map, fold}
use Rattle.std.specs.Prelude.{All, codes}
use Rattle.river_base.specs.Instants.{Timed, spread}
use Rattle.river_base.specs.declared.item.Item as item
use Rattle.river_base.specs.Row.{in_order}
use Rattle.river_kernels.specs.Kern.{Kern, window, select, project, streamer, duplicate}
use Rattle.river_plan.specs.Forms.{Name, OpForm}
use Rattle.river_plan.specs.Uses.{Each}
use Rattle.river_plan.proofs.ShareLemmas.{each_front, each_back}
use Rattle.brooklet_model.specs.Firings.{Fired, feed}
use Rattle.brooklet_model.specs.Fire.{fire, first_kept, ins}
use Rattle.brooklet_model.specs.Histories.{History, lists_of, Lists, Solves}
use Rattle.brooklet_model.specs.Words.{feed_all}
use Rattle.brooklet_model.proofs.Feeds.{one_input}
use Rattle.brooklet_model.proofs.Lists.{funext}
use Rattle.cql_text.specs.Tree.{Scalar, Source, Columns, Star, Chosen, Query}
use Rattle.cql_model.specs.KernelWords.{streamer_of, kernel_window}
use Rattle.cql_model.specs.Scopes.{Named, scope_of}
use Rattle.cql_model.specs.Streams.{windowed}
use Rattle.cql_model.proofs.Instants.{Ascends}
use Rattle.cql_model.specs.Meaning.{KnownStream, named_of, rows_named, Tuple, with_each, product_of, where_true, selected_row, windows_at, content, answer}
use Rattle.cql_model.specs.Plan.{copy_names, copy_name, op, w_name, x_name, window_ops, cross_ops, cross_last, select_ops, select_last, project_ops}
use Rattle.cql_model.specs.Plan.{project_last, out_ops, out_name, tail_ops, item_ops, item_last, resolved, terms_of, at_word}
use Rattle.cql_model.proofs.Contents.{rows, product_more, one_item, select_is, project_is, where_fits}
use Rattle.cql_model.proofs.Fed.{select_fed, project_fed, copy_fed, streamer_fed, cross_fed}
use Rattle.cql_model.proofs.Values.{Fits}
use Rattle.cql_model.proofs.Widths.{AllWide, tuples_fit}
use Rattle.cql_model.proofs.Windows.{window_fed}

-- what holds of all operators of two lists
pub each-append : (P : OpForm → Type 0) (xs ys : List OpForm) → Each P (xs ++ ys) → Each P xs × Each P ys
each-append P xs ys h = (each_front P xs ys h, each_back P xs ys h)

-- what a kernel of one input gives
one_solved : (k : Kern) (h : History) (r : Name) (q : ℕ) → ins k ≡ 1
    → (feed_all k (lists_of h (r ∷ [])) (first_kept k)).outs q ≡ (feed (fire k 0) (h r) (first_kept k)).outs q
one_solved k h r q e = ap (λ (f : Fired). f.outs q) (one_input k (lists_of h (r ∷ [])) (first_kept k) e)

same_spread : (ts : List ℤ) (a b : Timed) → ((t : ℤ) → a t ≡ b t) → spread ts a ≡ spread ts b
same_spread ts a b e = ap (spread ts) (funext a b e)

module _ (h : History) (ts : List ℤ) (up : Ascends ts) where
  -- the queue has these rows at each instant
  abbrev pub Has : Name → Timed → Type 0
  Has q r = h q ≡ spread ts r

  -- COPIES

  -- the copies of a stream have its rows
  pub copies_have : (n : Name) (k u : ℕ) (f : ℕ → List item.Item) (r : Timed) → Lists (copy_names n k u) f h → ((j : ℕ) → j < u → f j ≡ spread ts r) → (j : ℕ)
      → j < u → Has (copy_name n (k + j)) r
  copies_have n k zero f r l e j lt = absurd (omega (arith, lt))
  copies_have n k (suc u) f r l e zero lt = (let z : k + 0 ≡ k = omega arith in ap (λ m. h (copy_name n m)) z) ∙ l.0 ∙ e 0 (omega arith)
  copies_have n k (suc u) f r l e (suc j) lt =
      (let z : k + suc j ≡ (k + 1) + j = omega arith in ap (λ m. h (copy_name n m)) z)
      ∙ copies_have n (k + 1) u (λ i. f (suc i)) r l.1 (λ i li. e (suc i) (omega (arith, li))) j (omega (arith, lt))

  -- WINDOWS

  -- a query's items read these queues
  abbrev pub Reads : List KnownStream → List Source → List Name → Type 0
  Reads ks [] srcs = Unit {0}
  Reads ks (i ∷ is) [] = ⊥
  Reads ks (i ∷ is) (src ∷ srcs) = Has src (rows_named ks i.stream) × Reads ks is srcs

  abbrev pub window_rows : List KnownStream → Source → Timed
  window_rows ks i t = windowed i.window ts (rows_named ks i.stream) t

  abbrev pub WindowsHave : List KnownStream → Name → ℕ → List Source → Type 0
  WindowsHave ks q k [] = Unit {0}
  WindowsHave ks q k (i ∷ is) = Has (w_name q k) (λ t. in_order (window_rows ks i t)) × WindowsHave ks q (k + 1) is

  pub windows_have : (ks : List KnownStream) (q : Name) (k : ℕ) (items : List Source) (srcs : List Name) → Each (Solves h) (window_ops q k items srcs)
      → Reads ks items srcs → WindowsHave ks q k items
  windows_have ks q k [] srcs s r = tt
  windows_have ks q k (i ∷ is) [] s r = absurd r
  windows_have ks q k (i ∷ is) (src ∷ srcs) s r = (
    s.0.0 ∙ one_solved (window (kernel_window i.window)) h src 0 refl
        ∙ ap (λ l. (feed (fire (window (kernel_window i.window)) 0) l (first_kept (window (kernel_window i.window)))).outs 0) r.0
        ∙ window_fed i.window ts (rows_named ks i.stream) up,
    windows_have ks q (k + 1) is srcs s.1 r.1,
  )

  -- PRODUCTS

  pub crosses_have : (ks : List KnownStream) (q last : Name) (k : ℕ) (items : List Source) (tuples : ℤ → List Tuple)
      → Each (Solves h) (cross_ops q last k items)
      → WindowsHave ks q k items
      → Has last (λ t. in_order (rows (tuples t)))
      → Has (cross_last q last k items) (λ t. in_order (rows (fold with_each (tuples t) (windows_at ts ks items t))))
  crosses_have ks q last k [] tuples s w l = l
  crosses_have ks q last k (i ∷ is) tuples s w l =
      crosses_have ks q (x_name q k) (k + 1) is (λ t. with_each (tuples t) (window_rows ks i t)) s.1 w.1
      (s.0.0 ∙ cross_fed ts (λ t. in_order (rows (tuples t))) (λ t. in_order (window_rows ks i t)) (lists_of h (last ∷ w_name q k ∷ [])) l w.0
      ∙ same_spread ts _ _ (λ t. product_more (tuples t) (window_rows ks i t)))

  -- the last queue of the items has their product
  pub items_have : (ks : List KnownStream) (q : Name) (items : List Source) (srcs : List Name) → 0 < length items → Each (Solves h) (item_ops q items srcs)
      → Reads ks items srcs
      → Has (item_last q items) (λ t. in_order (rows (product_of (windows_at ts ks items t))))
  items_have ks q [] srcs some s r = absurd (omega (arith, some))
  items_have ks q (i ∷ is) srcs some s r =
      let parts = each-append (Solves h) (window_ops q 1 (i ∷ is) srcs) (cross_ops q (w_name q 1) 2 is) s in
      let w = windows_have ks q 1 (i ∷ is) srcs parts.0 r in
      crosses_have ks q (w_name q 1) 2 is (λ t. product_of (window_rows ks i t ∷ [])) parts.1 w.1
      (w.0 ∙ same_spread ts _ _ (λ t. one_item (window_rows ks i t)))

  -- CONDITION AND COLUMNS

  pub select_has : (q : Name) (scope : List Named) (last : Name) (o : Option Scalar) (tuples : ℤ → List Tuple) → ((t : ℤ) → All (Fits scope) (tuples t))
      → Each (Solves h) (select_ops q scope last o)
      → Has last (λ t. in_order (rows (tuples t))) → Has (select_last q last o) (λ t. in_order (rows (where_true scope o (tuples t))))
  select_has q scope last None tuples f s l = l
  select_has q scope last (Some e) tuples f s l =
      s.0.0 ∙ one_solved (select (resolved scope e)) h last 0 refl ∙ ap (λ x. (feed (fire (select (resolved scope e)) 0) x []).outs 0) l
      ∙ select_fed (resolved scope e) ts (λ t. in_order (rows (tuples t))) [] ∙ same_spread ts _ _ (λ t. select_is scope e (tuples t) (f t))

  pub project_has : (q : Name) (scope : List Named) (last : Name) (cols : Columns) (tuples : ℤ → List Tuple) → ((t : ℤ) → All (Fits scope) (tuples t))
      → Each (Solves h) (project_ops q scope last cols)
      → Has last (λ t. in_order (rows (tuples t))) → Has (project_last q last cols) (λ t. in_order (map (selected_row scope cols) (tuples t)))
  project_has q scope last Star tuples f s l = l
  project_has q scope last (Chosen cs) tuples f s l =
      s.0.0 ∙ one_solved (project (terms_of scope cs)) h last 0 refl ∙ ap (λ x. (feed (fire (project (terms_of scope cs)) 0) x []).outs 0) l
      ∙ project_fed (terms_of scope cs) ts (λ t. in_order (rows (tuples t))) [] ∙ same_spread ts _ _ (λ t. project_is scope cs (tuples t) (f t))

  -- THE STREAM

  -- a query's own queue, and its copies
  pub record Gives (q : Name) (uses : ℕ) (r : Timed) : Type 0 where
    pub own : Has q r
    pub copy : (j : ℕ) → j < uses → Has (copy_name q j) r

  pub out_has : (q : Name) (uses : ℕ) (r : Timed) → Each (Solves h) (out_ops q uses) → Has (out_name q uses) r → Gives q uses r
  out_has q zero r s l = record { own = l; copy = λ j lt. absurd (omega (arith, lt)) }
  out_has q (suc u) r s l =
      let o = at_word q (codes "o") in
      let all : (j : ℕ) → j < suc (suc u) → (feed_all (duplicate (suc (suc u))) (lists_of h (o ∷ [])) []).outs j ≡ spread ts r =
      λ j lt. one_solved (duplicate (suc (suc u))) h o j refl ∙ copy_fed (suc (suc u)) j lt (h o) [] ∙ l in
      record {
        own = s.0.0 ∙ all 0 (omega arith);
        copy =
            λ j lt. (let z : 0 + j ≡ j = omega arith in ap (λ m. h (copy_name q m)) (sym z))
            ∙ copies_have q 0 (suc u) _ r s.0.1 (λ i li. all (suc i) (omega (arith, li))) j lt;
      }

  -- the queues of a query's stream have its answer
  pub tail_has : (ks : List KnownStream) (q : Query) (uses : ℕ) (last : Name) → AllWide ks
      → Each (Solves h) (tail_ops q (scope_of (named_of ks) q.items) uses last)
      → Has last (λ t. in_order (rows (product_of (windows_at ts ks q.items t)))) → Gives q.name uses (answer ts ks q)
  tail_has ks q uses last wide s l =
      let scope = scope_of (named_of ks) q.items in
      let tuples : ℤ → List Tuple = λ t. product_of (windows_at ts ks q.items t) in
      let fit : (t : ℤ) → All (Fits scope) (tuples t) = λ t. tuples_fit ts ks q.items t wide in
      let sel = select_last q.name last q.condition in
      let pro = project_last q.name sel q.columns in
      let stream_op = op (at_word q.name (codes "i")) (streamer (streamer_of q.kind)) (pro ∷ []) (out_name q.name uses ∷ [])
      (at_word q.name (codes "i") ∷ []) in
      let a = each-append (Solves h) (select_ops q.name scope last q.condition)
      (project_ops q.name scope sel q.columns ++ (stream_op ∷ out_ops q.name uses)) s in
      let b = each-append (Solves h) (project_ops q.name scope sel q.columns) (stream_op ∷ out_ops q.name uses) a.1 in
      let chosen = select_has q.name scope last q.condition tuples fit a.0 l in
      let rows_are = project_has q.name scope sel q.columns (λ t. where_true scope q.condition (tuples t))
      (λ t. where_fits scope q.condition (tuples t) (fit t)) b.0 chosen in
      out_has q.name uses (answer ts ks q) b.1.1
      (b.1.0.0 ∙ one_solved (streamer (streamer_of q.kind)) h pro 0 refl
      ∙ ap (λ x. (feed (fire (streamer (streamer_of q.kind)) 0) x (first_kept (streamer (streamer_of q.kind)))).outs 0) rows_are
      ∙ streamer_fed q.kind ts (λ t. in_order (content ts ks q t)) (content ts ks q) up (λ t. refl))
