-- Query by query, what a piece gives is what the whole gives, above the query's bound.
use Rattle.std.proofs.Common.{◌≡◌, ℤ, Bool, true, false, List, [], ◌∷◌, ◌++◌, refl, sym, ap, ◌∙◌, cond, subst, map, append_assoc}
use Rattle.std.specs.Prelude.{Option, Some, None}
use Rattle.std.specs.List.{AllByRecursion}
use Rattle.river_base.specs.Instants.{Timed, at_instant}
use Rattle.river_base.specs.Name.{name_eq}
use Rattle.river_base.specs.Row.{in_order}
use Rattle.cql_text.specs.declared.tree.Kind.{Kind}
use Rattle.cql_text.specs.declared.tree.Kind.TheVariants.{Istream, Dstream, Rstream}
use Rattle.cql_text.specs.Tree.{Now, Unbounded, Name, Source, Query, Register, AQuery, Program}
use Rattle.cql_model.specs.Scopes.{Named, scope_of, column_names}
use Rattle.cql_model.specs.Streams.{windowed, as_stream}
use Rattle.cql_model.specs.Meaning.{KnownStream, named_of, rows_named, product_of, where_true, selected_row, windows_at, content, answer, query_known, stream_known, answers}
use Rattle.cql_model.proofs.Instants.{AllAbove, Ascends, ascends_above}
use Rattle.cql_pieces.specs.Piece.{growing, both, kind_settles, growth_settles, stream_settles, File, Cut, whole_files, settled, window_settles, kind_moves}
use Rattle.cql_pieces.specs.Piece.{PieceStream, streams_in, bound_named, items_settle, query_settles, file_piece, query_piece, bounds}
use Rattle.cql_pieces.specs.Whole.{Agree, AllAgree}
use Rattle.cql_pieces.proofs.Lists.{each_in, above_back, three_parts, ascends_front, Beyond, moved_beyond, both_beyond, both_settled, SameRows, nothing_same, rows_behind}
use Rattle.cql_pieces.proofs.Growing.{of_rows, istream_is, dstream_is, Grows, grows, rows_now}
use Rattle.cql_pieces.proofs.Windows.{window_same}
use Rattle.cql_pieces.proofs.Streamers.{kind_up, stream_same}

-- the piece's streams and the whole's: of one name and fields, and the same rows above the bound, at the instants of the piece and at
-- those of the whole
abbrev SameStream : List ℤ → List ℤ → PieceStream → KnownStream → Type 0
SameStream ps qs k j = (k.stream.named ≡ j.named) × SameRows ps qs k.bound k.stream.rows j.rows

-- one after another
abbrev pub SameStreams : List ℤ → List ℤ → List PieceStream → List KnownStream → Type 0
SameStreams ps qs [] [] = Unit {0}
SameStreams ps qs [] (j ∷ js) = ⊥
SameStreams ps qs (k ∷ ks) [] = ⊥
SameStreams ps qs (k ∷ ks) (j ∷ js) = SameStream ps qs k j × SameStreams ps qs ks js

names_same : (ps qs : List ℤ) (ks : List PieceStream) (js : List KnownStream) → SameStreams ps qs ks js → named_of (streams_in ks) ≡ named_of js
names_same ps qs [] [] h = refl
names_same ps qs [] (j ∷ js) h = absurd h
names_same ps qs (k ∷ ks) [] h = absurd h
names_same ps qs (k ∷ ks) (j ∷ js) h = ap (λ n. n ∷ named_of (streams_in ks)) h.0.0 ∙ ap (λ l. j.named ∷ l) (names_same ps qs ks js h.1)

-- a stream by its name
pub named_same : (ps qs : List ℤ) (ks : List PieceStream) (js : List KnownStream) (n : Name) → SameStreams ps qs ks js
    → SameRows ps qs (bound_named ks n) (rows_named (streams_in ks) n) (rows_named js n)
named_same ps qs [] [] n h = nothing_same ps qs None
named_same ps qs [] (j ∷ js) n h = absurd h
named_same ps qs (k ∷ ks) [] n h = absurd h
named_same ps qs (k ∷ ks) (j ∷ js) n h =
    subst (λ (d : Named). SameRows ps qs (cond c k.bound (bound_named ks n)) (λ t. cond c (k.stream.rows t) (rows_named (streams_in ks) n t))
    (λ t. cond (name_eq d.name n) (j.rows t) (rows_named js n t))) h.0.0 (go c (named_same ps qs ks js n h.1)) where
      c : Bool
      c = name_eq k.stream.named.name n

      go : (b : Bool) → SameRows ps qs (bound_named ks n) (rows_named (streams_in ks) n) (rows_named js n)
          → SameRows ps qs (cond b k.bound (bound_named ks n)) (λ t. cond b (k.stream.rows t) (rows_named (streams_in ks) n t)) (λ t. cond b (j.rows t) (rows_named js n t))
      go true m = h.0.1
      go false m = m

-- The piece has the instants `vs` of the whole behind others, `xs`, where the whole has `us`; behind them it ends, and the whole has
-- `ws`. At `xs` and `us` a file may be missing.
module _ (xs us vs ws : List ℤ) (start : Option ℤ) (piece : Ascends (xs ++ vs)) (all : Ascends (us ++ (vs ++ ws))) (begins : Beyond start xs) (before : Beyond start us) where
  abbrev ps : List ℤ
  ps = xs ++ vs

  abbrev qs : List ℤ
  qs = us ++ vs

  abbrev ts : List ℤ
  ts = us ++ (vs ++ ws)

  upto : Ascends qs
  upto = ascends_front qs ws (subst Ascends (sym (append_assoc us vs ws)) all)

  behind : (v1 v2 : List ℤ) (t : ℤ) → vs ≡ v1 ++ (t ∷ v2) → AllAbove t ws
  behind v1 v2 t e =
      above_back t v2 ws (ascends_above (us ++ v1) (v2 ++ ws) t (subst Ascends (ap (λ l. us ++ (l ++ ws)) e ∙ three_parts us v1 v2 ws t) all))

  -- THE ITEMS

  items_beyond : (ks : List PieceStream) (ys : List ℤ) → Beyond start ys → (items : List Source) → Beyond (items_settle ps start ks items) ys
  items_beyond ks ys b [] = b
  items_beyond ks ys b (i ∷ is) =
      both_beyond (window_settles i.window ps (rows_named (streams_in ks) i.stream) (bound_named ks i.stream)) (items_settle ps start ks is) ys
      (items_beyond ks ys b is)

  windows_same : (ks : List PieceStream) (js : List KnownStream) → SameStreams ps qs ks js → (items : List Source) (v1 v2 : List ℤ) (t : ℤ) → vs ≡ v1 ++ (t ∷ v2)
      → settled (items_settle ps start ks items) t ≡ true → windows_at ps (streams_in ks) items t ≡ windows_at ts js items t
  windows_same ks js h [] v1 v2 t e g = refl
  windows_same ks js h (i ∷ is) v1 v2 t e g =
      let s = rows_named (streams_in ks) i.stream in
      let r = rows_named js i.stream in
      let m = bound_named ks i.stream in
      let g2 = both_settled (window_settles i.window ps s m) (items_settle ps start ks is) t g in
      let place : ps ≡ (xs ++ v1) ++ (t ∷ v2) = ap (λ l. xs ++ l) e ∙ sym (append_assoc xs v1 (t ∷ v2)) in
      ap (λ l. l ∷ windows_at ps (streams_in ks) is t)
      (window_same i.window m ps qs ws (xs ++ v1) v2 t s r (behind v1 v2 t e) piece upto place (named_same ps qs ks js i.stream h) g2.0
      ∙ ap (λ l. windowed i.window l r t) (append_assoc us vs ws))
      ∙ ap (λ l. windowed i.window ts r t ∷ l) (windows_same ks js h is v1 v2 t e g2.1)

  -- THE QUERY

  abbrev of_windows : Query → List Named → List (List (List ℤ)) → List (List ℤ)
  of_windows q names windows = map (selected_row (scope_of names q.items) q.columns) (where_true (scope_of names q.items) q.condition (product_of windows))

  content_same : (ks : List PieceStream) (js : List KnownStream) → SameStreams ps qs ks js → (q : Query)
      → Agree (items_settle ps start ks q.items) (content ps (streams_in ks) q) (content ts js q) vs
  content_same ks js h q =
      each_in (λ t. settled (items_settle ps start ks q.items) t ≡ true → content ps (streams_in ks) q t ≡ content ts js q t) vs
      (λ v1 v2 t e g. ap (λ n. of_windows q n (windows_at ps (streams_in ks) q.items t)) (names_same ps qs ks js h)
      ∙ ap (of_windows q (named_of js)) (windows_same ks js h q.items v1 v2 t e g))

  abbrev usual : List PieceStream → Query → Kind → Option ℤ
  usual ks q k = kind_settles k ps (items_settle ps start ks q.items)

  -- by a bound of the content
  usual_same : (ks : List PieceStream) (js : List KnownStream) → SameStreams ps qs ks js → (q : Query) (k : Kind)
      → Agree (usual ks q k) (as_stream k ps (content ps (streams_in ks) q)) (as_stream k ts (content ts js q)) vs
  usual_same ks js h q k =
      each_in (λ t. settled (usual ks q k) t ≡ true → as_stream k ps (content ps (streams_in ks) q) t ≡ as_stream k ts (content ts js q) t) vs
      (λ v1 v2 t e g. stream_same k (items_settle ps start ks q.items) xs us vs ws v1 v2 t (content ps (streams_in ks) q) (content ts js q) piece all e
      (items_beyond ks xs begins q.items) (items_beyond ks us before q.items) (content_same ks js h q) g)

  -- where all rows stay
  whole_place : (v1 v2 : List ℤ) (t : ℤ) → vs ≡ v1 ++ (t ∷ v2) → ts ≡ (us ++ v1) ++ (t ∷ (v2 ++ ws))
  whole_place v1 v2 t e = ap (λ l. us ++ (l ++ ws)) e ∙ three_parts us v1 v2 ws t

  piece_place : (v1 v2 : List ℤ) (t : ℤ) → vs ≡ v1 ++ (t ∷ v2) → ps ≡ (xs ++ v1) ++ (t ∷ v2)
  piece_place v1 v2 t e = ap (λ l. xs ++ l) e ∙ sym (append_assoc xs v1 (t ∷ v2))

  rows_same_at : (ks : List PieceStream) (js : List KnownStream) → SameStreams ps qs ks js → (n : Name) (v1 v2 : List ℤ) (t : ℤ) → vs ≡ v1 ++ (t ∷ v2)
      → settled (bound_named ks n) t ≡ true → rows_named (streams_in ks) n t ≡ rows_named js n t
  rows_same_at ks js h n v1 v2 t e g =
      let m = bound_named ks n in
      let s = rows_named (streams_in ks) n in
      let r = rows_named js n in
      sym (rows_now ps (xs ++ v1) v2 t s (piece_place v1 v2 t e) piece)
      ∙ window_same Now m ps qs ws (xs ++ v1) v2 t s r (behind v1 v2 t e) piece upto (piece_place v1 v2 t e) (named_same ps qs ks js n h) (now_settles m g)
      ∙ ap (λ l. windowed Now l r t) (append_assoc us vs ws)
      ∙ rows_now ts (us ++ v1) (v2 ++ ws) t r (whole_place v1 v2 t e) all where
        now_settles : (o : Option ℤ) → settled o t ≡ true → settled (window_settles Now ps (rows_named (streams_in ks) n) o) t ≡ true
        now_settles None k = k
        now_settles (Some m) k = k

  content_grows : (known : List KnownStream) (q : Query) (n : Name) (ys : List ℤ) → Grows q.items n → (t : ℤ)
      → content ys known q t ≡ of_rows q (scope_of (named_of known) q.items) (windowed Unbounded ys (rows_named known n) t)
  content_grows known q n ys g t =
      let scope = scope_of (named_of known) q.items in
      ap (λ l. map (selected_row scope q.columns) (where_true scope q.condition (product_of (windows_at ys known l t)))) g.alone
      ∙ ap (λ w. of_rows q scope (windowed w ys (rows_named known g.item.stream) t)) g.window
      ∙ ap (λ m. of_rows q scope (windowed Unbounded ys (rows_named known m) t)) g.stream

  growth_same : (ks : List PieceStream) (js : List KnownStream) → SameStreams ps qs ks js → (q : Query) (n : Name) → Grows q.items n → (k : Kind)
      → Agree (growth_settles k start (bound_named ks n) (usual ks q k)) (as_stream k ps (content ps (streams_in ks) q)) (as_stream k ts (content ts js q)) vs
  growth_same ks js h q n g Istream =
      each_in (λ t. settled (both (bound_named ks n) start) t ≡ true → as_stream Istream ps (content ps (streams_in ks) q) t ≡ as_stream Istream ts (content ts js q) t) vs
      (λ v1 v2 t e k. let s = scope_of (named_of (streams_in ks)) q.items in
      let r = scope_of (named_of js) q.items in
      istream_is q s ps (xs ++ v1) v2 t (rows_named (streams_in ks) n) (content ps (streams_in ks) q) (piece_place v1 v2 t e) piece (content_grows (streams_in ks) q n ps g)
      ∙ ap (λ l. in_order (of_rows q s l)) (rows_same_at ks js h n v1 v2 t e (both_settled (bound_named ks n) start t k).0)
      ∙ ap (λ l. in_order (of_rows q (scope_of l q.items) (rows_named js n t))) (names_same ps qs ks js h)
      ∙ sym (istream_is q r ts (us ++ v1) (v2 ++ ws) t (rows_named js n) (content ts js q) (whole_place v1 v2 t e) all (content_grows js q n ts g)))
  growth_same ks js h q n g Dstream =
      each_in (λ t. settled start t ≡ true → as_stream Dstream ps (content ps (streams_in ks) q) t ≡ as_stream Dstream ts (content ts js q) t) vs
      (λ v1 v2 t e k. dstream_is q (scope_of (named_of (streams_in ks)) q.items) ps (xs ++ v1) v2 t (rows_named (streams_in ks) n) (content ps (streams_in ks) q)
      (piece_place v1 v2 t e) piece (content_grows (streams_in ks) q n ps g)
      ∙ sym (dstream_is q (scope_of (named_of js) q.items) ts (us ++ v1) (v2 ++ ws) t (rows_named js n) (content ts js q) (whole_place v1 v2 t e) all (content_grows js q n ts g)))
  growth_same ks js h q n g Rstream = usual_same ks js h q Rstream

  answer_same : (ks : List PieceStream) (js : List KnownStream) → SameStreams ps qs ks js → (q : Query)
      → Agree (query_settles ps start ks q) (answer ps (streams_in ks) q) (answer ts js q) vs
  answer_same ks js h q = go (growing q.items) refl where
    go : (o : Option Name) → growing q.items ≡ o → Agree (stream_settles o q.kind start ks (usual ks q q.kind)) (answer ps (streams_in ks) q) (answer ts js q) vs
    go None e = usual_same ks js h q q.kind
    go (Some n) e = growth_same ks js h q n (grows q.items n e) q.kind

  query_beyond : (ks : List PieceStream) (q : Query) (ys : List ℤ) → Beyond start ys → Beyond (query_settles ps start ks q) ys
  query_beyond ks q ys b = go (growing q.items) q.kind where
    other : (k : Kind) → Beyond (usual ks q k) ys
    other k = moved_beyond (kind_moves k ps) (kind_up k ps) (items_settle ps start ks q.items) ys (items_beyond ks ys b q.items)

    go : (o : Option Name) (k : Kind) → Beyond (stream_settles o k start ks (usual ks q k)) ys
    go None k = other k
    go (Some n) Istream = both_beyond (bound_named ks n) start ys b
    go (Some n) Dstream = b
    go (Some n) Rstream = other Rstream

  pub query_same : (ks : List PieceStream) (js : List KnownStream) → SameStreams ps qs ks js → (q : Query)
      → SameStream ps qs (query_piece ps start ks q) (query_known ts js q)
  query_same ks js h q = (
    ap (λ n. record { name = q.name; fields = column_names (scope_of n q.items) q.columns }) (names_same ps qs ks js h),
    rows_behind xs us vs (query_settles ps start ks q) (answer ps (streams_in ks) q) (answer ts js q) (query_beyond ks q xs begins) (query_beyond ks q us before)
        (answer_same ks js h q),
  )

  -- at the instants that are not above a bound nothing is said
  nothing_said : (m : Option ℤ) (s r : Timed) (ys : List ℤ) → Beyond m ys → Agree m s r vs → Agree m s r (ys ++ vs)
  nothing_said m s r [] b g = g
  nothing_said m s r (y ∷ ys) b g = ((λ h. cc (h, b.0)), nothing_said m s r ys b.1 g)

  -- THE PROGRAM

  -- the files of the piece have the rows of the whole's, each above its own bound
  pub all_agree : (cut : Cut → File) (bound : Cut → Option ℤ)
      → (ks : List PieceStream) (js : List KnownStream) → SameStreams ps qs ks js → (p : Program) (cuts : List Cut)
      → AllByRecursion (λ c. SameRows ps qs (bound c) (at_instant (cut c)) (at_instant c.file)) cuts
      → AllAgree (bounds ps start ks p (map bound cuts) (map cut cuts)) (answers ps (streams_in ks) p (map cut cuts)) (answers ts js p (whole_files cuts)) ps
  all_agree cut bound ks js h [] cuts f = tt
  all_agree cut bound ks js h (Register name fields ∷ p) [] f =
      all_agree cut bound (file_piece None name fields [] ∷ ks) (stream_known name fields [] ∷ js) ((refl, nothing_same ps qs None), h) p [] tt
  all_agree cut bound ks js h (Register name fields ∷ p) (c ∷ cuts) f =
      all_agree cut bound (file_piece (bound c) name fields (map cut (c ∷ cuts)) ∷ ks) (stream_known name fields (whole_files (c ∷ cuts)) ∷ js) ((refl, f.0), h) p cuts f.1
  all_agree cut bound ks js h (AQuery q ∷ p) cuts f = (
    nothing_said (query_settles ps start ks q) (answer ps (streams_in ks) q) (answer ts js q) xs (query_beyond ks q xs begins) (answer_same ks js h q),
    all_agree cut bound (query_piece ps start ks q ∷ ks) (query_known ts js q ∷ js) (query_same ks js h q, h) p cuts f,
  )
