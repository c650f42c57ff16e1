-- The leads that are reckoned backward are enough.
use Rattle.std.proofs.Common.{◌≡◌, ℕ, ◌≤◌, ℤ, pos, Bool, true, false, List, [], ◌∷◌, ◌++◌, length, refl, sym, ap, ◌∙◌, arith, cond, subst, map, fold, append_assoc, length-append}
use Rattle.std.specs.Prelude.{int_lt, int_le, nat_lt, nat_le, filter, flat_map, ◌&&◌, ◌-ℤ◌, ◌+ℤ◌, Option, Some, None}
use Rattle.std.specs.List.{AllByRecursion, Contains}
use Rattle.std.proofs.lemmas.Bool.{and_parts, and_from}
use Rattle.std.proofs.lemmas.List.Elements.{filter-append}
use Rattle.std.proofs.lemmas.List.{append-nil}
use Rattle.river_base.specs.Instants.{Timed, at_instant}
use Rattle.river_base.specs.Name.{name_eq}
use Rattle.river_plan.proofs.NameLemmas.{name_same, name_is}
use Rattle.kern_bags.specs.Contents.{later}
use Rattle.cql_text.specs.Tree.{Name, Window, Now, Range, Unbounded, Latest, Source, Query, Register, AQuery, Program}
use Rattle.cql_text.specs.declared.tree.Kind.{Kind}
use Rattle.cql_text.specs.declared.tree.Kind.TheVariants.{Istream, Dstream, Rstream}
use Rattle.cql_model.specs.Streams.{last_instant}
use Rattle.cql_model.specs.Meaning.{KnownStream, rows_named, stream_known, query_known, other_files}
use Rattle.cql_model.proofs.Instants.{AllAbove, Ascends, filter-none, each-map}
use Rattle.cql_pieces.specs.Piece.{File, Cut, settled, both, moved, rows_since, filled, window_settles, next_after, kind_settles, PieceStream, streams_in}
use Rattle.cql_pieces.specs.Piece.{bound_named, items_settle, growing, growth_settles, stream_settles, query_settles, file_piece, query_piece, bounds}
use Rattle.cql_pieces.specs.Piece.{whole_files}
use Rattle.cql_pieces.specs.Lead.{earlier, through, kind_back, rows_between, rows_back, window_back, look_kind, look_window, content_back, items_need, needs, floor}
use Rattle.cql_pieces.proofs.Lists.{filter_passing, Beyond, SameRows, nothing_same}
use Rattle.cql_pieces.proofs.Growing.{grows, Grows}
use Rattle.cql_pieces.proofs.Cuts.{there_first, there_more, first_or_more, none_there, of_filter}
use Rattle.cql_pieces.proofs.Queries.{SameStreams, named_same, query_same}

-- A BOUND BELOW A NEED

-- all from the need on is above the bound; where everything is needed, there must be no bound
abbrev pub Reaches : Option ℤ → Option ℤ → Type 0
Reaches None o = Unit {0}
Reaches (Some m) None = ⊥
Reaches (Some m) (Some x) = int_lt m x ≡ true

lt_min_left : (m x y : ℤ) → int_lt m (cond (int_lt x y) x y) ≡ true → int_lt m x ≡ true
lt_min_left m x y h = go (int_lt x y) refl h where
  go : (b : Bool) → int_lt x y ≡ b → int_lt m (cond b x y) ≡ true → int_lt m x ≡ true
  go true e k = k
  go false e k = grind (arith, e, k)

lt_min_right : (m x y : ℤ) → int_lt m (cond (int_lt x y) x y) ≡ true → int_lt m y ≡ true
lt_min_right m x y h = go (int_lt x y) refl h where
  go : (b : Bool) → int_lt x y ≡ b → int_lt m (cond b x y) ≡ true → int_lt m y ≡ true
  go true e k = grind (arith, e, k)
  go false e k = k

reach_left : (m a b : Option ℤ) → Reaches m (earlier a b) → Reaches m a
reach_left None a b h = tt
reach_left (Some m) None b h = h
reach_left (Some m) (Some x) None h = absurd h
reach_left (Some m) (Some x) (Some y) h = lt_min_left m x y h

reach_right : (m a b : Option ℤ) → Reaches m (earlier a b) → Reaches m b
reach_right None a b h = tt
reach_right (Some m) None b h = absurd h
reach_right (Some m) (Some x) None h = absurd h
reach_right (Some m) (Some x) (Some y) h = lt_min_right m x y h

lt_later : (m n x : ℤ) → int_lt m x ≡ true → int_lt n x ≡ true → int_lt (later m n) x ≡ true
lt_later m n x h g = go (int_lt m n) where
  go : (b : Bool) → int_lt (cond b n m) x ≡ true
  go true = g
  go false = h

reach_both : (a b o : Option ℤ) → Reaches a o → Reaches b o → Reaches (both a b) o
reach_both None b o h g = g
reach_both (Some m) None o h g = h
reach_both (Some m) (Some n) None h g = h
reach_both (Some m) (Some n) (Some x) h g = lt_later m n x h g

-- the need itself is above a bound that reaches it
pub reach_settled : (m : Option ℤ) (x : ℤ) → Reaches m (Some x) → settled m x ≡ true
reach_settled None x h = refl
reach_settled (Some m) x h = h

-- not later than an instant
abbrev pub AtMost : ℤ → Option ℤ → Type 0
AtMost first None = Unit {0}
AtMost first (Some x) = int_le x first ≡ true

le_min : (x y first : ℤ) → int_le x first ≡ true → int_le (cond (int_lt x y) x y) first ≡ true
le_min x y first h = go (int_lt x y) refl where
  go : (b : Bool) → int_lt x y ≡ b → int_le (cond b x y) first ≡ true
  go true e = h
  go false e = grind (arith, e, h)

-- a need that is not later than an instant is not later where it is taken with another
pub at_most_left : (first : ℤ) (a b : Option ℤ) → AtMost first a → AtMost first (earlier a b)
at_most_left first None b h = tt
at_most_left first (Some x) None h = tt
at_most_left first (Some x) (Some y) h = le_min x y first h

le_self : (x : ℤ) → int_le x x ≡ true
le_self x = grind arith

lt_le : (u x first : ℤ) → int_lt u x ≡ true → int_le x first ≡ true → int_le u first ≡ true
lt_le u x first h g = grind (arith, h, g)

lt_le_lt : (m c x : ℤ) → int_le m c ≡ true → int_lt c x ≡ true → int_lt m x ≡ true
lt_le_lt m c x h g = grind (arith, h, g)

-- THE LAST OF INSTANTS

last_in : (us : List ℤ) (c : ℤ) → last_instant us ≡ Some c → Contains us c
last_in [] c h = cc h
last_in (u ∷ []) c h = let e : u ≡ c = cc h in subst (λ (z : ℤ). Contains (u ∷ []) z) e (there_first u [])
last_in (u ∷ x ∷ us) c h = there_more u (x ∷ us) c (last_in (x ∷ us) c h)

-- where each of these instants is below a need, the last of them is
pub last_reaches : (o : Option ℤ) (us : List ℤ) → AllByRecursion (λ u. Reaches (Some u) o) us → Reaches (last_instant us) o
last_reaches o [] h = tt
last_reaches o (u ∷ []) h = h.0
last_reaches o (u ∷ x ∷ us) h = last_reaches o (x ∷ us) h.1

-- the instant before
kind_at_most : (k : Kind) (ts : List ℤ) (first x : ℤ) → int_le x first ≡ true → AtMost first (kind_back k ts x)
kind_at_most Rstream ts first x h = h
kind_at_most Istream ts first x h = go (last_instant (filter (λ u. int_lt u x) ts)) refl where
  go : (o : Option ℤ) → last_instant (filter (λ u. int_lt u x) ts) ≡ o → AtMost first o
  go None e = tt
  go (Some c) e = lt_le c x first (of_filter (λ u. int_lt u x) ts c (last_in (filter (λ u. int_lt u x) ts) c e)).1 h
kind_at_most Dstream ts first x h = go (last_instant (filter (λ u. int_lt u x) ts)) refl where
  go : (o : Option ℤ) → last_instant (filter (λ u. int_lt u x) ts) ≡ o → AtMost first o
  go None e = tt
  go (Some c) e = lt_le c x first (of_filter (λ u. int_lt u x) ts c (last_in (filter (λ u. int_lt u x) ts) c e)).1 h

through_at_most : (f : ℤ → Option ℤ) (first : ℤ) → ((x : ℤ) → int_le x first ≡ true → AtMost first (f x)) → (o : Option ℤ) → AtMost first o → AtMost first (through f o)
through_at_most f first h None g = tt
through_at_most f first h (Some x) g = h x g

-- what the queries need of a stream begins no later than the span
pub needs_at_most : (ts : List ℤ) (first : ℤ) (ks : List KnownStream) (p : Program) (files : List File) (n : Name) → AtMost first (needs ts first ks p files n)
needs_at_most ts first ks [] files n = le_self first
needs_at_most ts first ks (Register name fields ∷ ps) files n = needs_at_most ts first (stream_known name fields files ∷ ks) ps (other_files files) n
needs_at_most ts first ks (AQuery q ∷ ps) files n =
    at_most_left first (needs ts first (query_known ts ks q ∷ ks) ps files n)
    (items_need ts ks (look_window (growing q.items) q.kind) (content_back q ts (needs ts first (query_known ts ks q ∷ ks) ps files q.name)) first n q.items)
    (needs_at_most ts first (query_known ts ks q ∷ ks) ps files n)

-- what is below a need is below the span
needs_first : (m : Option ℤ) (ts : List ℤ) (first : ℤ) (ks : List KnownStream) (p : Program) (files : List File) (n : Name)
    → Reaches m (needs ts first ks p files n) → Reaches m (Some first)
needs_first m ts first ks [] files n h = h
needs_first m ts first ks (Register name fields ∷ ps) files n h = needs_first m ts first (stream_known name fields files ∷ ks) ps (other_files files) n h
needs_first m ts first ks (AQuery q ∷ ps) files n h =
    needs_first m ts first (query_known ts ks q ∷ ks) ps files n
    (reach_left m (needs ts first (query_known ts ks q ∷ ks) ps files n)
    (items_need ts ks (look_window (growing q.items) q.kind) (content_back q ts (needs ts first (query_known ts ks q ∷ ks) ps files q.name)) first n q.items) h)

-- COUNTS

one_more : (b c : Bool) (k m n : ℕ) → (b ≡ true → c ≡ true) → m ≤ n → cond b (k) 0 ≤ cond c k 0
one_more true true k m n h g = omega arith
one_more true false k m n h g = cc (h refl)
one_more false c k m n h g = omega arith

count_more : (r : Timed) (P Q : ℤ → Bool) → ((u : ℤ) → Q u ≡ true → P u ≡ true) → (ts : List ℤ) → length (flat_map r (filter Q ts)) ≤ length (flat_map r (filter P ts))
count_more r P Q h [] = omega arith
count_more r P Q h (t ∷ ts) = go (Q t) refl (P t) refl (count_more r P Q h ts) where
  go : (b : Bool) → Q t ≡ b → (c : Bool) → P t ≡ c → length (flat_map r (filter Q ts)) ≤ length (flat_map r (filter P ts))
      → length (flat_map r (cond b (t ∷ filter Q ts) (filter Q ts))) ≤ length (flat_map r (cond c (t ∷ filter P ts) (filter P ts)))
  go true e true f m =
      let x = length-append (r t) (flat_map r (filter Q ts)) in
      let y = length-append (r t) (flat_map r (filter P ts)) in
      omega (arith, m, x, y)
  go true e false f m = cc (h t e, f)
  go false e true f m = let y = length-append (r t) (flat_map r (filter P ts)) in omega (arith, m, y)
  go false e false f m = m

between_in : (m z y t u : ℤ) → int_lt m z ≡ true → int_le y t ≡ true → (int_le z u && int_le u y) ≡ true → (int_lt m u && int_le u t) ≡ true
between_in m z y t u h g k =
    let w = and_parts (int_le z u) (int_le u y) k in
    and_from (int_lt m u) (int_le u t) (left w.0) (right w.1) where
      left : int_le z u ≡ true → int_lt m u ≡ true
      left a = grind (arith, h, a)

      right : int_le u y ≡ true → int_le u t ≡ true
      right a = grind (arith, g, a)

beyond_end : (z y first u : ℤ) → int_le y first ≡ true → int_lt first u ≡ true → (int_le z u && int_le u y) ≡ false
beyond_end z y first u h g = no (int_le z u) (int_le u y) out where
  out : int_le u y ≡ false
  out = grind (arith, h, g)

  no : (a b : Bool) → b ≡ false → (a && b) ≡ false
  no true b e = e
  no false b e = refl

not_few : (k n : ℕ) → n ≤ k → nat_lt k n ≡ true → ⊥
not_few k n h g = grind (arith, h, g)

le_by : (n k : ℕ) → nat_le n k ≡ true → n ≤ k
le_by n k h = grind (arith, h)

fold_below : (m y : ℤ) (us : List ℤ) → int_lt m y ≡ true → AllByRecursion (λ u. int_lt u y ≡ true) us → int_lt (fold later m us) y ≡ true
fold_below m y [] h g = h
fold_below m y (u ∷ us) h g = fold_below (later m u) y us (lt_later m u y h g.0) g.1

not_lt_le : (t y : ℤ) → int_lt t y ≡ false → int_le y t ≡ true
not_lt_le t y h = grind (arith, h)

-- WINDOWS

range_below : (m y : ℤ) (n : ℕ) → int_lt m (y -ℤ pos n) ≡ true → int_lt (m +ℤ pos n) y ≡ true
range_below m y n h = grind (arith, h)

latest_below : (n : ℕ) (m z y first : ℤ) (ps qs ws : List ℤ) (s r : Timed) → SameRows ps qs (Some m) s r → AllAbove first ws → int_le y first ≡ true
    → int_lt m z ≡ true → int_le z y ≡ true → n ≤ length (rows_between (qs ++ ws) r z y) → int_lt (filled n ps s m) y ≡ true
latest_below n m z y first ps qs ws s r g end h mz zy k = fold_below m y (filter F ps) (below mz zy) (each ps) where
  F : ℤ → Bool
  F t = nat_lt (length (rows_since ps s m t)) n

  Q : ℤ → Bool
  Q u = int_le z u && int_le u y

  below : int_lt m z ≡ true → int_le z y ≡ true → int_lt m y ≡ true
  below a b = grind (arith, a, b)

  all : rows_between (qs ++ ws) r z y ≡ flat_map r (filter Q qs)
  all = ap (flat_map r) (filter-append Q qs ws
      ∙ ap (λ l. filter Q qs ++ l) (filter-none Q ws (each-map (λ u. int_lt first u ≡ true) (λ u. Q u ≡ false) (λ u e. beyond_end z y first u h e) ws end))
      ∙ append-nil (filter Q qs))

  enough : (t : ℤ) → int_le y t ≡ true → n ≤ length (rows_since ps s m t)
  enough t e =
      let P = λ (u : ℤ). int_lt m u && int_le u t in
      let same : flat_map s (filter P ps) ≡ flat_map r (filter P qs) = g P (λ u w. (and_parts (int_lt m u) (int_le u t) w).0) in
      let more = count_more r P Q (λ u w. between_in m z y t u mz e w) qs in
      let a = ap length same in
      let b = ap length all in
      omega (arith, k, more, a, b)

  one : (t : ℤ) → F t ≡ true → int_lt t y ≡ true
  one t f = go (int_lt t y) refl where
    go : (b : Bool) → int_lt t y ≡ b → b ≡ true
    go true e = refl
    go false e = absurd (not_few (length (rows_since ps s m t)) n (enough t (not_lt_le t y e)) f)

  each : (us : List ℤ) → AllByRecursion (λ u. int_lt u y ≡ true) (filter F us)
  each us = each-map (λ u. F u ≡ true) (λ u. int_lt u y ≡ true) (λ u f. one u f) (filter F us) (filter_passing F us)

window_reaches : (w : Window) (m : Option ℤ) (y first : ℤ) (ps qs ws : List ℤ) (s r : Timed) → SameRows ps qs m s r → AllAbove first ws → int_le y first ≡ true
    → Reaches m (window_back w (qs ++ ws) r y) → Reaches (window_settles w ps s m) (Some y)
window_reaches w None y first ps qs ws s r g end h k = tt
window_reaches Now (Some m) y first ps qs ws s r g end h k = k
window_reaches (Range n unit) (Some m) y first ps qs ws s r g end h k = range_below m y n k
window_reaches Unbounded (Some m) y first ps qs ws s r g end h k = absurd k
window_reaches (Latest n) (Some m) y first ps qs ws s r g end h k = go (rows_back n (qs ++ ws) r y) refl k where
  T : ℤ → Bool
  T z = int_le z y && nat_le n (length (rows_between (qs ++ ws) r z y))

  go : (o : Option ℤ) → rows_back n (qs ++ ws) r y ≡ o → Reaches (Some m) o → int_lt (filled n ps s m) y ≡ true
  go None e c = absurd c
  go (Some z) e c =
      let w = of_filter T (qs ++ ws) z (last_in (filter T (qs ++ ws)) z e) in
      let p = and_parts (int_le z y) (nat_le n (length (rows_between (qs ++ ws) r z y))) w.1 in
      latest_below n m z y first ps qs ws s r g end h c p.0 (le_by n (length (rows_between (qs ++ ws) r z y)) p.1)

-- STREAMERS

next_le : (m c : ℤ) (ps : List ℤ) → Ascends ps → Contains ps c → int_lt m c ≡ true → int_le (next_after m ps) c ≡ true
next_le m c [] a h g = none_there c h
next_le m c (v ∷ ps) a h g = go (int_lt m v) refl (λ k. next_le m c ps a.1 k g) where
  up : (ys : List ℤ) → AllAbove v ys → Contains ys c → int_le v c ≡ true
  up [] b k = none_there c k
  up (y ∷ ys) b k = first_or_more y ys c (λ e. (let l = subst (λ (z : ℤ). int_lt v z ≡ true) e b.0 in less l)) (λ j. up ys b.1 j) k where
    less : int_lt v c ≡ true → int_le v c ≡ true
    less l = grind (arith, l)

  same : v ≡ c → int_le v c ≡ true
  same e = subst (λ (z : ℤ). int_le v z ≡ true) e (le_self v)

  go : (b : Bool) → int_lt m v ≡ b → (Contains ps c → int_le (next_after m ps) c ≡ true) → int_le (cond b v (next_after m ps)) c ≡ true
  go true e more = first_or_more v ps c same (λ k. up ps a.0 k) h
  go false e more = first_or_more v ps c (λ s. (let l = subst (λ (z : ℤ). int_lt m z ≡ false) s e in cc (g, l))) more h

-- the instants of the piece have those of the whole that are not after the span's beginning, above what is missing
abbrev pub Inside : List ℤ → List ℤ → ℤ → Option ℤ → Type 0
Inside ps ts first start = (c : ℤ) → Contains ts c → int_le c first ≡ true → settled start c ≡ true → Contains ps c

back_reaches : (m start : Option ℤ) (x first : ℤ) (ps ts : List ℤ) → Ascends ps → Inside ps ts first start → int_le x first ≡ true
    → Reaches m (last_instant (filter (λ u. int_lt u x) ts)) → Reaches start (last_instant (filter (λ u. int_lt u x) ts))
    → Reaches (moved (λ k. next_after k ps) m) (Some x)
back_reaches None start x first ps ts a i h r s = tt
back_reaches (Some m) start x first ps ts a i h r s = go (last_instant (filter (λ u. int_lt u x) ts)) refl r s where
  go : (o : Option ℤ) → last_instant (filter (λ u. int_lt u x) ts) ≡ o → Reaches (Some m) o → Reaches start o → int_lt (next_after m ps) x ≡ true
  go None e c d = absurd c
  go (Some z) e c d =
      let w = of_filter (λ u. int_lt u x) ts z (last_in (filter (λ u. int_lt u x) ts) z e) in
      lt_le_lt (next_after m ps) z x (next_le m z ps a (i z w.0 (lt_le z x first w.1 h) (reach_settled start z d)) c) w.1

kind_reaches : (k : Kind) (m start : Option ℤ) (x first : ℤ) (ps ts : List ℤ) → Ascends ps → Inside ps ts first start → int_le x first ≡ true
    → Reaches m (kind_back k ts x) → Reaches start (kind_back k ts x) → Reaches (kind_settles k ps m) (Some x)
kind_reaches Istream m start x first ps ts a i h r s = like (back_reaches m start x first ps ts a i h r s) where
  like : Reaches (moved (λ k. next_after k ps) m) (Some x) → Reaches (kind_settles Istream ps m) (Some x)
  like k = k
kind_reaches Dstream m start x first ps ts a i h r s = back_reaches m start x first ps ts a i h r s
kind_reaches Rstream None start x first ps ts a i h r s = tt
kind_reaches Rstream (Some m) start x first ps ts a i h r s = r

-- the files begin early enough for what is needed of their streams
abbrev pub FilesReach : List ℤ → ℤ → List KnownStream → Program → List File → List (Option ℤ) → Type 0
FilesReach ts first js [] files os = Unit {0}
FilesReach ts first js (Register name fields ∷ p) files [] = Unit {0}
FilesReach ts first js (Register name fields ∷ p) files (o ∷ os) =
    Reaches o (needs ts first (stream_known name fields files ∷ js) p (other_files files) name)
    × FilesReach ts first (stream_known name fields files ∷ js) p (other_files files) os
FilesReach ts first js (AQuery q ∷ p) files os = FilesReach ts first (query_known ts js q ∷ js) p files os

-- QUERIES

module _ (xs us vs ws : List ℤ) (start : Option ℤ) (piece : Ascends (xs ++ vs)) (all : Ascends (us ++ (vs ++ ws))) (begins : Beyond start xs) (before : Beyond start us)
    (first : ℤ) (end : AllAbove first ws) (inside : Inside (xs ++ vs) (us ++ (vs ++ ws)) first start) where
  abbrev ps : List ℤ
  ps = xs ++ vs

  abbrev qs : List ℤ
  qs = us ++ vs

  abbrev ts : List ℤ
  ts = us ++ (vs ++ ws)

  -- an item whose stream reaches what the items need
  item_reaches : (ks : List PieceStream) (js : List KnownStream) → SameStreams ps qs ks js → (w : Window) (n : Name) (y : Option ℤ) → AtMost first y
      → Reaches (bound_named ks n) (through (window_back w ts (rows_named js n)) y)
      → Reaches (window_settles w ps (rows_named (streams_in ks) n) (bound_named ks n)) y
  item_reaches ks js h w n None a r = none (bound_named ks n) r where
    none : (m : Option ℤ) → Reaches m None → Reaches (window_settles w ps (rows_named (streams_in ks) n) m) None
    none None k = tt
    none (Some m) k = absurd k
  item_reaches ks js h w n (Some y) a r =
      window_reaches w (bound_named ks n) y first ps qs ws (rows_named (streams_in ks) n) (rows_named js n) (named_same ps qs ks js n h) end a
      (subst (λ (l : List ℤ). Reaches (bound_named ks n) (window_back w l (rows_named js n) y)) (sym (append_assoc us vs ws)) r)

  -- each stream reaches what these items need of it
  abbrev Serves : List PieceStream → (Name → Option ℤ) → Type 0
  Serves ks need = (n : Name) → Reaches (bound_named ks n) (need n)

  first_need : (m : Option ℤ) (n : Name) (o : Option ℤ) → Reaches m (cond (name_eq n n) o (Some first)) → Reaches m o
  first_need m n o h = subst (λ (b : Bool). Reaches m (cond b o (Some first))) (name_same n) h

  items_reach : (ks : List PieceStream) (js : List KnownStream) → SameStreams ps qs ks js → (y : Option ℤ) → AtMost first y → Reaches start y → (items : List Source)
      → ((n : Name) → Reaches (bound_named ks n) (items_need ts js (λ w. w) y first n items)) → Reaches (items_settle ps start ks items) y
  items_reach ks js h y a s [] g = s
  items_reach ks js h y a s (i ∷ is) g =
      let rows = rows_named (streams_in ks) i.stream in
      let one = λ (n : Name). cond (name_eq i.stream n) (through (window_back i.window ts (rows_named js i.stream)) y) (Some first) in
      reach_both (window_settles i.window ps rows (bound_named ks i.stream)) (items_settle ps start ks is) y
      (item_reaches ks js h i.window i.stream y a
      (first_need (bound_named ks i.stream) i.stream (through (window_back i.window ts (rows_named js i.stream)) y)
      (reach_left (bound_named ks i.stream) (one i.stream) (items_need ts js (λ w. w) y first i.stream is) (g i.stream))))
      (items_reach ks js h y a s is (λ n. reach_right (bound_named ks n) (one n) (items_need ts js (λ w. w) y first n is) (g n)))

  -- through the streamer
  usual_reaches : (ks : List PieceStream) (js : List KnownStream) → SameStreams ps qs ks js → (q : Query) (k : Kind) (x : Option ℤ) → AtMost first x
      → Reaches start (through (kind_back k ts) x)
      → ((n : Name) → Reaches (bound_named ks n) (items_need ts js (λ w. w) (through (kind_back k ts) x) first n q.items))
      → Reaches (kind_settles k ps (items_settle ps start ks q.items)) x
  usual_reaches ks js h q k None a s g = none (items_settle ps start ks q.items) (items_reach ks js h None tt s q.items g) where
    none : (m : Option ℤ) → Reaches m None → Reaches (kind_settles k ps m) None
    none None r = tt
    none (Some m) r = absurd r
  usual_reaches ks js h q k (Some x) a s g =
      kind_reaches k (items_settle ps start ks q.items) start x first ps ts piece inside a
      (items_reach ks js h (kind_back k ts x) (kind_at_most k ts first x a) s q.items g) s

  -- a query of one item, all of whose rows stay
  now_need : (ks : List PieceStream) (js : List KnownStream) (i : Source) (n : Name) (y : Option ℤ) → i.stream ≡ n
      → ((m : Name) → Reaches (bound_named ks m) (items_need ts js (λ w. Now) y first m (i ∷ []))) → Reaches (bound_named ks n) y
  now_need ks js i n y e g =
      let one = λ (m : Name). cond (name_eq i.stream m) (through (window_back Now ts (rows_named js i.stream)) y) (Some first) in
      subst (λ (m : Name). Reaches (bound_named ks m) y) e
      (plain y (bound_named ks i.stream) (first_need (bound_named ks i.stream) i.stream (through (window_back Now ts (rows_named js i.stream)) y)
      (reach_left (bound_named ks i.stream) (one i.stream) (Some first) (g i.stream)))) where
        plain : (o m : Option ℤ) → Reaches m (through (window_back Now ts (rows_named js i.stream)) o) → Reaches m o
        plain None m k = k
        plain (Some x) m k = k

  through_same : (x : Option ℤ) → through (kind_back Rstream ts) x ≡ x
  through_same None = refl
  through_same (Some x) = refl

  -- what a query needs of its items, by its growth and kind
  Asked : List PieceStream → List KnownStream → Query → Option Name → Kind → Option ℤ → Type 0
  Asked ks js q o k x =
      (n : Name) → Reaches (bound_named ks n) (items_need ts js (look_window o k) (through (kind_back (look_kind o k) ts) x) first n q.items)

  growth_reaches : (ks : List PieceStream) (js : List KnownStream) → SameStreams ps qs ks js → (q : Query) (n : Name) → Grows q.items n → (k : Kind) (x : Option ℤ) → AtMost first x
      → Reaches start (through (kind_back Rstream ts) x) → Asked ks js q (Some n) k x
      → Reaches (growth_settles k start (bound_named ks n) (kind_settles k ps (items_settle ps start ks q.items))) x
  unfolding Asked
  growth_reaches ks js h q n g Istream x a s f =
      let y = through (kind_back Rstream ts) x in
      let need : (m : Name) → Reaches (bound_named ks m) (items_need ts js (λ w. Now) y first m (g.item ∷ [])) =
      λ m. subst (λ (l : List Source). Reaches (bound_named ks m) (items_need ts js (λ w. Now) y first m l)) g.alone (f m) in
      reach_both (bound_named ks n) start x
      (subst (Reaches (bound_named ks n)) (through_same x) (now_need ks js g.item n y g.stream need)) (subst (Reaches start) (through_same x) s)
  growth_reaches ks js h q n g Dstream x a s f = subst (Reaches start) (through_same x) s
  growth_reaches ks js h q n g Rstream x a s f = usual_reaches ks js h q Rstream x a s f

  query_reaches : (ks : List PieceStream) (js : List KnownStream) → SameStreams ps qs ks js → (q : Query) (x : Option ℤ) → AtMost first x
      → Reaches start (content_back q ts x) → Asked ks js q (growing q.items) q.kind x → Reaches (query_settles ps start ks q) x
  unfolding Asked
  query_reaches ks js h q x a s f = go (growing q.items) refl s f where
    go : (o : Option Name) → growing q.items ≡ o → Reaches start (through (kind_back (look_kind o q.kind) ts) x) → Asked ks js q o q.kind x
        → Reaches (stream_settles o q.kind start ks (kind_settles q.kind ps (items_settle ps start ks q.items))) x
    go None e c d = usual_reaches ks js h q q.kind x a c d
    go (Some n) e c d = growth_reaches ks js h q n (grows q.items n e) q.kind x a c d

  -- PROGRAMS

  -- a stream that is added serves where it reaches the need of its name
  more_serves : (k : PieceStream) (ks : List PieceStream) (need : Name → Option ℤ) → Reaches k.bound (need k.stream.named.name) → Serves ks need → Serves (k ∷ ks) need
  more_serves k ks need r s n = go (name_eq k.stream.named.name n) refl where
    go : (b : Bool) → name_eq k.stream.named.name n ≡ b → Reaches (cond b k.bound (bound_named ks n)) (need n)
    go true e = subst (λ (m : Name). Reaches k.bound (need m)) (name_is k.stream.named.name n e) r
    go false e = s n

  pub all_reach : (cut : Cut → File) (bound : Cut → Option ℤ) (ks : List PieceStream) (js : List KnownStream) → SameStreams ps qs ks js → (p : Program) (cuts : List Cut)
      → AllByRecursion (λ c. SameRows ps qs (bound c) (at_instant (cut c)) (at_instant c.file)) cuts
      → Serves ks (needs ts first js p (whole_files cuts)) → Reaches start (floor ts first js p (whole_files cuts)) → FilesReach ts first js p (whole_files cuts) (map bound cuts)
      → AllByRecursion (λ m. Reaches m (Some first)) (bounds ps start ks p (map bound cuts) (map cut cuts))
  unfolding Asked
  all_reach cut bound ks js h [] cuts f s l r = tt
  all_reach cut bound ks js h (Register name fields ∷ p) [] f s l r =
      let k = file_piece None name fields [] in
      all_reach cut bound (k ∷ ks) (stream_known name fields [] ∷ js) ((refl, nothing_same ps qs None), h) p [] tt
      (more_serves k ks (needs ts first (stream_known name fields [] ∷ js) p []) tt s) l (no_files (stream_known name fields [] ∷ js) p) where
        no_files : (known : List KnownStream) (rest : Program) → FilesReach ts first known rest [] []
        no_files known [] = tt
        no_files known (Register m fs ∷ rest) = tt
        no_files known (AQuery q ∷ rest) = no_files (query_known ts known q ∷ known) rest
  all_reach cut bound ks js h (Register name fields ∷ p) (c ∷ cuts) f s l r =
      let k = file_piece (bound c) name fields (map cut (c ∷ cuts)) in
      all_reach cut bound (k ∷ ks) (stream_known name fields (whole_files (c ∷ cuts)) ∷ js) ((refl, f.0), h) p cuts f.1
      (more_serves k ks (needs ts first (stream_known name fields (whole_files (c ∷ cuts)) ∷ js) p (whole_files cuts)) r.0 s) l r.1
  all_reach cut bound ks js h (AQuery q ∷ p) cuts f s l r =
      let js2 = query_known ts js q ∷ js in
      let need = needs ts first js2 p (whole_files cuts) in
      let y = content_back q ts (need q.name) in
      let asked = λ (n : Name). items_need ts js (look_window (growing q.items) q.kind) y first n q.items in
      let at_most = needs_at_most ts first js2 p (whole_files cuts) q.name in
      let b : Reaches (query_settles ps start ks q) (need q.name) =
      query_reaches ks js h q (need q.name) at_most (reach_left start y (floor ts first js2 p (whole_files cuts)) l)
      (λ n. reach_right (bound_named ks n) (need n) (asked n) (s n)) in (
        needs_first (query_settles ps start ks q) ts first js2 p (whole_files cuts) q.name b,
        all_reach cut bound (query_piece ps start ks q ∷ ks) js2 (query_same xs us vs ws start piece all begins before ks js h q, h) p cuts f
            (more_serves (query_piece ps start ks q) ks need b (λ n. reach_left (bound_named ks n) (need n) (asked n) (s n)))
            (reach_right start y (floor ts first js2 p (whole_files cuts)) l) r,
      )
