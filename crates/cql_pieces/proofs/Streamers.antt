-- The stream of a relation on a piece is that on the whole, above its bound.
use Rattle.std.proofs.Common.{◌≡◌, ℤ, Bool, true, false, List, [], ◌∷◌, ◌++◌, refl, sym, ap, ◌∙◌, arith, cond, subst, append_assoc}
use Rattle.std.specs.Prelude.{int_lt, int_le, filter, Option, Some, None}
use Rattle.std.specs.List.{AllByRecursion}
use Rattle.river_base.specs.Instants.{Timed}
use Rattle.river_base.specs.Row.{in_order}
use Rattle.cql_text.specs.declared.tree.Kind.{Kind}
use Rattle.cql_text.specs.declared.tree.Kind.TheVariants.{Istream, Dstream, Rstream}
use Rattle.cql_model.specs.Streams.{last_instant, at_last, content_before, changed, as_stream}
use Rattle.cql_model.proofs.Instants.{AllAbove, Ascends, below_front, each-map, ascends_back}
use Rattle.cql_pieces.specs.Piece.{settled, next_after, kind_moves, kind_settles}
use Rattle.cql_pieces.specs.Whole.{Agree}
use Rattle.cql_pieces.proofs.Lists.{at_place, three_parts, Beyond, none_before, moved_settled}

-- A BOUND DOES NOT GO BACK

le_self : (m : ℤ) → int_le m m ≡ true
le_self m = grind arith

lt_le : (m u : ℤ) → int_lt m u ≡ true → int_le m u ≡ true
lt_le m u h = grind (arith, h)

next_up : (m : ℤ) (vs : List ℤ) → int_le m (next_after m vs) ≡ true
next_up m [] = le_self m
next_up m (v ∷ vs) = go (int_lt m v) refl (next_up m vs) where
  go : (b : Bool) → int_lt m v ≡ b → int_le m (next_after m vs) ≡ true → int_le m (cond b v (next_after m vs)) ≡ true
  go true e k = lt_le m v e
  go false e k = k

-- a kind moves a bound on, and never back
pub kind_up : (k : Kind) (vs : List ℤ) (m : ℤ) → int_le m (kind_moves k vs m) ≡ true
kind_up Istream vs m = next_up m vs
kind_up Dstream vs m = next_up m vs
kind_up Rstream vs m = le_self m

-- THE INSTANT BEFORE

last-append : (us : List ℤ) (v : ℤ) (vs : List ℤ) → last_instant (us ++ (v ∷ vs)) ≡ last_instant (v ∷ vs)
last-append [] v vs = refl
last-append (u ∷ []) v vs = refl
last-append (u ∷ x ∷ us) v vs = last-append (x ∷ us) v vs

-- the last of instants of which this holds
abbrev Ends : (ℤ → Type 0) → List ℤ → Type 0
Ends P vs = (p : ℤ) × (last_instant vs ≡ Some p) × P p

last_there : (P : ℤ → Type 0) (v : ℤ) (vs : List ℤ) → AllByRecursion P (v ∷ vs) → Ends P (v ∷ vs)
last_there P v [] h = (v, refl, h.0)
last_there P v (x ∷ vs) h = last_there P x vs h.1

last_more : (v : ℤ) (vs : List ℤ) (p : ℤ) → last_instant vs ≡ Some p → last_instant (v ∷ vs) ≡ Some p
last_more v [] p h = cc h
last_more v (x ∷ vs) p h = h

lt_back : (t v : ℤ) → int_lt t v ≡ true → int_lt v t ≡ false
lt_back t v h = grind (arith, h)

lt_over : (m v u : ℤ) → int_lt m v ≡ true → int_lt v u ≡ true → int_lt m u ≡ true
lt_over m v u h g = grind (arith, h, g)

lt_self : (t : ℤ) → int_lt t t ≡ false
lt_self t = grind arith

next_from : (m t : ℤ) (vs : List ℤ) → int_lt m t ≡ false → AllAbove t vs → int_lt (next_after m vs) t ≡ false
next_from m t [] h a = h
next_from m t (v ∷ vs) h a = go (int_lt m v) (next_from m t vs h a.1) where
  go : (b : Bool) → int_lt (next_after m vs) t ≡ false → int_lt (cond b v (next_after m vs)) t ≡ false
  go true k = lt_back t v a.0
  go false k = k

all_past : (m v : ℤ) (P : ℤ → Type 0) (v1 rest : List ℤ) → int_lt m v ≡ true → AllAbove v (v1 ++ rest)
    → AllByRecursion (λ u. int_lt m u ≡ true → P u) v1 → AllByRecursion P v1
all_past m v P [] rest h a g = tt
all_past m v P (x ∷ v1) rest h a g = (g.0 (lt_over m v x h a.0), all_past m v P v1 rest h a.1 g.1)

-- where t is above the first instant behind m, the instant before t is behind m
last_after : (m t : ℤ) (v1 v2 : List ℤ) (P : ℤ → Type 0) → Ascends (v1 ++ (t ∷ v2)) → int_lt (next_after m (v1 ++ (t ∷ v2))) t ≡ true
    → AllByRecursion (λ u. int_lt m u ≡ true → P u) v1 → Ends P v1
last_after m t [] v2 P r h g = go (int_lt m t) refl h where
  go : (b : Bool) → int_lt m t ≡ b → int_lt (cond b t (next_after m v2)) t ≡ true → Ends P []
  go true e k = cc (k, lt_self t)
  go false e k = cc (k, next_from m t v2 e r.0)
last_after m t (v ∷ v1) v2 P r h g = go (int_lt m v) refl (λ k. last_after m t v1 v2 P r.1 k g.1) h where
  go : (b : Bool) → int_lt m v ≡ b → (int_lt (next_after m (v1 ++ (t ∷ v2))) t ≡ true → Ends P v1) → int_lt (cond b v (next_after m (v1 ++ (t ∷ v2)))) t ≡ true → Ends P (v ∷ v1)
  go true e more k = last_there P v v1 (g.0 e, all_past m v P v1 (t ∷ v2) e r.0 g.1)
  go false e more k = let rest = more k in (rest.0, last_more v v1 rest.0 rest.1, rest.2)

-- so two relations that are the same there have one content before
from_end : (xs us v1 : List ℤ) (s r : Timed) → Ends (λ u. s u ≡ r u) v1 → at_last s (last_instant (xs ++ v1)) ≡ at_last r (last_instant (us ++ v1))
from_end xs us [] s r h = cc h.1
from_end xs us (v ∷ v1) s r h = ap (at_last s) (last-append xs v v1 ∙ h.1) ∙ h.2 ∙ sym (ap (at_last r) (last-append us v v1 ∙ h.1))

all_front : (P : ℤ → Type 0) (xs ys : List ℤ) → AllByRecursion P (xs ++ ys) → AllByRecursion P xs
all_front P [] ys h = tt
all_front P (x ∷ xs) ys h = (h.0, all_front P xs ys h.1)

before_all : (v1 : List ℤ) (s r : Timed) → AllByRecursion (λ u. settled None u ≡ true → s u ≡ r u) v1
    → at_last s (last_instant v1) ≡ at_last r (last_instant v1)
before_all [] s r g = refl
before_all (v ∷ v1) s r g =
    from_end [] [] (v ∷ v1) s r (last_there (λ u. s u ≡ r u) v v1 (each-map (λ u. settled None u ≡ true → s u ≡ r u) (λ u. s u ≡ r u) (λ u f. f refl) (v ∷ v1) g))

-- instants that are not above m do not count
next_behind : (m : ℤ) (xs vs : List ℤ) → Beyond (Some m) xs → next_after m (xs ++ vs) ≡ next_after m vs
next_behind m [] vs b = refl
next_behind m (x ∷ xs) vs b = ap (λ c. cond c x (next_after m (xs ++ vs))) b.0 ∙ next_behind m xs vs b.1

-- the content before t, of a streamer that looks at it
before_same : (m : Option ℤ) (xs us v1 v2 : List ℤ) (t : ℤ) (s r : Timed) → Ascends (v1 ++ (t ∷ v2)) → Beyond m xs → Beyond m us → Agree m s r (v1 ++ (t ∷ v2))
    → settled (kind_settles Istream (xs ++ (v1 ++ (t ∷ v2))) m) t ≡ true → at_last s (last_instant (xs ++ v1)) ≡ at_last r (last_instant (us ++ v1))
before_same None xs us v1 v2 t s r asc bx bu g h =
    ap (λ l. at_last s (last_instant (l ++ v1))) (none_before xs bx)
    ∙ before_all v1 s r (all_front (λ u. settled None u ≡ true → s u ≡ r u) v1 (t ∷ v2) g)
    ∙ ap (λ l. at_last r (last_instant (l ++ v1))) (sym (none_before us bu))
before_same (Some m) xs us v1 v2 t s r asc bx bu g h =
    from_end xs us v1 s r (last_after m t v1 v2 (λ u. s u ≡ r u) asc
    (subst (λ (x : ℤ). int_lt x t ≡ true) (next_behind m xs (v1 ++ (t ∷ v2)) bx) h)
    (all_front (λ u. int_lt m u ≡ true → s u ≡ r u) v1 (t ∷ v2) g))

-- THE STREAM

content_piece : (v1 v2 : List ℤ) (t : ℤ) (s : Timed) → Ascends (v1 ++ (t ∷ v2)) → content_before (v1 ++ (t ∷ v2)) s t ≡ at_last s (last_instant v1)
content_piece v1 v2 t s a = ap (λ l. at_last s (last_instant l)) (below_front v1 v2 t a)

-- behind others, and before others
content_within : (us v1 v2 ws : List ℤ) (t : ℤ) (r : Timed) → Ascends (us ++ ((v1 ++ (t ∷ v2)) ++ ws))
    → content_before (us ++ ((v1 ++ (t ∷ v2)) ++ ws)) r t ≡ at_last r (last_instant (us ++ v1))
content_within us v1 v2 ws t r a =
    let e = three_parts us v1 v2 ws t in
    ap (λ l. at_last r (last_instant (filter (λ u. int_lt u t) l))) e ∙ content_piece (us ++ v1) (v2 ++ ws) t r (subst Ascends e a)

content_behind : (xs v1 v2 : List ℤ) (t : ℤ) (s : Timed) → Ascends (xs ++ (v1 ++ (t ∷ v2)))
    → content_before (xs ++ (v1 ++ (t ∷ v2))) s t ≡ at_last s (last_instant (xs ++ v1))
content_behind xs v1 v2 t s a =
    let e = sym (append_assoc xs v1 (t ∷ v2)) in
    ap (λ l. at_last s (last_instant (filter (λ u. int_lt u t) l))) e ∙ content_piece (xs ++ v1) v2 t s (subst Ascends e a)

here_same : (k : Kind) (m : Option ℤ) (ps v1 v2 : List ℤ) (t : ℤ) (s r : Timed) → Agree m s r (v1 ++ (t ∷ v2)) → settled (kind_settles k ps m) t ≡ true → s t ≡ r t
here_same k m ps v1 v2 t s r g h =
    at_place (λ u. settled m u ≡ true → s u ≡ r u) v1 t v2 g (moved_settled (kind_moves k ps) (kind_up k ps) m t h)

-- the rows of a streamer that looks back
changes_same : (k : Kind) (m : Option ℤ) (xs us v1 v2 ws : List ℤ) (t : ℤ) (s r : Timed) → Ascends (xs ++ (v1 ++ (t ∷ v2))) → Ascends (us ++ ((v1 ++ (t ∷ v2)) ++ ws))
    → Beyond m xs → Beyond m us → Agree m s r (v1 ++ (t ∷ v2)) → settled (kind_settles Istream (xs ++ (v1 ++ (t ∷ v2))) m) t ≡ true
    → as_stream k (xs ++ (v1 ++ (t ∷ v2))) s t ≡ as_stream k (us ++ ((v1 ++ (t ∷ v2)) ++ ws)) r t
changes_same k m xs us v1 v2 ws t s r pa all bx bu g h =
    let before : content_before (xs ++ (v1 ++ (t ∷ v2))) s t ≡ content_before (us ++ ((v1 ++ (t ∷ v2)) ++ ws)) r t =
    content_behind xs v1 v2 t s pa ∙ before_same m xs us v1 v2 t s r (ascends_back xs (v1 ++ (t ∷ v2)) pa) bx bu g h ∙ sym (content_within us v1 v2 ws t r all) in
    ap (λ c. in_order (changed k c (s t))) before
    ∙ ap (λ c. in_order (changed k (content_before (us ++ ((v1 ++ (t ∷ v2)) ++ ws)) r t) c)) (here_same Istream m (xs ++ (v1 ++ (t ∷ v2))) v1 v2 t s r g h)

stream_at : (k : Kind) (m : Option ℤ) (xs us v1 v2 ws : List ℤ) (t : ℤ) (s r : Timed) → Ascends (xs ++ (v1 ++ (t ∷ v2))) → Ascends (us ++ ((v1 ++ (t ∷ v2)) ++ ws))
    → Beyond m xs → Beyond m us → Agree m s r (v1 ++ (t ∷ v2)) → settled (kind_settles k (xs ++ (v1 ++ (t ∷ v2))) m) t ≡ true
    → as_stream k (xs ++ (v1 ++ (t ∷ v2))) s t ≡ as_stream k (us ++ ((v1 ++ (t ∷ v2)) ++ ws)) r t
stream_at Istream m xs us v1 v2 ws t s r pa all bx bu g h = changes_same Istream m xs us v1 v2 ws t s r pa all bx bu g h
stream_at Dstream m xs us v1 v2 ws t s r pa all bx bu g h = changes_same Dstream m xs us v1 v2 ws t s r pa all bx bu g (like_istream m h) where
  like_istream : (o : Option ℤ) → settled (kind_settles Dstream (xs ++ (v1 ++ (t ∷ v2))) o) t ≡ true → settled (kind_settles Istream (xs ++ (v1 ++ (t ∷ v2))) o) t ≡ true
  like_istream None k = k
  like_istream (Some x) k = k
stream_at Rstream m xs us v1 v2 ws t s r pa all bx bu g h = ap in_order (here_same Rstream m (xs ++ (v1 ++ (t ∷ v2))) v1 v2 t s r g h)

-- The stream of a relation that is right above a bound, at an instant above the streamer's bound. The piece has the instants `vs` of the
-- whole behind others, which are not above the bound.
pub stream_same : (k : Kind) (m : Option ℤ) (xs us vs ws v1 v2 : List ℤ) (t : ℤ) (s r : Timed) → Ascends (xs ++ vs) → Ascends (us ++ (vs ++ ws)) → vs ≡ v1 ++ (t ∷ v2)
    → Beyond m xs → Beyond m us → Agree m s r vs → settled (kind_settles k (xs ++ vs) m) t ≡ true → as_stream k (xs ++ vs) s t ≡ as_stream k (us ++ (vs ++ ws)) r t
stream_same k m xs us vs ws v1 v2 t s r pa all e bx bu g h =
    let Claim = λ (l : List ℤ). as_stream k (xs ++ l) s t ≡ as_stream k (us ++ (l ++ ws)) r t in
    subst Claim (sym e)
    (stream_at k m xs us v1 v2 ws t s r (subst (λ (l : List ℤ). Ascends (xs ++ l)) e pa) (subst (λ (l : List ℤ). Ascends (us ++ (l ++ ws))) e all) bx bu
    (subst (Agree m s r) e g) (subst (λ (l : List ℤ). settled (kind_settles k (xs ++ l) m) t ≡ true) e h))
