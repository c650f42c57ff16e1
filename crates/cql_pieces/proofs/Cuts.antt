-- A piece has the instants of the whole where all files are there, and its files have the whole's rows from their own instants on.
use Rattle.std.proofs.Common.{◌≡◌, ℤ, Bool, true, false, List, [], ◌∷◌, ◌++◌, refl, sym, ap, ◌∙◌, arith, cond, subst, map, ⊎_elim}
use Rattle.std.specs.Prelude.{int_lt, int_le, filter, flat_map, ◌&&◌, Option, Some, None}
use Rattle.std.specs.List.{AllByRecursion, Contains}
use Rattle.std.specs.Ordering.{int_eq}
use Rattle.std.proofs.lemmas.Bool.{and_parts, and_from}
use Rattle.std.proofs.lemmas.List.Elements.{Contains-append_left, Contains-append_right, Contains-push, Contains-push_cases, Contains-append_cases}
use Rattle.river_base.specs.Instants.{Timed, at_instant, stamps, instants}
use Rattle.river_base.proofs.Instants.{once_has, has_once}
use Rattle.cql_model.specs.Streams.{last_instant}
use Rattle.cql_model.proofs.Instants.{AllAbove, Ascends, ascends}
use Rattle.cql_model.proofs.Stamps.{instants_are}
use Rattle.cql_pieces.specs.Piece.{File, Cut, within, cut_file, cut_files, whole_files, is_full, last_before, settled}
use Rattle.cql_pieces.specs.Whole.{PiecesAreCut}
use Rattle.cql_pieces.proofs.Lists.{filter_ascends, Beyond, SameRows}

-- ROWS AT AN INSTANT

same_time : (lo hi t u : ℤ) → (int_le lo t && int_le t hi) ≡ true → int_eq u t ≡ true → (int_le lo u && int_le u hi) ≡ true
same_time lo hi t u h e = let s : u ≡ t = grind (arith, e) in subst (λ (x : ℤ). (int_le lo x && int_le x hi) ≡ true) (sym s) h

filter_in : {X : Type 0} (p q : X → Bool) → ((x : X) → q x ≡ true → p x ≡ true) → (xs : List X) → filter q (filter p xs) ≡ filter q xs
filter_in p q h [] = refl
filter_in p q h (x ∷ xs) = go (p x) refl (filter_in p q h xs) where
  none : (b : Bool) → q x ≡ b → p x ≡ false → filter q xs ≡ cond b (x ∷ filter q xs) (filter q xs)
  none true e f = cc (h x e, f)
  none false e f = refl

  go : (b : Bool) → p x ≡ b → filter q (filter p xs) ≡ filter q xs → filter q (cond b (x ∷ filter p xs) (filter p xs)) ≡ cond (q x) (x ∷ filter q xs) (filter q xs)
  go true e m = ap (λ l. cond (q x) (x ∷ l) l) m
  go false e m = m ∙ none (q x) refl e

-- at an instant of the stretch, the piece of a file has the rows of the file
pub rows_cut : (lo hi : ℤ) (file : File) (t : ℤ) → within lo hi t ≡ true → at_instant (cut_file lo hi file) t ≡ at_instant file t
rows_cut lo hi file t h =
    ap (map (λ (e : ℤ × List ℤ). e.1)) (filter_in (λ (e : ℤ × List ℤ). within lo hi e.0) (λ (e : ℤ × List ℤ). int_eq e.0 t) (λ e k. same_time lo hi t e.0 h k) file)

-- LISTS THAT RISE WITH THE SAME ELEMENTS

-- nothing is among no instants
pub none_there : {P : Type 0} (x : ℤ) → Contains [] x → P
none_there x h = absurd (omega (arith, h.1))

-- the first of some instants is among them
pub there_first : (x : ℤ) (xs : List ℤ) → Contains (x ∷ xs) x
there_first x xs = Contains-append_left (x ∷ []) xs x (Contains-push [] x)

-- what is among some instants is among them and one more
pub there_more : (y : ℤ) (ys : List ℤ) (x : ℤ) → Contains ys x → Contains (y ∷ ys) x
there_more y ys x h = Contains-append_right (y ∷ []) ys x h

-- what is among some instants is the first of them or among the others
pub first_or_more : {P : Type 0} (y : ℤ) (ys : List ℤ) (x : ℤ) → (y ≡ x → P) → (Contains ys x → P) → Contains (y ∷ ys) x → P
first_or_more y ys x f g h = ⊎_elim (λ a. ⊎_elim (λ z. none_there x z) f (Contains-push_cases [] y x a)) g (Contains-append_cases (y ∷ []) ys x h)

above_has : (t : ℤ) (us : List ℤ) (x : ℤ) → AllAbove t us → Contains us x → int_lt t x ≡ true
above_has t [] x a h = none_there x h
above_has t (u ∷ us) x a h = first_or_more u us x (λ e. subst (λ (y : ℤ). int_lt t y ≡ true) e a.0) (λ m. above_has t us x a.1 m) h

apart : (x y : ℤ) → int_lt x y ≡ true → int_lt y x ≡ true → ⊥
apart x y h g = grind (arith, h, g)

not_self : (x : ℤ) → int_lt x x ≡ true → ⊥
not_self x h = grind (arith, h)

heads : (x y : ℤ) (xs ys : List ℤ) → AllAbove x xs → AllAbove y ys → Contains (y ∷ ys) x → Contains (x ∷ xs) y → x ≡ y
heads x y xs ys a b h g =
    first_or_more y ys x (λ e. sym e)
    (λ m. first_or_more x xs y (λ e. e) (λ k. absurd (apart x y (above_has x xs y a k) (above_has y ys x b m))) g) h

tails : (x y : ℤ) (xs ys : List ℤ) → AllAbove x xs → x ≡ y → ((t : ℤ) → Contains (x ∷ xs) t → Contains (y ∷ ys) t) → (t : ℤ) → Contains xs t → Contains ys t
tails x y xs ys a e h t k =
    first_or_more y ys t (λ s. absurd (not_self x (subst (λ (z : ℤ). int_lt x z ≡ true) (sym (e ∙ s)) (above_has x xs t a k)))) (λ m. m)
    (h t (there_more x xs t k))

-- two lists that rise and have the same elements are the same
pub same_rising : (xs ys : List ℤ) → Ascends xs → Ascends ys → ((t : ℤ) → Contains xs t → Contains ys t) → ((t : ℤ) → Contains ys t → Contains xs t) → xs ≡ ys
same_rising [] [] a b h g = refl
same_rising [] (y ∷ ys) a b h g = none_there y (g y (there_first y ys))
same_rising (x ∷ xs) [] a b h g = none_there x (h x (there_first x xs))
same_rising (x ∷ xs) (y ∷ ys) a b h g =
    let e : x ≡ y = heads x y xs ys a.0 b.0 (h x (there_first x xs)) (g y (there_first y ys)) in
    ap (λ z. z ∷ xs) e ∙ ap (λ l. y ∷ l)
    (same_rising xs ys a.1 b.1 (tails x y xs ys a.0 e h) (tails y x ys xs b.0 (sym e) g))

-- A FILTER'S ELEMENTS

-- an instant that passes a test is among those that pass
pub in_filter : (p : ℤ → Bool) (xs : List ℤ) (t : ℤ) → Contains xs t → p t ≡ true → Contains (filter p xs) t
in_filter p [] t h k = h
in_filter p (x ∷ xs) t h k = go (p x) refl (λ m. in_filter p xs t m k) where
  go : (b : Bool) → p x ≡ b → (Contains xs t → Contains (filter p xs) t) → Contains (cond b (x ∷ filter p xs) (filter p xs)) t
  go true e more = first_or_more x xs t (λ s. subst (λ (z : ℤ). Contains (x ∷ filter p xs) z) s (there_first x (filter p xs)))
      (λ m. there_more x (filter p xs) t (more m)) h
  go false e more = first_or_more x xs t (λ s. (let z = subst (λ (z : ℤ). p z ≡ true) (sym s) k in cc (e, z))) (λ m. more m) h

-- an instant among those that pass is among all, and passes
pub of_filter : (p : ℤ → Bool) (xs : List ℤ) (t : ℤ) → Contains (filter p xs) t → Contains xs t × (p t ≡ true)
of_filter p [] t h = none_there t h
of_filter p (x ∷ xs) t h = go (p x) refl (λ m. of_filter p xs t m) h where
  go : (b : Bool) → p x ≡ b → (Contains (filter p xs) t → Contains xs t × (p t ≡ true)) → Contains (cond b (x ∷ filter p xs) (filter p xs)) t → Contains (x ∷ xs) t × (p t ≡ true)
  go true e more k = first_or_more x (filter p xs) t
      (λ s. (subst (λ (z : ℤ). Contains (x ∷ xs) z) s (there_first x xs), subst (λ (z : ℤ). p z ≡ true) s e))
      (λ m. let r = more m in (there_more x xs t r.0, r.1)) k
  go false e more k = let r = more k in (there_more x xs t r.0, r.1)

-- THE INSTANTS OF A PIECE

times_cut : (lo hi : ℤ) (file : File) → map (λ (e : ℤ × List ℤ). e.0) (cut_file lo hi file) ≡ filter (within lo hi) (map (λ (e : ℤ × List ℤ). e.0) file)
times_cut lo hi [] = refl
times_cut lo hi (e ∷ file) = go (within lo hi e.0) (times_cut lo hi file) where
  go : (b : Bool) → map (λ (e : ℤ × List ℤ). e.0) (cut_file lo hi file) ≡ filter (within lo hi) (map (λ (e : ℤ × List ℤ). e.0) file)
      → map (λ (e : ℤ × List ℤ). e.0) (cond b (e ∷ cut_file lo hi file) (cut_file lo hi file))
      ≡ cond b (e.0 ∷ filter (within lo hi) (map (λ (e : ℤ × List ℤ). e.0) file)) (filter (within lo hi) (map (λ (e : ℤ × List ℤ). e.0) file))
  go true m = ap (λ l. e.0 ∷ l) m
  go false m = m

-- NOTHING BEFORE IS ABOVE THE LAST INSTANT BEFORE

lt_self : (u : ℤ) → int_lt u u ≡ false
lt_self u = grind arith

lower : (m u x : ℤ) → int_lt u x ≡ true → int_lt m x ≡ false → int_lt m u ≡ false
lower m u x h g = grind (arith, h, g)

settled_down : (o : Option ℤ) (u x : ℤ) → int_lt u x ≡ true → settled o x ≡ false → settled o u ≡ false
settled_down None u x h g = g
settled_down (Some m) u x h g = lower m u x h g

-- no instant of a list that rises is above its last
pub last_beyond : (us : List ℤ) → Ascends us → Beyond (last_instant us) us
last_beyond [] h = tt
last_beyond (u ∷ []) h = (lt_self u, tt)
last_beyond (u ∷ x ∷ us) h = let m = last_beyond (x ∷ us) h.1 in (settled_down (last_instant (x ∷ us)) u x h.0.0 m.0, m)

-- what holds of each instant that a list contains holds of all the list
pub each_contained : (P : ℤ → Type 0) (ys : List ℤ) → ((u : ℤ) → Contains ys u → P u) → AllByRecursion P ys
each_contained P [] h = tt
each_contained P (y ∷ ys) h = (h y (there_first y ys), each_contained P ys (λ u m. h u (there_more y ys u m)))

all_contained : (P : ℤ → Type 0) (ys : List ℤ) (u : ℤ) → AllByRecursion P ys → Contains ys u → P u
all_contained P [] u h m = none_there u m
all_contained P (y ∷ ys) u h m = first_or_more y ys u (λ e. subst P e h.0) (λ k. all_contained P ys u h.1 k) m

-- those of these instants that fail a test are not above the last of them
pub not_above_last : (p : ℤ → Bool) (ts : List ℤ) (u : ℤ) → Ascends ts → Contains ts u → p u ≡ true → settled (last_instant (filter p ts)) u ≡ false
not_above_last p ts u a m e =
    all_contained (λ x. settled (last_instant (filter p ts)) x ≡ false) (filter p ts) u (last_beyond (filter p ts) (filter_ascends p ts a)) (in_filter p ts u m e)

not_lt_le : (lo u : ℤ) → int_lt u lo ≡ false → int_le lo u ≡ true
not_lt_le lo u h = grind (arith, h)

-- above the last instant before a file's part, the part is there
from_lo : (lo : ℤ) (ts : List ℤ) (u : ℤ) → Ascends ts → Contains ts u → settled (last_before lo ts) u ≡ true → int_le lo u ≡ true
from_lo lo ts u a m h = go (int_lt u lo) refl where
  go : (b : Bool) → int_lt u lo ≡ b → int_le lo u ≡ true
  go true e = let k = not_above_last (λ x. int_lt x lo) ts u a m e in cc (h, k)
  go false e = not_lt_le lo u e

-- THE INSTANTS OF THE PIECE AND OF THE WHOLE

abbrev times : File → List ℤ
times file = map (λ (e : ℤ × List ℤ). e.0) file

of_cut : (lo hi : ℤ) (file : File) (u : ℤ) → Contains (times (cut_file lo hi file)) u → Contains (times file) u × (within lo hi u ≡ true)
of_cut lo hi file u h = of_filter (within lo hi) (times file) u (subst (λ (l : List ℤ). Contains l u) (times_cut lo hi file) h)

in_cut : (lo hi : ℤ) (file : File) (u : ℤ) → Contains (times file) u → within lo hi u ≡ true → Contains (times (cut_file lo hi file)) u
in_cut lo hi file u h e = subst (λ (l : List ℤ). Contains l u) (sym (times_cut lo hi file)) (in_filter (within lo hi) (times file) u h e)

of_piece : (hi : ℤ) (cs : List Cut) (u : ℤ) → Contains (stamps (cut_files hi cs)) u → Contains (stamps (whole_files cs)) u × (int_le u hi ≡ true)
of_piece hi [] u h = none_there u h
of_piece hi (c ∷ cs) u h =
    ⊎_elim
    (λ a. let r = of_cut c.lo hi c.file u a in (Contains-append_left (times c.file) (stamps (whole_files cs)) u r.0, (and_parts (int_le c.lo u) (int_le u hi) r.1).1))
    (λ a. let r = of_piece hi cs u a in (Contains-append_right (times c.file) (stamps (whole_files cs)) u r.0, r.1))
    (Contains-append_cases (times (cut_file c.lo hi c.file)) (stamps (cut_files hi cs)) u h)

in_piece : (hi : ℤ) (cs : List Cut) (u : ℤ) → Contains (stamps (whole_files cs)) u → is_full cs u ≡ true → int_le u hi ≡ true → Contains (stamps (cut_files hi cs)) u
in_piece hi [] u h f e = none_there u h
in_piece hi (c ∷ cs) u h f e =
    let g = and_parts (int_le c.lo u) (is_full cs u) f in
    ⊎_elim
    (λ a. Contains-append_left (times (cut_file c.lo hi c.file)) (stamps (cut_files hi cs)) u
    (in_cut c.lo hi c.file u a (and_from (int_le c.lo u) (int_le u hi) g.0 e)))
    (λ a. Contains-append_right (times (cut_file c.lo hi c.file)) (stamps (cut_files hi cs)) u (in_piece hi cs u a g.1 e))
    (Contains-append_cases (times c.file) (stamps (whole_files cs)) u h)

-- the instants of files rise
pub instants_ascend : (files : List File) → Ascends (instants files)
instants_ascend files = ascends (instants files) (instants_are files).rise

-- an instant of the piece is one of the whole, up to the end of the piece; where all files are there, it is the other way round too
pub piece_in_whole : (hi : ℤ) (cuts : List Cut) (u : ℤ) → Contains (instants (cut_files hi cuts)) u → Contains (instants (whole_files cuts)) u × (int_le u hi ≡ true)
piece_in_whole hi cuts u h =
    let r = of_piece hi cuts u (has_once (stamps (cut_files hi cuts)) u h) in
    (once_has (stamps (whole_files cuts)) u r.0, r.1)

-- an instant of the whole, at which all files are there and the piece has not ended, is one of the piece
pub whole_in_piece : (hi : ℤ) (cuts : List Cut) (u : ℤ) → Contains (instants (whole_files cuts)) u → is_full cuts u ≡ true → int_le u hi ≡ true
    → Contains (instants (cut_files hi cuts)) u
whole_in_piece hi cuts u h f e =
    once_has (stamps (cut_files hi cuts)) u (in_piece hi cuts u (has_once (stamps (whole_files cuts)) u h) f e)

instants_cut : (hi : ℤ) (cuts : List Cut)
    → filter (is_full cuts) (instants (cut_files hi cuts)) ≡ filter (λ u. is_full cuts u && int_le u hi) (instants (whole_files cuts))
instants_cut hi cuts =
    let p = is_full cuts in
    let q = λ (u : ℤ). is_full cuts u && int_le u hi in
    let ps = instants (cut_files hi cuts) in
    let ts = instants (whole_files cuts) in
    same_rising (filter p ps) (filter q ts) (filter_ascends p ps (instants_ascend (cut_files hi cuts))) (filter_ascends q ts (instants_ascend (whole_files cuts)))
    (λ t h. let m = of_filter p ps t h in
    let w = piece_in_whole hi cuts t m.0 in
    in_filter q ts t w.0 (and_from (is_full cuts t) (int_le t hi) m.1 w.1))
    (λ t h. let m = of_filter q ts t h in
    let f = and_parts (is_full cuts t) (int_le t hi) m.1 in
    in_filter p ps t (whole_in_piece hi cuts t m.0 f.0 f.1) f.0)

-- the law
pub pieces_are_cut : PiecesAreCut
pieces_are_cut hi cuts = record { instants = instants_cut hi cuts; rows = λ c. rows_cut c.lo hi c.file }

-- A FILE OF THE PIECE HAS THE ROWS OF THE WHOLE'S, ABOVE ITS BOUND

has : List ℤ → ℤ → Bool
has [] u = false
has (x ∷ xs) u = cond (int_eq x u) true (has xs u)

eq_self : (u : ℤ) → int_eq u u ≡ true
eq_self u = grind arith

eq_by : (x u : ℤ) → int_eq x u ≡ true → x ≡ u
eq_by x u h = grind (arith, h)

has_more : (b : Bool) → cond b true true ≡ true
has_more true = refl
has_more false = refl

has_true : (xs : List ℤ) (u : ℤ) → Contains xs u → has xs u ≡ true
unfolding has
has_true [] u h = none_there u h
has_true (x ∷ xs) u h =
    first_or_more x xs u (λ e. ap (λ b. cond b true (has xs u)) (subst (λ (y : ℤ). int_eq x y ≡ true) e (eq_self x)))
    (λ m. ap (λ b. cond (int_eq x u) true b) (has_true xs u m) ∙ has_more (int_eq x u)) h

has_contains : (xs : List ℤ) (u : ℤ) → has xs u ≡ true → Contains xs u
unfolding has
has_contains [] u h = cc h
has_contains (x ∷ xs) u h = go (int_eq x u) refl (λ k. has_contains xs u k) h where
  go : (b : Bool) → int_eq x u ≡ b → (has xs u ≡ true → Contains xs u) → cond b true (has xs u) ≡ true → Contains (x ∷ xs) u
  go true e more k = subst (λ (y : ℤ). Contains (x ∷ xs) y) (eq_by x u e) (there_first x xs)
  go false e more k = there_more x xs u (more k)

-- instants that rise among others that rise
sublist : (ps qs : List ℤ) → Ascends ps → Ascends qs → ((u : ℤ) → Contains ps u → Contains qs u) → ps ≡ filter (has ps) qs
sublist ps qs a b h =
    same_rising ps (filter (has ps) qs) a (filter_ascends (has ps) qs b) (λ u m. in_filter (has ps) qs u (h u m) (has_true ps u m))
    (λ u m. has_contains ps u (of_filter (has ps) qs u m).1)

-- what is the same at the instants that are there, and nothing at the others
IsSameAt : (ℤ → Bool) → (ℤ → Bool) → Timed → Timed → ℤ → Type 0
IsSameAt P q s r u = P u ≡ true → (q u ≡ true → s u ≡ r u) × (q u ≡ false → r u ≡ [])

sub_rows : (P q : ℤ → Bool) (s r : Timed) (ys : List ℤ) → AllByRecursion (IsSameAt P q s r) ys → flat_map s (filter P (filter q ys)) ≡ flat_map r (filter P ys)
unfolding IsSameAt
sub_rows P q s r [] h = refl
sub_rows P q s r (y ∷ ys) h = go (q y) refl (P y) refl (sub_rows P q s r ys h.1) where
  fp : List ℤ
  fp = filter P (filter q ys)

  gp : List ℤ
  gp = filter P ys

  out : (b : Bool) → q y ≡ false → P y ≡ b → flat_map s fp ≡ flat_map r gp → flat_map s fp ≡ flat_map r (cond b (y ∷ gp) gp)
  out true e k m = m ∙ ap (λ l. l ++ flat_map r gp) (sym ((h.0 k).1 e))
  out false e k m = m

  inside : (b : Bool) → q y ≡ true → P y ≡ b → flat_map s fp ≡ flat_map r gp → flat_map s (cond b (y ∷ fp) fp) ≡ flat_map r (cond b (y ∷ gp) gp)
  inside true e k m = ap (λ l. l ++ flat_map s fp) ((h.0 k).0 e) ∙ ap (λ l. r y ++ l) m
  inside false e k m = m

  go : (b : Bool) → q y ≡ b → (c : Bool) → P y ≡ c → flat_map s fp ≡ flat_map r gp
      → flat_map s (filter P (cond b (y ∷ filter q ys) (filter q ys))) ≡ flat_map r (cond (P y) (y ∷ gp) gp)
  go true e c k m = inside (P y) e refl m
  go false e c k m = out (P y) e refl m

no_rows : (file : File) (u : ℤ) → (Contains (times file) u → ⊥) → at_instant file u ≡ []
no_rows [] u h = refl
no_rows (e ∷ file) u h = go (int_eq e.0 u) refl (no_rows file u (λ m. h (there_more e.0 (times file) u m))) where
  go : (b : Bool) → int_eq e.0 u ≡ b → at_instant file u ≡ []
      → map (λ (d : ℤ × List ℤ). d.1) (cond b (e ∷ filter (λ (d : ℤ × List ℤ). int_eq d.0 u) file) (filter (λ (d : ℤ × List ℤ). int_eq d.0 u) file)) ≡ []
  go true k m = absurd (h (subst (λ (y : ℤ). Contains (e.0 ∷ times file) y) (eq_by e.0 u k) (there_first e.0 (times file))))
  go false k m = m

-- the instants of the whole up to the end of the piece
abbrev pub upto : ℤ → List ℤ → List ℤ
upto hi ts = filter (λ u. int_le u hi) ts

file_rows : (hi : ℤ) (cuts : List Cut) (c : Cut) → ((u : ℤ) → Contains (times (cut_file c.lo hi c.file)) u → Contains (stamps (cut_files hi cuts)) u)
    → SameRows (instants (cut_files hi cuts)) (upto hi (instants (whole_files cuts))) (last_before c.lo (instants (whole_files cuts)))
    (at_instant (cut_file c.lo hi c.file)) (at_instant c.file)
unfolding IsSameAt
file_rows hi cuts c inc P h =
    ap (λ l. flat_map s (filter P l)) (sublist ps qs (instants_ascend (cut_files hi cuts)) (filter_ascends (λ u. int_le u hi) ts (instants_ascend (whole_files cuts)))
    (λ u m. let w = piece_in_whole hi cuts u m in in_filter (λ x. int_le x hi) ts u w.0 w.1))
    ∙ sub_rows P (has ps) s r qs (each_contained (IsSameAt P (has ps) s r) qs (λ u m e. (
      (λ k. rows_cut c.lo hi c.file u (and_from (int_le c.lo u) (int_le u hi) (begun u m e) (of_filter (λ x. int_le x hi) ts u m).1)),
      (λ k. no_rows c.file u (λ t. missed u m e k t)),
    ))) where
      ps : List ℤ
      ps = instants (cut_files hi cuts)

      ts : List ℤ
      ts = instants (whole_files cuts)

      qs : List ℤ
      qs = upto hi ts

      s : Timed
      s = at_instant (cut_file c.lo hi c.file)

      r : Timed
      r = at_instant c.file

      begun : (u : ℤ) → Contains qs u → P u ≡ true → int_le c.lo u ≡ true
      begun u m e = from_lo c.lo ts u (instants_ascend (whole_files cuts)) (of_filter (λ x. int_le x hi) ts u m).0 (h u e)

      missed : (u : ℤ) → Contains qs u → P u ≡ true → has ps u ≡ false → Contains (times c.file) u → ⊥
      missed u m e k t =
          let w = and_from (int_le c.lo u) (int_le u hi) (begun u m e) (of_filter (λ x. int_le x hi) ts u m).1 in
          let y = has_true ps u (once_has (stamps (cut_files hi cuts)) u (inc u (in_cut c.lo hi c.file u t w))) in
          cc (k, y)

-- where the instants that these files have in the piece are instants of the piece, each of them has the rows of the whole above its bound
pub each_file : (hi : ℤ) (cuts cs : List Cut) → ((u : ℤ) → Contains (stamps (cut_files hi cs)) u → Contains (stamps (cut_files hi cuts)) u)
    → AllByRecursion (λ c. SameRows (instants (cut_files hi cuts)) (upto hi (instants (whole_files cuts))) (last_before c.lo (instants (whole_files cuts)))
    (at_instant (cut_file c.lo hi c.file)) (at_instant c.file)) cs
each_file hi cuts [] inc = tt
each_file hi cuts (c ∷ cs) inc = (
  file_rows hi cuts c (λ u m. inc u (Contains-append_left (times (cut_file c.lo hi c.file)) (stamps (cut_files hi cs)) u m)),
  each_file hi cuts cs (λ u m. inc u (Contains-append_right (times (cut_file c.lo hi c.file)) (stamps (cut_files hi cs)) u m)),
)
