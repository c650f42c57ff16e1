-- Lists of instants in parts, and bounds.
use Rattle.std.proofs.Common.{◌≡◌, ℕ, suc, ◌-◌, ◌≤◌, ℤ, Bool, true, false, List, [], ◌∷◌, ◌++◌, length, drop, refl, sym, ap, ◌∙◌, arith, cond, subst}
use Rattle.std.proofs.Common.{append_assoc, length-append, fold}
use Rattle.std.specs.Prelude.{int_lt, int_le, filter, flat_map, ◌&&◌, not, Option, Some, None}
use Rattle.std.specs.List.{AllByRecursion}
use Rattle.std.proofs.lemmas.List.Elements.{filter-append}
use Rattle.river_base.specs.Instants.{Timed}
use Rattle.kern_bags.specs.Contents.{later}
use Rattle.cql_model.specs.Streams.{newest_rows}
use Rattle.cql_model.proofs.Instants.{AllAbove, Ascends, filter-none, each-map}
use Rattle.cql_pieces.specs.Piece.{settled, both, moved}

-- PLACES

-- what holds of all holds at this place
pub at_place : (P : ℤ → Type 0) (xs : List ℤ) (t : ℤ) (ys : List ℤ) → AllByRecursion P (xs ++ (t ∷ ys)) → P t
at_place P [] t ys h = h.0
at_place P (x ∷ xs) t ys h = at_place P xs t ys h.1

-- what holds at each place holds of all
pub each_from : (P : ℤ → Type 0) (all : List ℤ) → ((xs ys : List ℤ) (t : ℤ) → all ≡ xs ++ (t ∷ ys) → P t)
    → (front back : List ℤ) → all ≡ front ++ back → AllByRecursion P back
each_from P all h front [] e = tt
each_from P all h front (t ∷ back) e =
    (h front back t e, each_from P all h (front ++ t ∷ []) back (e ∙ sym (append_assoc front (t ∷ []) back)))

-- what holds at each place holds of all
pub each_in : (P : ℤ → Type 0) (all : List ℤ) → ((xs ys : List ℤ) (t : ℤ) → all ≡ xs ++ (t ∷ ys) → P t) → AllByRecursion P all
each_in P all h = each_from P all h [] all refl

-- what is above an instant in a list is above it behind each front
pub above_back : (t : ℤ) (us vs : List ℤ) → AllAbove t (us ++ vs) → AllAbove t vs
above_back t [] vs h = h
above_back t (u ∷ us) vs h = above_back t us vs h.1

-- a list in three parts, of which the middle has t
pub three_parts : (us v1 v2 ws : List ℤ) (t : ℤ) → us ++ ((v1 ++ (t ∷ v2)) ++ ws) ≡ (us ++ v1) ++ (t ∷ (v2 ++ ws))
three_parts us v1 v2 ws t = ap (λ l. us ++ l) (append_assoc v1 (t ∷ v2) ws) ∙ sym (append_assoc us v1 (t ∷ (v2 ++ ws)))

-- the front of a list that rises rises
pub ascends_front : (us vs : List ℤ) → Ascends (us ++ vs) → Ascends us
ascends_front [] vs r = tt
ascends_front (u ∷ us) vs r = (front us r.0, ascends_front us vs r.1) where
  front : (xs : List ℤ) → AllAbove u (xs ++ vs) → AllAbove u xs
  front [] h = tt
  front (x ∷ xs) h = (h.0, front xs h.1)

-- FILTERS

-- what holds of the rest that is kept, with the first where it passes and without it where not, holds of what is kept
pub filter_step : (p : ℤ → Bool) (P : List ℤ → Type 0) (v : ℤ) (vs : List ℤ) → (p v ≡ true → P (v ∷ filter p vs)) → (p v ≡ false → P (filter p vs)) → P (filter p (v ∷ vs))
filter_step p P v vs pass stop = go (p v) refl where
  go : (b : Bool) → p v ≡ b → P (cond b (v ∷ filter p vs) (filter p vs))
  go true e = pass e
  go false e = stop e

-- the rows at the instants that pass, of two streams that are the same there
pub rows_same : (p : ℤ → Bool) (s r : Timed) (vs : List ℤ) → AllByRecursion (λ u. p u ≡ true → s u ≡ r u) vs → flat_map s (filter p vs) ≡ flat_map r (filter p vs)
rows_same p s r [] h = refl
rows_same p s r (v ∷ vs) h = let m = rows_same p s r vs h.1 in
    filter_step p (λ l. flat_map s l ≡ flat_map r l) v vs (λ e. ap (λ l. l ++ flat_map s (filter p vs)) (h.0 e) ∙ ap (λ l. r v ++ l) m) (λ e. m)

-- a test of a test
pub filter_both : {X : Type 0} (p q r : X → Bool) → ((x : X) → r x ≡ (q x && p x)) → (xs : List X) → filter p (filter q xs) ≡ filter r xs
filter_both p q r h [] = refl
filter_both p q r h (x ∷ xs) = go (q x) refl (filter_both p q r h xs) where
  go : (b : Bool) → q x ≡ b → filter p (filter q xs) ≡ filter r xs → filter p (cond b (x ∷ filter q xs) (filter q xs)) ≡ cond (r x) (x ∷ filter r xs) (filter r xs)
  go true e m =
      let k : r x ≡ p x = h x ∙ ap (λ b. b && p x) e in
      ap (λ l. cond (p x) (x ∷ l) l) m ∙ ap (λ b. cond b (x ∷ filter r xs) (filter r xs)) (sym k)
  go false e m = let k : r x ≡ false = h x ∙ ap (λ b. b && p x) e in m ∙ ap (λ b. cond b (x ∷ filter r xs) (filter r xs)) (sym k)

-- what is kept passes the test
pub filter_passing : (p : ℤ → Bool) (vs : List ℤ) → AllByRecursion (λ u. p u ≡ true) (filter p vs)
filter_passing p [] = tt
filter_passing p (v ∷ vs) = let m = filter_passing p vs in filter_step p (AllByRecursion (λ u. p u ≡ true)) v vs (λ e. (e, m)) (λ e. m)

-- what holds of all holds of those that are kept
pub filter_keeps : (P : ℤ → Type 0) (p : ℤ → Bool) (vs : List ℤ) → AllByRecursion P vs → AllByRecursion P (filter p vs)
filter_keeps P p [] h = tt
filter_keeps P p (v ∷ vs) h = let m = filter_keeps P p vs h.1 in filter_step p (AllByRecursion P) v vs (λ e. (h.0, m)) (λ e. m)

-- what is kept of a list that rises rises
pub filter_ascends : (p : ℤ → Bool) (vs : List ℤ) → Ascends vs → Ascends (filter p vs)
filter_ascends p [] h = tt
filter_ascends p (v ∷ vs) h = let m = filter_ascends p vs h.1 in
    filter_step p Ascends v vs (λ e. (filter_keeps (λ u. int_lt v u ≡ true) p vs h.0, m)) (λ e. m)

-- instants that rise, cut where a test that holds up to a place ends to hold
pub cut_at : (p : ℤ → Bool) → ((u v : ℤ) → int_lt u v ≡ true → p u ≡ false → p v ≡ false) → (vs : List ℤ) → Ascends vs
    → vs ≡ filter p vs ++ filter (λ u. not (p u)) vs
cut_at p down [] h = refl
cut_at p down (v ∷ vs) h = go (p v) refl (cut_at p down vs h.1) where
  q : ℤ → Bool
  q u = not (p u)

  go : (b : Bool) → p v ≡ b → vs ≡ filter p vs ++ filter q vs
      → (v ∷ vs) ≡ cond b (v ∷ filter p vs) (filter p vs) ++ cond (not b) (v ∷ filter q vs) (filter q vs)
  go true e m = ap (λ l. v ∷ l) m
  go false e m =
      let none : filter p vs ≡ [] = filter-none p vs (each-map (λ u. int_lt v u ≡ true) (λ u. p u ≡ false) (λ u lt. down v u lt e) vs h.0) in
      ap (λ l. v ∷ l) (m ∙ ap (λ l. l ++ filter q vs) none) ∙ ap (λ l. l ++ (v ∷ filter q vs)) (sym none)

-- BOUNDS

-- nothing here is above the bound
abbrev pub Beyond : Option ℤ → List ℤ → Type 0
Beyond m us = AllByRecursion (λ u. settled m u ≡ false) us

-- where nothing is above no bound there is nothing
pub none_before : (us : List ℤ) → Beyond None us → us ≡ []
none_before [] h = refl
none_before (u ∷ us) h = cc h.0

not_up : (m n u : ℤ) → int_le m n ≡ true → int_lt m u ≡ false → int_lt n u ≡ false
not_up m n u h g = grind (arith, h, g)

up_down : (m n u : ℤ) → int_le m n ≡ true → int_lt n u ≡ true → int_lt m u ≡ true
up_down m n u h g = grind (arith, h, g)

-- what is not above a bound is not above it where it is moved on
pub moved_beyond : (f : ℤ → ℤ) → ((m : ℤ) → int_le m (f m) ≡ true) → (o : Option ℤ) (us : List ℤ) → Beyond o us → Beyond (moved f o) us
moved_beyond f up None us h = h
moved_beyond f up (Some m) us h = each-map (λ u. int_lt m u ≡ false) (λ u. int_lt (f m) u ≡ false) (λ u g. not_up m (f m) u (up m) g) us h

-- what is above a bound that is moved on is above the bound
pub moved_settled : (f : ℤ → ℤ) → ((m : ℤ) → int_le m (f m) ≡ true) → (o : Option ℤ) (t : ℤ) → settled (moved f o) t ≡ true → settled o t ≡ true
moved_settled f up None t h = refl
moved_settled f up (Some m) t h = up_down m (f m) t (up m) h

later_cases : (P : ℤ → Type 0) (m u : ℤ) → (int_lt m u ≡ true → P u) → (int_lt m u ≡ false → P m) → P (later m u)
later_cases P m u up stay = go (int_lt m u) refl where
  go : (b : Bool) → int_lt m u ≡ b → P (cond b u m)
  go true e = up e
  go false e = stay e

le_self : (m : ℤ) → int_le m m ≡ true
le_self m = grind arith

lt_le : (m u : ℤ) → int_lt m u ≡ true → int_le m u ≡ true
lt_le m u h = grind (arith, h)

not_lt_le : (m u : ℤ) → int_lt m u ≡ false → int_le u m ≡ true
not_lt_le m u h = grind (arith, h)

le_over : (m n u : ℤ) → int_le m n ≡ true → int_le n u ≡ true → int_le m u ≡ true
le_over m n u h g = grind (arith, h, g)

-- the later of two is not before the first
pub later_left : (m u : ℤ) → int_le m (later m u) ≡ true
later_left m u = later_cases (λ x. int_le m x ≡ true) m u (λ e. lt_le m u e) (λ e. le_self m)

-- the later of two is not before the second
pub later_right : (m u : ℤ) → int_le u (later m u) ≡ true
later_right m u = later_cases (λ x. int_le u x ≡ true) m u (λ e. le_self u) (λ e. not_lt_le m u e)

-- what is not above the second of two bounds is not above the later of them
pub both_beyond : (a b : Option ℤ) (us : List ℤ) → Beyond b us → Beyond (both a b) us
both_beyond None b us h = h
both_beyond (Some m) None us h = subst (Beyond (Some m)) (sym (none_before us h)) tt
both_beyond (Some m) (Some n) us h =
    each-map (λ u. int_lt n u ≡ false) (λ u. int_lt (later m n) u ≡ false) (λ u k. not_up n (later m n) u (later_right m n) k) us h

-- what is above the later of two bounds is above both
pub both_settled : (a b : Option ℤ) (t : ℤ) → settled (both a b) t ≡ true → (settled a t ≡ true) × (settled b t ≡ true)
both_settled None b t h = (refl, h)
both_settled (Some m) None t h = (h, refl)
both_settled (Some m) (Some n) t h = (up_down m (later m n) t (later_left m n) h, up_down n (later m n) t (later_right m n) h)

-- the latest of many
pub fold_keeps : (m : ℤ) (us : List ℤ) → int_le m (fold later m us) ≡ true
fold_keeps m [] = le_self m
fold_keeps m (u ∷ us) = le_over m (later m u) (fold later (later m u) us) (later_left m u) (fold_keeps (later m u) us)

-- none of some instants is later than the latest of them and of m
pub fold_all : (m : ℤ) (us : List ℤ) → AllByRecursion (λ u. int_le u (fold later m us) ≡ true) us
fold_all m [] = tt
fold_all m (u ∷ us) = (le_over u (later m u) (fold later (later m u) us) (later_right m u) (fold_keeps (later m u) us), fold_all (later m u) us)

-- none that passes is later than the latest of those that pass and of m
pub fold_has : (F : ℤ → Bool) (m : ℤ) (vs : List ℤ) → AllByRecursion (λ u. F u ≡ true → int_le u (fold later m (filter F vs)) ≡ true) vs
fold_has F m [] = tt
fold_has F m (v ∷ vs) = go (F v) refl (fold_has F (later m v) vs) (fold_has F m vs) where
  go : (b : Bool) → F v ≡ b → AllByRecursion (λ u. F u ≡ true → int_le u (fold later (later m v) (filter F vs)) ≡ true) vs
      → AllByRecursion (λ u. F u ≡ true → int_le u (fold later m (filter F vs)) ≡ true) vs
      → (F v ≡ true → int_le v (fold later m (cond b (v ∷ filter F vs) (filter F vs))) ≡ true)
      × AllByRecursion (λ u. F u ≡ true → int_le u (fold later m (cond b (v ∷ filter F vs) (filter F vs))) ≡ true) vs
  go true e up same = ((λ k. le_over v (later m v) (fold later (later m v) (filter F vs)) (later_right m v) (fold_keeps (later m v) (filter F vs))), up)
  go false e up same = ((λ k. cc (e, k)), same)

-- the last rows of two lists, where the second has so many
pub newest_back : (n : ℕ) (xs ys : List (List ℤ)) → n ≤ length ys → newest_rows n (xs ++ ys) ≡ newest_rows n ys
newest_back n [] ys h = refl
newest_back n (x ∷ xs) ys h =
    let l = length-append xs ys in
    let e : suc (length (xs ++ ys)) - n ≡ suc (length (xs ++ ys) - n) = omega (arith, l, h) in
    ap (λ k. drop k (x ∷ (xs ++ ys))) e ∙ newest_back n xs ys h

-- STREAMS THAT HAVE THE SAME ROWS

-- at any instants above the bound, of these instants and of those
abbrev pub SameRows : List ℤ → List ℤ → Option ℤ → Timed → Timed → Type 0
SameRows ps qs m s r = (P : ℤ → Bool) → ((u : ℤ) → P u ≡ true → settled m u ≡ true) → flat_map s (filter P ps) ≡ flat_map r (filter P qs)

-- no rows
abbrev nil : Timed
nil t = []

-- two streams without rows have the same rows
pub nothing_same : (ps qs : List ℤ) (m : Option ℤ) → SameRows ps qs m (λ t. []) (λ t. [])
nothing_same ps qs m P h = none (filter P ps) ∙ sym (none (filter P qs)) where
  none : (us : List ℤ) → flat_map nil us ≡ []
  none [] = refl
  none (u ∷ us) = none us

-- Where both have the same instants `vs` behind others that are not above the bound, and the streams are the same there.
pub rows_behind : (xs us vs : List ℤ) (m : Option ℤ) (s r : Timed) → Beyond m xs → Beyond m us → AllByRecursion (λ t. settled m t ≡ true → s t ≡ r t) vs
    → SameRows (xs ++ vs) (us ++ vs) m s r
rows_behind xs us vs m s r bx bu g P h =
    ap (flat_map s) (front xs bx) ∙ rows_same P s r vs (each-map (λ t. settled m t ≡ true → s t ≡ r t) (λ t. P t ≡ true → s t ≡ r t) (λ t k e. k (h t e)) vs g)
    ∙ sym (ap (flat_map r) (front us bu)) where
      off : (u : ℤ) (b : Bool) → P u ≡ b → settled m u ≡ false → b ≡ false
      off u true e k = cc (h u e, k)
      off u false e k = refl

      front : (ys : List ℤ) → Beyond m ys → filter P (ys ++ vs) ≡ filter P vs
      front ys b = filter-append P ys vs ∙ ap (λ l. l ++ filter P vs) (filter-none P ys (each-map (λ u. settled m u ≡ false) (λ u. P u ≡ false) (λ u k. off u (P u) refl k) ys b))
