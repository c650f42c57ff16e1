-- A window on a piece has the content that it has on the whole, above its bound.
use Rattle.std.proofs.Common.{◌≡◌, ℕ, ◌≤◌, ℤ, pos, Bool, true, false, List, [], ◌∷◌, ◌++◌, length, refl, sym, ap, ◌∙◌, arith, cond, subst}
use Rattle.std.specs.Prelude.{int_lt, int_le, nat_lt, filter, flat_map, fold, ◌&&◌, ◌-ℤ◌, ◌+ℤ◌, Option, Some, None}
use Rattle.std.specs.List.{AllByRecursion}
use Rattle.std.specs.Ordering.{int_eq}
use Rattle.std.proofs.lemmas.Bool.{and_parts}
use Rattle.std.proofs.lemmas.List.Elements.{filter-append}
use Rattle.std.proofs.lemmas.List.Concat.{flat_map-append}
use Rattle.std.proofs.lemmas.List.{append-nil}
use Rattle.river_base.specs.Instants.{Timed}
use Rattle.kern_bags.specs.Contents.{later}
use Rattle.cql_text.specs.Tree.{Window, Now, Range, Unbounded, Latest}
use Rattle.cql_model.specs.Streams.{in_reach, kept_rows, newest_rows, windowed}
use Rattle.cql_model.proofs.Instants.{AllAbove, Ascends, filter-none, each-map, out_of_reach}
use Rattle.cql_pieces.specs.Piece.{settled, rows_since, window_moves, window_settles}
use Rattle.cql_pieces.proofs.Lists.{SameRows, at_place, fold_keeps, fold_all, fold_has, newest_back}

-- A BOUND DOES NOT GO BACK

plus_up : (m : ℤ) (n : ℕ) → int_le m (m +ℤ pos n) ≡ true
plus_up m n = grind arith

le_self : (m : ℤ) → int_le m m ≡ true
le_self m = grind arith

-- a window moves a bound on, and never back
pub window_up : (w : Window) (vs : List ℤ) (s : Timed) (m : ℤ) → int_le m (window_moves w vs s m) ≡ true
window_up Now vs s m = le_self m
window_up (Range n unit) vs s m = plus_up m n
window_up Unbounded vs s m = fold_keeps m vs
window_up (Latest n) vs s m = fold_keeps m (filter (λ t. nat_lt (length (rows_since vs s m t)) n) vs)

-- WHAT IS IN REACH

-- behind t nothing is in reach
reach_upto : (w : Window) (qs ws : List ℤ) (t : ℤ) → AllAbove t ws → filter (in_reach w t) (qs ++ ws) ≡ filter (in_reach w t) qs
reach_upto w qs ws t a =
    let p = in_reach w t in
    let gone : filter p ws ≡ [] = filter-none p ws (each-map (λ u. int_lt t u ≡ true) (λ u. p u ≡ false) (out_of_reach w t) ws a) in
    filter-append p qs ws ∙ ap (λ l. filter p qs ++ l) gone ∙ append-nil (filter p qs)

-- where all that is in reach is above the bound
all_in_reach : (w : Window) (m : Option ℤ) (ps qs ws : List ℤ) (t : ℤ) (s r : Timed) → AllAbove t ws
    → ((u : ℤ) → in_reach w t u ≡ true → settled m u ≡ true) → SameRows ps qs m s r → windowed w ps s t ≡ windowed w (qs ++ ws) r t
all_in_reach w m ps qs ws t s r a h g = ap (kept_rows w) (g (in_reach w t) h ∙ ap (flat_map r) (sym (reach_upto w qs ws t a)))

now_reach : (m t u : ℤ) → int_lt m t ≡ true → int_eq u t ≡ true → int_lt m u ≡ true
now_reach m t u h g = grind (arith, h, g)

far : (m t u : ℤ) (n : ℕ) → int_lt (m +ℤ pos n) t ≡ true → int_le (t -ℤ pos n) u ≡ true → int_lt m u ≡ true
far m t u n h g = grind (arith, h, g)

range_reach : (m t u : ℤ) (n : ℕ) → int_lt (m +ℤ pos n) t ≡ true → (int_le u t && (int_le (t -ℤ pos n) u && int_le (pos 0) u)) ≡ true → int_lt m u ≡ true
range_reach m t u n h g =
    let a = and_parts (int_le u t) (int_le (t -ℤ pos n) u && int_le (pos 0) u) g in
    let b = and_parts (int_le (t -ℤ pos n) u) (int_le (pos 0) u) a.1 in
    far m t u n h b.0

never : (t x : ℤ) → int_le t x ≡ true → int_lt x t ≡ true → ⊥
never t x h g = grind (arith, h, g)

-- ROWS

low : (v : ℤ) (x y c : Bool) (F A B : List ℤ) → x ≡ true → y ≡ false → F ≡ A ++ B → cond c (v ∷ F) F ≡ cond (x && c) (v ∷ A) A ++ cond (y && c) (v ∷ B) B
low v true false true F A B p q e = ap (λ l. v ∷ l) e
low v true false false F A B p q e = e
low v false y c F A B p q e = cc p
low v true true c F A B p q e = cc q

high : (v : ℤ) (x y c : Bool) (F A B : List ℤ) → x ≡ false → y ≡ true → A ≡ [] → F ≡ A ++ B → cond c (v ∷ F) F ≡ cond (x && c) (v ∷ A) A ++ cond (y && c) (v ∷ B) B
high v false true true F A B p q z e = ap (λ l. v ∷ l) (e ∙ ap (λ l. l ++ B) z) ∙ ap (λ l. l ++ (v ∷ B)) (sym z)
high v false true false F A B p q z e = e
high v true y c F A B p q z e = cc p
high v false false c F A B p q z e = cc q

not_above : (m v : ℤ) → int_lt m v ≡ false → int_le v m ≡ true
not_above m v h = grind (arith, h)

is_above : (m v : ℤ) → int_lt m v ≡ true → int_le v m ≡ false
is_above m v h = grind (arith, h)

above_too : (m v u : ℤ) → int_lt m v ≡ true → int_lt v u ≡ true → int_le u m ≡ false
above_too m v u h g = grind (arith, h, g)

first_false : (x y : Bool) → x ≡ false → (x && y) ≡ false
first_false true y h = cc h
first_false false y h = refl

-- the instants up to t are those up to m and those behind it
split_rows : (m t : ℤ) (vs : List ℤ) → Ascends vs
    → filter (λ u. int_le u t) vs ≡ filter (λ u. int_le u m && int_le u t) vs ++ filter (λ u. int_lt m u && int_le u t) vs
split_rows m t [] h = refl
split_rows m t (v ∷ vs) h = go (int_lt m v) refl (split_rows m t vs h.1) where
  F : ℤ → Bool
  F u = int_le u t

  A : ℤ → Bool
  A u = int_le u m && int_le u t

  B : ℤ → Bool
  B u = int_lt m u && int_le u t

  go : (b : Bool) → int_lt m v ≡ b → filter F vs ≡ filter A vs ++ filter B vs
      → cond (int_le v t) (v ∷ filter F vs) (filter F vs) ≡ cond (int_le v m && int_le v t) (v ∷ filter A vs) (filter A vs)
      ++ cond (int_lt m v && int_le v t) (v ∷ filter B vs) (filter B vs)
  go true e ih = high v (int_le v m) (int_lt m v) (int_le v t) (filter F vs) (filter A vs) (filter B vs) (is_above m v e) e
      (filter-none A vs (each-map (λ u. int_lt v u ≡ true) (λ u. A u ≡ false) (λ u k. first_false (int_le u m) (int_le u t) (above_too m v u e k)) vs h.0)) ih
  go false e ih = low v (int_le v m) (int_lt m v) (int_le v t) (filter F vs) (filter A vs) (filter B vs) (not_above m v e) e ih

enough : (k n : ℕ) → nat_lt k n ≡ false → n ≤ k
enough k n h = grind (arith, h)

-- the last n rows, where n have come behind the bound
latest_of : (n : ℕ) (m t : ℤ) (vs : List ℤ) (s : Timed) → Ascends vs → n ≤ length (flat_map s (filter (λ u. int_lt m u && int_le u t) vs))
    → newest_rows n (flat_map s (filter (λ u. int_le u t) vs)) ≡ newest_rows n (flat_map s (filter (λ u. int_lt m u && int_le u t) vs))
latest_of n m t vs s asc k =
    let A = λ (u : ℤ). int_le u m && int_le u t in
    let B = λ (u : ℤ). int_lt m u && int_le u t in
    ap (λ l. newest_rows n (flat_map s l)) (split_rows m t vs asc) ∙ ap (newest_rows n) (flat_map-append s (filter A vs) (filter B vs))
    ∙ newest_back n (flat_map s (filter A vs)) (flat_map s (filter B vs)) k

latest_same : (n : ℕ) (m : ℤ) (ps qs ws : List ℤ) (t : ℤ) (s r : Timed) → AllAbove t ws → Ascends ps → Ascends qs → SameRows ps qs (Some m) s r
    → n ≤ length (rows_since ps s m t) → windowed (Latest n) ps s t ≡ windowed (Latest n) (qs ++ ws) r t
latest_same n m ps qs ws t s r a pa qa g k =
    let B = λ (u : ℤ). int_lt m u && int_le u t in
    let rows : flat_map s (filter B ps) ≡ flat_map r (filter B qs) = g B (λ u e. (and_parts (int_lt m u) (int_le u t) e).0) in
    latest_of n m t ps s pa k ∙ ap (newest_rows n) rows ∙ sym (latest_of n m t qs r qa (subst (λ (l : List (List ℤ)). n ≤ length l) rows k))
    ∙ ap (λ l. newest_rows n (flat_map r l)) (sym (reach_upto (Latest n) qs ws t a))

-- ALL WINDOWS

-- The piece has the instants ps, among them t; the whole has qs, and behind t others.
pub window_same : (w : Window) (m : Option ℤ) (ps qs ws p1 p2 : List ℤ) (t : ℤ) (s r : Timed)
    → AllAbove t ws → Ascends ps → Ascends qs → ps ≡ p1 ++ (t ∷ p2) → SameRows ps qs m s r → settled (window_settles w ps s m) t ≡ true
    → windowed w ps s t ≡ windowed w (qs ++ ws) r t
window_same w None ps qs ws p1 p2 t s r a pa qa e g h = all_in_reach w None ps qs ws t s r a (λ u k. refl) g
window_same Now (Some m) ps qs ws p1 p2 t s r a pa qa e g h = all_in_reach Now (Some m) ps qs ws t s r a (λ u k. now_reach m t u h k) g
window_same (Range n unit) (Some m) ps qs ws p1 p2 t s r a pa qa e g h =
    all_in_reach (Range n unit) (Some m) ps qs ws t s r a (λ u k. range_reach m t u n h k) g
window_same Unbounded (Some m) ps qs ws p1 p2 t s r a pa qa e g h =
    absurd (never t (fold later m ps)
    (at_place (λ u. int_le u (fold later m ps) ≡ true) p1 t p2 (subst (AllByRecursion (λ u. int_le u (fold later m ps) ≡ true)) e (fold_all m ps))) h)
window_same (Latest n) (Some m) ps qs ws p1 p2 t s r a pa qa e g h = go (F t) refl where
  F : ℤ → Bool
  F x = nat_lt (length (rows_since ps s m x)) n

  go : (c : Bool) → F t ≡ c → windowed (Latest n) ps s t ≡ windowed (Latest n) (qs ++ ws) r t
  go true k =
      let P = λ (u : ℤ). F u ≡ true → int_le u (fold later m (filter F ps)) ≡ true in
      absurd (never t (fold later m (filter F ps)) (at_place P p1 t p2 (subst (AllByRecursion P) e (fold_has F m ps)) k) h)
  go false k = latest_same n m ps qs ws t s r a pa qa g (enough (length (rows_since ps s m t)) n k)
