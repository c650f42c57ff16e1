-- The pass over the counts of rows gives the instant from which on so many rows have come.
use Rattle.std.proofs.Common.{◌≡◌, ℕ, ◌+◌, ◌-◌, ◌==◌, ℤ, Bool, true, false, List, [], ◌∷◌, ◌++◌, length, fold, refl, sym, ap, ◌∙◌, arith, cond, subst, append_assoc, length-append}
use Rattle.std.specs.Prelude.{int_lt, int_le, nat_lt, filter, flat_map, ◌&&◌}
use Rattle.std.specs.List.{AllByRecursion}
use Rattle.std.proofs.lemmas.List.Elements.{filter-append}
use Rattle.std.proofs.lemmas.List.Concat.{flat_map-append}
use Rattle.std.proofs.lemmas.List.{append-nil}
use Rattle.river_base.specs.Instants.{Timed}
use Rattle.kern_bags.specs.Contents.{later}
use Rattle.cql_model.proofs.Instants.{Ascends, ascends, ascends_below, ascends_above, filter-none, each-map}
use Rattle.cql_pieces.specs.Piece.{rows_since, filled}
use Rattle.cql_pieces.specs.Moved.{Counts, times_of, AreCounts, less_at, last_wanting}

-- the rows that have come behind m at these instants
came : Timed → ℤ → List ℤ → ℕ
came s m us = length (flat_map s (filter (λ u. int_lt m u) us))

-- WHAT HAS COME UP TO AN INSTANT

not_up : (v u : ℤ) → int_lt v u ≡ true → int_le u v ≡ false
not_up v u h = grind (arith, h)

up : (v u : ℤ) → int_lt u v ≡ true → int_le u v ≡ true
up v u h = grind (arith, h)

self : (v : ℤ) → int_le v v ≡ true
self v = grind arith

second_false : (x y : Bool) → y ≡ false → (x && y) ≡ false
second_false true y h = h
second_false false y h = refl

second_true : (x y : Bool) → y ≡ true → (x && y) ≡ x
second_true true y h = h
second_true false y h = refl

-- two tests that say the same of all keep the same
same_test : (p q : ℤ → Bool) (us : List ℤ) → AllByRecursion (λ u. p u ≡ q u) us → filter p us ≡ filter q us
same_test p q [] h = refl
same_test p q (u ∷ us) h = ap (λ b. cond b (u ∷ filter p us) (filter p us)) h.0 ∙ ap (λ l. cond (q u) (u ∷ l) l) (same_test p q us h.1)

-- among rising instants, those behind m and up to v stand in the front that ends with v
front_since : (us vs : List ℤ) (m v : ℤ) → Ascends (us ++ (v ∷ vs))
    → filter (λ u. int_lt m u && int_le u v) (us ++ (v ∷ vs)) ≡ filter (λ u. int_lt m u) (us ++ v ∷ [])
front_since us vs m v a =
    let R = λ (u : ℤ). int_lt m u && int_le u v in
    let P = λ (u : ℤ). int_lt m u in
    let gone : filter R vs ≡ [] =
    filter-none R vs (each-map (λ u. int_lt v u ≡ true) (λ u. R u ≡ false) (λ u k. second_false (int_lt m u) (int_le u v) (not_up v u k)) vs (ascends_above us vs v a)) in
    let here : filter R us ≡ filter P us =
    same_test R P us (each-map (λ u. int_lt u v ≡ true) (λ u. R u ≡ P u) (λ u k. second_true (int_lt m u) (int_le u v) (up v u k)) us (ascends_below us vs v a)) in
    let last : filter R (v ∷ []) ≡ filter P (v ∷ []) = same_test R P (v ∷ []) (second_true (int_lt m v) (int_le v v) (self v), tt) in
    ap (filter R) (sym (append_assoc us (v ∷ []) vs)) ∙ filter-append R (us ++ v ∷ []) vs ∙ ap (λ l. filter R (us ++ v ∷ []) ++ l) gone
    ∙ append-nil (filter R (us ++ v ∷ [])) ∙ filter-append R us (v ∷ []) ∙ ap (λ l. l ++ filter R (v ∷ [])) here ∙ ap (λ l. filter P us ++ l) last
    ∙ sym (filter-append P us (v ∷ []))

-- one instant more
came_more : (s : Timed) (m : ℤ) (us : List ℤ) (v : ℤ) → came s m (us ++ v ∷ []) ≡ came s m us + came s m (v ∷ [])
unfolding came
came_more s m us v =
    let P = λ (u : ℤ). int_lt m u in
    ap (λ l. length (flat_map s l)) (filter-append P us (v ∷ [])) ∙ ap length (flat_map-append s (filter P us) (filter P (v ∷ [])))
    ∙ length-append (flat_map s (filter P us)) (flat_map s (filter P (v ∷ [])))

came_here : (s : Timed) (m v : ℤ) (count : ℕ) → count ≡ length (s v) → came s m (v ∷ []) ≡ cond (int_lt m v) count 0
unfolding came
came_here s m v count e = go (int_lt m v) where
  go : (b : Bool) → length (flat_map s (cond b (v ∷ []) [])) ≡ cond b count 0
  go true = ap length (append-nil (s v)) ∙ sym e
  go false = refl

-- THE PASS

less_step : (b : Bool) (n k count : ℕ) → cond b ((n - k) - count) (n - k) ≡ n - (k + cond b count 0)
less_step true n k count = omega arith
less_step false n k count = omega arith

left_is : (s : Timed) (m : ℤ) (us : List ℤ) (v : ℤ) (n count : ℕ) → count ≡ length (s v)
    → less_at m v count (n - came s m us) ≡ n - came s m (us ++ v ∷ [])
left_is s m us v n count e =
    less_step (int_lt m v) n (came s m us) count ∙ ap (λ k. n - (came s m us + k)) (sym (came_here s m v count e)) ∙ ap (λ k. n - k) (sym (came_more s m us v))

wants : {A : Type 0} (n k : ℕ) (x y : A) → cond (n - k == 0) x y ≡ cond (nat_lt k n) y x
wants n k x y = go (n - k == 0) (nat_lt k n) refl refl where
  go : (b c : Bool) → (n - k == 0) ≡ b → nat_lt k n ≡ c → cond b x y ≡ cond c y x
  go true true e f = absurd (grind (arith, e, f))
  go true false e f = refl
  go false true e f = refl
  go false false e f = absurd (grind (arith, e, f))

-- what is kept of one more, and the latest of it
latest_more : (b : Bool) (latest v : ℤ) (vs : List ℤ) → fold later (cond b (later latest v) latest) vs ≡ fold later latest (cond b (v ∷ vs) vs)
latest_more true latest v vs = refl
latest_more false latest v vs = refl

pass : (s : Timed) (n : ℕ) (m : ℤ) (all us : List ℤ) (es : Counts) (latest : ℤ) → all ≡ us ++ times_of es → Ascends all
    → AllByRecursion (λ e. e.1 ≡ length (s e.0)) es
    → last_wanting m (n - came s m us) latest es ≡ fold later latest (filter (λ t. nat_lt (length (rows_since all s m t)) n) (times_of es))
unfolding came
pass s n m all us [] latest e a h = refl
pass s n m all us (d ∷ es) latest e a h =
    let v = d.0 in
    let vs = times_of es in
    let F = λ (t : ℤ). nat_lt (length (rows_since all s m t)) n in
    let next = us ++ v ∷ [] in
    let left = left_is s m us v n d.1 h.0 in
    let here : F v ≡ nat_lt (came s m next) n = ap (λ k. nat_lt k n) (here_is e) in
    ap (λ w. last_wanting m w (cond (w == 0) latest (later latest v)) es) left
    ∙ ap (λ x. last_wanting m (n - came s m next) x es) (wants n (came s m next) latest (later latest v) ∙ ap (λ b. cond b (later latest v) latest) (sym here))
    ∙ pass s n m all next es (cond (F v) (later latest v) latest) (e ∙ sym (append_assoc us (v ∷ []) vs)) a h.1
    ∙ latest_more (F v) latest v (filter F vs) where
      here_is : all ≡ us ++ (d.0 ∷ times_of es) → length (rows_since all s m d.0) ≡ came s m (us ++ d.0 ∷ [])
      here_is q =
          ap (λ l. length (flat_map s (filter (λ u. int_lt m u && int_le u d.0) l))) q
          ∙ ap (λ l. length (flat_map s l)) (front_since us (times_of es) m d.0 (subst Ascends q a))

all_wanting : (n : ℕ) → n ≡ n - 0
all_wanting n = omega arith

-- The pass from the first instant on finds the latest at which fewer than n rows have come.
pub pass_fills : (s : Timed) (n : ℕ) (m : ℤ) (counts : Counts) → AreCounts s counts → last_wanting m n m counts ≡ filled n (times_of counts) s m
unfolding came
pass_fills s n m counts c =
    ap (λ k. last_wanting m k m counts) (all_wanting n) ∙ pass s n m (times_of counts) [] counts m refl (ascends (times_of counts) c.rise) c.rows
