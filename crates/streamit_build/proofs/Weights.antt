-- Weights that fit, and those that do not.
use Rattle.std.proofs.lemmas.Bool.{and_from}
use Rattle.std.proofs.Common.{◌≡◌, ◌≢◌, ℕ, zero, suc, ◌+◌, ◌*◌, ◌<◌, ◌≤◌, Bool, true, false, List, [], ◌∷◌, ◌++◌, length, take, get_or, replicate, Ok, Err}
use Rattle.std.proofs.Common.{refl, ap, ◌∙◌, arith, nat_eq, nat_le}
use Rattle.std.specs.Prelude.{◌&&◌}
use Rattle.std.specs.List.{list_all}
use Rattle.std.proofs.lemmas.List.{length-replicate, take_more}
use Rattle.std.proofs.lemmas.List.Folds.{list_all-append}
use Rattle.river_base.proofs.Tests.{le_true, le_false}
use Rattle.brooklet_model.specs.ByIndex.{cycle}
use Rattle.streamit_model.specs.Elaborate.{on_ok, demand}
use Rattle.streamit_model.specs.declared.fault.Fault.TheVariants.{Limit, Weights}
use Rattle.streamit_model.specs.Judged.{fitting_round}

first_false : (a b : Bool) → a ≡ false → a && b ≡ false
first_false a b h = rw h refl

second_false : (a b : Bool) → b ≡ false → a && b ≡ false
second_false true b h = h
second_false false b h = refl

eq_true : (a b : ℕ) → a ≡ b → nat_eq a b ≡ true
eq_true a b h = grind (arith, h)

eq_false : (a b : ℕ) → a ≢ b → nat_eq a b ≡ false
eq_false a b h = grind (arith, h)

-- another number of weights
pub round_other : (vs : List ℕ) (n : ℕ) → length vs ≢ n → fitting_round vs n ≡ Err Weights
round_other vs n h =
    ap (λ b. on_ok (demand (b && list_all (λ w. nat_le 1 w) vs) Weights) (λ u. on_ok (demand (nat_le (cycle vs) 65536) Limit) (λ v. Ok vs)))
    (eq_false (length vs) n h)

-- a weight that is 0
pub round_zero : (vs : List ℕ) (n : ℕ) → list_all (λ w. nat_le 1 w) vs ≡ false → fitting_round vs n ≡ Err Weights
round_zero vs n h =
    ap (λ b. on_ok (demand b Weights) (λ u. on_ok (demand (nat_le (cycle vs) 65536) Limit) (λ v. Ok vs)))
    (second_false (nat_eq (length vs) n) (list_all (λ w. nat_le 1 w) vs) h)

-- a sum that is too high
pub round_high : (vs : List ℕ) (n : ℕ) → length vs ≡ n → list_all (λ w. nat_le 1 w) vs ≡ true → 65536 < cycle vs → fitting_round vs n ≡ Err Limit
round_high vs n e h lt =
    ap (λ b. on_ok (demand b Weights) (λ u. on_ok (demand (nat_le (cycle vs) 65536) Limit) (λ v. Ok vs)))
    (and_from (nat_eq (length vs) n) (list_all (λ w. nat_le 1 w) vs) (eq_true (length vs) n e) h)
    ∙ ap (λ b. on_ok (demand b Limit) (λ v. Ok vs)) (le_false (cycle vs) 65536 lt)

-- weights that fit
pub round_fits : (vs : List ℕ) (n : ℕ) → length vs ≡ n → list_all (λ w. nat_le 1 w) vs ≡ true → cycle vs ≤ 65536 → fitting_round vs n ≡ Ok vs
round_fits vs n e h le =
    ap (λ b. on_ok (demand b Weights) (λ u. on_ok (demand (nat_le (cycle vs) 65536) Limit) (λ v. Ok vs)))
    (and_from (nat_eq (length vs) n) (list_all (λ w. nat_le 1 w) vs) (eq_true (length vs) n e) h)
    ∙ ap (λ b. on_ok (demand b Limit) (λ v. Ok vs)) (le_true (cycle vs) 65536 le)

-- ONE WEIGHT FOR EACH

cycle-replicate : (n w : ℕ) → cycle (replicate n w) ≡ n * w
cycle-replicate zero w = omega arith
cycle-replicate (suc n) w = ap (λ k. w + k) (cycle-replicate n w) ∙ more n w
  where
    more : (n w : ℕ) → w + n * w ≡ suc n * w
    more n w = grind arith

ones-replicate : (n w : ℕ) → 1 ≤ w → list_all (λ w. nat_le 1 w) (replicate n w) ≡ true
ones-replicate zero w h = refl
ones-replicate (suc n) w h = and_from (nat_le 1 w) (list_all (λ w. nat_le 1 w) (replicate n w)) (le_true 1 w h) (ones-replicate n w h)

none-replicate : (n w : ℕ) → 1 ≤ n → w ≡ 0 → list_all (λ w. nat_le 1 w) (replicate n w) ≡ false
none-replicate zero w h e = absurd (omega (arith, h))
none-replicate (suc n) w h e = first_false (nat_le 1 w) (list_all (λ w. nat_le 1 w) (replicate n w)) (le_false 1 w (omega (arith, e)))

-- as many zeros
pub equal_zero : (w n : ℕ) → w ≡ 0 → 1 ≤ n → fitting_round (replicate n w) n ≡ Err Weights
equal_zero w n e h = round_zero (replicate n w) n (none-replicate n w h e)

-- as many weights, and too high
pub equal_high : (w n : ℕ) → 1 ≤ w → 65536 < n * w → fitting_round (replicate n w) n ≡ Err Limit
equal_high w n h lt = round_high (replicate n w) n (length-replicate n w) (ones-replicate n w h) (let c = cycle-replicate n w in omega (arith, c, lt))

-- as many weights that fit
pub equal_fits : (w n : ℕ) → 1 ≤ w → n * w ≤ 65536 → fitting_round (replicate n w) n ≡ Ok (replicate n w)
equal_fits w n h le = round_fits (replicate n w) n (length-replicate n w) (ones-replicate n w h) (let c = cycle-replicate n w in omega (arith, c, le))

-- SUMS

cycle-append : (xs ys : List ℕ) → cycle (xs ++ ys) ≡ cycle xs + cycle ys
cycle-append [] ys = omega arith
cycle-append (x ∷ xs) ys = let e = cycle-append xs ys in omega (arith, e)

-- the sum of one weight more
pub cycle-more : (ws : List ℕ) (i : ℕ) → i < length ws → cycle (take (i + 1) ws) ≡ cycle (take i ws) + get_or ws i 0
cycle-more ws i lt =
    ap cycle (take_more ws i 0 lt) ∙ cycle-append (take i ws) (get_or ws i 0 ∷ [])
    ∙ (let e : cycle (take i ws) + (get_or ws i 0 + 0) ≡ cycle (take i ws) + get_or ws i 0 = omega arith in e)

-- a front has no greater sum
pub cycle_front : (ws : List ℕ) (i : ℕ) → cycle (take i ws) ≤ cycle ws
cycle_front [] zero = omega arith
cycle_front [] (suc i) = omega arith
cycle_front (w ∷ ws) zero = omega arith
cycle_front (w ∷ ws) (suc i) = let e = cycle_front ws i in omega (arith, e)

-- a weight is not above the sum
pub weight_below : (ws : List ℕ) (i : ℕ) → i < length ws → get_or ws i 0 ≤ cycle ws
weight_below ws i lt = let a = cycle-more ws i lt in let b = cycle_front ws (i + 1) in omega (arith, a, b)

-- the sum is above the limit where that of its front and of one more weight is
pub cycle_above : (ws : List ℕ) (i left w : ℕ) → i < length ws → w ≡ get_or ws i 0 → left + cycle (take i ws) ≡ 65536 → left < w → 65536 < cycle ws
cycle_above ws i left w lt e s h = let a = cycle-more ws i lt in let b = cycle_front ws (i + 1) in omega (arith, a, b, e, s, h)

-- one weight more that is not 0
pub ones-more : (ws : List ℕ) (i : ℕ) → i < length ws → list_all (λ w. nat_le 1 w) (take i ws) ≡ true → 1 ≤ get_or ws i 0
    → list_all (λ w. nat_le 1 w) (take (i + 1) ws) ≡ true
ones-more ws i lt h le =
    ap (list_all (λ w. nat_le 1 w)) (take_more ws i 0 lt) ∙ list_all-append (λ w. nat_le 1 w) (take i ws) (get_or ws i 0 ∷ [])
    ∙ and_from (list_all (λ w. nat_le 1 w) (take i ws)) _ h (and_from (nat_le 1 (get_or ws i 0)) true (le_true 1 (get_or ws i 0) le) refl)

-- a weight that is 0
pub ones_stop : (ws : List ℕ) (i : ℕ) → i < length ws → get_or ws i 0 ≡ 0 → list_all (λ w. nat_le 1 w) ws ≡ false
ones_stop [] i lt e = absurd (omega (arith, lt))
ones_stop (w ∷ ws) zero lt e = first_false (nat_le 1 w) (list_all (λ w. nat_le 1 w) ws) (le_false 1 w (omega (arith, e)))
ones_stop (w ∷ ws) (suc i) lt e = second_false (nat_le 1 w) (list_all (λ w. nat_le 1 w) ws) (ones_stop ws i (omega (arith, lt)) e)

-- a product is not below its second part
pub product_above : (k a b : ℕ) → 1 ≤ a → k < b → k < a * b
product_above k zero b h lt = absurd (omega (arith, h))
product_above k (suc m) b h lt = let e = more m b in omega (arith, e, lt)
  where
    more : (m b : ℕ) → suc m * b ≡ b + m * b
    more m b = grind arith
