-- Common divisors, how often, and branches that keep step.
use Rattle.std.proofs.Common.{◌≡◌, ℕ, zero, suc, ◌+◌, ◌-◌, ◌*◌, ◌/◌, ◌%◌, ◌<◌, ◌≤◌, List, length, refl, sym, ap, ◌∙◌, subst, arith, ⊎_elim, pos_of_ne-zero, max, Bool, true}
use Rattle.std.proofs.Common.{false, nat_eq, [], ◌∷◌, Result, Ok, Err, Some, None}
use Rattle.std.specs.Int.{IsGcd}
use Rattle.std.proofs.lemmas.Bool.{cases_eq, eqb-true}
use Rattle.std.proofs.lemmas.Nat.{mod_below, div-add-mod', le-div}
use Rattle.std.proofs.lemmas.Nat.Gcd.{IsGcd-from_zero, IsGcd-from_mod, mod-eq-zero_of_dvd}
use Rattle.river_base.proofs.PlaceLemmas.{if_eq, if_ne}
use Rattle.std.specs.Prelude.{if◌then◌else◌}
use Rattle.std.specs.List.{AllByRecursion}
use Rattle.stream_periods.specs.Periods.{Period, Unbalanced, beside, common, common_by, times_for, weight}

-- WHAT IS THERE

-- what is there is one thing
pub some_is : {A : Type 0} (x y : A) → Some x ≡ Some y → x ≡ y
some_is x y h = cc h

-- what is there is not nothing
pub no_some : {A B : Type 0} (x : A) → Some x ≡ None → B
no_some x h = absurd (cc h)

-- what is accepted is one thing
pub ok_is : {A E : Type 0} (x y : A) → (let r : Result A E = Ok x in r) ≡ Ok y → x ≡ y
ok_is x y h = cc h

-- COMMON DIVISORS

common_by_is : (n a b : ℕ) → b < n → IsGcd a b (common_by n a b)
common_by_is zero a b lt = absurd (omega (arith, lt))
common_by_is (suc n) a b lt = ⊎_elim
    (λ e. subst (IsGcd a b) (sym (if_eq b 0 a (common_by n b (a % b)) e)) (IsGcd-from_zero a b e))
    (λ ne.
    subst (IsGcd a b) (sym (if_ne b 0 a (common_by n b (a % b)) ne))
    (IsGcd-from_mod a b _ (common_by_is n b (a % b) (let m = mod_below a b (pos_of_ne-zero ne) in omega (arith, m, lt)))))
    (cases_eq b 0)

-- it divides both, and what divides both divides it
pub common_is : (a b : ℕ) → IsGcd a b (common a b)
common_is a b = common_by_is (suc b) a b (omega arith)

-- two numbers are multiples of their common divisor
pub record Parted (a b g : ℕ) : Type 0 where
  pub first : a / g * g ≡ a
  pub second : b / g * g ≡ b

-- so they are of the one that is reckoned
pub parted : (a b : ℕ) → Parted a b (common a b)
parted a b =
    let g = common a b in
    let is = common_by_is (suc b) a b (omega arith) in
    let u = mod-eq-zero_of_dvd g {n = a} is.0 in let v = mod-eq-zero_of_dvd g {n = b} is.1 in
    let d = div-add-mod' a g in let e = div-add-mod' b g in
    record { first = omega (arith, u, d); second = omega (arith, v, e) }

-- so many periods of each have as many items
pub crossed : (x y g a b : ℕ) → x * g ≡ a → y * g ≡ b → y * a ≡ x * b
crossed x y g a b e f = ap (λ n. y * n) (sym e) ∙ (let m : y * (x * g) ≡ x * (y * g) = omega arith in m) ∙ ap (λ n. x * n) f

-- what has a number above 0 as its multiple is above 0
pub positive_part : (n g b : ℕ) → n * g ≡ b → 0 < b → 0 < n
positive_part zero g b e lt = absurd (omega (arith, e, lt))
positive_part (suc n) g b e lt = omega arith

-- and so is the common divisor
pub positive_common : (n g b : ℕ) → n * g ≡ b → 0 < b → 0 < g
positive_common n zero b e lt = absurd (omega (arith, e, lt))
positive_common n (suc g) b e lt = omega arith

-- no periods where nothing is given
pub zero_part : (n g : ℕ) → n * g ≡ 0 → 0 < g → n ≡ 0
zero_part zero g e lt = refl
zero_part (suc n) g e lt = absurd (omega (arith, e, lt))

-- HOW OFTEN

-- so often is often enough
pub times_enough : (wanted each : ℕ) → 0 < each → wanted ≤ times_for wanted each * each
times_enough wanted each lt =
    let d = div-add-mod' (wanted + (each - 1)) each in
    let m = mod_below (wanted + (each - 1)) each lt in
    omega (arith, d, m, lt)

-- for more it is no less often
pub times_rise : (a b each : ℕ) → 0 < each → a ≤ b → times_for a each ≤ times_for b each
times_rise a b each lt le =
    let d = div-add-mod' (a + (each - 1)) each in
    le-div (times_for a each) (b + (each - 1)) each lt (omega (arith, d, le))

-- TWO BRANCHES

-- two branches that keep step: so many periods of each
pub record Beside (p q r : Period) : Type 0 where
  pub m : ℕ
  pub n : ℕ
  pub some : 0 < q.takes → 0 < m
  pub takes : m * p.takes ≡ n * q.takes
  pub gives : m * p.gives ≡ n * q.gives
  pub is : record { takes = m * p.takes; gives = m * p.gives; reach = max p.reach q.reach } ≡ r

-- the periods that keep step
pub beside_parts : (p q r : Period) → beside p q ≡ Ok r → Beside p q r
beside_parts p q r h = go (nat_eq (m * p.gives) (n * q.gives)) refl h
  where
    g : ℕ
    g = common p.takes q.takes

    m : ℕ
    m = q.takes / g

    n : ℕ
    n = p.takes / g

    go : (b : Bool) → nat_eq (m * p.gives) (n * q.gives) ≡ b
        → (if b then Ok (record { takes = m * p.takes; gives = m * p.gives; reach = max p.reach q.reach }) else Err Unbalanced) ≡ Ok r → Beside p q r
    go false e f = absurd (cc f)
    go true e f =
        let parts = parted p.takes q.takes in
        record {
          m = m;
          n = n;
          some = positive_part m g q.takes parts.second;
          takes = crossed n m g p.takes q.takes parts.first parts.second;
          gives = eqb-true (m * p.gives) (n * q.gives) e;
          is = ok_is _ r f;
        }

-- a weight of a round is above 0
pub weight_some : (ws : List ℕ) (i : ℕ) → AllByRecursion (λ w. 0 < w) ws → i < length ws → 0 < weight ws i
weight_some [] i above lt = absurd (omega (arith, lt))
weight_some (w ∷ ws) zero above lt = above.0
weight_some (w ∷ ws) (suc i) above lt = weight_some ws i above.1 (omega (arith, lt))
