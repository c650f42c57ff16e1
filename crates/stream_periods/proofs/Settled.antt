-- What shifts: more periods, behind more items, one after another.
use Rattle.std.proofs.Common.{◌≡◌, ℕ, zero, suc, ℤ, ◌+◌, ◌-◌, ◌*◌, ◌/◌, ◌<◌, ◌≤◌, List, length, drop, refl, sym, ap, ◌∙◌, subst, arith, length-drop, drop-drop, ⊎_elim, mul-pos}
use Rattle.std.proofs.lemmas.Bool.{cases_lt}
use Rattle.streamit_model.specs.Meaning.{Works}
use Rattle.stream_periods.specs.Laws.{Grows, IsFading, IsSettled, IsShifting}
use Rattle.stream_periods.specs.Periods.{Period, after, common, times_for}
use Rattle.stream_periods.proofs.Numbers.{Parted, crossed, parted, positive_common, positive_part, times_enough, zero_part}

-- LISTS THAT AGREE

-- what agrees behind some items agrees behind more
pub more_agree : (a b m : ℕ) (xs ys : List ℤ) → a ≤ b → drop a ys ≡ drop (m + a) xs → drop b ys ≡ drop (m + b) xs
more_agree a b m xs ys le e =
    let d = b - a in
    let split : b ≡ a + d = omega (arith, le) in
    ap (λ n. drop n ys) split
    ∙ sym (drop-drop d a ys)
    ∙ ap (drop d) e
    ∙ drop-drop d (m + a) xs
    ∙ ap (λ n. drop n xs) (let q : m + a + d ≡ m + b = omega (arith, le) in q)

-- the same where nothing is moved
pub still_agree : (a b : ℕ) (xs ys : List ℤ) → a ≤ b → drop a ys ≡ drop a xs → drop b ys ≡ drop b xs
still_agree a b xs ys le e =
    more_agree a b 0 xs ys le (e ∙ ap (λ n. drop n xs) (let q : a ≡ 0 + a = omega arith in q)) ∙ ap (λ n. drop n xs) (let q : 0 + b ≡ b = omega arith in q)

-- MORE PERIODS

-- no items
shift_none : (f : Works) (r w : ℕ) → IsShifting f 0 0 r w
shift_none f r w = record {
  moves = λ xs le. ap (λ n. drop n (f xs)) (let e : w ≡ 0 + w = omega arith in e);
  fewer = λ xs le. (let e : length (f xs) + 0 ≡ length (f xs) = omega arith in e);
}

-- one number of items, and then another
shift_add : (f : Works) (t g u h r w : ℕ) → IsShifting f t g r w → IsShifting f u h r w → IsShifting f (t + u) (g + h) r w
shift_add f t g u h r w a b = record { moves = moves; fewer = fewer }
  where
    behind : (xs : List ℤ) → t + u + r ≤ length xs → u + r ≤ length (drop t xs)
    behind xs le = let d = length-drop t xs in omega (arith, d, le)

    moves : (xs : List ℤ) → t + u + r ≤ length xs → drop w (f (drop (t + u) xs)) ≡ drop (g + h + w) (f xs)
    moves xs le =
        ap (λ l. drop w (f l)) (sym (drop-drop u t xs))
        ∙ b.moves (drop t xs) (behind xs le)
        ∙ ap (λ n. drop n (f (drop t xs))) (let e : h + w ≡ w + h = omega arith in e)
        ∙ sym (drop-drop h w (f (drop t xs)))
        ∙ ap (drop h) (a.moves xs (omega (arith, le)))
        ∙ drop-drop h (g + w) (f xs)
        ∙ ap (λ n. drop n (f xs)) (let e : g + w + h ≡ g + h + w = omega arith in e)

    fewer : (xs : List ℤ) → t + u + r ≤ length xs → length (f (drop (t + u) xs)) + (g + h) ≡ length (f xs)
    fewer xs le =
        let one = a.fewer xs (omega (arith, le)) in
        let two = b.fewer (drop t xs) (behind xs le) in
        let e = ap (λ l. length (f l)) (drop-drop u t xs) in
        omega (arith, one, two, e)

-- the same, with equal numbers and more reach
pub shift_by : (f : Works) (t t' g g' r r' w : ℕ) → t ≡ t' → g ≡ g' → r ≤ r' → IsShifting f t g r w → IsShifting f t' g' r' w
shift_by f t t' g g' r r' w et eg le a =
    let far : IsShifting f t g r' w = record { moves = λ xs l. a.moves xs (omega (arith, l, le)); fewer = λ xs l. a.fewer xs (omega (arith, l, le)) } in
    subst (λ m. IsShifting f m g' r' w) et (subst (λ m. IsShifting f t m r' w) eg far)

-- so many periods
pub shift_times : (f : Works) (t g r w k : ℕ) → IsShifting f t g r w → IsShifting f (k * t) (k * g) r w
shift_times f t g r w zero a = shift_by f 0 (zero * t) 0 (zero * g) r r w (omega arith) (omega arith) (omega arith) (shift_none f r w)
shift_times f t g r w (suc k) a =
    shift_by f (t + k * t) (suc k * t) (g + k * g) (suc k * g) r r w (omega arith) (omega arith) (omega arith)
    (shift_add f t g (k * t) (k * g) r w a (shift_times f t g r w k a))

-- behind more items
pub shift_later : (f : Works) (t g r w w' : ℕ) → w ≤ w' → IsShifting f t g r w → IsShifting f t g r w'
shift_later f t g r w w' le a =
    record { moves = λ xs l. more_agree w w' g (f xs) (f (drop t xs)) le (a.moves xs l); fewer = λ xs l. a.fewer xs l }

-- as many are there
pub shift_enough : (f : Works) (t g r w : ℕ) (xs : List ℤ) → IsShifting f t g r w → t + r ≤ length xs → g ≤ length (f xs)
shift_enough f t g r w xs a le = let e = a.fewer xs le in omega (arith, e)

-- ONE AFTER ANOTHER

shift_composed : (f g : Works) (t m q r s w : ℕ) (ψ : ℕ → ℕ) → IsFading g ψ → IsShifting f t m r w → IsShifting g m q s (ψ 0)
    → ((xs : List ℤ) → t + r ≤ length xs → m + s ≤ length (f xs)) → IsShifting (λ xs. g (f xs)) t q r (ψ w)
shift_composed f g t m q r s w ψ fade a b h = record { moves = moves; fewer = fewer }
  where
    -- what the first gives for the items behind has the length of what is behind of what it gives
    long : (xs : List ℤ) → t + r ≤ length xs → length (f (drop t xs)) ≡ length (drop m (f xs))
    long xs le = let e = a.fewer xs le in let d = length-drop m (f xs) in omega (arith, e, d)

    moves : (xs : List ℤ) → t + r ≤ length xs → drop (ψ w) (g (f (drop t xs))) ≡ drop (q + ψ w) (g (f xs))
    moves xs le =
        fade.agree w (drop m (f xs)) (f (drop t xs)) (long xs le) (a.moves xs le ∙ sym (drop-drop w m (f xs)))
        ∙ more_agree (ψ 0) (ψ w) q (g (f xs)) (g (drop m (f xs))) (fade.rises 0 w (omega arith)) (b.moves (f xs) (h xs le))

    fewer : (xs : List ℤ) → t + r ≤ length xs → length (g (f (drop t xs))) + q ≡ length (g (f xs))
    fewer xs le = let one = fade.same (drop m (f xs)) (f (drop t xs)) (long xs le) in let two = b.fewer (f xs) (h xs le) in omega (arith, one, two)

-- the first shifts, and the second settles
pub shift_after : (f g : Works) (p q : Period) (w : ℕ) (ψ : ℕ → ℕ) → 0 < p.takes → IsShifting f p.takes p.gives p.reach w → IsSettled g q ψ
    → (0 < (after p q).takes) × IsShifting (λ xs. g (f xs)) (after p q).takes (after p q).gives (after p q).reach (ψ w)
shift_after f g p q w ψ a shifting b = (mul-pos (positive_part y c q.takes parts.second b.takes) a, ⊎_elim some none (cases_lt 0 p.gives))
  where
    c : ℕ
    c = common p.gives q.takes

    x : ℕ
    x = p.gives / c

    y : ℕ
    y = q.takes / c

    n : ℕ
    n = times_for q.reach p.gives

    parts : Parted p.gives q.takes c
    parts = parted p.gives q.takes

    turned : y * p.gives ≡ x * q.takes
    turned = crossed x y c p.gives q.takes parts.first parts.second

    none : p.gives ≤ 0 → IsShifting (λ xs. g (f xs)) (y * p.takes) (x * q.gives) (p.reach + n * p.takes) (ψ w)
    none le =
        let z : p.gives ≡ 0 = omega (arith, le) in
        let x0 : x ≡ 0 = zero_part x c (parts.first ∙ z) (positive_common y c q.takes parts.second b.takes) in
        let first = shift_by f (y * p.takes) (y * p.takes) (y * p.gives) 0 p.reach p.reach w refl (ap (λ m. y * m) z ∙ omega arith) (omega arith)
        (shift_times f p.takes p.gives p.reach w y shifting) in
        shift_by (λ xs. g (f xs)) (y * p.takes) (y * p.takes) 0 (x * q.gives) p.reach (p.reach + n * p.takes) (ψ w) refl
        (let e : 0 ≡ 0 * q.gives = omega arith in e ∙ ap (λ m. m * q.gives) (sym x0)) (omega arith)
        (shift_composed f g (y * p.takes) 0 0 p.reach 0 w ψ b.fading first (shift_none g 0 (ψ 0)) (λ xs l. omega arith))

    some : 0 < p.gives → IsShifting (λ xs. g (f xs)) (y * p.takes) (x * q.gives) (p.reach + n * p.takes) (ψ w)
    some lt =
        let first = shift_by f (y * p.takes) (y * p.takes) (y * p.gives) (y * p.gives) p.reach (p.reach + n * p.takes) w refl refl (omega arith)
        (shift_times f p.takes p.gives p.reach w y shifting) in
        let second = shift_by g (x * q.takes) (y * p.gives) (x * q.gives) (x * q.gives) q.reach q.reach (ψ 0) (sym turned) refl (omega arith)
        (shift_times g q.takes q.gives q.reach (ψ 0) x b.shifting) in
        let more = shift_times f p.takes p.gives p.reach w (y + n) shifting in
        let t = times_enough q.reach p.gives lt in
        shift_composed f g (y * p.takes) (y * p.gives) (x * q.gives) (p.reach + n * p.takes) q.reach w ψ b.fading first second
        (λ xs le. let m = shift_enough f ((y + n) * p.takes) ((y + n) * p.gives) p.reach w xs more (omega (arith, le)) in omega (arith, m, t))

-- MORE ITEMS

-- one after the other gives no less for more items
pub one_after : (f g : Works) → Grows f → Grows g → Grows (λ xs. g (f xs))
one_after f g a b xs ys = let p = a xs ys in let q = b (f xs) p.0 in (q.0, ap g p.1 ∙ q.1)
