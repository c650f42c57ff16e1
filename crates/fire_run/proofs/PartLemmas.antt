-- Tasks by the parts of their operators.
use Rattle.std.proofs.Common.{◌≡◌, ℕ, zero, suc, ◌+◌, ◌%◌, ◌==◌, ◌<◌, ◌≤◌, Bool, cond, true, false, List, [], ◌∷◌, length, map, filter, refl, sym, ap, ◌∙◌, subst}
use Rattle.std.proofs.Common.{arith, ⊎_elim, get_or, eq-eqb, ne_eqb}
use Rattle.std.proofs.lemmas.Bool.{cases_eq}
use Rattle.std.proofs.lemmas.Nat.{mod_below}
use Rattle.fire_tasks.specs.declared.bundle.Bundle.{Bundle}
use Rattle.fire_tasks.specs.declared.task.Task.{Task}
use Rattle.fire_tasks.specs.Tasks.{ends_of, all_ends, moves, all_moves}
use Rattle.fire_run.specs.Cells.{AreSingle}
use Rattle.fire_run.specs.Frames.{bundle_moves, ends_of_part, tasks_of_part}

-- LISTS THAT ARE FILTERED

-- the numbers are equal where the test says so
pub eq_told : (a b : ℕ) → (a == b) ≡ true → a ≡ b
eq_told a b e = ⊎_elim (λ q. q) (λ ne. let z : true ≡ false = sym e ∙ ne_eqb a b ne in absurd (cc z)) (cases_eq a b)

-- where an element of a filtered list stood before
pub record StoodAt {A : Type 0} (f : A → Bool) (xs : List A) (x : A) : Type 0 where
  pub place : ℕ
  pub below : place < length xs
  pub same : (d : A) → get_or xs place d ≡ x
  pub passed : f x ≡ true

later_stood : {A : Type 0} (f : A → Bool) (y : A) (xs : List A) (x : A) → StoodAt f xs x → StoodAt f (y ∷ xs) x
later_stood f y xs x s = record { place = suc s.place; below = (let l = s.below in omega (arith, l)); same = s.same; passed = s.passed }

-- each element of a filtered list stood in the list, and passed
pub filter_stood : {A : Type 0} (f : A → Bool) (xs : List A) (i : ℕ) (d : A) → i < length (filter f xs) → StoodAt f xs (get_or (filter f xs) i d)
filter_stood f [] i d lt = absurd (omega (arith, lt))
filter_stood f (x ∷ xs) i d lt = by (f x) refl (λ j l. filter_stood f xs j d l) i lt
  where
    by : (b : Bool) → f x ≡ b → ((j : ℕ) → j < length (filter f xs) → StoodAt f xs (get_or (filter f xs) j d)) → (j : ℕ)
        → j < length (cond b (x ∷ filter f xs) (filter f xs)) → StoodAt f (x ∷ xs) (get_or (cond b (x ∷ filter f xs) (filter f xs)) j d)
    by true e rest zero l = record { place = 0; below = omega arith; same = λ c. refl; passed = e }
    by true e rest (suc j) l = later_stood f x xs (get_or (filter f xs) j d) (rest j (omega (arith, l)))
    by false e rest j l = later_stood f x xs (get_or (filter f xs) j d) (rest j l)

-- an element that passes stands in the filtered list
pub filter_finds : {A : Type 0} (f : A → Bool) (xs : List A) (o : ℕ) (d : A) → o < length xs → f (get_or xs o d) ≡ true
    → (i : ℕ) × (i < length (filter f xs)) × ((c : A) → get_or (filter f xs) i c ≡ get_or xs o d)
filter_finds f [] o d lt e = absurd (omega (arith, lt))
filter_finds f (x ∷ xs) zero d lt e =
    subst (λ b. (i : ℕ) × (i < length (cond b (x ∷ filter f xs) (filter f xs))) × ((c : _) → get_or (cond b (x ∷ filter f xs) (filter f xs)) i c ≡ x)) (sym e)
    (0, omega arith, λ c. refl)
filter_finds f (x ∷ xs) (suc o) d lt e =
    let r = filter_finds f xs o d (omega (arith, lt)) e in
    by (f x) r.0 r.1 r.2
  where
    by : (b : Bool) (i : ℕ) → i < length (filter f xs) → ((c : _) → get_or (filter f xs) i c ≡ get_or xs o d)
        → (j : ℕ) × (j < length (cond b (x ∷ filter f xs) (filter f xs))) × ((c : _) → get_or (cond b (x ∷ filter f xs) (filter f xs)) j c ≡ get_or xs o d)
    by true i l s = (suc i, omega (arith, l), s)
    by false i l s = (i, l, s)

-- lists that are as long and have the same at each place are the same by a view
pub map_at : {A B : Type 0} (g : A → B) (xs ys : List A) → length xs ≡ length ys → ((i : ℕ) (d : A) → i < length xs → g (get_or xs i d) ≡ g (get_or ys i d))
    → map g xs ≡ map g ys
map_at g [] [] l e = refl
map_at g [] (y ∷ ys) l e = absurd (omega (arith, l))
map_at g (x ∷ xs) [] l e = absurd (omega (arith, l))
map_at g (x ∷ xs) (y ∷ ys) l e = ap (λ b. b ∷ map g xs) (e 0 x (omega arith))
    ∙ ap (λ bs. g y ∷ bs) (map_at g xs ys (omega (arith, l)) (λ i d lt. e (suc i) d (omega (arith, lt))))

-- THE TASKS OF A PART

-- their ends are those of the part
pub part_ends : (n k : ℕ) (ts : List Task) → all_ends (tasks_of_part n k ts) ≡ ends_of_part n k (all_ends ts)
part_ends n k [] = refl
part_ends n k (t ∷ ts) = by ((t.op % n) == k) (part_ends n k ts)
  where
    by : (b : Bool) → all_ends (tasks_of_part n k ts) ≡ ends_of_part n k (all_ends ts)
        → all_ends (cond b (t ∷ tasks_of_part n k ts) (tasks_of_part n k ts)) ≡ cond b (ends_of t ∷ ends_of_part n k (all_ends ts))
        (ends_of_part n k (all_ends ts))
    by true e = ap (λ es. ends_of t ∷ es) e
    by false e = e

single_cons : (t : Task) (xs : List Task) → ((j : ℕ) (d : Task) → j < length xs → t.op ≡ (get_or xs j d).op → ⊥) → AreSingle xs → AreSingle (t ∷ xs)
single_cons t xs a s zero zero d li lk e = refl
single_cons t xs a s zero (suc k) d li lk e = absurd (a k d (omega (arith, lk)) e)
single_cons t xs a s (suc i) zero d li lk e = absurd (a i d (omega (arith, li)) (sym e))
single_cons t xs a s (suc i) (suc k) d li lk e = ap suc (s i k d (omega (arith, li)) (omega (arith, lk)) e)

-- no two of them are of one operator
pub part_single : (f : Task → Bool) (ts : List Task) → AreSingle ts → AreSingle (filter f ts)
part_single f [] s = s
part_single f (t ∷ ts) s = by (f t)
    (part_single f ts (λ i k d li lk e. let q = s (suc i) (suc k) d (omega (arith, li)) (omega (arith, lk)) e in omega (arith, q)))
  where
    apart : (j : ℕ) (d : Task) → j < length (filter f ts) → t.op ≡ (get_or (filter f ts) j d).op → ⊥
    apart j d lt e =
        let r = filter_stood f ts j d lt in
        let b = r.below in
        let q = s 0 (suc r.place) d (omega arith) (omega (arith, b)) (e ∙ ap (λ (x : Task). x.op) (sym (r.same d))) in
        omega (arith, q)

    by : (b : Bool) → AreSingle (filter f ts) → AreSingle (cond b (t ∷ filter f ts) (filter f ts))
    by true r = single_cons t (filter f ts) apart r
    by false r = r

-- HOW MANY ITEMS THEY TOOK AND SENT

-- the sum of c numbers from number m on
abbrev sum_up : ℕ → ℕ → (ℕ → ℕ) → ℕ
sum_up m zero f = 0
sum_up m (suc c) f = f m + sum_up (suc m) c f

sum_none : (m c : ℕ) (f : ℕ → ℕ) → ((k : ℕ) → m ≤ k → f k ≡ 0) → sum_up m c f ≡ 0
sum_none m zero f h = refl
sum_none m (suc c) f h = let a = h m (omega arith) in let b = sum_none (suc m) c f (λ k le. h k (omega (arith, le))) in omega (arith, a, b)

sum_same : (m c : ℕ) (f g : ℕ → ℕ) → ((k : ℕ) → m ≤ k → f k ≡ g k) → sum_up m c f ≡ sum_up m c g
sum_same m zero f g h = refl
sum_same m (suc c) f g h = let a = h m (omega arith) in let b = sum_same (suc m) c f g (λ k le. h k (omega (arith, le))) in omega (arith, a, b)

-- a number more in one place
sum_one : (m c x a : ℕ) (f g : ℕ → ℕ) → m ≤ x → x < m + c → f x ≡ a + g x → ((k : ℕ) → (x ≡ k → ⊥) → f k ≡ g k) → sum_up m c f ≡ a + sum_up m c g
sum_one m zero x a f g le lt e h = absurd (omega (arith, le, lt))
sum_one m (suc c) x a f g le lt e h = ⊎_elim
    (λ q.
    let here : f m ≡ a + g m = subst (λ y. f y ≡ a + g y) (sym q) e in
    let rest = sum_same (suc m) c f g (λ k l. h k (λ z. omega (arith, l, z, q))) in
    omega (arith, here, rest))
    (λ ne.
    let here = h m (λ z. ne (sym z)) in
    let rest = sum_one (suc m) c x a f g (omega (arith, le, ne)) (omega (arith, lt)) e h in
    omega (arith, here, rest))
    (cases_eq m x)

-- the parts together are all
pub part_moves : (n : ℕ) (ts : List Task) → 0 < n → sum_up 0 n (λ k. all_moves (tasks_of_part n k ts)) ≡ all_moves ts
part_moves n [] lt = sum_none 0 n (λ k. 0) (λ k le. refl)
part_moves n (t ∷ ts) lt =
    let x = t.op % n in
    let b = mod_below t.op n lt in
    let one = sum_one 0 n x (moves t) (λ k. all_moves (tasks_of_part n k (t ∷ ts))) (λ k. all_moves (tasks_of_part n k ts)) (omega arith) (omega (arith, b))
    (ap (λ c. all_moves (cond c (t ∷ tasks_of_part n x ts) (tasks_of_part n x ts))) (eq-eqb x x refl))
    (λ k ne. ap (λ c. all_moves (cond c (t ∷ tasks_of_part n k ts) (tasks_of_part n k ts))) (ne_eqb x k ne)) in
    let rest = part_moves n ts lt in
    omega (arith, one, rest)

moves_up : (bs : List Bundle) (m : ℕ) (f : ℕ → ℕ) → ((k : ℕ) (d : Bundle) → k < length bs → all_moves (get_or bs k d).tasks ≡ f (m + k))
    → bundle_moves bs ≡ sum_up m (length bs) f
moves_up [] m f h = refl
moves_up (b ∷ bs) m f h =
    let z : m + 0 ≡ m = omega arith in
    let here : all_moves b.tasks ≡ f m = h 0 b (omega arith) ∙ ap f z in
    let rest = moves_up bs (suc m) f (λ k d lt. let y : m + suc k ≡ suc m + k = omega arith in h (suc k) d (omega (arith, lt)) ∙ ap f y) in
    omega (arith, here, rest)

-- bundles that have the tasks of all parts took and sent what all tasks did
pub moves_of_parts : (n : ℕ) (ts : List Task) (bs : List Bundle) → 0 < n → length bs ≡ n
    → ((k : ℕ) (d : Bundle) → k < length bs → all_moves (get_or bs k d).tasks ≡ all_moves (tasks_of_part n k ts)) → bundle_moves bs ≡ all_moves ts
moves_of_parts n ts bs lt l h =
    moves_up bs 0 (λ k. all_moves (tasks_of_part n k ts)) (λ k d le. let z : k ≡ 0 + k = omega arith in h k d le ∙ ap (λ x. all_moves (tasks_of_part n x ts)) z)
    ∙ ap (λ c. sum_up 0 c (λ k. all_moves (tasks_of_part n k ts))) l ∙ part_moves n ts lt
