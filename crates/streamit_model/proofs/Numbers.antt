-- Numbered names: a name says its number, so that names with different numbers differ.
use Rattle.std.proofs.Common.{◌≡◌, ℕ, zero, suc, ◌+◌, ◌-◌, ◌*◌, ◌%◌, ◌^◌, ◌<◌, ◌≤◌, true, false, List, [], ◌∷◌, ◌++◌, refl, sym, ap, ◌∙◌, arith}
use Rattle.std.proofs.Common.{nat_eq, ⊎_elim}
use Rattle.std.specs.Prelude.{codes, if◌then◌else◌}
use Rattle.std.specs.Fmt.{decimal}
use Rattle.std.proofs.lemmas.Bool.{cases_eq}
use Rattle.std.proofs.lemmas.Fmt.{decimal_by_steps}
use Rattle.std.proofs.lemmas.Nat.{div-add-mod', mod_below}
use Rattle.river_base.proofs.PlaceLemmas.{if_eq, if_ne}
use Rattle.river_base.specs.Name.{name_eq}
use Rattle.river_plan.specs.Forms.{Name}
use Rattle.river_plan.specs.Names.{one_if, count}
use Rattle.river_plan.proofs.NameLemmas.{cases_name, one_small}
use Rattle.streamit_model.specs.Plan.{numbered, queue, queues}
use Rattle.streamit_model.specs.Meaning.{numbers_from}

-- the number that stands behind the last `@`; n is the number so far
abbrev said : ℕ → List ℕ → ℕ
said n [] = n
said n (c ∷ cs) = if nat_eq c 64 then said 0 cs else said (n * 10 + (c - 48)) cs

-- the number behind the last `@` of a name
abbrev pub number_in : List ℕ → ℕ
number_in text = said 0 text

said_at : (n : ℕ) (name ds : List ℕ) → said n (name ++ 64 ∷ ds) ≡ said 0 ds
said_at n [] ds = refl
said_at n (c ∷ cs) ds = ⊎_elim
    (λ e. if_eq c 64 _ _ e ∙ said_at 0 cs ds)
    (λ ne. if_ne c 64 _ _ ne ∙ said_at (n * 10 + (c - 48)) cs ds)
    (cases_eq c 64)

said_digit : (n d : ℕ) → d < 10 → said n ((48 + d) ∷ []) ≡ n * 10 + d
said_digit n d lt = if_ne (48 + d) 64 0 (n * 10 + (48 + d - 48)) (λ e. omega (arith, e, lt)) ∙ (let e : n * 10 + (48 + d - 48) ≡ n * 10 + d = omega arith in e)

said_last : (n d : ℕ) (xs : List ℕ) → d < 10 → said n (xs ++ (48 + d) ∷ []) ≡ said n xs * 10 + d
said_last n d [] lt = said_digit n d lt
said_last n d (c ∷ cs) lt = ⊎_elim
    (λ e. if_eq c 64 _ _ e ∙ said_last 0 d cs lt ∙ ap (λ j. j * 10 + d) (sym (if_eq c 64 (said 0 cs) _ e)))
    (λ ne. if_ne c 64 _ _ ne ∙ said_last (n * 10 + (c - 48)) d cs lt ∙ ap (λ j. j * 10 + d) (sym (if_ne c 64 _ (said (n * 10 + (c - 48)) cs) ne)))
    (cases_eq c 64)

said_decimal : (n : ℕ) → n < 2 ^ 64 → said 0 (decimal n) ≡ n
said_decimal n lt = decimal_by_steps (λ k ds. said 0 ds ≡ k)
    (λ k small. said_digit 0 k small ∙ (let e : 0 * 10 + k ≡ k = omega arith in e))
    (λ k ds le e.
    let m = mod_below k 10 (omega arith) in
    said_last 0 (k % 10) ds m ∙ ap (λ j. j * 10 + k % 10) e ∙ div-add-mod' k 10)
    n lt

pub number_is : (name : Name) (k : ℕ) → k < 2 ^ 64 → number_in (numbered name k) ≡ k
number_is name k lt = said_at 0 name (decimal k) ∙ said_decimal k lt

-- SUMS OVER NUMBERS

-- a sum over numbers
abbrev pub sum_from : (ℕ → ℕ) → ℕ → ℕ → ℕ
sum_from f k zero = 0
sum_from f k (suc n) = f k + sum_from f (suc k) n

-- a sum over numbers one behind the other, in two parts
pub sum_split : (f : ℕ → ℕ) (m n k : ℕ) → sum_from f k (m + n) ≡ sum_from f k m + sum_from f (k + m) n
sum_split f zero n k =
    ap (sum_from f k) (let e : 0 + n ≡ n = omega arith in e)
    ∙ ap (λ j. sum_from f j n) (let e : k ≡ k + 0 = omega arith in e)
    ∙ (let e : sum_from f (k + 0) n ≡ 0 + sum_from f (k + 0) n = omega arith in e)
sum_split f (suc m) n k =
    let i = sum_split f m n (suc k) in
    ap (sum_from f k) (let e : suc m + n ≡ suc (m + n) = omega arith in e)
    ∙ ap (λ s. f k + s) i
    ∙ ap (λ j. f k + (sum_from f (suc k) m + sum_from f j n)) (let e : suc k + m ≡ k + suc m = omega arith in e)
    ∙ (let e : f k + (sum_from f (suc k) m + sum_from f (k + suc m) n) ≡ f k + sum_from f (suc k) m + sum_from f (k + suc m) n = omega arith in e)

pub sum_le : (f g : ℕ → ℕ) (n k : ℕ) → ((j : ℕ) → j < k + n → f j ≤ g j) → sum_from f k n ≤ sum_from g k n
sum_le f g zero k h = omega arith
sum_le f g (suc n) k h =
    let a = h k (omega arith) in
    let b = sum_le f g n (suc k) (λ j lt. h j (omega (arith, lt))) in
    omega (arith, a, b)

-- the number r is met at most once
abbrev pub meets : ℕ → ℕ → ℕ
meets r j = one_if (nat_eq j r)

meets_never : (r n k : ℕ) → r < k → sum_from (meets r) k n ≡ 0
meets_never r zero k lt = refl
meets_never r (suc n) k lt =
    let i = meets_never r n (suc k) (omega (arith, lt)) in
    let e : nat_eq k r ≡ false = grind arith in
    let o = ap one_if e in omega (arith, i, o)

-- of numbers one behind the other, one at most is this one
pub meets_once : (r n k : ℕ) → sum_from (meets r) k n ≤ 1
meets_once r zero k = omega arith
meets_once r (suc n) k = ⊎_elim
    (λ e. let i = meets_never r n (suc k) (omega (arith, e)) in let o = one_small (nat_eq k r) in omega (arith, i, o))
    (λ ne. let i = meets_once r n (suc k) in let e : nat_eq k r ≡ false = grind (arith, ne) in let o = ap one_if e in omega (arith, i, o))
    (cases_eq k r)

-- a numbered name is another at most where the other says its number
pub named_le : (name x : Name) (k : ℕ) → k < 2 ^ 64 → one_if (name_eq (numbered name k) x) ≤ meets (number_in x) k
named_le name x k lt = ⊎_elim
    (λ c.
    let n : k ≡ number_in x = sym (number_is name k lt) ∙ ap number_in c.0 in
    let e : nat_eq k (number_in x) ≡ true = grind (arith, n) in
    let o = ap one_if e in let s = one_small (name_eq (numbered name k) x) in omega (arith, o, s))
    (λ c. let o = ap one_if c.1 in omega (arith, o))
    (cases_name (numbered name k) x)

-- how often a name stands among numbered queues
pub queue_count : (x : Name) (n k : ℕ) → count x (queues k n) ≡ sum_from (λ j. one_if (name_eq (queue j) x)) k n
queue_count x zero k = refl
queue_count x (suc n) k = ap (λ s. one_if (name_eq (queue k) x) + s) (queue_count x n (suc k))

-- numbered queues have names of their own
pub queues_once : (x : Name) (n k : ℕ) → k + n ≤ 2 ^ 64 → count x (queues k n) ≤ 1
queues_once x n k le =
    let a = queue_count x n k in
    let b = sum_le (λ j. one_if (name_eq (queue j) x)) (meets (number_in x)) n k (λ j lt. named_le (codes "q") x j (omega (arith, lt, le))) in
    let c = meets_once (number_in x) n k in
    omega (arith, a, b, c)

-- the numbers from v to an end above it: v, and those behind it
pub numbers_more : (v end : ℕ) → v < end → numbers_from v (end - v) ≡ v ∷ numbers_from (v + 1) (end - (v + 1))
numbers_more v end lt =
    ap (numbers_from v) (let e : end - v ≡ suc (end - (v + 1)) = omega (arith, lt) in e)
    ∙ ap (λ k. v ∷ numbers_from k (end - (v + 1))) (let e : suc v ≡ v + 1 = omega arith in e)
