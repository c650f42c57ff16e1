-- Lists by place that grow, each by what a function gives for its place.
use Rattle.std.proofs.Common.{◌≡◌, ◌≢◌, ℕ, zero, suc, ◌+◌, ◌<◌, ◌≤◌, List, [], ◌∷◌, ◌++◌, length, refl, sym, ap, ◌∙◌, arith, get_or, append_assoc, nat_lt}
use Rattle.std.proofs.Common.{⊎_elim, replicate, Bool, true, false, nat_eq}
use Rattle.std.specs.Prelude.{if◌then◌else◌, nat_le, Result, Ok, Err, OnErr}
use Rattle.std.proofs.Math.ListN.{set}
use Rattle.std.proofs.lemmas.List.{append-nil}
use Rattle.std.proofs.lemmas.Bool.{cases_lt}
use Rattle.river_base.specs.Places.{append_at, list_at, each_grew, only, none, upto}

pub append_at_set : {A : Type 0} (ls : List (List A)) (n : ℕ) (d : List A) (xs : List A) → n < length ls → set ls n (get_or ls n d ++ xs) ≡ append_at ls n xs
append_at_set [] n d xs h = refl
append_at_set (l ∷ ls) zero d xs h = refl
append_at_set (l ∷ ls) (suc n) d xs h = ap (λ t. l ∷ t) (append_at_set ls n d xs (omega arith))

-- a list at one place grew
pub append_at_by : {A : Type 0} (ls now : List (List A)) (n : ℕ) (old xs new : List A) → ls ≡ now → n < length now → old ≡ get_or ls n old → new ≡ old ++ xs
    → set ls n new ≡ append_at now n xs
append_at_by ls now n old xs new v h o e =
    let h' : n < length ls = rw v h in
    ap (λ t. set ls n t) (e ∙ ap (λ t. t ++ xs) o) ∙ append_at_set ls n old xs h' ∙ ap (λ t. append_at t n xs) v

-- what holds anyhow holds where there is an error
pub on_err : {T E P : Type 0} (r : Result T E) → P → OnErr r P
on_err (Ok x) h = tt
on_err (Err e) h = h

set_same : {A : Type 0} (ls : List (List A)) (n : ℕ) (d : List A) → n < length ls → set ls n (get_or ls n d) ≡ ls
set_same [] n d h = refl
set_same (l ∷ ls) zero d h = refl
set_same (l ∷ ls) (suc n) d h = ap (λ t. l ∷ t) (set_same ls n d (omega arith))

-- a list at one place stayed
pub same_at_by : {A : Type 0} (ls now : List (List A)) (n : ℕ) (old new : List A) → ls ≡ now → n < length now → old ≡ get_or ls n old → new ≡ old
    → set ls n new ≡ now
same_at_by ls now n old new v h o e =
    let h' : n < length ls = rw v h in ap (set ls n) (e ∙ o) ∙ set_same ls n old h' ∙ v

-- the number of lists stays
pub length-append_at : {A : Type 0} (ls : List (List A)) (p : ℕ) (xs : List A) → length (append_at ls p xs) ≡ length ls
length-append_at [] p xs = refl
length-append_at (l ∷ ls) zero xs = refl
length-append_at (l ∷ ls) (suc p) xs = ap suc (length-append_at ls p xs)

-- lists grow alike by equal lists
pub each_grew_cong : {A : Type 0} (ls : List (List A)) (f g : ℕ → List A) → ((p : ℕ) → p < length ls → f p ≡ g p) → each_grew ls f ≡ each_grew ls g
each_grew_cong [] f g h = refl
each_grew_cong (l ∷ ls) f g h =
    ap (λ t. (l ++ t) ∷ each_grew ls (λ p. f (suc p))) (h 0 (omega arith))
    ∙ ap (λ t. (l ++ g 0) ∷ t) (each_grew_cong ls (λ p. f (suc p)) (λ p. g (suc p)) (λ p lt. h (suc p) (omega arith)))

-- lists that grow by nothing stay
pub each_grew-none : {A : Type 0} (ls : List (List A)) → each_grew ls none ≡ ls
each_grew-none [] = refl
each_grew-none (l ∷ ls) = ap (λ t. t ∷ each_grew ls none) (append-nil l) ∙ ap (λ t. l ∷ t) (each_grew-none ls)

-- lists of which one grows
pub each_grew-only : {A : Type 0} (ls : List (List A)) (n : ℕ) (xs : List A) → each_grew ls (only n xs) ≡ append_at ls n xs
each_grew-only [] n xs = refl
each_grew-only (l ∷ ls) zero xs = ap (λ t. (l ++ xs) ∷ t) (each_grew-none ls)
each_grew-only (l ∷ ls) (suc n) xs =
    ap (λ t. t ∷ each_grew ls (only n xs)) (append-nil l) ∙ ap (λ t. l ∷ t) (each_grew-only ls n xs)

-- lists that grow twice
pub each_grew-each_grew : {A : Type 0} (ls : List (List A)) (f g : ℕ → List A) → each_grew (each_grew ls f) g ≡ each_grew ls (λ p. f p ++ g p)
each_grew-each_grew [] f g = refl
each_grew-each_grew (l ∷ ls) f g =
    ap (λ t. t ∷ each_grew (each_grew ls (λ p. f (suc p))) (λ p. g (suc p))) (append_assoc l (f 0) (g 0))
    ∙ ap (λ t. (l ++ (f 0 ++ g 0)) ∷ t) (each_grew-each_grew ls (λ p. f (suc p)) (λ p. g (suc p)))

-- the number of lists stays where each grows
pub length-each_grew : {A : Type 0} (ls : List (List A)) (f : ℕ → List A) → length (each_grew ls f) ≡ length ls
length-each_grew [] f = refl
length-each_grew (l ∷ ls) f = ap suc (length-each_grew ls (λ p. f (suc p)))

-- a list that grew
pub get_or-each_grew : {A : Type 0} (ls : List (List A)) (f : ℕ → List A) (n : ℕ) (d : List A) → n < length ls
    → get_or (each_grew ls f) n d ≡ get_or ls n d ++ f n
get_or-each_grew [] f n d h = absurd (omega arith)
get_or-each_grew (l ∷ ls) f zero d h = refl
get_or-each_grew (l ∷ ls) f (suc n) d h = get_or-each_grew ls (λ p. f (suc p)) n d (omega arith)

-- at its own place the list
pub only_same : {A : Type 0} (n : ℕ) (xs : List A) → only n xs n ≡ xs
only_same zero xs = refl
only_same (suc n) xs = only_same n xs

-- at other places nothing
pub only_other : {A : Type 0} (n q : ℕ) (xs : List A) → q ≢ n → only n xs q ≡ []
only_other zero zero xs h = absurd (h refl)
only_other zero (suc q) xs h = refl
only_other (suc n) zero xs h = refl
only_other (suc n) (suc q) xs h = only_other n q xs (λ e. h (ap suc e))

-- one more list grows
pub append_at-each_grew : {A : Type 0} (ls : List (List A)) (f : ℕ → List A) (n : ℕ) (xs : List A)
    → append_at (each_grew ls f) n xs ≡ each_grew ls (λ p. f p ++ only n xs p)
append_at-each_grew ls f n xs = sym (each_grew-only (each_grew ls f) n xs) ∙ each_grew-each_grew ls f (only n xs)

-- an `if` that asks for less, where it is
pub if_lt : {A : Type 0} (a b : ℕ) (x y : A) → a < b → (if nat_lt a b then x else y) ≡ x
if_lt a b x y h = grind arith

-- an `if` that asks for less, where it is not
pub if_ge : {A : Type 0} (a b : ℕ) (x y : A) → b ≤ a → (if nat_lt a b then x else y) ≡ y
if_ge a b x y h = grind arith

upto_more : {A : Type 0} (n : ℕ) (f : ℕ → List A) (q : ℕ) → upto n f q ++ only n (f n) q ≡ upto (n + 1) f q
upto_more n f q = ⊎_elim
    (λ lt. ap (λ t. t ++ only n (f n) q) (if_lt q n (f q) [] lt) ∙ ap (λ t. f q ++ t) (only_other n q (f n) (omega arith)) ∙ append-nil (f q)
    ∙ sym (if_lt q (n + 1) (f q) [] (omega arith)))
    (λ ge. ap (λ t. t ++ only n (f n) q) (if_ge q n (f q) [] ge) ∙ ⊎_elim
    (λ eq. let e : q ≡ n = omega arith in ap (only n (f n)) e ∙ only_same n (f n) ∙ ap f (sym e) ∙ sym (if_lt q (n + 1) (f q) [] (omega arith)))
    (λ gt. only_other n q (f n) (omega arith) ∙ sym (if_ge q (n + 1) (f q) [] gt))
    (cases_lt q (n + 1)))
    (cases_lt q n)

-- one list more grew
pub append_at-upto : {A : Type 0} (ls : List (List A)) (f : ℕ → List A) (n : ℕ) → append_at (each_grew ls (upto n f)) n (f n) ≡ each_grew ls (upto (n + 1) f)
append_at-upto ls f n =
    append_at-each_grew ls (upto n f) n (f n) ∙ each_grew_cong ls (λ p. upto n f p ++ only n (f n) p) (upto (n + 1) f) (λ p h. upto_more n f p)

-- before the first list nothing grew
pub each_grew-upto_none : {A : Type 0} (ls : List (List A)) (f : ℕ → List A) → each_grew ls (upto 0 f) ≡ ls
each_grew-upto_none ls f = each_grew_cong ls (upto 0 f) none (λ p h. if_ge p 0 (f p) [] (omega arith)) ∙ each_grew-none ls

-- after the last list all grew
pub each_grew-upto_all : {A : Type 0} (ls : List (List A)) (f : ℕ → List A) (n : ℕ) → length ls ≤ n → each_grew ls (upto n f) ≡ each_grew ls f
each_grew-upto_all ls f n e = each_grew_cong ls (upto n f) f (λ p h. if_lt p n (f p) [] (omega arith))

-- a step of a loop that lets each list grow
pub upto_step : {A : Type 0} (start now new : List (List A)) (f : ℕ → List A) (n : ℕ) (xs : List A) → now ≡ each_grew start (upto n f) → xs ≡ f n
    → new ≡ append_at now n xs → new ≡ each_grew start (upto (n + 1) f)
upto_step start now new f n xs e x a = a ∙ ap (λ t. append_at t n xs) e ∙ ap (λ t. append_at (each_grew start (upto n f)) n t) x ∙ append_at-upto start f n

-- the number of lists stays on the way
pub upto_length : {A : Type 0} (start now : List (List A)) (f : ℕ → List A) (n : ℕ) → now ≡ each_grew start (upto n f) → length now ≡ length start
upto_length start now f n e = ap length e ∙ length-each_grew start (upto n f)

-- empty lists that grow
pub each_grew-blanks : {A : Type 0} (n : ℕ) (f : ℕ → List A) (p : ℕ) (d : List A) → p < n → get_or (each_grew (replicate n []) f) p d ≡ f p
each_grew-blanks zero f p d h = absurd (omega arith)
each_grew-blanks (suc n) f zero d h = refl
each_grew-blanks (suc n) f (suc p) d h = each_grew-blanks n (λ q. f (suc q)) p d (omega arith)

-- an `if` whose test is known
pub if_true : {A : Type 0} (b : Bool) (x y : A) → b ≡ true → (if b then x else y) ≡ x
if_true b x y h = ap (λ c. if c then x else y) h

-- a choice by what does not hold
pub if_false : {A : Type 0} (b : Bool) (x y : A) → b ≡ false → (if b then x else y) ≡ y
if_false b x y h = ap (λ c. if c then x else y) h

-- one that asks for equality
pub if_eq : {A : Type 0} (a b : ℕ) (x y : A) → a ≡ b → (if nat_eq a b then x else y) ≡ x
if_eq a b x y h = grind arith

-- a choice by `the same` where it is not
pub if_ne : {A : Type 0} (a b : ℕ) (x y : A) → a ≢ b → (if nat_eq a b then x else y) ≡ y
if_ne a b x y h = grind arith

-- one that asks for at most
pub if_le : {A : Type 0} (a b : ℕ) (x y : A) → a ≤ b → (if nat_le a b then x else y) ≡ x
if_le a b x y h = grind arith

-- a choice by `at most` where it is more
pub if_gt : {A : Type 0} (a b : ℕ) (x y : A) → b < a → (if nat_le a b then x else y) ≡ y
if_gt a b x y h = grind arith

-- no list stands behind the last
pub list_past : {A : Type 0} (ls : List (List A)) (i : ℕ) → length ls ≤ i → list_at ls i ≡ []
list_past [] i le = refl
list_past (l ∷ ls) zero le = absurd (omega (arith, le))
list_past (l ∷ ls) (suc i) le = list_past ls i (omega (arith, le))

-- what is appended at a port stands there, and nowhere else
pub append_here : {A : Type 0} (ls : List (List A)) (n : ℕ) (xs : List A) → n < length ls → list_at (append_at ls n xs) n ≡ list_at ls n ++ xs
append_here [] n xs lt = absurd (omega (arith, lt))
append_here (l ∷ ls) zero xs lt = refl
append_here (l ∷ ls) (suc n) xs lt = append_here ls n xs (omega (arith, lt))

-- what is appended at one place leaves the others
pub append_else : {A : Type 0} (ls : List (List A)) (n i : ℕ) (xs : List A) → n ≢ i → list_at (append_at ls n xs) i ≡ list_at ls i
append_else [] n i xs ne = refl
append_else (l ∷ ls) zero zero xs ne = absurd (ne refl)
append_else (l ∷ ls) zero (suc i) xs ne = refl
append_else (l ∷ ls) (suc n) zero xs ne = refl
append_else (l ∷ ls) (suc n) (suc i) xs ne = append_else ls n i xs (λ e. ne (ap suc e))

-- at first nothing stands at a port
pub blank_at : {A : Type 0} (n i : ℕ) → list_at {A = A} (replicate n []) i ≡ []
blank_at zero i = refl
blank_at (suc n) zero = refl
blank_at (suc n) (suc i) = blank_at n i
