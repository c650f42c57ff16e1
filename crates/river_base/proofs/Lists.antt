-- Lists by the places of their elements, and by their fronts.
use Rattle.std.proofs.Common.{◌≡◌, ℕ, suc, zero, ◌+◌, ◌<◌, ◌≤◌, Bool, Some, List, [], ◌∷◌, ◌++◌, length, take, drop, map, get_or, true, refl, sym, ap, ◌∙◌, subst}
use Rattle.std.proofs.Common.{arith, if◌then◌else◌}
use Rattle.std.specs.Prelude.{All, fold, reverse}
use Rattle.std.specs.List.{slice_get, count_by, list_all}
use Rattle.std.proofs.lemmas.Option.{same_Some}
use Rattle.std.proofs.lemmas.Bool.{and_parts}
use Rattle.std.proofs.lemmas.List.{take_more, drop_more, take_all, drop_all, append-nil, map-append, length-take-le, reverse-append}
use Rattle.std.proofs.lemmas.List.Elements.{All-head, All-tail}
use Rattle.std.proofs.lemmas.List.Sums.{sum_by-append}
use Rattle.std.proofs.Math.Seq.{take-append_seam}

-- AT A PLACE

-- the first elements with one more, and the others without it
pub take_next : {A : Type 0} (xs : List A) (i : ℕ) (x : A) → i < length xs → x ≡ get_or xs i x → take (i + 1) xs ≡ take i xs ++ x ∷ []
take_next xs i x lt e = take_more xs i x lt ∙ ap (λ y. take i xs ++ y ∷ []) (sym e)

-- what is left begins with the next element
pub drop_next : {A : Type 0} (xs : List A) (i : ℕ) (x : A) → i < length xs → x ≡ get_or xs i x → drop i xs ≡ x ∷ drop (i + 1) xs
drop_next xs i x lt e = drop_more xs i x lt ∙ ap (λ y. y ∷ drop (i + 1) xs) (sym e)

-- and so do the images of what is left
pub map_next : {X Y : Type 0} (f : X → Y) (xs : List X) (i : ℕ) (x : X) → i < length xs → x ≡ get_or xs i x
    → map f (drop i xs) ≡ f x ∷ map f (drop (i + 1) xs)
map_next f xs i x lt e = ap (map f) (drop_next xs i x lt e)

-- behind the last place there is none
pub map_none : {X Y : Type 0} (f : X → Y) (xs : List X) (i : ℕ) → length xs ≤ i → map f (drop i xs) ≡ []
map_none f xs i h = ap (map f) (drop_all i xs h)

-- something is there below the length
pub there_is : {A : Type 0} (xs : List A) (i : ℕ) → i < length xs → (x : A) × (slice_get xs i ≡ Some x)
there_is [] i lt = absurd (omega (arith, lt))
there_is (x ∷ xs) zero lt = (x, refl)
there_is (x ∷ xs) (suc i) lt = there_is xs i (omega (arith, lt))

-- what is put behind a list stands at its length
pub got_last : {A : Type 0} (xs : List A) (x : A) → slice_get (xs ++ x ∷ []) (length xs) ≡ Some x
got_last [] x = refl
got_last (a ∷ xs) x = got_last xs x

-- it stands there too where more is put behind
pub got_first : {A : Type 0} (xs ys : List A) (i : ℕ) (x : A) → slice_get xs i ≡ Some x → slice_get (xs ++ ys) i ≡ Some x
got_first [] ys i x g = absurd (cc g)
got_first (y ∷ xs) ys zero x g = g
got_first (y ∷ xs) ys (suc i) x g = got_first xs ys i x g

-- a place in the first of two lists has what the first has there
pub got_append : {A : Type 0} (xs ys : List A) (i : ℕ) → i < length xs → slice_get (xs ++ ys) i ≡ slice_get xs i
got_append [] ys i lt = absurd (omega (arith, lt))
got_append (x ∷ xs) ys zero lt = refl
got_append (x ∷ xs) ys (suc i) lt = got_append xs ys i (omega (arith, lt))

-- and what is behind stands behind
pub got_past : {A : Type 0} (xs ys : List A) (i : ℕ) → slice_get (xs ++ ys) (length xs + i) ≡ slice_get ys i
got_past [] ys i = let e : 0 + i ≡ i = omega arith in ap (slice_get ys) e
got_past (x ∷ xs) ys i = let e : length (x ∷ xs) + i ≡ suc (length xs + i) = omega arith in ap (slice_get (x ∷ (xs ++ ys))) e ∙ got_past xs ys i

-- the place behind the first list has what comes next
pub got_mid : {A : Type 0} (xs : List A) (y : A) (ys : List A) → slice_get (xs ++ y ∷ ys) (length xs) ≡ Some y
got_mid [] y ys = refl
got_mid (x ∷ xs) y ys = got_mid xs y ys

-- an image stands at the place of what it is of
pub got_map : {A B : Type 0} (f : A → B) (xs : List A) (i : ℕ) (x : A) → slice_get xs i ≡ Some x → slice_get (map f xs) i ≡ Some (f x)
got_map f [] i x h = absurd (cc h)
got_map f (y ∷ ys) zero x h = let e : y ≡ x = cc in ap (λ z. Some (f z)) e
got_map f (y ∷ ys) (suc i) x h = got_map f ys i x h

-- the first of what is left of a list stands at the place, and the others are left behind it
pub got_drop : {A : Type 0} (xs : List A) (i : ℕ) (x : A) (rest : List A) → drop i xs ≡ x ∷ rest → slice_get xs i ≡ Some x
got_drop [] zero x rest e = absurd (cc e)
got_drop [] (suc i) x rest e = absurd (cc e)
got_drop (y ∷ xs) zero x rest e = let h : y ≡ x = cc in ap Some h
got_drop (y ∷ xs) (suc i) x rest e = got_drop xs i x rest e

-- what is behind the first of what is left
pub dropped_one : {A : Type 0} (xs : List A) (i : ℕ) (x : A) (rest : List A) → drop i xs ≡ x ∷ rest → drop (i + 1) xs ≡ rest
dropped_one [] zero x rest e = absurd (cc e)
dropped_one [] (suc i) x rest e = absurd (cc e)
dropped_one (y ∷ xs) zero x rest e = cc
dropped_one (y ∷ xs) (suc i) x rest e =
    let h : suc i + 1 ≡ suc (i + 1) = omega arith in ap (λ k. drop k (y ∷ xs)) h ∙ dropped_one xs i x rest e

-- what is said of all elements of a list is said of each
pub got_all : {A : Type 0} (P : A → Type 0) (xs : List A) (i : ℕ) (x : A) → All P xs → slice_get xs i ≡ Some x → P x
got_all P [] i x a g = absurd (cc g)
got_all P (y ∷ ys) zero x a g = subst P (same_Some y x g) (All-head P y ys a)
got_all P (y ∷ ys) (suc i) x a g = got_all P ys i x (All-tail P y ys a) g

-- what all pass, each passes
pub each_passes : {A : Type 0} (t : A → Bool) (xs : List A) (i : ℕ) (x : A) → list_all t xs ≡ true → slice_get xs i ≡ Some x → t x ≡ true
each_passes t [] i x h e = absurd (cc e)
each_passes t (y ∷ ys) zero x h e = let d : y ≡ x = cc e in ap t (sym d) ∙ (and_parts (t y) (list_all t ys) h).0
each_passes t (y ∷ ys) (suc i) x h e = each_passes t ys i x (and_parts (t y) (list_all t ys) h).1 e

-- equal lists have equal heads and tails
pub head_same : {A : Type 0} (x y : A) (xs ys : List A) → x ∷ xs ≡ y ∷ ys → x ≡ y
head_same x y xs ys e = cc e

-- lists that are the same have the same tails
pub tail_same : {A : Type 0} (x y : A) (xs ys : List A) → x ∷ xs ≡ y ∷ ys → xs ≡ ys
tail_same x y xs ys e = cc e

-- lists of one element are the same where the elements are
pub alone_same : {A : Type 0} (x y : A) → x ∷ [] ≡ y ∷ [] → x ≡ y
alone_same x y e = cc e

-- images of what is left
pub drop-map : {A B : Type 0} (f : A → B) (n : ℕ) (xs : List A) → map f (drop n xs) ≡ drop n (map f xs)
drop-map f zero xs = refl
drop-map f (suc n) [] = refl
drop-map f (suc n) (x ∷ xs) = drop-map f n xs

-- a fold over one element more
pub fold-push : {A B : Type 0} (f : B → A → B) (a : B) (xs : List A) (x : A) → fold f a (xs ++ x ∷ []) ≡ f (fold f a xs) x
fold-push f a [] x = refl
fold-push f a (y ∷ ys) x = fold-push f (f a y) ys x

-- a list the other way round, with one element more
pub reverse-push : {A : Type 0} (xs : List A) (x : A) → reverse (xs ++ x ∷ []) ≡ x ∷ reverse xs
reverse-push xs x = reverse-append xs (x ∷ [])

-- in reverse the first comes last
pub reverse-cons : {A : Type 0} (x : A) (xs : List A) → reverse (x ∷ xs) ≡ reverse xs ++ x ∷ []
reverse-cons x xs = reverse-append (x ∷ []) xs

-- FRONTS

-- the images of a front with one element more
pub map_more : {A B : Type 0} (f : A → B) (xs : List A) (i : ℕ) (x : A) → i < length xs → x ≡ get_or xs i x
    → map f (take (i + 1) xs) ≡ map f (take i xs) ++ f x ∷ []
map_more f xs i x lt e = ap (map f) (take_next xs i x lt e) ∙ map-append f (take i xs) (x ∷ [])

-- how long a front is
pub take_length : {A : Type 0} (xs : List A) (i : ℕ) → i < length xs → length (take i xs) ≡ i
take_length xs i lt = length-take-le i xs (omega (arith, lt))

-- what is written back of a slice of as many elements is the slice
pub written_back : {A : Type 0} (new old : List A) (n : ℕ) → length new ≡ length old → n ≡ length old → take n (new ++ drop (length new) old) ≡ new
written_back new old n e m =
    ap (λ l. take n (new ++ l)) (drop_all (length new) old (omega (arith, e)))
    ∙ (ap (take n) (append-nil new) ∙ take_all n new (omega (arith, e, m)))

-- a front of a front
pub prefix_trans : {A : Type 0} (xs ys zs : List A) → take (length xs) ys ≡ xs → take (length ys) zs ≡ ys → take (length xs) zs ≡ xs
prefix_trans [] ys zs p q = refl
prefix_trans (x ∷ xs) [] zs p q = absurd (cc p)
prefix_trans (x ∷ xs) (y ∷ ys) [] p q = absurd (cc q)
prefix_trans (x ∷ xs) (y ∷ ys) (z ∷ zs) p q =
    let p0 : y ≡ x = cc in let p1 : take (length xs) ys ≡ xs = cc in
    let q0 : z ≡ y = cc in let q1 : take (length ys) zs ≡ ys = cc in
    ap (λ w. w ∷ take (length xs) zs) (q0 ∙ p0) ∙ ap (λ l. x ∷ l) (prefix_trans xs ys zs p1 q1)

-- a list that did not change keeps its front
pub kept_by : {A : Type 0} (xs ys : List A) → ys ≡ xs → take (length xs) ys ≡ xs
kept_by xs ys e = ap (take (length xs)) e ∙ take_all (length xs) xs (omega arith)

-- and so does one with one element more
pub front_kept : {A : Type 0} (xs ys zs : List A) (x : A) → zs ≡ ys ++ x ∷ [] → ys ≡ xs → take (length xs) zs ≡ xs
front_kept xs ys zs x e f = ap (take (length xs)) (e ∙ ap (λ l. l ++ x ∷ []) f) ∙ take-append_seam xs (x ∷ [])

-- COUNTS

-- how many of two lists pass a test
pub count_by-append : {A : Type 0} (test : A → Bool) (xs ys : List A) → count_by test (xs ++ ys) ≡ count_by test xs + count_by test ys
count_by-append test xs ys = sum_by-append (λ x. if test x then 1 else 0) xs ys
