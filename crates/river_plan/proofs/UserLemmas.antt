-- The lists in which places stand, one list and one place at a time.
use Rattle.std.proofs.Common.{◌≡◌, ℕ, suc, ◌+◌, ◌<◌, ◌≤◌, List, [], ◌∷◌, ◌++◌, length, take, get_or, replicate, sym, ap, ◌∙◌, subst, arith, append_assoc}
use Rattle.std.proofs.Common.{append-nil}
use Rattle.std.proofs.lemmas.List.{take_more, length-take-le, length-replicate}
use Rattle.river_base.specs.Places.{only, none, each_grew}
use Rattle.river_base.proofs.PlaceLemmas.{each_grew_cong, each_grew-none, each_grew-each_grew, each_grew-blanks, length-each_grew, only_other}
use Rattle.river_plan.specs.declared.wiring.Uses.{Uses}
use Rattle.river_plan.specs.Wired.{AreUses}
use Rattle.river_plan.specs.Places.{as_often, users_from, users}

-- a place beyond the lists changes none of them
pub nothing-beyond : (ls : List (List ℕ)) (p : ℕ) (xs : List ℕ) → length ls ≤ p → each_grew ls (only p xs) ≡ ls
nothing-beyond ls p xs le = each_grew_cong ls (only p xs) none (λ q lt. only_other p q xs (λ e. absurd (omega (arith, le, lt, e)))) ∙ each_grew-none ls

often-more : (xs : List ℕ) (x n i : ℕ) → as_often (xs ++ x ∷ []) n i ≡ as_often xs n i ++ only x (n ∷ []) i
often-more [] x n i = append-nil (only x (n ∷ []) i)
often-more (y ∷ ys) x n i =
    ap (λ l. only y (n ∷ []) i ++ l) (often-more ys x n i) ∙ sym (append_assoc (only y (n ∷ []) i) (as_often ys n i) (only x (n ∷ []) i))

users-more : (n : ℕ) (ls : List (List ℕ)) (l : List ℕ) (i : ℕ) → users_from n (ls ++ l ∷ []) i ≡ users_from n ls i ++ as_often l (n + length ls) i
users-more n [] l i = append-nil (as_often l n i) ∙ ap (λ k. as_often l k i) (let z : n ≡ n + 0 = omega arith in z)
users-more n (m ∷ ms) l i =
    ap (λ k. as_often m n i ++ k) (users-more (suc n) ms l i)
    ∙ ap (λ k. as_often m n i ++ (users_from (suc n) ms i ++ as_often l k i)) (let z : suc n + length ms ≡ n + suc (length ms) = omega arith in z)
    ∙ sym (append_assoc (as_often m n i) (users_from (suc n) ms i) (as_often l (n + suc (length ms)) i))

-- a loop that adds a number at places: its start, its step and its end
pub often-start : (ls : List (List ℕ)) (n : ℕ) → ls ≡ each_grew ls (as_often [] n)
often-start ls n = sym (each_grew-none ls)

-- one place more of an operator
pub often-next : (start now new : List (List ℕ)) (xs : List ℕ) (k x n : ℕ) → k < length xs → x ≡ get_or xs k x
    → now ≡ each_grew start (as_often (take k xs) n) → new ≡ each_grew now (only x (n ∷ [])) → new ≡ each_grew start (as_often (take (k + 1) xs) n)
often-next start now new xs k x n lt e h a =
    a ∙ ap (λ l. each_grew l (only x (n ∷ []))) h ∙ each_grew-each_grew start (as_often (take k xs) n) (only x (n ∷ []))
    ∙ each_grew_cong start (λ i. as_often (take k xs) n i ++ only x (n ∷ []) i) (as_often (take k xs ++ x ∷ []) n) (λ i _. sym (often-more (take k xs) x n i))
    ∙ ap (λ l. each_grew start (as_often l n)) (ap (λ y. take k xs ++ y ∷ []) e ∙ sym (take_more xs k x lt))

-- a loop over lists: its start, its step and its end
pub users-start : (m : ℕ) (all : List (List ℕ)) → all ≡ replicate m [] → all ≡ users m []
users-start m all e = e ∙ sym (each_grew-none (replicate m []))

-- one operator more
pub users-next : (m k : ℕ) (now new ls : List (List ℕ)) (l : List ℕ) → k < length ls → l ≡ get_or ls k l → now ≡ users m (take k ls)
    → new ≡ each_grew now (as_often l k) → new ≡ users m (take (k + 1) ls)
users-next m k now new ls l lt e h a =
    let len : k ≡ 0 + length (take k ls) = (let t = length-take-le k ls (omega (arith, lt)) in omega (arith, t)) in
    a ∙ ap (λ x. each_grew x (as_often l k)) h ∙ each_grew-each_grew (replicate m []) (users_from 0 (take k ls)) (as_often l k)
    ∙ each_grew_cong (replicate m []) (λ i. users_from 0 (take k ls) i ++ as_often l k i) (users_from 0 (take k ls ++ l ∷ []))
    (λ i _. ap (λ n. users_from 0 (take k ls) i ++ as_often l n i) len ∙ sym (users-more 0 (take k ls) l i))
    ∙ ap (users m) (ap (λ y. take k ls ++ y ∷ []) e ∙ sym (take_more ls k l lt))

-- there is a list for each place
pub users-length : {A : Type 0} (ls all : List (List ℕ)) (xs ys : List A) → xs ≡ ys → all ≡ users (length ys) ls → length xs ≤ length all
users-length ls all xs ys e h =
    let a = ap length h ∙ length-each_grew (replicate (length ys) []) (users_from 0 ls) ∙ length-replicate (length ys) [] in let b = ap length e in
    omega (arith, a, b)

-- the list of a place that is there
pub users-below : (m i : ℕ) (ls all : List (List ℕ)) → all ≡ users m ls → i < m → i < length all
users-below m i ls all e lt = let n = ap length e ∙ length-each_grew (replicate m []) (users_from 0 ls) ∙ length-replicate m [] in omega (arith, n, lt)

-- the users of this place
pub users-there : (m i : ℕ) (ls all : List (List ℕ)) (d : List ℕ) → all ≡ users m ls → i < m → get_or all i d ≡ users_from 0 ls i
users-there m i ls all d e lt = ap (λ l. get_or l i d) e ∙ each_grew-blanks m (users_from 0 ls) i d lt

pub same-uses : (m m' : ℕ) (ls ls' : List (List ℕ)) (u : Uses) → m ≡ m' → ls ≡ ls' → AreUses m ls u → AreUses m' ls' u
same-uses m m' ls ls' u a b h = subst (λ k. AreUses k ls' u) a (subst (λ l. AreUses m l u) b h)
