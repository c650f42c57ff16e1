-- What the users of places say of names.
use Rattle.std.proofs.Common.{◌≡◌, ℕ, zero, suc, ◌+◌, ◌<◌, ◌≤◌, List, [], ◌∷◌, ◌++◌, Option, Some, None, length, map, refl, sym, ap, ◌∙◌, subst, arith}
use Rattle.std.proofs.Common.{append_assoc, length-append, ⊎_elim}
use Rattle.std.specs.Prelude.{slice_get, slice_index}
use Rattle.std.specs.List.{AllByRecursion}
use Rattle.std.specs.List.Sorted.{IsStrictlyIncreasing}
use Rattle.std.proofs.lemmas.Option.{same_Some}
use Rattle.river_base.specs.Name.{name_eq}
use Rattle.river_base.specs.Places.{only}
use Rattle.river_base.proofs.PlaceLemmas.{only_same, only_other}
use Rattle.river_plan.specs.Forms.{Name, OpForm}
use Rattle.river_plan.specs.Names.{count, one_if}
use Rattle.river_plan.specs.Uses.{Each, total, vars_it}
use Rattle.river_plan.specs.Places.{place, places, as_often, users_from}
use Rattle.river_plan.specs.ByUsers.{IsBefore}
use Rattle.river_plan.specs.First.{Unless, Along, IsFirst}
use Rattle.river_plan.proofs.NameLemmas.{cases_name, count-append, name_same, one_same, more_or_zero}
use Rattle.river_plan.proofs.PlaceLemmas.{place-here, place-past, place_at, place_below, place_front, place_back}
use Rattle.river_plan.proofs.Searches.{or_else-cong, unless-cong}

-- A SEARCH BY PLACES IS ONE BY ELEMENTS

-- what holds of each place holds of what stands there
pub placed : {A : Type 0} (zs : List A) (P : ℕ → Type 0) (Q : A → Type 0)
    → ((before xs : List A) (x : A) → before ++ x ∷ xs ≡ zs → (P (length before) → Q x) × (Q x → P (length before)))
    → (before xs : List A) → before ++ xs ≡ zs → (o : Option A) → Along (λ b y. Unless (P (length b)) y) before xs o → Along (λ b y. Unless (Q y) y) before xs o
placed zs P Q same before [] e None h = tt
placed zs P Q same before [] e (Some q) h = h
placed zs P Q same before (x ∷ xs) e o h =
    let s = same before xs x e in
    or_else-cong (Unless (P (length before)) x) (Unless (Q x) x) (Along (λ b y. Unless (P (length b)) y) (before ++ x ∷ []) xs)
    (Along (λ b y. Unless (Q y) y) (before ++ x ∷ []) xs)
    (unless-cong (P (length before)) (Q x) x s.0 s.1)
    (placed zs P Q same (before ++ x ∷ []) xs (append_assoc before (x ∷ []) xs ∙ e))
    o h

-- a name that stands once stands at its place
pub standing : (names : List Name) → ((q : Name) → count q names ≤ 1) → (before xs : List Name) (x : Name) → before ++ x ∷ xs ≡ names
    → (0 < count x names) × (place names x ≡ length before)
standing names once before xs x e =
    let c = ap (count x) (sym e) ∙ count-append x before (x ∷ xs) in
    let o = once x in
    let s = one_same x in
    let z : count x before ≡ 0 = omega (arith, c, o, s) in
    let f = ap (λ l. place l x) (sym e) ∙ place_back before (x ∷ xs) x z in
    let g = place-here x xs x (name_same x) in
    (omega (arith, c, s), omega (arith, f, g))

-- where no name stands twice, the name at a place has this place
pub name_at : (names : List Name) → ((q : Name) → count q names ≤ 1) → (before xs : List Name) (i : ℕ) → before ++ xs ≡ names → i < length xs
    → (v : Name) × (slice_get xs i ≡ Some v) × (0 < count v names) × (place names v ≡ length before + i)
name_at names once before [] i e lt = absurd (omega (arith, lt))
name_at names once before (x ∷ xs) zero e lt = let s = standing names once before xs x e in (x, refl, s.0, (let p = s.1 in omega (arith, p)))
name_at names once before (x ∷ xs) (suc i) e lt =
    let r = name_at names once (before ++ x ∷ []) xs i (append_assoc before (x ∷ []) xs ∙ e) (omega (arith, lt)) in
    let n = length-append before (x ∷ []) in
    let p = r.3 in
    (r.0, r.1, r.2, omega (arith, n, p))

-- the same of names that stand once
pub placed_names : (names : List Name) (P : ℕ → Type 0) (Q : Name → Type 0) → ((q : Name) → count q names ≤ 1)
    → ((q : Name) → 0 < count q names → P (place names q) → Q q) → ((q : Name) → 0 < count q names → Q q → P (place names q))
    → (o : Option Name) → IsFirst (λ b q. P (length b)) names o → IsFirst (λ b q. Q q) names o
placed_names names P Q once there back = placed names P Q (λ before xs x e. let s = standing names once before xs x e in
    ((λ p. there x s.0 (subst P (sym s.1) p)), (λ q. subst P s.1 (back x s.0 q)))) [] names refl

-- the place of a name stands where the name stands
pub place_there : (names b xs : List Name) (r : Name) → slice_index (places names (b ++ r ∷ xs)) (length b) ≡ place names r
place_there names [] xs r = refl
place_there names (x ∷ b) xs r = place_there names b xs r

-- USERS, COUNTED

-- a name alone has its place
place_is : (names : List Name) (w q : Name) → slice_get names (place names w) ≡ Some q → w ≡ q
place_is [] w q h = absurd (cc h)
place_is (x ∷ xs) w q h = ⊎_elim
    (λ c. sym c.0 ∙ same_Some x q (sym (ap (slice_get (x ∷ xs)) (place-here x xs w c.1)) ∙ h))
    (λ c. place_is xs w q (sym (ap (slice_get (x ∷ xs)) (place-past x xs w c.1)) ∙ h))
    (cases_name x w)

module _ (names : List Name) (q : Name) (lt : 0 < count q names) where
  one_used : (w : Name) (n : ℕ) → length (only (place names w) (n ∷ []) (place names q)) ≡ one_if (name_eq w q)
  one_used w n = ⊎_elim
      (λ c. ap (λ y. length (only (place names y) (n ∷ []) (place names q))) c.0 ∙ ap length (only_same (place names q) (n ∷ [])) ∙ sym (ap one_if c.1))
      (λ c. ap length (only_other (place names w) (place names q) (n ∷ [])
      (λ e. c.0 (place_is names w q (ap (slice_get names) (sym e) ∙ place_at names q lt)))) ∙ sym (ap one_if c.1))
      (cases_name w q)

  -- a place is listed as often as its name stands
  pub often-count : (ws : List Name) (n : ℕ) → length (as_often (places names ws) n (place names q)) ≡ count q ws
  often-count [] n = refl
  often-count (w ∷ ws) n =
      let a = length-append (only (place names w) (n ∷ []) (place names q)) (as_often (places names ws) n (place names q)) in
      let b = one_used w n in
      let c = often-count ws n in
      omega (arith, a, b, c)

  module _ (f : OpForm → List Name) where
    -- a name has as many users as operators that name it
    pub users-count : (ops : List OpForm) (n : ℕ)
        → length (users_from n (map (λ op. places names (f op)) ops) (place names q)) ≡ total (λ op. count q (f op)) ops
    users-count [] n = refl
    users-count (op ∷ ops) n =
        let a = length-append (as_often (places names (f op)) n (place names q)) (users_from (suc n) (map (λ o. places names (f o)) ops) (place names q)) in
        let b = often-count (f op) n in
        let c = users-count ops (suc n) in
        omega (arith, a, b, c)

-- USERS THAT RISE

only_one : (x n i : ℕ) → AllByRecursion (λ y. y ≡ n) (only x (n ∷ []) i)
only_one zero n zero = (refl, tt)
only_one zero n (suc i) = tt
only_one (suc x) n zero = tt
only_one (suc x) n (suc i) = only_one x n i

-- what holds of the numbers of two lists
pub all-append : (P : ℕ → Type 0) (xs ys : List ℕ) → AllByRecursion P xs → AllByRecursion P ys → AllByRecursion P (xs ++ ys)
all-append P [] ys a b = b
all-append P (x ∷ xs) ys a b = (a.0, all-append P xs ys a.1 b)

-- what holds of all, with a weaker condition
pub all-weaker : (P Q : ℕ → Type 0) → ((y : ℕ) → P y → Q y) → (xs : List ℕ) → AllByRecursion P xs → AllByRecursion Q xs
all-weaker P Q f [] a = tt
all-weaker P Q f (x ∷ xs) a = (f x a.0, all-weaker P Q f xs a.1)

-- only this operator is listed
pub often-one : (xs : List ℕ) (n i : ℕ) → AllByRecursion (λ y. y ≡ n) (as_often xs n i)
often-one [] n i = tt
often-one (x ∷ xs) n i = all-append (λ y. y ≡ n) (only x (n ∷ []) i) (as_often xs n i) (only_one x n i) (often-one xs n i)

users-least : (n : ℕ) (ls : List (List ℕ)) (i : ℕ) → AllByRecursion (λ y. n ≤ y) (users_from n ls i)
users-least n [] i = tt
users-least n (l ∷ ls) i = all-append (λ y. n ≤ y) (as_often l n i) (users_from (suc n) ls i)
    (all-weaker (λ y. y ≡ n) (λ y. n ≤ y) (λ y e. omega (arith, e)) (as_often l n i) (often-one l n i))
    (all-weaker (λ y. suc n ≤ y) (λ y. n ≤ y) (λ y h. omega (arith, h)) (users_from (suc n) ls i) (users-least (suc n) ls i))

-- one number, some times, before greater ones
module _ (n : ℕ) (rest : List ℕ) where
  rising-parts : (xs : List ℕ) → AllByRecursion (λ y. y ≡ n) xs → IsStrictlyIncreasing (xs ++ rest) → (length xs ≤ 1) × IsStrictlyIncreasing rest
  rising-parts [] a h = (omega arith, h)
  rising-parts (x ∷ []) a h = (
    omega arith,
    λ k lt. subst (λ m. slice_index rest k < slice_index (x ∷ rest) m) (let e : suc k + 1 ≡ suc (k + 1) = omega arith in e)
        (h (suc k) (omega (arith, lt))),
  )
  rising-parts (x ∷ y ∷ ys) a h = absurd (let lt = h 0 (omega arith) in omega (arith, lt, a.0, a.1.0))

  parts-rising : (xs : List ℕ) → AllByRecursion (λ y. y ≡ n) xs → AllByRecursion (λ y. suc n ≤ y) rest → length xs ≤ 1 → IsStrictlyIncreasing rest
      → IsStrictlyIncreasing (xs ++ rest)
  parts-rising [] a b le h = h
  parts-rising (x ∷ []) a b le h = λ k. by k
    where
      first : (ys : List ℕ) → AllByRecursion (λ y. suc n ≤ y) ys → 1 < suc (length ys) → x < slice_index ys 0
      first [] c lt = absurd (omega (arith, lt))
      first (y ∷ ys) c lt = omega (arith, a.0, c.0)

      by : (k : ℕ) → k + 1 < length (x ∷ rest) → slice_index (x ∷ rest) k < slice_index (x ∷ rest) (k + 1)
      by zero lt = first rest b lt
      by (suc k) lt = subst (λ m. slice_index rest k < slice_index (x ∷ rest) m) (let e : suc (k + 1) ≡ suc k + 1 = omega arith in e) (h k (omega (arith, lt)))
  parts-rising (x ∷ y ∷ ys) a b le h = absurd (omega (arith, le))

module _ (names : List Name) (v : Name) (lt : 0 < count v names) where
  -- users rise, so no operator names it twice
  pub rising-each : (ops : List OpForm) (n : ℕ) → IsStrictlyIncreasing (users_from n (map (λ op. places names op.vars) ops) (place names v))
      → Each (λ op. vars_it v op ≤ 1) ops
  rising-each [] n h = tt
  rising-each (op ∷ ops) n h =
      let us = as_often (places names op.vars) n (place names v) in
      let p = rising-parts n (users_from (suc n) (map (λ o. places names o.vars) ops) (place names v)) us
      (often-one (places names op.vars) n (place names v)) h in
      let c = often-count names v lt op.vars n in
      let le = p.0 in
      (omega (arith, c, le), rising-each ops (suc n) p.1)

  -- no operator names it twice, so users rise
  pub each-rising : (ops : List OpForm) (n : ℕ) → Each (λ op. vars_it v op ≤ 1) ops
      → IsStrictlyIncreasing (users_from n (map (λ op. places names op.vars) ops) (place names v))
  each-rising [] n h = λ k l. absurd (omega (arith, l))
  each-rising (op ∷ ops) n h =
      let us = as_often (places names op.vars) n (place names v) in
      let c = often-count names v lt op.vars n in
      let le = h.0 in
      parts-rising n (users_from (suc n) (map (λ o. places names o.vars) ops) (place names v)) us (often-one (places names op.vars) n (place names v))
      (users-least (suc n) (map (λ o. places names o.vars) ops) (place names v)) (omega (arith, c, le)) (each-rising ops (suc n) h.1)

-- USERS BEFORE OTHERS

-- the first user of a name comes before some operators exactly where one of these uses it
module _ (names : List Name) (q : Name) (lt : 0 < count q names) (f : OpForm → List Name) (after : List OpForm) where
  abbrev pub uses_from : ℕ → List OpForm → List ℕ
  uses_from n ops = users_from n (map (λ op. places names (f op)) ops) (place names q)

  -- the users of one operator, each of number n, before those of the others
  used-before : (n m t : ℕ) (rest us : List ℕ) → AllByRecursion (λ y. y ≡ n) us → n < m → (0 < t → IsBefore m rest) → 0 < length us + t
      → IsBefore m (us ++ rest)
  used-before n m t rest [] a l h u = h (omega (arith, u))
  used-before n m t rest (x ∷ us) a l h u = omega (arith, a.0, l)

  before-used : (m t : ℕ) (rest us : List ℕ) → (IsBefore m rest → 0 < t) → IsBefore m (us ++ rest) → 0 < length us + t
  before-used m t rest [] h b = let u = h b in omega (arith, u)
  before-used m t rest (x ∷ us) h b = omega arith

  none-before : (m : ℕ) (us : List ℕ) → AllByRecursion (λ y. m ≤ y) us → IsBefore m us → ⊥
  none-before m [] a b = b
  none-before m (x ∷ us) a b = omega (arith, a.0, b)

  -- an operator before this one writes it, so the first writer is before
  pub written-before : (before : List OpForm) (n m : ℕ) → m ≡ n + length before → 0 < total (λ op. count q (f op)) before
      → IsBefore m (uses_from n (before ++ after))
  written-before [] n m e u = absurd (omega (arith, u))
  written-before (op ∷ ops) n m e u =
      let c = often-count names q lt (f op) n in
      used-before n m (total (λ o. count q (f o)) ops) (uses_from (suc n) (ops ++ after)) (as_often (places names (f op)) n (place names q))
      (often-one (places names (f op)) n (place names q))
      (omega (arith, e)) (written-before ops (suc n) m (omega (arith, e))) (omega (arith, c, u))

  -- the first writer is before, so an operator before this one writes it
  pub before-written : (before : List OpForm) (n m : ℕ) → m ≡ n + length before → IsBefore m (uses_from n (before ++ after))
      → 0 < total (λ op. count q (f op)) before
  before-written [] n m e b = absurd (none-before m (uses_from n after)
      (all-weaker (λ y. n ≤ y) (λ y. m ≤ y) (λ y h. omega (arith, e, h)) (uses_from n after)
      (users-least n (map (λ op. places names (f op)) after) (place names q))) b)
  before-written (op ∷ ops) n m e b =
      let c = often-count names q lt (f op) n in
      let u = before-used m (total (λ o. count q (f o)) ops) (uses_from (suc n) (ops ++ after)) (as_often (places names (f op)) n (place names q))
      (before-written ops (suc n) m (omega (arith, e))) b in
      omega (arith, c, u)

-- NAMES BETWEEN OTHERS

module _ (us bs cs : List Name) (q : Name) where
  -- a name of the middle list has a place there
  pub middle_place : count q (us ++ (bs ++ cs)) ≤ 1 → 0 < count q bs
      → (length us ≤ place (us ++ (bs ++ cs)) q) × (place (us ++ (bs ++ cs)) q < length us + length bs)
  middle_place o lt =
      let a = count-append q us (bs ++ cs) in
      let b = count-append q bs cs in
      let p = place_back us (bs ++ cs) q (omega (arith, o, a, b, lt)) in
      let r = place_front bs cs q lt in
      let s = place_below bs q lt in
      (omega (arith, p), omega (arith, p, r, s))

  -- a name whose place is there is one of them
  pub place_middle : 0 < count q (us ++ (bs ++ cs)) → length us ≤ place (us ++ (bs ++ cs)) q → place (us ++ (bs ++ cs)) q < length us + length bs
      → 0 < count q bs
  place_middle l le lt = ⊎_elim
      (λ i. absurd (let f = place_front us (bs ++ cs) q i in let s = place_below us q i in omega (arith, f, s, le)))
      (λ z. ⊎_elim
      (λ i. i)
      (λ y. absurd (let p = place_back us (bs ++ cs) q z in let r = place_back bs cs q y in omega (arith, p, r, lt)))
      (more_or_zero (count q bs)))
      (more_or_zero (count q us))
