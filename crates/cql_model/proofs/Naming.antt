-- Names of a stream with a word behind an `@`, counted.
use Rattle.std.proofs.Common.{◌≡◌, ℕ, zero, suc, ◌+◌, ◌%◌, ◌<◌, ◌≤◌, Bool, true, false, Option, Some, None, List, [], ◌∷◌, ◌++◌, refl, sym, ap, ◌∙◌, arith}
use Rattle.std.proofs.Common.{subst, map, ⊎_elim}
use Rattle.std.specs.Prelude.{if◌then◌else◌, nat_eq, nat_lt, not, ◌&&◌, IsTrue}
use Rattle.std.proofs.lemmas.Bool.{and_parts, eq-eqb, cases_Bool}
use Rattle.river_base.specs.Name.{name_eq}
use Rattle.river_plan.specs.Forms.{Name}
use Rattle.river_plan.specs.Names.{one_if, count}
use Rattle.river_plan.proofs.NameLemmas.{cases_name, name_same, more_or_zero, one_small}
use Rattle.cql_model.specs.Numeral.{numeral}
use Rattle.cql_model.specs.Plannable.{has_no_at}
use Rattle.cql_model.specs.Plan.{at_word}
use Rattle.cql_model.proofs.Numerals.{numeral_injective, by_steps}

-- what stands before the first `@`, and what behind it
pub split : Name → Name × Option (List ℕ)
split [] = ([], None)
split (c ∷ cs) = if nat_eq c 64 then ([], Some cs) else (c ∷ (split cs).0, (split cs).1)

-- a stream's own name, or with a word
abbrev pub Tag : Type 0
Tag = Option (List ℕ)

-- a name that is made of a name and a tag
abbrev pub tagged : Name → Tag → Name
tagged b None = b
tagged b (Some w) = at_word b w

-- a name with a tag is split at its first `@`
pub split_tagged : (b : Name) (t : Tag) → IsTrue (has_no_at b) → split (tagged b t) ≡ (b, t)
unfolding split
split_tagged [] None h = refl
split_tagged [] (Some w) h = refl
split_tagged (c ∷ cs) None h =
    let p = and_parts (not (nat_eq c 64)) (has_no_at cs) h in
    let e : nat_eq c 64 ≡ false = grind (arith, p.0) in
    ap (λ x. if x then ([], Some cs) else (c ∷ (split cs).0, (split cs).1)) e ∙ ap (λ (s : Name × Tag). (c ∷ s.0, s.1)) (split_tagged cs None p.1)
split_tagged (c ∷ cs) (Some w) h =
    let p = and_parts (not (nat_eq c 64)) (has_no_at cs) h in
    let e : nat_eq c 64 ≡ false = grind (arith, p.0) in
    ap (λ x. if x then ([], Some (at_word cs w)) else (c ∷ (split (at_word cs w)).0, (split (at_word cs w)).1)) e
    ∙ ap (λ (s : Name × Tag). (c ∷ s.0, s.1)) (split_tagged cs (Some w) p.1)

-- the same tag
abbrev pub tag_eq : Tag → Tag → Bool
tag_eq None None = true
tag_eq None (Some w) = false
tag_eq (Some v) None = false
tag_eq (Some v) (Some w) = name_eq v w

-- how often a tag stands in a list
abbrev pub tags : Tag → List Tag → ℕ
tags t [] = 0
tags t (s ∷ ss) = one_if (tag_eq s t) + tags t ss

pub tags-append : (t : Tag) (xs ys : List Tag) → tags t (xs ++ ys) ≡ tags t xs + tags t ys
tags-append t [] ys = omega arith
tags-append t (x ∷ xs) ys = let e = tags-append t xs ys in omega (arith, e)

tag_self : (t : Tag) → tag_eq t t ≡ true
tag_self None = refl
tag_self (Some w) = name_same w

-- a name counts among those of b only if it is one of them
pub own_count : (b q : Name) (ts : List Tag) → IsTrue (has_no_at b) → count q (map (tagged b) ts) ≤ tags (split q).1 ts
own_count b q [] h = omega arith
own_count b q (t ∷ ts) h = ⊎_elim
    (λ c. let s : (split q).1 ≡ t = sym (ap (λ n. (split n).1) c.0) ∙ ap (λ (x : Name × Tag). x.1) (split_tagged b t h) in
    let o : one_if (tag_eq t (split q).1) ≡ 1 = ap one_if (ap (tag_eq t) s ∙ tag_self t) in
    let m = own_count b q ts h in let z = one_small (name_eq (tagged b t) q) in omega (arith, o, m, z))
    (λ c. let o = ap one_if c.1 in let m = own_count b q ts h in omega (arith, o, m))
    (cases_name (tagged b t) q)

-- a tagged name has its base before the `@`
pub own_base : (b q : Name) (ts : List Tag) → IsTrue (has_no_at b) → 0 < count q (map (tagged b) ts) → (split q).0 ≡ b
own_base b q [] h lt = absurd (omega (arith, lt))
own_base b q (t ∷ ts) h lt = ⊎_elim
    (λ c. sym (ap (λ n. (split n).0) c.0) ∙ ap (λ (x : Name × Tag). x.0) (split_tagged b t h))
    (λ c. own_base b q ts h (let o = ap one_if c.1 in omega (arith, o, lt)))
    (cases_name (tagged b t) q)

-- so where no tag stands twice, a name stands once, and only for its base
pub own_once : (b q : Name) (ts : List Tag) → IsTrue (has_no_at b) → ((t : Tag) → tags t ts ≤ 1) → count q (map (tagged b) ts) ≤ one_if (name_eq b (split q).0)
own_once b q ts h once = ⊎_elim
    (λ lt. let e : name_eq b (split q).0 ≡ true = ap (name_eq b) (own_base b q ts h lt) ∙ name_same b in
    let f = ap one_if e in let o = own_count b q ts h in let k = once (split q).1 in omega (arith, f, o, k))
    (λ z. omega (arith, z))
    (more_or_zero (count q (map (tagged b) ts)))

-- CLASSES OF TAGS: by the first letter of the word

-- the class of a tag, by its first letter
abbrev pub class : Tag → ℕ
class None = 0
class (Some []) = 1
class (Some (c ∷ cs)) = if nat_lt c 58 then 2 else c

-- no tag stands twice, and all are of this class, or of greater ones
pub record From (low : ℕ) (ts : List Tag) : Type 0 where
  pub once : (t : Tag) → tags t ts ≤ 1
  pub above : (t : Tag) → 0 < tags t ts → low ≤ class t

-- tags of one class, each at most once
pub record Of (n : ℕ) (ts : List Tag) : Type 0 where
  pub once : (t : Tag) → tags t ts ≤ 1
  pub only : (t : Tag) → 0 < tags t ts → class t ≡ n

-- no tags are of no class
pub from_nil : (low : ℕ) → From low []
from_nil low = record { once = λ t. omega arith; above = λ t lt. absurd (omega (arith, lt)) }

-- tags of one class before tags of higher ones
pub from_more : (n low : ℕ) (xs ys : List Tag) → n < low → Of n xs → From low ys → From n (xs ++ ys)
from_more n low xs ys lt a b = record {
  once = λ t. let s = tags-append t xs ys in let k = a.once t in let m = b.once t in ⊎_elim
      (λ here. let c = a.only t here in ⊎_elim (λ there. let d = b.above t there in absurd (omega (arith, c, d, lt))) (λ z. omega (arith, s, k, z))
      (more_or_zero (tags t ys)))
      (λ z. omega (arith, s, m, z))
      (more_or_zero (tags t xs));
  above = λ t some. let s = tags-append t xs ys in ⊎_elim
      (λ here. let c = a.only t here in omega (arith, c))
      (λ z. let d = b.above t (omega (arith, s, z, some)) in omega (arith, d, lt))
      (more_or_zero (tags t xs));
}

tag_is : (s t : Tag) → tag_eq s t ≡ true → s ≡ t
tag_is None None e = refl
tag_is None (Some w) e = absurd (cc e)
tag_is (Some v) None e = absurd (cc e)
tag_is (Some v) (Some w) e = ⊎_elim (λ c. ap Some c.0) (λ c. absurd (cc (sym e ∙ c.1))) (cases_name v w)

-- no tags are of any class
pub of_nil : (n : ℕ) → Of n []
of_nil n = record { once = λ t. omega arith; only = λ t lt. absurd (omega (arith, lt)) }

-- a tag is of its own class
pub of_one : (t : Tag) → Of (class t) (t ∷ [])
of_one t = record {
  once = λ s. let b = one_small (tag_eq t s) in omega (arith, b);
  only = λ s lt. ⊎_elim
      (λ y. ap class (sym (tag_is t s y)))
      (λ n. absurd (let o = ap one_if n in omega (arith, o, lt)))
      (cases_Bool (tag_eq t s));
}

-- NUMBERS: k, k + 1, .. with a letter before them, or none

-- numbered tags
abbrev pub numbers : List ℕ → ℕ → ℕ → List Tag
numbers letter k zero = []
numbers letter k (suc n) = Some (letter ++ numeral k) ∷ numbers letter (k + 1) n

abbrev StartsLow : List ℕ → Type 0
StartsLow [] = ⊥
StartsLow (c ∷ cs) = c < 58

-- a number begins with a digit
pub starts_low : (n : ℕ) → StartsLow (numeral n)
starts_low n = by_steps (λ m ds. StartsLow ds) (λ m small. omega (arith, small)) (λ m ds big h. more m ds h) n where
  more : (m : ℕ) (ds : List ℕ) → StartsLow ds → StartsLow (ds ++ ((48 + m % 10) ∷ []))
  more m [] h = absurd h
  more m (c ∷ cs) h = h

front_same : (letter a b : List ℕ) → name_eq (letter ++ a) (letter ++ b) ≡ name_eq a b
front_same [] a b = refl
front_same (c ∷ cs) a b = ap (λ x. x && name_eq (cs ++ a) (cs ++ b)) (eq-eqb c c refl) ∙ front_same cs a b

-- a number below them is not there
below_none : (letter : List ℕ) (j k n : ℕ) → j < k → tags (Some (letter ++ numeral j)) (numbers letter k n) ≡ 0
below_none letter j k zero lt = refl
below_none letter j k (suc n) lt =
    let m = below_none letter j (k + 1) n (omega (arith, lt)) in
    ⊎_elim
    (λ c. absurd (let e = numeral_injective k j c.0 in omega (arith, e, lt)))
    (λ c. let o = ap one_if (front_same letter (numeral k) (numeral j) ∙ c.1) in omega (arith, o, m))
    (cases_name (numeral k) (numeral j))

numbers_once : (letter : List ℕ) (k n : ℕ) (t : Tag) → tags t (numbers letter k n) ≤ 1
numbers_once letter k zero t = omega arith
numbers_once letter k (suc n) t = ⊎_elim
    (λ y. let is = tag_is (Some (letter ++ numeral k)) t y in
    let z : tags t (numbers letter (k + 1) n) ≡ 0 = subst (λ s. tags s (numbers letter (k + 1) n) ≡ 0) is (below_none letter k (k + 1) n (omega arith)) in
    let b = one_small (tag_eq (Some (letter ++ numeral k)) t) in omega (arith, z, b))
    (λ f. let o = ap one_if f in let m = numbers_once letter (k + 1) n t in omega (arith, o, m))
    (cases_Bool (tag_eq (Some (letter ++ numeral k)) t))

numbers_only : (letter : List ℕ) (n : ℕ) (c : (k : ℕ) → class (Some (letter ++ numeral k)) ≡ n) (k m : ℕ) (t : Tag)
    → 0 < tags t (numbers letter k m) → class t ≡ n
numbers_only letter n c k zero t lt = absurd (omega (arith, lt))
numbers_only letter n c k (suc m) t lt = ⊎_elim
    (λ y. ap class (sym (tag_is (Some (letter ++ numeral k)) t y)) ∙ c k)
    (λ f. let o = ap one_if f in numbers_only letter n c (k + 1) m t (omega (arith, o, lt)))
    (cases_Bool (tag_eq (Some (letter ++ numeral k)) t))

-- so its tag is of the class of numbers
pub low_class : (ds : List ℕ) → StartsLow ds → class (Some ds) ≡ 2
low_class [] h = absurd h
low_class (c ∷ cs) h = grind (arith, h)

-- plain numbers are all of that class
pub of_numbers : (k m : ℕ) → Of 2 (numbers [] k m)
of_numbers k m = record {
  once = numbers_once [] k m;
  only = numbers_only [] 2 (λ j. low_class (numeral j) (starts_low j)) k m;
}

letter_class : (c : ℕ) (ds : List ℕ) → 58 ≤ c → class (Some (c ∷ ds)) ≡ c
letter_class c ds big = grind (arith, big)

-- numbers behind a letter are of the letter's class
pub of_letter : (c k m : ℕ) → 58 ≤ c → Of c (numbers (c ∷ []) k m)
of_letter c k m big = record {
  once = numbers_once (c ∷ []) k m;
  only = numbers_only (c ∷ []) c (λ j. letter_class c (numeral j) big) k m;
}
