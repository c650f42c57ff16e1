-- Lists that are numbered as they come.
use Rattle.std.proofs.Common.{◌≡◌, ℕ, zero, suc, ◌+◌, ◌<◌, ◌≤◌, ◌⊎◌, ℤ, pos, nat_abs, Bool, true, false, cond, not, ◌||◌, true≢false, List, [], ◌∷◌, ◌++◌, length, get_or, sym, refl, ap, ◌∙◌, subst, inl, inr, ⊎_elim, length-append, arith}
use Rattle.std.proofs.lemmas.List.{get_or_append_left}
use Rattle.std.proofs.Math.Seq.{get_or-append_seam}
use mathlib.Core.Logic.{dite}
use native.Mathlib.Decide.{ℕ_discrete}
use Rattle.std.specs.List.{list_any}
use Rattle.river_base.specs.Row.{row_eq}
use Rattle.river_base.proofs.Counts.{same_row, row_itself}
use Rattle.plan_classes.specs.Classes.{AreClasses, users_of, class_of}
use Rattle.plan_classes.specs.Sets.{place_in, with_list}

-- SETS

abbrev Empty : List ℤ
Empty = []

-- the list stands in the set at a place
record Stands (x : List ℤ) (lists : List (List ℤ)) (n : ℕ) (after : List (List ℤ)) : Type 0 where
  below : n < length lists
  here : get_or lists n Empty ≡ x
  same : after ≡ lists

-- or comes to its end
record Comes (x : List ℤ) (lists : List (List ℤ)) (n : ℕ) (after : List (List ℤ)) : Type 0 where
  last : n ≡ length lists
  grown : after ≡ lists ++ x ∷ []
  other : (m : ℕ) → m < length lists → get_or lists m Empty ≡ x → ⊥

pulled : (b : Bool) (x y : List ℤ) (ys : List (List ℤ)) → cond b (y ∷ ys) ((y ∷ ys) ++ x ∷ []) ≡ y ∷ cond b ys (ys ++ x ∷ [])
pulled true x y ys = refl
pulled false x y ys = refl

sorted : (x : List ℤ) (lists : List (List ℤ)) → Stands x lists (place_in lists x) (with_list lists x) ⊎ Comes x lists (place_in lists x) (with_list lists x)
sorted x [] = inr (record { last = refl; grown = refl; other = λ m lt e. absurd (omega arith) })
sorted x (y ∷ ys) = by (row_eq x y) refl (sorted x ys)
  where
    first : row_eq x y ≡ true → Stands x (y ∷ ys) (place_in (y ∷ ys) x) (with_list (y ∷ ys) x)
    first e = record {
      below = omega (arith, at);
      here = ap (λ m. get_or (y ∷ ys) m Empty) at ∙ sym (same_row x y e);
      same = ap (λ (t : Bool). cond (t || list_any (row_eq x) ys) (y ∷ ys) ((y ∷ ys) ++ x ∷ [])) e;
    }
      where
        at : place_in (y ∷ ys) x ≡ 0
        at = ap (λ (t : Bool). cond (not t) (1 + place_in ys x) 0) e

    behind : row_eq x y ≡ false → place_in (y ∷ ys) x ≡ suc (place_in ys x)
    behind e = let p : place_in (y ∷ ys) x ≡ 1 + place_in ys x = ap (λ (t : Bool). cond (not t) (1 + place_in ys x) 0) e in omega (arith, p)

    after : row_eq x y ≡ false → with_list (y ∷ ys) x ≡ y ∷ with_list ys x
    after e = ap (λ (t : Bool). cond (t || list_any (row_eq x) ys) (y ∷ ys) ((y ∷ ys) ++ x ∷ [])) e ∙ pulled (list_any (row_eq x) ys) x y ys

    others : row_eq x y ≡ false → ((m : ℕ) → m < length ys → get_or ys m Empty ≡ x → ⊥) → (m : ℕ) → m < length (y ∷ ys) → get_or (y ∷ ys) m Empty ≡ x → ⊥
    others e f zero lt q = true≢false (sym (row_itself x) ∙ (ap (row_eq x) (sym q) ∙ e))
    others e f (suc m) lt q = f m (omega arith) q

    by : (b : Bool) → row_eq x y ≡ b → Stands x ys (place_in ys x) (with_list ys x) ⊎ Comes x ys (place_in ys x) (with_list ys x)
        → Stands x (y ∷ ys) (place_in (y ∷ ys) x) (with_list (y ∷ ys) x) ⊎ Comes x (y ∷ ys) (place_in (y ∷ ys) x) (with_list (y ∷ ys) x)
    by true e h = inl (first e)
    by false e h = ⊎_elim
        (λ s. inl (record {
          below = (let p = behind e in let lt = s.below in omega arith);
          here = ap (λ m. get_or (y ∷ ys) m Empty) (behind e)
              ∙ s.here;
          same = after e ∙ ap (λ l. y ∷ l) s.same;
        }))
        (λ c. inr (record { last = behind e ∙ ap suc c.last; grown = after e ∙ ap (λ l. y ∷ l) c.grown; other = others e c.other }))
        h

-- NUMBERS

-- each table has the number of the list of its users
pub record IsNumbered (users lists : List (List ℤ)) (classes : List ℤ) : Type 0 where
  pub as_many : length classes ≡ length users
  pub placed : (t : ℕ) → t < length users → (n : ℕ) × (class_of classes t ≡ pos n) × (n < length lists) × (get_or lists n [] ≡ users_of users t)
  pub apart : (n m : ℕ) → n < length lists → m < length lists → get_or lists n Empty ≡ get_or lists m Empty → n ≡ m
  pub known : (n : ℕ) → n < length lists → (s : ℕ) × (s < length users) × (class_of classes s ≡ pos n)
  pub by_first : (t n m : ℕ) → t < length users → class_of classes t ≡ pos n → m < n → (s : ℕ) × (s < t) × (class_of classes s ≡ pos m)

-- no table, no class
pub none_numbered : IsNumbered [] [] []
none_numbered = record {
  as_many = refl;
  placed = λ t lt. absurd (omega arith);
  apart = λ n m lt q e. absurd (omega arith);
  known = λ n lt. absurd (omega arith);
  by_first = λ t n m lt e q. absurd (omega arith);
}

module _ (users lists : List (List ℤ)) (classes : List ℤ) (x : List ℤ) (n : ℕ) (r : IsNumbered users lists classes) where
  more : length (users ++ x ∷ []) ≡ length users + 1
  more = length-append users (x ∷ [])

  old_class : (t : ℕ) → t < length users → class_of (classes ++ pos n ∷ []) t ≡ class_of classes t
  old_class t lt = get_or_append_left classes (pos n ∷ []) (pos 0) t (let e = r.as_many in omega arith)

  new_class : class_of (classes ++ pos n ∷ []) (length users) ≡ pos n
  new_class = subst (λ k. class_of (classes ++ pos n ∷ []) k ≡ pos n) r.as_many (get_or-append_seam classes (pos n) [] (pos 0))

  old_users : (t : ℕ) → t < length users → users_of (users ++ x ∷ []) t ≡ users_of users t
  old_users t lt = get_or_append_left users (x ∷ []) [] t lt

  new_users : users_of (users ++ x ∷ []) (length users) ≡ x
  new_users = get_or-append_seam users x [] []

  is_number : (t k : ℕ) → t ≡ length users → class_of (classes ++ pos n ∷ []) t ≡ pos k → n ≡ k
  is_number t k e c = ap nat_abs (sym new_class ∙ (ap (class_of (classes ++ pos n ∷ [])) (sym e) ∙ c))

  earlier : (t k m : ℕ) → n ≤ length lists → t < length (users ++ x ∷ []) → class_of (classes ++ pos n ∷ []) t ≡ pos k → m < k
      → (s : ℕ) × (s < t) × (class_of (classes ++ pos n ∷ []) s ≡ pos m)
  earlier t k m within lt c q = dite (ℕ_discrete t (length users))
      (λ e. let g = r.known m (let i = is_number t k e c in omega arith) in (g.0, (let z = g.1 in omega arith), old_class g.0 g.1 ∙ g.2))
      (λ ne. let low : t < length users = (let z = more in omega arith) in let g = r.by_first t k m low (sym (old_class t low) ∙ c) q in
      (g.0, g.1, old_class g.0 (let z = g.1 in omega arith) ∙ g.2))

  stays : n < length lists → get_or lists n Empty ≡ x → IsNumbered (users ++ x ∷ []) lists (classes ++ pos n ∷ [])
  stays below here = record {
    as_many = length-append classes (pos n ∷ []) ∙ (ap (λ k. k + 1) r.as_many ∙ sym more);
    placed = λ t lt. dite (ℕ_discrete t (length users))
        (λ e. (n, ap (class_of (classes ++ pos n ∷ [])) e ∙ new_class, below, here ∙ (sym new_users ∙ ap (users_of (users ++ x ∷ [])) (sym e))))
        (λ ne. let low : t < length users = (let z = more in omega arith) in let g =
        r.placed t low in (g.0, old_class t low ∙ g.1, g.2, g.3 ∙ sym (old_users t low)));
    apart = r.apart;
    known = λ m lt. let g = r.known m lt in (g.0, (let z = more in let y = g.1 in omega arith), old_class g.0 g.1 ∙ g.2);
    by_first = λ t k m lt c q. earlier t k m (omega arith) lt c q;
  }

  comes : n ≡ length lists → ((m : ℕ) → m < length lists → get_or lists m Empty ≡ x → ⊥)
      → IsNumbered (users ++ x ∷ []) (lists ++ x ∷ []) (classes ++ pos n ∷ [])
  comes last other = record {
    as_many = length-append classes (pos n ∷ []) ∙ (ap (λ k. k + 1) r.as_many ∙ sym more);
    placed = λ t lt. dite (ℕ_discrete t (length users))
        (λ e. (
          n,
          ap (class_of (classes ++ pos n ∷ [])) e ∙ new_class,
          (let z = longer in omega arith),
          new_list n last
              ∙ (sym new_users ∙ ap (users_of (users ++ x ∷ [])) (sym e)),
        ))
        (λ ne. let low : t < length users = (let z = more in omega arith) in let g =
        r.placed t low in (g.0, old_class t low ∙ g.1, (let z = longer in let y = g.2 in omega arith), old_list g.0 g.2 ∙ (g.3 ∙ sym (old_users t low))));
    apart = λ a b la lb e. dite (ℕ_discrete a (length lists))
        (λ ea. dite (ℕ_discrete b (length lists))
        (λ eb. ea ∙ sym eb)
        (λ nb. let low : b < length lists = (let z = longer in omega arith) in absurd (other b low (sym (old_list b low) ∙ (sym e ∙ new_list a ea)))))
        (λ na. let la' : a < length lists = (let z = longer in omega arith) in dite (ℕ_discrete b (length lists))
        (λ eb. absurd (other a la' (sym (old_list a la') ∙ (e ∙ new_list b eb))))
        (λ nb. let lb' : b < length lists = (let z = longer in omega arith) in r.apart a b la' lb' (sym (old_list a la') ∙ (e ∙ old_list b lb'))));
    known = λ m lt. dite (ℕ_discrete m (length lists))
        (λ e. (length users, (let z = more in omega arith), new_class ∙ ap pos (last ∙ sym e)))
        (λ ne. let g = r.known m (let z = longer in omega arith) in (g.0, (let z = more in let y = g.1 in omega arith), old_class g.0 g.1 ∙ g.2));
    by_first = λ t k m lt c q. earlier t k m (omega arith) lt c q;
  }
    where
      longer : length (lists ++ x ∷ []) ≡ length lists + 1
      longer = length-append lists (x ∷ [])

      old_list : (m : ℕ) → m < length lists → get_or (lists ++ x ∷ []) m Empty ≡ get_or lists m Empty
      old_list m lt = get_or_append_left lists (x ∷ []) Empty m lt

      new_list : (m : ℕ) → m ≡ length lists → get_or (lists ++ x ∷ []) m Empty ≡ x
      new_list m e = ap (λ k. get_or (lists ++ x ∷ []) k Empty) e ∙ get_or-append_seam lists x [] Empty

-- one list more
pub one_more : (users lists : List (List ℤ)) (classes : List ℤ) (x : List ℤ) → IsNumbered users lists classes
    → IsNumbered (users ++ x ∷ []) (with_list lists x) (classes ++ pos (place_in lists x) ∷ [])
one_more users lists classes x r = ⊎_elim
    (λ s. subst (λ l. IsNumbered (users ++ x ∷ []) l (classes ++ pos (place_in lists x) ∷ [])) (sym s.same)
    (stays users lists classes x (place_in lists x) r s.below s.here))
    (λ c. subst (λ l. IsNumbered (users ++ x ∷ []) l (classes ++ pos (place_in lists x) ∷ [])) (sym c.grown)
    (comes users lists classes x (place_in lists x) r c.last c.other))
    (sorted x lists)

-- lists that are numbered so are classes
pub are_classes : (users lists : List (List ℤ)) (classes : List ℤ) → IsNumbered users lists classes → AreClasses users classes
are_classes users lists classes r = record {
  as_many = r.as_many;
  together = λ s t ls lt.
      let a = r.placed s ls in
      let b = r.placed t lt in (
        (λ e. let same : a.0 ≡ b.0 = ap nat_abs (sym a.1 ∙ (e ∙ b.1)) in sym a.3 ∙ (ap (λ k. get_or lists k Empty) same ∙ b.3)),
        (λ e. a.1 ∙ (ap pos (r.apart a.0 b.0 a.2 b.2 (a.3 ∙ (e ∙ sym b.3))) ∙ sym b.1)),
      );
  numbers = λ t lt. let a = r.placed t lt in (a.0, a.1);
  by_first = r.by_first;
}
