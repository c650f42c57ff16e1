-- The difference of ascending lists, from the front.
use Rattle.std.proofs.Common.{◌≡◌, ◌<◌, ◌≤◌, ◌+◌, ℕ, zero, suc, ℤ, Bool, true, false, cond, List, [], ◌∷◌, ◌++◌, length, get_or, drop, refl, sym, ap, ◌∙◌}
use Rattle.std.proofs.Common.{arith, subst, append_assoc}
use Rattle.std.specs.List.{AllByRecursion}
use Rattle.std.specs.List.Sorted.{IsSortedBy}
use Rattle.std.specs.Ordering.{is_lt, is_eq, ordering_reverse}
use Rattle.std.specs.declared.cmp.Ordering.{Ordering}
use Rattle.std.specs.declared.cmp.Ordering.TheVariants.{Less, Equal, Greater}
use Rattle.std.proofs.lemmas.Bool.{true≢false}
use Rattle.std.proofs.lemmas.List.{append-nil, drop_all}
use Rattle.river_base.proofs.Lists.{drop_next}
use native.Mathlib.Numerals.{unary_clauses}
use Rattle.river_base.specs.Row.{row_eq, row_lt, row_cmp, row_ties, row_total}
use Rattle.river_base.proofs.Counts.{same_row, row_itself}
use Rattle.river_base.proofs.Rows.{rows_ranked, in_order_sorted}
use Rattle.river_base.specs.Changes.{take_out, without, difference}
use Rattle.kern_changes.specs.Needs.{rows_from}

-- what holds of all, with a weaker condition
pub all_as : {K : Type 0} (P Q : K → Type 0) (xs : List K) → ((x : K) → P x → Q x) → AllByRecursion P xs → AllByRecursion Q xs
all_as P Q [] f h = tt
all_as P Q (x ∷ xs) f h = (f x h.0, all_as P Q xs f h.1)

-- each row, and none behind it that is below it
abbrev pub Up : List (List ℤ) → Type 0
Up [] = Unit {0}
Up (x ∷ xs) = AllByRecursion (λ y. row_lt y x ≡ false) xs × Up xs

up_tail : (x : List ℤ) (xs : List (List ℤ)) → IsSortedBy row_lt (x ∷ xs) → IsSortedBy row_lt xs
up_tail x xs h k d low high = simp unary_clauses (simp unary_clauses at (h (suc k) d (omega arith) (omega arith)))

above_all : (x y : List ℤ) (ys : List (List ℤ)) → row_lt y x ≡ false → AllByRecursion (λ z. row_lt z y ≡ false) ys → AllByRecursion (λ z. row_lt z x ≡ false) ys
above_all x y ys h a = all_as (λ z. row_lt z y ≡ false) (λ z. row_lt z x ≡ false) ys (λ z g. rows_ranked.chain z y x g h) a

-- rows that are sorted go up
pub up_of : (xs : List (List ℤ)) → IsSortedBy row_lt xs → Up xs
up_of [] h = tt
up_of (x ∷ []) h = (tt, tt)
up_of (x ∷ y ∷ ys) h =
    let more = up_of (y ∷ ys) (up_tail x (y ∷ ys) h) in
    let first : row_lt y x ≡ false = h 0 x (omega arith) (omega arith) in
    ((first, above_all x y ys first more.0), more)

-- A ROW AND THOSE BELOW IT

not_same : (x y : List ℤ) → row_lt y x ≡ true → row_eq x y ≡ false
not_same x y h = step (row_eq x y) refl where
  step : (b : Bool) → row_eq x y ≡ b → b ≡ false
  step false e = refl
  step true e =
      absurd (let s = same_row x y e in let l : row_lt x x ≡ true = subst (λ z. row_lt z x ≡ true) (sym s) h in true≢false (sym l ∙ rows_ranked.one_way x x l))

-- a row below all others takes none away
none_taken : (y : List ℤ) (xs : List (List ℤ)) → AllByRecursion (λ x. row_eq x y ≡ false) xs → take_out y xs ≡ xs
none_taken y [] h = refl
none_taken y (x ∷ xs) h = ap (λ b. cond b xs (x ∷ take_out y xs)) h.0 ∙ ap (λ l. x ∷ l) (none_taken y xs h.1)

-- those below a row take nothing from it and what stands behind it
pub past_lower : (x : List ℤ) (xs ys : List (List ℤ)) → Up (x ∷ xs) → without (x ∷ xs) ys ≡ without (x ∷ xs) (rows_from x ys)
past_lower x xs [] u = refl
past_lower x xs (y ∷ ys) u = step (row_lt y x) refl (past_lower x xs ys u) where
  step : (b : Bool) → row_lt y x ≡ b → without (x ∷ xs) ys ≡ without (x ∷ xs) (rows_from x ys)
      → without (x ∷ xs) (y ∷ ys) ≡ without (x ∷ xs) (cond b (rows_from x ys) (y ∷ ys))
  step true e more =
      let rest : AllByRecursion (λ z. row_eq z y ≡ false) xs =
      all_as (λ z. row_lt z x ≡ false) (λ z. row_eq z y ≡ false) xs (λ z g. not_same z y (lower z g)) u.0 in
      ap (λ l. without l ys) (none_taken y (x ∷ xs) (not_same x y e, rest)) ∙ more
    where
      lower : (z : List ℤ) → row_lt z x ≡ false → row_lt y z ≡ true
      lower z g = go (row_lt y z) refl where
        go : (b : Bool) → row_lt y z ≡ b → b ≡ true
        go true k = refl
        go false k = absurd (true≢false (sym e ∙ rows_ranked.chain y z x k g))
  step false e more = refl

-- the same row takes it away
pub same_taken : (x y : List ℤ) (xs ys : List (List ℤ)) → row_eq y x ≡ true → without (x ∷ xs) (y ∷ ys) ≡ without xs ys
same_taken x y xs ys e = let s = same_row y x e in ap (λ b. without (cond b xs (x ∷ take_out y xs)) ys) (ap (row_eq x) s ∙ row_itself x)

-- a row that none takes away stays in front
kept_first : (x : List ℤ) (xs ys : List (List ℤ)) → AllByRecursion (λ y. row_eq x y ≡ false) ys → without (x ∷ xs) ys ≡ x ∷ without xs ys
kept_first x xs [] h = refl
kept_first x xs (y ∷ ys) h = ap (λ b. without (cond b xs (x ∷ take_out y xs)) ys) h.0 ∙ kept_first x (take_out y xs) ys h.1

not_same_back : (x y : List ℤ) → row_eq y x ≡ false → row_eq x y ≡ false
not_same_back x y h = step (row_eq x y) refl where
  step : (b : Bool) → row_eq x y ≡ b → b ≡ false
  step false e = refl
  step true e = absurd (let s = same_row x y e in true≢false (sym (row_itself x) ∙ ap (λ z. row_eq z x) s ∙ h))

-- a row that is below all others stays
pub lowest_stays : (x y : List ℤ) (xs ys : List (List ℤ)) → row_lt y x ≡ false → row_eq y x ≡ false → Up (y ∷ ys)
    → without (x ∷ xs) (y ∷ ys) ≡ x ∷ without xs (y ∷ ys)
lowest_stays x y xs ys l e u =
    kept_first x xs (y ∷ ys) (not_same_back x y e, all_as (λ z. row_lt z y ≡ false) (λ z. row_eq x z ≡ false) ys (λ z g. apart z g) u.0) where
      below : row_lt x y ≡ true
      below = go (row_cmp y x) refl where
        go : (r : Ordering) → row_cmp y x ≡ r → row_lt x y ≡ true
        go Less k = absurd (true≢false (sym (ap is_lt k) ∙ l))
        go Equal k = absurd (true≢false (sym (ap is_eq k) ∙ sym (row_ties y x) ∙ e))
        go Greater k = ap is_lt (row_total.antisymm x y ∙ ap ordering_reverse k)

      apart : (z : List ℤ) → row_lt z y ≡ false → row_eq x z ≡ false
      apart z g = go (row_eq x z) refl where
        go : (b : Bool) → row_eq x z ≡ b → b ≡ false
        go false k = refl
        go true k = absurd (true≢false (sym below ∙ subst (λ w. row_lt w y ≡ false) (sym (same_row x z k)) g))

-- THE WHOLE DIFFERENCE

all_taken : (P : List ℤ → Type 0) (y : List ℤ) (xs : List (List ℤ)) → AllByRecursion P xs → AllByRecursion P (take_out y xs)
all_taken P y [] h = tt
all_taken P y (x ∷ xs) h = step (row_eq x y) (all_taken P y xs h.1) where
  step : (b : Bool) → AllByRecursion P (take_out y xs) → AllByRecursion P (cond b xs (x ∷ take_out y xs))
  step true more = h.1
  step false more = (h.0, more)

up_taken : (y : List ℤ) (xs : List (List ℤ)) → Up xs → Up (take_out y xs)
up_taken y [] u = tt
up_taken y (x ∷ xs) u = step (row_eq x y) (up_taken y xs u.1) where
  step : (b : Bool) → Up (take_out y xs) → Up (cond b xs (x ∷ take_out y xs))
  step true more = u.1
  step false more = (all_taken (λ z. row_lt z x ≡ false) y xs u.0, more)

up_without : (xs ys : List (List ℤ)) → Up xs → Up (without xs ys)
up_without xs [] u = u
up_without xs (y ∷ ys) u = up_without (take_out y xs) ys (up_taken y xs u)

sorted_of : (xs : List (List ℤ)) → Up xs → IsSortedBy row_lt xs
sorted_of [] u k d from to = absurd (omega arith)
sorted_of (x ∷ []) u k d from to = absurd (omega arith)
sorted_of (x ∷ y ∷ ys) u zero d from to = u.0.0
sorted_of (x ∷ y ∷ ys) u (suc k) d from to = simp unary_clauses (simp unary_clauses at (sorted_of (y ∷ ys) u.1 k d (omega arith) (omega arith)))

-- what is left of ascending rows is in order
pub left_in_order : (xs ys : List (List ℤ)) → IsSortedBy row_lt xs → without xs ys ≡ difference xs ys
left_in_order xs ys h = sym (in_order_sorted (without xs ys) (sorted_of (without xs ys) (up_without xs ys (up_of xs h))))

-- ROW BY ROW

up_drop : (n : ℕ) (xs : List (List ℤ)) → Up xs → Up (drop n xs)
up_drop zero xs u = u
up_drop (suc n) [] u = tt
up_drop (suc n) (x ∷ xs) u = up_drop n xs u.1

first_not_below : (x y : List ℤ) (ys zs : List (List ℤ)) → rows_from x zs ≡ y ∷ ys → row_lt y x ≡ false
first_not_below x y ys [] e = absurd (cc e)
first_not_below x y ys (z ∷ zs) e = step (row_lt z x) refl e (first_not_below x y ys zs) where
  step : (b : Bool) → row_lt z x ≡ b → cond b (rows_from x zs) (z ∷ zs) ≡ y ∷ ys → (rows_from x zs ≡ y ∷ ys → row_lt y x ≡ false) → row_lt y x ≡ false
  step true k g more = more g
  step false k g more = let same : z ≡ y = cc in subst (λ w. row_lt w x ≡ false) same k

-- of n rows and p others these are left, and what the rest will leave comes behind them
abbrev pub IsMerged : List (List ℤ) → List (List ℤ) → ℕ → ℕ → List (List ℤ) → Type 0
IsMerged rows others n p left = left ++ without (drop n rows) (drop p others) ≡ without rows others

module _ (rows others : List (List ℤ)) (u : Up rows) (v : Up others) (n p q : ℕ) (x : List ℤ) (left : List (List ℤ)) (lt : n < length rows)
    (is : x ≡ get_or rows n x) (from : drop q others ≡ rows_from x (drop p others)) (so_far : IsMerged rows others n p left) where
  here : drop n rows ≡ x ∷ drop (n + 1) rows
  here = drop_next rows n x lt is

  up : Up (x ∷ drop (n + 1) rows)
  up = subst Up here (up_drop n rows u)

  moved : left ++ without (x ∷ drop (n + 1) rows) (drop q others) ≡ without rows others
  moved =
      ap (λ l. left ++ l) (ap (without (x ∷ drop (n + 1) rows)) from ∙ sym (past_lower x (drop (n + 1) rows) (drop p others) up)
      ∙ ap (λ l. without l (drop p others)) (sym here))
      ∙ so_far

  -- the same row stands there: both are done
  pub row_taken : (y : List ℤ) → q < length others → y ≡ get_or others q y → row_eq y x ≡ true → IsMerged rows others (n + 1) (q + 1) left
  row_taken y ql at e =
      ap (λ l. left ++ l) (sym (same_taken x y (drop (n + 1) rows) (drop (q + 1) others) e)
      ∙ ap (without (x ∷ drop (n + 1) rows)) (sym (drop_next others q y ql at)))
      ∙ moved

  -- another row stands there: the row is left
  pub row_left : (y : List ℤ) (left' : List (List ℤ)) → q < length others → y ≡ get_or others q y → row_eq y x ≡ false → left' ≡ left ++ x ∷ []
      → IsMerged rows others (n + 1) q left'
  row_left y left' ql at e l =
      let there = drop_next others q y ql at in
      let low = first_not_below x y (drop (q + 1) others) (drop p others) (sym from ∙ there) in
      ap (λ t. t ++ without (drop (n + 1) rows) (drop q others)) l ∙ append_assoc left (x ∷ []) (without (drop (n + 1) rows) (drop q others))
      ∙ ap (λ t. left ++ x ∷ without (drop (n + 1) rows) t) there
      ∙ ap (λ t. left ++ t) (sym (lowest_stays x y (drop (n + 1) rows) (drop (q + 1) others) low e (subst Up there (up_drop q others v))))
      ∙ ap (λ t. left ++ without (x ∷ drop (n + 1) rows) t) (sym there)
      ∙ moved

  -- no row is there: the row is left
  pub row_last : (left' : List (List ℤ)) → length others ≤ q → left' ≡ left ++ x ∷ [] → IsMerged rows others (n + 1) q left'
  row_last left' ge l =
      let there = drop_all q others ge in
      ap (λ t. t ++ without (drop (n + 1) rows) (drop q others)) l ∙ append_assoc left (x ∷ []) (without (drop (n + 1) rows) (drop q others))
      ∙ ap (λ t. left ++ x ∷ without (drop (n + 1) rows) t) there
      ∙ ap (λ t. left ++ without (x ∷ drop (n + 1) rows) t) (sym there)
      ∙ moved

none_without : (ys : List (List ℤ)) → without [] ys ≡ []
none_without [] = refl
none_without (y ∷ ys) = none_without ys

-- at the end
pub merged_all : (rows others : List (List ℤ)) (n p : ℕ) (left : List (List ℤ)) → length rows ≤ n → IsMerged rows others n p left → left ≡ without rows others
merged_all rows others n p left ge m =
    sym (append-nil left) ∙ ap (λ l. left ++ l) (sym (ap (λ l. without l (drop p others)) (drop_all n rows ge) ∙ none_without (drop p others))) ∙ m

-- one place more for a row that is below
pub place_next : (row y : List ℤ) (rows : List (List ℤ)) (n : ℕ) → n < length rows → y ≡ get_or rows n y → row_lt y row ≡ true
    → rows_from row (drop (n + 1) rows) ≡ rows_from row (drop n rows)
place_next row y rows n lt is l =
    sym (ap (rows_from row) (drop_next rows n y lt is) ∙ ap (λ b. cond b (rows_from row (drop (n + 1) rows)) (y ∷ drop (n + 1) rows)) l)

-- the place where a row is to stand
pub place_found : (row y : List ℤ) (rows : List (List ℤ)) (n : ℕ) → n < length rows → y ≡ get_or rows n y → row_lt y row ≡ false
    → drop n rows ≡ rows_from row (drop n rows)
place_found row y rows n lt is l =
    sym (ap (rows_from row) (drop_next rows n y lt is) ∙ ap (λ b. cond b (rows_from row (drop (n + 1) rows)) (y ∷ drop (n + 1) rows)) l
    ∙ sym (drop_next rows n y lt is))

pub place_none : (row : List ℤ) (rows : List (List ℤ)) (n : ℕ) → length rows ≤ n → drop n rows ≡ rows_from row (drop n rows)
place_none row rows n ge = let e = drop_all n rows ge in e ∙ sym (ap (rows_from row) e)
