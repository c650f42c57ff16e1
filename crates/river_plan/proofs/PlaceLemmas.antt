-- Where names stand in a list of names.
use Rattle.std.proofs.Common.{◌≡◌, ℕ, suc, ◌+◌, ◌<◌, ◌≤◌, Bool, true, false, Option, Some, None, List, [], ◌∷◌, ◌++◌, length, cond, nat_lt, refl, sym, ap, ◌∙◌}
use Rattle.std.proofs.Common.{arith, ⊎_elim}
use Rattle.std.specs.Prelude.{if◌then◌else◌, slice_get, unwrap_or, position}
use Rattle.std.specs.List.{position_or_len}
use Rattle.std.proofs.lemmas.List.Recursion.{is_position_or_len}
use Rattle.std.proofs.lemmas.Option.{slice_get_within, same_Some}
use Rattle.river_base.specs.Name.{name_eq}
use Rattle.river_plan.specs.Forms.{Name}
use Rattle.river_plan.specs.Names.{count, one_if}
use Rattle.river_plan.specs.Places.{place}
use Rattle.river_plan.proofs.NameLemmas.{cases_name, name_sym}

-- A SET'S OWN ORDER

place-step : (b : Bool) (n : ℕ) → (if b then 0 else suc n) ≡ cond b 0 (1 + n)
place-step true n = refl
place-step false n = omega arith

-- the place is what std calls the first position, or the length
pub place-position : (names : List Name) (q : Name) → place names q ≡ position_or_len (name_eq q) names
place-position names q =
    is_position_or_len (λ ws. place ws q) (name_eq q) refl
    (λ w ws. ap (λ b. if b then 0 else suc (place ws q)) (name_sym w q) ∙ place-step (name_eq q w) (place ws q)) names

place-most : (names : List Name) (q : Name) → place names q ≤ length names
place-most [] q = omega arith
place-most (w ∷ ws) q = by (name_eq w q) (place-most ws q)
  where
    by : (b : Bool) → place ws q ≤ length ws → (if b then 0 else suc (place ws q)) ≤ suc (length ws)
    by true h = omega arith
    by false h = omega (arith, h)

-- what a search by position finds, or the number of names
pub place-found : (names keys : List Name) (q : Name) (o : Option ℕ) (n : ℕ) → keys ≡ names → o ≡ position (name_eq q) keys → n ≡ length keys
    → unwrap_or o n ≡ place names q
place-found names keys q o n k e l =
    ap (λ p. unwrap_or p n) e ∙ ap (λ m. unwrap_or (position (name_eq q) keys) m) l ∙ ap (λ ws. unwrap_or (position (name_eq q) ws) (length ws)) k ∙ here
  where
    pick : (b : Bool) (m : ℕ) → nat_lt m (length names) ≡ b → m ≤ length names → unwrap_or (cond b (Some m) None) (length names) ≡ m
    pick true m t le = refl
    pick false m t le = grind (arith, t, le)

    here : unwrap_or (position (name_eq q) names) (length names) ≡ place names q
    here =
        ap (λ m. unwrap_or (cond (nat_lt m (length names)) (Some m) None) (length names)) (sym (place-position names q))
        ∙ pick (nat_lt (place names q) (length names)) (place names q) refl (place-most names q)

-- NAMES THAT STAND THERE

-- the place of the first name
pub place-here : (w : Name) (ws : List Name) (q : Name) → name_eq w q ≡ true → place (w ∷ ws) q ≡ 0
place-here w ws q t = ap (λ b. if b then 0 else suc (place ws q)) t

-- the place of a later name
pub place-past : (w : Name) (ws : List Name) (q : Name) → name_eq w q ≡ false → place (w ∷ ws) q ≡ suc (place ws q)
place-past w ws q f = ap (λ b. if b then 0 else suc (place ws q)) f

-- at the place of a name that stands in the list stands that name
pub place_at : (names : List Name) (q : Name) → 0 < count q names → slice_get names (place names q) ≡ Some q
place_at [] q lt = absurd (omega (arith, lt))
place_at (w ∷ ws) q lt = ⊎_elim
    (λ c. ap (slice_get (w ∷ ws)) (place-here w ws q c.1) ∙ ap Some c.0)
    (λ c. ap (slice_get (w ∷ ws)) (place-past w ws q c.1) ∙ place_at ws q (let e = ap one_if c.1 in omega (arith, e, lt)))
    (cases_name w q)

-- a name that stands in the list has a place below its length
pub place_below : (names : List Name) (q : Name) → 0 < count q names → place names q < length names
place_below names q lt = slice_get_within names (place names q) q (place_at names q lt)

-- two names that stand there have two places
pub place_apart : (names : List Name) (w q : Name) → 0 < count w names → 0 < count q names → place names w ≡ place names q → w ≡ q
place_apart names w q lw lq e = same_Some w q (sym (place_at names w lw) ∙ ap (slice_get names) e ∙ place_at names q lq)

more : (q : Name) (xs ys : List Name) → 0 < count q xs → 0 < count q (xs ++ ys)
more q [] ys l = absurd (omega (arith, l))
more q (z ∷ zs) ys l = ⊎_elim
    (λ c. let e = ap one_if c.1 in omega (arith, e))
    (λ c. let e = ap one_if c.1 in let h = more q zs ys (omega (arith, e, l)) in omega (arith, h))
    (cases_name z q)

-- a name of the first list keeps its place before a second one
pub place_front : (xs ys : List Name) (q : Name) → 0 < count q xs → place (xs ++ ys) q ≡ place xs q
place_front [] ys q lt = absurd (omega (arith, lt))
place_front (x ∷ xs) ys q lt = ⊎_elim
    (λ c. place-here x (xs ++ ys) q c.1 ∙ sym (place-here x xs q c.1))
    (λ c. place-past x (xs ++ ys) q c.1 ∙ ap suc (place_front xs ys q (let e = ap one_if c.1 in omega (arith, e, lt))) ∙ sym (place-past x xs q c.1))
    (cases_name x q)

-- one that is not in the first list comes behind it
pub place_back : (xs ys : List Name) (q : Name) → count q xs ≡ 0 → place (xs ++ ys) q ≡ length xs + place ys q
place_back [] ys q z = omega arith
place_back (x ∷ xs) ys q z = ⊎_elim
    (λ c. absurd (let e = ap one_if c.1 in omega (arith, e, z)))
    (λ c. let h = place-past x (xs ++ ys) q c.1 in let e = place_back xs ys q (omega (arith, z)) in omega (arith, h, e))
    (cases_name x q)
