-- The units of tokens joined are the tokens, and each but the last ends at its only end.
use Rattle.std.proofs.Common.{◌≡◌, ℕ, ◌<◌, Bool, true, false, List, [], ◌∷◌, ◌++◌, length, refl, ap, ◌∙◌, subst, arith}
use Rattle.std.specs.Prelude.{if◌then◌else◌}
use Rattle.text_tokens.specs.Cut.{cut, ends_unit, braces_after, to_first}
use Rattle.text_tokens.specs.Tok.{Tok}
use Rattle.text_tokens.specs.Laws.{open_behind, joined_units, IsUnitBefore, AreUnitsBefore, UnitsAreCut}

-- ---- NOTHING IS LOST

joined-first : (t : Tok) (us : List (List Tok)) → joined_units (to_first t us) ≡ t ∷ joined_units us
joined-first t [] = refl
joined-first t (u ∷ us) = refl

joined-cut : (b : ℕ) (ts : List Tok) → joined_units (cut b ts) ≡ ts
unfolding cut
joined-cut b [] = refl
joined-cut b (t ∷ ts) = by (ends_unit b t ts) (joined-cut 0 ts) (joined-cut (braces_after b t) ts) where
  by : (c : Bool) → joined_units (cut 0 ts) ≡ ts → joined_units (cut (braces_after b t) ts) ≡ ts
      → joined_units (if c then (t ∷ []) ∷ cut 0 ts else to_first t (cut (braces_after b t) ts)) ≡ t ∷ ts
  by true here there = ap (λ (l : List Tok). t ∷ l) here
  by false here there = joined-first t (cut (braces_after b t) ts) ∙ ap (λ (l : List Tok). t ∷ l) there

-- ---- A UNIT ENDS AT ITS END

-- one token that ends a unit
one_unit : (b : ℕ) (t : Tok) (behind : List Tok) → ends_unit b t behind ≡ true → IsUnitBefore b (t ∷ []) behind
one_unit b t behind end = record {
  some = omega arith;
  goes_on = λ front back x is more. absurd (none front back x is more);
  ends = λ more. ([], t, refl, end);
}
  where
    none : (front back : List Tok) (x : Tok) → t ∷ [] ≡ front ++ x ∷ back → 0 < length back → ⊥
    none [] [] x is more = absurd (omega arith)
    none [] (y ∷ ys) x is more = cc
    none (z ∷ []) back x is more = cc
    none (z ∷ w ∷ ws) back x is more = cc

-- the last token of a text, which is a unit whether it ends one or not
last_unit : (b : ℕ) (t : Tok) → IsUnitBefore b (t ∷ []) []
last_unit b t = record {
  some = omega arith;
  goes_on = λ front back x is more. absurd (none front back x is more);
  ends = λ more. absurd (omega arith);
}
  where
    none : (front back : List Tok) (x : Tok) → t ∷ [] ≡ front ++ x ∷ back → 0 < length back → ⊥
    none [] [] x is more = absurd (omega arith)
    none [] (y ∷ ys) x is more = cc
    none (z ∷ []) back x is more = cc
    none (z ∷ w ∷ ws) back x is more = cc

-- a token that ends no unit, before a unit
more_unit : (b : ℕ) (t : Tok) (u behind : List Tok) → ends_unit b t (u ++ behind) ≡ false → IsUnitBefore (braces_after b t) u behind
    → IsUnitBefore b (t ∷ u) behind
more_unit b t u behind goes unit = record { some = omega arith; goes_on = on; ends = λ more. last (unit.ends more) } where
  on : (front back : List Tok) (x : Tok) → t ∷ u ≡ front ++ x ∷ back → 0 < length back → ends_unit (open_behind b front) x (back ++ behind) ≡ false
  on [] back x is more =
      let head : t ≡ x = cc in let tail : u ≡ back = cc in
      subst (λ (l : List Tok). ends_unit b x (l ++ behind) ≡ false) tail (subst (λ (y : Tok). ends_unit b y (u ++ behind) ≡ false) head goes)
  on (y ∷ front) back x is more =
      let head : t ≡ y = cc in let tail : u ≡ front ++ x ∷ back = cc in
      subst (λ (z : Tok). ends_unit (open_behind b (z ∷ front)) x (back ++ behind) ≡ false) head (unit.goes_on front back x tail more)

  last : (front : List Tok) × (x : Tok) × (u ≡ front ++ x ∷ []) × (ends_unit (open_behind (braces_after b t) front) x behind ≡ true)
      → (front : List Tok) × (x : Tok) × (t ∷ u ≡ front ++ x ∷ []) × (ends_unit (open_behind b front) x behind ≡ true)
  last (front, x, is, end) = (t ∷ front, x, ap (λ (l : List Tok). t ∷ l) is, end)

-- a token that ends no unit, before units
more_units : (b : ℕ) (t : Tok) (us : List (List Tok)) → ends_unit b t (joined_units us) ≡ false → AreUnitsBefore (braces_after b t) us
    → AreUnitsBefore b (to_first t us)
more_units b t [] goes are = (last_unit b t, tt)
more_units b t (u ∷ us) goes are = (more_unit b t u (joined_units us) goes are.0, are.1)

are-units : (b : ℕ) (ts : List Tok) → AreUnitsBefore b (cut b ts)
unfolding cut
are-units b [] = tt
are-units b (t ∷ ts) = by (ends_unit b t ts) refl (are-units 0 ts) (are-units (braces_after b t) ts) where
  by : (c : Bool) → ends_unit b t ts ≡ c → AreUnitsBefore 0 (cut 0 ts) → AreUnitsBefore (braces_after b t) (cut (braces_after b t) ts)
      → AreUnitsBefore b (if c then (t ∷ []) ∷ cut 0 ts else to_first t (cut (braces_after b t) ts))
  by true is here there = (one_unit b t (joined_units (cut 0 ts)) (ap (ends_unit b t) (joined-cut 0 ts) ∙ is), here)
  by false is here there = more_units b t (cut (braces_after b t) ts) (ap (ends_unit b t) (joined-cut (braces_after b t) ts) ∙ is) there

-- the law: units joined are the tokens, and each but the last ends at its only end
pub units_are_cut : UnitsAreCut
units_are_cut ts = (joined-cut 0 ts, are-units 0 ts)
