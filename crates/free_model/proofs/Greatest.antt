-- A round has no room for a further choice.
use Rattle.std.proofs.Common.{◌≤◌, ◌≡◌, ℕ, zero, ◌+◌, ◌%◌, ◌<◌, ◌⊎◌, inl, inr, Bool, true, false, not, List, [], ◌∷◌, ◌++◌, length, take, drop, refl, sym, ap}
use Rattle.std.proofs.Common.{◌∙◌, subst, arith, ⊎_elim, nat_eq}
use Rattle.std.specs.Prelude.{if◌then◌else◌, nat_lt, ◌&&◌, ◌||◌}
use Rattle.std.specs.List.{list_any}
use Rattle.std.proofs.lemmas.List.{length-append, take-append-drop}
use Rattle.std.proofs.lemmas.Bool.{cases_Bool, ltb-true}
use Rattle.river_base.specs.Name.{name_eq}
use Rattle.river_plan.proofs.NameLemmas.{true_false}
use Rattle.river_base.proofs.PlaceLemmas.{if_true, if_false}
use Rattle.free_model.specs.Forms.{FreeForm}
use Rattle.free_model.specs.Machine.{State}
use Rattle.free_model.specs.Rounds.{choices, cells_at, meet, shares, is_kept, kept_of, turned, round_of}
use Rattle.free_model.specs.Apart.{Every}
use Rattle.free_model.specs.Greatest.{IsLeft, IsGreatest, RoundsAreGreatest}
use Rattle.free_model.proofs.Lists.{every_join, every_left, every_right}
use Rattle.free_model.proofs.Kept.{round_apart, round_ready, kept_grows}

any_more : (f : ℕ × ℕ → Bool) (xs ys : List (ℕ × ℕ)) → list_any f xs ≡ true → list_any f (xs ++ ys) ≡ true
any_more f [] ys h = absurd (true_false (sym h))
any_more f (x ∷ xs) ys h = ⊎_elim
    (λ e. ap (λ (a : Bool). a || list_any f (xs ++ ys)) e)
    (λ e. ap (λ (a : Bool). a || list_any f (xs ++ ys)) e ∙ any_more f xs ys (sym (ap (λ (a : Bool). a || list_any f xs) e) ∙ h))
    (cases_Bool (f x))

any_last : (f : ℕ × ℕ → Bool) (xs : List (ℕ × ℕ)) (x : ℕ × ℕ) → f x ≡ true → list_any f (xs ++ x ∷ []) ≡ true
any_last f [] x h = ap (λ (a : Bool). a || false) h
any_last f (y ∷ ys) x h = ⊎_elim
    (λ e. ap (λ (a : Bool). a || list_any f (ys ++ x ∷ [])) e)
    (λ e. ap (λ (a : Bool). a || list_any f (ys ++ x ∷ [])) e ∙ any_last f ys x h)
    (cases_Bool (f y))

-- a choice shares its operator with itself
self_shares : (p : FreeForm) (c : ℕ × ℕ) → shares name_eq (cells_at p) c c ≡ true
self_shares p c = ⊎_elim (λ e. e) (λ e. absurd (no (meet name_eq (cells_at p c.0) (cells_at p c.0)) e)) (cases_Bool (shares name_eq (cells_at p) c c))
  where
    no : (b : Bool) → (nat_eq c.0 c.0 || b) ≡ false → ⊥
    no b h = let t : true ≡ false = grind (arith, h) in true_false t

-- what holds of a kept one still holds of one that is kept later
kept_any : (share : ℕ × ℕ → ℕ × ℕ → Bool) (workers : ℕ) (f : ℕ × ℕ → Bool) (kept cs : List (ℕ × ℕ)) → list_any f kept ≡ true → list_any f (kept_of share workers kept cs) ≡ true
kept_any share workers f kept [] h = h
kept_any share workers f kept (c ∷ cs) h = ⊎_elim
    (λ e. subst (λ l. list_any f (kept_of share workers l cs) ≡ true) (sym (if_true (is_kept share workers kept c) (kept ++ c ∷ []) kept e))
    (kept_any share workers f (kept ++ c ∷ []) cs (any_more f kept (c ∷ []) h)))
    (λ e. subst (λ l. list_any f (kept_of share workers l cs) ≡ true) (sym (if_false (is_kept share workers kept c) (kept ++ c ∷ []) kept e)) (kept_any share workers f kept cs h))
    (cases_Bool (is_kept share workers kept c))

kept_few : (share : ℕ × ℕ → ℕ × ℕ → Bool) (workers : ℕ) (kept cs : List (ℕ × ℕ)) → length kept ≤ workers → length (kept_of share workers kept cs) ≤ workers
kept_few share workers kept [] h = h
kept_few share workers kept (c ∷ cs) h = ⊎_elim
    (λ e.
    let lt = ltb-true (length kept) workers (front (nat_lt (length kept) workers) (not (list_any (λ k. share k c) kept)) e) in
    let l = length-append kept (c ∷ []) in
    subst (λ l. length (kept_of share workers l cs) ≤ workers) (sym (if_true (is_kept share workers kept c) (kept ++ c ∷ []) kept e))
    (kept_few share workers (kept ++ c ∷ []) cs (omega (arith, lt, l))))
    (λ e. subst (λ l. length (kept_of share workers l cs) ≤ workers) (sym (if_false (is_kept share workers kept c) (kept ++ c ∷ []) kept e)) (kept_few share workers kept cs h))
    (cases_Bool (is_kept share workers kept c))
  where
    front : (a b : Bool) → (a && b) ≡ true → a ≡ true
    front true b h = refl
    front false b h = absurd (true_false (sym h))

kept_left : (p : FreeForm) (workers : ℕ) (kept cs : List (ℕ × ℕ)) → Every (IsLeft p workers (kept_of (shares name_eq (cells_at p)) workers kept cs)) cs
kept_left p workers kept [] = tt
kept_left p workers kept (c ∷ cs) = ⊎_elim
    (λ e. subst (λ l. Every (IsLeft p workers (kept_of (shares name_eq (cells_at p)) workers l cs)) (c ∷ cs))
    (sym (if_true (is_kept (shares name_eq (cells_at p)) workers kept c) (kept ++ c ∷ []) kept e)) (
      inr (kept_any (shares name_eq (cells_at p)) workers (λ k. shares name_eq (cells_at p) k c) (kept ++ c ∷ []) cs (any_last (λ k. shares name_eq (cells_at p) k c) kept c (self_shares p c))),
      kept_left p workers (kept ++ c ∷ []) cs,
    ))
    (λ e. subst (λ l. Every (IsLeft p workers (kept_of (shares name_eq (cells_at p)) workers l cs)) (c ∷ cs))
    (sym (if_false (is_kept (shares name_eq (cells_at p)) workers kept c) (kept ++ c ∷ []) kept e))
    (still (nat_lt (length kept) workers) (list_any (λ k. shares name_eq (cells_at p) k c) kept) refl refl e, kept_left p workers kept cs))
    (cases_Bool (is_kept (shares name_eq (cells_at p)) workers kept c))
  where
    all : List (ℕ × ℕ)
    all = kept_of (shares name_eq (cells_at p)) workers kept cs

    still : (a b : Bool) → nat_lt (length kept) workers ≡ a → list_any (λ k. shares name_eq (cells_at p) k c) kept ≡ b → (a && not b) ≡ false → IsLeft p workers all c
    still true true x y h = inr (kept_any (shares name_eq (cells_at p)) workers (λ k. shares name_eq (cells_at p) k c) kept cs y)
    still true false x y h = absurd (true_false h)
    still false b x y h =
        let le : workers ≤ length kept = grind (arith, x) in
        let g = kept_grows (shares name_eq (cells_at p)) workers kept cs in
        inl (omega (arith, le, g))

pub rounds_are_greatest : RoundsAreGreatest
rounds_are_greatest p workers pick s =
    let cs = choices p s in
    let k = pick % length cs in
    let P = IsLeft p workers (round_of p workers pick s) in
    let h : Every P (turned k cs) = kept_left p workers [] (turned k cs) in
    record {
      few = kept_few (shares name_eq (cells_at p)) workers [] (turned k cs) (omega arith);
      round = (round_ready p workers pick s, round_apart p workers pick s);
      full = subst (Every P) (take-append-drop k cs) (every_join P (take k cs) (drop k cs) (every_right P (drop k cs) (take k cs) h) (every_left P (drop k cs) (take k cs) h));
    }
