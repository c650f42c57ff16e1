-- Instants that rise.
use Rattle.std.proofs.Common.{◌≡◌, ◌<ℤ◌, ℤ, Bool, true, false, List, [], ◌∷◌, ◌++◌, refl, sym, ap, ◌∙◌, arith, cond}
use Rattle.std.specs.Prelude.{int_lt, int_le, filter, ◌&&◌, pos, ◌-ℤ◌}
use Rattle.std.specs.List.{AllByRecursion}
use Rattle.std.specs.Ordering.{int_eq}
use Rattle.std.proofs.lemmas.List.Elements.{filter-append}
use Rattle.std.proofs.lemmas.List.{append-nil}
use Rattle.river_base.proofs.Tests.{int_lt_true}
use Rattle.cql_text.specs.Tree.{Window, Now, Range, Unbounded, Latest}
use Rattle.brooklet_model.specs.Fit.{Rises}
use Rattle.cql_model.specs.Streams.{in_reach}

-- all instants are above this one
abbrev pub AllAbove : ℤ → List ℤ → Type 0
AllAbove t us = AllByRecursion (λ u. int_lt t u ≡ true) us

-- all instants are below this one
abbrev pub AllBelow : ℤ → List ℤ → Type 0
AllBelow t us = AllByRecursion (λ u. int_lt u t ≡ true) us

-- each is below all behind it
abbrev pub Ascends : List ℤ → Type 0
Ascends [] = Unit {0}
Ascends (t ∷ ts) = AllAbove t ts × Ascends ts

lt_over : (t u v : ℤ) → t <ℤ u → int_lt u v ≡ true → int_lt t v ≡ true
lt_over t u v h g = grind (arith, h, g)

above_over : (t u : ℤ) (vs : List ℤ) → t <ℤ u → AllAbove u vs → AllAbove t vs
above_over t u [] lt h = tt
above_over t u (v ∷ vs) lt h = (lt_over t u v lt h.0, above_over t u vs lt h.1)

-- instants that rise are each below all behind them
pub ascends : (ts : List ℤ) → Rises ts → Ascends ts
ascends [] h = tt
ascends (t ∷ []) h = (tt, tt)
ascends (t ∷ u ∷ ts) h = let m = ascends (u ∷ ts) h.1 in ((int_lt_true t u h.0, above_over t u ts h.0 m.0), m)

above_back : (t : ℤ) (us vs : List ℤ) → AllAbove t (us ++ vs) → AllAbove t vs
above_back t [] vs h = h
above_back t (u ∷ us) vs h = above_back t us vs h.1

pub ascends_back : (us vs : List ℤ) → Ascends (us ++ vs) → Ascends vs
ascends_back [] vs h = h
ascends_back (u ∷ us) vs h = ascends_back us vs h.1

-- all before t are below it, all behind it above
pub ascends_below : (us vs : List ℤ) (t : ℤ) → Ascends (us ++ (t ∷ vs)) → AllBelow t us
ascends_below [] vs t h = tt
ascends_below (u ∷ us) vs t h = ((above_back u us (t ∷ vs) h.0).0, ascends_below us vs t h.1)

pub ascends_above : (us vs : List ℤ) (t : ℤ) → Ascends (us ++ (t ∷ vs)) → AllAbove t vs
ascends_above us vs t h = (ascends_back us (t ∷ vs) h).0

-- nothing above t is in reach
lt_le : (t u : ℤ) → int_lt t u ≡ true → int_le u t ≡ false
lt_le t u h = grind (arith, h)

lt_eq : (t u : ℤ) → int_lt t u ≡ true → int_eq u t ≡ false
lt_eq t u h = grind (arith, h)

pub out_of_reach : (w : Window) (t u : ℤ) → int_lt t u ≡ true → in_reach w t u ≡ false
out_of_reach Now t u h = lt_eq t u h
out_of_reach (Range n unit) t u h = ap (λ b. b && (int_le (t -ℤ pos n) u && int_le (pos 0) u)) (lt_le t u h)
out_of_reach Unbounded t u h = lt_le t u h
out_of_reach (Latest n) t u h = lt_le t u h

pub filter-none : (p : ℤ → Bool) (us : List ℤ) → AllByRecursion (λ u. p u ≡ false) us → filter p us ≡ []
filter-none p [] h = refl
filter-none p (u ∷ us) h = ap (λ b. cond b (u ∷ filter p us) (filter p us)) h.0 ∙ filter-none p us h.1

pub filter-all : (p : ℤ → Bool) (us : List ℤ) → AllByRecursion (λ u. p u ≡ true) us → filter p us ≡ us
filter-all p [] h = refl
filter-all p (u ∷ us) h = ap (λ b. cond b (u ∷ filter p us) (filter p us)) h.0 ∙ ap (λ l. u ∷ l) (filter-all p us h.1)

pub each-map : {A : Type 0} (P Q : A → Type 0) → ((a : A) → P a → Q a) → (us : List A) → AllByRecursion P us → AllByRecursion Q us
each-map P Q f [] h = tt
each-map P Q f (u ∷ us) h = (f u h.0, each-map P Q f us h.1)

-- what is in reach at t stands up to t
pub reach_front : (w : Window) (us vs : List ℤ) (t : ℤ) → Ascends (us ++ (t ∷ vs))
    → filter (in_reach w t) (us ++ (t ∷ vs)) ≡ filter (in_reach w t) (us ++ t ∷ [])
reach_front w us vs t h =
    let gone : filter (in_reach w t) vs ≡ [] =
    filter-none (in_reach w t) vs (each-map (λ u. int_lt t u ≡ true) (λ u. in_reach w t u ≡ false) (out_of_reach w t) vs (ascends_above us vs t h)) in
    filter-append (in_reach w t) us (t ∷ vs)
    ∙ ap (λ l. filter (in_reach w t) us ++ cond (in_reach w t t) (t ∷ l) l) gone
    ∙ sym (filter-append (in_reach w t) us (t ∷ []))

le_self : (t : ℤ) → int_le t t ≡ true
le_self t = grind arith

lt_self : (t : ℤ) → int_lt t t ≡ false
lt_self t = grind arith

lt_le_up : (u t : ℤ) → int_lt u t ≡ true → int_le u t ≡ true
lt_le_up u t h = grind (arith, h)

lt_not_back : (t u : ℤ) → int_lt t u ≡ true → int_lt u t ≡ false
lt_not_back t u h = grind (arith, h)

-- the instants below t are those before it
pub below_front : (us vs : List ℤ) (t : ℤ) → Ascends (us ++ (t ∷ vs)) → filter (λ u. int_lt u t) (us ++ (t ∷ vs)) ≡ us
below_front us vs t h =
    let P = λ (u : ℤ). int_lt u t in
    let gone : filter P (t ∷ vs) ≡ [] =
    filter-none P (t ∷ vs) (lt_self t, each-map (λ u. int_lt t u ≡ true) (λ u. P u ≡ false) (λ u. lt_not_back t u) vs (ascends_above us vs t h)) in
    filter-append P us (t ∷ vs) ∙ ap (λ l. filter P us ++ l) gone ∙ ap (λ l. l ++ []) (filter-all P us (ascends_below us vs t h)) ∙ append-nil us
