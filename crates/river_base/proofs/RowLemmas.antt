-- Lemmas on a row that is filled from the front.
use Rattle.std.proofs.Common.{◌≡◌, ℕ, ◌<◌, ◌≤◌, ◌+◌, ◌-◌, suc, List, [], ◌++◌, ◌∷◌, length, get_or, take, drop, sym, ap, subst, ◌∙◌, arith, refl, append_assoc, length-append}
use Rattle.std.proofs.Math.ListN.{replicate, set}
use Rattle.std.proofs.Math.Seq.{drop-append_seam, set-append_seam, take-append_seam}
use Rattle.river_base.specs.Short.{IsShort, padded}
use Rattle.std.proofs.lemmas.List.{take_more, length-take-le, take_all, drop-set-lt, length-set, take_more_set, drop-drop, drop-replicate, length-replicate}

-- one more element is written over the first of the fillers
pub filled_more : {X : Type 0} (z : X) (vs : List X) (i n : ℕ) (d : X) → i < length vs → i < n
    → set (take i vs ++ replicate (n - i) z) i (get_or vs i d) ≡ take (i + 1) vs ++ replicate (n - (i + 1)) z
filled_more z vs i n d h g =
    let e : n - i ≡ suc (n - (i + 1)) = omega arith in
    let l : length (take i vs) ≡ i = length-take-le i vs (omega arith) in
    let y = get_or vs i d in
    let a : set (take i vs ++ replicate (n - i) z) i y ≡ set (take i vs ++ z ∷ replicate (n - (i + 1)) z) (length (take i vs)) y = rw (e, l) refl in
    a ∙ set-append_seam (take i vs) z (replicate (n - (i + 1)) z) y ∙ sym (rw (take_more vs i d h, append_assoc) refl)

-- all elements are written
pub filled_all : {X : Type 0} (most : ℕ) (z : X) (vs : List X) (i : ℕ) → length vs ≤ i → i ≤ length vs → take i vs ++ replicate (most - i) z ≡ padded most z vs
filled_all most z vs i h g =
    let e : i ≡ length vs = omega arith in
    ap (λ n. take n vs ++ replicate (most - n) z) e ∙ ap (λ l. l ++ replicate (most - length vs) z) (take_all (length vs) vs (omega arith))

-- what an array that is filled with vs shows
pub shown : {X : Type 0} (most : ℕ) (z : X) (vs all : List X) (i : ℕ) → length vs ≤ i → i ≤ length vs → all ≡ take i vs ++ replicate (most - i) z
    → take (length vs) all ≡ vs
shown most z vs all i h g e = ap (take (length vs)) (e ∙ filled_all most z vs i h g) ∙ take-append_seam vs (replicate (most - length vs) z)

-- the array that holds a list is one
IsShort-padded : {X : Type 0} (cap : ℕ) (z : X) (xs : List X) → length xs ≤ cap → IsShort cap z (length xs) (padded cap z xs)
IsShort-padded cap z xs h =
    record {
      at_most = h;
      full = length-append xs (replicate (cap - length xs) z) ∙ omega (arith, length-replicate (cap - length xs) z);
      rest = drop-append_seam xs (replicate (cap - length xs) z);
    }

-- the first values, filled up with zeros
pub short : {X : Type 0} (most : ℕ) (z : X) (vs all : List X) (i : ℕ) → length vs ≤ most → length vs ≤ i → i ≤ length vs
    → all ≡ take i vs ++ replicate (most - i) z → IsShort most z (length vs) all
short most z vs all i b h g e = subst (λ l. IsShort most z (length vs) l) (sym (e ∙ filled_all most z vs i h g)) (IsShort-padded most z vs b)

-- one more value is kept
pub IsShort-pushed : {X : Type 0} (most : ℕ) (z : X) (len : ℕ) (values : List X) (x : X) → IsShort most z len values → len < most
    → IsShort most z (len + 1) (set values len x)
IsShort-pushed most z len values x h g =
    let rest : drop (len + 1) values ≡ replicate (most - (len + 1)) z = sym (drop-drop 1 len values) ∙ ap (drop 1) h.rest ∙ drop-replicate 1 (most - len) z
    ∙ ap (λ n. replicate n z) (omega arith) in
    record {
      at_most = omega arith;
      full = length-set values len x ∙ h.full;
      rest = drop-set-lt (len + 1) values len x (omega arith) ∙ rest;
    }

-- one value more
pub shown_pushed : {X : Type 0} (most : ℕ) (z : X) (len : ℕ) (values row : List X) (x : X) → IsShort most z len values → len < most → take len values ≡ row
    → take (len + 1) (set values len x) ≡ row ++ x ∷ []
shown_pushed most z len values row x h g e = take_more_set values len x (omega (arith, h.full)) ∙ ap (λ l. l ++ x ∷ []) e

-- the list has `len` elements
pub short_width : {X : Type 0} (most : ℕ) (z : X) (len : ℕ) (values row : List X) → IsShort most z len values → take len values ≡ row → length row ≡ len
short_width most z len values row h e = sym (ap length e) ∙ length-take-le len values (omega (arith, h.at_most, h.full))
