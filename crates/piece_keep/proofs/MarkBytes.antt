-- Whether a byte-order mark stands at a place of a file.
use Rattle.std.proofs.Common.{◌≡◌, ℕ, zero, suc, ◌+◌, ◌≤◌, ◌<◌, Bool, true, false, List, [], ◌∷◌, length, take, drop, refl, sym, ap, ◌∙◌, subst, arith}
use Rattle.std.specs.Prelude.{Option, None, Some, IfSome, ◌==◌, ◌&&◌}
use Rattle.csv_cuts.specs.Cut.{is_marked}
use Rattle.river_outside.specs.Held.{Held, ReadsHeld, EndsBy}
use Rattle.piece_work.specs.Held.{bytes_of}
use Rattle.piece_keep.specs.Fed.{has_byte, is_first}

drop-suc : (n : ℕ) (xs : List ℕ) → drop (suc n) xs ≡ drop 1 (drop n xs)
drop-suc zero xs = refl
drop-suc (suc n) [] = refl
drop-suc (suc n) (x ∷ xs) = drop-suc n xs

drop-more : (n : ℕ) (xs : List ℕ) → drop (n + 1) xs ≡ drop 1 (drop n xs)
drop-more n xs =
    let e : n + 1 ≡ suc n = omega arith in
    ap (λ (k : ℕ). drop k xs) e ∙ drop-suc n xs

drop-two : (n : ℕ) (xs : List ℕ) → drop (n + 2) xs ≡ drop 2 (drop n xs)
drop-two n xs =
    let e : n + 2 ≡ suc (suc n) = omega arith in
    ap (λ (k : ℕ). drop k xs) e ∙ drop-suc (suc n) xs ∙ ap (drop 1) (drop-suc n xs) ∙ sym (drop-suc 1 (drop n xs))

and-no : (a : Bool) → (a && false) ≡ false
and-no true = refl
and-no false = refl

-- the three bytes of a mark, one by one
three : (xs : List ℕ) → is_marked xs ≡ ((is_first xs 239 && is_first (drop 1 xs) 187) && is_first (drop 2 xs) 191)
three [] = refl
three (a ∷ []) = sym (and-no ((a == 239) && false))
three (a ∷ b ∷ []) = sym (and-no ((a == 239) && (b == 187)))
three (a ∷ b ∷ c ∷ r) = refl

three-at : (xs : List ℕ) (at : ℕ) → is_marked (drop at xs) ≡ ((is_first (drop at xs) 239 && is_first (drop (at + 1) xs) 187) && is_first (drop (at + 2) xs) 191)
three-at xs at =
    let one : drop (at + 1) xs ≡ drop 1 (drop at xs) = drop-more at xs in
    let two : drop (at + 2) xs ≡ drop 2 (drop at xs) = drop-two at xs in
    three (drop at xs) ∙ rw (one, two) refl

-- what the three bytes say
pub marked-is : (o p q : Option Held) (file : List ℕ) (at : ℕ) (a b c : Bool) → p ≡ o → q ≡ o
    → IfSome o (λ h. a ≡ has_byte (h file) at 239) → IfSome p (λ h. b ≡ has_byte (h file) (at + 1) 187) → IfSome q (λ h. c ≡ has_byte (h file) (at + 2) 191)
    → IfSome o (λ h. ((a && b) && c) ≡ is_marked (drop at (bytes_of (h file))))
marked-is o p q file at a b c same there first second third =
    by o first (subst (λ (r : Option Held). IfSome r (λ h. b ≡ has_byte (h file) (at + 1) 187)) same second)
    (subst (λ (r : Option Held). IfSome r (λ h. c ≡ has_byte (h file) (at + 2) 191)) there third) where
      by : (r : Option Held) → IfSome r (λ h. a ≡ has_byte (h file) at 239) → IfSome r (λ h. b ≡ has_byte (h file) (at + 1) 187)
          → IfSome r (λ h. c ≡ has_byte (h file) (at + 2) 191) → IfSome r (λ h. ((a && b) && c) ≡ is_marked (drop at (bytes_of (h file))))
      by None x y z = tt
      by (Some h) x y z = rw (x, y, z) (sym (three-at (bytes_of (h file)) at))

-- ONE BYTE

drop-all : (n : ℕ) (xs : List ℕ) → length xs ≤ n → drop n xs ≡ []
drop-all zero [] l = refl
drop-all zero (x ∷ xs) l = absurd (omega (arith, l))
drop-all (suc n) [] l = refl
drop-all (suc n) (x ∷ xs) l = drop-all n xs (omega (arith, l))

-- the file has none there
pub byte-none : (o : Option Held) (file : List ℕ) (at byte : ℕ) → IfSome o (λ h. EndsBy (h file) at) → IfSome o (λ h. false ≡ has_byte (h file) at byte)
byte-none None file at byte e = tt
byte-none (Some held) file at byte e = by (held file) e where
  by : (f : Option (List ℕ)) → EndsBy f at → false ≡ has_byte f at byte
  by None e = absurd e
  by (Some bytes) e = sym (ap (λ (l : List ℕ). is_first l byte) (drop-all at bytes e))

first-is : (n x byte : ℕ) (ys : List ℕ) → take (suc n) (x ∷ []) ≡ take (suc n) ys → (x == byte) ≡ is_first ys byte
first-is n x byte [] e = absurd (cc e)
first-is n x byte (y ∷ ys) e = let same : x ≡ y = cc e in ap (λ (z : ℕ). z == byte) same

-- or this one
pub byte-some : (o : Option Held) (file : List ℕ) (at n byte x : ℕ) (piece : List ℕ) → 0 < n → piece ≡ x ∷ [] → IfSome o (λ h. ReadsHeld (h file) at n piece)
    → IfSome o (λ h. (x == byte) ≡ has_byte (h file) at byte)
byte-some None file at n byte x piece some is reads = tt
byte-some (Some held) file at zero byte x piece some is reads = absurd (omega (arith, some))
byte-some (Some held) file at (suc n) byte x piece some is reads = by (held file) reads where
  by : (f : Option (List ℕ)) → ReadsHeld f at (suc n) piece → (x == byte) ≡ has_byte f at byte
  by None r = absurd r
  by (Some bytes) r = first-is n x byte (drop at bytes) (ap (take (suc n)) (sym is) ∙ r.0)

pub ruleset marks = (byte-none)
