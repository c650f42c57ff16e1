-- Lemmas on the operations of 64 bits.
use Rattle.std.proofs.Common.{◌+ℤ◌, ◌*ℤ◌, ◌⊎◌, inl, inr, ⊎_elim, true, false, cond, ltb, ◌+◌}
use Rattle.std.proofs.lemmas.Int.{ints}
use Rattle.std.proofs.Common.{◌≡◌, ℕ, ◌<◌, ◌≤◌, ◌^◌, ◌/◌, ◌%◌, ◌-◌, zero, suc, neg_ℤ, sym, ap, arith, refl, ℤ, pos, negsuc}
use Rattle.std.proofs.Math.Nat.{mod-eq_of_lt, div-le_self}
use Rattle.std.specs.Int.{int_wrap, w64, cast_signed, cast_unsigned}
use Rattle.std.specs.Int.RustNames.{int_div, unsigned_abs, FitsSigned}

-- what a cast to bits and back leaves of an integer below 2^64
pub cast_is_wrap : (z : ℤ) → unsigned_abs z < 2 ^ 64 → cast_signed w64 (cast_unsigned w64 z) ≡ int_wrap w64 z
unfolding int_wrap
cast_is_wrap (pos n) h = ap (cast_signed w64) (sym (mod-eq_of_lt h))
cast_is_wrap (negsuc n) h =
    let below : n < 2 ^ 64 = omega arith in
    let e : n % 2 ^ 64 ≡ n = mod-eq_of_lt below in
    ap (cast_signed w64) (omega arith)

-- the size of a number below 0
pub abs_negated : (n : ℕ) → unsigned_abs (neg_ℤ (pos n)) ≡ n
abs_negated zero = refl
abs_negated (suc n) = refl

-- a quotient is no larger than what is divided
pub int_div_small : (a b : ℤ) → unsigned_abs (int_div a b) ≤ unsigned_abs a
int_div_small (pos a) (pos b) = div-le_self a b
int_div_small (pos a) (negsuc b) = rw abs_negated (div-le_self a (suc b))
int_div_small (negsuc a) (pos b) = rw abs_negated (div-le_self (suc a) b)
int_div_small (negsuc a) (negsuc b) = div-le_self (suc a) (suc b)

abs_below : (a : ℤ) → FitsSigned w64 a → unsigned_abs a < 2 ^ 64
abs_below (pos n) f = omega (arith, f.sfits)
abs_below (negsuc n) f = omega (arith, f.sfits)

-- division wraps as the definition says
pub int_div_wraps : (a b : ℤ) → FitsSigned w64 a → cast_signed w64 (cast_unsigned w64 (int_div a b)) ≡ int_wrap w64 (int_div a b)
int_div_wraps a b f = cast_is_wrap (int_div a b) (omega (arith, int_div_small a b, abs_below a f))

-- the two readings of a number below 2^64
signed : (r : ℕ) → r < 2 ^ 64 → (cast_signed w64 r ≡ pos r) ⊎ (cast_signed w64 r +ℤ pos (2 ^ 64) ≡ pos r)
signed r h =
    elim (ltb r (2 ^ 63)) as
    (λ b. (cond b (pos r) (negsuc (2 ^ 64 - suc r)) ≡ pos r) ⊎
    (cond b (pos r) (negsuc (2 ^ 64 - suc r)) +ℤ pos (2 ^ 64) ≡ pos r)) [ true ↦ inl refl | false ↦ inr (omega (arith, ints)) ]

-- an integer is what is left of it and a multiple of 2^64
pub wrap_modulo : (z : ℤ) → (k : ℤ) × (z ≡ int_wrap w64 z +ℤ k *ℤ pos (2 ^ 64))
unfolding int_wrap
wrap_modulo (pos a) = ⊎_elim
    (λ e. (pos (a / 2 ^ 64), omega (arith, ints, e)))
    (λ e. (pos (a / 2 ^ 64 + 1), omega (arith, ints, e)))
    (signed (a % 2 ^ 64) (omega arith))
wrap_modulo (negsuc a) = ⊎_elim
    (λ e. (negsuc (a / 2 ^ 64), omega (arith, ints, e)))
    (λ e. (neg_ℤ (pos (a / 2 ^ 64)), omega (arith, ints, e)))
    (signed (2 ^ 64 - 1 - a % 2 ^ 64) (omega arith))
