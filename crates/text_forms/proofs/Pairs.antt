-- Equations of options and pairs, taken apart.
use Rattle.std.proofs.Common.{◌≡◌, Bool, true, false, cond, Option, Some, refl, ap}
use Rattle.std.proofs.lemmas.Option.{same_Some}

-- and of a pair each part
pub pair_inj : {A B : Type 0} {p q : A × B} → Some p ≡ Some q → (p.0 ≡ q.0) × (p.1 ≡ q.1)
pair_inj {A} {B} {p} {q} e = let same : p ≡ q = same_Some _ _ e in (ap (λ (r : A × B). r.0) same, ap (λ (r : A × B). r.1) same)

-- what one of two answers is, by which of them is taken
pub choose : {X P : Type 0} (b : Bool) (x y : Option X) (v : X) → cond b x y ≡ Some v → (b ≡ true → x ≡ Some v → P) → (b ≡ false → y ≡ Some v → P) → P
choose true x y v e f g = f refl e
choose false x y v e f g = g refl e
