-- Loops over names.
use Rattle.std.proofs.Common.{◌≡◌, ℕ, zero, suc, ◌+◌, ◌<◌, true, false, List, [], ◌∷◌, ◌++◌, length, take, get_or, refl, ap, ◌∙◌, subst, arith, nat_lt}
use Rattle.std.proofs.lemmas.Bool.{or_parts, or_from, or_left, or_right, lt-ltb, le-ltb}
use Rattle.river_base.proofs.Lists.{take_next}
use Rattle.river_plan.specs.Forms.{Name}
use Rattle.river_plan.specs.Names.{count}
use Rattle.rw_local.specs.Fuse.{share}

share-append : (vs ws us : List Name) → share vs us ≡ false → share ws us ≡ false → share (vs ++ ws) us ≡ false
share-append [] ws us a b = b
share-append (v ∷ vs) ws us a b =
    let p = or_parts (nat_lt 0 (count v us)) (share vs us) a in or_from (nat_lt 0 (count v us)) (share (vs ++ ws) us) p.0 (share-append vs ws us p.1 b)

-- a name that the other list has not
pub share_next : (us xs : List Name) (i : ℕ) (x : Name) → i < length xs → x ≡ get_or xs i x → count x us ≡ 0 → share (take i xs) us ≡ false
    → share (take (i + 1) xs) us ≡ false
share_next us xs i x lt e z h =
    ap (λ l. share l us) (take_next xs i x lt e)
    ∙ share-append (take i xs) (x ∷ []) us h (or_from (nat_lt 0 (count x us)) false (le-ltb 0 (count x us) (omega (arith, z))) refl)

-- a name that both lists have
pub share_at : (us xs : List Name) (i : ℕ) (x : Name) → i < length xs → x ≡ get_or xs i x → 0 < count x us → share xs us ≡ true
share_at us [] i x lt e h = absurd (omega (arith, lt))
share_at us (y ∷ xs) zero x lt e h = or_left (nat_lt 0 (count y us)) (share xs us) (lt-ltb 0 (count y us) (subst (λ n. 0 < count n us) e h))
share_at us (y ∷ xs) (suc i) x lt e h = or_right (nat_lt 0 (count y us)) (share xs us) (share_at us xs i x (omega (arith, lt)) e h)
