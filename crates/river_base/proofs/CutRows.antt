-- Rows that are cut off the front of values.
use Rattle.std.proofs.Common.{◌≡◌, ℕ, zero, suc, ℤ, ◌+◌, ◌*◌, ◌≤◌, List, ◌∷◌, ◌++◌, length, take, drop, refl, sym, ap, ◌∙◌, arith}
use Rattle.std.proofs.Common.{length-drop}
use Rattle.std.proofs.lemmas.List.{drop-append-le, drop-drop, drop_at, take-append-le}
use Rattle.river_base.specs.WideRows.{cut_rows}

-- values are cut into as many rows as asked
pub length-cut : (w n : ℕ) (vs : List ℤ) → length (cut_rows w n vs) ≡ n
length-cut w zero vs = refl
length-cut w (suc n) vs = ap suc (length-cut w n (drop w vs))

-- n + m rows are n of them, and m behind these
pub cut-both : (w n m : ℕ) (vs : List ℤ) → cut_rows w (n + m) vs ≡ cut_rows w n vs ++ cut_rows w m (drop (n * w) vs)
cut-both w zero m vs =
    let e : 0 + m ≡ m = omega arith in
    let z : 0 * w ≡ 0 = omega arith in
    ap (λ k. cut_rows w k vs) e ∙ ap (λ k. cut_rows w m (drop k vs)) (sym z)
cut-both w (suc n) m vs =
    let e : suc n + m ≡ suc (n + m) = omega arith in
    let s : w + n * w ≡ suc n * w = omega arith in
    ap (λ k. cut_rows w k vs) e
    ∙ ap (λ t. take w vs ∷ t) (cut-both w n m (drop w vs))
    ∙ ap (λ l. take w vs ∷ (cut_rows w n (drop w vs) ++ cut_rows w m l)) (drop-drop (n * w) w vs)
    ∙ ap (λ k. take w vs ∷ (cut_rows w n (drop w vs) ++ cut_rows w m (drop k vs))) s

-- rows that are there stay what they are, whatever follows
pub cut-front : (w n : ℕ) (vs us : List ℤ) → n * w ≤ length vs → cut_rows w n (vs ++ us) ≡ cut_rows w n vs
cut-front w zero vs us h = refl
cut-front w (suc n) vs us h =
    let s : suc n * w ≡ w + n * w = omega arith in
    let le : w ≤ length vs = omega (arith, h, s) in
    let l : n * w ≤ length (drop w vs) = omega (arith, h, s, length-drop w vs) in
    ap (λ t. take w (vs ++ us) ∷ cut_rows w n t) (drop-append-le w vs us le)
    ∙ ap (λ t. t ∷ cut_rows w n (drop w vs ++ us)) (take-append-le w vs us le)
    ∙ ap (λ t. take w vs ∷ t) (cut-front w n (drop w vs) us l)

-- values behind those of whole rows are cut into rows behind theirs
pub cut-append : (w n m : ℕ) (vs ws : List ℤ) → length vs ≡ n * w → cut_rows w (n + m) (vs ++ ws) ≡ cut_rows w n vs ++ cut_rows w m ws
cut-append w n m vs ws h =
    cut-both w n m (vs ++ ws)
    ∙ ap (λ t. t ++ cut_rows w m (drop (n * w) (vs ++ ws))) (cut-front w n vs ws (omega (arith, h)))
    ∙ ap (λ t. cut_rows w n vs ++ cut_rows w m t) (drop_at vs ws (n * w) h)
