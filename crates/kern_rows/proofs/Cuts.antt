-- Rows that are cut off the front of values.
use Rattle.std.proofs.Common.{◌≡◌, ◌⊎◌, inl, inr, ℕ, zero, suc, ℤ, ◌+◌, ◌-◌, ◌*◌, ◌<◌, ◌≤◌, List, [], ◌∷◌, ◌++◌, length, take, drop, refl, sym, ap, ◌∙◌, subst, arith}
use Rattle.std.proofs.Common.{length-append, length-drop}
use Rattle.std.specs.Prelude.{All, slice_index_or}
use Rattle.std.proofs.lemmas.List.{take-append-le, drop-append-le, length-take-le, drop-drop, drop-take, take-take, take_all}
use Rattle.std.proofs.lemmas.List.Elements.{All-nil, All-cons, All-head}
use Rattle.std.proofs.Math.Nat.{mul-le-mul_left, mul-le-mul_right}
use Rattle.std.proofs.Math.Numerals.{add-one}
use Rattle.kern_rows.specs.Even.{AreEven, AreAsWide}
use Rattle.river_base.specs.WideRows.{cut_rows}
use Rattle.river_base.proofs.CutRows.{cut-append}

-- one more row at the end
pub cut-more : (w n : ℕ) (vs row : List ℤ) → length vs ≡ n * w → length row ≡ w → cut_rows w (suc n) (vs ++ row) ≡ cut_rows w n vs ++ row ∷ []
cut-more w zero [] row h r = ap (λ t. t ∷ []) (take_all w row (omega (arith, r)))
cut-more w zero (v ∷ vs) row h r = absurd (omega (arith, h))
cut-more w (suc n) vs row h r =
    let le : w ≤ length vs = omega (arith, h) in
    let l : length (drop w vs) ≡ n * w = omega (arith, h, length-drop w vs) in
    ap (λ t. take w (vs ++ row) ∷ cut_rows w (suc n) t) (drop-append-le w vs row le)
    ∙ ap (λ t. t ∷ cut_rows w (suc n) (drop w vs ++ row)) (take-append-le w vs row le)
    ∙ ap (λ t. take w vs ∷ t) (cut-more w n (drop w vs) row l r)

-- the row at a place
pub cut-at : (w n : ℕ) (vs : List ℤ) (i : ℕ) (d : List ℤ) → i < n → take w (drop (i * w) vs) ≡ slice_index_or (cut_rows w n vs) i d
cut-at w zero vs i d h = absurd (omega arith)
cut-at w (suc n) vs zero d h =
    let e : 0 * w ≡ 0 = omega arith in
    ap (λ k. take w (drop k vs)) e
cut-at w (suc n) vs (suc i) d h =
    let e : suc i * w ≡ w + i * w = omega arith in
    ap (λ k. take w (drop k vs)) e ∙ ap (take w) (sym (drop-drop (i * w) w vs)) ∙ cut-at w n (drop w vs) i d (omega arith)

-- all rows have the width
pub cut-wide : (w n : ℕ) (vs : List ℤ) → length vs ≡ n * w → All (λ r. length r ≡ w) (cut_rows w n vs)
cut-wide w zero vs h = All-nil (λ r. length r ≡ w)
cut-wide w (suc n) vs h =
    let le : w ≤ length vs = omega (arith, h) in
    let l : length (drop w vs) ≡ n * w = omega (arith, h, length-drop w vs) in
    All-cons (λ r. length r ≡ w) (take w vs) (cut_rows w n (drop w vs)) (length-take-le w vs le) (cut-wide w n (drop w vs) l)

-- the width is that of a row exactly where all rows are as wide as it
pub wide-is : (w n : ℕ) (vs row : List ℤ) (rows : List (List ℤ)) → (n ≡ 0 → ⊥) → AreEven w n vs → cut_rows w n vs ≡ rows
    → (w ≡ length row → AreAsWide row rows) × (AreAsWide row rows → w ≡ length row)
wide-is w zero vs row rows some h v = absurd (some refl)
wide-is w (suc n) vs row rows some h v =
    let all : All (λ r. length r ≡ w) rows = subst (λ rs. All (λ r. length r ≡ w) rs) v (cut-wide w (suc n) vs h.whole) in
    let le : w ≤ length vs = let e = h.whole in omega (arith, e) in (
      λ e. subst (λ k. All (λ r. length r ≡ k) rows) e all,
      λ wide.
          let first = All-head (λ r. length r ≡ length row) (take w vs) (cut_rows w n (drop w vs)) (subst (λ rs. AreAsWide row rs) (sym v) wide) in
          sym (length-take-le w vs le) ∙ first,
    )

-- one more row that is as wide as the others
push-suc : (w n : ℕ) (vs row new : List ℤ) (rows : List (List ℤ)) → AreEven w n vs → cut_rows w n vs ≡ rows → AreAsWide row rows → new ≡ vs ++ row
    → cut_rows (length row) (suc n) new ≡ rows ++ row ∷ []
push-suc w zero vs row new rows h v wide e =
    let z : length vs ≡ 0 * length row = let k = h.whole in omega (arith, k) in
    ap (cut_rows (length row) 1) e ∙ cut-more (length row) zero vs row z refl ∙ ap (λ l. l ++ row ∷ []) v
push-suc w (suc n) vs row new rows h v wide e =
    let is : w ≡ length row = (wide-is w (suc n) vs row rows (λ z. absurd (omega (arith, z))) h v).1 wide in
    ap (λ k. cut_rows k (suc (suc n)) new) (sym is) ∙ ap (cut_rows w (suc (suc n))) e ∙ cut-more w (suc n) vs row h.whole (sym is) ∙ ap (λ l. l ++ row ∷ []) v

-- a row more is a row more of the cut
pub push-is : (w n : ℕ) (vs row new : List ℤ) (rows : List (List ℤ)) → AreEven w n vs → cut_rows w n vs ≡ rows → AreAsWide row rows → new ≡ vs ++ row
    → cut_rows (length row) (n + 1) new ≡ rows ++ row ∷ []
push-is w n vs row new rows h v wide e = ap (λ k. cut_rows (length row) k new) (add-one n) ∙ push-suc w n vs row new rows h v wide e

-- its values are those of one row more
whole-more : (w n : ℕ) (vs row new : List ℤ) (rows : List (List ℤ)) → AreEven w n vs → cut_rows w n vs ≡ rows → AreAsWide row rows → new ≡ vs ++ row
    → length new ≡ (n + 1) * length row
whole-more w zero vs row new rows h v wide e = let k = h.whole in omega (arith, k, ap length e, length-append vs row)
whole-more w (suc n) vs row new rows h v wide e =
    let is : w ≡ length row = (wide-is w (suc n) vs row rows (λ z. absurd (omega (arith, z))) h v).1 wide in
    let k : length vs ≡ suc n * length row = h.whole ∙ ap (λ m. suc n * m) is in
    omega (arith, k, ap length e, length-append vs row)

-- rows of one width and one more of it
pub even-more : (w n : ℕ) (vs row new : List ℤ) (rows : List (List ℤ)) → AreEven w n vs → cut_rows w n vs ≡ rows → AreAsWide row rows → 1 ≤ length row
    → length row ≤ 16
    → new ≡ vs ++ row → AreEven (length row) (n + 1) new
even-more w n vs row new rows h v wide some most e = record {
  some = some;
  at_most = most;
  whole = whole-more w n vs row new rows h v wide e;
}

-- where the rows from place i on begin: k of them are behind
pub behind : (w k i : ℕ) (vs : List ℤ) → 1 ≤ k → length vs ≡ (k + i) * w → (w ≤ k * w) × (k * w ≤ length vs) × (length vs - k * w ≡ i * w)
behind w k i vs some e =
    let d : (k + i) * w ≡ k * w + i * w = omega arith in
    let one : 1 * w ≤ k * w = mul-le-mul_right w some in (
      omega (arith, one),
      omega (arith, d, e),
      omega (arith, d, e),
    )

-- fewer rows than values
pub fewer : (w n : ℕ) (vs : List ℤ) → AreEven w n vs → n ≤ length vs
fewer w n vs h =
    let k : n * 1 ≤ n * w = mul-le-mul_left n h.some in
    let e = h.whole in
    omega (arith, k, e)

-- the first row, and the others
pub pop-is : (w n : ℕ) (vs : List ℤ) → (n ≡ 0 → ⊥) → cut_rows w n vs ≡ take w vs ∷ cut_rows w (n - 1) (drop w vs)
pop-is w zero vs some = absurd (some refl)
pop-is w (suc n) vs some =
    let e : suc n - 1 ≡ n = omega arith in
    ap (λ k. take w vs ∷ cut_rows w k (drop w vs)) (sym e)

-- rows of one width without the first
pub even-rest : (w n : ℕ) (vs : List ℤ) → (n ≡ 0 → ⊥) → AreEven w n vs → AreEven w (n - 1) (drop w vs)
even-rest w zero vs some h = absurd (some refl)
even-rest w (suc n) vs some h =
    let e : suc n - 1 ≡ n = omega arith in
    subst (λ k. AreEven w k (drop w vs)) (sym e) (record {
      some = h.some;
      at_most = h.at_most;
      whole = let k = h.whole in omega (arith, k, length-drop w vs);
    })

-- the first i rows of n
pub cut-take : (w n i : ℕ) (vs : List ℤ) → i ≤ n → cut_rows w i (take (i * w) vs) ≡ take i (cut_rows w n vs)
cut-take w n zero vs le = refl
cut-take w zero (suc i) vs le = absurd (omega arith)
cut-take w (suc n) (suc i) vs le =
    let e : suc i * w ≡ w + i * w = omega arith in
    ap (λ k. cut_rows w (suc i) (take k vs)) e
    ∙ ap (λ t. t ∷ cut_rows w i (drop w (take (w + i * w) vs))) (take-take w (w + i * w) vs (omega arith))
    ∙ ap (λ t. take w vs ∷ cut_rows w i t) (drop-take w (i * w) vs)
    ∙ ap (λ t. take w vs ∷ t) (cut-take w n i (drop w vs) (omega arith))

-- the first i rows of n begin, and all rows end, where the others do
pub parted : (w n i : ℕ) (vs : List ℤ) → i < n → AreEven w n vs → ((n - i) * w ≤ length vs) × (length vs - (n - i) * w ≡ i * w)
parted w n i vs lt h =
    let some : 1 ≤ n - i = omega arith in
    let e : n - i + i ≡ n = omega arith in
    let b = behind w (n - i) i vs some (h.whole ∙ ap (λ m. m * w) (sym e)) in
    (b.1, b.2)

-- the values of the first i rows are rows of the width
pub even-front : (w n i : ℕ) (vs : List ℤ) → i < n → AreEven w n vs → AreEven w i (take (i * w) vs)
even-front w n i vs lt h =
    let p = parted w n i vs lt h in
    let le = p.0 in
    let at = p.1 in
    record {
      some = h.some;
      at_most = h.at_most;
      whole = length-take-le (i * w) vs (omega (arith, le, at));
    }

-- the values of rows and of others that are as wide
pub both-are : (w v n m : ℕ) (vs ws new : List ℤ) → (n ≡ 0) ⊎ (w ≡ v) → AreEven w n vs → AreEven v m ws → new ≡ vs ++ ws
    → cut_rows v (n + m) new ≡ cut_rows w n vs ++ cut_rows v m ws
both-are w v n m vs ws new (inl z) h k e =
    let none : length vs ≡ n * v = (h.whole ∙ ap (λ i. i * w) z) ∙ let f : 0 * w ≡ 0 * v = omega arith in f ∙ ap (λ i. i * v) (sym z) in
    ap (cut_rows v (n + m)) e ∙ cut-append v n m vs ws none ∙ ap (λ i. cut_rows v i vs ++ cut_rows v m ws) z ∙ ap (λ i. cut_rows w i vs ++ cut_rows v m ws) (sym z)
both-are w v n m vs ws new (inr z) h k e =
    ap (cut_rows v (n + m)) e ∙ cut-append v n m vs ws (h.whole ∙ ap (λ i. n * i) z) ∙ ap (λ i. cut_rows i n vs ++ cut_rows v m ws) (sym z)
