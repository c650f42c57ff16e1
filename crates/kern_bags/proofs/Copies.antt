-- How many copies of a row there are in what is made of bags.
use Rattle.std.proofs.Common.{◌≡◌, ℕ, suc, ◌+◌, ◌*◌, ℤ, Bool, true, false, cond, List, [], ◌∷◌, ◌++◌, length, map, filter, refl, sym, ap, ◌∙◌, arith}
use Rattle.std.specs.Prelude.{count_by, sum_by, flat_map}
use Rattle.std.proofs.lemmas.List.Sums.{sum_by-cons}
use Rattle.std.proofs.lemmas.List.Elements.{All-head, All-tail}
use Rattle.std.proofs.lemmas.Bool.{true≢false}
use Rattle.river_base.specs.Changes.{without}
use Rattle.river_base.specs.Held.{HaveWidth}
use Rattle.river_base.specs.Row.{row_eq, copies}
use Rattle.river_base.proofs.Counts.{same_row, row_itself, count-cons, count_pass, count_fail}
use Rattle.river_base.proofs.Rows.{in_order_ascends}
use Rattle.work_code.specs.Value.{val, is_true}
use Rattle.kern_bags.specs.Contents.{product, greatest, in_window}
use Rattle.kern_bags.specs.Laws.{StreamedRowsAre, SelectionsAre, ProjectionsAre, ProductsAre, Ascend}
use Rattle.kern_changes.proofs.Copies.{count-map, count-flat_map, sum-cong, copies-in_order, differences_are}

-- streamers by copies
pub streamers_are : StreamedRowsAre
streamers_are before rows row = record { came = differences_are rows before row; went = differences_are before rows row; all = refl }

-- SELECTIONS

copies-filter : (p : List ℤ → Bool) (row : List ℤ) (xs : List (List ℤ)) → copies row (filter p xs) ≡ cond (p row) (copies row xs) 0
copies-filter p row [] = same (p row) where
  nought : ℕ
  nought = 0

  same : (b : Bool) → nought ≡ cond b nought nought
  same true = refl
  same false = refl
copies-filter p row (x ∷ xs) = step (p x) refl (row_eq row x) refl (copies-filter p row xs) where
  step : (b : Bool) → p x ≡ b → (c : Bool) → row_eq row x ≡ c → copies row (filter p xs) ≡ cond (p row) (copies row xs) 0
      → copies row (cond b (x ∷ filter p xs) (filter p xs)) ≡ cond (p row) (copies row (x ∷ xs)) 0
  step true e true g h =
      let t : p row ≡ true = ap p (same_row row x g) ∙ e in
      count_pass (row_eq row) x (filter p xs) g ∙ ap suc (h ∙ ap (λ b. cond b (copies row xs) 0) t)
      ∙ sym (ap (λ b. cond b (copies row (x ∷ xs)) 0) t ∙ count_pass (row_eq row) x xs g)
  step true e false g h = count_fail (row_eq row) x (filter p xs) g ∙ h ∙ ap (λ n. cond (p row) n 0) (sym (count_fail (row_eq row) x xs g))
  step false e true g h =
      let t : p row ≡ false = ap p (same_row row x g) ∙ e in
      h ∙ ap (λ b. cond b (copies row xs) 0) t ∙ sym (ap (λ b. cond b (copies row (x ∷ xs)) 0) t)
  step false e false g h = h ∙ ap (λ n. cond (p row) n 0) (sym (count_fail (row_eq row) x xs g))

-- selections by copies
pub selections_are : SelectionsAre
selections_are t rows row = copies-filter (λ r. is_true (val t r [])) row rows

-- PROJECTIONS

-- projections by copies
pub projections_are : ProjectionsAre
projections_are ts rows row = copies-in_order row (map (λ r. map (λ t. val t r []) ts) rows) ∙ count-map (row_eq row) (λ r. map (λ t. val t r []) ts) rows

-- PRODUCTS

pub pairs_are : (xs ys : List (List ℤ)) (row : List ℤ) → copies row (product xs ys) ≡ sum_by (λ x. count_by (λ y. row_eq row (x ++ y)) ys) xs
pairs_are xs ys row =
    copies-in_order row (flat_map (λ x. map (λ y. x ++ y) ys) xs)
    ∙ count-flat_map (row_eq row) (λ x. map (λ y. x ++ y) ys) xs
    ∙ sum-cong (λ x. count_by (row_eq row) (map (λ y. x ++ y) ys)) (λ x. count_by (λ y. row_eq row (x ++ y)) ys) xs
    (λ x. count-map (row_eq row) (λ y. x ++ y) ys)

-- joins of rows of one width are one only where their parts are
joins_apart : (x y u v : List ℤ) → length u ≡ length x → x ++ y ≡ u ++ v → (x ≡ u) × (y ≡ v)
joins_apart [] y [] v h e = (refl, e)
joins_apart [] y (b ∷ bs) v h e = absurd (omega (arith, h))
joins_apart (a ∷ us) y [] v h e = absurd (omega (arith, h))
joins_apart (a ∷ us) y (b ∷ bs) v h e =
    let m = joins_apart us y bs v (omega (arith, h)) (cc e) in
    let first : a ≡ b = cc e in
    ((λ i. first i ∷ m.0 i), m.1)

joined_eq : (x y u v : List ℤ) → length u ≡ length x → row_eq (x ++ y) (u ++ v) ≡ cond (row_eq x u) (row_eq y v) false
joined_eq x y u v h = step (row_eq (x ++ y) (u ++ v)) refl (row_eq x u) refl where
  step : (b : Bool) → row_eq (x ++ y) (u ++ v) ≡ b → (c : Bool) → row_eq x u ≡ c → b ≡ cond c (row_eq y v) false
  step true e true g = let m = joins_apart x y u v h (same_row (x ++ y) (u ++ v) e) in sym (ap (row_eq y) (sym m.1) ∙ row_itself y)
  step true e false g = let m = joins_apart x y u v h (same_row (x ++ y) (u ++ v) e) in absurd (true≢false (sym (row_itself x) ∙ ap (row_eq x) m.0 ∙ g))
  step false e false g = refl
  step false e true g = here (row_eq y v) refl where
    here : (d : Bool) → row_eq y v ≡ d → false ≡ d
    here false k = refl
    here true k = sym e ∙ (λ i. row_eq (x ++ y) (sym (same_row x u g) i ++ sym (same_row y v k) i)) ∙ row_itself (x ++ y)

count-joined : (x y u : List ℤ) (ys : List (List ℤ)) → length u ≡ length x → count_by (λ v. row_eq (x ++ y) (u ++ v)) ys ≡ cond (row_eq x u) (copies y ys) 0
count-joined x y u ys h = step (row_eq x u) refl where
  step : (b : Bool) → row_eq x u ≡ b → count_by (λ v. row_eq (x ++ y) (u ++ v)) ys ≡ cond b (copies y ys) 0
  step true e =
      sum-cong (λ v. cond (row_eq (x ++ y) (u ++ v)) 1 0) (λ v. cond (row_eq y v) 1 0) ys
      (λ v. ap (λ b. cond b 1 0) (joined_eq x y u v h ∙ ap (λ b. cond b (row_eq y v) false) e))
  step false e = none ys where
    none : (vs : List (List ℤ)) → count_by (λ v. row_eq (x ++ y) (u ++ v)) vs ≡ 0
    none [] = refl
    none (v ∷ vs) = count_fail (λ v. row_eq (x ++ y) (u ++ v)) v vs (joined_eq x y u v h ∙ ap (λ b. cond b (row_eq y v) false) e) ∙ none vs

times_are : (x y : List ℤ) (xs ys : List (List ℤ)) → HaveWidth (length x) xs
    → sum_by (λ u. count_by (λ v. row_eq (x ++ y) (u ++ v)) ys) xs ≡ copies x xs * copies y ys
times_are x y [] ys w = omega arith
times_are x y (u ∷ us) ys w =
    let P = λ (r : List ℤ). length r ≡ length x in
    let more = times_are x y us ys (All-tail P u us w) in
    let first = count-joined x y u ys (All-head P u us w) in
    let c = count-cons (row_eq x) u us in
    sum_by-cons (λ z. count_by (λ v. row_eq (x ++ y) (z ++ v)) ys) u us ∙ (λ i. first i + more i) ∙ spread (row_eq x u) (copies x us) (copies y ys)
    ∙ ap (λ n. n * copies y ys) (sym c)
  where
    spread : (b : Bool) (m n : ℕ) → cond b n 0 + m * n ≡ (cond b 1 0 + m) * n
    spread true m n = grind arith
    spread false m n = grind arith

-- products by copies
pub products_are : ProductsAre
products_are xs ys = record { pairs = pairs_are xs ys; times = λ x y w. pairs_are xs ys (x ++ y) ∙ times_are x y xs ys w }

-- ORDER

-- what is put in order ascends
pub ascend : Ascend
ascend = record {
  contents = λ w bs. in_order_ascends (in_window w (greatest bs) bs);
  projections = λ ts rows. in_order_ascends (map (λ row. map (λ t. val t row []) ts) rows);
  products = λ xs ys. in_order_ascends (flat_map (λ x. map (λ y. x ++ y) ys) xs);
  differences = λ xs ys. in_order_ascends (without xs ys);
}
