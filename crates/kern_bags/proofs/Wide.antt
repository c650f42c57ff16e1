-- How wide the rows of projections and products are.
use Rattle.std.proofs.Common.{◌≡◌, ◌≤◌, ◌+◌, ℕ, ℤ, List, [], ◌∷◌, ◌++◌, length, map, arith, length-append}
use Rattle.std.specs.Prelude.{All}
use Rattle.std.proofs.lemmas.List.{length-map}
use Rattle.std.proofs.lemmas.List.Elements.{All-head, All-tail, All-cons, All-nil}
use Rattle.river_base.specs.Changes.{all_pairs}
use Rattle.river_base.specs.Held.{HaveWidth}
use Rattle.work_code.specs.Term.{Term}
use Rattle.work_code.specs.Value.{val}
use Rattle.kern_bags.specs.Needs.{CanJoin}
use Rattle.kern_changes.proofs.Widths.{wide_append}

-- projected rows are as wide as there are expressions
pub wide_projected : (ts : List Term) (rows : List (List ℤ)) → HaveWidth (length ts) (map (λ row. map (λ t. val t row []) ts) rows)
wide_projected ts [] = All-nil (λ row. length row ≡ length ts)
wide_projected ts (row ∷ rows) =
    All-cons (λ r. length r ≡ length ts) (map (λ t. val t row []) ts) (map (λ r. map (λ t. val t r []) ts) rows) (length-map ts (λ t. val t row []))
    (wide_projected ts rows)

-- joined rows are as wide as both together
pub wide_pairs : (l r : ℕ) (xs ys : List (List ℤ)) → HaveWidth l xs → HaveWidth r ys → HaveWidth (l + r) (all_pairs xs ys)
wide_pairs l r [] ys h g = All-nil (λ row. length row ≡ l + r)
wide_pairs l r (x ∷ xs) ys h g =
    wide_append (l + r) (map (λ y. x ++ y) ys) (all_pairs xs ys) (each ys g) (wide_pairs l r xs ys (All-tail (λ row. length row ≡ l) x xs h) g)
  where
    wide : length x ≡ l
    wide = All-head (λ row. length row ≡ l) x xs h

    each : (zs : List (List ℤ)) → HaveWidth r zs → HaveWidth (l + r) (map (λ y. x ++ y) zs)
    each [] k = All-nil (λ row. length row ≡ l + r)
    each (z ∷ zs) k =
        let e = All-head (λ row. length row ≡ r) z zs k in let w = wide in let a = length-append x z in
        All-cons (λ row. length row ≡ l + r) (x ++ z) (map (λ y. x ++ y) zs) (omega (arith, e, w, a)) (each zs (All-tail (λ row. length row ≡ r) z zs k))

-- rows of two such widths can be joined
pub can_join : (l r : ℕ) (xs ys : List (List ℤ)) → l + r ≤ 16 → HaveWidth l xs → HaveWidth r ys → CanJoin xs ys
can_join l r [] ys few h g = All-nil (λ x. All (λ y. length x + length y ≤ 16) ys)
can_join l r (x ∷ xs) ys few h g =
    All-cons (λ x. All (λ y. length x + length y ≤ 16) ys) x xs (each ys g) (can_join l r xs ys few (All-tail (λ row. length row ≡ l) x xs h) g)
  where
    wide : length x ≡ l
    wide = All-head (λ row. length row ≡ l) x xs h

    each : (zs : List (List ℤ)) → HaveWidth r zs → All (λ y. length x + length y ≤ 16) zs
    each [] k = All-nil (λ y. length x + length y ≤ 16)
    each (z ∷ zs) k =
        let e = All-head (λ row. length row ≡ r) z zs k in let w = wide in
        All-cons (λ y. length x + length y ≤ 16) z zs (omega (arith, e, w, few)) (each zs (All-tail (λ row. length row ≡ r) z zs k))
