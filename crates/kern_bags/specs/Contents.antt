-- Bags of rows, and the operators of CQL on whole contents (Arasu, Babu, Widom, 2006).
use Rattle.std.specs.Prelude.{ℕ, ℤ, pos, ◌-◌, ◌-ℤ◌, Bool, List, [], ◌∷◌, ◌++◌, length, drop, map, filter, flat_map, fold, ◌&&◌, int_le, int_lt, if◌then◌else◌}
use Rattle.std.specs.Ordering.{int_eq}
pub use Rattle.river_base.specs.Changes.{take_out, without, difference}
use Rattle.river_base.specs.Row.{in_order}
use Rattle.river_base.specs.declared.item.Batch.{Batch}
use Rattle.work_code.specs.Term.{Term}
use Rattle.work_code.specs.Value.{val, is_true}
use Rattle.kern_bags.specs.declared.kernel.Window.{Window}
use Rattle.kern_bags.specs.declared.kernel.Window.TheVariants.{Now, Range, Unbounded, Latest}

-- the rows for which the expression is not 0, in their order
abbrev pub selected : Term → List (List ℤ) → List (List ℤ)
selected t rows = filter (λ row. is_true (val t row [])) rows

-- each row's values of the expressions
abbrev pub projected : List Term → List (List ℤ) → List (List ℤ)
projected ts rows = in_order (map (λ row. map (λ t. val t row []) ts) rows)

-- the rows of both joined, in all pairs
abbrev pub product : List (List ℤ) → List (List ℤ) → List (List ℤ)
product xs ys = in_order (flat_map (λ x. map (λ y. x ++ y) ys) xs)

-- the greatest instant so far
abbrev pub later : ℤ → ℤ → ℤ
later t u = if int_lt t u then u else t

abbrev pub greatest : List Batch → ℤ
greatest [] = pos 0
greatest (b ∷ bs) = fold (λ t c. later t c.at) b.at bs

-- the rows of the batches whose instants pass
abbrev pub rows_where : (ℤ → Bool) → List Batch → List (List ℤ)
rows_where p bs = flat_map (λ b. b.rows) (filter (λ b. p b.at) bs)

-- batches in order of their instants, and of their places where these are equal
abbrev pub put_batch : Batch → List Batch → List Batch
put_batch b [] = b ∷ []
put_batch b (c ∷ cs) = if int_lt b.at c.at then b ∷ (c ∷ cs) else c ∷ put_batch b cs

abbrev pub by_instant : List Batch → List Batch
by_instant bs = fold (λ done b. put_batch b done) [] bs

-- the last n
abbrev pub last_of_rows : ℕ → List (List ℤ) → List (List ℤ)
last_of_rows n xs = drop (length xs - n) xs

-- the rows in a window whose greatest instant is t, of all the batches that have come
abbrev pub in_window : Window → ℤ → List Batch → List (List ℤ)
in_window Now t bs = rows_where (λ u. int_eq u t) bs
in_window (Range span) t bs = rows_where (λ u. int_le u t && int_le (later (pos 0) (t -ℤ span)) u) bs
in_window Unbounded t bs = rows_where (λ u. int_le u t) bs
in_window (Latest n) t bs = last_of_rows n (rows_where (λ u. int_le u t) (by_instant bs))

-- the window's content after these batches
abbrev pub content_of : Window → List Batch → List (List ℤ)
content_of w bs = in_order (in_window w (greatest bs) bs)
