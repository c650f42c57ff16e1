-- The laws of bags: statements over the definitions alone, by how many copies of each row there are. The operators are those of
-- CQL (Arasu, Babu, Widom, 2006).
use Rattle.std.specs.Prelude.{◌≡◌, ℕ, ℤ, pos, ◌-ℤ◌, ◌≤ℤ◌, ◌-◌, ◌*◌, Bool, List, [], ◌∷◌, ◌++◌, length, min, map, sum_by, count_by, int_le, ◌&&◌, if◌then◌else◌}
use Rattle.std.specs.Prelude.{Contains, ◌⊎◌, ◌+◌, ◌<ℤ◌, ◌<◌}
use Rattle.std.specs.List.{AllByRecursion}
use Rattle.std.specs.List.Sorted.{IsSorted}
use Rattle.std.specs.Ordering.{int_eq}
use Rattle.river_base.specs.Bags.{SameBag}
use Rattle.river_base.specs.Held.{HaveWidth}
use Rattle.river_base.specs.Row.{row_eq, row_cmp, copies}
use Rattle.river_base.specs.declared.item.Batch.{Batch}
use Rattle.work_code.specs.Term.{Term}
use Rattle.work_code.specs.Value.{val, is_true}
use Rattle.kern_bags.specs.Contents.{difference, selected, projected, product, greatest, content_of}
use Rattle.kern_bags.specs.Following.{cross_start, crossing, StandsForCrossing}
use Rattle.kern_bags.specs.Steps.{streamed}
use Rattle.kern_bags.specs.declared.kernel.Streamer.TheVariants.{Istream, Dstream, Rstream}
use Rattle.kern_bags.specs.declared.kernel.Window.{Window}
use Rattle.kern_bags.specs.declared.kernel.Window.TheVariants.{Now, Range, Unbounded, Latest}

-- a row is in a difference as often as in the first bag, less the times it is in the second, and not below 0
abbrev pub DifferencesAre : Type 0
DifferencesAre = (xs ys : List (List ℤ)) (row : List ℤ) → copies row (difference xs ys) ≡ copies row xs - copies row ys

-- Istream has the rows that came, Dstream those that went, Rstream all
pub record AreStreamed (before rows : List (List ℤ)) (row : List ℤ) : Type 0 where
  pub came : copies row (streamed Istream before rows) ≡ copies row rows - copies row before
  pub went : copies row (streamed Dstream before rows) ≡ copies row before - copies row rows
  pub all : copies row (streamed Rstream before rows) ≡ copies row rows

abbrev pub StreamedRowsAre : Type 0
StreamedRowsAre = (before rows : List (List ℤ)) (row : List ℤ) → AreStreamed before rows row

-- the rows for which the expression is not 0, each as often as before
abbrev pub SelectionsAre : Type 0
SelectionsAre = (t : Term) (rows : List (List ℤ)) (row : List ℤ) → copies row (selected t rows) ≡ (if is_true (val t row []) then copies row rows else 0)

-- a row is there as often as there are rows whose values of the expressions it has
abbrev pub ProjectionsAre : Type 0
ProjectionsAre =
    (ts : List Term) (rows : List (List ℤ)) (row : List ℤ) → copies row (projected ts rows) ≡ count_by (λ r. row_eq row (map (λ t. val t r []) ts)) rows

-- a row is there as often as there are pairs whose join it is: x and y joined, where all rows of the first bag are as wide as x,
-- the times of x times the times of y
pub record AreProducts (xs ys : List (List ℤ)) : Type 0 where
  pub pairs : (row : List ℤ) → copies row (product xs ys) ≡ sum_by (λ x. count_by (λ y. row_eq row (x ++ y)) ys) xs
  pub times : (x y : List ℤ) → HaveWidth (length x) xs → copies (x ++ y) (product xs ys) ≡ copies x xs * copies y ys

abbrev pub ProductsAre : Type 0
ProductsAre = (xs ys : List (List ℤ)) → AreProducts xs ys

-- the instants that a window lets pass when it is `now`: this one; those at most so much older; all up to now
abbrev pub lets_pass : Window → ℤ → ℤ → Bool
lets_pass Now now at = int_eq at now
lets_pass (Range span) now at = int_le (now -ℤ span) at && (int_le (pos 0) at && int_le at now)
lets_pass Unbounded now at = int_le at now
lets_pass (Latest n) now at = int_le at now

-- a window by instants, not by a number of rows
abbrev pub IsByInstant : Window → Type 0
IsByInstant (Latest n) = ⊥
IsByInstant w = Unit {0}

-- a row is in a content as often as in those batches whose instants the window lets pass
abbrev pub ContentsAre : Type 0
ContentsAre =
    (w : Window) (bs : List Batch) (row : List ℤ) → IsByInstant w
    → copies row (content_of w bs) ≡ sum_by (λ b. if lets_pass w (greatest bs) b.at then copies row b.rows else 0) bs

-- now is the greatest instant of a batch that came
pub record IsNow (b : Batch) (bs : List Batch) : Type 0 where
  pub none_later : AllByRecursion (λ c. c.at ≤ℤ greatest (b ∷ bs)) (b ∷ bs)
  pub some : Contains (map (λ (c : Batch). c.at) (b ∷ bs)) (greatest (b ∷ bs))

abbrev pub GreatestIsNow : Type 0
GreatestIsNow = (b : Batch) (bs : List Batch) → IsNow b bs

-- a row that came: the instant of its batch, its place in the order in which all rows came, and its values
pub record Came : Type 0 where
  pub at : ℤ
  pub place : ℕ
  pub row : List ℤ

-- the rows of an instant, of which the first has place k
abbrev pub came_at : ℕ → ℤ → List (List ℤ) → List Came
came_at k at [] = []
came_at k at (row ∷ rows) = record { at = at; place = k; row = row } ∷ came_at (k + 1) at rows

-- the rows of batches
abbrev pub came : ℕ → List Batch → List Came
came k [] = []
came k (b ∷ bs) = came_at k b.at b.rows ++ came (k + length b.rows) bs

-- a came later than b: at a later instant, or at the same instant and behind it
abbrev pub IsLater : Came → Came → Type 0
IsLater a b = (b.at <ℤ a.at) ⊎ ((b.at ≡ a.at) × (b.place < a.place))

-- of all rows that came, as many are kept as the window has room for, and each that is kept came later than each that is left out
pub record AreLatest (n : ℕ) (bs : List Batch) (content : List (List ℤ)) : Type 0 where
  pub kept : List Came
  pub left : List Came
  pub all_are : SameBag (came 0 bs) (kept ++ left)
  pub content_is : SameBag content (map (λ (e : Came). e.row) kept)
  pub number : length kept ≡ min n (length (came 0 bs))
  pub later : AllByRecursion (λ k. AllByRecursion (IsLater k) left) kept

abbrev pub LatestAre : Type 0
LatestAre = (n : ℕ) (bs : List Batch) → AreLatest n bs (content_of (Latest n) bs)

-- what stands in a relation stands in ascending order
pub record Ascend : Type 0 where
  pub contents : (w : Window) (bs : List Batch) → IsSorted row_cmp (content_of w bs)
  pub projections : (ts : List Term) (rows : List (List ℤ)) → IsSorted row_cmp (projected ts rows)
  pub products : (xs ys : List (List ℤ)) → IsSorted row_cmp (product xs ys)
  pub differences : (xs ys : List (List ℤ)) → IsSorted row_cmp (difference xs ys)

-- what a product keeps before the first change stands for empty contents, of which none waits
abbrev pub ProductsStartEmpty : Type 0
ProductsStartEmpty = StandsForCrossing cross_start (crossing [] [] [] [])
