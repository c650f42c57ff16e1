-- What the kernels on bags give for an item, after all that they have received.
use Rattle.std.specs.Prelude.{ℕ, zero, suc, ℤ, ◌+◌, List, [], ◌∷◌, ◌++◌, length, Option, Some, None}
use Rattle.river_base.specs.declared.item.Batch.{Batch}
use Rattle.river_base.specs.declared.item.Item as item
use Rattle.river_base.specs.declared.item.Flat.TheVariants.{One, Batch as Batched, Change as Changed}
use Rattle.river_base.specs.declared.item.Item.TheVariants.{Flat, Pack}
use Rattle.river_base.specs.Held.{with_rows, batches}
use Rattle.river_base.specs.Drain.{drain}
use Rattle.work_code.specs.Term.{Term}
use Rattle.kern_bags.specs.Contents.{difference, selected, projected, product, content_of}
use Rattle.kern_bags.specs.declared.kernel.Window.{Window}
use Rattle.kern_bags.specs.declared.kernel.Streamer.{Streamer}
use Rattle.kern_bags.specs.declared.kernel.Streamer.TheVariants.{Istream, Dstream, Rstream}

-- the rows of the last batch, and none before the first
abbrev pub last_rows : List Batch → List (List ℤ)
last_rows [] = []
last_rows (b ∷ []) = b.rows
last_rows (b ∷ c ∷ bs) = last_rows (c ∷ bs)

-- the window's content, at the instant of the batch that came
abbrev pub window_one : Window → List item.Item → item.Item → List item.Item
window_one w past x = with_rows (λ b. content_of w (batches (past ++ x ∷ []))) x

abbrev pub select_one : Term → item.Item → List item.Item
select_one t x = with_rows (λ b. selected t b.rows) x

abbrev pub project_one : List Term → item.Item → List item.Item
project_one ts x = with_rows (λ b. projected ts b.rows) x

-- the rows that came since the content before, those that went, or all
abbrev pub streamed : Streamer → List (List ℤ) → List (List ℤ) → List (List ℤ)
streamed Istream before rows = difference rows before
streamed Dstream before rows = difference before rows
streamed Rstream before rows = rows

abbrev pub streamer_one : Streamer → List item.Item → item.Item → List item.Item
streamer_one s past x = with_rows (λ b. streamed s (last_rows (batches past)) b.rows) x

-- a product of two relations: what waits at each of its ports
pub record Pairing : Type 0 where
  pub left : List item.Item
  pub right : List item.Item

-- the rows of an item
abbrev pub rows_in_item : item.Item → List (List ℤ)
rows_in_item (Flat (Batched b)) = b.rows
rows_in_item (Flat (One row)) = []
rows_in_item (Flat (Changed c)) = []
rows_in_item (Pack fs) = []

-- two contents joined, at the instant of the first
abbrev pub joined_batch : item.Item → item.Item → List item.Item
joined_batch x y = with_rows (λ b. product b.rows (rows_in_item y)) x

-- what the first items of both ports give, where both have one
abbrev pub front_pair : List item.Item → List item.Item → Option (List item.Item)
front_pair [] ys = None
front_pair (x ∷ xs) [] = None
front_pair (x ∷ xs) (y ∷ ys) = Some (joined_batch x y)

abbrev pub front_of_pair : Pairing → Option (List item.Item)
front_of_pair s = front_pair s.left s.right

abbrev pub without_first : List item.Item → List item.Item
without_first [] = []
without_first (x ∷ xs) = xs

abbrev pub rest_of_pair : Pairing → Pairing
rest_of_pair s = record { left = without_first s.left; right = without_first s.right }

-- an item comes to a port, the first or the second
abbrev pub put_pair : ℕ → item.Item → Pairing → Pairing
put_pair zero x s = record { left = s.left ++ x ∷ []; right = s.right }
put_pair (suc p) x s = record { left = s.left; right = s.right ++ x ∷ [] }

-- what passes, as long as both ports have an item, and what is left
abbrev pub crossed : Pairing → List item.Item × Pairing
crossed s = drain front_of_pair rest_of_pair (length s.left + length s.right) s

-- the same once an item has come to a port
abbrev pub crosses : ℕ → item.Item → Pairing → List item.Item × Pairing
crosses p x s = crossed (put_pair p x s)
