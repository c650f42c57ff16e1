-- Which firings of a filter there are for a whole list, and which items they look at, said of each firing by its number: what
-- `pushed_by` reckons one after another (Meaning).
use Rattle.std.specs.Prelude.{◌≡◌, ◌↔◌, ℕ, zero, suc, ℤ, ◌+◌, ◌*◌, ◌<◌, ◌≤◌, List, [], ◌++◌, length, map, max, slice_get}
use Rattle.streamit_text.specs.Program.{FilterTree}
use Rattle.streamit_model.specs.Meaning.{pop_of, peek_of, runs_in, looked_at, fires, initial, pushed_by}

-- where n items are there, firing j takes place: the first where as many as it looks at are there, and one at least, and each other
-- where the first does and all items that it looks at are there
abbrev pub TakesPlace : FilterTree → ℕ → ℕ → Type 0
TakesPlace t n zero = max (peek_of (runs_in t 0)) 1 ≤ n
TakesPlace t n (suc j) = (max (peek_of (runs_in t 0)) 1 ≤ n) × (pop_of (runs_in t 0) + j * pop_of t.work + peek_of t.work ≤ n)

-- item i of those that firing j looks at is the item at this place
abbrev pub place_looked_at : FilterTree → ℕ → ℕ → ℕ
place_looked_at t zero i = i
place_looked_at t (suc j) i = pop_of (runs_in t 0) + j * pop_of t.work + i

-- the fields before firing j: as `init` leaves them, and then as each firing leaves them
abbrev pub fields_before : FilterTree → List ℤ → ℕ → List ℤ
fields_before t xs zero = initial t
fields_before t xs (suc j) = map (fires t j (fields_before t xs j) xs).values t.fields

-- what the first m firings push
abbrev pub first_pushes : FilterTree → List ℤ → ℕ → List ℤ
first_pushes t xs zero = []
first_pushes t xs (suc m) = first_pushes t xs m ++ (fires t m (fields_before t xs m) xs).pushed

-- m firings are all that take place; each looks at the items at its places; and the filter gives what they push
pub record IsFired (t : FilterTree) (xs : List ℤ) (m : ℕ) : Type 0 where
  pub which : (j : ℕ) → (j < m) ↔ TakesPlace t (length xs) j
  pub looks : (j i : ℕ) → i < peek_of (runs_in t j) → slice_get (looked_at t j xs) i ≡ slice_get xs (place_looked_at t j i)
  pub pushes : pushed_by t xs ≡ first_pushes t xs m
