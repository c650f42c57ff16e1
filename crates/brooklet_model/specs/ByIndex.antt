-- Splitters and joiners by the numbers of their items, after the round robins of StreamIt (Thies and others, CC 2002): a cycle has
-- as many items as the weights have together, and the first w places of a cycle are the part of the first branch, and so on.
use Rattle.std.specs.Prelude.{◌≡◌, ℕ, zero, suc, ℤ, ◌+◌, ◌-◌, ◌*◌, ◌/◌, ◌%◌, ◌<◌, Bool, nat_lt, nat_eq, if◌then◌else◌, List, [], ◌∷◌, length, Option, Some}
use Rattle.std.specs.Prelude.{None, slice_get, slice_index_or}
use Rattle.river_base.specs.declared.item.Item as item
use Rattle.river_base.specs.Places.{list_at}
use Rattle.kern_rows.specs.Turns.{shares}
use Rattle.river_kernels.specs.Kern.{deal, collect}
use Rattle.brooklet_model.specs.Fire.{first_kept}
use Rattle.brooklet_model.specs.Shapes.{IsFormed}
use Rattle.brooklet_model.specs.Words.{feed_all}

-- how many items one cycle has
abbrev pub cycle : List ℕ → ℕ
cycle [] = 0
cycle (w ∷ ws) = w + cycle ws

-- the branch in whose part a place of the cycle falls
abbrev pub part_of_cycle : List ℕ → ℕ → ℕ
part_of_cycle [] m = 0
part_of_cycle (w ∷ ws) m = if nat_lt m w then 0 else suc (part_of_cycle ws (m - w))

-- where in this part it falls
abbrev pub within : List ℕ → ℕ → ℕ
within [] m = 0
within (w ∷ ws) m = if nat_lt m w then m else within ws (m - w)

-- the branch of item x
abbrev pub branch : List ℕ → ℕ → ℕ
branch ws x = part_of_cycle ws (x % cycle ws)

-- SPLITTERS

-- the items, the first of which is item x, whose numbers pass a test
abbrev pub picked : {A : Type 0} → (ℕ → Bool) → ℕ → List A → List A
picked test x [] = []
picked test x (y ∷ ys) = if test x then y ∷ picked test (suc x) ys else picked test (suc x) ys

-- what a splitter deals to branch p: the items of which it is the branch
abbrev pub dealt : {A : Type 0} → List ℕ → ℕ → List A → List A
dealt ws p xs = picked (λ x. nat_eq (branch ws x) p) 0 xs

-- JOINERS

-- the number of the item of its branch that stands at place x of what a joiner collects: the branch had its weight in each
-- cycle before
abbrev pub number_in_branch : List ℕ → ℕ → ℕ
number_in_branch ws x = x / cycle ws * slice_index_or ws (branch ws x) 0 + within ws (x % cycle ws)

-- this item, where it is there
abbrev pub collected_at : {A : Type 0} → List ℕ → List (List A) → ℕ → Option A
collected_at ws ls x = slice_get (list_at ls (branch ws x)) (number_in_branch ws x)

-- what f gives for the numbers from x on, n at most, as long as it gives something
abbrev pub and_more : {A : Type 0} → Option A → List A → List A
and_more None ys = []
and_more (Some y) ys = y ∷ ys

abbrev pub found_front : {A : Type 0} → (ℕ → Option A) → ℕ → ℕ → List A
found_front f zero x = []
found_front f (suc n) x = and_more (f x) (found_front f n (suc x))

-- how many items the branches have
abbrev pub size_of : {A : Type 0} → List (List A) → ℕ
size_of [] = 0
size_of (l ∷ ls) = length l + size_of ls

-- what a joiner collects: as many places as have their items
abbrev pub collected : {A : Type 0} → List ℕ → List (List A) → List A
collected ws ls = found_front (collected_at ws ls) (size_of ls) 0

-- THE LAWS

-- a `deal` that is fed with a list gives each port what is dealt to it
abbrev pub DealsByIndex : Type 0
DealsByIndex =
    (weights : List ℤ) (xs : List item.Item) (p : ℕ) → IsFormed (deal weights)
    → (feed_all (deal weights) (λ _. xs) (first_kept (deal weights))).outs p ≡ dealt (shares weights) p xs

-- a `collect` that is fed with a list for each port gives what is collected from them
abbrev pub CollectsByIndex : Type 0
CollectsByIndex =
    (weights : List ℤ) (ls : List (List item.Item)) → IsFormed (collect weights) → length ls ≡ length weights
    → (feed_all (collect weights) (list_at ls) (first_kept (collect weights))).outs 0 ≡ collected (shares weights) ls

-- what is collected has at each place its item, and ends where the first item is not there
abbrev pub CollectsLongest : Type 0
CollectsLongest =
    (weights : List ℤ) (ls : List (List item.Item)) → IsFormed (collect weights) → length ls ≡ length weights
    → ((x : ℕ) → x < length (collected (shares weights) ls) → slice_get (collected (shares weights) ls) x ≡ collected_at (shares weights) ls x)
    × (collected_at (shares weights) ls (length (collected (shares weights) ls)) ≡ None)
