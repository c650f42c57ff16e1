-- Splitters and joiners of values: what they make of lists does not depend on what the items are.
use Rattle.std.proofs.Common.{◌≡◌, ℕ, zero, suc, ℤ, ◌<◌, List, [], ◌∷◌, ◌++◌, length, map, Option, Some, None, refl, sym, ap, ◌∙◌, arith, nat_eq, ⊎_elim}
use Rattle.std.specs.Prelude.{slice_get, replicate}
use Rattle.std.proofs.lemmas.Bool.{cases_eq}
use Rattle.std.proofs.lemmas.List.{length-map}
use Rattle.river_base.proofs.PlaceLemmas.{if_lt, if_eq, if_ne}
use Rattle.river_base.specs.declared.item.Item as item
use Rattle.river_base.specs.declared.item.Item.TheVariants.{Flat}
use Rattle.river_base.specs.declared.item.Flat.TheVariants.{One}
use Rattle.river_base.specs.Places.{list_at, each_grew}
use Rattle.kern_rows.specs.Turns.{shares}
use Rattle.river_kernels.specs.Kern.{duplicate}
use Rattle.brooklet_model.specs.ByIndex.{branch, picked, number_in_branch, collected_at, and_more, found_front, size_of, collected}
use Rattle.brooklet_model.specs.Fire.{fire}
use Rattle.brooklet_model.specs.Firings.{feed}
use Rattle.brooklet_model.proofs.Cycles.{positive_cycle}
use Rattle.brooklet_model.proofs.Longest.{longest}
use Rattle.streamit_model.specs.Plan.{weights}
use Rattle.streamit_model.specs.Laws.{CollectsLongest}

-- COPIES

-- each branch gets a copy
pub copied : (n p : ℕ) (xs : List item.Item) → p < n → (feed (fire (duplicate n) 0) xs []).outs p ≡ xs
copied n p [] lt = refl
copied n p (x ∷ xs) lt =
    ap (λ l. l ++ (feed (fire (duplicate n) 0) xs []).outs p) (if_lt p n (x ∷ []) [] lt) ∙ ap (λ l. x ∷ l) (copied n p xs lt)

-- SPLITTERS

-- the shares of the weights in a kernel
pub shares_are : (ws : List ℕ) → shares (weights ws) ≡ ws
shares_are [] = refl
shares_are (w ∷ ws) = ap (λ l. w ∷ l) (shares_are ws)

-- what is dealt does not depend on what the items are
pub dealt_map : {A B : Type 0} (f : A → B) (ws : List ℕ) (p x : ℕ) (xs : List A)
    → picked (λ y. nat_eq (branch ws y) p) x (map f xs) ≡ map f (picked (λ y. nat_eq (branch ws y) p) x xs)
dealt_map f ws p x [] = refl
dealt_map f ws p x (y ∷ ys) =
    let i = dealt_map f ws p (suc x) ys in
    let test = λ (z : ℕ). nat_eq (branch ws z) p in
    ⊎_elim
    (λ e. if_eq (branch ws x) p _ _ e ∙ ap (λ l. f y ∷ l) i ∙ ap (map f) (sym (if_eq (branch ws x) p (y ∷ picked test (suc x) ys) _ e)))
    (λ ne. if_ne (branch ws x) p _ _ ne ∙ i ∙ ap (map f) (sym (if_ne (branch ws x) p (y ∷ picked test (suc x) ys) _ ne)))
    (cases_eq (branch ws x) p)

-- JOINERS

abbrev pub map_option : {A B : Type 0} → (A → B) → Option A → Option B
map_option f None = None
map_option f (Some x) = Some (f x)

-- what stands in a mapped list
got_map : {A B : Type 0} (f : A → B) (xs : List A) (n : ℕ) → slice_get (map f xs) n ≡ map_option f (slice_get xs n)
got_map f [] n = refl
got_map f (x ∷ xs) zero = refl
got_map f (x ∷ xs) (suc n) = got_map f xs n

-- a list among mapped lists
list_at_map : {A B : Type 0} (f : A → B) (ls : List (List A)) (p : ℕ) → list_at (map (map f) ls) p ≡ map f (list_at ls p)
list_at_map f [] p = refl
list_at_map f (l ∷ ls) zero = refl
list_at_map f (l ∷ ls) (suc p) = list_at_map f ls p

-- the item at a place
item_map : {A B : Type 0} (f : A → B) (ws : List ℕ) (ls : List (List A)) (x : ℕ) → collected_at ws (map (map f) ls) x ≡ map_option f (collected_at ws ls x)
item_map f ws ls x = ap (λ l. slice_get l (number_in_branch ws x)) (list_at_map f ls (branch ws x))
    ∙ got_map f (list_at ls (branch ws x)) (number_in_branch ws x)

more_map : {A B : Type 0} (f : A → B) (o : Option A) (xs : List A) (ys : List B) → ys ≡ map f xs → and_more (map_option f o) ys ≡ map f (and_more o xs)
more_map f None xs ys e = refl
more_map f (Some x) xs ys e = ap (λ l. f x ∷ l) e

front_map : {A B : Type 0} (f : A → B) (ws : List ℕ) (ls : List (List A)) (n x : ℕ)
    → found_front (collected_at ws (map (map f) ls)) n x ≡ map f (found_front (collected_at ws ls) n x)
front_map f ws ls zero x = refl
front_map f ws ls (suc n) x =
    ap (λ o. and_more o (found_front (collected_at ws (map (map f) ls)) n (suc x))) (item_map f ws ls x)
    ∙ more_map f (collected_at ws ls x) (found_front (collected_at ws ls) n (suc x)) (found_front (collected_at ws (map (map f) ls)) n (suc x))
    (front_map f ws ls n (suc x))

size_map : {A B : Type 0} (f : A → B) (ls : List (List A)) → size_of (map (map f) ls) ≡ size_of ls
size_map f [] = refl
size_map f (l ∷ ls) = let a = length-map l f in let b = size_map f ls in omega (arith, a, b)

-- what is collected does not depend on what the items are
pub collected_map : {A B : Type 0} (f : A → B) (ws : List ℕ) (ls : List (List A)) → collected ws (map (map f) ls) ≡ map f (collected ws ls)
collected_map f ws ls = ap (λ n. found_front (collected_at ws (map (map f) ls)) n 0) (size_map f ls) ∙ front_map f ws ls (size_of ls) 0

-- the lists that came, port by port
pub blanks_mapped : {A : Type 0} (f : A → item.Item) (ls : List (List A)) (g : ℕ → List item.Item)
    → ((p : ℕ) → p < length ls → g p ≡ map f (list_at ls p)) → each_grew (replicate (length ls) []) g ≡ map (map f) ls
blanks_mapped f [] g e = refl
blanks_mapped f (l ∷ ls) g e =
    ap (λ t. t ∷ each_grew (replicate (length ls) []) (λ p. g (suc p))) (e 0 (omega arith))
    ∙ ap (λ t. map f l ∷ t) (blanks_mapped f ls (λ p. g (suc p)) (λ p lt. e (suc p) (omega (arith, lt))))

-- THE LONGEST FRONT

-- a value as an item
abbrev as_item : ℤ → item.Item
as_item x = Flat (One (x ∷ []))

same_value : (o p : Option ℤ) → map_option as_item o ≡ map_option as_item p → o ≡ p
same_value None None h = refl
same_value None (Some y) h = cc
same_value (Some x) None h = cc
same_value (Some x) (Some y) h = cc

-- the law: what is collected of lists of values has at each place its item, and ends where the first item is not there
pub collects_longest : CollectsLongest
collects_longest ws [] r = ((λ x lt. absurd (omega (arith, lt))), refl)
collects_longest ws (l ∷ ls) r =
    let all = l ∷ ls in
    let items = map (map as_item) all in
    let long = longest ws items (positive_cycle ws (length all) 0 r.each r.number (omega arith)) in
    let same : collected ws items ≡ map as_item (collected ws all) = collected_map as_item ws all in
    let len : length (collected ws items) ≡ length (collected ws all) = ap length same ∙ length-map (collected ws all) as_item in (
      (λ x lt.
          same_value (slice_get (collected ws all) x) (collected_at ws all x)
          (sym (got_map as_item (collected ws all) x) ∙ ap (λ c. slice_get c x) (sym same) ∙ long.0 x (omega (arith, lt, len)) ∙ item_map as_item ws all x)),
      same_value (collected_at ws all (length (collected ws all))) None
          (sym (item_map as_item ws all (length (collected ws all))) ∙ ap (collected_at ws items) (sym len) ∙ long.1),
    )
