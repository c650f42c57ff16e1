-- Kernels of one input, fed with an item for each instant.
use Rattle.std.proofs.Common.{◌≡◌, ℤ, List, [], ◌∷◌, ◌++◌, refl, sym, ap, ◌∙◌, append_assoc}
use Rattle.river_base.specs.Instants.{Timed, item_at, spread}
use Rattle.river_base.specs.declared.item.Item as item
use Rattle.brooklet_model.specs.Firings.{Kept, Received, feed, gives}
use Rattle.brooklet_model.specs.Fire.{received_one}

-- all that a kernel gives whose state is all that it has received
abbrev pub given_after : (List item.Item → item.Item → List item.Item) → List item.Item → List item.Item → List item.Item
given_after one past [] = []
given_after one past (x ∷ xs) = one past x ++ given_after one (past ++ x ∷ []) xs

-- a kernel that answers each item by itself, fed with many
pub received_fed : (one : List item.Item → item.Item → List item.Item) (past xs : List item.Item)
    → (feed (λ x ss. received_one one x ss) xs (Received past ∷ [])).outs 0 ≡ given_after one past xs
received_fed one past [] = refl
received_fed one past (x ∷ xs) = ap (λ l. one past x ++ l) (received_fed one (past ++ x ∷ []) xs)

-- a stream over instants in two parts
pub spread-append : (us vs : List ℤ) (s : Timed) → spread (us ++ vs) s ≡ spread us s ++ spread vs s
spread-append [] vs s = refl
spread-append (u ∷ us) vs s = ap (λ l. item_at u (s u) ∷ l) (spread-append us vs s)

-- one item for each, where this holds at each place
pub given_spread : (ts : List ℤ) (s o : Timed) (one : List item.Item → item.Item → List item.Item)
    → ((us vs : List ℤ) (t : ℤ) → ts ≡ us ++ (t ∷ vs) → one (spread us s) (item_at t (s t)) ≡ item_at t (o t) ∷ [])
    → (us vs : List ℤ) → ts ≡ us ++ vs → given_after one (spread us s) (spread vs s) ≡ spread vs o
given_spread ts s o one h us [] e = refl
given_spread ts s o one h us (t ∷ vs) e =
    ap (λ l. l ++ given_after one (spread us s ++ item_at t (s t) ∷ []) (spread vs s)) (h us vs t e)
    ∙ ap (λ l. item_at t (o t) ∷ given_after one l (spread vs s)) (sym (spread-append us (t ∷ []) s))
    ∙ ap (λ l. item_at t (o t) ∷ l) (given_spread ts s o one h (us ++ t ∷ []) vs (e ∙ sym (append_assoc us (t ∷ []) vs)))

-- a kernel without a state
pub mapped_fed : (f : List (List ℤ) → List (List ℤ)) (one : item.Item → List item.Item)
    → ((t : ℤ) (rows : List (List ℤ)) → one (item_at t rows) ≡ item_at t (f rows) ∷ [])
    → (ts : List ℤ) (s : Timed) (ss : List Kept) → (feed (λ x st. gives 0 (one x) st) (spread ts s) ss).outs 0 ≡ spread ts (λ t. f (s t))
mapped_fed f one h [] s ss = refl
mapped_fed f one h (t ∷ ts) s ss =
    ap (λ l. l ++ (feed (λ x st. gives 0 (one x) st) (spread ts s) ss).outs 0) (h t (s t)) ∙ ap (λ l. item_at t (f (s t)) ∷ l) (mapped_fed f one h ts s ss)
