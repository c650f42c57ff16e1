-- Joiners and products: items that come to different ports may come in either order.
use Rattle.std.proofs.Common.{◌≡◌, ◌≢◌, ℕ, zero, suc, ◌+◌, ◌<◌, Some, None, List, [], ◌∷◌, ◌++◌, length, refl, sym, ap, ◌∙◌, arith}
use Rattle.kern_rows.proofs.Passed.{stuck_at, less_at}
use Rattle.river_base.specs.declared.item.Item as item
use Rattle.river_base.specs.Places.{only, append_at}
use Rattle.kern_rows.specs.Turns.{Turns, front_in, rest_in, front_at, rest_at, front_of, passed, put, waiting, joins}
use Rattle.kern_bags.specs.Steps.{Pairing, front_pair, front_of_pair, without_first, rest_of_pair, put_pair, crosses}
use Rattle.brooklet_model.specs.Firings.{Kept, Joining, Crossing, Fired, and_then}
use Rattle.brooklet_model.specs.Fire.{join_one, cross_one}
use Rattle.brooklet_model.specs.Shapes.{IsOne, IsJoining, IsCrossing}
use Rattle.brooklet_model.specs.Words.{Alike}
use Rattle.brooklet_model.proofs.Drained.{Keeps, two_puts}

-- JOINERS

stays_in : (give : item.Item → List item.Item) (l : List item.Item) (o ys : List item.Item) → front_in give l ≡ Some o → front_in give (l ++ ys) ≡ Some o
stays_in give [] o ys h = absurd (cc h)
stays_in give (x ∷ xs) o ys h = h

stays_at : (give : item.Item → List item.Item) (ls : List (List item.Item)) (p : ℕ) (o : List item.Item) (q : ℕ) (ys : List item.Item)
    → front_at give ls p ≡ Some o → front_at give (append_at ls q ys) p ≡ Some o
stays_at give [] p o q ys h = h
stays_at give (l ∷ ls) zero o zero ys h = stays_in give l o ys h
stays_at give (l ∷ ls) zero o (suc q) ys h = h
stays_at give (l ∷ ls) (suc p) o zero ys h = h
stays_at give (l ∷ ls) (suc p) o (suc q) ys h = stays_at give ls p o q ys h

moves_in : (give : item.Item → List item.Item) (l : List item.Item) (o ys : List item.Item) → front_in give l ≡ Some o → rest_in (l ++ ys) ≡ rest_in l ++ ys
moves_in give [] o ys h = absurd (cc h)
moves_in give (x ∷ xs) o ys h = refl

moves_at : (give : item.Item → List item.Item) (ls : List (List item.Item)) (p : ℕ) (o : List item.Item) (q : ℕ) (ys : List item.Item)
    → front_at give ls p ≡ Some o → rest_at (append_at ls q ys) p ≡ append_at (rest_at ls p) q ys
moves_at give [] p o q ys h = refl
moves_at give (l ∷ ls) zero o zero ys h = ap (λ t. t ∷ ls) (moves_in give l o ys h)
moves_at give (l ∷ ls) zero o (suc q) ys h = refl
moves_at give (l ∷ ls) (suc p) o zero ys h = refl
moves_at give (l ∷ ls) (suc p) o (suc q) ys h = ap (λ t. l ∷ t) (moves_at give ls p o q ys h)

swaps_at : (ls : List (List item.Item)) (p q : ℕ) (xs ys : List item.Item) → p ≢ q → append_at (append_at ls p xs) q ys ≡ append_at (append_at ls q ys) p xs
swaps_at [] p q xs ys h = refl
swaps_at (l ∷ ls) zero zero xs ys h = absurd (h refl)
swaps_at (l ∷ ls) zero (suc q) xs ys h = refl
swaps_at (l ∷ ls) (suc p) zero xs ys h = refl
swaps_at (l ∷ ls) (suc p) (suc q) xs ys h = ap (λ t. l ∷ t) (swaps_at ls p q xs ys (λ e. h (ap suc e)))

-- a joiner passes what it can, whenever it comes
pub join_keeps : (give : item.Item → List item.Item) (ws : List ℕ) (n : ℕ) → Keeps n Turns (front_of give) (passed ws) put (λ s. waiting s.lists)
join_keeps give ws n = record {
  stuck = λ s h. stuck_at give s.lists s.port h;
  less = λ s o h. less_at give s.lists s.port o h;
  stays = λ s o q y h. stays_at give s.lists s.port o q (y ∷ []) h;
  moves = λ s o q y h. ap (λ ls. passed_with ws s ls) (moves_at give s.lists s.port o q (y ∷ []) h);
  swaps = λ s p q x y hp hq ne. ap (λ ls. with_lists s ls) (swaps_at s.lists p q (x ∷ []) (y ∷ []) ne);
}
  where
    with_lists : Turns → List (List item.Item) → Turns
    with_lists s ls = record s { lists = ls }

    passed_with : List ℕ → Turns → List (List item.Item) → Turns
    passed_with ws s ls = record (passed ws s) { lists = ls }

pub only_append : (xs ys : List item.Item) (p : ℕ) → only 0 xs p ++ only 0 ys p ≡ only 0 (xs ++ ys) p
only_append xs ys zero = refl
only_append xs ys (suc p) = refl

-- two firings, in either order
abbrev pub Exchanges : (ℕ → item.Item → List Kept → Fired) → ℕ → ℕ → item.Item → item.Item → List Kept → Type 0
Exchanges f p q x y ss = Alike (and_then (f p x ss) (f q y (f p x ss).states)) (and_then (f q y ss) (f p x (f q y ss).states))

-- two items at two ports of a joiner change places
pub join_swap : (give : item.Item → List item.Item) (ws : List ℕ) (n p q : ℕ) (x y : item.Item) (ss : List Kept) → p < n → q < n → p ≢ q
    → IsOne (IsJoining ws) ss → Exchanges (join_one give ws) p q x y ss
join_swap give ws n p q x y (s ∷ t ∷ ts) hp hq ne h = absurd h
join_swap give ws n p q x y (Joining s ∷ []) hp hq ne h =
    let e = two_puts n Turns (front_of give) (passed ws) put (λ t. waiting t.lists) (join_keeps give ws n) s p q x y hp hq ne in
    let d1 = joins give ws p x s in
    let d2 = joins give ws q y d1.1 in
    let e1 = joins give ws q y s in
    let e2 = joins give ws p x e1.1 in
    record {
      outs = λ o. only_append d1.0 d2.0 o ∙ ap (λ t. only 0 t o) e.0 ∙ sym (only_append e1.0 e2.0 o);
      adds = λ t test. refl;
      states = ap (λ t. Joining t ∷ []) e.1;
    }
join_swap give ws n p q x y ss hp hq ne h = absurd h

-- PRODUCTS

pair_stuck : (xs ys : List item.Item) → length xs + length ys ≡ 0 → front_pair xs ys ≡ None
pair_stuck [] ys h = refl
pair_stuck (x ∷ xs) ys h = absurd (omega (arith, h))

pair_less : (xs ys o : List item.Item) → front_pair xs ys ≡ Some o → length (without_first xs) + length (without_first ys) < length xs + length ys
pair_less [] ys o h = absurd (cc h)
pair_less (x ∷ xs) [] o h = absurd (cc h)
pair_less (x ∷ xs) (y ∷ ys) o h = omega arith

left_stays : (xs ys zs o : List item.Item) → front_pair xs ys ≡ Some o → front_pair (xs ++ zs) ys ≡ Some o
left_stays [] ys zs o h = absurd (cc h)
left_stays (x ∷ xs) [] zs o h = absurd (cc h)
left_stays (x ∷ xs) (y ∷ ys) zs o h = h

right_stays : (xs ys zs o : List item.Item) → front_pair xs ys ≡ Some o → front_pair xs (ys ++ zs) ≡ Some o
right_stays [] ys zs o h = absurd (cc h)
right_stays (x ∷ xs) [] zs o h = absurd (cc h)
right_stays (x ∷ xs) (y ∷ ys) zs o h = h

left_moves : (xs ys zs o : List item.Item) → front_pair xs ys ≡ Some o → without_first (xs ++ zs) ≡ without_first xs ++ zs
left_moves [] ys zs o h = absurd (cc h)
left_moves (x ∷ xs) ys zs o h = refl

right_moves : (xs ys zs o : List item.Item) → front_pair xs ys ≡ Some o → without_first (ys ++ zs) ≡ without_first ys ++ zs
right_moves [] ys zs o h = absurd (cc h)
right_moves (x ∷ xs) [] zs o h = absurd (cc h)
right_moves (x ∷ xs) (y ∷ ys) zs o h = refl

abbrev with_left : Pairing → List item.Item → Pairing
with_left s xs = record { left = xs; right = without_first s.right }

abbrev with_right : Pairing → List item.Item → Pairing
with_right s ys = record { left = without_first s.left; right = ys }

put_stays : (s : Pairing) (o : List item.Item) (q : ℕ) (y : item.Item) → front_of_pair s ≡ Some o → front_of_pair (put_pair q y s) ≡ Some o
put_stays s o zero y h = left_stays s.left s.right (y ∷ []) o h
put_stays s o (suc q) y h = right_stays s.left s.right (y ∷ []) o h

put_moves : (s : Pairing) (o : List item.Item) (q : ℕ) (y : item.Item) → front_of_pair s ≡ Some o
    → rest_of_pair (put_pair q y s) ≡ put_pair q y (rest_of_pair s)
put_moves s o zero y h = ap (with_left s) (left_moves s.left s.right (y ∷ []) o h)
put_moves s o (suc q) y h = ap (with_right s) (right_moves s.left s.right (y ∷ []) o h)

put_swaps : (s : Pairing) (p q : ℕ) (x y : item.Item) → p < 2 → q < 2 → p ≢ q → put_pair q y (put_pair p x s) ≡ put_pair p x (put_pair q y s)
put_swaps s zero zero x y hp hq ne = absurd (ne refl)
put_swaps s zero (suc q) x y hp hq ne = refl
put_swaps s (suc p) zero x y hp hq ne = refl
put_swaps s (suc p) (suc q) x y hp hq ne = absurd (let e : suc p ≡ suc q = omega (arith, hp, hq) in ne e)

pair_keeps : Keeps 2 Pairing front_of_pair rest_of_pair put_pair (λ s. length s.left + length s.right)
pair_keeps = record {
  stuck = λ s h. pair_stuck s.left s.right h;
  less = λ s o h. pair_less s.left s.right o h;
  stays = put_stays;
  moves = put_moves;
  swaps = put_swaps;
}

-- two items at the two ports of a product change places
pub cross_swap : (p q : ℕ) (x y : item.Item) (ss : List Kept) → p < 2 → q < 2 → p ≢ q → IsOne IsCrossing ss → Exchanges cross_one p q x y ss
cross_swap p q x y (s ∷ t ∷ ts) hp hq ne h = absurd h
cross_swap p q x y (Crossing s ∷ []) hp hq ne h =
    let e = two_puts 2 Pairing front_of_pair rest_of_pair put_pair (λ t. length t.left + length t.right) pair_keeps s p q x y hp hq ne in
    let d1 = crosses p x s in
    let d2 = crosses q y d1.1 in
    let e1 = crosses q y s in
    let e2 = crosses p x e1.1 in
    record {
      outs = λ o. only_append d1.0 d2.0 o ∙ ap (λ t. only 0 t o) e.0 ∙ sym (only_append e1.0 e2.0 o);
      adds = λ t test. refl;
      states = ap (λ t. Crossing t ∷ []) e.1;
    }
cross_swap p q x y ss hp hq ne h = absurd h
