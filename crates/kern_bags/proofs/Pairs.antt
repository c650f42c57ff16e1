-- Pairs of items pass a product, one after another.
use Rattle.std.proofs.Common.{◌≡◌, ◌≤◌, ◌+◌, ℕ, zero, suc, List, [], ◌∷◌, ◌++◌, length, refl, ap, arith}
use Rattle.river_base.specs.declared.item.Item as item
use Rattle.river_base.specs.Drain.{drain}
use Rattle.kern_bags.specs.Steps.{Pairing, joined_batch, front_of_pair, rest_of_pair, crossed}

abbrev pairing : List item.Item → List item.Item → Pairing
pairing xs ys = record { left = xs; right = ys }

-- what passes, pair by pair
abbrev pub zipped : List item.Item → List item.Item → List item.Item × Pairing
zipped [] ys = ([], pairing [] ys)
zipped (x ∷ xs) [] = ([], pairing (x ∷ xs) [])
zipped (x ∷ xs) (y ∷ ys) = let d = zipped xs ys in (joined_batch x y ++ d.0, d.1)

zipped_is : (n : ℕ) (xs ys : List item.Item) → length xs ≤ n → drain front_of_pair rest_of_pair n (pairing xs ys) ≡ zipped xs ys
zipped_is zero [] ys h = refl
zipped_is zero (x ∷ xs) ys h = absurd (omega (arith, h))
zipped_is (suc n) [] ys h = refl
zipped_is (suc n) (x ∷ xs) [] h = refl
zipped_is (suc n) (x ∷ xs) (y ∷ ys) h = ap (λ d. (joined_batch x y ++ d.0, d.1)) (zipped_is n xs ys (omega (arith, h)))

-- so it is with all that waits
pub crossed_is : (s : Pairing) → crossed s ≡ zipped s.left s.right
crossed_is s = zipped_is (length s.left + length s.right) s.left s.right (omega arith)
