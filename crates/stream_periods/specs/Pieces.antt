-- The items of an input in pieces. Each has the items of some periods, and as many more as the stream reaches for, and each but the first
-- begins some periods earlier: what it gives for those is let go. Of the last piece all the rest is kept.
use Rattle.std.specs.Prelude.{⊤, ℕ, ◌+◌, ◌-◌, ◌*◌, ◌≤◌, ℤ, List, [], ◌∷◌, length, take, drop, flat_map}
use Rattle.stream_periods.specs.Periods.{Period}

-- a piece for each number of periods, the periods from before counted too, and one with the rest
abbrev pub pieces_of : Period → ℕ → List ℕ → List ℤ → List (List ℤ)
pieces_of p early [] xs = xs ∷ []
pieces_of p early (k ∷ ks) xs = take (k * p.takes + p.reach) xs ∷ pieces_of p early ks (drop ((k - early) * p.takes) xs)

-- each has all its items, and no piece is of earlier periods alone
abbrev pub AreLong : {A : Type 0} → Period → ℕ → List ℕ → List A → Type 0
AreLong p early [] xs = ⊤
AreLong p early (k ∷ ks) xs = (early ≤ k) × (k * p.takes + p.reach ≤ length xs) × AreLong p early ks (drop ((k - early) * p.takes) xs)

-- of each the front is kept, without what comes first, which is let go
abbrev pub fronts : Period → ℕ → ℕ → List ℕ → List (List ℤ) → List (List ℤ)
fronts p early let_go ks [] = []
fronts p early let_go [] (o ∷ os) = drop let_go o ∷ os
fronts p early let_go (k ∷ ks) (o ∷ os) = drop let_go (take (k * p.gives) o) ∷ fronts p early (early * p.gives) ks os

-- of the first piece nothing is let go
abbrev pub put_together : Period → ℕ → List ℕ → List (List ℤ) → List ℤ
put_together p early ks outs = flat_map (λ o. o) (fronts p early 0 ks outs)
