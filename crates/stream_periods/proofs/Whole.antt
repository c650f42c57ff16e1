-- What is given for pieces that begin early enough, put together, is what is given for the whole.
use Rattle.std.proofs.Common.{◌≡◌, ℕ, ℤ, ◌+◌, ◌-◌, ◌*◌, ◌≤◌, List, [], ◌∷◌, ◌++◌, length, map, take, drop, flat_map, sym, ap, ◌∙◌, arith, take-append-drop, length-take-le}
use Rattle.std.proofs.Common.{mul-le-mul_right}
use Rattle.std.proofs.lemmas.List.{append-nil, take-append-le, drop-append-le}
use Rattle.streamit_model.specs.Meaning.{Works}
use Rattle.stream_periods.specs.Laws.{Grows, IsShifting}
use Rattle.stream_periods.specs.Periods.{Period}
use Rattle.stream_periods.specs.Pieces.{AreLong, fronts, pieces_of}
use Rattle.stream_periods.proofs.Settled.{more_agree, shift_enough, shift_times}

module _ (f : Works) (p : Period) (w early : ℕ) (grows : Grows f) (a : IsShifting f p.takes p.gives p.reach w) (soon : w ≤ early * p.gives) where
  times : (k : ℕ) → IsShifting f (k * p.takes) (k * p.gives) p.reach w
  times k = shift_times f p.takes p.gives p.reach w k a

  -- the front of what is given for the whole is given for a front of the items
  front_is : (k : ℕ) (xs : List ℤ) → k * p.takes + p.reach ≤ length xs
      → f xs ≡ take (k * p.gives) (f (take (k * p.takes + p.reach) xs)) ++ drop (k * p.gives) (f xs)
  front_is k xs le =
      let n = k * p.takes + p.reach in
      let g = k * p.gives in
      let front = take n xs in
      let more = grows front (drop n xs) in
      let whole : f xs ≡ f front ++ more.0 = ap f (sym (take-append-drop n xs)) ∙ more.1 in
      let l = length-take-le n xs le in
      let e = shift_enough f (k * p.takes) g p.reach w front (times k) (omega (arith, l)) in
      sym (take-append-drop g (f xs)) ∙ ap (λ q. take g q ++ drop g (f xs)) whole ∙ ap (λ q. q ++ drop g (f xs)) (take-append-le g (f front) more.0 e)

  front_long : (k : ℕ) (xs : List ℤ) → k * p.takes + p.reach ≤ length xs
      → length (take (k * p.gives) (f (take (k * p.takes + p.reach) xs))) ≡ k * p.gives
  front_long k xs le =
      let n = k * p.takes + p.reach in
      let l = length-take-le n xs le in
      length-take-le (k * p.gives) (f (take n xs)) (shift_enough f (k * p.takes) (k * p.gives) p.reach w (take n xs) (times k) (omega (arith, l)))

  -- what stands behind it is given for the items from some periods before, behind what first firings give
  behind_is : (k : ℕ) (xs : List ℤ) → early ≤ k → k * p.takes + p.reach ≤ length xs
      → drop (k * p.gives) (f xs) ≡ drop (early * p.gives) (f (drop ((k - early) * p.takes) xs))
  behind_is k xs le long =
      let j = k - early in
      let m = mul-le-mul_right p.takes (let e : j ≤ k = omega arith in e) in
      let s = (times j).moves xs (omega (arith, long, m)) in
      let split : k ≡ j + early = omega (arith, le) in
      ap (λ n. drop (n * p.gives) (f xs)) split
      ∙ ap (λ n. drop n (f xs)) (let e : (j + early) * p.gives ≡ j * p.gives + early * p.gives = omega arith in e)
      ∙ sym (more_agree w (early * p.gives) (j * p.gives) (f xs) (f (drop (j * p.takes) xs)) soon s)

  abbrev together : ℕ → List ℕ → List ℤ → List ℤ
  together let_go ks xs = flat_map (λ o. o) (fronts p early let_go ks (map f (pieces_of p early ks xs)))

  -- what is given for the pieces, put together, is what is given for the whole
  pub whole_is : (let_go : ℕ) (ks : List ℕ) (xs : List ℤ) → let_go ≤ early * p.gives → AreLong p early ks xs → together let_go ks xs ≡ drop let_go (f xs)
  whole_is let_go [] xs le long = append-nil (drop let_go (f xs))
  whole_is let_go (k ∷ ks) xs le long =
      let front = take (k * p.gives) (f (take (k * p.takes + p.reach) xs)) in
      let rest = drop (k * p.gives) (f xs) in
      let m = mul-le-mul_right p.gives long.0 in
      let l = front_long k xs long.1 in
      ap (λ q. drop let_go front ++ q)
      (whole_is (early * p.gives) ks (drop ((k - early) * p.takes) xs) (omega arith) long.2 ∙ sym (behind_is k xs long.0 long.1))
      ∙ sym (drop-append-le let_go front rest (omega (arith, le, m, l)))
      ∙ ap (drop let_go) (sym (front_is k xs long.1))
