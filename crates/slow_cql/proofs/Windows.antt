-- Windows as parts of the rows in order of their instants.
use Rattle.std.proofs.Common.{◌≡◌, ℕ, ◌-◌, ◌≤◌, ℤ, Bool, true, false, List, [], ◌∷◌, cond, length, get_or, take, drop, map, filter, refl, sym, ap}
use Rattle.std.proofs.Common.{◌∙◌, arith, int_lt, int_le, length-drop}
use Rattle.std.specs.Prelude.{not, ◌&&◌}
use Rattle.std.specs.List.Sorted.{IsPartitionPoint}
use Rattle.std.specs.Ordering.{int_eq}
use Rattle.std.proofs.lemmas.List.{take_all, length-map}
use Rattle.std.proofs.lemmas.List.Elements.{filter_agree}
use Rattle.river_base.proofs.Lists.{drop-map}
use Rattle.csv_streams.proofs.Spreading.{passes_between}
use Rattle.cql_model.specs.Streams.{newest_rows}
use Rattle.slow_cql.specs.Kept.{Entry}

-- the rows that pass in front
pub passes_front : (p : Entry → Bool) (es : List Entry) (n : ℕ) → n ≤ length es → IsPartitionPoint (λ e. p e ≡ true) (λ e. p e ≡ false) es n
    → filter p es ≡ take n es
passes_front p es n le h =
    passes_between p es 0 n (omega arith) le (λ k d a b. absurd (omega (arith, b))) (λ k d a b. h.0 k d a b) (λ k d a b. h.1 k d a b)
    ∙ (let e : n - 0 ≡ n = omega arith in ap (λ k. take k es) e)

-- those behind which do not
pub passes_back : (p q : Entry → Bool) (es : List Entry) (n : ℕ) → ((e : Entry) → q e ≡ not (p e)) → n ≤ length es
    → IsPartitionPoint (λ e. p e ≡ true) (λ e. p e ≡ false) es n → filter q es ≡ drop n es
passes_back p q es n is le h =
    passes_between q es n (length es) le (omega arith)
    (λ k d a b. is (get_or es k d) ∙ ap not (h.0 k d a b)) (λ k d a b. is (get_or es k d) ∙ ap not (h.1 k d a b)) (λ k d a b. absurd (omega (arith, a, b)))
    ∙ (let l = length-drop n es in take_all (length es - n) (drop n es) (omega (arith, l)))

filter-filter : (p q : Entry → Bool) (es : List Entry) → filter q (filter p es) ≡ filter (λ e. p e && q e) es
filter-filter p q [] = refl
filter-filter p q (e ∷ es) = step (p e) (filter-filter p q es) where
  step : (b : Bool) → filter q (filter p es) ≡ filter (λ x. p x && q x) es
      → filter q (cond b (e ∷ filter p es) (filter p es)) ≡ cond (b && q e) (e ∷ filter (λ x. p x && q x) es) (filter (λ x. p x && q x) es)
  step true more = ap (λ l. cond (q e) (e ∷ l) l) more
  step false more = more

-- the rows of this instant are those up to it and not below it
pub now_is : (t u : ℤ) → (int_le u t && not (int_lt u t)) ≡ int_eq u t
now_is t u = grind arith

-- the rows from a first instant to a last
pub between : (p q r : Entry → Bool) → ((e : Entry) → (p e && q e) ≡ r e) → (es ps qs : List Entry) → ps ≡ filter p es → qs ≡ filter q ps → qs ≡ filter r es
between p q r is es ps qs a b = b ∙ ap (filter q) a ∙ filter-filter p q es ∙ filter_agree (λ e. p e && q e) r is es

-- the last of them
pub last_of : (n : ℕ) (es : List Entry) → map (λ (e : Entry). e.1) (drop (length es - n) es) ≡ newest_rows n (map (λ (e : Entry). e.1) es)
last_of n es = drop-map (λ (e : Entry). e.1) (length es - n) es
    ∙ (let l = length-map es (λ (e : Entry). e.1) in ap (λ k. drop (k - n) (map (λ (e : Entry). e.1) es)) (sym l))
