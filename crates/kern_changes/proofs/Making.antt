-- Rows that come to a bag and go from it, one after another.
use Rattle.std.proofs.Common.{◌≡◌, ◌<◌, ◌≤◌, ◌+◌, ℕ, ℤ, cond, List, [], length, get_or, take, ap, arith, subst}
use Rattle.std.proofs.lemmas.List.Sums.{sum_by_more}
use Rattle.std.proofs.lemmas.List.{take_all}
use Rattle.river_base.specs.Row.{row_eq}
use Rattle.river_base.specs.declared.item.Change.{Change}
use Rattle.kern_changes.specs.Counted.{CameOne, WentOne, CameAll, WentAll, Changed}

abbrev one : List ℤ → List ℤ → ℕ
one r x = cond (row_eq r x) 1 0

-- no row came
pub came_none : (rows : List (List ℤ)) → CameAll [] rows rows
came_none rows = record { each = λ r. omega arith }

-- no row went
pub went_none : (rows : List (List ℤ)) → WentAll [] rows rows
went_none rows = record { each = λ r. omega arith }

-- one more came
pub came_more : (rows a b c : List (List ℤ)) (i : ℕ) (row : List ℤ) → i < length rows → row ≡ get_or rows i row → CameAll (take i rows) a b → CameOne row b c
    → CameAll (take (i + 1) rows) a c
came_more rows a b c i row lt is h g = record {
  each = λ r.
      let m = sum_by_more (one r) rows i row lt in
      let e : one r row ≡ one r (get_or rows i row) = ap (one r) is in
      let x = h.each r in let y = g.each r in
      omega (arith, m, e, x, y);
}

-- one more went
pub went_more : (rows a b c : List (List ℤ)) (i : ℕ) (row : List ℤ) → i < length rows → row ≡ get_or rows i row → WentAll (take i rows) a b → WentOne row b c
    → WentAll (take (i + 1) rows) a c
went_more rows a b c i row lt is h g = record {
  each = λ r.
      let m = sum_by_more (one r) rows i row lt in
      let e : one r row ≡ one r (get_or rows i row) = ap (one r) is in
      let x = h.each r in let y = g.each r in
      omega (arith, m, e, x, y);
}

-- all came
pub came_whole : (rows a b : List (List ℤ)) (i : ℕ) → length rows ≤ i → CameAll (take i rows) a b → CameAll rows a b
came_whole rows a b i h g = subst (λ l. CameAll l a b) (take_all i rows h) g

-- all went
pub went_whole : (rows a b : List (List ℤ)) (i : ℕ) → length rows ≤ i → WentAll (take i rows) a b → WentAll rows a b
went_whole rows a b i h g = subst (λ l. WentAll l a b) (take_all i rows h) g

-- what goes is taken out first
pub made_both : (c : Change) (a b d : List (List ℤ)) → WentAll c.minus a b → CameAll c.plus b d → Changed c a d
made_both c a b d h g = record { each = λ r. let x = h.each r in let y = g.each r in omega (arith, x, y) }
