-- What tests of plans and inputs say.
use Rattle.std.proofs.Common.{◌≡◌, ℤ, ◌+◌, Bool, true, false, Some, List, [], refl, sym, ap, ◌∙◌, arith, get_or}
use Rattle.std.specs.Prelude.{IsTrue}
use Rattle.std.specs.declared.cmp.Ordering.{Ordering}
use Rattle.std.specs.declared.cmp.Ordering.TheVariants.{Less, Equal, Greater}
use Rattle.std.specs.Ordering.{is_le, is_lt, ordering_reverse, partial_le}
use Rattle.std.specs.List.{IsAllAdjacentAnswer}
use Rattle.river_base.specs.Row.{row_cmp, row_total}
use Rattle.river_base.specs.Held.{IsAscending}

le_back : (o : Ordering) → is_le o ≡ true → is_lt (ordering_reverse o) ≡ false
le_back Less h = refl
le_back Equal h = refl
le_back Greater h = absurd (cc h)

gt_back : (o : Ordering) → is_le o ≡ false → is_lt (ordering_reverse o) ≡ true
gt_back Less h = absurd (cc h)
gt_back Equal h = absurd (cc h)
gt_back Greater h = refl

-- rows ascend, where each stands before the next
pub ascends_by : (rows : List (List ℤ)) (r : Bool) → IsAllAdjacentAnswer (λ x y b. partial_le (λ (p q : List ℤ). Some (row_cmp p q)) x y ≡ b) rows r
    → (IsTrue r → IsAscending rows) × (IsAscending rows → IsTrue r)
ascends_by rows true h = (
  (λ t k d z lt. ap is_lt (row_total.antisymm (get_or rows (k + 1) d) (get_or rows k d))
      ∙ le_back (row_cmp (get_or rows k d) (get_or rows (k + 1) d)) (h k d lt)),
  (λ a. refl),
)
ascends_by rows false h = (
  (λ t. absurd (cc t)),
  (λ a.
      let k = h.0 in
      let up : is_lt (row_cmp (get_or rows (k + 1) []) (get_or rows k [])) ≡ true = ap is_lt (row_total.antisymm (get_or rows (k + 1) []) (get_or rows k []))
      ∙ gt_back (row_cmp (get_or rows k []) (get_or rows (k + 1) [])) (h.2 []) in
      let down : is_lt (row_cmp (get_or rows (k + 1) []) (get_or rows k [])) ≡ false = a k [] (omega arith) h.1 in
      absurd (let e : false ≡ true = sym down ∙ up in cc e)),
)
