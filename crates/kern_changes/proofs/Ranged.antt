-- The rows of a bag by counts that begin with a value are in a range of its keys.
use Rattle.std.proofs.Common.{◌≡◌, ◌<◌, length, get_or, append_assoc, ℕ, zero, suc, ℤ, pos, ◌+ℤ◌, Bool, true, false, not, ◌&&◌, cond, List, [], ◌∷◌, ◌++◌, replicate, Ordering, refl, sym, ap, ◌∙◌, arith, subst}
use Rattle.std.specs.declared.ops.Bound.TheVariants.{Included, Excluded, Unbounded}
use Rattle.std.specs.BTreeMap.Range.{range_contains, is_past_end, entries_between}
use Rattle.std.specs.Cmp.Lexicographic.{slice_cmp}
use Rattle.std.specs.declared.cmp.Ordering.TheVariants.{Less, Equal, Greater}
use Rattle.std.specs.Ordering.{int_eq, int_cmp, is_eq, is_le, ordering_then}
use Rattle.std.specs.Prelude.{int_lt}
use Rattle.std.proofs.lemmas.Bool.{true≢false}
use Rattle.std.proofs.lemmas.Cmp.{int_eq_equiv}
use Rattle.std.proofs.lemmas.List.Elements.{filter-append}
use Rattle.river_base.proofs.Tests.{int_eq_by}
use Rattle.river_base.specs.Row.{row_cmp}
use Rattle.kern_changes.specs.Counted.{rows_counted}
use Rattle.kern_changes.specs.Keyed.{begins, begun, end_of}

abbrev Counts : Type 0
Counts = List (List ℤ × ℕ)

int_self : (v : ℤ) → int_cmp v v ≡ Equal
int_self v = step (int_cmp v v) refl (int_eq_equiv.refl v) where
  step : (o : Ordering) → int_cmp v v ≡ o → is_eq (int_cmp v v) ≡ true → int_cmp v v ≡ Equal
  step Equal e h = e
  step Less e h = absurd (true≢false (sym h ∙ ap is_eq e))
  step Greater e h = absurd (true≢false (sym h ∙ ap is_eq e))

next_above : (v : ℤ) → int_cmp (v +ℤ pos 1) v ≡ Greater
next_above v =
    let a : int_lt (v +ℤ pos 1) v ≡ false = grind arith in
    let b : int_lt v (v +ℤ pos 1) ≡ true = grind arith in
    λ i. cond (a i) Less (cond (b i) Greater Equal)

-- the row of the value alone is not above a row that begins with it
short_first : (xs : List ℤ) → is_le (slice_cmp int_cmp [] xs) ≡ true
short_first [] = refl
short_first (y ∷ ys) = refl

from_start : (v : ℤ) (xs : List ℤ) → is_le (row_cmp (v ∷ []) (v ∷ xs)) ≡ true
from_start v xs = ap (λ o. is_le (ordering_then o (slice_cmp int_cmp [] xs))) (int_self v) ∙ short_first xs

before_end : (v : ℤ) (xs : List ℤ) → is_past_end row_cmp (end_of v) (v ∷ xs) ≡ false
before_end v xs = step (int_eq v (pos 9223372036854775807)) where
  step : (b : Bool) → is_past_end row_cmp (cond b Unbounded (Excluded ((v +ℤ pos 1) ∷ []))) (v ∷ xs) ≡ false
  step true = refl
  step false = ap (λ o. is_le (ordering_then o (slice_cmp int_cmp [] xs))) (next_above v)

-- a row that begins with the value is in the range
pub inside : (v : ℤ) (q : List ℤ) → begins v q ≡ true → range_contains row_cmp (Included (v ∷ [])) (end_of v) q ≡ true
inside v [] h = absurd (true≢false (sym h))
inside v (x ∷ xs) h =
    subst (λ y. range_contains row_cmp (Included (v ∷ [])) (end_of v) (y ∷ xs) ≡ true) (sym (int_eq_by x v h))
    (λ i. from_start v xs i && not (before_end v xs i))

-- copies of a row that begins with the value
pub all_begin : (v : ℤ) (row : List ℤ) (n : ℕ) → begins v row ≡ true → begun v (replicate n row) ≡ replicate n row
all_begin v row zero h = refl
all_begin v row (suc n) h =
    ap (λ b. cond b (row ∷ begun v (replicate n row)) (begun v (replicate n row))) h ∙ ap (λ l. row ∷ l) (all_begin v row n h)

-- copies of one that does not
pub none_begin : (v : ℤ) (row : List ℤ) (n : ℕ) → begins v row ≡ false → begun v (replicate n row) ≡ []
none_begin v row zero h = refl
none_begin v row (suc n) h =
    ap (λ b. cond b (row ∷ begun v (replicate n row)) (begun v (replicate n row))) h ∙ none_begin v row n h

-- nothing outside the range begins with the value
pub begun_between : (v : ℤ) (es : Counts)
    → begun v (rows_counted (entries_between row_cmp (Included (v ∷ [])) (end_of v) es)) ≡ begun v (rows_counted es)
begun_between v [] = refl
begun_between v (e ∷ es) = step (within e.0) refl (begun_between v es) where
  within : List ℤ → Bool
  within q = range_contains row_cmp (Included (v ∷ [])) (end_of v) q

  rest : Counts
  rest = entries_between row_cmp (Included (v ∷ [])) (end_of v) es

  out : within e.0 ≡ false → (b : Bool) → begins v e.0 ≡ b → begins v e.0 ≡ false
  out n true h = absurd (true≢false (sym (inside v e.0 h) ∙ n))
  out n false h = h

  step : (b : Bool) → within e.0 ≡ b → begun v (rows_counted rest) ≡ begun v (rows_counted es)
      → begun v (rows_counted (cond b (e ∷ rest) rest)) ≡ begun v (rows_counted (e ∷ es))
  step true n more =
      filter-append (begins v) (replicate e.1 e.0) (rows_counted rest) ∙ ap (λ l. begun v (replicate e.1 e.0) ++ l) more
      ∙ sym (filter-append (begins v) (replicate e.1 e.0) (rows_counted es))
  step false n more =
      more ∙ ap (λ l. l ++ begun v (rows_counted es)) (sym (none_begin v e.0 e.1 (out n (begins v e.0) refl)))
      ∙ sym (filter-append (begins v) (replicate e.1 e.0) (rows_counted es))

-- the first value of a row
pub begins_first : (v : ℤ) (row : List ℤ) → 0 < length row → begins v row ≡ int_eq (get_or row 0 (pos 0)) v
begins_first v [] h = absurd (omega (arith, h))
begins_first v (x ∷ xs) h = refl

-- ONE ENTRY AFTER ANOTHER

-- before the first entry of the range
pub begun_start : (v : ℤ) (all self : List (List ℤ)) (es items now : Counts) → items ≡ entries_between row_cmp (Included (v ∷ [])) (end_of v) es
    → now ≡ items → rows_counted es ≡ self → all ++ begun v (rows_counted now) ≡ all ++ begun v self
begun_start v all self es items now b n s =
    ap (λ l. all ++ begun v (rows_counted l)) (n ∙ b) ∙ ap (λ l. all ++ l) (begun_between v es ∙ ap (begun v) s)

-- an entry that begins with the value
pub begun_more : (v : ℤ) (row : List ℤ) (n : ℕ) (now next : Counts) (all all' whole : List (List ℤ)) → now ≡ (row, n) ∷ next → begins v row ≡ true
    → all' ≡ all ++ replicate n row → all ++ begun v (rows_counted now) ≡ whole → all' ++ begun v (rows_counted next) ≡ whole
begun_more v row n now next all all' whole is b a h =
    ap (λ l. l ++ begun v (rows_counted next)) a ∙ append_assoc all (replicate n row) (begun v (rows_counted next))
    ∙ ap (λ l. all ++ (l ++ begun v (rows_counted next))) (sym (all_begin v row n b))
    ∙ ap (λ l. all ++ l) (sym (filter-append (begins v) (replicate n row) (rows_counted next)))
    ∙ ap (λ l. all ++ begun v (rows_counted l)) (sym is) ∙ h

-- and one that does not
pub begun_past : (v : ℤ) (row : List ℤ) (n : ℕ) (now next : Counts) (all whole : List (List ℤ)) → now ≡ (row, n) ∷ next → begins v row ≡ false
    → all ++ begun v (rows_counted now) ≡ whole → all ++ begun v (rows_counted next) ≡ whole
begun_past v row n now next all whole is b h =
    ap (λ l. all ++ (l ++ begun v (rows_counted next))) (sym (none_begin v row n b))
    ∙ ap (λ l. all ++ l) (sym (filter-append (begins v) (replicate n row) (rows_counted next)))
    ∙ ap (λ l. all ++ begun v (rows_counted l)) (sym is) ∙ h
