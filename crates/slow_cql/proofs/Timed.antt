-- The rows of a stream with their instants.
use Rattle.std.proofs.Common.{◌≡◌, zero, suc, ℤ, Bool, true, false, cond, List, [], ◌∷◌, ◌++◌, map, filter, refl, ap, ◌∙◌, arith}
use Rattle.std.specs.Prelude.{flat_map, int_lt}
use Rattle.std.specs.List.{AllByRecursion}
use Rattle.std.specs.Ordering.{int_cmp, is_lt}
use native.Mathlib.Numerals.{unary_clauses}
use Rattle.std.proofs.lemmas.List.{map-append}
use Rattle.std.proofs.lemmas.List.Elements.{filter-append}
use Rattle.cql_text.specs.Tree.{Window}
use Rattle.cql_model.specs.Streams.{Timed, Rises, in_reach, kept_rows, windowed, spread}
use Rattle.cql_model.proofs.Instants.{Ascends, ascends}
use Rattle.slow_cql.specs.Kept.{Entry, timed, is_in_order, entries_in, reached}

-- the rows of a stream's batches, with their instants
pub entries-spread : (ts : List ℤ) (s : Timed) → entries_in (spread ts s) ≡ timed ts s
entries-spread [] s = refl
entries-spread (t ∷ ts) s = ap (λ l. map (λ row. (t, row)) (s t) ++ l) (entries-spread ts s)

-- an empty stream has none
pub timed-none : (ts : List ℤ) → timed ts (λ t. []) ≡ []
timed-none [] = refl
timed-none (t ∷ ts) = timed-none ts

-- ---- WINDOWS

abbrev behind : ℤ → List (List ℤ) → List Entry
behind t rows = map (λ row. (t, row)) rows

all_pass : (p : ℤ → Bool) (t : ℤ) (rows : List (List ℤ)) → p t ≡ true → filter (λ (e : Entry). p e.0) (behind t rows) ≡ behind t rows
all_pass p t [] h = refl
all_pass p t (r ∷ rs) h = ap (λ b. cond b ((t, r) ∷ filter (λ (e : Entry). p e.0) (behind t rs)) (filter (λ (e : Entry). p e.0) (behind t rs))) h
    ∙ ap (λ l. (t, r) ∷ l) (all_pass p t rs h)

none_pass : (p : ℤ → Bool) (t : ℤ) (rows : List (List ℤ)) → p t ≡ false → filter (λ (e : Entry). p e.0) (behind t rows) ≡ []
none_pass p t [] h = refl
none_pass p t (r ∷ rs) h = ap (λ b. cond b ((t, r) ∷ filter (λ (e : Entry). p e.0) (behind t rs)) (filter (λ (e : Entry). p e.0) (behind t rs))) h
    ∙ none_pass p t rs h

filter-timed : (p : ℤ → Bool) (ts : List ℤ) (s : Timed) → filter (λ (e : Entry). p e.0) (timed ts s) ≡ timed (filter p ts) s
filter-timed p [] s = refl
filter-timed p (t ∷ ts) s = filter-append (λ (e : Entry). p e.0) (behind t (s t)) (timed ts s) ∙ step (p t) refl (filter-timed p ts s) where
  step : (b : Bool) → p t ≡ b → filter (λ (e : Entry). p e.0) (timed ts s) ≡ timed (filter p ts) s
      → filter (λ (e : Entry). p e.0) (behind t (s t)) ++ filter (λ (e : Entry). p e.0) (timed ts s) ≡ timed (cond b (t ∷ filter p ts) (filter p ts)) s
  step true h more = ap (λ l. l ++ filter (λ (e : Entry). p e.0) (timed ts s)) (all_pass p t (s t) h) ∙ ap (λ l. behind t (s t) ++ l) more
  step false h more = ap (λ l. l ++ filter (λ (e : Entry). p e.0) (timed ts s)) (none_pass p t (s t) h) ∙ more

rows-behind : (t : ℤ) (rows : List (List ℤ)) → map (λ (e : Entry). e.1) (behind t rows) ≡ rows
rows-behind t [] = refl
rows-behind t (r ∷ rs) = ap (λ l. r ∷ l) (rows-behind t rs)

rows-timed : (us : List ℤ) (s : Timed) → map (λ (e : Entry). e.1) (timed us s) ≡ flat_map s us
rows-timed [] s = refl
rows-timed (u ∷ us) s =
    map-append (λ (e : Entry). e.1) (behind u (s u)) (timed us s)
    ∙ ap (λ l. l ++ map (λ (e : Entry). e.1) (timed us s)) (rows-behind u (s u))
    ∙ ap (λ l. s u ++ l) (rows-timed us s)

-- what a window reaches among them is its content
pub reached-timed : (w : Window) (ts : List ℤ) (s : Timed) (t : ℤ) → reached w t (timed ts s) ≡ windowed w ts s t
reached-timed w ts s t = ap (λ l. kept_rows w (map (λ (e : Entry). e.1) l)) (filter-timed (in_reach w t) ts s)
    ∙ ap (kept_rows w) (rows-timed (filter (in_reach w t) ts) s)

-- ---- THEIR ORDER

abbrev entry_lt : Entry → Entry → Bool
entry_lt x y = is_lt (int_cmp x.0 y.0)

-- none is below t
abbrev NotBelow : ℤ → List Entry → Type 0
NotBelow t es = AllByRecursion (λ (e : Entry). is_lt (int_cmp e.0 t) ≡ false) es

in_order_cons : (e : Entry) (es : List Entry) → NotBelow e.0 es → is_in_order es → is_in_order (e ∷ es)
in_order_cons e [] h o k d low high = absurd (omega (arith, high))
in_order_cons e (f ∷ fs) h o zero d low high = h.0
in_order_cons e (f ∷ fs) h o (suc k) d low high = simp unary_clauses (simp unary_clauses at (o k d (omega arith) (omega (arith, high))))

itself : (t : ℤ) → is_lt (int_cmp t t) ≡ false
itself t = grind arith

above_is : (t u : ℤ) → int_lt t u ≡ true → is_lt (int_cmp u t) ≡ false
above_is t u h = grind (arith, h)

behind_not_below : (t u : ℤ) (rows : List (List ℤ)) (es : List Entry) → is_lt (int_cmp u t) ≡ false → NotBelow t es → NotBelow t (behind u rows ++ es)
behind_not_below t u [] es h n = n
behind_not_below t u (r ∷ rs) es h n = (h, behind_not_below t u rs es h n)

timed_not_below : (t : ℤ) (us : List ℤ) (s : Timed) → AllByRecursion (λ u. int_lt t u ≡ true) us → NotBelow t (timed us s)
timed_not_below t [] s h = tt
timed_not_below t (u ∷ us) s h = behind_not_below t u (s u) (timed us s) (above_is t u h.0) (timed_not_below t us s h.1)

behind_in_order : (t : ℤ) (rows : List (List ℤ)) (es : List Entry) → NotBelow t es → is_in_order es → is_in_order (behind t rows ++ es)
behind_in_order t [] es n o = o
behind_in_order t (r ∷ rs) es n o = in_order_cons (t, r) (behind t rs ++ es) (behind_not_below t t rs es (itself t) n) (behind_in_order t rs es n o)

ascending : (ts : List ℤ) (s : Timed) → Ascends ts → is_in_order (timed ts s)
ascending [] s h = λ k d low high. absurd (omega (arith, high))
ascending (t ∷ ts) s h = behind_in_order t (s t) (timed ts s) (timed_not_below t ts s h.0) (ascending ts s h.1)

-- they are in the order of their instants
pub timed_in_order : (ts : List ℤ) (s : Timed) → Rises ts → is_in_order (timed ts s)
timed_in_order ts s h = ascending ts s (ascends ts h)
