-- A window, fed with a stream, gives its content at each instant.
use Rattle.std.proofs.Common.{◌≡◌, ℤ, Bool, true, false, List, [], ◌∷◌, ◌++◌, refl, sym, ap, ◌∙◌, arith, subst, cond, fold, append_assoc}
use Rattle.std.specs.Prelude.{int_lt, int_le, filter, flat_map, ◌&&◌, pos, ◌-ℤ◌, map}
use Rattle.std.specs.Ordering.{int_eq}
use Rattle.std.proofs.lemmas.List.{append-nil}
use Rattle.river_base.proofs.Tests.{int_lt_back}
use Rattle.river_base.specs.Instants.{Timed, item_at, spread}
use Rattle.river_base.specs.declared.item.Batch.{Batch}
use Rattle.river_base.specs.Held.{batches}
use Rattle.river_base.specs.Row.{in_order}
use Rattle.kern_bags.specs.Contents.{later, greatest, rows_where, put_batch, by_instant, in_window, content_of}
use Rattle.kern_bags.specs.Contents as contents
use Rattle.kern_bags.specs.Steps.{window_one}
use Rattle.cql_text.specs.Tree.{Window, Now, Range, Unbounded, Latest}
use Rattle.river_kernels.specs.Kern.{window}
use Rattle.brooklet_model.specs.Firings.{feed}
use Rattle.brooklet_model.specs.Fire.{fire, first_kept}
use Rattle.cql_model.specs.KernelWords.{kernel_window}
use Rattle.cql_model.specs.Streams.{in_reach, kept_rows, windowed}
use Rattle.cql_model.proofs.Feeding.{received_fed, given_spread, spread-append}
use Rattle.cql_model.proofs.Instants.{AllBelow, AllAbove, Ascends, ascends_below, reach_front}

-- the batches of a stream
abbrev batch_at : Timed → ℤ → Batch
batch_at s t = record { at = t; rows = s t }

abbrev batched : List ℤ → Timed → List Batch
batched us s = map (batch_at s) us

batches_spread : (us : List ℤ) (s : Timed) → batches (spread us s) ≡ batched us s
batches_spread [] s = refl
batches_spread (u ∷ us) s = ap (λ l. batch_at s u ∷ l) (batches_spread us s)

-- the greatest instant is the last
later_up : (t u : ℤ) → int_lt t u ≡ true → later t u ≡ u
later_up t u h = ap (λ b. cond b u t) h

greatest_from : (s : Timed) (a : ℤ) (us : List ℤ) (t : ℤ) → Ascends (us ++ t ∷ []) → AllAbove a (us ++ t ∷ [])
    → fold (λ x (c : Batch). later x c.at) a (batched (us ++ t ∷ []) s) ≡ t
greatest_from s a [] t r h = later_up a t h.0
greatest_from s a (u ∷ us) t r h =
    ap (λ x. fold (λ y (c : Batch). later y c.at) x (batched (us ++ t ∷ []) s)) (later_up a u h.0) ∙ greatest_from s u us t r.1 r.0

greatest_last : (s : Timed) (us : List ℤ) (t : ℤ) → Ascends (us ++ t ∷ []) → greatest (batched (us ++ t ∷ []) s) ≡ t
greatest_last s [] t r = refl
greatest_last s (u ∷ us) t r = greatest_from s u us t r.1 r.0

-- rows by instants
rows_where_is : (p : ℤ → Bool) (us : List ℤ) (s : Timed) → rows_where p (batched us s) ≡ flat_map s (filter p us)
rows_where_is p [] s = refl
rows_where_is p (u ∷ us) s = step (p u) (rows_where_is p us s) where
  step : (b : Bool) → rows_where p (batched us s) ≡ flat_map s (filter p us)
      → flat_map (λ (c : Batch). c.rows)
      (cond b (batch_at s u ∷ filter (λ (c : Batch). p c.at) (batched us s)) (filter (λ (c : Batch). p c.at) (batched us s))) ≡ flat_map s
      (cond b (u ∷ filter p us) (filter p us))
  step true h = ap (λ l. s u ++ l) h
  step false h = h

-- batches that rise are in order
put_last : (b : Batch) (us : List ℤ) (s : Timed) → AllBelow b.at us → put_batch b (batched us s) ≡ batched us s ++ b ∷ []
put_last b [] s h = refl
put_last b (u ∷ us) s h =
    ap (λ c. cond c (b ∷ (batched (u ∷ us) s)) (batch_at s u ∷ put_batch b (batched us s))) (int_lt_back b.at u h.0)
    ∙ ap (λ l. batch_at s u ∷ l) (put_last b us s h.1)

batched-append : (us vs : List ℤ) (s : Timed) → batched (us ++ vs) s ≡ batched us s ++ batched vs s
batched-append [] vs s = refl
batched-append (u ∷ us) vs s = ap (λ l. batch_at s u ∷ l) (batched-append us vs s)

order_from : (us vs : List ℤ) (s : Timed) → Ascends (us ++ vs) → fold (λ done b. put_batch b done) (batched us s) (batched vs s) ≡ batched (us ++ vs) s
order_from us [] s r = ap (λ l. batched l s) (sym (append-nil us))
order_from us (v ∷ vs) s r =
    ap (λ l. fold (λ done b. put_batch b done) l (batched vs s)) (put_last (batch_at s v) us s (ascends_below us vs v r) ∙ sym (batched-append us (v ∷ []) s))
    ∙ order_from (us ++ v ∷ []) vs s (subst Ascends (sym (append_assoc us (v ∷ []) vs)) r)
    ∙ ap (λ l. batched l s) (append_assoc us (v ∷ []) vs)

by_instant_is : (us : List ℤ) (s : Timed) → Ascends us → by_instant (batched us s) ≡ batched us s
by_instant_is us s r = order_from [] us s r

-- what the two definitions of a range say
same_range : (span t u : ℤ) → (int_le u t && int_le (later (pos 0) (t -ℤ span)) u) ≡ (int_le u t && (int_le (t -ℤ span) u && int_le (pos 0) u))
same_range span t u = go (int_lt (pos 0) (t -ℤ span)) refl where
  go : (b : Bool) → int_lt (pos 0) (t -ℤ span) ≡ b
      → (int_le u t && int_le (cond b (t -ℤ span) (pos 0)) u) ≡ (int_le u t && (int_le (t -ℤ span) u && int_le (pos 0) u))
  go true e = grind (arith, e)
  go false e = grind (arith, e)

filter-same : (p q : ℤ → Bool) (us : List ℤ) → ((u : ℤ) → p u ≡ q u) → filter p us ≡ filter q us
filter-same p q [] h = refl
filter-same p q (u ∷ us) h = ap (λ b. cond b (u ∷ filter p us) (filter p us)) (h u) ∙ ap (λ l. cond (q u) (u ∷ l) l) (filter-same p q us h)

-- a window on batches has the rows of the instants in reach
window_rows : (w : Window) (t : ℤ) (us : List ℤ) (s : Timed) → Ascends us
    → in_window (kernel_window w) t (batched us s) ≡ kept_rows w (flat_map s (filter (in_reach w t) us))
window_rows Now t us s r = rows_where_is (λ u. int_eq u t) us s
window_rows (Range n unit) t us s r =
    rows_where_is (λ u. int_le u t && int_le (later (pos 0) (t -ℤ pos n)) u) us s
    ∙ ap (flat_map s) (filter-same _ (in_reach (Range n unit) t) us (same_range (pos n) t))
window_rows Unbounded t us s r = rows_where_is (λ u. int_le u t) us s
window_rows (Latest n) t us s r =
    ap (λ l. contents.last_of_rows n (rows_where (λ u. int_le u t) l)) (by_instant_is us s r)
    ∙ ap (contents.last_of_rows n) (rows_where_is (λ u. int_le u t) us s)

ascends_front : (us vs : List ℤ) → Ascends (us ++ vs) → Ascends us
ascends_front [] vs r = tt
ascends_front (u ∷ us) vs r = (front us r.0, ascends_front us vs r.1) where
  front : (xs : List ℤ) → AllAbove u (xs ++ vs) → AllAbove u xs
  front [] h = tt
  front (x ∷ xs) h = (h.0, front xs h.1)

window_step : (w : Window) (ts : List ℤ) (s : Timed) → Ascends ts → (us vs : List ℤ) (t : ℤ) → ts ≡ us ++ (t ∷ vs)
    → window_one (kernel_window w) (spread us s) (item_at t (s t)) ≡ item_at t (in_order (windowed w ts s t)) ∷ []
window_step w ts s r us vs t e =
    let all : Ascends (us ++ (t ∷ vs)) = subst Ascends e r in
    let here : Ascends (us ++ t ∷ []) = ascends_front (us ++ t ∷ []) vs (subst Ascends (sym (append_assoc us (t ∷ []) vs)) all) in
    let bs : batches (spread us s ++ item_at t (s t) ∷ []) ≡ batched (us ++ t ∷ []) s = ap batches (sym (spread-append us (t ∷ []) s))
    ∙ batches_spread (us ++ t ∷ []) s in
    let rows : content_of (kernel_window w) (batches (spread us s ++ item_at t (s t) ∷ [])) ≡ in_order (windowed w ts s t) =
    ap (content_of (kernel_window w)) bs
    ∙ ap (λ g. in_order (in_window (kernel_window w) g (batched (us ++ t ∷ []) s))) (greatest_last s us t here)
    ∙ ap in_order (window_rows w t (us ++ t ∷ []) s here)
    ∙ ap (λ l. in_order (kept_rows w (flat_map s l))) (sym (reach_front w us vs t all))
    ∙ ap (λ l. in_order (kept_rows w (flat_map s (filter (in_reach w t) l)))) (sym e) in
    ap (λ l. item_at t l ∷ []) rows

-- a window, fed with a stream, gives its content at each instant
pub window_fed : (w : Window) (ts : List ℤ) (s : Timed) → Ascends ts
    → (feed (fire (window (kernel_window w)) 0) (spread ts s) (first_kept (window (kernel_window w)))).outs 0 ≡ spread ts (λ t. in_order (windowed w ts s t))
window_fed w ts s r =
    received_fed (window_one (kernel_window w)) [] (spread ts s)
    ∙ given_spread ts s (λ t. in_order (windowed w ts s t)) (window_one (kernel_window w)) (window_step w ts s r) [] ts refl
