-- A filter that is fed with a whole list gives what its firings on that list give.
use Rattle.std.proofs.Common.{◌≡◌, ℕ, zero, suc, ℤ, ◌+◌, ◌<◌, ◌≤◌, List, [], ◌∷◌, ◌++◌, length, take, drop, refl, sym, ap, ◌∙◌, subst, arith, append_assoc}
use Rattle.std.proofs.Common.{length-append, length-drop, ⊎_elim}
use Rattle.std.proofs.lemmas.List.{append-nil, drop-append-le, take-append-le, map-append}
use Rattle.std.proofs.lemmas.Bool.{cases_lt}
use Rattle.river_base.proofs.PlaceLemmas.{if_le, if_gt}
use Rattle.river_base.specs.declared.item.Item.TheVariants.{Flat}
use Rattle.river_base.specs.declared.item.Flat.TheVariants.{One}
use Rattle.kern_rows.specs.Forms.{FilterForm}
use Rattle.kern_rows.specs.Needs.{CanFilter}
use Rattle.kern_rows.specs.Runs.{Filtering, Filtered, pushed_to, filter_one, filter_turns, next_run, after_run, with_pushes, run_at, begins, needs, run_kept}
use Rattle.kern_rows.specs.Stands.{first_values}
use Rattle.kern_rows.proofs.Given.{given_items, filter_values}
use Rattle.kern_rows.proofs.Filtered.{begins_next, needs_some, peek_within, pop_within, number_within, turns_stop, turns_run}
use Rattle.river_kernels.specs.Kern.{filter}
use Rattle.brooklet_model.specs.Firings.{Buffered, Fired, feed}
use Rattle.brooklet_model.specs.Fire.{fire}
use Rattle.streamit_model.specs.UnrolledFilters.{firing, firings_from, filtered}
use Rattle.streamit_model.specs.Laws.{as_items}

-- so many values have come, and so many runs were
abbrev state : List ℤ → ℕ → List ℤ → Filtering
state ys k kept = record { seen = ys; fired = k; kept = kept }

module _ (f : FilterForm) (can : CanFilter f) where
  none_from : (n k : ℕ) (kept xs : List ℤ) → length xs < begins f k + needs f k → firings_from f n k kept xs ≡ []
  none_from zero k kept xs lt = refl
  none_from (suc n) k kept xs lt = if_gt (begins f k + needs f k) (length xs) _ _ lt

  some_from : (n k : ℕ) (kept xs : List ℤ) → begins f k + needs f k ≤ length xs
      → firings_from f (suc n) k kept xs ≡ first_values (firing f k kept xs).pushes ++ firings_from f n (suc k) (firing f k kept xs).slots xs
  some_from n k kept xs le = if_le (begins f k + needs f k) (length xs) _ _ le

  -- the values that a run looks at are those of the whole list
  window_is : (k : ℕ) (kept ys xs : List ℤ) → begins f k + needs f k ≤ length ys → next_run f (state ys k kept) ≡ firing f k kept (ys ++ xs)
  window_is k kept ys xs le =
      let d = length-drop (begins f k) ys in
      let p = peek_within f can k in
      ap (run_kept (run_at f k).body kept) (
      sym (take-append-le (run_at f k).peek (drop (begins f k) ys) xs (omega (arith, d, p, le)))
      ∙ ap (take (run_at f k).peek) (sym (drop-append-le (begins f k) ys xs (omega (arith, le)))))

  -- the turns for the values that are there give the firings that they suffice for
  record Turned (ys xs : List ℤ) (n k : ℕ) (kept : List ℤ) (r : Filtered) : Type 0 where
    next : ℕ
    left : ℕ
    slots : List ℤ
    after : r.after ≡ state ys next slots
    few : length ys < begins f next + needs f next
    taken : begins f next ≤ length ys
    is : firings_from f n k kept (ys ++ xs) ≡ first_values r.pushes ++ firings_from f left next slots (ys ++ xs)
    fuel : left + next ≡ n + k

  turned_on : (ys xs : List ℤ) (n k : ℕ) (kept : List ℤ) (rest : Filtered) → begins f k + needs f k ≤ length ys
      → Turned ys xs n (suc k) (firing f k kept (ys ++ xs)).slots rest
      → Turned ys xs (suc n) k kept (with_pushes (firing f k kept (ys ++ xs)).pushes rest)
  turned_on ys xs n k kept rest enough t = record {
    next = t.next;
    left = t.left;
    slots = t.slots;
    after = t.after;
    few = t.few;
    taken = t.taken;
    is =
        some_from n k kept (ys ++ xs) (let l = length-append ys xs in omega (arith, l, enough))
        ∙ ap (λ l. first_values (firing f k kept (ys ++ xs)).pushes ++ l) t.is
        ∙ sym (append_assoc (first_values (firing f k kept (ys ++ xs)).pushes) (first_values rest.pushes) (firings_from f t.left t.next t.slots (ys ++ xs)))
        ∙ ap (λ l. l ++ firings_from f t.left t.next t.slots (ys ++ xs)) (sym (map-append _ (firing f k kept (ys ++ xs)).pushes rest.pushes));
    fuel = let e = t.fuel in omega (arith, e);
  }

  stops : (m n k : ℕ) (kept ys xs : List ℤ) → begins f k ≤ length ys → length (drop (begins f k) ys) < needs f k
      → Turned ys xs n k kept (filter_turns f m (state ys k kept))
  stops m n k kept ys xs taken few =
      let d = length-drop (begins f k) ys in
      subst (Turned ys xs n k kept) (sym (turns_stop f can m (state ys k kept) few)) (record {
        next = k;
        left = n;
        slots = kept;
        after = refl;
        few = omega (arith, few, d, taken);
        taken = taken;
        is = refl;
        fuel = refl;
      })

  turned : (m n k : ℕ) (kept ys xs : List ℤ) → begins f k ≤ length ys → length ys < m + k → length (ys ++ xs) < n + k
      → Turned ys xs n k kept (filter_turns f m (state ys k kept))
  turned zero n k kept ys xs taken turns fuel =
      let d = length-drop (begins f k) ys in
      let b = number_within f can k in
      stops zero n k kept ys xs taken (omega (arith, d, b, turns))
  turned (suc m) zero k kept ys xs taken turns fuel =
      let d = length-drop (begins f k) ys in
      let b = number_within f can k in
      stops (suc m) zero k kept ys xs taken (omega (arith, d, b, fuel, length-append ys xs))
  turned (suc m) (suc n) k kept ys xs taken turns fuel = ⊎_elim
      (λ few. stops (suc m) (suc n) k kept ys xs taken few)
      (λ enough.
      let d = length-drop (begins f k) ys in
      let le : begins f k + needs f k ≤ length ys = omega (arith, d, enough, taken) in
      let p = pop_within f can k in
      let b = begins_next f k in
      let w = window_is k kept ys xs le in
      subst (Turned ys xs (suc n) k kept)
      (sym (turns_run f can m (state ys k kept) enough ∙ ap (λ r. with_pushes r.pushes (filter_turns f m (after_run (state ys k kept) r))) w))
      (turned_on ys xs n k kept _ le
      (turned m n (suc k) (firing f k kept (ys ++ xs)).slots ys xs (omega (arith, le, p, b)) (omega (arith, turns)) (omega (arith, fuel)))))
      (cases_lt (length (drop (begins f k) ys)) (needs f k))

  abbrev pub fed_on : List ℤ → Filtering → Fired
  fed_on xs s = feed (fire (filter f) 0) (as_items xs) (Buffered s ∷ [])

  pub fed : (xs ys : List ℤ) (n k : ℕ) (kept : List ℤ) → length ys < begins f k + needs f k → begins f k ≤ length ys → length (ys ++ xs) < n + k
      → (fed_on xs (state ys k kept)).outs 0 ≡ as_items (firings_from f n k kept (ys ++ xs))
  fed [] ys n k kept few taken fuel = sym (ap as_items (ap (firings_from f n k kept) (append-nil ys) ∙ none_from n k kept ys few))
  fed (x ∷ xs) ys n k kept few taken fuel =
      let zs : List ℤ = ys ++ x ∷ [] in
      let l = length-append ys (x ∷ []) in
      let whole : zs ++ xs ≡ ys ++ x ∷ xs = append_assoc ys (x ∷ []) xs in
      let t = turned (suc (length zs)) n k kept zs xs (omega (arith, taken, l)) (omega arith) (omega (arith, fuel, ap length whole)) in
      let r = filter_one f x (state ys k kept) in
      let rest = firings_from f t.left t.next t.slots (zs ++ xs) in
      ap (λ s. pushed_to 0 r.pushes ++ (fed_on xs s).outs 0) t.after
      ∙ ap (λ l. l ++ (fed_on xs (state zs t.next t.slots)).outs 0) (given_items r.pushes (filter_values f x (state ys k kept) can))
      ∙ ap (λ l. as_items (first_values r.pushes) ++ l)
      (fed xs zs t.left t.next t.slots t.few t.taken (let e = t.fuel in omega (arith, e, fuel, ap length whole)))
      ∙ sym (map-append (λ v. Flat (One (v ∷ []))) (first_values r.pushes) rest)
      ∙ ap as_items (sym t.is)
      ∙ ap (λ l. as_items (firings_from f n k kept l)) whole

-- a filter that is fed values one by one gives, item by item, what it makes of all of them
pub filter_fed : (f : FilterForm) (xs : List ℤ) → CanFilter f
    → (feed (fire (filter f) 0) (as_items xs) (Buffered (state [] 0 f.starts) ∷ [])).outs 0 ≡ as_items (filtered f xs)
filter_fed f xs can =
    let p = needs_some f can 0 in
    fed f can xs [] (suc (length xs)) 0 f.starts (omega (arith, p)) (omega arith) (omega arith)
