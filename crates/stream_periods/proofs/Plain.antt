-- A filter without memory: it goes over its input in steps of what it pops, and pushes of each what its block gives for what it looks at.
use Rattle.std.proofs.Common.{◌≡◌, ℕ, zero, suc, ℤ, pos, ◌+◌, ◌-◌, ◌*◌, ◌<◌, ◌≤◌, max, Bool, true, false, ◌||◌, nat_lt, nat_le, nat_eq, List, [], ◌∷◌, ◌++◌, length, take, drop}
use Rattle.std.proofs.Common.{Option, Some, None, IsTrue, refl, sym, ap, ◌∙◌, arith, length-drop, length-append, drop-drop, append_assoc, drop_at, ⊎_elim}
use Rattle.std.specs.Prelude.{if◌then◌else◌, ◌&&◌}
use Rattle.std.proofs.lemmas.Bool.{cases_lt, and_parts, eqb-true}
use Rattle.std.proofs.lemmas.List.{take-append-le, drop-append-le, take-set-le}
use Rattle.river_base.proofs.PlaceLemmas.{if_le, if_gt, if_lt}
use Rattle.work_code.specs.Steps.{Step, Steps}
use Rattle.work_code.specs.Steps as steps
use Rattle.work_code.specs.Ran.{Ran, ran, ran_once}
use Rattle.work_code.specs.Value.{val, is_true}
use Rattle.kern_rows.specs.Forms.{FilterForm}
use Rattle.kern_rows.specs.Needs.{CanFilter}
use Rattle.kern_rows.specs.Runs.{run_kept, run_at, run_or, usual_run, begins, needs}
use Rattle.kern_rows.specs.Stands.{first_values}
use Rattle.kern_rows.proofs.Filtered.{peek_within}
use Rattle.river_kernels.specs.Formed.{is_filter, is_usual, is_first, is_steps, has_rates, is_number, pushes_once, pushes, same, both_counts}
use Rattle.river_kernels.proofs.WellFormed.{can_filter}
use Rattle.streamit_model.specs.UnrolledFilters.{firing, firings_from, filtered}
use Rattle.stream_periods.specs.Laws.{Grows, IsSteady}
use Rattle.stream_periods.specs.Periods.{any_sets_below, sets_below}
use Rattle.stream_periods.proofs.Numbers.{no_some, some_is}

-- HOW MANY ROWS A BODY PUSHES

same_cases : (m n k : ℕ) → (if nat_eq m n then Some m else None) ≡ Some k → (m ≡ k) × (n ≡ k)
same_cases m n k h = go (nat_eq m n) refl h
  where
    go : (b : Bool) → nat_eq m n ≡ b → (if b then Some m else None) ≡ Some k → (m ≡ k) × (n ≡ k)
    go true e g = let s = some_is m k g in let q = eqb-true m n e in (s, sym q ∙ s)
    go false e g = no_some k (sym g)

same_is : (o p : Option ℕ) (k : ℕ) → same o p ≡ Some k → (o ≡ Some k) × (p ≡ Some k)
same_is None p k h = no_some k (sym h)
same_is (Some m) None k h = no_some k (sym h)
same_is (Some m) (Some n) k h = let c = same_cases m n k h in (ap Some c.0, ap Some c.1)

both_is : (o p : Option ℕ) (k : ℕ) → both_counts o p ≡ Some k → (m : ℕ) × (n : ℕ) × (o ≡ Some m) × (p ≡ Some n) × (m + n ≡ k)
both_is None p k h = no_some k (sym h)
both_is (Some m) None k h = no_some k (sym h)
both_is (Some m) (Some n) k h = (m, n, refl, refl, some_is (m + n) k h)

chosen : (b : Bool) (x y : Ran) (k : ℕ) → length x.pushes ≡ k → length y.pushes ≡ k → length (if b then x else y).pushes ≡ k
chosen true x y k p q = p
chosen false x y k p q = q

mutual
  once_pushes : (s : Step) (k : ℕ) (input slots : List ℤ) → pushes_once s ≡ Some k → length (ran_once s input slots).pushes ≡ k
  once_pushes (steps.Set slot t) k input slots h = some_is 0 k h
  once_pushes (steps.Push port ts) k input slots h = some_is 1 k h
  once_pushes (steps.If cond when otherwise) k input slots h =
      let s = same_is (pushes when) (pushes otherwise) k h in
      chosen (is_true (val cond input slots)) (ran when input slots) (ran otherwise input slots) k (all_pushes when k input slots s.0)
      (all_pushes otherwise k input slots s.1)

  -- as many rows as are counted are pushed
  pub all_pushes : (ss : Steps) (k : ℕ) (input slots : List ℤ) → pushes ss ≡ Some k → length (ran ss input slots).pushes ≡ k
  all_pushes steps.Done k input slots h = some_is 0 k h
  all_pushes (steps.Then s ss) k input slots h =
      let b = both_is (pushes_once s) (pushes ss) k h in
      let first = once_pushes s b.0 input slots b.2 in
      let others = all_pushes ss b.1 input (ran_once s input slots).slots b.3 in
      let l = length-append (ran_once s input slots).pushes (ran ss input (ran_once s input slots).slots).pushes in
      let e = b.4 in
      omega (arith, first, others, l, e)

-- WHICH SLOTS IT SETS

or_false : (a b : Bool) → (a || b) ≡ false → (a ≡ false) × (b ≡ false)
or_false true b h = absurd (cc h)
or_false false b h = (refl, h)

not_below : (a n : ℕ) → nat_lt a n ≡ false → n ≤ a
not_below a n h = ⊎_elim (λ lt. absurd (true_false (sym (if_lt a n true false lt) ∙ test (nat_lt a n) h))) (λ le. le) (cases_lt a n)
  where
    test : (b : Bool) → b ≡ false → (if b then true else false) ≡ false
    test b e = ap (λ c. if c then true else false) e

    true_false : true ≡ false → ⊥
    true_false e = cc e

chosen_slots : (b : Bool) (x y : Ran) (k : ℕ) (l : List ℤ) → take k x.slots ≡ l → take k y.slots ≡ l → take k (if b then x else y).slots ≡ l
chosen_slots true x y k l p q = p
chosen_slots false x y k l p q = q

mutual
  once_keeps : (s : Step) (k : ℕ) (input slots : List ℤ) → sets_below k s ≡ false → take k (ran_once s input slots).slots ≡ take k slots
  once_keeps (steps.Set slot t) k input slots h = take-set-le k slots slot (val t input slots) (not_below slot k h)
  once_keeps (steps.Push port ts) k input slots h = refl
  once_keeps (steps.If cond when otherwise) k input slots h =
      let s = or_false (any_sets_below k when) (any_sets_below k otherwise) h in
      chosen_slots (is_true (val cond input slots)) (ran when input slots) (ran otherwise input slots) k (take k slots)
      (all_keep when k input slots s.0) (all_keep otherwise k input slots s.1)

  -- the first slots, of which none is set, stay
  pub all_keep : (ss : Steps) (k : ℕ) (input slots : List ℤ) → any_sets_below k ss ≡ false → take k (ran ss input slots).slots ≡ take k slots
  all_keep steps.Done k input slots h = refl
  all_keep (steps.Then s ss) k input slots h =
      let p = or_false (sets_below k s) (any_sets_below k ss) h in
      all_keep ss k input (ran_once s input slots).slots p.1 ∙ once_keeps s k input slots p.0

-- WHAT IS KNOWN OF A FILTER THAT HAS A PERIOD

-- it has no first firing of its own, pushes as many as it says, and its fields stay
pub record IsPlain (f : FilterForm) : Type 0 where
  pub usual : f.first ≡ None
  pub pops : 1 ≤ f.pop
  pub peeks : f.pop ≤ f.peek
  pub gives : (input : List ℤ) → length (first_values (run_kept f.body f.starts input).pushes) ≡ f.push
  pub keeps : (input : List ℤ) → (run_kept f.body f.starts input).slots ≡ f.starts

-- a number that is asked for
pub number_is : (o : Option ℕ) (n : ℕ) → is_number o n ≡ true → o ≡ Some n
number_is None n h = absurd (cc h)
number_is (Some m) n h = ap Some (eqb-true m n h)

-- a filter pushes as many as it says
pub pushes_are : (f : FilterForm) → IsTrue (is_filter f) → pushes f.body.steps ≡ Some f.push
pushes_are f h0 =
    let a = (and_parts (is_usual f) (is_first f.body.slots f.first) h0).0 in
    let b = (and_parts (has_rates f)
    (is_steps f.peek f.body.slots (pos 1 ∷ []) f.body.steps && (nat_le (length f.starts) f.body.slots && is_number (pushes f.body.steps) f.push)) a).1 in
    let c = (and_parts (is_steps f.peek f.body.slots (pos 1 ∷ []) f.body.steps) (nat_le (length f.starts) f.body.slots && is_number (pushes f.body.steps) f.push) b).1 in
    let d = (and_parts (nat_le (length f.starts) f.body.slots) (is_number (pushes f.body.steps) f.push) c).1 in
    number_is (pushes f.body.steps) f.push d

-- STEP BY STEP

module _ (f : FilterForm) (is : IsPlain f) where
  -- what a firing pushes
  unfoldable pub pushed : List ℤ → List ℤ
  pushed input = first_values (run_kept f.body f.starts input).pushes

  -- firing by firing, so many at most
  unfoldable pub slides : ℕ → List ℤ → List ℤ
  slides zero xs = []
  slides (suc n) xs = if nat_le f.peek (length xs) then pushed (take f.peek xs) ++ slides n (drop f.pop xs) else []

  -- it ends where too few items are left
  pub ends : (n : ℕ) (xs : List ℤ) → length xs < f.peek → slides n xs ≡ []
  unfolding slides
  ends zero xs lt = refl
  ends (suc n) xs lt = if_gt f.peek (length xs) _ _ lt

  -- else it fires and goes on
  pub goes : (n : ℕ) (xs : List ℤ) → f.peek ≤ length xs → slides (suc n) xs ≡ pushed (take f.peek xs) ++ slides n (drop f.pop xs)
  unfolding slides
  goes n xs le = if_le f.peek (length xs) _ _ le

  run_usual : (j : ℕ) → run_at f j ≡ usual_run f
  run_usual zero = ap (run_or (usual_run f)) is.usual
  run_usual (suc j) = refl

  begins_is : (j : ℕ) → begins f j ≡ j * f.pop
  begins_is zero = omega arith
  begins_is (suc j) = let e = ap (λ r. r.pop) (run_usual 0) in omega (arith, e)

  needs_is : (j : ℕ) → needs f j ≡ f.peek
  needs_is zero =
      let e = ap (λ r. max r.peek 1) (run_usual 0) in
      let p = is.pops in let q = is.peeks in
      e ∙ (let m : max f.peek 1 ≡ f.peek = omega (arith, p, q) in m)
  needs_is (suc j) = refl

  firing_is : (j : ℕ) (xs : List ℤ) → firing f j f.starts xs ≡ run_kept f.body f.starts (take f.peek (drop (j * f.pop) xs))
  firing_is j xs =
      ap (λ r. run_kept r.body f.starts (take r.peek (drop (begins f j) xs))) (run_usual j)
      ∙ ap (λ k. run_kept f.body f.starts (take f.peek (drop k xs))) (begins_is j)

  -- the firings from number j on go over what is left
  firings_slide : (n j : ℕ) (xs : List ℤ) → firings_from f n j f.starts xs ≡ slides n (drop (j * f.pop) xs)
  unfolding slides pushed
  firings_slide zero j xs = refl
  firings_slide (suc n) j xs =
      let p = is.pops in let q = is.peeks in
      let b = begins_is j in let e = needs_is j in
      let d = length-drop (j * f.pop) xs in
      ⊎_elim
      (λ few.
      if_gt (begins f j + needs f j) (length xs) _ _ few ∙ sym (ends (suc n) (drop (j * f.pop) xs) (omega (arith, few, b, e, d, p, q))))
      (λ enough.
      let s = firing_is j xs in
      let slots : (firing f j f.starts xs).slots ≡ f.starts = ap (λ r. r.slots) s ∙ is.keeps (take f.peek (drop (j * f.pop) xs)) in
      if_le (begins f j + needs f j) (length xs) _ _ enough
      ∙ ap (λ r. first_values r.pushes ++ firings_from f n (suc j) (firing f j f.starts xs).slots xs) s
      ∙ ap (λ k. pushed (take f.peek (drop (j * f.pop) xs)) ++ firings_from f n (suc j) k xs) slots
      ∙ ap (λ l. pushed (take f.peek (drop (j * f.pop) xs)) ++ l)
      (firings_slide n (suc j) xs ∙ ap (slides n) (ap (λ k. drop k xs) (let m : suc j * f.pop ≡ j * f.pop + f.pop = omega arith in m) ∙ sym (drop-drop f.pop (j * f.pop) xs)))
      ∙ sym (goes n (drop (j * f.pop) xs) (omega (arith, enough, b, e, d, p, q))))
      (cases_lt (length xs) (begins f j + needs f j))

  -- with more steps than items it is the same
  slides_same : (n m : ℕ) (xs : List ℤ) → length xs < n → length xs < m → slides n xs ≡ slides m xs
  slides_same zero m xs a b = absurd (omega (arith, a))
  slides_same (suc n) zero xs a b = absurd (omega (arith, b))
  slides_same (suc n) (suc m) xs a b =
      let p = is.pops in let q = is.peeks in
      let d = length-drop f.pop xs in
      ⊎_elim
      (λ few. ends (suc n) xs few ∙ sym (ends (suc m) xs few))
      (λ enough.
      goes n xs enough
      ∙ ap (λ l. pushed (take f.peek xs) ++ l) (slides_same n m (drop f.pop xs) (omega (arith, a, d, p, q, enough)) (omega (arith, b, d, p, q, enough)))
      ∙ sym (goes m xs enough))
      (cases_lt (length xs) f.peek)

  -- so a filter without memory does
  pub filtered_is : (xs : List ℤ) → filtered f xs ≡ slides (suc (length xs)) xs
  filtered_is xs = firings_slide (suc (length xs)) 0 xs ∙ ap (λ k. slides (suc (length xs)) (drop k xs)) (let e : 0 * f.pop ≡ 0 = omega arith in e)

  -- the first firing, and then what the filter gives for what is behind
  filtered_goes : (xs : List ℤ) → f.peek ≤ length xs → filtered f xs ≡ pushed (take f.peek xs) ++ filtered f (drop f.pop xs)
  filtered_goes xs le =
      let p = is.pops in let q = is.peeks in
      let d = length-drop f.pop xs in
      filtered_is xs
      ∙ goes (length xs) xs le
      ∙ ap (λ l. pushed (take f.peek xs) ++ l)
      (slides_same (length xs) (suc (length (drop f.pop xs))) (drop f.pop xs) (omega (arith, d, p, q, le)) (omega arith)
      ∙ sym (filtered_is (drop f.pop xs)))

  filtered_ends : (xs : List ℤ) → length xs < f.peek → filtered f xs ≡ []
  filtered_ends xs lt = filtered_is xs ∙ ends (suc (length xs)) xs lt

  -- a firing pushes as many as the filter says
  pub pushed_length : (input : List ℤ) → length (pushed input) ≡ f.push
  unfolding pushed
  pushed_length input = is.gives input

  moves_on : (xs : List ℤ) → f.peek ≤ length xs → filtered f (drop f.pop xs) ≡ drop f.push (filtered f xs)
  moves_on xs le =
      sym (ap (drop f.push) (filtered_goes xs le) ∙ drop_at (pushed (take f.peek xs)) (filtered f (drop f.pop xs)) f.push (pushed_length (take f.peek xs)))

  -- behind a period it gives what it gives for what is behind it
  pub moves_always : (xs : List ℤ) → filtered f (drop f.pop xs) ≡ drop f.push (filtered f xs)
  moves_always xs = ⊎_elim
      (λ few.
      let d = length-drop f.pop xs in
      filtered_ends (drop f.pop xs) (omega (arith, few, d)) ∙ sym (ap (drop f.push) (filtered_ends xs few) ∙ none f.push))
      (λ le. moves_on xs le)
      (cases_lt (length xs) f.peek)
    where
      none : (n : ℕ) → drop {A = ℤ} n [] ≡ []
      none zero = refl
      none (suc n) = refl

  -- and the period is there
  pub plain_steady : IsSteady (filtered f) f.pop f.push (f.peek - f.pop)
  plain_steady = record {
    moves = λ xs le. moves_always xs;
    enough = λ xs le.
        let q = is.peeks in
        let e = ap length (filtered_goes xs (omega (arith, le, q))) in
        let l = length-append (pushed (take f.peek xs)) (filtered f (drop f.pop xs)) in
        let n = pushed_length (take f.peek xs) in
        omega (arith, e, l, n);
  }

-- MORE ITEMS

-- of any filter the firings on a front are those on the whole, as far as they go
module _ (f : FilterForm) (can : CanFilter f) where
  firings_grow : (n m j : ℕ) (kept xs ys : List ℤ) → n ≤ m → (zs : List ℤ) × (firings_from f m j kept (xs ++ ys) ≡ firings_from f n j kept xs ++ zs)
  firings_grow zero m j kept xs ys le = (firings_from f m j kept (xs ++ ys), refl)
  firings_grow (suc n) zero j kept xs ys le = absurd (omega (arith, le))
  firings_grow (suc n) (suc m) j kept xs ys le = ⊎_elim
      (λ few. (firings_from f (suc m) j kept (xs ++ ys), ap (λ l. l ++ firings_from f (suc m) j kept (xs ++ ys)) (sym (if_gt (begins f j + needs f j) (length xs) _ _ few))))
      (λ enough.
      let p = peek_within f can j in
      let d = length-drop (begins f j) xs in
      let l = length-append xs ys in
      let same : firing f j kept (xs ++ ys) ≡ firing f j kept xs =
      ap (λ t. run_kept (run_at f j).body kept (take (run_at f j).peek t)) (drop-append-le (begins f j) xs ys (omega (arith, enough)))
      ∙ ap (run_kept (run_at f j).body kept) (take-append-le (run_at f j).peek (drop (begins f j) xs) ys (omega (arith, d, p, enough))) in
      let r = firing f j kept xs in
      let rest = firings_grow n m (suc j) r.slots xs ys (omega (arith, le)) in (
        rest.0,
        if_le (begins f j + needs f j) (length (xs ++ ys)) _ _ (omega (arith, enough, l))
            ∙ ap (λ q. first_values q.pushes ++ firings_from f m (suc j) q.slots (xs ++ ys)) same
            ∙ ap (λ t. first_values r.pushes ++ t) rest.1
            ∙ sym (append_assoc (first_values r.pushes) (firings_from f n (suc j) r.slots xs) rest.0)
            ∙ ap (λ t. t ++ rest.0) (sym (if_le (begins f j + needs f j) (length xs) _ _ enough)),
      ))
      (cases_lt (length xs) (begins f j + needs f j))

-- each filter gives no less for more items
pub filter_grows : (f : FilterForm) → IsTrue (is_filter f) → Grows (filtered f)
filter_grows f ok xs ys = firings_grow f (can_filter f ok) (suc (length xs)) (suc (length (xs ++ ys))) 0 f.starts xs ys
    (let l = length-append xs ys in omega (arith, l))
