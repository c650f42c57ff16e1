-- Filters settle: a first firing of its own, and then those of a filter without one.
use Rattle.std.proofs.Common.{◌≡◌, ℕ, zero, suc, ℤ, pos, ◌+◌, ◌-◌, ◌*◌, ◌<◌, ◌≤◌, max, Bool, true, false, nat_le, nat_eq, List, [], ◌∷◌, ◌++◌, length, take, drop, Option, Some}
use Rattle.std.proofs.Common.{None, Ok, Err, IsTrue, refl, sym, ap, ◌∙◌, subst, arith, length-drop, length-append, drop-drop, take_at, drop_at, ⊎_elim, mul-le-mul_right}
use Rattle.std.specs.Prelude.{if◌then◌else◌, ◌&&◌, replicate}
use Rattle.std.proofs.lemmas.Bool.{cases_lt, and_parts, leb-true}
use Rattle.std.proofs.lemmas.List.{length-map}
use Rattle.river_base.proofs.PlaceLemmas.{if_le, if_gt}
use Rattle.kern_rows.specs.Forms.{FilterForm, RunForm}
use Rattle.kern_rows.specs.Runs.{run_kept, slots_from, run_or, first_run, usual_run, begins, needs}
use Rattle.kern_rows.specs.Stands.{first_values}
use Rattle.river_kernels.specs.Formed.{is_filter, is_usual, is_first, is_run, is_steps, is_number, pushes}
use Rattle.river_kernels.proofs.WellFormed.{can_filter}
use Rattle.streamit_model.specs.UnrolledFilters.{firing, firings_from, filtered}
use Rattle.stream_periods.specs.Laws.{FiltersMove, FiltersSettle, IsFading, IsSettled, IsShifting}
use Rattle.stream_periods.specs.Periods.{Keeps, Period, any_sets_below, filter_fades, filter_period, started_period, times_for}
use Rattle.stream_periods.proofs.Numbers.{ok_is, times_enough, times_rise}
use Rattle.stream_periods.proofs.Plain.{IsPlain, all_keep, all_pushes, ends, filtered_is, goes, moves_always, number_is, plain_steady, pushed, pushed_length, pushes_are}
use Rattle.stream_periods.proofs.Plain.{slides}
use Rattle.stream_periods.proofs.Settled.{shift_later, still_agree}

-- A FILTER WITHOUT A FIRST FIRING OF ITS OWN

module _ (f : FilterForm) (is : IsPlain f) where
  -- as many steps as items are enough
  slides_enough : (n m : ℕ) (xs : List ℤ) → length xs ≤ n → length xs ≤ m → slides f is n xs ≡ slides f is m xs
  slides_enough zero m xs a b =
      let p = is.pops in let q = is.peeks in
      ends f is zero xs (omega (arith, a, p, q)) ∙ sym (ends f is m xs (omega (arith, a, p, q)))
  slides_enough (suc n) zero xs a b =
      let p = is.pops in let q = is.peeks in
      ends f is (suc n) xs (omega (arith, b, p, q)) ∙ sym (ends f is zero xs (omega (arith, b, p, q)))
  slides_enough (suc n) (suc m) xs a b =
      let p = is.pops in let q = is.peeks in
      let d = length-drop f.pop xs in
      ⊎_elim
      (λ few. ends f is (suc n) xs few ∙ sym (ends f is (suc m) xs few))
      (λ enough.
      goes f is n xs enough
      ∙ ap (λ l. pushed f is (take f.peek xs) ++ l) (slides_enough n m (drop f.pop xs) (omega (arith, a, d, p, q, enough)) (omega (arith, b, d, p, q, enough)))
      ∙ sym (goes f is m xs enough))
      (cases_lt (length xs) f.peek)

  slides_filtered : (n : ℕ) (xs : List ℤ) → length xs ≤ n → slides f is n xs ≡ filtered f xs
  slides_filtered n xs le = slides_enough n (suc (length xs)) xs le (omega arith) ∙ sym (filtered_is f is xs)

  -- how many items come depends on how many there are
  slides_long : (n : ℕ) (xs ys : List ℤ) → length ys ≡ length xs → length (slides f is n ys) ≡ length (slides f is n xs)
  unfolding slides
  slides_long zero xs ys e = refl
  slides_long (suc n) xs ys e = ⊎_elim
      (λ few. ap length (ends f is (suc n) ys (omega (arith, few, e)) ∙ sym (ends f is (suc n) xs few)))
      (λ enough.
      let a = ap length (goes f is n xs enough) in
      let b = ap length (goes f is n ys (omega (arith, enough, e))) in
      let c = length-append (pushed f is (take f.peek xs)) (slides f is n (drop f.pop xs)) in
      let d = length-append (pushed f is (take f.peek ys)) (slides f is n (drop f.pop ys)) in
      let g = pushed_length f is (take f.peek xs) in let h = pushed_length f is (take f.peek ys) in
      let u = length-drop f.pop xs in let v = length-drop f.pop ys in
      let r = slides_long n (drop f.pop xs) (drop f.pop ys) (omega (arith, u, v, e)) in
      omega (arith, a, b, c, d, g, h, r))
      (cases_lt (length xs) f.peek)

  plain_long : (xs ys : List ℤ) → length ys ≡ length xs → length (filtered f ys) ≡ length (filtered f xs)
  plain_long xs ys e =
      ap length (filtered_is f is ys)
      ∙ ap (λ n. length (slides f is (suc n) ys)) e
      ∙ slides_long (suc (length xs)) xs ys e
      ∙ ap length (sym (filtered_is f is xs))

  moves_times : (k : ℕ) (xs : List ℤ) → filtered f (drop (k * f.pop) xs) ≡ drop (k * f.push) (filtered f xs)
  moves_times zero xs =
      ap (λ n. filtered f (drop n xs)) (let e : zero * f.pop ≡ 0 = omega arith in e) ∙ ap (λ n. drop n (filtered f xs)) (let e : 0 ≡ zero * f.push = omega arith in e)
  moves_times (suc k) xs =
      ap (λ n. filtered f (drop n xs)) (let e : suc k * f.pop ≡ k * f.pop + f.pop = omega arith in e)
      ∙ ap (filtered f) (sym (drop-drop f.pop (k * f.pop) xs))
      ∙ moves_always f is (drop (k * f.pop) xs)
      ∙ ap (drop f.push) (moves_times k xs)
      ∙ drop-drop f.push (k * f.push) (filtered f xs)
      ∙ ap (λ n. drop n (filtered f xs)) (let e : k * f.push + f.push ≡ suc k * f.push = omega arith in e)

  plain_fading : IsFading (filtered f) (λ v. times_for v f.pop * f.push)
  plain_fading = record {
    agree = λ v xs ys len e.
        let c = times_for v f.pop in
        sym (moves_times c ys) ∙ ap (filtered f) (still_agree v (c * f.pop) xs ys (times_enough v f.pop is.pops) e) ∙ moves_times c xs;
    same = plain_long;
    rises = λ v w le. mul-le-mul_right f.push (times_rise v w f.pop is.pops le);
  }

  plain_shifting : (w : ℕ) → IsShifting (filtered f) f.pop f.push (f.peek - f.pop) w
  plain_shifting w = record {
    moves = λ xs le.
        ap (drop w) (moves_always f is xs) ∙ drop-drop w f.push (filtered f xs);
    fewer = λ xs le.
        let e = ap length (moves_always f is xs) in
        let d = length-drop f.push (filtered f xs) in
        let m = (plain_steady f is).enough xs le in
        omega (arith, e, d, m);
  }

  plain_settled : IsSettled (filtered f) (record { takes = f.pop; gives = f.push; reach = f.peek - f.pop }) (λ v. times_for v f.pop * f.push)
  plain_settled = record { takes = is.pops; fading = plain_fading; shifting = plain_shifting (times_for 0 f.pop * f.push) }

-- A FIRST FIRING OF ITS OWN

-- the filter without it
abbrev without_first : FilterForm → FilterForm
without_first f = record { peek = f.peek; pop = f.pop; push = f.push; body = f.body; starts = f.starts; first = None }

record IsStarted (f : FilterForm) (r : RunForm) : Type 0 where
  first : f.first ≡ Some r
  plain : IsPlain (without_first f)
  peeks : r.pop ≤ r.peek
  gives : (input : List ℤ) → length (first_values (run_kept r.body f.starts input).pushes) ≡ r.push
  keeps : (input : List ℤ) → (run_kept r.body f.starts input).slots ≡ f.starts

module _ (f : FilterForm) (r : RunForm) (is : IsStarted f r) where
  abbrev g : FilterForm
  g = without_first f

  -- what the first firing pushes
  begun : List ℤ → List ℤ
  begun xs = first_values (run_kept r.body f.starts (take r.peek xs)).pushes

  first_is : first_run f ≡ r
  first_is = ap (run_or (usual_run f)) is.first

  begins_is : (j : ℕ) → begins f (suc j) ≡ r.pop + j * f.pop
  begins_is j = ap (λ q. q.pop + j * f.pop) first_is

  -- the firings behind the first go over what is left
  rest_slides : (n j : ℕ) (xs : List ℤ) → firings_from f n (suc j) f.starts xs ≡ slides g is.plain n (drop (r.pop + j * f.pop) xs)
  unfolding slides pushed
  rest_slides zero j xs = refl
  rest_slides (suc n) j xs =
      let p = is.plain.pops in let q = is.plain.peeks in
      let b = begins_is j in
      let at = drop (r.pop + j * f.pop) xs in
      let d = length-drop (r.pop + j * f.pop) xs in
      let s : firing f (suc j) f.starts xs ≡ run_kept f.body f.starts (take f.peek at) = ap (λ k. run_kept f.body f.starts (take f.peek (drop k xs))) b in
      ⊎_elim
      (λ few. if_gt (begins f (suc j) + f.peek) (length xs) _ _ few ∙ sym (ends g is.plain (suc n) at (omega (arith, few, b, d, p, q))))
      (λ enough.
      if_le (begins f (suc j) + f.peek) (length xs) _ _ enough
      ∙ ap (λ z. first_values z.pushes ++ firings_from f n (suc (suc j)) (firing f (suc j) f.starts xs).slots xs) s
      ∙ ap (λ k. pushed g is.plain (take f.peek at) ++ firings_from f n (suc (suc j)) k xs) (ap (λ z. z.slots) s ∙ is.plain.keeps (take f.peek at))
      ∙ ap (λ l. pushed g is.plain (take f.peek at) ++ l)
      (rest_slides n (suc j) xs
      ∙ ap (slides g is.plain n)
      (ap (λ k. drop k xs) (let m : r.pop + suc j * f.pop ≡ r.pop + j * f.pop + f.pop = omega arith in m) ∙ sym (drop-drop f.pop (r.pop + j * f.pop) xs)))
      ∙ sym (goes g is.plain n at (omega (arith, enough, b, d, p, q))))
      (cases_lt (length xs) (begins f (suc j) + f.peek))

  waits : begins f 0 + needs f 0 ≡ max r.peek 1
  waits = ap (λ q. 0 + max q.peek 1) first_is ∙ (let e : 0 + max r.peek 1 ≡ max r.peek 1 = omega arith in e)

  first_firing : (xs : List ℤ) → firing f 0 f.starts xs ≡ run_kept r.body f.starts (take r.peek xs)
  first_firing xs = ap (λ q. run_kept q.body f.starts (take q.peek xs)) first_is

  starts_off : (xs : List ℤ) → max r.peek 1 ≤ length xs → filtered f xs ≡ begun xs ++ filtered g (drop r.pop xs)
  unfolding begun
  starts_off xs le =
      let d = length-drop r.pop xs in
      let w = waits in
      if_le (begins f 0 + needs f 0) (length xs) _ _ (omega (arith, le, w))
      ∙ ap (λ z. first_values z.pushes ++ firings_from f (length xs) 1 z.slots xs) (first_firing xs)
      ∙ ap (λ k. begun xs ++ firings_from f (length xs) 1 k xs) (is.keeps (take r.peek xs))
      ∙ ap (λ l. begun xs ++ l)
      (rest_slides (length xs) 0 xs
      ∙ ap (λ k. slides g is.plain (length xs) (drop k xs)) (let e : r.pop + 0 * f.pop ≡ r.pop = omega arith in e)
      ∙ slides_filtered g is.plain (length xs) (drop r.pop xs) (omega (arith, d)))

  not_started : (xs : List ℤ) → length xs < max r.peek 1 → filtered f xs ≡ []
  not_started xs lt = let w = waits in if_gt (begins f 0 + needs f 0) (length xs) _ _ (omega (arith, lt, w))

  begun_length : (xs : List ℤ) → length (begun xs) ≡ r.push
  unfolding begun
  begun_length xs = is.gives (take r.peek xs)

  -- behind what the first firing pushes
  behind_first : (k : ℕ) (xs : List ℤ) → max r.peek 1 ≤ length xs → drop (r.push + k) (filtered f xs) ≡ drop k (filtered g (drop r.pop xs))
  behind_first k xs le =
      sym (drop-drop k r.push (filtered f xs))
      ∙ ap (λ l. drop k (drop r.push l)) (starts_off xs le)
      ∙ ap (drop k) (drop_at (begun xs) (filtered g (drop r.pop xs)) r.push (begun_length xs))

  started_long : (xs : List ℤ) → max r.peek 1 ≤ length xs → length (filtered f xs) ≡ r.push + length (filtered g (drop r.pop xs))
  started_long xs le =
      let e = ap length (starts_off xs le) in
      let l = length-append (begun xs) (filtered g (drop r.pop xs)) in
      let b = begun_length xs in
      omega (arith, e, l, b)

  abbrev fade : ℕ → ℕ
  fade v = r.push + times_for (v - r.pop) f.pop * f.push

  started_fading : IsFading (filtered f) (λ v. r.push + times_for (v - r.pop) f.pop * f.push)
  started_fading = record { agree = agree; same = same; rises = rises }
    where
      agree : (v : ℕ) (xs ys : List ℤ) → length ys ≡ length xs → drop v ys ≡ drop v xs
          → drop (r.push + times_for (v - r.pop) f.pop * f.push) (filtered f ys) ≡ drop (r.push + times_for (v - r.pop) f.pop * f.push) (filtered f xs)
      agree v xs ys len e =
          let c = times_for (v - r.pop) f.pop in
          let k = c * f.push in
          ⊎_elim
          (λ few. ap (drop (r.push + k)) (not_started ys (omega (arith, few, len)) ∙ sym (not_started xs few)))
          (λ enough.
          let t = times_enough (v - r.pop) f.pop is.plain.pops in
          behind_first k ys (omega (arith, enough, len))
          ∙ sym (moves_times g is.plain c (drop r.pop ys))
          ∙ ap (filtered g)
          (drop-drop (c * f.pop) r.pop ys ∙ still_agree v (r.pop + c * f.pop) xs ys (omega (arith, t)) e ∙ sym (drop-drop (c * f.pop) r.pop xs))
          ∙ moves_times g is.plain c (drop r.pop xs)
          ∙ sym (behind_first k xs enough))
          (cases_lt (length xs) (max r.peek 1))

      same : (xs ys : List ℤ) → length ys ≡ length xs → length (filtered f ys) ≡ length (filtered f xs)
      same xs ys len = ⊎_elim
          (λ few. ap length (not_started ys (omega (arith, few, len)) ∙ sym (not_started xs few)))
          (λ enough.
          let a = started_long xs enough in
          let b = started_long ys (omega (arith, enough, len)) in
          let u = length-drop r.pop xs in let v = length-drop r.pop ys in
          let l = plain_long g is.plain (drop r.pop xs) (drop r.pop ys) (omega (arith, u, v, len)) in
          omega (arith, a, b, l))
          (cases_lt (length xs) (max r.peek 1))

      rises : (v w : ℕ) → v ≤ w → r.push + times_for (v - r.pop) f.pop * f.push ≤ r.push + times_for (w - r.pop) f.pop * f.push
      rises v w le =
          let m = mul-le-mul_right f.push (times_rise (v - r.pop) (w - r.pop) f.pop is.plain.pops (omega (arith, le))) in omega (arith, m)

  abbrev far : ℕ
  far = max (max r.peek 1) (r.pop + f.peek - f.pop)

  -- the items behind the first firing, of the whole and of what is behind a period
  turned_about : (xs : List ℤ) → drop r.pop (drop f.pop xs) ≡ drop f.pop (drop r.pop xs)
  turned_about xs =
      drop-drop r.pop f.pop xs ∙ ap (λ n. drop n xs) (let e : f.pop + r.pop ≡ r.pop + f.pop = omega arith in e) ∙ sym (drop-drop f.pop r.pop xs)

  started_shifting : IsShifting (filtered f) f.pop f.push (max (max r.peek 1) (r.pop + f.peek - f.pop)) r.push
  started_shifting = record { moves = moves; fewer = fewer }
    where
      here : (xs : List ℤ) → f.pop + max (max r.peek 1) (r.pop + f.peek - f.pop) ≤ length xs → max r.peek 1 ≤ length xs
      here xs le = omega (arith, le)

      there : (xs : List ℤ) → f.pop + max (max r.peek 1) (r.pop + f.peek - f.pop) ≤ length xs → max r.peek 1 ≤ length (drop f.pop xs)
      there xs le = let d = length-drop f.pop xs in omega (arith, le, d)

      moves : (xs : List ℤ) → f.pop + max (max r.peek 1) (r.pop + f.peek - f.pop) ≤ length xs
          → drop r.push (filtered f (drop f.pop xs)) ≡ drop (f.push + r.push) (filtered f xs)
      moves xs le =
          ap (λ n. drop n (filtered f (drop f.pop xs))) (let e : r.push ≡ r.push + 0 = omega arith in e)
          ∙ behind_first 0 (drop f.pop xs) (there xs le)
          ∙ ap (filtered g) (turned_about xs)
          ∙ moves_always g is.plain (drop r.pop xs)
          ∙ sym (behind_first f.push xs (here xs le))
          ∙ ap (λ n. drop n (filtered f xs)) (let e : r.push + f.push ≡ f.push + r.push = omega arith in e)

      fewer : (xs : List ℤ) → f.pop + max (max r.peek 1) (r.pop + f.peek - f.pop) ≤ length xs → length (filtered f (drop f.pop xs)) + f.push ≡ length (filtered f xs)
      fewer xs le =
          let q = is.plain.peeks in
          let a = started_long xs (here xs le) in
          let b = started_long (drop f.pop xs) (there xs le) in
          let t = ap (λ l. length (filtered g l)) (turned_about xs) in
          let d = length-drop r.pop xs in
          let m = (plain_shifting g is.plain 0).fewer (drop r.pop xs) (omega (arith, le, d, q)) in
          omega (arith, a, b, t, m)

-- WHICH FILTERS

record PeriodParts (f : FilterForm) (name : List ℕ) (p : Period) : Type 0 where
  still : any_sets_below (length f.starts) f.body.steps ≡ false
  is : started_period name f f.first ≡ Ok p

period_parts : (name : List ℕ) (f : FilterForm) (p : Period) → filter_period name f ≡ Ok p → PeriodParts f name p
period_parts name f p h = go (any_sets_below (length f.starts) f.body.steps) refl h
  where
    go : (b : Bool) → any_sets_below (length f.starts) f.body.steps ≡ b → (if b then Err (Keeps name) else started_period name f f.first) ≡ Ok p → PeriodParts f name p
    go true e g = absurd (cc g)
    go false e g = record { still = e; is = g }

without_plain : (f : FilterForm) → IsTrue (is_filter f) → any_sets_below (length f.starts) f.body.steps ≡ false → IsPlain (without_first f)
without_plain f ok still =
    let can = can_filter f ok in
    let n = length f.starts in
    record {
      usual = refl;
      pops = can.pops;
      peeks = can.peeks;
      gives = λ input. length-map _ _ ∙ all_pushes f.body.steps f.push input (slots_from f.body.slots f.starts) (pushes_are f ok);
      keeps = λ input. all_keep f.body.steps n input (slots_from f.body.slots f.starts) still ∙ take_at f.starts (replicate (f.body.slots - n) (pos 0)) n refl;
    }

-- a filter without a first firing is itself
same_filter : (f : FilterForm) → f.first ≡ None → without_first f ≡ f
same_filter f e = ap (λ o. record { peek = f.peek; pop = f.pop; push = f.push; body = f.body; starts = f.starts; first = o }) (sym e)

run_parts : (slots : ℕ) (r : RunForm) → is_run slots r ≡ true → (r.pop ≤ r.peek) × (pushes r.body.steps ≡ Some r.push)
run_parts slots r h =
    let a = and_parts (nat_eq r.body.inputs r.peek)
    (nat_eq r.body.slots slots && (nat_le r.pop r.peek && (is_steps r.peek slots (pos 1 ∷ []) r.body.steps && is_number (pushes r.body.steps) r.push))) h in
    let b = and_parts (nat_eq r.body.slots slots)
    (nat_le r.pop r.peek && (is_steps r.peek slots (pos 1 ∷ []) r.body.steps && is_number (pushes r.body.steps) r.push)) a.1 in
    let c = and_parts (nat_le r.pop r.peek) (is_steps r.peek slots (pos 1 ∷ []) r.body.steps && is_number (pushes r.body.steps) r.push) b.1 in
    let d = and_parts (is_steps r.peek slots (pos 1 ∷ []) r.body.steps) (is_number (pushes r.body.steps) r.push) c.1 in
    (leb-true r.pop r.peek c.0, number_is (pushes r.body.steps) r.push d.1)

first_fine : (f : FilterForm) (r : RunForm) → IsTrue (is_filter f) → f.first ≡ Some r → is_run f.body.slots r ≡ true
first_fine f r ok e = subst (λ o. is_first f.body.slots o ≡ true) e (and_parts (is_usual f) (is_first f.body.slots f.first) ok).1

started : (f : FilterForm) (r : RunForm) → IsTrue (is_filter f) → f.first ≡ Some r → any_sets_below (length f.starts) f.body.steps ≡ false
    → any_sets_below (length f.starts) r.body.steps ≡ false → IsStarted f r
started f r ok e still quiet =
    let parts = run_parts f.body.slots r (first_fine f r ok e) in
    let n = length f.starts in
    record {
      first = e;
      plain = without_plain f ok still;
      peeks = parts.0;
      gives = λ input. length-map _ _ ∙ all_pushes r.body.steps r.push input (slots_from r.body.slots f.starts) parts.1;
      keeps = λ input. all_keep r.body.steps n input (slots_from r.body.slots f.starts) quiet ∙ take_at f.starts (replicate (r.body.slots - n) (pos 0)) n refl;
    }

-- THE LAWS

-- a filter that has a period settles
pub filter_settled : (name : List ℕ) (f : FilterForm) (p : Period) → IsTrue (is_filter f) → filter_period name f ≡ Ok p
    → IsSettled (filtered f) p (filter_fades f f.first)
filter_settled name f p ok h = let parts = period_parts name f p h in go f.first refl parts.still parts.is
  where
    test : (r : RunForm) (b : Bool) → any_sets_below (length f.starts) r.body.steps ≡ b → f.first ≡ Some r → any_sets_below (length f.starts) f.body.steps ≡ false
        → (if b then Err (Keeps name) else Ok (record { takes = f.pop; gives = f.push; reach = max (max r.peek 1) (r.pop + f.peek - f.pop) })) ≡ Ok p
        → IsSettled (filtered f) p (filter_fades f (Some r))
    test r true quiet e still is = absurd (cc is)
    test r false quiet e still is =
        let s = started f r ok e still quiet in
        subst (λ q. IsSettled (filtered f) q (filter_fades f (Some r))) (ok_is _ p is)
        (record {
          takes = s.plain.pops;
          fading = started_fading f r s;
          shifting = shift_later (filtered f) f.pop f.push (max (max r.peek 1) (r.pop + f.peek - f.pop)) r.push
              (r.push + times_for (0 - r.pop) f.pop * f.push) (omega arith) (started_shifting f r s);
        })

    go : (o : Option RunForm) → f.first ≡ o → any_sets_below (length f.starts) f.body.steps ≡ false → started_period name f o ≡ Ok p
        → IsSettled (filtered f) p (filter_fades f o)
    go None e still is =
        subst (λ q. IsSettled (filtered f) q (filter_fades f None)) (ok_is _ p is)
        (subst (λ h. IsSettled (filtered h) (record { takes = f.pop; gives = f.push; reach = f.peek - f.pop }) (λ v. times_for v f.pop * f.push)) (same_filter f e)
        (plain_settled (without_first f) (without_plain f ok still)))
    go (Some r) e still is = test r (any_sets_below (length f.starts) r.body.steps) refl e still is

-- the laws
pub filters_settle : FiltersSettle
filters_settle name f p ok h = filter_settled name f p ok h

-- and one without a first firing moves
pub filters_move : FiltersMove
filters_move f xs ok e still =
    subst (λ g. filtered g (drop g.pop xs) ≡ drop g.push (filtered g xs)) (same_filter f e) (moves_always (without_first f) (without_plain f ok still) xs)
