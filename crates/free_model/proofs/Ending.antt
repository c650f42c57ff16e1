-- Each program comes to an end: what is told of it is its journal.
use Rattle.std.proofs.Common.{◌≡◌, ℕ, ℤ, zero, suc, ◌+◌, ◌*◌, ◌^◌, ◌%◌, ◌<◌, ◌≤◌, Bool, List, [], ◌∷◌, length, refl, sym, ap, ◌∙◌, subst, arith, ⊎_elim}
use Rattle.river_base.specs.declared.item.Item as item
use Rattle.river_base.specs.Name.{name_eq}
use Rattle.river_plan.proofs.NameLemmas.{more_or_zero}
use Rattle.free_model.specs.Apart.{Every, Ready}
use Rattle.free_model.specs.Bound.{firings_left}
use Rattle.free_model.specs.Forms.{FreeForm}
use Rattle.free_model.specs.Valid.{IsFree}
use Rattle.free_model.specs.Machine.{State, Run, start}
use Rattle.free_model.specs.Rounds.{choices, cells_at, shares, kept_of, turned, round_of, pick_at, Rounds, journal_of, IsJournal}
use Rattle.free_model.specs.declared.fired.Fired.{Fired}
use Rattle.free_model.specs.Told.{after_firing, after_all, Told, one_more, told_round, told, all_told, ToldIsJournal, JournalsAreTold}
use Rattle.free_model.proofs.Backwards.{ready_fires, rounds_fire, told_back}
use Rattle.free_model.proofs.Falling.{firings_count_down}
use Rattle.free_model.proofs.Kept.{choices_ready, round_none}
use Rattle.free_model.proofs.Telling.{rounds_are_told}

-- firings lower the number of those that can still come
run_falls : (p : FreeForm) → IsFree p → (es : List (ℕ × ℕ)) (s m : State) → Run p s es m → firings_left p.ops m + length es ≤ firings_left p.ops s
run_falls p v [] s m run = let e = ap (firings_left p.ops) run in omega (arith, e)
run_falls p v (e ∷ es) s m run =
    let a = firings_count_down p s run.0 e.0 e.1 v run.1 in
    let i = run_falls p v es run.0 m run.2 in
    omega (arith, a, i)

-- where there is a choice, one can still come
choice_counts : (p : FreeForm) → IsFree p → (s : State) (cs : List (ℕ × ℕ)) → choices p s ≡ cs → firings_left p.ops s ≡ 0 → cs ≡ []
choice_counts p v s [] e z = refl
choice_counts p v s (c ∷ cs) e z =
    let r : Ready p s c = (subst (Every (Ready p s)) e (choices_ready p s)).0 in
    absurd (let a = firings_count_down p s (after_firing p s c) c.0 c.1 v (ready_fires p v s c r) in omega (arith, a, z))

some_fires : (p : FreeForm) (workers pick : ℕ) (s : State) → 0 < workers → 0 < length (choices p s) → 0 < length (round_of p workers pick s)
some_fires p workers pick s w lt = by (round_of p workers pick s) refl
  where
    by : (es : List (ℕ × ℕ)) → round_of p workers pick s ≡ es → 0 < length es
    by [] e = absurd (let z = ap length (round_none p workers pick s w e) in omega (arith, z, lt))
    by (e ∷ es) h = omega arith

-- no choice is left where as many rounds are told as firings can come
told_ends : (p : FreeForm) (workers : ℕ) (picks : List ℤ) → IsFree p → 0 < workers → (n r : ℕ) (s : State) → firings_left p.ops s ≤ n
    → choices p (told p workers picks n r s).last ≡ []
told_ends p workers picks v w zero r s le = choice_counts p v s (choices p s) refl (omega (arith, le))
told_ends p workers picks v w (suc n) r s le = by (choices p s) refl (λ lt. told_ends p workers picks v w n (suc r) (after_all p s (round_of p workers (pick_at picks r) s)) lt)
  where
    es : List (ℕ × ℕ)
    es = round_of p workers (pick_at picks r) s

    m : State
    m = after_all p s es

    by : (cs : List (ℕ × ℕ)) → choices p s ≡ cs → (firings_left p.ops m ≤ n → choices p (told p workers picks n (suc r) m).last ≡ [])
        → choices p (told_round s cs (one_more es (told p workers picks n (suc r) m))).last ≡ []
    by [] e i = e
    by (c ∷ cs) e i =
        let some = some_fires p workers (pick_at picks r) s w (let l = ap length e in omega (arith, l)) in
        let f = run_falls p v es s m (rounds_fire p workers (pick_at picks r) s v) in
        i (omega (arith, some, f, le))

-- what is told is the journal
pub told_is_journal : ToldIsJournal
unfolding all_told
told_is_journal p workers picks inputs v w =
    let n = firings_left p.ops (start p inputs) in
    record {
      rounds = (told p workers picks n 0 (start p inputs)).rounds;
      follows = told_back p workers picks n 0 (start p inputs) v (told_ends p workers picks v w n 0 (start p inputs) (omega arith));
      journal_is = refl;
    }

none_kept : (share : ℕ × ℕ → ℕ × ℕ → Bool) (cs : List (ℕ × ℕ)) → kept_of share 0 [] cs ≡ []
none_kept share [] = refl
none_kept share (c ∷ cs) = none_kept share cs

-- without a worker there is no end but at once
idle_ends : (p : FreeForm) (picks : List ℤ) (r : ℕ) (s m : State) (rounds : List (List (ℕ × ℕ))) → Rounds p 0 picks r s rounds m → choices p s ≡ []
idle_ends p picks r s m [] h = h.1
idle_ends p picks r s m (es ∷ rounds) h =
    let none : es ≡ [] = h.1 ∙ none_kept (shares name_eq (cells_at p)) (turned (pick_at picks r % length (choices p s)) (choices p s)) in
    let stays : h.2.0 ≡ s = subst (λ l. Run p s l h.2.0) none h.2.1 in
    subst (λ (x : State). choices p x ≡ []) stays (idle_ends p picks (suc r) h.2.0 m rounds h.2.2)

-- there are not more rounds than firings can come
rounds_few : (p : FreeForm) (workers : ℕ) (picks : List ℤ) → IsFree p → (r : ℕ) (s m : State) (rounds : List (List (ℕ × ℕ))) → Rounds p workers picks r s rounds m
    → length rounds ≤ firings_left p.ops s
rounds_few p workers picks v r s m [] h = omega arith
rounds_few p workers picks v r s m (es ∷ rounds) h =
    let i = rounds_few p workers picks v (suc r) h.2.0 m rounds h.2.2 in
    let f = run_falls p v es s h.2.0 h.2.1 in
    ⊎_elim
    (λ w. let some = some_fires p workers (pick_at picks r) s w h.0 in let l = ap length h.1 in omega (arith, i, f, some, l))
    (λ z. absurd (let none = idle_ends p picks r s m (es ∷ rounds) (subst (λ n. Rounds p n picks r s (es ∷ rounds) m) z h) in
    let l = ap length none in let lt = h.0 in omega (arith, l, lt)))
    (more_or_zero workers)

all_rounds : (p : FreeForm) (workers : ℕ) (picks : List ℤ) (inputs : List (List item.Item)) (rounds : List (List (ℕ × ℕ))) (s : State) → IsFree p
    → Rounds p workers picks 0 (start p inputs) rounds s → all_told p workers picks inputs ≡ record { rounds = rounds; last = s }
unfolding all_told
all_rounds p workers picks inputs rounds s v h =
    rounds_are_told p workers picks (firings_left p.ops (start p inputs)) 0 (start p inputs) s rounds h (rounds_few p workers picks v 0 (start p inputs) s rounds h)

-- a journal of a valid program and its last state are told
pub journals_are_told : JournalsAreTold
journals_are_told p workers picks inputs journal s v j =
    let e = all_rounds p workers picks inputs j.rounds s v j.follows in
    (j.journal_is ∙ ap (λ (t : Told). journal_of 1 t.rounds) (sym e), ap (λ (t : Told). t.last) (sym e))
