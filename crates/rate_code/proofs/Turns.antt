-- The queues of a joiner, one before those behind it.
use Rattle.std.proofs.Common.{◌≡◌, ℕ, zero, suc, ℤ, pos, ◌+◌, ◌<◌, ◌≤◌, max, List, [], ◌∷◌, length, drop, get_or, Some, Result, Ok, Err, IfOk, IfErr}
use Rattle.std.proofs.Common.{refl, sym, ap, ◌∙◌, subst, arith}
use Rattle.river_base.specs.Number.{count_of}
use Rattle.kern_rows.specs.Turns.{shares}
use Rattle.river_plan.specs.Forms.{Name}
use Rattle.streamit_model.specs.Meaning.{look}
use Rattle.stream_periods.specs.Periods as periods
use Rattle.stream_periods.specs.Periods.{beside, in_cycles, times_for, weight}
use Rattle.stream_periods.specs.Walk as walk
use Rattle.stream_periods.specs.Walk.{Known, Queues, or_lacks, on_known, rated, in_turn, turns}
use Rattle.rate_code.specs.declared.cause.NoRate.{NoRate}
use Rattle.rate_code.specs.declared.rate.Rate.{Rate}
use Rattle.rate_code.specs.declared.queues.Spot.{Spot}
use Rattle.rate_code.specs.Cause.{SaysCause, stepped}
use Rattle.rate_code.specs.Rate.{period_of}
use Rattle.rate_code.specs.Entries.{known_of}
use Rattle.rate_code.proofs.Causes.{on_cause, then_cause}

-- two branches that keep step
pub together : (w : ℕ) (s others first : Spot) (rate : Rate) (n : ℕ) → known_of first ≡ in_turn w (known_of s)
    → beside (period_of first.rate) (period_of others.rate) ≡ Ok (period_of rate) → n ≡ max first.fades others.fades
    → stepped w (known_of s) (known_of others) ≡ Ok (known_of (record { rate = rate; fades = n }))
together w s others first rate n e h m =
    ap (λ r. on_known (rated r) (λ p. Ok (record { period = p; fades = max (times_for s.fades w) others.fades })))
    (ap (λ (k : Known). beside k.period (period_of others.rate)) (sym e) ∙ h)
    ∙ ap (λ k. Ok (record { period = period_of rate; fades = k })) (sym (m ∙ ap (λ k. max k others.fades) (ap (λ (k : Known). k.fades) e)))

-- and two that do not
pub apart : (w : ℕ) (s others first : Spot) → known_of first ≡ in_turn w (known_of s)
    → beside (period_of first.rate) (period_of others.rate) ≡ Err periods.Unbalanced → stepped w (known_of s) (known_of others) ≡ Err (walk.Rates periods.Unbalanced)
apart w s others first e h =
    ap (λ r. on_known (rated r) (λ p. Ok (record { period = p; fades = max (times_for s.fades w) others.fades })))
    (ap (λ (k : Known). beside k.period (period_of others.rate)) (sym e) ∙ h)

-- the share at a place
pub share_at : (ws : List ℤ) (i : ℕ) → i < length ws → weight (shares ws) i ≡ count_of (get_or ws i (pos 0))
share_at [] i lt = absurd (omega (arith, lt))
share_at (v ∷ vs) zero lt = refl
share_at (v ∷ vs) (suc i) lt = share_at vs i (omega (arith, lt))

-- there is none beyond
pub share_beyond : (ws : List ℤ) (i : ℕ) → length ws ≤ i → weight (shares ws) i ≡ 0
share_beyond [] i lt = refl
share_beyond (v ∷ vs) zero lt = absurd (omega (arith, lt))
share_beyond (v ∷ vs) (suc i) lt = share_beyond vs i (omega (arith, lt))

-- the last queue
pub turns_last : (label : Name) (ws : List ℕ) (known : Queues) (i : ℕ) (q : Name) (a b : Known) → look known q ≡ Some a → b ≡ in_turn (weight ws i) a
    → turns label ws i known (q ∷ []) ≡ Ok b
turns_last label ws known i q a b found e = ap (λ o. on_known (or_lacks label o) (λ z. Ok (in_turn (weight ws i) z))) found ∙ ap Ok (sym e)

-- a queue that is not known
pub lacks_turn : (label : Name) (ws : List ℕ) (known : Queues) (i : ℕ) (q : Name) (rs : List Name) (e : NoRate)
    → SaysCause label (or_lacks label (look known q)) e → SaysCause label (turns label ws i known (q ∷ rs)) e
lacks_turn label ws known i q [] e h = on_cause label (or_lacks label (look known q)) (λ z. Ok (in_turn (weight ws i) z)) e h
lacks_turn label ws known i q (r ∷ rs) e h =
    on_cause label (or_lacks label (look known q)) (λ a. on_known (turns label ws (suc i) known (r ∷ rs)) (stepped (weight ws i) a)) e h

-- a queue that is known stands before others
turns_more : (label : Name) (ws : List ℕ) (known : Queues) (i : ℕ) (q : Name) (rs : List Name) (a : Known) → 0 < length rs → look known q ≡ Some a
    → turns label ws i known (q ∷ rs) ≡ on_known (turns label ws (i + 1) known rs) (stepped (weight ws i) a)
turns_more label ws known i q [] a lt found = absurd (omega (arith, lt))
turns_more label ws known i q (r ∷ rs) a lt found =
    ap (λ o. on_known (or_lacks label o) (λ b. on_known (turns label ws (suc i) known (r ∷ rs)) (stepped (weight ws i) b))) found
    ∙ ap (λ n. on_known (turns label ws n known (r ∷ rs)) (stepped (weight ws i) a)) (let z : suc i ≡ i + 1 = omega arith in z)

pub turns_next : (label : Name) (ws : List ℕ) (known : Queues) (i : ℕ) (q : Name) (rs : List Name) (a b s : Known) → 0 < length rs → look known q ≡ Some a
    → turns label ws (i + 1) known rs ≡ Ok b → stepped (weight ws i) a b ≡ Ok s → turns label ws i known (q ∷ rs) ≡ Ok s
turns_next label ws known i q rs a b s lt found h step =
    turns_more label ws known i q rs a lt found ∙ ap (λ o. on_known o (stepped (weight ws i) a)) h ∙ step

pub rest_turn : (label : Name) (ws : List ℕ) (known : Queues) (i : ℕ) (q : Name) (rs : List Name) (a : Known) (e : NoRate) → 0 < length rs → look known q ≡ Some a
    → SaysCause label (turns label ws (i + 1) known rs) e → SaysCause label (turns label ws i known (q ∷ rs)) e
rest_turn label ws known i q rs a e lt found h =
    subst (λ r. SaysCause label r e) (sym (turns_more label ws known i q rs a lt found))
    (on_cause label (turns label ws (i + 1) known rs) (stepped (weight ws i) a) e h)

pub step_turn : (label : Name) (ws : List ℕ) (known : Queues) (i : ℕ) (q : Name) (rs : List Name) (a b : Known) (e : NoRate) → 0 < length rs → look known q ≡ Some a
    → turns label ws (i + 1) known rs ≡ Ok b → SaysCause label (stepped (weight ws i) a b) e → SaysCause label (turns label ws i known (q ∷ rs)) e
step_turn label ws known i q rs a b e lt found is h =
    subst (λ r. SaysCause label r e) (sym (turns_more label ws known i q rs a lt found))
    (then_cause label (turns label ws (i + 1) known rs) b (stepped (weight ws i) a) e is h)

-- WHAT IS CALLED

split_first : (xs : List Name) (q : Name) → 0 < length (drop 1 xs) → q ≡ get_or xs 0 q → xs ≡ q ∷ drop 1 xs
split_first [] q lt is = absurd (omega (arith, lt))
split_first (x ∷ xs) q lt is = ap (λ z. z ∷ xs) (sym is)

pub turns-ok : (label : Name) (ws : List ℕ) (known : Queues) (i w : ℕ) (q : Name) (reads : List Name) (a b : Known) (r : Result Spot NoRate)
    → w ≡ weight ws i → 0 < length (drop 1 reads) → q ≡ get_or reads 0 q → look known q ≡ Some a → turns label ws (i + 1) known (drop 1 reads) ≡ Ok b
    → IfOk r (λ s. stepped w a b ≡ Ok (known_of s)) → IfOk r (λ s. turns label ws i known reads ≡ Ok (known_of s))
turns-ok label ws known i w q reads a b (Err e) same lt is found h step = tt
turns-ok label ws known i w q reads a b (Ok s) same lt is found h step =
    ap (turns label ws i known) (split_first reads q lt is)
    ∙ turns_next label ws known i q (drop 1 reads) a b (known_of s) lt found h (ap (λ n. stepped n a b) (sym same) ∙ step)

pub turns-err : (label : Name) (ws : List ℕ) (known : Queues) (i w : ℕ) (q : Name) (reads : List Name) (a b : Known) (r : Result Spot NoRate)
    → w ≡ weight ws i → 0 < length (drop 1 reads) → q ≡ get_or reads 0 q → look known q ≡ Some a → turns label ws (i + 1) known (drop 1 reads) ≡ Ok b
    → IfErr r (SaysCause label (stepped w a b)) → IfErr r (SaysCause label (turns label ws i known reads))
turns-err label ws known i w q reads a b (Ok s) same lt is found h step = tt
turns-err label ws known i w q reads a b (Err e) same lt is found h step =
    subst (λ l. SaysCause label (turns label ws i known l) e) (sym (split_first reads q lt is))
    (step_turn label ws known i q (drop 1 reads) a b e lt found h (subst (λ n. SaysCause label (stepped n a b) e) same step))
