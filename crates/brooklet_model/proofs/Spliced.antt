-- The ports of two kernels, with those of the second in place of one of the first.
use Rattle.std.proofs.Common.{◌≡◌, ℕ, zero, suc, ◌+◌, ◌-◌, ◌<◌, ◌≤◌, Option, List, [], ◌∷◌, ◌++◌, length, take, drop, sym, ap, ◌∙◌, subst, arith, ⊎_elim}
use Rattle.std.specs.Prelude.{All, slice_get}
use Rattle.std.proofs.lemmas.Bool.{cases_lt}
use Rattle.river_base.proofs.Lists.{got_append, got_past}
use Rattle.river_base.proofs.PlaceLemmas.{if_lt, if_ge}
use Rattle.river_base.specs.declared.item.Item as item
use Rattle.river_base.specs.declared.kind.QueueType.{QueueType}
use Rattle.river_kernels.specs.Fits.{spliced}
use Rattle.brooklet_model.specs.Firings.{splice}

-- below the place, the first list's
pub splice_first : {A : Type 0} (at n : ℕ) (f g : ℕ → A) (p : ℕ) → p < at → splice at n f g p ≡ f p
splice_first at n f g p lt = if_lt p at (f p) _ lt

-- from the place on, the second list's
pub splice_second : {A : Type 0} (at n : ℕ) (f g : ℕ → A) (p : ℕ) → at ≤ p → p - at < n → splice at n f g p ≡ g (p - at)
splice_second at n f g p ge lt = if_ge p at (f p) _ ge ∙ if_lt (p - at) n (g (p - at)) (f (p - n + 1)) lt

-- behind that, the first list's again, one later
pub splice_last : {A : Type 0} (at n : ℕ) (f g : ℕ → A) (p : ℕ) → at ≤ p → n ≤ p - at → splice at n f g p ≡ f (p - n + 1)
splice_last at n f g p ge le = if_ge p at (f p) _ ge ∙ if_ge (p - at) n (g (p - at)) (f (p - n + 1)) le

-- splicing behind the first port
pub splice_next : {A : Type 0} (at n : ℕ) (f g : ℕ → A) (p : ℕ) → splice at n (λ j. f (suc j)) g p ≡ splice (suc at) n f g (suc p)
splice_next at n f g p = ⊎_elim
    (λ lt. splice_first at n (λ j. f (suc j)) g p lt ∙ sym (splice_first (suc at) n f g (suc p) (omega (arith, lt))))
    (λ ge.
    let e : p - at ≡ suc p - suc at = omega arith in
    ⊎_elim
    (λ lt. splice_second at n (λ j. f (suc j)) g p ge lt ∙ ap g e ∙ sym (splice_second (suc at) n f g (suc p) (omega (arith, ge)) (omega (arith, lt, e))))
    (λ le.
    let d : suc (p - n + 1) ≡ suc p - n + 1 = omega (arith, le, ge) in
    splice_last at n (λ j. f (suc j)) g p ge le ∙ ap f d ∙ sym (splice_last (suc at) n f g (suc p) (omega (arith, ge)) (omega (arith, le, e))))
    (cases_lt (p - at) n))
    (cases_lt p at)

-- a splice one place further on keeps the first
pub spliced_next : {A : Type 0} (at : ℕ) (m : A) (ms bs : List A) → spliced (suc at) (m ∷ ms) bs ≡ m ∷ spliced at ms bs
spliced_next at m ms bs = let e : suc at + 1 ≡ suc (at + 1) = omega arith in ap (λ n. m ∷ (take at ms ++ (bs ++ drop n (m ∷ ms)))) e

-- the types of the ports of two kernels as one
pub spliced_got : (ms bs : List QueueType) (at p : ℕ) → at < length ms → slice_get (spliced at ms bs) p ≡ splice at (length bs) (slice_get ms) (slice_get bs) p
spliced_got [] bs at p lt = absurd (omega (arith, lt))
spliced_got (m ∷ ms) bs zero p lt = ⊎_elim
    (λ l.
    let z : p - 0 ≡ p = omega arith in
    got_append bs ms p l ∙ sym (splice_second 0 (length bs) (slice_get (m ∷ ms)) (slice_get bs) p (omega arith) (omega (arith, l)) ∙ ap (slice_get bs) z))
    (λ ge.
    let i : ℕ = p - length bs in
    let e : length bs + i ≡ p = omega (arith, ge) in
    let d : p - length bs + 1 ≡ suc i = omega arith in
    ap (slice_get (bs ++ ms)) (sym e) ∙ got_past bs ms i ∙ ap (slice_get (m ∷ ms)) (sym d)
    ∙ sym (splice_last 0 (length bs) (slice_get (m ∷ ms)) (slice_get bs) p (omega arith) (omega (arith, ge))))
    (cases_lt p (length bs))
spliced_got (m ∷ ms) bs (suc at) zero lt =
    ap (λ (l : List QueueType). slice_get l 0) (spliced_next at m ms bs)
    ∙ sym (splice_first (suc at) (length bs) (slice_get (m ∷ ms)) (slice_get bs) 0 (omega arith))
spliced_got (m ∷ ms) bs (suc at) (suc p) lt =
    ap (λ (l : List QueueType). slice_get l (suc p)) (spliced_next at m ms bs) ∙ spliced_got ms bs at p (omega (arith, lt))
    ∙ splice_next at (length bs) (slice_get (m ∷ ms)) (slice_get bs) p

-- whatever is said of the items at a port by its type, said of both kernels' ports it is said of the ports of the two as one
pub spliced_all : (B : Option QueueType → item.Item → Type 0) (ms bs : List QueueType) (at p : ℕ) (f g : ℕ → List item.Item) → at < length ms
    → ((q : ℕ) → All (B (slice_get ms q)) (f q)) → ((q : ℕ) → All (B (slice_get bs q)) (g q))
    → All (B (slice_get (spliced at ms bs) p)) (splice at (length bs) f g p)
spliced_all B ms bs at p f g lt a b = subst (λ o. All (B o) (splice at (length bs) f g p)) (sym (spliced_got ms bs at p lt)) (by_place (length bs))
  where
    by_place : (n : ℕ) → All (B (splice at n (slice_get ms) (slice_get bs) p)) (splice at n f g p)
    by_place n = ⊎_elim
        (λ l. subst (λ o. All (B o) (splice at n f g p)) (sym (splice_first at n (slice_get ms) (slice_get bs) p l))
        (subst (All (B (slice_get ms p))) (sym (splice_first at n f g p l)) (a p)))
        (λ ge. ⊎_elim
        (λ l. subst (λ o. All (B o) (splice at n f g p)) (sym (splice_second at n (slice_get ms) (slice_get bs) p ge l))
        (subst (All (B (slice_get bs (p - at)))) (sym (splice_second at n f g p ge l)) (b (p - at))))
        (λ le. subst (λ o. All (B o) (splice at n f g p)) (sym (splice_last at n (slice_get ms) (slice_get bs) p ge le))
        (subst (All (B (slice_get ms (p - n + 1)))) (sym (splice_last at n f g p ge le)) (a (p - n + 1))))
        (cases_lt (p - at) n))
        (cases_lt p at)
