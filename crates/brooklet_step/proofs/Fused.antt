-- Firings of two kernels as one: their lists put together.
use Rattle.std.proofs.Common.{◌≡◌, ℕ, ◌+◌, ◌-◌, ◌≤◌, ◌<◌, Ok, Err, List, [], length, take, drop, refl, sym, ap, ◌∙◌, arith, ⊎_elim, get_or-set_other}
use Rattle.std.specs.Prelude.{OnOk, slice_set}
use Rattle.std.specs.declared.result.Result.{Result}
use Rattle.std.proofs.lemmas.Bool.{cases_lt}
use Rattle.std.proofs.lemmas.List.{length-set}
use Rattle.river_base.specs.declared.item.Item as item
use Rattle.river_base.specs.Places.{each_grew, list_at}
use Rattle.river_base.proofs.PlaceLemmas.{if_lt, if_ge, each_grew_cong}
use Rattle.river_kernels.specs.Kern.{Kern, fused}
use Rattle.brooklet_model.specs.Firings.{splice, beside}
use Rattle.brooklet_model.specs.Fire.{privates}
use Rattle.brooklet_step.specs.declared.state.State.{State}
use Rattle.brooklet_step.specs.Took.{StayApart}

-- two kernels' lists, put together, are a function of the lists at their ports
pub splice_cong : {A : Type 0} (at n m : ℕ) (f f' g g' : ℕ → A) (p : ℕ) → at < m → p + 1 < m + n → ((q : ℕ) → q < m → f q ≡ f' q)
    → ((q : ℕ) → q < n → g q ≡ g' q) → splice at n f g p ≡ splice at n f' g' p
splice_cong at n m f f' g g' p hat hp hf hg = ⊎_elim
    (λ lt. if_lt p at (f p) _ lt ∙ hf p (omega arith) ∙ sym (if_lt p at (f' p) _ lt))
    (λ ge. if_ge p at (f p) _ ge ∙ ⊎_elim
    (λ lt. if_lt (p - at) n (g (p - at)) _ lt ∙ hg (p - at) lt ∙ sym (if_lt (p - at) n (g' (p - at)) _ lt))
    (λ le. if_ge (p - at) n _ (f (p - n + 1)) le ∙ hf (p - n + 1) (omega arith) ∙ sym (if_ge (p - at) n _ (f' (p - n + 1)) le))
    (cases_lt (p - at) n)
    ∙ sym (if_ge p at (f' p) _ ge))
    (cases_lt p at)

-- the list at the port between two kernels is none of those of the two as one
splice_other : {A : Type 0} (at n : ℕ) (f f' g : ℕ → A) (p : ℕ) → ((q : ℕ) → (q ≡ at → ⊥) → f q ≡ f' q) → splice at n f g p ≡ splice at n f' g p
splice_other at n f f' g p h = ⊎_elim
    (λ lt. if_lt p at (f p) _ lt ∙ h p (λ e. omega (arith, e, lt)) ∙ sym (if_lt p at (f' p) _ lt))
    (λ ge. if_ge p at (f p) _ ge ∙ ⊎_elim
    (λ lt. if_lt (p - at) n (g (p - at)) _ lt ∙ sym (if_lt (p - at) n (g (p - at)) _ lt))
    (λ le. if_ge (p - at) n _ (f (p - n + 1)) le ∙ h (p - n + 1) (λ e. omega (arith, e, le, ge)) ∙ sym (if_ge (p - at) n _ (f' (p - n + 1)) le))
    (cases_lt (p - at) n)
    ∙ sym (if_ge p at (f' p) _ ge))
    (cases_lt p at)

-- so it may be taken out before the lists are put together
pub spliced_taken : (at n : ℕ) (outs new ls ls' : List (List item.Item)) (g : ℕ → List item.Item) → ls' ≡ slice_set ls at []
    → new ≡ each_grew outs (splice at n (list_at ls') g) → new ≡ each_grew outs (splice at n (list_at ls) g)
spliced_taken at n outs new ls ls' g e h =
    h ∙ each_grew_cong outs (splice at n (list_at ls') g) (splice at n (list_at ls) g)
    (λ p lt. splice_other at n (list_at ls') (list_at ls) g p (λ q ne. ap (λ (l : List (List item.Item)). list_at l q) e ∙ get_or-set_other ls at q [] [] ne))

-- PUTTING LISTS TOGETHER ONE BY ONE

set_many : {A : Type 0} (ls ls' : List (List A)) (i : ℕ) → ls' ≡ slice_set ls i [] → length ls' ≡ length ls
set_many ls ls' i e = ap length e ∙ length-set ls i []

set_same : {A : Type 0} (ls ls' : List (List A)) (i q : ℕ) → ls' ≡ slice_set ls i [] → (q ≡ i → ⊥) → list_at ls' q ≡ list_at ls q
set_same ls ls' i q e ne = ap (λ l. list_at l q) e ∙ get_or-set_other ls i q [] [] ne

-- the port taken is one before the middle one, one of the second kernel's, or one behind
pub apart_front : {A : Type 0} (at port : ℕ) (first first' second : List (List A)) → port < at → first' ≡ slice_set first port []
    → StayApart (splice at (length second)) port first first' second second
apart_front at port first first' second lt e = record {
  many = set_many first first' port e;
  many_more = refl;
  others = λ q ne. splice_first_by at (length second) (list_at first') (list_at first) (list_at second) port q lt ne (λ p d. set_same first first' port p e d);
}
  where
    splice_first_by : {A : Type 0} (at n : ℕ) (f f' g : ℕ → List A) (port q : ℕ) → port < at → (q ≡ port → ⊥) → ((p : ℕ) → (p ≡ port → ⊥) → f p ≡ f' p)
        → splice at n f g q ≡ splice at n f' g q
    splice_first_by at n f f' g port q lt ne h = ⊎_elim
        (λ l. if_lt q at (f q) _ l ∙ h q ne ∙ sym (if_lt q at (f' q) _ l))
        (λ ge. if_ge q at (f q) _ ge ∙ ⊎_elim
        (λ l. if_lt (q - at) n (g (q - at)) _ l ∙ sym (if_lt (q - at) n (g (q - at)) _ l))
        (λ le. if_ge (q - at) n _ (f (q - n + 1)) le ∙ h (q - n + 1) (λ e. omega (arith, e, le, ge, lt)) ∙ sym (if_ge (q - at) n _ (f' (q - n + 1)) le))
        (cases_lt (q - at) n)
        ∙ sym (if_ge q at (f' q) _ ge))
        (cases_lt q at)

pub apart_second : {A : Type 0} (at port : ℕ) (first second second' : List (List A)) → at ≤ port → port - at < length second
    → second' ≡ slice_set second (port - at) [] → StayApart (splice at (length second)) port first first second second'
apart_second at port first second second' ge lt e = record {
  many = refl;
  many_more = set_many second second' (port - at) e;
  others = λ q ne. by_place (length second) q ne;
}
  where
    by_place : (n q : ℕ) → (q ≡ port → ⊥) → splice at n (list_at first) (list_at second') q ≡ splice at n (list_at first) (list_at second) q
    by_place n q ne = ⊎_elim
        (λ l. if_lt q at (list_at first q) _ l ∙ sym (if_lt q at (list_at first q) _ l))
        (λ gq. if_ge q at (list_at first q) _ gq ∙ ⊎_elim
        (λ l. if_lt (q - at) n (list_at second' (q - at)) _ l ∙ set_same second second' (port - at) (q - at) e (λ d. ne (omega (arith, d, ge, gq)))
        ∙ sym (if_lt (q - at) n (list_at second (q - at)) _ l))
        (λ le. if_ge (q - at) n _ (list_at first (q - n + 1)) le ∙ sym (if_ge (q - at) n _ (list_at first (q - n + 1)) le))
        (cases_lt (q - at) n)
        ∙ sym (if_ge q at (list_at first q) _ gq))
        (cases_lt q at)

pub apart_back : {A : Type 0} (at port : ℕ) (first first' second : List (List A)) → at ≤ port → length second ≤ port - at
    → first' ≡ slice_set first (port - length second + 1) [] → StayApart (splice at (length second)) port first first' second second
apart_back at port first first' second ge ln e = record {
  many = set_many first first' (port - length second + 1) e;
  many_more = refl;
  others = λ q ne. by_place (length second) refl q ne;
}
  where
    by_place : (n : ℕ) → n ≡ length second → (q : ℕ) → (q ≡ port → ⊥)
        → splice at n (list_at first') (list_at second) q ≡ splice at n (list_at first) (list_at second) q
    by_place n en q ne = ⊎_elim
        (λ l. if_lt q at (list_at first' q) _ l ∙ set_same first first' (port - length second + 1) q e (λ d. omega (arith, d, ge, ln, l))
        ∙ sym (if_lt q at (list_at first q) _ l))
        (λ gq. if_ge q at (list_at first' q) _ gq ∙ ⊎_elim
        (λ l. if_lt (q - at) n (list_at second (q - at)) _ l ∙ sym (if_lt (q - at) n (list_at second (q - at)) _ l))
        (λ le. if_ge (q - at) n _ (list_at first' (q - n + 1)) le
        ∙ set_same first first' (port - length second + 1) (q - n + 1) e (λ d. ne (omega (arith, d, ge, gq, ln, le, en)))
        ∙ sym (if_ge (q - at) n _ (list_at first (q - n + 1)) le))
        (cases_lt (q - at) n)
        ∙ sym (if_ge q at (list_at first q) _ gq))
        (cases_lt q at)

-- and of tables
pub beside_front : {A : Type 0} (table : ℕ) (first first' second : List (List A)) → table < length first → first' ≡ slice_set first table []
    → StayApart (beside (length first)) table first first' second second
beside_front table first first' second lt e = record { many = set_many first first' table e; many_more = refl; others = λ q ne. by_place (length first) q ne }
  where
    by_place : (n q : ℕ) → (q ≡ table → ⊥) → beside n (list_at first') (list_at second) q ≡ beside n (list_at first) (list_at second) q
    by_place n q ne = ⊎_elim
        (λ l. if_lt q n (list_at first' q) _ l ∙ set_same first first' table q e ne ∙ sym (if_lt q n (list_at first q) _ l))
        (λ ge. if_ge q n (list_at first' q) _ ge ∙ sym (if_ge q n (list_at first q) _ ge))
        (cases_lt q n)

pub beside_back : {A : Type 0} (table : ℕ) (first second second' : List (List A)) → length first ≤ table → second' ≡ slice_set second (table - length first) []
    → StayApart (beside (length first)) table first first second second'
beside_back table first second second' ge e =
    record { many = refl; many_more = set_many second second' (table - length first) e; others = λ q ne. by_place (length first) refl q ne }
  where
    by_place : (n : ℕ) → n ≡ length first → (q : ℕ) → (q ≡ table → ⊥)
        → beside n (list_at first) (list_at second') q ≡ beside n (list_at first) (list_at second) q
    by_place n en q ne = ⊎_elim
        (λ l. if_lt q n (list_at first q) _ l ∙ sym (if_lt q n (list_at first q) _ l))
        (λ gq. if_ge q n (list_at first q) _ gq ∙ set_same second second' (table - length first) (q - n) e (λ d. ne (omega (arith, d, ge, gq, en)))
        ∙ sym (if_ge q n (list_at first q) _ gq))
        (cases_lt q n)

-- what is left of the lists of two kernels, of which the first places were put together already
pub record Leaves {A : Type 0} (join : (ℕ → List A) → (ℕ → List A) → ℕ → List A) (done : ℕ) (first now second now_second : List (List A)) : Type 0 where
  pub many : length now ≡ length first
  pub many_more : length now_second ≡ length second
  pub rest : (q : ℕ) → done ≤ q → join (list_at now) (list_at now_second) q ≡ join (list_at first) (list_at second) q

-- nothing is put together yet
pub leaves_all : {A : Type 0} (join : (ℕ → List A) → (ℕ → List A) → ℕ → List A) (first second : List (List A)) → Leaves join 0 first first second second
leaves_all join first second = record { many = refl; many_more = refl; rest = λ q le. refl }

-- one list more is
pub leaves_next : {A : Type 0} (join : (ℕ → List A) → (ℕ → List A) → ℕ → List A) (done : ℕ) (first now next second now_second next_second : List (List A))
    → Leaves join done first now second now_second → StayApart join done now next now_second next_second → Leaves join (done + 1) first next second next_second
leaves_next join done first now next second now_second next_second l s = record {
  many = s.many ∙ l.many;
  many_more = s.many_more ∙ l.many_more;
  rest = λ q le. s.others q (λ e. omega (arith, e, le)) ∙ l.rest q (omega (arith, le));
}

-- and of those for their tables
pub beside_cong : {A : Type 0} (n m : ℕ) (f f' g g' : ℕ → A) (p : ℕ) → p < m + n → ((q : ℕ) → q < m → f q ≡ f' q) → ((q : ℕ) → q < n → g q ≡ g' q)
    → beside m f g p ≡ beside m f' g' p
beside_cong n m f f' g g' p hp hf hg = ⊎_elim
    (λ lt. if_lt p m (f p) _ lt ∙ hf p lt ∙ sym (if_lt p m (f' p) _ lt))
    (λ ge. if_ge p m _ (g (p - m)) ge ∙ hg (p - m) (omega arith) ∙ sym (if_ge p m _ (g' (p - m)) ge))
    (cases_lt p m)

-- the states of k, which is two kernels, are split between them
pub record Parts (k a b : Kern) (at count : ℕ) (st mine rest : List State) : Type 0 where
  pub kernel : k ≡ fused a b at
  pub counted : count ≡ privates a
  pub front : mine ≡ take count st
  pub back : rest ≡ drop count st

-- the first part's states are the first ones
pub mine_is : (k a b : Kern) (at count : ℕ) (st mine rest : List State) → Parts k a b at count st mine rest → mine ≡ take (privates a) st
mine_is k a b at count st mine rest p = p.front ∙ ap (λ n. take n st) p.counted

-- the second part's states are those behind them
pub rest_is : (k a b : Kern) (at count : ℕ) (st mine rest : List State) → Parts k a b at count st mine rest → rest ≡ drop (privates a) st
rest_is k a b at count st mine rest p = p.back ∙ ap (λ n. drop n st) p.counted

-- two facts that hold where a call succeeded give a third
pub result_both : {T E P Q R : Type 0} (r : Result T E) → (P → Q → R) → OnOk r P → OnOk r Q → OnOk r R
result_both (Ok x) f p q = f p q
result_both (Err e) f p q = tt
