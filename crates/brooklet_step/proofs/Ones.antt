-- Kernels with one port, and with one state or none.
use Rattle.std.proofs.Common.{◌≡◌, ℕ, ◌<◌, List, [], ◌∷◌, length, sym, ap, ◌∙◌, subst, arith, get_or}
use Rattle.std.proofs.Math.ListN.{set}
use Rattle.std.proofs.lemmas.List.{nil_from_length}
use Rattle.river_base.specs.declared.item.Item as item
use Rattle.river_kernels.specs.Kern.{Kern}
use Rattle.brooklet_model.specs.Fire.{ins, privates}
use Rattle.brooklet_step.specs.declared.emit.Emit.{Emit}
use Rattle.brooklet_step.specs.declared.state.State.{State}
use Rattle.brooklet_step.specs.Given.{CanTake, FiresAt}
use Rattle.brooklet_step.proofs.GivenLemmas.{fit_length}
use Rattle.brooklet_step.proofs.RowFires.{port_zero}

-- ONE PORT

-- a kernel with one port takes what comes at that port
pub zero_can : (k j : Kern) (port : ℕ) (i : item.Item) (st : List State) (out : Emit) → k ≡ j → ins j ≡ 1 → CanTake k port i st out → CanTake j 0 i st out
zero_can k j port i st out e one t =
    let u = subst (λ (x : Kern). CanTake x port i st out) e t in
    subst (λ q. CanTake j q i st out) (port_zero j port i st out one u) u

-- and does what it does there
pub zero_fires : (k j : Kern) (port : ℕ) (i : item.Item) (st st' : List State) (out out' : Emit) → k ≡ j → ins j ≡ 1 → CanTake k port i st out
    → FiresAt j 0 i out out' st st' → FiresAt k port i out out' st st'
zero_fires k j port i st st' out out' e one t f =
    let u = subst (λ (x : Kern). CanTake x port i st out) e t in
    subst (λ (x : Kern). FiresAt x port i out out' st st') (sym e) (subst (λ q. FiresAt j q i out out' st st') (sym (port_zero j port i st out one u)) f)

-- the same with whatever port it is
pub same_can : (k j : Kern) (port : ℕ) (i : item.Item) (st : List State) (out : Emit) → k ≡ j → CanTake k port i st out → CanTake j port i st out
same_can k j port i st out e t = subst (λ (x : Kern). CanTake x port i st out) e t

pub same_fires : (k j : Kern) (port : ℕ) (i : item.Item) (st st' : List State) (out out' : Emit) → k ≡ j → FiresAt j port i out out' st st'
    → FiresAt k port i out out' st st'
same_fires k j port i st st' out out' e f = subst (λ (x : Kern). FiresAt x port i out out' st st') (sym e) f

-- STATES

-- there are as many states as private variables
pub can_length : (k : Kern) (port : ℕ) (i : item.Item) (st : List State) (out : Emit) → CanTake k port i st out → length st ≡ privates k
can_length k port i st out t = fit_length k t.reads st t.fitting.state

pub some_state : (k j : Kern) (port : ℕ) (i : item.Item) (st : List State) (out : Emit) → k ≡ j → privates j ≡ 1 → CanTake k port i st out → 0 < length st
some_state k j port i st out e one t = let l = can_length j port i st out (same_can k j port i st out e t) in omega (arith, l, one)

-- a list of one state
pub only_one : (st : List State) (d s : State) → length st ≡ 1 → s ≡ get_or st 0 d → st ≡ s ∷ []
only_one [] d s l e = absurd (omega (arith, l))
only_one (t ∷ []) d s l e = ap (λ (u : State). u ∷ []) (sym e)
only_one (t ∷ u ∷ st) d s l e = absurd (omega (arith, l))

-- a kernel with one state
pub one_can : (j : Kern) (port : ℕ) (i : item.Item) (st : List State) (d s : State) (out : Emit) → privates j ≡ 1 → s ≡ get_or st 0 d → CanTake j port i st out
    → CanTake j port i (s ∷ []) out
one_can j port i st d s out one e t = subst (λ (l : List State). CanTake j port i l out) (only_one st d s (can_length j port i st out t ∙ one) e) t

pub one_fires : (j : Kern) (port : ℕ) (i : item.Item) (st : List State) (d s s' : State) (out out' : Emit) → privates j ≡ 1 → s ≡ get_or st 0 d
    → CanTake j port i st out → FiresAt j port i out out' (s ∷ []) (s' ∷ []) → FiresAt j port i out out' st (set st 0 s')
one_fires j port i st d s s' out out' one e t f =
    subst (λ (l : List State). FiresAt j port i out out' l (set l 0 s')) (sym (only_one st d s (can_length j port i st out t ∙ one) e)) f

-- a kernel without states
pub none_can : (j : Kern) (port : ℕ) (i : item.Item) (st : List State) (out : Emit) → privates j ≡ 0 → CanTake j port i st out → CanTake j port i [] out
none_can j port i st out none t = subst (λ (l : List State). CanTake j port i l out) (nil_from_length st (can_length j port i st out t ∙ none)) t

pub none_fires : (j : Kern) (port : ℕ) (i : item.Item) (st : List State) (out out' : Emit) → privates j ≡ 0 → CanTake j port i st out
    → FiresAt j port i out out' [] [] → FiresAt j port i out out' st st
none_fires j port i st out out' none t f =
    subst (λ (l : List State). FiresAt j port i out out' l l) (sym (nil_from_length st (can_length j port i st out t ∙ none))) f

-- ONE PORT AND ONE STATE, OR NONE

-- what such a kernel takes
pub first_can : (k j : Kern) (port : ℕ) (i : item.Item) (st : List State) (d s : State) (out : Emit) → k ≡ j → ins j ≡ 1 → privates j ≡ 1 → s ≡ get_or st 0 d
    → CanTake k port i st out → CanTake j 0 i (s ∷ []) out
first_can k j port i st d s out e a b g t = one_can j 0 i st d s out b g (zero_can k j port i st out e a t)

-- and does
pub first_fires : (k j : Kern) (port : ℕ) (i : item.Item) (st : List State) (d s s' : State) (out out' : Emit) → k ≡ j → ins j ≡ 1 → privates j ≡ 1
    → s ≡ get_or st 0 d → CanTake k port i st out → FiresAt j 0 i out out' (s ∷ []) (s' ∷ []) → FiresAt k port i out out' st (set st 0 s')
first_fires k j port i st d s s' out out' e a b g t f =
    zero_fires k j port i st (set st 0 s') out out' e a t (one_fires j 0 i st d s s' out out' b g (zero_can k j port i st out e a t) f)

-- a kernel without state, at its only port, can take what came
pub free_can : (k j : Kern) (port : ℕ) (i : item.Item) (st : List State) (out : Emit) → k ≡ j → ins j ≡ 1 → privates j ≡ 0 → CanTake k port i st out
    → CanTake j 0 i [] out
free_can k j port i st out e a b t = none_can j 0 i st out b (zero_can k j port i st out e a t)

-- what it does there is the firing
pub free_fires : (k j : Kern) (port : ℕ) (i : item.Item) (st : List State) (out out' : Emit) → k ≡ j → ins j ≡ 1 → privates j ≡ 0 → CanTake k port i st out
    → FiresAt j 0 i out out' [] [] → FiresAt k port i out out' st st
free_fires k j port i st out out' e a b t f =
    zero_fires k j port i st st out out' e a t (none_fires j 0 i st out out' b (zero_can k j port i st out e a t) f)

-- MANY PORTS AND ONE STATE

-- a kernel with one state can take what came
pub ports_can : (k j : Kern) (port : ℕ) (i : item.Item) (st : List State) (d s : State) (out : Emit) → k ≡ j → privates j ≡ 1 → s ≡ get_or st 0 d
    → CanTake k port i st out → CanTake j port i (s ∷ []) out
ports_can k j port i st d s out e b g t = one_can j port i st d s out b g (same_can k j port i st out e t)

-- what it does with that state is the firing
pub ports_fires : (k j : Kern) (port : ℕ) (i : item.Item) (st : List State) (d s s' : State) (out out' : Emit) → k ≡ j → privates j ≡ 1 → s ≡ get_or st 0 d
    → CanTake k port i st out → FiresAt j port i out out' (s ∷ []) (s' ∷ []) → FiresAt k port i out out' st (set st 0 s')
ports_fires k j port i st d s s' out out' e b g t f =
    same_fires k j port i st (set st 0 s') out out' e (one_fires j port i st d s s' out out' b g (same_can k j port i st out e t) f)
