-- Firings of bodies, filters, tallies and copies.
use Rattle.std.proofs.Common.{◌≡◌, ℕ, zero, suc, ◌<◌, ℤ, List, [], ◌∷◌, ◌++◌, length, replicate, refl, sym, ap, ◌∙◌, subst, arith, ⊎_elim}
use Rattle.std.specs.Prelude.{All, Some, slice_get, nat_lt, if◌then◌else◌}
use Rattle.std.proofs.lemmas.Bool.{cases_lt}
use Rattle.std.proofs.lemmas.List.Elements.{All-cons, All-nil}
use Rattle.river_base.specs.declared.item.Item as item
use Rattle.river_base.specs.declared.kind.QueueType.{QueueType}
use Rattle.river_base.specs.declared.kind.QueueType.TheVariants.{Flat as FlatOf}
use Rattle.river_base.specs.Held.{held, IsHeld}
use Rattle.river_base.specs.Places.{each_grew, none}
use Rattle.river_base.proofs.PlaceLemmas.{each_grew_cong, each_grew-none, if_lt, if_ge}
use Rattle.kern_rows.specs.Forms.{CodeForm, FilterForm}
use Rattle.river_kernels.specs.declared.types.VarKind.{VarKind}
use Rattle.river_kernels.specs.Fits.{rows, ports}
use Rattle.river_kernels.specs.Kern.{Kern, code, filter, duplicate, tally}
use Rattle.brooklet_model.specs.Firings.{Kept}
use Rattle.brooklet_model.specs.Fire.{fire, ins}
use Rattle.brooklet_model.specs.Typed.{IsWordOf, widths_in, IsWide}
use Rattle.brooklet_model.specs.Words.{Word, at_port}
use Rattle.brooklet_model.proofs.Ports.{counts}
use Rattle.brooklet_model.proofs.Swaps.{at_port_here}
use Rattle.brooklet_step.specs.declared.emit.Emit.{Emit}
use Rattle.brooklet_step.specs.declared.state.State.{State}
use Rattle.brooklet_step.specs.Stands.{AreNone, Fires, Applies}
use Rattle.brooklet_step.specs.Took.{HasLists}
use Rattle.brooklet_step.specs.Given.{held_at, IsHeldBy, IsHeldOf, IsPlainBy, held_by, ran_from, Does, FiresAt, CanTake}
use Rattle.brooklet_step.proofs.GivenLemmas.{ran_more}
use Rattle.brooklet_step.proofs.GivenFires.{ArePlain, one_plain, simple_applies, plain_does}

-- PORTS

-- rows come from bodies
ports_plain : (ns : List ℤ) → ArePlain (ports ns)
ports_plain [] p = tt
ports_plain (n ∷ ns) zero = tt
ports_plain (n ∷ ns) (suc p) = ports_plain ns p

-- a port that a queue is at is one of the ports
below_held : (ts : List QueueType) (p : ℕ) (i : item.Item) → IsHeldOf ts p i → p < length ts
below_held [] p i h = absurd h
below_held (t ∷ ts) zero i h = omega arith
below_held (t ∷ ts) (suc p) i h = let l = below_held ts p i h in omega (arith, l)

-- a kernel with one port takes an item there
pub port_zero : (k : Kern) (port : ℕ) (i : item.Item) (st : List State) (out : Emit) → ins k ≡ 1 → CanTake k port i st out → port ≡ 0
port_zero k port i st out one t =
    let c = (counts k t.reads t.fitting.writes t.fitting.vars t.fitting.fits).ins in
    let l = below_held t.reads port i t.item in
    omega (arith, one, c, l)

-- ROWS

-- what a body, a filter or a tally needs
pub code_applies : (k : CodeForm) (port : ℕ) (i : item.Item) (st : List State) (out : Emit) → CanTake (code k) port i st out → Applies (code k) port i st out
code_applies k port i st out t =
    simple_applies (code k) port i st out tt t
    (subst (λ (l : List QueueType). IsPlainBy (slice_get l port)) (sym t.fitting.fits.0) (one_plain (rows k.body.inputs) tt port))

-- where a filter can take an item, it applies to it
pub filter_applies : (f : FilterForm) (port : ℕ) (i : item.Item) (st : List State) (out : Emit) → CanTake (filter f) port i st out
    → Applies (filter f) port i st out
filter_applies f port i st out t =
    simple_applies (filter f) port i st out tt t
    (subst (λ (l : List QueueType). IsPlainBy (slice_get l port)) (sym t.fitting.fits.0) (one_plain (rows 1) tt port))

-- where a tally can take an item, it applies to it
pub tally_applies : (port : ℕ) (i : item.Item) (st : List State) (out : Emit) → CanTake tally port i st out → Applies tally port i st out
tally_applies port i st out t =
    simple_applies tally port i st out tt t
    (subst (λ (l : List QueueType). IsPlainBy (slice_get l port)) (sym t.fitting.fits.1) (one_plain (rows t.fitting.fits.0) tt port))

-- and what they do
pub code_does : (k : CodeForm) (port : ℕ) (i : item.Item) (out out' : Emit) (st st' : List State) → Fires (code k) out out' st st' (fire (code k) port i)
    → FiresAt (code k) port i out out' st st'
code_does k port i out out' st st' f = record {
  each = λ reads writes vars fits fs hi.
      plain_does (code k) port i out out' st st' tt f reads writes vars fits fs hi (subst ArePlain (sym fits.0) (one_plain (rows k.body.inputs) tt))
      (subst ArePlain (sym fits.1) (ports_plain k.outs));
}

-- what a filter does by the definition is the firing
pub filter_does : (g : FilterForm) (port : ℕ) (i : item.Item) (out out' : Emit) (st st' : List State)
    → Fires (filter g) out out' st st' (fire (filter g) port i) → FiresAt (filter g) port i out out' st st'
filter_does g port i out out' st st' f = record {
  each = λ reads writes vars fits fs hi.
      plain_does (filter g) port i out out' st st' tt f reads writes vars fits fs hi (subst ArePlain (sym fits.0) (one_plain (rows 1) tt))
      (subst ArePlain (sym fits.1) (one_plain (rows 1) tt));
}

-- what a tally does by the definition is the firing
pub tally_does : (port : ℕ) (i : item.Item) (out out' : Emit) (st st' : List State) → Fires tally out out' st st' (fire tally port i)
    → FiresAt tally port i out out' st st'
tally_does port i out out' st st' f = record {
  each = λ reads writes vars fits fs hi.
      plain_does tally port i out out' st st' tt f reads writes vars fits fs hi (subst ArePlain (sym fits.1) (one_plain (rows fits.0) tt))
      (subst ArePlain (sym fits.2) (λ p. tt));
}

-- COPIES

-- each of the n lists has all that was received
pub copies_are : (n : ℕ) (T : QueueType) (ss : List Kept) (w : Word) (p : ℕ) → p < n → IsWordOf (T ∷ []) w → (ran_from (duplicate n) ss w).outs p ≡ at_port 0 w
copies_are n T ss [] p lt h = refl
copies_are n T ss ((zero, x) ∷ es) p lt h =
    ap (λ l. l ++ (ran_from (duplicate n) ss es).outs p) (if_lt p n (x ∷ []) [] lt) ∙ ap (λ l. x ∷ l) (copies_are n T ss es p lt h.1)
    ∙ sym (at_port_here 0 (0, x) es refl)
copies_are n T ss ((suc q, x) ∷ es) p lt h = absurd h.0

-- the port at a place below n has the type of all n
pub got_many : (t : QueueType) (n p : ℕ) → p < n → slice_get (replicate n t) p ≡ Some t
got_many t zero p lt = absurd (omega (arith, lt))
got_many t (suc n) zero lt = refl
got_many t (suc n) (suc p) lt = got_many t n p (omega (arith, lt))

held_many : (t : QueueType) (n p : ℕ) (i : item.Item) → IsHeld t i → All (IsHeldOf (replicate n t) p) (if nat_lt p n then i ∷ [] else [])
held_many t n p i h = ⊎_elim
    (λ lt. subst (All (IsHeldOf (replicate n t) p)) (sym (if_lt p n (i ∷ []) [] lt))
    (All-cons (IsHeldOf (replicate n t) p) i [] (subst (λ o. IsHeldBy o i) (sym (got_many t n p lt)) h) (All-nil (IsHeldOf (replicate n t) p))))
    (λ ge. subst (All (IsHeldOf (replicate n t) p)) (sym (if_ge p n (i ∷ []) [] ge)) (All-nil (IsHeldOf (replicate n t) p)))
    (cases_lt p n)

-- an item that is given at each port is what each of their queues holds for what the definition gives there
pub duplicate_does : (n : ℕ) (i : item.Item) (st : List State) (out out' : Emit) → HasLists (duplicate n) out → out'.outs ≡ each_grew out.outs (λ p. i ∷ [])
    → out'.adds ≡ out.adds → FiresAt (duplicate n) 0 i out out' st st
duplicate_does n i st out out' room eo ea = record {
  each = λ reads writes vars f fs hi.
      let T = FlatOf f.0 in
      subst (λ (l : List QueueType). Does (duplicate n) l writes vars 0 i out out' st st) (sym f.1)
      (subst (λ (l : List QueueType). Does (duplicate n) (T ∷ []) l vars 0 i out out' st st) (sym f.2)
      (does T vars fs (subst (λ (l : List QueueType). IsHeldOf l 0 i) f.1 hi)));
}
  where
    many : length out.outs ≡ n
    many = room.outs

    does : (T : QueueType) (vars : List VarKind) → st ≡ [] → IsHeld T i → Does (duplicate n) (T ∷ []) (replicate n T) vars 0 i out out' st st
    does T vars fs hi = record {
      gives = record {
        given = λ start w x is_start tw tx sa h.
            let before = ran_from (duplicate n) start w in
            let r = fire (duplicate n) 0 x before.states in
            let at_is : (p : ℕ) → p < n → i ∷ [] ≡ held_at (replicate n T) p (before.outs p) (r.outs p) = λ p lt.
            sym h ∙ ap (λ l. held T l (x ∷ [])) (sym (copies_are n T start w p lt tw)) ∙ ap (held T (before.outs p)) (sym (if_lt p n (x ∷ []) [] lt))
            ∙ ap (λ o. held_by o (before.outs p) (r.outs p)) (sym (got_many T n p lt)) in (
              record {
                outs = eo ∙ each_grew_cong out.outs (λ p. i ∷ []) (λ p. held_at (replicate n T) p (before.outs p) (r.outs p))
                    (λ p lt. at_is p (omega (arith, lt, many)));
                adds = ea ∙ sym (each_grew-none out.adds);
              },
              subst (λ (us : List Kept). AreNone st us) (sym (ran_more (duplicate n) start w 0 x).states) sa,
            );
      };
      came = record {
        outs = λ p. if nat_lt p n then i ∷ [] else [];
        adds = none;
        outs_are = eo ∙ each_grew_cong out.outs (λ p. i ∷ []) (λ p. if nat_lt p n then i ∷ [] else [])
            (λ p lt. sym (if_lt p n (i ∷ []) [] (omega (arith, lt, many))));
        adds_are = ea ∙ sym (each_grew-none out.adds);
        held = λ p. held_many T n p i hi;
        wide = λ t. All-nil (IsWide (slice_get (widths_in vars) t));
        again = fs;
      };
    }
