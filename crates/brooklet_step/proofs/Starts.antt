-- The first states of kernels.
use Rattle.std.proofs.Common.{◌≡◌, ℕ, ℤ, Ok, Err, List, [], ◌∷◌, ◌++◌, length, refl, sym, subst, IfOk}
use Rattle.std.specs.declared.result.Result.{Result}
use Rattle.std.proofs.lemmas.List.{take_at, drop_at}
use Rattle.river_base.specs.declared.memory.NoMemory.{NoMemory}
use Rattle.river_base.specs.declared.kind.QueueType.{QueueType}
use Rattle.river_base.specs.declared.kind.QueueType.TheVariants.{Flat as FlatOf}
use Rattle.kern_bags.specs.Kept.{window_start}
use Rattle.kern_bags.specs.Following.{cross_start}
use Rattle.kern_bags.specs.declared.kernel.Window.{Window}
use Rattle.kern_bags.specs.declared.kernel.Streamer.{Streamer}
use Rattle.kern_rows.specs.Joined.{join_start}
use Rattle.kern_rows.specs.Dealing.{dealt_start}
use Rattle.kern_rows.specs.Forms.{FilterForm}
use Rattle.kern_rows.specs.Needs.{CanFilter, HaveShares}
use Rattle.kern_rows.specs.Turns.{shares}
use Rattle.river_kernels.specs.Kern.{Kern, filter, deal, collect, packed, unpack, window, cross, streamer, fused}
use Rattle.brooklet_model.specs.Fire.{first_kept, first_slots, privates}
use Rattle.brooklet_model.specs.Shapes.{IsFormed}
use Rattle.brooklet_model.specs.Typed.{between}
use Rattle.brooklet_model.proofs.Ports.{formed_shaped}
use Rattle.brooklet_model.proofs.Shapes.{shape_length}
use Rattle.brooklet_model.proofs.Typing.{between_is}
use Rattle.river_kernels.specs.declared.types.VarKind.{VarKind}
use Rattle.river_kernels.specs.Fits.{Fits}
use Rattle.river_kernels.specs.Types.{types_of}
use Rattle.brooklet_step.specs.declared.state.State.{State}
use Rattle.brooklet_step.specs.declared.state.State.TheVariants as state
use Rattle.brooklet_step.specs.Given.{FitState, StandsAfter}
use Rattle.brooklet_step.specs.Initial.{AreFirstStates}
use Rattle.brooklet_step.specs.Stands.{StandsForSlots, StandsForKept}
use Rattle.river_kernels.proofs.WellFormed.{can_filter}
use Rattle.brooklet_step.proofs.DealFires.{deal_first_after, deal_first_fits}
use Rattle.brooklet_step.proofs.JoinFires.{collect_first_after, collect_first_fits, unpack_first_after, unpack_first_fits}
use Rattle.brooklet_step.proofs.WindowFires.{window_first_after, window_first_fits}
use Rattle.brooklet_step.proofs.CrossFires.{cross_first_after, cross_first_fits}
use Rattle.brooklet_step.proofs.StreamFires.{streamer_first_after, streamer_first_fits}
use Rattle.brooklet_step.proofs.GivenLemmas.{IsSimple, first_is_start, fit_of, fit_length, simple_from, parts_fit, parts_after}

-- what is said of each value is said of an answer
pub if_ok : {A : Type 0} (P Q : A → Type 0) (r : Result A NoMemory) → ((x : A) → P x → Q x) → IfOk r P → IfOk r Q
if_ok P Q (Err e) f h = h
if_ok P Q (Ok x) f h = f x h

-- without starts no state is kept
pub no_slots : (zs : List ℤ) → zs ≡ [] → StandsForSlots zs [] (first_slots zs)
no_slots zs e = subst (λ (l : List ℤ). StandsForSlots l [] (first_slots l)) (sym e) (record { code = refl; defined = refl })

-- with starts one state keeps the slots
pub some_slots : (zs : List ℤ) (st : List State) → (zs ≡ [] → ⊥) → st ≡ state.Slots zs ∷ [] → StandsForSlots zs st (first_slots zs)
some_slots [] st n e = absurd (n refl)
some_slots (z ∷ zs) st n e = record { slots = z ∷ zs; code = e; defined = refl; count = refl }

-- a filter that is right in itself can run
pub filter_first : (f : FilterForm) → IsFormed (filter f) → CanFilter f
filter_first f h = can_filter f h.fits.3

-- a splitter that is right in itself has weights above 0
pub deal_first : (ws : List ℤ) → IsFormed (deal ws) → HaveShares (shares ws)
deal_first ws h = formed_shaped (deal ws) h

pub inner_formed : (k : Kern) → IsFormed (packed k) → IsFormed k
inner_formed k h = record { reads = FlatOf h.fits.0 ∷ []; writes = FlatOf h.fits.1 ∷ []; vars = []; fits = h.fits.5 }

pub first_formed : (a b : Kern) (at : ℕ) → IsFormed (fused a b at) → IsFormed a
first_formed a b at h = record { reads = h.reads; writes = h.fits.0; vars = h.fits.3; fits = h.fits.5 }

pub second_formed : (a b : Kern) (at : ℕ) → IsFormed (fused a b at) → IsFormed b
second_formed a b at h = record { reads = h.fits.1 ∷ []; writes = h.fits.2; vars = h.fits.4; fits = h.fits.7 }

-- THE FIRST STATES OF KERNELS, AFTER NO FIRING

-- states that stand for the first ones, and fit
pub first_of : (k : Kern) (st : List State) → IsFormed k → ((reads : List QueueType) → StandsAfter k reads (first_kept k) st [])
    → ((reads writes : List QueueType) (vars : List VarKind) → Fits k reads writes vars → FitState k reads st) → AreFirstStates k st
first_of k st f after again = record { start = λ reads. first_is_start k reads (formed_shaped k f); after = after; again = again }

-- a kernel that keeps no items
pub simple_first : (k : Kern) (st : List State) → IsSimple k → IsFormed k → StandsForKept k st (first_kept k) → AreFirstStates k st
simple_first k st l f h =
    first_of k st f (λ reads. simple_from k reads (first_kept k) st [] l h) (λ reads writes vars fits. fit_of k reads st (first_kept k) h)

-- a splitter
pub splitter_first : (ws : List ℤ) (st : List State) → IsFormed (deal ws) → st ≡ state.Deal (dealt_start (length ws)) ∷ [] → AreFirstStates (deal ws) st
splitter_first ws st f e =
    let some = formed_shaped (deal ws) f in
    first_of (deal ws) st f
    (λ reads. subst (λ (l : List State). StandsAfter (deal ws) reads (first_kept (deal ws)) l []) (sym e) (deal_first_after ws reads some))
    (λ reads writes vars fits. subst (FitState (deal ws) reads) (sym e) (deal_first_fits ws reads some))

-- a joiner
pub joiner_first : (ws : List ℤ) (st : List State) → IsFormed (collect ws) → st ≡ state.Join (join_start (length ws)) ∷ [] → AreFirstStates (collect ws) st
joiner_first ws st f e =
    first_of (collect ws) st f
    (λ reads. subst (λ (l : List State). StandsAfter (collect ws) reads (first_kept (collect ws)) l []) (sym e)
    (collect_first_after ws reads (formed_shaped (collect ws) f)))
    (λ reads writes vars fits. subst (FitState (collect ws) reads) (sym e) (collect_first_fits ws reads (formed_shaped (collect ws) f)))

-- a joiner of packs
pub unpacker_first : (n : ℕ) (st : List State) → IsFormed (unpack n) → st ≡ state.Join (join_start n) ∷ [] → AreFirstStates (unpack n) st
unpacker_first n st f e =
    first_of (unpack n) st f
    (λ reads. subst (λ (l : List State). StandsAfter (unpack n) reads (first_kept (unpack n)) l []) (sym e)
    (unpack_first_after n reads (formed_shaped (unpack n) f)))
    (λ reads writes vars fits. subst (FitState (unpack n) reads) (sym e) (unpack_first_fits n reads (formed_shaped (unpack n) f)))

-- a window
pub window_first : (w : Window) (st : List State) → IsFormed (window w) → st ≡ state.Window window_start ∷ [] → AreFirstStates (window w) st
window_first w st f e =
    first_of (window w) st f
    (λ reads. subst (λ (l : List State). StandsAfter (window w) reads (first_kept (window w)) l []) (sym e) (window_first_after w reads))
    (λ reads writes vars fits. subst (FitState (window w) reads) (sym e) (window_first_fits w reads writes vars fits))

-- a product
pub cross_first : (st : List State) → IsFormed cross → st ≡ state.Cross cross_start ∷ [] → AreFirstStates cross st
cross_first st f e =
    first_of cross st f
    (λ reads. subst (λ (l : List State). StandsAfter cross reads (first_kept cross) l []) (sym e) (cross_first_after reads))
    (λ reads writes vars fits. subst (FitState cross reads) (sym e) (cross_first_fits reads writes vars fits))

-- a streamer
pub streamer_first : (s : Streamer) (st : List State) → IsFormed (streamer s) → st ≡ state.Streamer [] ∷ [] → AreFirstStates (streamer s) st
streamer_first s st f e =
    first_of (streamer s) st f
    (λ reads. subst (λ (l : List State). StandsAfter (streamer s) reads (first_kept (streamer s)) l []) (sym e) (streamer_first_after s reads))
    (λ reads writes vars fits. subst (FitState (streamer s) reads) (sym e) (streamer_first_fits s reads writes vars fits))

-- the first states of a kernel are those of another form of it
pub first_at : (k j : Kern) (st : List State) → k ≡ j → AreFirstStates j st → AreFirstStates k st
first_at k j st e h = subst (λ (i : Kern). AreFirstStates i st) (sym e) h

-- a kernel whose items go into packs keeps what the kernel inside keeps
pub packed_first : (k : Kern) (st : List State) → AreFirstStates k st → AreFirstStates (packed k) st
packed_first k st h = record {
  start = λ reads. let s = h.start reads in record { shape = s.shape; holds = s.holds };
  after = h.after;
  again =
      λ reads writes vars fits. h.again reads (FlatOf fits.1 ∷ []) [] (subst (λ (l : List QueueType). Fits k l (FlatOf fits.1 ∷ []) []) (sym fits.2) fits.5);
}

-- two kernels keep what the first keeps and then what the second keeps
pub fused_first : (a b : Kern) (at : ℕ) (st st' : List State) → IsFormed (fused a b at) → AreFirstStates a st → AreFirstStates b st'
    → AreFirstStates (fused a b at) (st ++ st')
fused_first a b at st st' f h g = record {
  start = λ reads. first_is_start (fused a b at) reads (formed_shaped (fused a b at) f);
  after = λ reads.
      let inner = between at (types_of a reads) in
      let many = fit_length a f.reads st (h.again f.reads f.fits.0 f.fits.3 f.fits.5) in
      let own = shape_length a (first_kept a) (h.start reads).shape in
      let mine = take_at (first_kept a) (first_kept b) (privates a) own in
      let rest = drop_at (first_kept a) (first_kept b) (privates a) own in
      parts_after a b at reads (first_kept a ++ first_kept b) st st' [] many
      (subst (λ ss. StandsAfter a reads ss st []) (sym mine) (h.after reads))
      (subst (λ ss. StandsAfter b inner ss st' []) (sym rest) (g.after inner));
  again = λ reads writes vars fits.
      parts_fit a b at reads st st' (h.again reads fits.0 fits.3 fits.5)
      (subst (λ (l : List QueueType). FitState b l st') (sym (between_is a reads fits.0 fits.1 fits.3 at fits.5 fits.6))
      (g.again (fits.1 ∷ []) fits.2 fits.4 fits.7));
}

-- THE PLAIN FORM OF EACH KERNEL
