-- States that stand for some of the definition: where no relation passes all that fit do, and a word of firings can be cut anywhere.
use Rattle.std.proofs.Common.{◌≡◌, ℕ, ℤ, zero, suc, List, [], ◌∷◌, ◌++◌, length, take, drop, replicate, refl, sym, ap, ◌∙◌, subst}
use Rattle.std.specs.Prelude.{slice_get}
use Rattle.std.proofs.lemmas.List.{take_at, drop_at}
use Rattle.river_base.specs.Places.{list_at}
use Rattle.river_base.specs.declared.kind.QueueType.{QueueType}
use Rattle.river_base.specs.declared.kind.QueueType.TheVariants.{Flat as FlatOf, Pack as PackOf}
use Rattle.kern_rows.specs.Turns.{shares, ones}
use Rattle.river_kernels.specs.Fits.{Fits}
use Rattle.river_kernels.specs.Types.{types_of}
use Rattle.river_kernels.specs.Kern.{Kern, deal, collect, packed, unpack, window, project, cross, streamer, fused}
use Rattle.brooklet_model.specs.Firings.{Kept, Turn, Joining}
use Rattle.brooklet_model.specs.Fire.{privates}
use Rattle.brooklet_model.specs.Shapes.{IsShaped, HasShape}
use Rattle.brooklet_model.specs.Typed.{Holds, between}
use Rattle.brooklet_model.specs.Words.{Word, word_of}
use Rattle.brooklet_model.proofs.Ports.{shaped}
use Rattle.brooklet_model.proofs.Shapes.{shape_length}
use Rattle.brooklet_model.proofs.Typing.{between_is}
use Rattle.brooklet_step.specs.declared.state.State.{State}
use Rattle.brooklet_step.specs.Given.{IsPlainBy, FitState, ran_from, JoinStands, StandsAfter}
use Rattle.brooklet_step.specs.Laws.{StandForSome, PassesNone, FitStatesStand, FiringsStep}
use Rattle.brooklet_step.proofs.GivenLemmas.{IsSimple, simple_kept, simple_to, simple_from, not_both, all_of, ran_length}
use Rattle.brooklet_step.proofs.GivenParts.{packed_states, fused_ran}
use Rattle.brooklet_step.proofs.Standing.{stands_shape}

-- STATES THAT FIT STAND FOR SOME

simple_stand : (k : Kern) (is : List QueueType) (st : List State) → IsSimple k → FitState k is st → StandForSome k is st
simple_stand k is st l h =
    let s = simple_kept k is st l h in
    record { start = s.0; is_start = record { shape = stands_shape k st s.0 s.1; holds = s.2 }; stands = simple_from k is s.0 st [] l s.1 }

deal_stand : (ws : List ℤ) (is : List QueueType) (st : List State) → IsPlainBy (slice_get is 0) → FitState (deal ws) is st → StandForSome (deal ws) is st
deal_stand ws is st p h = record {
  start = Turn h.now.turn.port h.now.turn.had ∷ [];
  is_start = record { shape = h.turn; holds = tt };
  stands = record {
    stands = record { now = h.now; code = h.code; defined = refl; turn = h.turn; lists = h.lists };
    owed = λ rel. absurd (not_both (slice_get is 0) p rel);
  };
}

-- a joiner whose ports are of one type
collect_stand : (ws : List ℤ) (is : List QueueType) (st : List State) → IsPlainBy (slice_get is 0) → ((p : ℕ) → IsPlainBy (slice_get is p))
    → FitState (collect ws) is st → StandForSome (collect ws) is st
collect_stand ws is st p all h = record {
  start = Joining h.now.turns ∷ [];
  is_start = record { shape = h.joined.joined; holds = λ q. all_of is q (list_at h.now.turns.lists q) (all q) (h.items q) };
  stands = record {
    now = h.now;
    code = h.code;
    shape = h.joined;
    plain = λ same. refl;
    relation = λ rel. absurd (not_both (slice_get is 0) p rel);
  };
}

unpack_stand : (n : ℕ) (is : List QueueType) (st : List State) → IsPlainBy (slice_get is 0) → ((p : ℕ) → IsPlainBy (slice_get is p))
    → FitState (unpack n) is st → StandForSome (unpack n) is st
unpack_stand n is st p all h = record {
  start = Joining h.now.turns ∷ [];
  is_start = record { shape = h.joined.joined; holds = λ q. all_of is q (list_at h.now.turns.lists q) (all q) (h.items q) };
  stands = record {
    now = h.now;
    code = h.code;
    shape = h.joined;
    plain = λ same. refl;
    relation = λ rel. absurd (not_both (slice_get is 0) p rel);
  };
}

-- ports of one type are all as the first is
ports_alike : (t : QueueType) (n : ℕ) → IsPlainBy (slice_get (replicate n t) 0) → (p : ℕ) → IsPlainBy (slice_get (replicate n t) p)
ports_alike t zero h p = tt
ports_alike t (suc n) h zero = h
ports_alike t (suc zero) h (suc p) = tt
ports_alike t (suc (suc n)) h (suc p) = ports_alike t (suc n) h p

alike : (is : List QueueType) (t : QueueType) (n : ℕ) → is ≡ replicate n t → IsPlainBy (slice_get is 0) → (p : ℕ) → IsPlainBy (slice_get is p)
alike is t n e h =
    subst (λ (l : List QueueType). (p : ℕ) → IsPlainBy (slice_get l p)) (sym e)
    (ports_alike t n (subst (λ (l : List QueueType). IsPlainBy (slice_get l 0)) e h))

packed_stand : (k : Kern) (is : List QueueType) (st : List State) → StandForSome k is st → StandForSome (packed k) is st
packed_stand k is st r = record { start = r.start; is_start = record { shape = r.is_start.shape; holds = r.is_start.holds }; stands = r.stands }

fused_stand : (a b : Kern) (at : ℕ) (is inner : List QueueType) (st : List State) → inner ≡ between at (types_of a is)
    → StandForSome a is (take (privates a) st)
    → StandForSome b inner (drop (privates a) st) → StandForSome (fused a b at) is st
fused_stand a b at is inner st e ra rb =
    let n = privates a in
    let all = ra.start ++ rb.start in
    let own = shape_length a ra.start ra.is_start.shape in
    let ta : take n all ≡ ra.start = take_at ra.start rb.start n own in
    let tb : drop n all ≡ rb.start = drop_at ra.start rb.start n own in
    record {
      start = all;
      is_start = record {
        shape = (subst (HasShape a) (sym ta) ra.is_start.shape, subst (HasShape b) (sym tb) rb.is_start.shape);
        holds = (
          subst (Holds a is) (sym ta) ra.is_start.holds,
          subst (Holds b (between at (types_of a is))) (sym tb) (subst (λ (l : List QueueType). Holds b l rb.start) e rb.is_start.holds),
        );
      };
      stands = (
        subst (λ (ss : List Kept). StandsAfter a is ss (take n st) []) (sym ta) ra.stands,
        subst (λ (ss : List Kept). StandsAfter b (between at (types_of a is)) ss (drop n st) []) (sym tb)
            (subst (λ (l : List QueueType). StandsAfter b l rb.start (drop n st) []) e rb.stands),
      );
    }

-- all states that fit a kernel stand for some of the definition, where no relation passes
pub fit_law : FitStatesStand
fit_law (deal ws) is os vs st f n h = deal_stand ws is st n h
fit_law (collect ws) is os vs st f n h = collect_stand ws is st n (alike is (FlatOf f.0) (length ws) f.1 n) h
fit_law (packed k) is os vs st f n h =
    packed_stand k is st (fit_law k is (FlatOf f.1 ∷ []) [] st (subst (λ (l : List QueueType). Fits k l (FlatOf f.1 ∷ []) []) (sym f.2) f.5) n h)
fit_law (unpack m) is os vs st f n h = unpack_stand m is st n (alike is (PackOf f.0) m f.1 n) h
fit_law (window v) is os vs st f n h = absurd n
fit_law (project es) is os vs st f n h = absurd n
fit_law cross is os vs st f n h = absurd n
fit_law (streamer s) is os vs st f n h = absurd n
fit_law (fused a b at) is os vs st f n h =
    let mid = between_is a is f.0 f.1 f.3 at f.5 f.6 in
    fused_stand a b at is (f.1 ∷ []) st (sym mid)
    (fit_law a is f.0 f.3 (take (privates a) st) f.5 n.0 h.0)
    (fit_law b (f.1 ∷ []) f.2 f.4 (drop (privates a) st) f.7 (subst (PassesNone b) mid n.1)
    (subst (λ (l : List QueueType). FitState b l (drop (privates a) st)) mid h.1))
fit_law kernel is os vs st f n h = simple_stand kernel is st tt h

-- THE STATES AFTER A WORD AS A START

simple_moved : (k : Kern) (is : List QueueType) (ss : List Kept) (st : List State) (w : Word) → IsSimple k → StandsAfter k is ss st w
    → StandsAfter k is (ran_from k ss w).states st []
simple_moved k is ss st w l h = simple_from k is (ran_from k ss w).states st [] l (simple_to k is ss st w l h)

deal_moved : (ws : List ℤ) (is : List QueueType) (ss : List Kept) (st : List State) (w : Word) → IsPlainBy (slice_get is 0) → StandsAfter (deal ws) is ss st w
    → StandsAfter (deal ws) is (ran_from (deal ws) ss w).states st []
deal_moved ws is ss st w p h = record { stands = h.stands; owed = λ rel. absurd (not_both (slice_get is 0) p rel) }

join_moved : (k : Kern) (ws : List ℕ) (is : List QueueType) (ss : List Kept) (st : List State) (w : Word) → IsPlainBy (slice_get is 0)
    → JoinStands k ws is ss st w → JoinStands k ws is (ran_from k ss w).states st []
join_moved k ws is ss st w p h =
    record { now = h.now; code = h.code; shape = h.shape; plain = h.plain; relation = λ rel. absurd (not_both (slice_get is 0) p rel) }

-- where no relation passes, what stands for the states after a word stands for them as a start
pub moved : (k : Kern) (is : List QueueType) (ss : List Kept) (st : List State) (w : Word) → IsShaped k → HasShape k ss → PassesNone k is
    → StandsAfter k is ss st w
    → StandsAfter k is (ran_from k ss w).states st []
moved (deal ws) is ss st w s c n h = deal_moved ws is ss st w n h
moved (collect ws) is ss st w s c n h = join_moved (collect ws) (shares ws) is ss st w n h
moved (packed k) is ss st w s c n h =
    subst (λ (us : List Kept). StandsAfter k is us st []) (sym (packed_states k w ss)) (moved k is ss st w s.0 c n h)
moved (unpack m) is ss st w s c n h = join_moved (unpack m) (ones m) is ss st w n h
moved (window v) is ss st w s c n h = absurd n
moved (project es) is ss st w s c n h = absurd n
moved cross is ss st w s c n h = absurd n
moved (streamer r) is ss st w s c n h = absurd n
moved (fused a b at) is ss st w s c n h =
    let m = privates a in
    let inner = between at (types_of a is) in
    let wa = ran_from a (take m ss) w in
    let wb = word_of 0 (wa.outs at) in
    let rb = ran_from b (drop m ss) wb in
    let parts = fused_ran a b at ss w s c in
    let own : length wa.states ≡ m = ran_length a (take m ss) w s.0 c.0 in
    let ta : take m (ran_from (fused a b at) ss w).states ≡ wa.states = ap (take m) parts.states ∙ take_at wa.states rb.states m own in
    let tb : drop m (ran_from (fused a b at) ss w).states ≡ rb.states = ap (drop m) parts.states ∙ drop_at wa.states rb.states m own in (
      subst (λ (us : List Kept). StandsAfter a is us (take m st) []) (sym ta) (moved a is (take m ss) (take m st) w s.0 c.0 n.0 h.0),
      subst (λ (us : List Kept). StandsAfter b inner us (drop m st) []) (sym tb) (moved b inner (drop m ss) (drop m st) wb s.1 c.1 n.1 h.1),
    )
moved kernel is ss st w s c n h = simple_moved kernel is ss st w tt h

-- A FIRING AS THE FIRST

-- from whatever states they stand for, a firing is the definition's
pub step_law : FiringsStep
step_law k is os vs port i x st st' out out' now f fs hi fires start stands tx held =
    let d = fires.each is os vs f fs hi in
    let g = d.gives.given now [] x start tt tx stands held in
    record {
      outs = g.0.outs;
      adds = g.0.adds;
      after = g.1;
      next = λ none. moved k is now st' ((port, x) ∷ []) (shaped k is os vs f) start.shape none g.1;
    }
