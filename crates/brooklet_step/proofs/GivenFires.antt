-- Firings after others: kernels without a kernel inside, packs, and firings one after another.
use Rattle.std.proofs.Common.{◌≡◌, ℕ, zero, suc, ◌+◌, ◌-◌, List, [], ◌∷◌, ◌++◌, length, refl, sym, ap, ◌∙◌, subst, arith, append_assoc, length-append}
use Rattle.std.specs.Prelude.{All, slice_get}
use Rattle.std.proofs.lemmas.List.{append-nil}
use Rattle.std.proofs.lemmas.List.Elements.{All-head, All-tail, All-cons, All-nil, All-append}
use Rattle.river_base.proofs.Lists.{alone_same}
use Rattle.river_base.specs.declared.item.Item as item
use Rattle.river_base.specs.declared.kind.QueueType.{QueueType}
use Rattle.river_base.specs.Held.{IsPlain}
use Rattle.river_base.specs.Places.{each_grew, none}
use Rattle.river_base.proofs.PlaceLemmas.{each_grew_cong, each_grew-none, each_grew-each_grew}
use Rattle.river_kernels.specs.declared.types.VarKind.{VarKind}
use Rattle.river_kernels.specs.Fits.{Fits}
use Rattle.river_kernels.specs.Kern.{Kern}
use Rattle.brooklet_model.specs.Firings.{Kept, Fired, Same, feed, and_then}
use Rattle.brooklet_model.specs.Fire.{fire}
use Rattle.brooklet_model.specs.Typed.{IsOf, IsWordOf, IsStart, widths_in, IsWide}
use Rattle.brooklet_model.specs.Words.{Word, run, at_port, word_of}
use Rattle.brooklet_model.proofs.Lists.{feed-append, feed_one}
use Rattle.brooklet_model.proofs.Feeds.{feed_word}
use Rattle.brooklet_model.proofs.Free.{at_port-append, at_port-word_same}
use Rattle.brooklet_model.proofs.TypedPlan.{at_append, at_word as word_typed}
use Rattle.brooklet_model.proofs.Typing.{fire_typed}
use Rattle.brooklet_model.proofs.WideAdds.{fire_wide}
use Rattle.brooklet_step.specs.declared.emit.Emit.{Emit}
use Rattle.brooklet_step.specs.declared.state.State.{State}
use Rattle.brooklet_step.specs.Stands.{StandsForKept, Fires, Applies}
use Rattle.brooklet_step.specs.Took.{Took}
use Rattle.brooklet_step.specs.Given.{held_at, IsHeldOf, IsPlainBy, FitState, ran_from, StandsAfter, TookHeld, GivesAsDefined, Does, FiresAt, GivesAll, FiresEach, CanTake}
use Rattle.brooklet_step.proofs.Standing.{stands_shape}
use Rattle.brooklet_step.proofs.GivenLemmas.{at-nil, at-append, at-length, at-plain, of_plain, all_plain, word_append, ran_more}
use Rattle.brooklet_step.proofs.GivenLemmas.{IsSimple, fit_of, simple_kept, simple_to, simple_from}

-- KERNELS THAT KEEP NO ITEMS, ON QUEUES OF NO RELATION

-- no queue of these types holds changes
abbrev pub ArePlain : List QueueType → Type 0
ArePlain ts = (p : ℕ) → IsPlainBy (slice_get ts p)

-- one type that is no relation's
pub one_plain : (t : QueueType) → IsPlain t → ArePlain (t ∷ [])
one_plain t h zero = h
one_plain t h (suc p) = tt

-- the condition of such a kernel, in the terms of the definition's states
pub simple_applies : (k : Kern) (port : ℕ) (i : item.Item) (st : List State) (out : Emit) → IsSimple k → (t : CanTake k port i st out)
    → IsPlainBy (slice_get t.reads port) → Applies k port i st out
simple_applies k port i st out l t p =
    let s = simple_kept k t.reads st l t.fitting.state in
    record {
      takes = record {
        reads = t.reads;
        fitted = record { writes = t.fitting.writes; vars = t.fitting.vars; fits = t.fitting.fits; keeps = record { kept = s.0; stands = s.1; holds = s.2 } };
        item = of_plain t.reads port i p t.item;
      };
      room = t.room;
    }

-- and what it does, where queues hold items as they are
pub plain_does : (k : Kern) (port : ℕ) (i : item.Item) (out out' : Emit) (st st' : List State) → IsSimple k → Fires k out out' st st' (fire k port i)
    → (reads writes : List QueueType) (vars : List VarKind) → Fits k reads writes vars → FitState k reads st → IsHeldOf reads port i → ArePlain reads
    → ArePlain writes → Does k reads writes vars port i out out' st st'
plain_does k port i out out' st st' l f reads writes vars fits fs hi pr pw =
    let s = simple_kept k reads st l fs in
    let g = f.given s.0 s.1 in
    let shape = stands_shape k st s.0 s.1 in
    let ti : IsOf reads port i = of_plain reads port i (pr port) hi in
    let t = fire_typed k reads writes vars port i s.0 fits shape s.2 ti in
    record {
      gives = record {
        given = λ start w x is_start tw tx sa h.
            let e : x ≡ i = alone_same x i (sym (at-plain reads port (at_port port w) (x ∷ []) (pr port)) ∙ h) in
            let before = ran_from k start w in
            let ss = before.states in
            let one : Took out out' (fire k port x ss) × StandsForKept k st' (fire k port x ss).states =
            subst (λ y. Took out out' (fire k port y ss) × StandsForKept k st' (fire k port y ss).states) (sym e)
            (f.given ss (simple_to k reads start st w l sa)) in
            let r = fire k port x ss in (
              record {
                outs =
                    one.0.outs
                    ∙ each_grew_cong out.outs r.outs (λ p. held_at writes p (before.outs p) (r.outs p))
                    (λ p lt. sym (at-plain writes p (before.outs p) (r.outs p) (pw p)));
                adds = one.0.adds;
              },
              simple_from k reads start st' (w ++ (port, x) ∷ []) l (subst (StandsForKept k st') (sym (ran_more k start w port x).states) one.1),
            );
      };
      came = record {
        outs = (fire k port i s.0).outs;
        adds = (fire k port i s.0).adds;
        outs_are = g.0.outs;
        adds_are = g.0.adds;
        held = λ p. all_plain writes p ((fire k port i s.0).outs p) (pw p) (t.0 p);
        wide = fire_wide k reads writes vars port i s.0 fits shape s.2 ti;
        again = fit_of k reads st' (fire k port i s.0).states g.1;
      };
    }

-- ONE AFTER ANOTHER

run-append : (f : ℕ → item.Item → List Kept → Fired) (u v : Word) (ss : List Kept)
    → Same (run f (u ++ v) ss) (and_then (run f u ss) (run f v (run f u ss).states))
run-append f [] v ss = record { outs = λ p. refl; adds = λ t. refl; states = refl }
run-append f (e ∷ u) v ss =
    let r = f e.0 e.1 ss in
    let h = run-append f u v r.states in
    record {
      outs = λ p. ap (λ l. r.outs p ++ l) (h.outs p) ∙ sym (append_assoc (r.outs p) ((run f u r.states).outs p) ((run f v (run f u r.states).states).outs p));
      adds = λ t. ap (λ l. r.adds t ++ l) (h.adds t) ∙ sym (append_assoc (r.adds t) ((run f u r.states).adds t) ((run f v (run f u r.states).states).adds t));
      states = h.states;
    }

-- the firings of a word and then of a list at the first port
pub ran_feed : (k : Kern) (ss : List Kept) (u : Word) (zs : List item.Item)
    → Same (ran_from k ss (u ++ word_of 0 zs)) (and_then (ran_from k ss u) (feed (fire k 0) zs (ran_from k ss u).states))
ran_feed k ss u zs =
    subst (λ (r : Fired). Same (ran_from k ss (u ++ word_of 0 zs)) (and_then (ran_from k ss u) r)) (feed_word (fire k) 0 zs (ran_from k ss u).states)
    (run-append (fire k) u (word_of 0 zs) ss)

-- before the first item nothing was fired
pub each_start : (k : Kern) (out : Emit) (st : List State) → FiresEach k [] out out st st
each_start k out st = record {
  each = λ reads writes vars fits fs hs. record {
    gives = record { given = λ start w xs s tw txs sa h. nothing reads writes start w xs sa (len reads w xs h) };
    came =
        record {
          outs = none;
          adds = none;
          outs_are = sym (each_grew-none out.outs);
          adds_are = sym (each_grew-none out.adds);
          held =
              λ p. All-nil (IsHeldOf writes p);
          wide = λ t. All-nil (IsWide (slice_get (widths_in vars) t));
          again = fs;
        };
  };
}
  where
    len : (reads : List QueueType) (w : Word) (xs : List item.Item) → held_at reads 0 (at_port 0 w) xs ≡ [] → length xs ≡ 0
    len reads w xs h = sym (at-length reads 0 (at_port 0 w) xs) ∙ ap length h

    nothing : (reads writes : List QueueType) (ss : List Kept) (w : Word) (xs : List item.Item) → StandsAfter k reads ss st w → length xs ≡ 0
        → TookHeld writes (ran_from k ss w) out out (feed (fire k 0) xs (ran_from k ss w).states) × StandsAfter k reads ss st (w ++ word_of 0 xs)
    nothing reads writes ss w [] sa e = (
      record {
        outs =
            sym (each_grew-none out.outs)
            ∙ each_grew_cong out.outs none (λ p. held_at writes p ((ran_from k ss w).outs p) []) (λ p lt. sym (at-nil writes p ((ran_from k ss w).outs p)));
        adds = sym (each_grew-none out.adds);
      },
      subst (StandsAfter k reads ss st) (sym (append-nil w)) sa,
    )
    nothing reads writes ss w (x ∷ xs) sa e = absurd (omega (arith, e))

-- two lists in a row that are as long as two others in a row are the same, part by part
pub split_same : {A : Type 0} (a b c d : List A) → length a ≡ length c → a ++ b ≡ c ++ d → (a ≡ c) × (b ≡ d)
split_same [] b [] d l e = (refl, e)
split_same [] b (y ∷ c) d l e = absurd (omega (arith, l))
split_same (x ∷ a) b [] d l e = absurd (omega (arith, l))
split_same (x ∷ a) b (y ∷ c) d l e =
    let r = split_same a b c d (omega (arith, l)) (let t : a ++ b ≡ c ++ d = cc in t) in
    ((let h : x ≡ y = cc in ap (λ z. z ∷ a) h ∙ ap (λ m. y ∷ m) r.0), r.1)

-- the last of a list that is not empty
last_split : {A : Type 0} (xs : List A) (n : ℕ) → length xs ≡ n + 1 → (ys : List A) × (y : A) × (xs ≡ ys ++ y ∷ []) × (length ys ≡ n)
last_split [] n e = absurd (omega (arith, e))
last_split (x ∷ []) n e = ([], x, refl, omega (arith, e))
last_split (x ∷ z ∷ xs) n e =
    let r = last_split (z ∷ xs) (n - 1) (omega (arith, e)) in
    (x ∷ r.0, r.1, ap (λ l. x ∷ l) r.2, (let l = r.3 in omega (arith, l, e)))

all_left : (P : item.Item → Type 0) (xs ys : List item.Item) → All P (xs ++ ys) → All P xs
all_left P [] ys h = All-nil P
all_left P (x ∷ xs) ys h = All-cons P x xs (All-head P x (xs ++ ys) h) (all_left P xs ys (All-tail P x (xs ++ ys) h))

all_last : (P : item.Item → Type 0) (xs : List item.Item) (y : item.Item) → All P (xs ++ y ∷ []) → P y
all_last P [] y h = All-head P y [] h
all_last P (x ∷ xs) y h = all_last P xs y (All-tail P x (xs ++ y ∷ []) h)

-- one more item is fired
pub each_step : (k : Kern) (is : List item.Item) (i : item.Item) (st st1 st2 : List State) (e e' e'' : Emit) → FiresEach k is e e' st st1
    → FiresAt k 0 i e' e'' st1 st2 → FiresEach k (is ++ i ∷ []) e e'' st st2
each_step k is i st st1 st2 e e' e'' f u = record {
  each = λ reads writes vars fits fs hs.
      let a = f.each reads writes vars fits fs (all_left (IsHeldOf reads 0) is (i ∷ []) hs) in
      let b = u.each reads writes vars fits a.came.again (all_last (IsHeldOf reads 0) is i hs) in
      record {
        gives = record {
          given = λ start w xs is_start tw txs sa h.
              let n : length xs ≡ length is + 1 = sym (at-length reads 0 (at_port 0 w) xs) ∙ ap length h ∙ length-append is (i ∷ []) in
              let s = last_split xs (length is) n in
              subst (λ (l : List item.Item). TookHeld writes (ran_from k start w) e e''
              (feed (fire k 0) l (ran_from k start w).states) × StandsAfter k reads start st2 (w ++ word_of 0 l)) (sym s.2)
              (more reads writes start is_start w s.0 s.1 tw (subst (All (IsOf reads 0)) s.2 txs) sa
              (ap (held_at reads 0 (at_port 0 w)) (sym s.2) ∙ h) s.3 a.gives b.gives);
        };
        came = record {
          outs = λ p. a.came.outs p ++ b.came.outs p;
          adds = λ t. a.came.adds t ++ b.came.adds t;
          outs_are = b.came.outs_are ∙ ap (λ l. each_grew l b.came.outs) a.came.outs_are ∙ each_grew-each_grew e.outs a.came.outs b.came.outs;
          adds_are = b.came.adds_are ∙ ap (λ l. each_grew l b.came.adds) a.came.adds_are ∙ each_grew-each_grew e.adds a.came.adds b.came.adds;
          held = λ p. All-append (IsHeldOf writes p) (a.came.outs p) (b.came.outs p) (a.came.held p) (b.came.held p);
          wide = λ t. All-append (IsWide (slice_get (widths_in vars) t)) (a.came.adds t) (b.came.adds t) (a.came.wide t) (b.came.wide t);
          again = b.came.again;
        };
      };
}
  where
    more : (reads writes : List QueueType) (start : List Kept) → IsStart k reads start → (w : Word) (ys : List item.Item) (y : item.Item) → IsWordOf reads w
        → All (IsOf reads 0) (ys ++ y ∷ []) → StandsAfter k reads start st w → held_at reads 0 (at_port 0 w) (ys ++ y ∷ []) ≡ is ++ i ∷ []
        → length ys ≡ length is
        → GivesAll k reads writes is e e' st st1 → GivesAsDefined k reads writes 0 i e' e'' st1 st2
        → TookHeld writes (ran_from k start w) e e'' (feed (fire k 0) (ys ++ y ∷ []) (ran_from k start w).states)
        × StandsAfter k reads start st2 (w ++ word_of 0 (ys ++ y ∷ []))
    more reads writes start is_start w ys y tw txs sa h l ga gb =
        let past = at_port 0 w in
        let before = ran_from k start w in
        let parts = split_same (held_at reads 0 past ys) (held_at reads 0 (past ++ ys) (y ∷ [])) is (i ∷ []) (at-length reads 0 past ys ∙ l)
        (sym (at-append reads 0 past ys (y ∷ [])) ∙ h) in
        let one = ga.given start w ys is_start tw (all_left (IsOf reads 0) ys (y ∷ []) txs) sa parts.0 in
        let w1 = w ++ word_of 0 ys in
        let port_is : at_port 0 w1 ≡ past ++ ys = at_port-append 0 w (word_of 0 ys) ∙ ap (λ m. past ++ m) (at_port-word_same 0 ys) in
        let two = gb.given start w1 y is_start (at_append reads w (word_of 0 ys) tw (word_typed reads 0 ys (all_left (IsOf reads 0) ys (y ∷ []) txs)))
        (all_last (IsOf reads 0) ys y txs) one.1 (ap (λ m. held_at reads 0 m (y ∷ [])) port_is ∙ parts.1) in
        let r = feed (fire k 0) ys before.states in
        let after = ran_from k start w1 in
        let mid : Same after (and_then before r) = ran_feed k start w ys in
        let last = fire k 0 y r.states in
        let all = feed-append (fire k 0) ys (y ∷ []) before.states in
        let fone = feed_one (fire k 0) y r.states in
        let two' : TookHeld writes after e' e'' last = subst (λ us. TookHeld writes after e' e'' (fire k 0 y us)) mid.states two.0 in
        let whole = feed (fire k 0) (ys ++ y ∷ []) before.states in (
          record {
            outs = two'.outs ∙ ap (λ m. each_grew m (λ p. held_at writes p (after.outs p) (last.outs p))) one.0.outs
                ∙ each_grew-each_grew e.outs (λ p. held_at writes p (before.outs p) (r.outs p)) (λ p. held_at writes p (after.outs p) (last.outs p))
                ∙ each_grew_cong e.outs (λ p. held_at writes p (before.outs p) (r.outs p) ++ held_at writes p (after.outs p) (last.outs p))
                (λ p. held_at writes p (before.outs p) (whole.outs p))
                (λ p lt. ap (λ m. held_at writes p (before.outs p) (r.outs p) ++ held_at writes p m (last.outs p)) (mid.outs p)
                ∙ sym (at-append writes p (before.outs p) (r.outs p) (last.outs p))
                ∙ ap (held_at writes p (before.outs p)) (ap (λ m. r.outs p ++ m) (sym (fone.outs p)) ∙ sym (all.outs p)));
            adds = two'.adds ∙ ap (λ m. each_grew m last.adds) one.0.adds ∙ each_grew-each_grew e.adds r.adds last.adds
                ∙ each_grew_cong e.adds (λ p. r.adds p ++ last.adds p) whole.adds (λ p lt. ap (λ m. r.adds p ++ m) (sym (fone.adds p)) ∙ sym (all.adds p));
          },
          subst (StandsAfter k reads start st2) (append_assoc w (word_of 0 ys) ((0, y) ∷ []) ∙ ap (λ m. w ++ m) (sym (word_append 0 ys (y ∷ [])))) two.1,
        )
