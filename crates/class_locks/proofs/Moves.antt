-- Each step keeps the rule: what is shared.
use Rattle.std.proofs.Common.{◌≡◌, ◌≢◌, ℕ, suc, ◌<◌, ◌⊎◌, Bool, true, false, List, [], ◌∷◌, ◌++◌, length, set, sym, refl, ap, ◌∙◌, subst, inr, ⊎_elim, append_assoc}
use Rattle.std.proofs.Common.{append-nil, arith, Option, Some}
use Rattle.std.proofs.lemmas.List.{get_or-set_same, get_or-set_other, length-set}
use mathlib.Core.Option.{some}
use mathlib.Core.Option as maybe
use mathlib.Core.Logic.{dite}
use native.Mathlib.Decide.{ℕ_discrete}
use lib.ListN.{get_elem?}
use Rattle.atomic_table.proofs.Lists.{at_set, set_here, set_else}
use Rattle.class_locks.specs.declared.log.LogEntry.{LogEntry}
use Rattle.class_locks.specs.declared.view.View.{View}
use Rattle.class_locks.specs.declared.view.Held.{Held}
use Rattle.class_locks.specs.declared.view.Claim.{Claim}
use Rattle.class_locks.specs.declared.view.Tried.{Tried}
use Rattle.class_locks.specs.Logs.{Holding, entries_of_part}
use Rattle.class_locks.specs.Views.{StandsIn, own, Belong, entries_of, claims_of}
use Rattle.class_locks.specs.Rule.{Locks, class_word, Grip, lies, Logged, ClassOk, SeatOk, IsOpen, IsShut, IsKept, IsLogged}
use Rattle.class_locks.proofs.Lists.{at_within, at_end, at_one, put, put_here, put_else}
use Rattle.class_locks.proofs.Owns.{part-append, own-append, own_same, part_none}

module _ (n : ℕ) (starts : List Holding) where
  -- LOGS

  -- a seat's view changes, but not its own lists for the class
  pub logged_set : (views : List View) (j : ℕ) (v w : View) (c : ℕ) (x : Holding) → get_elem? views j ≡ some v
      → ((k : ℕ) → StandsIn k w.parts → StandsIn k v.parts × (own n k c w.claims ≡ own n k c v.claims))
      → Logged n starts views c x → Logged n starts (set views j w) c x
  logged_set views j v w c x at same l = record {
    start = l.start;
    growth = l.growth;
    given = l.given;
    kinds = l.kinds;
    log = l.log;
    owns = λ i u e k h. ⊎_elim
        (λ t. let g = same k (subst (λ (z : View). StandsIn k z.parts) (sym t.1) h) in l.owns j v at k g.0
        ∙ (sym g.1 ∙ ap (λ (z : View). own n k c z.claims) t.1))
        (λ t. l.owns i u t.1 k h)
        (at_set views j i w u e);
  }

  -- a seat comes
  pub logged_end : (views : List View) (w : View) (c : ℕ) (x : Holding) → (l : Logged n starts views c x)
      → ((k : ℕ) → StandsIn k w.parts → entries_of_part n k l.growth ≡ own n k c w.claims) → Logged n starts (views ++ w ∷ []) c x
  logged_end views w c x l mine = record {
    start = l.start;
    growth = l.growth;
    given = l.given;
    kinds = l.kinds;
    log = l.log;
    owns = λ i u e k h. ⊎_elim
        (λ t. l.owns i u t k h)
        (λ t. mine k (subst (λ (z : View). StandsIn k z.parts) (sym t.1) h) ∙ ap (λ (z : View). own n k c z.claims) t.1)
        (at_end views w u i e);
  }

  -- what one seat knows of it
  pub is_logged : (views : List View) (j : ℕ) (v : View) (c : ℕ) (x : Holding) → get_elem? views j ≡ some v → (v.seats ≡ n) × (v.starts ≡ starts)
      → Logged n starts views c x → IsLogged v c x
  is_logged views j v c x at same l =
      subst (λ m. Logged m v.starts (v ∷ []) c x) (sym same.0) (subst (λ (ss : List Holding). Logged n ss (v ∷ []) c x) (sym same.1) alone)
    where
      alone : Logged n starts (v ∷ []) c x
      alone = record {
        start = l.start;
        growth = l.growth;
        given = l.given;
        kinds = l.kinds;
        log = l.log;
        owns = λ i u e k h. let t = at_one v u i e in l.owns j v at k (subst (λ (z : View). StandsIn k z.parts) (sym t.1) h)
            ∙ ap (λ (z : View). own n k c z.claims) t.1;
      }

  -- a seat with a part knows that the locks are open
  pub opened : (s : Locks) (j : ℕ) (v : View) (k : ℕ) → IsKept n starts s → get_elem? s.views j ≡ some v → StandsIn k v.parts → IsOpen n starts s
  opened s j v k kept at has =
      ⊎_elim (λ (shut : IsShut n starts s). absurd (subst (λ (z : View). StandsIn k z.parts) (shut.seats j v at) has)) (λ o. o) kept.state

  module _ (s : Locks) (wide : length s.words ≡ suc (length starts)) (deep : length s.homes ≡ length starts) (o : IsOpen n starts s) (j : ℕ) (v : View)
      (at : get_elem? s.views j ≡ some v) where
    -- a seat tells that it tried
    pub looks : (ts : List Tried) → IsKept n starts (record { words = s.words; homes = s.homes; views = set s.views j (record v { takes = ts }) })
    looks ts = record {
      wide = wide;
      deep = deep;
      state =
          inr (record {
            owner = o.owner;
            holder = o.holder;
            open_word = o.open_word;
            classes = classes;
            owners =
                λ k kn. longer (o.owner k) (o.owners k kn);
            seats = seats;
          });
    }
      where
        w : View
        w = record v { takes = ts }

        s' : Locks
        s' = record { words = s.words; homes = s.homes; views = set s.views j w }

        longer : (m : ℕ) → m < length s.views → m < length (set s.views j w)
        longer m h = subst (λ q. m < q) (sym (length-set s.views j w)) h

        logs : (d : ℕ) (x : Holding) → Logged n starts s.views d x → Logged n starts (set s.views j w) d x
        logs d x l = logged_set s.views j v w d x at (λ k h. (h, refl)) l

        classes : (d : ℕ) → d < length starts → ClassOk n starts s' o.owner o.holder d
        classes d lt = let q = o.classes d lt in record {
          small = q.small;
          free = λ z. let f = q.free z in (f.0, f.1, logs d f.0 f.2);
          taken = λ z. longer (o.holder d) (q.taken z);
        }

        keeps_seat : (i : ℕ) (u u' : View) → u'.parts ≡ u.parts → u'.seats ≡ u.seats → u'.starts ≡ u.starts → u'.hand ≡ u.hand → u'.held ≡ u.held
            → u'.claims ≡ u.claims → SeatOk n starts s o.owner o.holder i u → SeatOk n starts s' o.owner o.holder i u
        keeps_seat i u u' _ _ _ _ _ _ q = record {
          same = q.same;
          parts_in = q.parts_in;
          parts_all = q.parts_all;
          grips = λ g d x r. let y = q.grips g d x r in (record { there = y.0.there; word = y.0.word; mine = y.0.mine; logged = logs d x y.0.logged }, y.1);
          holds = q.holds;
          claimed = q.claimed;
          idle = q.idle;
        }

        here : SeatOk n starts s' o.owner o.holder j w
        here = let q = o.seats j v at in record {
          same = q.same;
          parts_in = q.parts_in;
          parts_all = q.parts_all;
          grips = λ g d x r. let y =
              q.grips g d x (same_grip g d x r) in (record { there = y.0.there; word = y.0.word; mine = y.0.mine; logged = logs d x y.0.logged }, y.1);
          holds = λ d lt z m. let r = q.holds d lt z m in (r.0, r.1, grip_same r.0 d r.1 r.2);
          claimed = q.claimed;
          idle = q.idle;
        }
          where
            same_grip : (g : Bool) (d : ℕ) (x : Holding) → Grip g d x w → Grip g d x v
            same_grip true d x r = r
            same_grip false d x r = r

            grip_same : (g : Bool) (d : ℕ) (x : Holding) → Grip g d x v → Grip g d x w
            grip_same true d x r = r
            grip_same false d x r = r

        seats : (i : ℕ) (u : View) → get_elem? (set s.views j w) i ≡ some u → SeatOk n starts s' o.owner o.holder i u
        seats i u e = ⊎_elim
            (λ t. subst (SeatOk n starts s' o.owner o.holder i) t.1 (subst (λ m. SeatOk n starts s' o.owner o.holder m w) (sym t.0) here))
            (λ t. keeps_seat i u u refl refl refl refl refl refl (o.seats i u t.1))
            (at_set s.views j i w u e)

    module _ (hand held : List Held) (ts : List Tried) (claims : List Claim) where
      abbrev w : View
      w = record v { hand = hand; held = held; takes = ts; claims = claims }

      -- the step of a seat at class c, with which the word becomes b and the home h
      module _ (p : ℕ) (has : StandsIn p v.parts) (c : ℕ) (lt : c < length starts) (b : ℕ) (small : b < 2) (h : maybe.Option (Option Holding))
          (mine : class_word s.words c ≡ 1 → o.holder c ≡ j)
          (free : b ≡ 0 → (x : Holding) × (h ≡ some (Some x)) × Logged n starts (set s.views j w) c x)
          (grip : (g : Bool) (d : ℕ) (x : Holding) → Grip g d x w
          → ((d ≢ c) × Grip g d x v) ⊎ ((d ≡ c) × (h ≡ lies g) × (b ≡ 1) × Logged n starts (set s.views j w) d x))
          (keep : (g : Bool) (d : ℕ) (x : Holding) → d ≢ c → Grip g d x v → Grip g d x w)
          (hold : b ≡ 1 → (g : Bool) × (x : Holding) × Grip g c x w)
          (claimed : Belong n v.parts (entries_of claims))
          (others : (d : ℕ) (x : Holding) → d ≢ c → Logged n starts s.views d x → Logged n starts (set s.views j w) d x) where
        -- the table afterwards, and who holds which class
        abbrev s' : Locks
        s' = record { words = set s.words (suc c) b; homes = set s.homes c h; views = set s.views j w }

        abbrev holder : ℕ → ℕ
        holder = put o.holder c j

        -- there are as many seats
        longer : (m : ℕ) → m < length s.views → m < length (set s.views j w)
        longer m q = subst (λ r. m < r) (sym (length-set s.views j w)) q

        -- the word and the home of the class, and those of the others
        word_here : class_word (set s.words (suc c) b) c ≡ b
        word_here = get_or-set_same s.words (suc c) b 0 (subst (λ m. suc c < m) (sym wide) (omega arith))

        word_else : (d : ℕ) → d ≢ c → class_word (set s.words (suc c) b) d ≡ class_word s.words d
        word_else d ne = get_or-set_other s.words (suc c) (suc d) b 0 (λ e. ne (omega arith))

        home_here : get_elem? (set s.homes c h) c ≡ some h
        home_here = set_here s.homes c h (subst (λ m. c < m) (sym deep) lt)

        home_else : (d : ℕ) → d ≢ c → get_elem? (set s.homes c h) d ≡ get_elem? s.homes d
        home_else d ne = set_else s.homes c d h ne

        -- the class
        class_here : ClassOk n starts s' o.owner holder c
        class_here = record {
          small = subst (λ m. m < 2) (sym word_here) small;
          free = λ z. let f = free (sym word_here ∙ z) in (f.0, home_here ∙ ap some f.1, f.2);
          taken = λ z. subst (λ m. m < length (set s.views j w)) (sym (put_here o.holder c j)) (longer j (at_within s.views j v at));
        }

        -- and the others are as they were
        classes : (d : ℕ) → d < length starts → ClassOk n starts s' o.owner holder d
        classes d dl = dite (ℕ_discrete d c)
            (λ e. subst (ClassOk n starts s' o.owner holder) (sym e) class_here)
            (λ ne. let q = o.classes d dl in record {
              small = subst (λ m. m < 2) (sym (word_else d ne)) q.small;
              free = λ z. let f = q.free (sym (word_else d ne) ∙ z) in (f.0, home_else d ne ∙ f.1, others d f.0 ne f.2);
              taken = λ z. subst (λ m. m < length (set s.views j w)) (sym (put_else o.holder c j d ne))
                  (longer (o.holder d) (q.taken (sym (word_else d ne) ∙ z)));
            })

        -- the other seats
        there : (i : ℕ) (u : View) → i ≢ j → get_elem? s.views i ≡ some u → SeatOk n starts s' o.owner holder i u
        there i u ni e = let q = o.seats i u e in record {
          same = q.same;
          parts_in = q.parts_in;
          parts_all = q.parts_all;
          grips = λ g d x r.
              let y = q.grips g d x r in
              let ne : d ≢ c = λ z. ni (sym y.0.mine ∙ (ap o.holder z ∙ mine (subst (λ m. class_word s.words m ≡ 1) z y.0.word))) in (
                record {
                  there = y.0.there;
                  word = word_else d ne ∙ y.0.word;
                  mine = put_else o.holder c j d ne
                      ∙ y.0.mine;
                  logged = others d x ne y.0.logged;
                },
                home_else d ne ∙ y.1,
              );
          holds = λ d dl z m.
              let ne : d ≢ c = λ r. ni (sym m ∙ (ap (put o.holder c j) r ∙ put_here o.holder c j)) in
              q.holds d dl (sym (word_else d ne) ∙ z) (sym (put_else o.holder c j d ne) ∙ m);
          claimed = q.claimed;
          idle = q.idle;
        }

        -- the seat that makes the step
        here : SeatOk n starts s' o.owner holder j w
        here = let q = o.seats j v at in record {
          same = q.same;
          parts_in = q.parts_in;
          parts_all = q.parts_all;
          grips = λ g d x r. ⊎_elim
              (λ t. let y = q.grips g d x t.1 in (
                record {
                  there = y.0.there;
                  word = word_else d t.0 ∙ y.0.word;
                  mine = put_else o.holder c j d t.0
                      ∙ y.0.mine;
                  logged = others d x t.0 y.0.logged;
                },
                home_else d t.0 ∙ y.1,
              ))
              (λ t. (
                record {
                  there = subst (λ m. m < length starts) (sym t.0) lt;
                  word = ap (class_word (set s.words (suc c) b)) t.0 ∙ (word_here ∙ t.2);
                  mine = ap (put o.holder c j) t.0 ∙ put_here o.holder c j;
                  logged = t.3;
                },
                ap (get_elem? (set s.homes c h)) t.0 ∙ (home_here ∙ ap some t.1),
              ))
              (grip g d x r);
          holds = λ d dl z m. dite (ℕ_discrete d c)
              (λ e. let r = hold (sym word_here ∙ (ap (class_word (set s.words (suc c) b)) (sym e) ∙ z)) in
              (r.0, r.1, subst (λ k. Grip r.0 k r.1 w) (sym e) r.2))
              (λ ne. let r = q.holds d dl (sym (word_else d ne) ∙ z) (sym (put_else o.holder c j d ne) ∙ m) in (r.0, r.1, keep r.0 d r.1 ne r.2));
          claimed = claimed;
          idle = λ e. absurd (subst (StandsIn p) e has);
        }

        -- so all seats keep the rule
        seats : (i : ℕ) (u : View) → get_elem? (set s.views j w) i ≡ some u → SeatOk n starts s' o.owner holder i u
        seats i u e = ⊎_elim
            (λ t. subst (SeatOk n starts s' o.owner holder i) t.1 (subst (λ m. SeatOk n starts s' o.owner holder m w) (sym t.0) here))
            (λ t. there i u t.0 t.1)
            (at_set s.views j i w u e)

        -- and the table does
        pub moves : IsKept n starts s'
        moves = record {
          wide = length-set s.words (suc c) b ∙ wide;
          deep = length-set s.homes c h ∙ deep;
          state = inr (record {
            owner = o.owner;
            holder = holder;
            open_word = get_or-set_other s.words (suc c) 0 b 0 (λ e. omega arith) ∙ o.open_word;
            classes = classes;
            owners = λ k kn. longer (o.owner k) (o.owners k kn);
            seats = seats;
          });
        }

    -- the cell goes home with entries of this seat's parts
    pub logged_with : (w : View) (c : ℕ) (x y : Holding) (es : List LogEntry) → w.parts ≡ v.parts → w.claims ≡ v.claims ++ claims_of c es → y.kinds ≡ x.kinds
        → y.log ≡ x.log ++ es
        → Belong n v.parts es → Logged n starts s.views c x → Logged n starts (set s.views j w) c y
    logged_with w c x y es same claims kinds log belong l = record {
      start = l.start;
      growth = l.growth ++ es;
      given = l.given;
      kinds = kinds ∙ l.kinds;
      log = log ∙ (ap (λ (a : List LogEntry). a ++ es) l.log ∙ append_assoc l.start.log l.growth es);
      owns = λ i u e k h. ⊎_elim
          (λ t.
          let has : StandsIn k v.parts = subst (StandsIn k) same (subst (λ (z : View). StandsIn k z.parts) (sym t.1) h) in
          part-append n k l.growth es ∙ (ap (λ (a : List LogEntry). a ++ entries_of_part n k es) (l.owns j v at k has)
          ∙ (ap (λ (a : List LogEntry). own n k c v.claims ++ a) (sym (own_same n k c es))
          ∙ (sym (own-append n k c v.claims (claims_of c es)) ∙ (ap (own n k c) (sym claims) ∙ ap (λ (z : View). own n k c z.claims) t.1)))))
          (λ t.
          let apart : StandsIn k v.parts → ⊥ = λ r. t.0 (sym ((o.seats i u t.1).parts_in k h).1 ∙ ((o.seats j v at).parts_in k r).1) in
          part-append n k l.growth es
          ∙ (ap (λ (a : List LogEntry). entries_of_part n k l.growth ++ a) (part_none n k v.parts es belong apart)
          ∙ (append-nil (entries_of_part n k l.growth) ∙ l.owns i u t.1 k h)))
          (at_set s.views j i w u e);
    }
