-- A seat that takes over another keeps the rule.
use Rattle.std.proofs.Common.{◌≡◌, ◌≢◌, ℕ, ◌<◌, ◌⊎◌, Bool, true, false, List, [], ◌++◌, length, set, sym, refl, ap, ◌∙◌, subst, inl, inr, ⊎_elim, append-nil}
use Rattle.std.proofs.lemmas.List.{length-set}
use mathlib.Core.Option.{some}
use mathlib.Core.Logic.{dite}
use native.Mathlib.Decide.{ℕ_discrete}
use lib.ListN.{get_elem?}
use Rattle.atomic_table.specs.Table.{Joins}
use Rattle.atomic_table.proofs.Lists.{at_set, set_else}
use Rattle.class_locks.specs.declared.log.LogEntry.{LogEntry}
use Rattle.class_locks.specs.declared.view.View.{View}
use Rattle.class_locks.specs.Logs.{Holding, entries_of_part}
use Rattle.class_locks.specs.Views.{StandsIn, own, Belong, entries_of, both_views, spent}
use Rattle.class_locks.specs.Rule.{Locks, Grip, Logged, ClassOk, SeatOk, IsOpen, IsKept}
use Rattle.class_locks.proofs.Lists.{at_within, has_append, has_left, has_right, passed, passed_here, passed_else}
use Rattle.class_locks.proofs.Owns.{own-append, own_none, entries-append, belong-append, belong_more}
use Rattle.class_locks.proofs.Moves.{opened}
use Rattle.class_locks.proofs.Takes.{no_grip}

module _ (n : ℕ) (starts : List Holding) (s : Locks) (o : IsOpen n starts s) (id : ℕ) (v : View) (at : get_elem? s.views id ≡ some v) (from : ℕ) (w : View)
    (at_w : get_elem? s.views from ≡ some w) (apart : from ≢ id) (p : ℕ) (has : StandsIn p v.parts) (hand : w.hand ≡ []) (held : w.held ≡ []) where
  -- the view of both
  abbrev b : View
  b = both_views v w

  -- what is known of the two seats
  seat : SeatOk n starts s o.owner o.holder id v
  seat = o.seats id v at

  its : SeatOk n starts s o.owner o.holder from w
  its = o.seats from w at_w

  -- the table afterwards, and who has which part
  abbrev views : List View
  views = set (set s.views id b) from spent

  abbrev s' : Locks
  s' = record { words = s.words; homes = s.homes; views = views }

  abbrev owner : ℕ → ℕ
  owner = passed o.owner from id

  -- there are as many seats
  longer : (m : ℕ) → m < length s.views → m < length views
  longer m h = subst (λ q. m < q) (sym (length-set (set s.views id b) from spent ∙ length-set s.views id b)) h

  -- no part stands in both views
  not_w : (k : ℕ) → StandsIn k v.parts → StandsIn k w.parts → ⊥
  not_w k h g = apart (sym (its.parts_in k g).1 ∙ (seat.parts_in k h).1)

  -- a view that is there afterwards
  abbrev Which : ℕ → View → Type 0
  Which i u = ((i ≡ from) × (spent ≡ u)) ⊎ (((i ≡ id) × (b ≡ u)) ⊎ ((i ≢ from) × (i ≢ id) × (get_elem? s.views i ≡ some u)))

  which : (i : ℕ) (u : View) → get_elem? views i ≡ some u → Which i u
  which i u e = ⊎_elim inl (λ t. inr (⊎_elim inl (λ q. inr (t.0, q.0, q.1)) (at_set s.views id i b u t.1))) (at_set (set s.views id b) from i spent u e)

  -- the entries of a part are those that the two have claimed
  joined : (d : ℕ) (x : Holding) (l : Logged n starts s.views d x) (k : ℕ) → StandsIn k (v.parts ++ w.parts) → entries_of_part n k l.growth ≡ own n k d (v.claims ++ w.claims)
  joined d x l k h = ⊎_elim
      (λ g. l.owns id v at k g
      ∙ (sym (append-nil (own n k d v.claims))
      ∙ (ap (λ (q : List LogEntry). own n k d v.claims ++ q) (sym (own_none n k d w.parts w.claims its.claimed (not_w k g)))
      ∙ sym (own-append n k d v.claims w.claims))))
      (λ g. l.owns from w at_w k g
      ∙ (ap (λ (q : List LogEntry). q ++ own n k d w.claims) (sym (own_none n k d v.parts v.claims seat.claimed (λ y. not_w k y g)))
      ∙ sym (own-append n k d v.claims w.claims)))
      (has_append k v.parts w.parts h)

  -- the logs: what both have claimed is theirs
  logs : (d : ℕ) (x : Holding) → Logged n starts s.views d x → Logged n starts views d x
  logs d x l = record {
    start = l.start;
    growth = l.growth;
    given = l.given;
    kinds = l.kinds;
    log = l.log;
    owns = λ i u e k h. ⊎_elim
        (λ t. absurd (subst (λ (z : View). StandsIn k z.parts) (sym t.1) h))
        (λ a. ⊎_elim
        (λ t. joined d x l k (subst (λ (z : View). StandsIn k z.parts) (sym t.1) h) ∙ ap (λ (z : View). own n k d z.claims) t.1)
        (λ t. l.owns i u t.2 k h)
        a)
        (which i u e);
  }

  -- the classes are as they were
  classes : (c : ℕ) → c < length starts → ClassOk n starts s' owner o.holder c
  classes c lt = let q = o.classes c lt in record {
    small = q.small;
    free = λ z. let f = q.free z in (f.0, f.1, logs c f.0 f.2);
    taken = λ z. longer (o.holder c) (q.taken z);
  }

  -- each part has its seat
  owners : (k : ℕ) → k < n → passed o.owner from id k < length views
  owners k kn = dite (ℕ_discrete (o.owner k) from)
      (λ e. subst (λ m. m < length views) (sym (passed_here o.owner from id k e)) (longer id (at_within s.views id v at)))
      (λ ne. subst (λ m. m < length views) (sym (passed_else o.owner from id k ne)) (longer (o.owner k) (o.owners k kn)))

  -- the seat that is spent
  gone : SeatOk n starts s' owner o.holder from spent
  gone = record {
    same = λ k h. absurd h;
    parts_in = λ k h. absurd h;
    parts_all = λ k kn e. dite (ℕ_discrete (o.owner k) from)
        (λ q. absurd (apart (sym e ∙ passed_here o.owner from id k q)))
        (λ ne. absurd (ne (sym (passed_else o.owner from id k ne) ∙ e)));
    grips = λ g c x r. absurd (no_grip g c x spent refl refl r);
    holds = λ c lt z m. let r = its.holds c lt z m in absurd (no_grip r.0 c r.1 w hand held r.2);
    claimed = tt;
    idle = λ _. (refl, refl);
  }

  -- what the seat holds is what it held
  grip_same : (g : Bool) (d : ℕ) (x : Holding) → Grip g d x b → Grip g d x v
  grip_same true d x r = r
  grip_same false d x r = r

  same_grip : (g : Bool) (d : ℕ) (x : Holding) → Grip g d x v → Grip g d x b
  same_grip true d x r = r
  same_grip false d x r = r

  -- the seat that took over
  here : SeatOk n starts s' owner o.holder id b
  here = record {
    same = λ k h. seat.same p has;
    parts_in = λ k h. ⊎_elim
        (λ g. let t = seat.parts_in k g in (t.0, passed_else o.owner from id k (λ q. apart (sym q ∙ t.1)) ∙ t.1))
        (λ g. let t = its.parts_in k g in (t.0, passed_here o.owner from id k t.1))
        (has_append k v.parts w.parts h);
    parts_all = λ k kn e. dite (ℕ_discrete (o.owner k) from)
        (λ q. has_right k v.parts w.parts (its.parts_all k kn q))
        (λ ne. has_left k v.parts w.parts (seat.parts_all k kn (sym (passed_else o.owner from id k ne) ∙ e)));
    grips = λ g d x r. let t =
        seat.grips g d x (grip_same g d x r) in (record { there = t.0.there; word = t.0.word; mine = t.0.mine; logged = logs d x t.0.logged }, t.1);
    holds = λ c lt z m. let r = seat.holds c lt z m in (r.0, r.1, same_grip r.0 c r.1 r.2);
    claimed = subst (Belong n b.parts) (sym (entries-append v.claims w.claims)) (belong-append n b.parts (entries_of v.claims) (entries_of w.claims)
        (belong_more n v.parts b.parts (entries_of v.claims) (λ k h. has_left k v.parts w.parts h) seat.claimed)
        (belong_more n w.parts b.parts (entries_of w.claims) (λ k h. has_right k v.parts w.parts h) its.claimed));
    idle = λ e. absurd (subst (StandsIn p) e (has_left p v.parts w.parts has));
  }

  -- the other seats
  there : (i : ℕ) (u : View) → i ≢ from → i ≢ id → get_elem? s.views i ≡ some u → SeatOk n starts s' owner o.holder i u
  there i u nf ni e = let q = o.seats i u e in record {
    same = q.same;
    parts_in = λ k h. let t = q.parts_in k h in (t.0, passed_else o.owner from id k (λ z. nf (sym t.1 ∙ z)) ∙ t.1);
    parts_all = λ k kn z. dite (ℕ_discrete (o.owner k) from)
        (λ y. absurd (ni (sym z ∙ passed_here o.owner from id k y)))
        (λ ne. q.parts_all k kn (sym (passed_else o.owner from id k ne) ∙ z));
    grips = λ g d x r. let t = q.grips g d x r in (record { there = t.0.there; word = t.0.word; mine = t.0.mine; logged = logs d x t.0.logged }, t.1);
    holds = q.holds;
    claimed = q.claimed;
    idle = q.idle;
  }

  -- so all seats keep the rule
  seats : (i : ℕ) (u : View) → get_elem? views i ≡ some u → SeatOk n starts s' owner o.holder i u
  seats i u e = ⊎_elim
      (λ t. subst (SeatOk n starts s' owner o.holder i) t.1
      (subst (λ m. SeatOk n starts s' owner o.holder m spent) (sym t.0) gone))
      (λ a. ⊎_elim
      (λ t. subst (SeatOk n starts s' owner o.holder i) t.1
      (subst (λ m. SeatOk n starts s' owner o.holder m b) (sym t.0) here))
      (λ t. there i u t.0 t.1 t.2)
      a)
      (which i u e)

  -- the table is open
  join_opens : IsOpen n starts s'
  join_opens = record { owner = owner; holder = o.holder; open_word = o.open_word; classes = classes; owners = owners; seats = seats }

-- a seat takes over another's parts and own lists
pub joins_ok : (n : ℕ) (starts : List Holding) (id : ℕ) (v : View) (from : ℕ) (w : View) (p : ℕ) → StandsIn p v.parts → w.hand ≡ [] → w.held ≡ []
    → Joins (IsKept n starts) id v from w (both_views v w) spent
joins_ok n starts id v from w p has hand held s kept at apart at_from =
    let o = opened n starts s id v p kept at has in
    let at_w = sym (set_else s.views id from (both_views v w) apart) ∙ at_from in
    record { wide = kept.wide; deep = kept.deep; state = inr (join_opens n starts s o id v at from w at_w apart p has hand held) }
