-- A seat that is cut keeps the rule: its first part goes to a new seat.
use Rattle.std.proofs.Common.{◌≡◌, ◌≢◌, ℕ, suc, ◌+◌, ◌<◌, List, [], ◌∷◌, ◌++◌, length, set, sym, refl, ap, ◌∙◌, subst, inl, inr, ⊎_elim, length-append, arith}
use Rattle.std.proofs.lemmas.List.{length-set}
use mathlib.Core.Option.{some}
use mathlib.Core.Logic.{dite}
use native.Mathlib.Decide.{ℕ_discrete}
use lib.ListN.{get_elem?}
use Rattle.atomic_table.specs.Table.{Splits}
use Rattle.atomic_table.proofs.Lists.{at_set}
use Rattle.class_locks.specs.declared.view.View.{View}
use Rattle.class_locks.specs.declared.view.Claim.{Claim}
use Rattle.class_locks.specs.Logs.{Holding}
use Rattle.class_locks.specs.Views.{StandsIn, own, Belong, entries_of, first_of, later_of, other_parts, first_part}
use Rattle.class_locks.specs.Rule.{Locks, Logged, ClassOk, SeatOk, IsOpen, IsKept}
use Rattle.class_locks.proofs.Lists.{at_within, at_end, has_but, but_has, put, put_here, put_else}
use Rattle.class_locks.proofs.Moves.{opened}
use Rattle.class_locks.proofs.Takes.{no_grip}

module _ (n : ℕ) (starts : List Holding) (s : Locks) (o : IsOpen n starts s) (id : ℕ) (v : View) (at : get_elem? s.views id ≡ some v) (p : ℕ) (ps : List ℕ)
    (parts : v.parts ≡ p ∷ ps) (hand : v.hand ≡ []) (held : v.held ≡ []) (claims : v.claims ≡ []) where
  -- it has the part
  has : StandsIn p v.parts
  has = subst (StandsIn p) (sym parts) (inl refl)

  -- what is known of the seat that is cut
  seat : SeatOk n starts s o.owner o.holder id v
  seat = o.seats id v at

  -- the number of the new seat
  abbrev len : ℕ
  len = length s.views

  -- the view without the part, and that of the part alone
  abbrev l : View
  l = other_parts v

  abbrev r : View
  r = first_part v

  -- the table afterwards, and who has which part
  abbrev s' : Locks
  s' = record { words = s.words; homes = s.homes; views = set s.views id l ++ r ∷ [] }

  abbrev owner : ℕ → ℕ
  owner = put o.owner p len

  within : id < len
  within = at_within s.views id v at

  -- a number up to that of the new seat is one of a seat
  longer : (m : ℕ) → m < suc len → m < length (set s.views id l ++ r ∷ [])
  longer m h = subst (λ q. m < q) (sym (length-append (set s.views id l) (r ∷ []) ∙ ap (λ q. q + 1) (length-set s.views id l))) (omega arith)

  -- the seat keeps all parts but this one
  l_in : (k : ℕ) → StandsIn k l.parts → (k ≢ p) × StandsIn k v.parts
  l_in k h = let t = has_but p k ps (subst (λ (q : List ℕ). StandsIn k (later_of q)) parts h) in (t.0, subst (StandsIn k) (sym parts) (inr t.1))

  l_all : (k : ℕ) → k ≢ p → StandsIn k v.parts → StandsIn k l.parts
  l_all k ne h = subst (λ (q : List ℕ). StandsIn k (later_of q)) (sym parts)
      (⊎_elim (λ e. absurd (ne e)) (λ t. but_has p k ps ne t) (subst (StandsIn k) parts h))

  -- the new seat has this one alone
  r_in : (k : ℕ) → StandsIn k r.parts → k ≡ p
  r_in k h = ⊎_elim (λ e. e) (λ z. absurd z) (subst (λ (q : List ℕ). StandsIn k (first_of q)) parts h)

  r_all : (k : ℕ) → k ≡ p → StandsIn k r.parts
  r_all k e = subst (λ (q : List ℕ). StandsIn k (first_of q)) (sym parts) (inl e)

  -- the logs: what was claimed of the part was nothing
  logs : (d : ℕ) (x : Holding) → Logged n starts s.views d x → Logged n starts (set s.views id l ++ r ∷ []) d x
  logs d x g = record {
    start = g.start;
    growth = g.growth;
    given = g.given;
    kinds = g.kinds;
    log = g.log;
    owns = λ i u e k h. ⊎_elim
        (λ t. ⊎_elim
        (λ q. g.owns id v at k (l_in k (subst (λ (z : View). StandsIn k z.parts) (sym q.1) h)).1 ∙ ap (λ (z : View). own n k d z.claims) q.1)
        (λ q. g.owns i u q.1 k h)
        (at_set s.views id i l u t))
        (λ t. g.owns id v at k (subst (λ m. StandsIn m v.parts) (sym (r_in k (subst (λ (z : View). StandsIn k z.parts) (sym t.1) h))) has)
        ∙ (ap (own n k d) claims ∙ ap (λ (z : View). own n k d z.claims) t.1))
        (at_end (set s.views id l) r u i e);
  }

  -- the classes are as they were
  classes : (c : ℕ) → c < length starts → ClassOk n starts s' owner o.holder c
  classes c lt = let q = o.classes c lt in record {
    small = q.small;
    free = λ z. let f = q.free z in (f.0, f.1, logs c f.0 f.2);
    taken = λ z. longer (o.holder c) (let t = q.taken z in omega arith);
  }

  -- each part has its seat
  owners : (k : ℕ) → k < n → put o.owner p len k < length (set s.views id l ++ r ∷ [])
  owners k kn = dite (ℕ_discrete k p)
      (λ e. longer (put o.owner p len k) (let t = ap (put o.owner p len) e ∙ put_here o.owner p len in omega arith))
      (λ ne. longer (put o.owner p len k) (let t = put_else o.owner p len k ne in let u = o.owners k kn in omega arith))

  -- the seat that was cut
  left : SeatOk n starts s' owner o.holder id l
  left = record {
    same = λ k h. seat.same k (l_in k h).1;
    parts_in = λ k h. let t = l_in k h in let u = seat.parts_in k t.1 in (u.0, put_else o.owner p len k t.0 ∙ u.1);
    parts_all = λ k kn e. dite (ℕ_discrete k p)
        (λ q. absurd (let t = ap (put o.owner p len) q ∙ put_here o.owner p len in omega (arith, t, within)))
        (λ ne. l_all k ne (seat.parts_all k kn (sym (put_else o.owner p len k ne) ∙ e)));
    grips = λ g c x q. absurd (no_grip g c x l hand held q);
    holds = λ c lt z m. let t = seat.holds c lt z m in absurd (no_grip t.0 c t.1 v hand held t.2);
    claimed = subst (λ (q : List Claim). Belong n l.parts (entries_of q)) (sym claims) tt;
    idle = λ _. (hand, held);
  }

  -- the new seat
  right : (i : ℕ) → i ≡ len → SeatOk n starts s' owner o.holder i r
  right i is = record {
    same = λ k h. seat.same p has;
    parts_in = λ k h. let e =
        r_in k h in (subst (λ m. m < n) (sym e) (seat.parts_in p has).0, ap (put o.owner p len) e ∙ (put_here o.owner p len ∙ sym is));
    parts_all = λ k kn e. dite (ℕ_discrete k p)
        (λ q. r_all k q)
        (λ ne. absurd (let t = put_else o.owner p len k ne in let u = o.owners k kn in omega arith));
    grips = λ g c x q. absurd (no_grip g c x r refl refl q);
    holds = λ c lt z m. absurd (let t = (o.classes c lt).taken z in omega arith);
    claimed = tt;
    idle = λ _. (refl, refl);
  }

  -- the other seats
  other : (i : ℕ) (u : View) → i ≢ id → get_elem? s.views i ≡ some u → SeatOk n starts s' owner o.holder i u
  other i u ni e = let q = o.seats i u e in record {
    same = q.same;
    parts_in = λ k h.
        let t = q.parts_in k h in
        let ne : k ≢ p = λ z. ni (sym t.1 ∙ (ap o.owner z ∙ (seat.parts_in p has).1)) in
        (t.0, put_else o.owner p len k ne ∙ t.1);
    parts_all = λ k kn z. dite (ℕ_discrete k p)
        (λ y. absurd (let t = ap (put o.owner p len) y ∙ put_here o.owner p len in let a = at_within s.views i u e in omega arith))
        (λ ne. q.parts_all k kn (sym (put_else o.owner p len k ne) ∙ z));
    grips = λ g d x y. let t = q.grips g d x y in (record { there = t.0.there; word = t.0.word; mine = t.0.mine; logged = logs d x t.0.logged }, t.1);
    holds = q.holds;
    claimed = q.claimed;
    idle = q.idle;
  }

  -- so all seats keep the rule
  seats : (i : ℕ) (u : View) → get_elem? (set s.views id l ++ r ∷ []) i ≡ some u → SeatOk n starts s' owner o.holder i u
  seats i u e = ⊎_elim
      (λ t. ⊎_elim
      (λ q. subst (SeatOk n starts s' owner o.holder i) q.1 (subst (λ m. SeatOk n starts s' owner o.holder m l) (sym q.0) left))
      (λ q. other i u q.0 q.1)
      (at_set s.views id i l u t))
      (λ t. subst (SeatOk n starts s' owner o.holder i) t.1 (right i (t.0 ∙ length-set s.views id l)))
      (at_end (set s.views id l) r u i e)

  -- the table is open
  split_opens : IsOpen n starts s'
  split_opens = record { owner = owner; holder = o.holder; open_word = o.open_word; classes = classes; owners = owners; seats = seats }

-- a part goes to a new seat
pub splits_ok : (n : ℕ) (starts : List Holding) (id : ℕ) (v : View) (p : ℕ) (ps : List ℕ) → v.parts ≡ p ∷ ps → v.hand ≡ [] → v.held ≡ [] → v.claims ≡ []
    → Splits (IsKept n starts) id v (other_parts v) (first_part v)
splits_ok n starts id v p ps parts hand held claims s kept at =
    let o = opened n starts s id v p kept at (subst (StandsIn p) (sym parts) (inl refl)) in
    record { wide = kept.wide; deep = kept.deep; state = inr (split_opens n starts s o id v at p ps parts hand held claims) }
