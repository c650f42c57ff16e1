-- Tasks that are put at the places of their operators, and seats that become one.
use Rattle.std.proofs.Common.{◌≡◌, ℕ, zero, suc, ◌+◌, ◌%◌, ◌<◌, ◌≤◌, inl, inr, ⊎_elim, List, [], ◌∷◌, ◌++◌, length, take, take-suc, refl, sym, ap, ◌∙◌, subst, arith}
use Rattle.std.proofs.Common.{get_or, set, get_or-set_other, get_or-set_same, append_assoc, length-append}
use Rattle.std.specs.Prelude.{All}
use Rattle.std.proofs.lemmas.List.{append-nil, length-set, length-map, take_all, get_or_default}
use Rattle.std.proofs.lemmas.List.Elements.{All-append, All-head, All-tail}
use Rattle.class_locks.specs.declared.view.Claim.{Claim}
use Rattle.class_locks.specs.declared.view.View.{View}
use Rattle.class_locks.specs.Logs.{Holding}
use Rattle.class_locks.specs.Seats.{Chair}
use Rattle.class_locks.specs.Views.{Belong, StandsIn, both_views, entries_of, own}
use Rattle.class_locks.proofs.Owns.{own-append}
use Rattle.fire_tasks.specs.declared.bundle.Bundle.{Bundle}
use Rattle.fire_tasks.specs.declared.task.Task.{Task}
use Rattle.fire_run.specs.Cells.{AreSingle}
use Rattle.fire_run.specs.Shares.{AreAtRest, AreWithin, merged_view, put_bundles, put_each, seats_of}

-- TASKS AT THEIR PLACES

-- as many tasks as before
pub each_many : (own ts : List Task) → length (put_each own ts) ≡ length ts
each_many [] ts = refl
each_many (t ∷ own) ts = length-set (put_each own ts) t.op t ∙ each_many own ts

-- a place of none of them is as it was
pub each_other : (own ts : List Task) (o : ℕ) (d : Task) → ((i : ℕ) (e : Task) → i < length own → (get_or own i e).op ≡ o → ⊥)
    → get_or (put_each own ts) o d ≡ get_or ts o d
each_other [] ts o d ne = refl
each_other (t ∷ own) ts o d ne =
    get_or-set_other (put_each own ts) t.op o t d (λ q. ne 0 t (omega arith) (sym q)) ∙ each_other own ts o d (λ i e lt. ne (suc i) e (omega (arith, lt)))

-- each of them is at its place
pub each_here : (own ts : List Task) (i : ℕ) (c d : Task) → AreSingle own → AreWithin (length ts) own → i < length own
    → get_or (put_each own ts) (get_or own i c).op d ≡ get_or own i c
each_here [] ts i c d s w lt = absurd (omega (arith, lt))
each_here (t ∷ own) ts zero c d s w lt =
    get_or-set_same (put_each own ts) t.op t d (let a = w 0 t (omega arith) in let m = each_many own ts in omega (arith, a, m))
each_here (t ∷ own) ts (suc i) c d s w lt =
    get_or-set_other (put_each own ts) t.op (get_or own i c).op t d (λ q. let z = s 0 (suc i) c (omega arith) lt (sym q) in omega (arith, z))
    ∙ each_here own ts i c d (λ a b e la lb q. let z = s (suc a) (suc b) e (omega (arith, la)) (omega (arith, lb)) q in omega (arith, z))
    (λ k e l. w (suc k) e (omega (arith, l))) (omega (arith, lt))

-- the last task first
pub record Putting (own0 ts0 own ts : List Task) : Type 0 where
  pub done : List Task
  pub all : own0 ≡ own ++ done
  pub put : ts ≡ put_each done ts0

-- before the last none is put
pub putting_first : (own ts : List Task) → Putting own ts own ts
putting_first own ts = record { done = []; all = sym (append-nil own); put = refl }

-- one task more
pub putting_next : (own0 ts0 own ts own' : List Task) (t : Task) → Putting own0 ts0 own ts → own ≡ own' ++ t ∷ [] → Putting own0 ts0 own' (set ts t.op t)
putting_next own0 ts0 own ts own' t h e = record {
  done = t ∷ h.done;
  all = h.all ∙ ap (λ l. l ++ h.done) e ∙ append_assoc own' (t ∷ []) h.done;
  put = ap (λ l. set l t.op t) h.put;
}

-- the place of the next is there
pub putting_within : (own0 ts0 own ts own' : List Task) (t : Task) → Putting own0 ts0 own ts → own ≡ own' ++ t ∷ [] → AreWithin (length ts0) own0
    → t.op < length ts
putting_within own0 ts0 own ts own' t h e w =
    let all : own0 ≡ own' ++ (t ∷ h.done) = h.all ∙ ap (λ l. l ++ h.done) e ∙ append_assoc own' (t ∷ []) h.done in
    let within : AreWithin (length ts0) (own' ++ (t ∷ h.done)) = subst (AreWithin (length ts0)) all w in
    let long = length-append own' (t ∷ h.done) in
    let a = within (length own') t (omega (arith, long)) in
    let b : t.op < length ts0 = subst (λ (x : Task). x.op < length ts0) (here own') a in
    let m : length ts ≡ length ts0 = ap length h.put ∙ each_many h.done ts0 in
    omega (arith, b, m)
  where
    here : (us : List Task) → get_or (us ++ (t ∷ h.done)) (length us) t ≡ t
    here [] = refl
    here (u ∷ us) = here us

-- behind the first all are
pub putting_all : (own0 ts0 own ts : List Task) → Putting own0 ts0 own ts → own ≡ [] → ts ≡ put_each own0 ts0
putting_all own0 ts0 own ts h e = h.put ∙ ap (λ l. put_each l ts0) (sym (h.all ∙ ap (λ l. l ++ h.done) e))

-- BUNDLE BY BUNDLE

-- as many tasks as before
pub all_many : (bs : List Bundle) (ts : List Task) → length (put_bundles bs ts) ≡ length ts
all_many [] ts = refl
all_many (b ∷ bs) ts = all_many bs (put_each b.tasks ts) ∙ each_many b.tasks ts

put_all-last : (bs : List Bundle) (b : Bundle) (ts : List Task) → put_bundles (bs ++ b ∷ []) ts ≡ put_each b.tasks (put_bundles bs ts)
put_all-last [] b ts = refl
put_all-last (c ∷ bs) b ts = put_all-last bs b (put_each c.tasks ts)

-- the tasks of the first bundles are put, and the other bundles are as they were
pub record Gathering (bs0 : List Bundle) (ts0 : List Task) (i : ℕ) (bs : List Bundle) (ts : List Task) : Type 0 where
  pub put : ts ≡ put_bundles (take i bs0) ts0
  pub rest : (j : ℕ) (d : Bundle) → i ≤ j → get_or bs j d ≡ get_or bs0 j d
  pub seats : seats_of bs ≡ seats_of bs0

-- before the first none is put
pub gathering_first : (bs : List Bundle) (ts : List Task) → Gathering bs ts 0 bs ts
gathering_first bs ts = record { put = none bs; rest = λ j d le. refl; seats = refl }
  where
    none : (us : List Bundle) → ts ≡ put_bundles (take 0 us) ts
    none [] = refl
    none (u ∷ us) = refl

-- as many bundles as before
pub gathering_many : (bs0 bs : List Bundle) (ts0 ts : List Task) (i : ℕ) → Gathering bs0 ts0 i bs ts → length bs ≡ length bs0
gathering_many bs0 bs ts0 ts i h = sym (length-map bs (λ (b : Bundle). b.seat)) ∙ ap length h.seats ∙ length-map bs0 (λ (b : Bundle). b.seat)

-- the tasks of the next have their places
pub gathering_within : (bs0 bs : List Bundle) (ts0 ts : List Task) (i : ℕ) (b : Bundle) → Gathering bs0 ts0 i bs ts → i < length bs0 → b ≡ get_or bs i b
    → All (λ c. AreWithin (length ts0) c.tasks) bs0 → AreWithin (length ts) b.tasks
gathering_within bs0 bs ts0 ts i b h lt e w =
    let a = w i b lt in
    let z : length ts ≡ length ts0 = ap length h.put ∙ all_many (take i bs0) ts0 in
    subst (λ k. AreWithin k b.tasks) (sym z) (subst (λ (c : Bundle). AreWithin (length ts0) c.tasks) (sym (e ∙ h.rest i b (omega arith))) a)

-- one bundle more
pub gathering_next : (bs0 bs : List Bundle) (ts0 ts ts' : List Task) (i : ℕ) (b b' : Bundle) → Gathering bs0 ts0 i bs ts → i < length bs0 → b ≡ get_or bs i b
    → b'.seat ≡ b.seat → ts' ≡ put_each b.tasks ts → Gathering bs0 ts0 (i + 1) (set bs i b') ts'
gathering_next bs0 bs ts0 ts ts' i b b' h lt e s p =
    let m = gathering_many bs0 bs ts0 ts i h in
    let there_now : i < length bs = omega (arith, lt, m) in
    let there : b ≡ get_or bs0 i b = e ∙ h.rest i b (omega arith) in
    let next : suc i ≡ i + 1 = omega arith in
    let taken : take (i + 1) bs0 ≡ take i bs0 ++ b ∷ [] = ap (λ k. take k bs0) (sym next) ∙ take-suc bs0 i b lt ∙ ap (λ x. take i bs0 ++ x ∷ []) (sym there) in
    record {
      put = p ∙ ap (put_each b.tasks) h.put ∙ sym (put_all-last (take i bs0) b ts0) ∙ ap (λ l. put_bundles l ts0) (sym taken);
      rest = λ j d le. get_or-set_other bs i j b' d (λ z. omega (arith, z, le)) ∙ h.rest j d (omega (arith, le));
      seats = set_seat bs i there_now (s ∙ ap (λ (x : Bundle). x.seat) (e ∙ get_or_default bs i b b' there_now)) ∙ h.seats;
    }
  where
    set_seat : (xs : List Bundle) (j : ℕ) → j < length xs → b'.seat ≡ (get_or xs j b').seat → seats_of (set xs j b') ≡ seats_of xs
    set_seat [] j l q = refl
    set_seat (x ∷ xs) zero l q = ap (λ c. c ∷ seats_of xs) q
    set_seat (x ∷ xs) (suc j) l q = ap (λ cs. x.seat ∷ cs) (set_seat xs j (omega (arith, l)) q)

-- behind the last one all are
pub gathering_all : (bs0 bs : List Bundle) (ts0 ts : List Task) (i : ℕ) → Gathering bs0 ts0 i bs ts → length bs0 ≤ i → ts ≡ put_bundles bs0 ts0
gathering_all bs0 bs ts0 ts i h le = h.put ∙ ap (λ l. put_bundles l ts0) (take_all i bs0 le)

-- a place of none of the bundles' tasks is as it was
all_other : (bs : List Bundle) (ts : List Task) (o : ℕ) (d : Task)
    → ((k : ℕ) (e : Bundle) (i : ℕ) (c : Task) → k < length bs → i < length (get_or bs k e).tasks → (get_or (get_or bs k e).tasks i c).op ≡ o → ⊥)
    → get_or (put_bundles bs ts) o d ≡ get_or ts o d
all_other [] ts o d ne = refl
all_other (b ∷ bs) ts o d ne =
    all_other bs (put_each b.tasks ts) o d (λ k e i c lk li. ne (suc k) e i c (omega (arith, lk)) li)
    ∙ each_other b.tasks ts o d (λ i c li. ne 0 b i c (omega arith) li)

-- bundles whose tasks have their places, no two the same: those of bundle k are of part m + k
pub record AreApart (n m p : ℕ) (bs : List Bundle) : Type 0 where
  pub single : (k : ℕ) (e : Bundle) → k < length bs → AreSingle (get_or bs k e).tasks
  pub within : (k : ℕ) (e : Bundle) → k < length bs → AreWithin p (get_or bs k e).tasks
  pub parts : (k : ℕ) (e : Bundle) (i : ℕ) (c : Task) → k < length bs → i < length (get_or bs k e).tasks → ((get_or (get_or bs k e).tasks i c).op % n) ≡ m + k

-- each task of each bundle is at its place
pub all_here : (n m : ℕ) (bs : List Bundle) (ts : List Task) (k i : ℕ) (e : Bundle) (c d : Task) → AreApart n m (length ts) bs → k < length bs
    → i < length (get_or bs k e).tasks → get_or (put_bundles bs ts) (get_or (get_or bs k e).tasks i c).op d ≡ get_or (get_or bs k e).tasks i c
all_here n m [] ts k i e c d h lk li = absurd (omega (arith, lk))
all_here n m (b ∷ bs) ts zero i e c d h lk li =
    let here = h.parts 0 e i c (omega arith) li in
    all_other bs (put_each b.tasks ts) (get_or b.tasks i c).op d (λ q x j y lq lj z.
    let there = h.parts (suc q) x j y (omega (arith, lq)) lj in
    let w = ap (λ (o : ℕ). o % n) z in
    omega (arith, here, there, w))
    ∙ each_here b.tasks ts i c d (h.single 0 e (omega arith)) (h.within 0 e (omega arith)) li
all_here n m (b ∷ bs) ts (suc k) i e c d h lk li =
    all_here n (suc m) bs (put_each b.tasks ts) k i e c d
    (record {
      single = λ q x lq. h.single (suc q) x (omega (arith, lq));
      within = λ q x lq. subst (λ z. AreWithin z (get_or bs q x).tasks) (sym (each_many b.tasks ts)) (h.within (suc q) x (omega (arith, lq)));
      parts = λ q x j y lq lj. let r = h.parts (suc q) x j y (omega (arith, lq)) lj in omega (arith, r);
    })
    (omega (arith, lk)) li

-- SEATS THAT BECOME ONE

-- the last seat took over those before it, one after another
pub record Merging (seats0 seats : List Chair) (v : View) : Type 0 where
  pub first : Chair
  pub later : List Chair
  pub all : seats0 ≡ seats ++ (first ∷ later)
  pub view : v ≡ merged_view (first ∷ later)

seats-last : (bs : List Bundle) (b : Bundle) → seats_of (bs ++ b ∷ []) ≡ seats_of bs ++ b.seat ∷ []
seats-last [] b = refl
seats-last (c ∷ bs) b = ap (λ l. c.seat ∷ l) (seats-last bs b)

-- before the others there is the last
pub merging_first : (bs0 bs : List Bundle) (b : Bundle) → bs0 ≡ bs ++ b ∷ [] → Merging (seats_of bs0) (seats_of bs) b.seat.view
merging_first bs0 bs b e = record { first = b.seat; later = []; all = ap seats_of e ∙ seats-last bs b; view = refl }

-- one seat more
pub merging_next : (bs0 bs bs' : List Bundle) (b : Bundle) (v w : View) → Merging (seats_of bs0) (seats_of bs) v → bs ≡ bs' ++ b ∷ []
    → w ≡ both_views v b.seat.view → Merging (seats_of bs0) (seats_of bs') w
merging_next bs0 bs bs' b v w h e q = record {
  first = b.seat;
  later = h.first ∷ h.later;
  all = h.all ∙ ap (λ l. l ++ (h.first ∷ h.later)) (ap seats_of e ∙ seats-last bs' b) ∙ append_assoc (seats_of bs') (b.seat ∷ []) (h.first ∷ h.later);
  view = q ∙ ap (λ x. both_views x b.seat.view) h.view;
}

-- a seat that is taken over is of the round, and holds no class
pub popped_rest : (bs0 bs bs' : List Bundle) (b : Bundle) (tail : List Chair) (h : AreAtRest (seats_of bs0)) → seats_of bs0 ≡ seats_of bs ++ tail
    → bs ≡ bs' ++ b ∷ []
    → (b.seat.lot ≡ h.lot) × (b.seat.view.held ≡ [])
popped_rest bs0 bs bs' b tail h e p =
    let all : seats_of bs0 ≡ seats_of bs' ++ (b.seat ∷ tail) =
    e ∙ ap (λ l. l ++ tail) (ap seats_of p ∙ seats-last bs' b) ∙ append_assoc (seats_of bs') (b.seat ∷ []) tail in
    let here : get_or (seats_of bs0) (length (seats_of bs')) b.seat ≡ b.seat = ap (λ l. get_or l (length (seats_of bs')) b.seat) all ∙ there (seats_of bs') in
    let l0 = ap length all in
    let l1 = length-append (seats_of bs') (b.seat ∷ tail) in
    let lt : length (seats_of bs') < length (seats_of bs0) = omega (arith, l0, l1) in (
      ap (λ (s : Chair). s.lot) (sym here) ∙ h.lots (length (seats_of bs')) b.seat lt,
      ap (λ (s : Chair). s.view.held) (sym here)
          ∙ h.rests (length (seats_of bs')) b.seat lt,
    )
  where
    there : (ss : List Chair) → get_or (ss ++ (b.seat ∷ tail)) (length ss) b.seat ≡ b.seat
    there [] = refl
    there (s ∷ ss) = there ss

-- what a seat of these knows of the round
pub record IsRound (n : ℕ) (starts : List Holding) (v : View) : Type 0 where
  pub seats : v.seats ≡ n
  pub starts_are : v.starts ≡ starts
  pub rests : v.held ≡ []

-- what all know of the round the one knows
pub merged_round : (n : ℕ) (starts : List Holding) (ss : List Chair) → 0 < length ss
    → ((i : ℕ) (d : Chair) → i < length ss → IsRound n starts (get_or ss i d).view)
    → IsRound n starts (merged_view ss)
merged_round n starts [] lt h = absurd (omega (arith, lt))
merged_round n starts (s ∷ []) lt h = h 0 s (omega arith)
merged_round n starts (s ∷ (r ∷ rest)) lt h =
    let x = merged_round n starts (r ∷ rest) (omega arith) (λ i d l. h (suc i) d (omega (arith, l))) in
    record { seats = x.seats; starts_are = x.starts_are; rests = x.rests }

has_front : (k : ℕ) (ps qs : List ℕ) → StandsIn k ps → StandsIn k (ps ++ qs)
has_front k [] qs h = absurd h
has_front k (p ∷ ps) qs h = ⊎_elim (λ e. inl e) (λ r. inr (has_front k ps qs r)) h

has_back : (k : ℕ) (ps qs : List ℕ) → StandsIn k qs → StandsIn k (ps ++ qs)
has_back k [] qs h = h
has_back k (p ∷ ps) qs h = inr (has_back k ps qs h)

-- it has the part of each
pub merged_parts : (m : ℕ) (ss : List Chair) → ((i : ℕ) (d : Chair) → i < length ss → (get_or ss i d).view.parts ≡ (m + i) ∷ []) → (i : ℕ) → i < length ss
    → StandsIn (m + i) (merged_view ss).parts
merged_parts m [] h i lt = absurd (omega (arith, lt))
merged_parts m (s ∷ []) h zero lt = subst (StandsIn (m + 0)) (sym (h 0 s (omega arith))) (inl refl)
merged_parts m (s ∷ []) h (suc i) lt = absurd (omega (arith, lt))
merged_parts m (s ∷ (r ∷ rest)) h zero lt =
    has_back (m + 0) (merged_view (r ∷ rest)).parts s.view.parts (subst (StandsIn (m + 0)) (sym (h 0 s (omega arith))) (inl refl))
merged_parts m (s ∷ (r ∷ rest)) h (suc i) lt =
    let z : suc m + i ≡ m + suc i = omega arith in
    has_front (m + suc i) (merged_view (r ∷ rest)).parts s.view.parts
    (subst (λ k. StandsIn k (merged_view (r ∷ rest)).parts) z
    (merged_parts (suc m) (r ∷ rest) (λ j d l. let y : m + suc j ≡ suc m + j = omega arith in h (suc j) d (omega (arith, l))
    ∙ ap (λ x. x ∷ []) y) i (omega (arith, lt))))

-- what holds of the claims of each holds of its claims
pub merged_all : (P : Claim → Type 0) (ss : List Chair) → 0 < length ss → ((i : ℕ) (d : Chair) → i < length ss → All P (get_or ss i d).view.claims)
    → All P (merged_view ss).claims
merged_all P [] lt h = absurd (omega (arith, lt))
merged_all P (s ∷ []) lt h = h 0 s (omega arith)
merged_all P (s ∷ (r ∷ rest)) lt h =
    All-append P (merged_view (r ∷ rest)).claims s.view.claims (merged_all P (r ∷ rest) (omega arith) (λ i d l. h (suc i) d (omega (arith, l))))
    (h 0 s (omega arith))

-- claims that belong to some parts belong to them as entries
pub belongs : (n : ℕ) (parts : List ℕ) (qs : List Claim) → All (λ (q : Claim). StandsIn (q.entry.op % n) parts) qs → Belong n parts (entries_of qs)
belongs n parts [] a = tt
belongs n parts (q ∷ qs) a =
    (All-head (λ (x : Claim). StandsIn (x.entry.op % n) parts) q qs a, belongs n parts qs (All-tail (λ (x : Claim). StandsIn (x.entry.op % n) parts) q qs a))

-- what is claimed of each part is claimed by its seat alone: seat i claims nothing of another part than m + i
abbrev pub OwnAlone : ℕ → ℕ → List Chair → Type 0
OwnAlone n m ss = (i : ℕ) (d : Chair) (j c : ℕ) → i < length ss → (j ≡ m + i → ⊥) → own n j c (get_or ss i d).view.claims ≡ []

alone_rest : (n m : ℕ) (s : Chair) (ss : List Chair) → OwnAlone n m (s ∷ ss) → OwnAlone n (suc m) ss
alone_rest n m s ss h i d j c lt ne = h (suc i) d j c (omega (arith, lt)) (λ z. ne (omega (arith, z)))

merged_none : (n m j c : ℕ) (ss : List Chair) → 0 < length ss → OwnAlone n m ss → ((i : ℕ) → i < length ss → j ≡ m + i → ⊥)
    → own n j c (merged_view ss).claims ≡ []
merged_none n m j c [] lt h ne = absurd (omega (arith, lt))
merged_none n m j c (s ∷ []) lt h ne = h 0 s j c (omega arith) (ne 0 (omega arith))
merged_none n m j c (s ∷ (r ∷ rest)) lt h ne =
    own-append n j c (merged_view (r ∷ rest)).claims s.view.claims
    ∙ ap (λ l. l ++ own n j c s.view.claims)
    (merged_none n (suc m) j c (r ∷ rest) (omega arith) (alone_rest n m s (r ∷ rest) h) (λ i l z. ne (suc i) (omega (arith, l)) (omega (arith, z))))
    ∙ h 0 s j c (omega arith) (ne 0 (omega arith))

-- the own list of each part is that of its seat
pub merged_own : (n m c : ℕ) (ss : List Chair) → OwnAlone n m ss → (i : ℕ) (d : Chair) → i < length ss
    → own n (m + i) c (merged_view ss).claims ≡ own n (m + i) c (get_or ss i d).view.claims
merged_own n m c [] h i d lt = absurd (omega (arith, lt))
merged_own n m c (s ∷ []) h zero d lt = refl
merged_own n m c (s ∷ []) h (suc i) d lt = absurd (omega (arith, lt))
merged_own n m c (s ∷ (r ∷ rest)) h zero d lt =
    own-append n (m + 0) c (merged_view (r ∷ rest)).claims s.view.claims
    ∙ ap (λ l. l ++ own n (m + 0) c s.view.claims)
    (merged_none n (suc m) (m + 0) c (r ∷ rest) (omega arith) (alone_rest n m s (r ∷ rest) h) (λ i l z. omega (arith, z)))
merged_own n m c (s ∷ (r ∷ rest)) h (suc i) d lt =
    let z : suc m + i ≡ m + suc i = omega arith in
    own-append n (m + suc i) c (merged_view (r ∷ rest)).claims s.view.claims
    ∙ ap (λ l. own n (m + suc i) c (merged_view (r ∷ rest)).claims ++ l) (h 0 s (m + suc i) c (omega arith) (λ q. omega (arith, q)))
    ∙ append-nil (own n (m + suc i) c (merged_view (r ∷ rest)).claims)
    ∙ subst (λ k. own n k c (merged_view (r ∷ rest)).claims ≡ own n k c (get_or (r ∷ rest) i d).view.claims) z
    (merged_own n (suc m) c (r ∷ rest) (alone_rest n m s (r ∷ rest) h) i d (omega (arith, lt)))
