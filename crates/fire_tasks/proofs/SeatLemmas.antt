-- What takes and puts of classes make of what a seat knows of its operators.
use Rattle.std.proofs.Common.{◌≡◌, ◌≢◌, ℕ, ◌≤◌, ◌==◌, ◌%◌, Bool, cond, true, false, Some, List, [], ◌∷◌, ◌++◌, length, drop, reverse, refl, sym, ap, ◌∙◌, subst}
use Rattle.std.proofs.Common.{arith, ◌⊎◌, inl, inr, ⊎_elim, append_assoc, eq-eqb}
use Rattle.std.specs.Prelude.{All, slice_get}
use Rattle.std.proofs.lemmas.Bool.{cases_eq}
use Rattle.std.proofs.lemmas.List.{append-nil, reverse-append, reverse-reverse}
use Rattle.std.proofs.lemmas.List.Elements.{All-nil, All-cons, All-append, All-head, All-tail}
use Rattle.std.proofs.Math.Seq.{drop-append_seam}
use Rattle.river_base.proofs.Lists.{got_all}
use Rattle.river_plan.specs.Forms.{PlanForm}
use Rattle.class_locks.specs.declared.log.LogEntry.{LogEntry}
use Rattle.class_locks.specs.declared.view.View.{View}
use Rattle.class_locks.specs.declared.view.Held.{Held}
use Rattle.class_locks.specs.declared.view.Claim.{Claim}
use Rattle.class_locks.specs.Logs.{entries_of_part}
use Rattle.class_locks.specs.Piles.{Piled, AllBelow, Matches, IsPile, HasGained, HasTaken, HasPut, gained}
use Rattle.class_locks.specs.Views.{StandsIn, Belong, own, claims_of}
use Rattle.class_locks.proofs.Owns.{own-append, own_same, own_other}
use Rattle.fire_tasks.specs.Adds.{AreClaims, IsEntryOf}
use Rattle.fire_tasks.specs.Turns.{SameRound, pile_grown, HaveGained}

-- GROWN PILES

turned : (more : ℕ → List LogEntry) (pile : List Piled) → reverse (pile_grown more pile) ≡ pile_grown more (reverse pile)
turned more [] = refl
turned more (x ∷ xs) =
    let y : Piled = (x.0, record x.1 { log = x.1.log ++ more x.0 }) in
    reverse-append (y ∷ []) (pile_grown more xs)
    ∙ ap (λ (l : List Piled). l ++ y ∷ []) (turned more xs)
    ∙ sym (ap (pile_grown more) (reverse-append (x ∷ []) xs) ∙ grown-append (reverse xs) (x ∷ []))
  where
    grown-append : (ps qs : List Piled) → pile_grown more (ps ++ qs) ≡ pile_grown more ps ++ pile_grown more qs
    grown-append [] qs = refl
    grown-append (q ∷ ps) qs = ap (λ (l : List Piled). (q.0, record q.1 { log = q.1.log ++ more q.0 }) ∷ l) (grown-append ps qs)

-- entries of an operator whose part the seat has belong to it
pub own_belongs : (n o : ℕ) (parts : List ℕ) (es : List LogEntry) → StandsIn (o % n) parts → All (λ e. e.op ≡ o) es → Belong n parts es
own_belongs n o parts [] h a = tt
own_belongs n o parts (e ∷ es) h a = (
  subst (λ k. StandsIn (k % n) parts) (sym (All-head (λ (x : LogEntry). x.op ≡ o) e es a)) h,
  own_belongs n o parts es h (All-tail (λ (x : LogEntry). x.op ≡ o) e es a),
)

belongs-append : (n : ℕ) (parts : List ℕ) (xs ys : List LogEntry) → Belong n parts xs → Belong n parts ys → Belong n parts (xs ++ ys)
belongs-append n parts [] ys h g = g
belongs-append n parts (x ∷ xs) ys h g = (h.0, belongs-append n parts xs ys h.1 g)

-- the cells have gained what belongs to the seat
grown_matches : (n : ℕ) (parts : List ℕ) (more : ℕ → List LogEntry) (ps : List Piled) (hs : List Held) → ((c : ℕ) → Belong n parts (more c))
    → Matches n parts ps hs → Matches n parts (pile_grown more ps) hs
grown_matches n parts more [] [] b m = m
grown_matches n parts more [] (h ∷ hs) b m = absurd m
grown_matches n parts more (p ∷ ps) [] b m = absurd m
grown_matches n parts more (p ∷ ps) (h ∷ hs) b m = (
  m.0,
  record {
    more = m.1.more ++ more p.0;
    kinds = m.1.kinds;
    log = ap (λ (l : List LogEntry). l ++ more p.0) m.1.log ∙ append_assoc h.taken.log m.1.more (more p.0);
    belong = belongs-append n parts m.1.more (more p.0) m.1.belong (b p.0);
  },
  grown_matches n parts more ps hs b m.2,
)

-- a pile whose cells gained entries of an operator of the seat may be put
pub grown_pile : (v : View) (o : ℕ) (pile pile' : List Piled) → StandsIn (o % v.seats) v.parts → IsPile v pile → HaveGained o pile pile' → IsPile v pile'
grown_pile v o pile pile' h k g = record {
  matches = subst (λ (l : List Piled). Matches v.seats v.parts l v.held) (sym (ap reverse g.is ∙ turned g.more pile))
      (grown_matches v.seats v.parts g.more (reverse pile) v.held (λ c. own_belongs v.seats o v.parts (g.more c) h (g.own c)) k.matches);
  descend = k.descend;
}

-- WHAT IS CLAIMED

no_claims : (c : ℕ) (es : List LogEntry) (qs : List Claim) → claims_of c es ++ qs ≡ [] → (es ≡ []) × (qs ≡ [])
no_claims c [] qs e = (refl, e)
no_claims c (x ∷ es) qs e = absurd (cc e)

module _ (n : ℕ) (parts : List ℕ) (more : ℕ → List LogEntry) where
  -- of a cell that had gained nothing, what is claimed is what it has more
  claimed_one : (p : Piled) (ps : List Piled) (h : Held) (hs : List Held) → HasGained n parts h.taken p.1 → gained (p ∷ ps) (h ∷ hs) ≡ []
      → drop (length h.taken.log) (p.1.log ++ more p.0) ≡ more p.0
  claimed_one p ps h hs g e =
      let none : g.more ≡ [] = sym (drop-append_seam h.taken.log g.more) ∙ ap (drop (length h.taken.log)) (sym g.log)
      ∙ (no_claims p.0 (drop (length h.taken.log) p.1.log) (gained ps hs) e).0 in
      let log : p.1.log ≡ h.taken.log = g.log ∙ ap (λ (l : List LogEntry). h.taken.log ++ l) none ∙ append-nil h.taken.log in
      ap (λ (l : List LogEntry). drop (length h.taken.log) (l ++ more p.0)) log ∙ drop-append_seam h.taken.log (more p.0)

  -- all classes are below c: nothing is claimed there
  claimed_past : (k c m : ℕ) (ps : List Piled) (hs : List Held) → m ≤ c → AllBelow m hs → Matches n parts ps hs
      → own n k c (gained (pile_grown more ps) hs) ≡ []
  claimed_past k c m [] hs le b ma = refl
  claimed_past k c m (p ∷ ps) [] le b ma = refl
  claimed_past k c m (p ∷ ps) (h ∷ hs) le b ma =
      let es = drop (length h.taken.log) (p.1.log ++ more p.0) in
      let lt = b.0 in
      let e = ma.0 in
      own-append n k c (claims_of p.0 es) (gained (pile_grown more ps) hs)
      ∙ ap (λ (l : List LogEntry). l ++ own n k c (gained (pile_grown more ps) hs)) (own_other n k p.0 c es (λ q. omega (arith, lt, le, e, q)))
      ∙ claimed_past k c h.class ps hs (omega (arith, lt, le)) b.1 ma.2

  -- at a class what is claimed is the part of what its cell has more; at another there is none
  claimed_at : (k c m : ℕ) (ps : List Piled) (hs : List Held) → AllBelow m hs → Matches n parts ps hs → gained ps hs ≡ []
      → (own n k c (gained (pile_grown more ps) hs) ≡ entries_of_part n k (more c)) ⊎ ((own n k c (gained (pile_grown more ps) hs) ≡ []) × All (λ (x : Piled). x.0 ≢ c) ps)
  claimed_at k c m [] hs b ma g = inr (refl, All-nil (λ (x : Piled). x.0 ≢ c))
  claimed_at k c m (p ∷ ps) [] b ma g = absurd ma
  claimed_at k c m (p ∷ ps) (h ∷ hs) b ma g =
      let es = drop (length h.taken.log) (p.1.log ++ more p.0) in
      let rest = gained (pile_grown more ps) hs in
      let split = own-append n k c (claims_of p.0 es) rest in
      let one : es ≡ more p.0 = claimed_one p ps h hs ma.1 g in
      let e = ma.0 in
      ⊎_elim
      (λ q. inl (
      split
      ∙ ap (λ (l : List LogEntry). own n k c (claims_of p.0 es) ++ l) (claimed_past k c h.class ps hs (omega (arith, q, e)) b.1 ma.2)
      ∙ append-nil (own n k c (claims_of p.0 es))
      ∙ ap (λ (d : ℕ). own n k d (claims_of p.0 es)) (sym q) ∙ own_same n k p.0 es ∙ ap (entries_of_part n k) one ∙ ap (λ (d : ℕ). entries_of_part n k (more d)) q))
      (λ ne.
      let gone = split ∙ ap (λ (l : List LogEntry). l ++ own n k c rest) (own_other n k p.0 c es (λ q. ne (sym q))) in
      ⊎_elim
      (λ here. inl (gone ∙ here))
      (λ there. inr (gone ∙ there.0, All-cons (λ (x : Piled). x.0 ≢ c) p ps ne there.1))
      (claimed_at k c h.class ps hs b.1 ma.2 (no_claims p.0 (drop (length h.taken.log) p.1.log) (gained ps hs) g).1))
      (cases_eq p.0 c)

-- the same of each claim
claims_right : (P : ℕ → LogEntry → Type 0) (more : ℕ → List LogEntry) (n : ℕ) (parts : List ℕ) (ps : List Piled) (hs : List Held) → Matches n parts ps hs
    → gained ps hs ≡ []
    → ((c : ℕ) → All (P c) (more c)) → All (λ (q : Claim). P q.class q.entry) (gained (pile_grown more ps) hs)
claims_right P more n parts [] hs ma g a = All-nil (λ (q : Claim). P q.class q.entry)
claims_right P more n parts (p ∷ ps) [] ma g a = absurd ma
claims_right P more n parts (p ∷ ps) (h ∷ hs) ma g a =
    let one = claimed_one n parts more p ps h hs ma.1 g in
    All-append (λ (q : Claim). P q.class q.entry) (claims_of p.0 (drop (length h.taken.log) (p.1.log ++ more p.0))) (gained (pile_grown more ps) hs)
    (as_claims p.0 (drop (length h.taken.log) (p.1.log ++ more p.0)) (subst (All (P p.0)) (sym one) (a p.0)))
    (claims_right P more n parts ps hs ma.2 (no_claims p.0 (drop (length h.taken.log) p.1.log) (gained ps hs) g).1 a)
  where
    as_claims : (c : ℕ) (es : List LogEntry) → All (P c) es → All (λ (q : Claim). P q.class q.entry) (claims_of c es)
    as_claims c [] x = All-nil (λ (q : Claim). P q.class q.entry)
    as_claims c (e ∷ es) x =
        All-cons (λ (q : Claim). P q.class q.entry) (record { class = c; entry = e }) (claims_of c es) (All-head (P c) e es x)
        (as_claims c es (All-tail (P c) e es x))

-- THROUGH A TAKE AND A PUT OF ALL CLASSES

-- a property of each of a list that is turned
turned_all : (P : Piled → Type 0) (xs : List Piled) → All P (reverse xs) → All P xs
turned_all P xs h = subst (All P) (reverse-reverse xs) (turn (reverse xs) h)
  where
    turn : (ys : List Piled) → All P ys → All P (reverse ys)
    turn [] a = All-nil P
    turn (y ∷ ys) a = subst (All P) (sym (reverse-append (y ∷ []) ys))
        (All-append P (reverse ys) (y ∷ []) (turn ys (All-tail P y ys a)) (All-cons P y [] (All-head P y ys a) (All-nil P)))

module _ (v u w : View) (classes : List ℕ) (pile pile' : List Piled) (more : ℕ → List LogEntry) (t : HasTaken classes v u pile)
    (e : pile' ≡ pile_grown more pile) (put : HasPut u w pile') where
  -- where the classes were taken and put, the seat is of the same round
  pub same_round : SameRound v w
  same_round = record { seats = put.seats ∙ t.looked.seats; starts = put.starts ∙ t.looked.starts; parts = put.parts ∙ t.looked.parts }

  came : w.claims ≡ v.claims ++ gained (pile_grown more (reverse pile)) u.held
  came = put.claims ∙ ap (λ (l : List Claim). l ++ gained (reverse pile') u.held) t.looked.claims
      ∙ ap (λ (l : List Piled). v.claims ++ gained l u.held) (ap reverse e ∙ turned more pile)

  -- each own list has the part of what the cell of its class has more
  pub own_grew : ((c : ℕ) → ((i : ℕ) (x : Piled) → slice_get pile i ≡ Some x → x.0 ≢ c) → more c ≡ []) → (k c : ℕ)
      → own w.seats k c w.claims ≡ own v.seats k c v.claims ++ entries_of_part v.seats k (more c)
  own_grew none k c =
      let n = u.seats in
      let seats : u.seats ≡ v.seats = t.looked.seats in
      let at : own n k c (gained (pile_grown more (reverse pile)) u.held) ≡ entries_of_part n k (more c) = ⊎_elim
      (λ here. here)
      (λ there. there.0 ∙ sym (ap (entries_of_part n k) (none c (λ i x g. got_all (λ (y : Piled). y.0 ≢ c) pile i x (turned_all (λ (y : Piled). y.0 ≢ c) pile there.1) g))))
      (claimed_at n u.parts more k c (length u.starts) (reverse pile) u.held t.pile.descend t.pile.matches t.as_taken) in
      ap (λ (m : ℕ). own m k c w.claims) (put.seats ∙ seats) ∙ ap (own v.seats k c) came
      ∙ own-append v.seats k c v.claims (gained (pile_grown more (reverse pile)) u.held)
      ∙ ap (λ (l : List LogEntry). own v.seats k c v.claims ++ l)
      (subst (λ (m : ℕ). own m k c (gained (pile_grown more (reverse pile)) u.held) ≡ entries_of_part m k (more c)) seats at)

  -- what holds of the entries, and of the claims before, holds of all claims
  pub claims_all : (P : ℕ → LogEntry → Type 0) → ((c : ℕ) → All (P c) (more c)) → All (λ (q : Claim). P q.class q.entry) v.claims
      → All (λ (q : Claim). P q.class q.entry) w.claims
  claims_all P a h = subst (All (λ (q : Claim). P q.class q.entry)) (sym came)
      (All-append (λ (q : Claim). P q.class q.entry) v.claims (gained (pile_grown more (reverse pile)) u.held) h
      (claims_right P more u.seats u.parts (reverse pile) u.held t.pile.matches t.as_taken a))

  -- the claims are right where the entries are
  pub claims_grew : (p : PlanForm) → ((c : ℕ) → All (IsEntryOf p c) (more c)) → AreClaims p v.claims → AreClaims p w.claims
  claims_grew p a h = claims_all (IsEntryOf p) a h

-- the part of an operator's entries that is its own
pub part_own : (n o : ℕ) (es : List LogEntry) → All (λ e. e.op ≡ o) es → entries_of_part n (o % n) es ≡ es
part_own n o [] h = refl
part_own n o (e ∷ es) h =
    ap (λ (b : Bool). cond b (e ∷ entries_of_part n (o % n) es) (entries_of_part n (o % n) es))
    (eq-eqb (e.op % n) (o % n) (ap (λ (k : ℕ). k % n) (All-head (λ (x : LogEntry). x.op ≡ o) e es h)))
    ∙ ap (λ (l : List LogEntry). e ∷ l) (part_own n o es (All-tail (λ (x : LogEntry). x.op ≡ o) e es h))

-- the part of some entries has only what they have
pub part_within : (P : LogEntry → Type 0) (n k : ℕ) (es : List LogEntry) → All P es → All P (entries_of_part n k es)
part_within P n k [] h = All-nil P
part_within P n k (e ∷ es) h = by ((e.op % n) == k) (part_within P n k es (All-tail P e es h))
  where
    by : (b : Bool) → All P (entries_of_part n k es) → All P (cond b (e ∷ entries_of_part n k es) (entries_of_part n k es))
    by true a = All-cons P e (entries_of_part n k es) (All-head P e es h) a
    by false a = a
