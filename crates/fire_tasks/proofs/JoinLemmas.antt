-- The end of a round: what the cells' logs tell of an operator is what its seat knew.
use Rattle.std.proofs.Common.{◌≡◌, ◌≢◌, ℕ, zero, suc, ◌%◌, ◌==◌, ◌&&◌, ◌<◌, Bool, cond, true, false, List, [], ◌∷◌, ◌++◌, refl, sym, ap, ◌∙◌, subst, ⊎_elim, eq-eqb, ne_eqb}
use Rattle.std.specs.Prelude.{All, filter}
use Rattle.std.proofs.lemmas.Bool.{cases_eq}
use Rattle.std.proofs.lemmas.Grind.{flat_map-append}
use Rattle.std.proofs.lemmas.List.Elements.{All-nil, All-cons, All-append, All-head, All-tail, filter-append}
use Rattle.std.proofs.lemmas.Nat.{mod_below}
use mathlib.Core.Option.{some, some-injective}
use lib.ListN.{get_elem?}
use Rattle.river_plan.specs.Forms.{PlanForm}
use Rattle.class_locks.specs.declared.log.LogEntry.{LogEntry}
use Rattle.class_locks.specs.declared.view.Claim.{Claim}
use Rattle.class_locks.specs.declared.view.View.{View}
use Rattle.class_locks.specs.Logs.{Holding, entries_of_part, part_of_op, rows_of_entry, rows_to}
use Rattle.class_locks.specs.Seats.{HasAll, LogsHaveGrown}
use Rattle.class_locks.specs.Views.{StandsIn, entries_of, is_claim_of, own}
use Rattle.fire_tasks.specs.Adds.{AreClaims, AreEntries, IsEntryOf, added, logs_at, logs_of, rows_by, table_at, table_class}

-- an entry of another operator, whether it is in a part or not
skipped : (o : ℕ) (e : LogEntry) (b : Bool) (r : List LogEntry) → e.op ≢ o → part_of_op o (cond b (e ∷ r) r) ≡ part_of_op o r
skipped o e true r ne = ap (λ (b : Bool). cond b (e ∷ part_of_op o r) (part_of_op o r)) (ne_eqb e.op o ne)
skipped o e false r ne = refl

-- the entries of an operator are all in its part
pub part_of_part : (n o : ℕ) (es : List LogEntry) → part_of_op o (entries_of_part n (o % n) es) ≡ part_of_op o es
part_of_part n o [] = refl
part_of_part n o (e ∷ es) =
    let rest = entries_of_part n (o % n) es in
    ⊎_elim
    (λ q.
    ap (λ (b : Bool). part_of_op o (cond b (e ∷ rest) rest)) (eq-eqb (e.op % n) (o % n) (ap (λ (k : ℕ). k % n) q))
    ∙ ap (λ (b : Bool). cond b (e ∷ part_of_op o rest) (part_of_op o rest)) (eq-eqb e.op o q)
    ∙ ap (λ (l : List LogEntry). e ∷ l) (part_of_part n o es)
    ∙ sym (ap (λ (b : Bool). cond b (e ∷ part_of_op o es) (part_of_op o es)) (eq-eqb e.op o q)))
    (λ ne.
    skipped o e ((e.op % n) == (o % n)) rest ne ∙ part_of_part n o es
    ∙ sym (ap (λ (b : Bool). cond b (e ∷ part_of_op o es) (part_of_op o es)) (ne_eqb e.op o ne)))
    (cases_eq e.op o)

-- the log of a class is that of its cell
pub log_is : (cells : List Holding) (c : ℕ) (x : Holding) → get_elem? cells c ≡ some x → logs_of cells c ≡ x.log
log_is [] c x g = absurd (cc g)
log_is (y ∷ ys) zero x g = ap (λ (z : Holding). z.log) (some-injective y x g)
log_is (y ∷ ys) (suc c) x g = log_is ys c x g

-- the rows that an operator has in two logs are those of the one that they make
pub rows-append : (o table : ℕ) (xs ys : List LogEntry) → rows_by o table (xs ++ ys) ≡ rows_by o table xs ++ rows_by o table ys
rows-append o table xs ys = ap (rows_to table) (filter-append (λ e. e.op == o) xs ys) ∙ flat_map-append (rows_of_entry table) (part_of_op o xs) (part_of_op o ys)

-- Let v be what the seat of operator o knew, and w what the seat that closed the round knows: it has o's part, and of this part claims
-- what v does. Then the cells' logs have of o, at a table whose class is there, what v knew.
pub joined_adds : (p : PlanForm) (v w : View) (cells : List Holding) (o j : ℕ) → LogsHaveGrown w cells → w.seats ≡ v.seats → w.starts ≡ v.starts
    → StandsIn (o % v.seats) w.parts
    → ((c : ℕ) → own v.seats (o % v.seats) c w.claims ≡ own v.seats (o % v.seats) c v.claims)
    → (x : Holding) → get_elem? cells (table_class p (table_at p o j)) ≡ some x → added p (logs_of cells) o j ≡ added p (logs_at v o) o j
joined_adds p v w cells o j grown seats starts has claims x g =
    let t = table_at p o j in
    let c = table_class p t in
    let n = v.seats in
    let l = grown.each c x g in
    let owns : entries_of_part n (o % n) l.growth ≡ own n (o % n) c v.claims =
    subst (λ (m : ℕ). entries_of_part m (o % n) l.growth ≡ own m (o % n) c w.claims) seats (l.owns 0 w refl (o % n) has) ∙ claims c in
    let start : logs_of v.starts c ≡ l.start.log = log_is v.starts c l.start (sym (ap (λ (s : List Holding). get_elem? s c) starts) ∙ l.given) in
    ap (rows_by o t) (log_is cells c x g ∙ l.log) ∙ rows-append o t l.start.log l.growth
    ∙ ap (λ (r : List LogEntry). rows_by o t r ++ rows_by o t l.growth) (sym start)
    ∙ ap (λ (r : List LogEntry). rows_by o t (logs_of v.starts c) ++ rows_to t r) (sym (part_of_part n o l.growth) ∙ ap (part_of_op o) owns)
    ∙ sym (rows-append o t (logs_of v.starts c) (own n (o % n) c v.claims))

-- ENTRIES

-- what holds of the entries of each part holds of all
all_parts : (P : LogEntry → Type 0) (n : ℕ) → 0 < n → (es : List LogEntry) → ((k : ℕ) → k < n → All P (entries_of_part n k es)) → All P es
all_parts P n lt [] h = All-nil P
all_parts P n lt (e ∷ es) h =
    let k = e.op % n in
    let here : All P (e ∷ entries_of_part n k es) =
    subst (All P) (ap (λ (b : Bool). cond b (e ∷ entries_of_part n k es) (entries_of_part n k es)) (eq-eqb k k refl)) (h k (mod_below e.op n lt)) in
    All-cons P e es (All-head P e (entries_of_part n k es) here) (all_parts P n lt es (λ m lm. rest ((e.op % n) == m) m (h m lm)))
  where
    rest : (b : Bool) (m : ℕ) → All P (cond b (e ∷ entries_of_part n m es) (entries_of_part n m es)) → All P (entries_of_part n m es)
    rest true m a = All-tail P e (entries_of_part n m es) a
    rest false m a = a

-- the claims of a class are of that class
own_right : (P : ℕ → LogEntry → Type 0) (n k c : ℕ) (qs : List Claim) → All (λ (q : Claim). P q.class q.entry) qs → All (P c) (own n k c qs)
own_right P n k c [] a = All-nil (P c)
own_right P n k c (q ∷ qs) a =
    let more = own_right P n k c qs (All-tail (λ (x : Claim). P x.class x.entry) q qs a) in
    let here = All-head (λ (x : Claim). P x.class x.entry) q qs a in
    let f = filter (is_claim_of n k c) qs in
    let t = (q.entry.op % n) == k in
    ⊎_elim
    (λ e. subst (λ (b : Bool). All (P c) (entries_of (cond (b && t) (q ∷ f) f))) (sym (eq-eqb q.class c e))
    (taken t (subst (λ (d : ℕ). P d q.entry) e here) more))
    (λ ne. subst (λ (b : Bool). All (P c) (entries_of (cond (b && t) (q ∷ f) f))) (sym (ne_eqb q.class c ne)) more)
    (cases_eq q.class c)
  where
    taken : (b : Bool) → P c q.entry → All (P c) (entries_of (filter (is_claim_of n k c) qs))
        → All (P c) (entries_of (cond b (q ∷ filter (is_claim_of n k c) qs) (filter (is_claim_of n k c) qs)))
    taken true x r = All-cons (P c) q.entry (entries_of (filter (is_claim_of n k c) qs)) x r
    taken false x r = r

-- what holds of the log of each cell
each_log : (P : ℕ → LogEntry → Type 0) (cells : List Holding) → ((c : ℕ) (x : Holding) → get_elem? cells c ≡ some x → All (P c) x.log) → (c : ℕ)
    → All (P c) (logs_of cells c)
each_log P [] h c = All-nil (P c)
each_log P (y ∷ ys) h zero = h 0 y refl
each_log P (y ∷ ys) h (suc c) = each_log (λ (k : ℕ). P (suc k)) ys (λ k x g. h (suc k) x g) c

-- at the end of a round, closed by a seat with every part, the logs have right entries where they had such at its beginning and the
-- claims are right
pub joined_entries : (p : PlanForm) (w : View) (cells : List Holding) → LogsHaveGrown w cells → 0 < w.seats → HasAll w → AreEntries p (logs_of w.starts)
    → AreClaims p w.claims
    → AreEntries p (logs_of cells)
joined_entries p w cells grown lt all starts claims = each_log (IsEntryOf p) cells (λ c x g.
    let l = grown.each c x g in
    subst (All (IsEntryOf p c)) (sym l.log)
    (All-append (IsEntryOf p c) l.start.log l.growth
    (subst (All (IsEntryOf p c)) (log_is w.starts c l.start l.given) (starts c))
    (all_parts (IsEntryOf p c) w.seats lt l.growth (λ k lk.
    subst (All (IsEntryOf p c)) (sym (l.owns 0 w refl k (all k lk))) (own_right (IsEntryOf p) w.seats k c w.claims claims)))))
