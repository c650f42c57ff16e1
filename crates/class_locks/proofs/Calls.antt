-- What the calls of the table ask of a place, and where they leave it.
use Rattle.std.proofs.Common.{◌≡◌, ◌≢◌, ℕ, suc, ◌+◌, ◌<◌, List, [], ◌∷◌, ◌++◌, length, drop, sym, refl, ap, ◌∙◌, subst, ⊎_elim, arith, eqb, Option, Some, None, unwrap_or}
use mathlib.Core.Option.{none}
use prog.Atomic.{either}
use Rattle.atomic_table.specs.Table.{rest, step, Allows, Joins}
use Rattle.atomic_table.specs.Seated.{TableId}
use Rattle.atomic_table.specs.declared.shared.Seat.{Seat}
use Rattle.class_locks.specs.declared.view.View.{View}
use Rattle.class_locks.specs.declared.view.About.{About}
use Rattle.class_locks.specs.declared.view.Held.{Held}
use Rattle.class_locks.specs.Logs.{Holding}
use Rattle.class_locks.specs.Views.{StandsIn, TookAt, find_held, without_class, Belong, taking, tried, fetched, after_put, both_views, spent, claims_of, log_length}
use Rattle.class_locks.specs.Rule.{Locks, Mine, IsKept, IsLogged, took, took_by, parks, fetches, frees, beyond}
use Rattle.class_locks.specs.Seats.{IsSeated, MayPut}
use Rattle.class_locks.proofs.Lists.{find_took, has_left}
use Rattle.class_locks.proofs.Takes.{takes_ok, parks_ok, fetches_ok, frees_ok}
use Rattle.class_locks.proofs.Joins.{joins_ok}

-- a place at the table of the locks
abbrev pub Place : Type 0
Place = Seat (Option Holding) View

-- a list that has a first element is that and the rest
pub front : (l r : List (ℕ × Option Holding)) (a : ℕ × Option Holding) → l ≡ a ∷ r → l ≡ a ∷ rest l
front l r a e = e ∙ (λ i. a ∷ rest (sym e i))

-- the word was 0: the class was taken
pub took_it : (c found : ℕ) (m m' : Mine) → took_by c m found m' → found ≡ 0 → (x : Holding) × (m' ≡ (taking c x m.0, (c, Some x) ∷ m.1)) × IsLogged m.0 c x
took_it c found m m' t z = ⊎_elim (λ h. h.1) (λ h. absurd (let e = h.0 in omega arith)) t

-- the word was not 0: nothing happened but the try
pub missed : (c found : ℕ) (m m' : Mine) → took_by c m found m' → found ≢ 0 → m' ≡ (tried c 1 m.0, m.1)
missed c found m m' t ne = ⊎_elim (λ h. absurd (ne h.0)) (λ h. h.1 ∙ ap (λ n. (tried c n m.0, m.1)) h.0) t

module _ (z : TableId) (about : About) where
  abbrev Rule : Locks → Type 0
  Rule = IsKept about.seats about.cells.value

  -- a place that sits as before
  pub resits : (p p' : Place) (w : View) → IsSeated z about p → p'.table_id ≡ p.table_id → p'.me ≡ (w, []) → w.parts ≡ p.me.0.parts → w.seats ≡ p.me.0.seats
      → w.starts ≡ p.me.0.starts → w.hand ≡ []
      → ((c : ℕ) (x : Holding) → TookAt c x w.held → c < length about.cells.value) → IsSeated z about p'
  resits p p' w h table me parts seats starts hand within = record {
    table = table ∙ h.table;
    wide = h.wide;
    deep = h.deep;
    seats = ap (λ (m : Mine). m.0.seats) me ∙ (seats ∙ h.seats);
    starts = ap (λ (m : Mine). m.0.starts) me ∙ (starts ∙ h.starts);
    one = h.one;
    has = subst (λ (m : Mine). StandsIn h.one m.0.parts) (sym me) (subst (StandsIn h.one) (sym parts) h.has);
    hand = ap (λ (m : Mine). m.0.hand) me ∙ hand;
    empty = ap (λ (m : Mine). m.1) me;
    few = h.few;
    within = subst (λ (m : Mine). (c : ℕ) (x : Holding) → TookAt c x m.0.held → c < length about.cells.value) (sym me) within;
  }

  inside : (p : Place) (c : ℕ) → IsSeated z about p → c < length about.cells.value → c + 1 < z.words
  inside p c h lt = subst (λ n. c + 1 < n) (sym h.wide) (omega arith)

  -- what a take asks of the table
  pub take_asks : (p : Place) (c : ℕ) → IsSeated z about p → c < length p.me.0.starts
      → (p.table_id ≡ z) × (c + 1 < z.words) × Allows Rule z.slots p.id p.me (c + 1) (λ w. either (eqb w 0) 1 w) (took (step z.slots (c + 1) 0 1 none) p.me)
  take_asks p c h lt =
      let lt' : c < length about.cells.value = subst (λ (s : List Holding). c < length s) h.starts lt in
      let ok = takes_ok about.seats about.cells.value z.slots p.id c p.me.0 h.one h.has h.hand lt' in
      let word : suc c ≡ c + 1 = omega arith in (
        h.table,
        inside p c h lt',
        subst (λ k. Allows Rule z.slots p.id p.me k (λ w. either (eqb w 0) 1 w) (took (step z.slots k 0 1 none) p.me)) word
            (subst (λ (m : List (ℕ × Option Holding)). Allows Rule z.slots p.id (p.me.0, m) (suc c) (λ w. either (eqb w 0) 1 w)
            (took (step z.slots (suc c) 0 1 none) (p.me.0, m))) (sym h.empty) ok),
      )

  -- what parking the empty slot asks of the table
  pub park_asks : (p p' : Place) (c : ℕ) (v : View) (x : Holding) → IsSeated z about p → c < length p.me.0.starts → p'.table_id ≡ z
      → p'.me ≡ (v, (c, None) ∷ []) → v.parts ≡ p.me.0.parts → v.hand ≡ record { class = c; taken = x } ∷ []
      → (p'.table_id ≡ z) × (c + 1 < z.words) × Allows Rule z.slots p'.id p'.me (c + 1) (λ w. w) (parks (step z.slots (c + 1) 0 0 none) p'.me)
  park_asks p p' c v x h lt table me parts hand =
      let lt' : c < length about.cells.value = subst (λ (s : List Holding). c < length s) h.starts lt in
      let ok = parks_ok about.seats about.cells.value z.slots p'.id c v x h.one (subst (StandsIn h.one) (sym parts) h.has) hand in
      let word : suc c ≡ c + 1 = omega arith in (
        table,
        inside p c h lt',
        subst (λ k. Allows Rule z.slots p'.id p'.me k (λ w. w) (parks (step z.slots k 0 0 none) p'.me)) word
            (subst (λ (m : Mine). Allows Rule z.slots p'.id m (suc c) (λ w. w) (parks (step z.slots (suc c) 0 0 none) m)) (sym me) ok),
      )

  -- what fetching it again asks of the table
  pub fetch_asks : (p : Place) (c : ℕ) (x : Holding) → IsSeated z about p → find_held c p.me.0.held ≡ Some x
      → (p.table_id ≡ z) × (c + 1 < z.words) × Allows Rule z.slots p.id p.me (c + 1) (λ w. w) (fetches (step z.slots (c + 1) 0 0 none) p.me)
  fetch_asks p c x h found =
      let ok = fetches_ok about.seats about.cells.value z.slots p.id c p.me.0 x h.one h.has h.hand found in
      let word : suc c ≡ c + 1 = omega arith in (
        h.table,
        inside p c h (h.within c x (find_took c p.me.0.held x found)),
        subst (λ k. Allows Rule z.slots p.id p.me k (λ w. w) (fetches (step z.slots k 0 0 none) p.me)) word
            (subst (λ (m : List (ℕ × Option Holding)). Allows Rule z.slots p.id (p.me.0, m) (suc c) (λ w. w)
            (fetches (step z.slots (suc c) 0 0 none) (p.me.0, m))) (sym h.empty) ok),
      )

  -- what freeing a class asks of the table
  pub free_asks : (p p' : Place) (c : ℕ) (x y : Holding) → IsSeated z about p → p'.table_id ≡ z → p'.me ≡ (fetched c x p.me.0, (c, Some y) ∷ [])
      → find_held c p.me.0.held ≡ Some x → MayPut c y p.me.0
      → (p'.table_id ≡ z) × (c + 1 < z.words) × Allows Rule z.slots p'.id p'.me (c + 1) (λ _. 0) (λ _. frees (step z.slots (c + 1) 0 0 none) p'.me 0)
  free_asks p p' c x y h table me found may =
      let same : may.taken ≡ x = ap (λ o. unwrap_or o x) (sym may.held ∙ found) in
      let ok = frees_ok about.seats about.cells.value z.slots p'.id c (fetched c x p.me.0) x y may.more h.one h.has refl
      (may.kinds ∙ ap (λ (t : Holding). t.kinds) same) (may.log ∙ ap (λ (t : Holding). t.log ++ may.more) same)
      (subst (λ n. Belong n p.me.0.parts may.more) h.seats may.belong) in
      let word : suc c ≡ c + 1 = omega arith in (
        table,
        inside p c h (h.within c x (find_took c p.me.0.held x found)),
        subst (λ k. Allows Rule z.slots p'.id p'.me k (λ _. 0) (λ _. frees (step z.slots k 0 0 none) p'.me 0)) word
            (subst (λ (m : Mine). Allows Rule z.slots p'.id m (suc c) (λ _. 0) (λ _. frees (step z.slots (suc c) 0 0 none) m 0)) (sym me) ok),
      )

  -- what joining two seats asks of the table
  pub join_asks : (p q : Place) → IsSeated z about p → q.table_id ≡ z → q.me.0.hand ≡ [] → q.me.0.held ≡ [] → q.me.1 ≡ []
      → (p.table_id ≡ z) × (q.table_id ≡ z) × (q.me.1 ≡ []) × (0 < z.words) × Joins Rule p.id p.me.0 q.id q.me.0 (both_views p.me.0 q.me.0) spent
  join_asks p q h table hand held empty = (
    h.table,
    table,
    empty,
    subst (λ n. 0 < n) (sym h.wide) (omega arith),
    joins_ok about.seats about.cells.value p.id p.me.0 q.id q.me.0 h.one h.has hand held,
  )

  -- after a seat that takes over another's parts
  pub rejoined : (p p' : Place) (w : View) → IsSeated z about p → p'.table_id ≡ p.table_id → p'.me ≡ (both_views p.me.0 w, p.me.1) → IsSeated z about p'
  rejoined p p' w h table me = record {
    table = table ∙ h.table;
    wide = h.wide;
    deep = h.deep;
    seats = ap (λ (m : Mine). m.0.seats) me ∙ h.seats;
    starts = ap (λ (m : Mine). m.0.starts) me ∙ h.starts;
    one = h.one;
    has = subst (λ (m : Mine). StandsIn h.one m.0.parts) (sym me) (has_left h.one p.me.0.parts w.parts h.has);
    hand = ap (λ (m : Mine). m.0.hand) me ∙ h.hand;
    empty = ap (λ (m : Mine). m.1) me ∙ h.empty;
    few = h.few;
    within = subst (λ (m : Mine). (c : ℕ) (x : Holding) → TookAt c x m.0.held → c < length about.cells.value) (sym me) h.within;
  }

-- what a put leaves
pub put_view : (c : ℕ) (x y : Holding) (v : View) → find_held c v.held ≡ Some x
    → record (fetched c x v) { hand = []; claims = v.claims ++ beyond (record { class = c; taken = x } ∷ []) ((c, Some y) ∷ []) } ≡ after_put c y v
put_view c x y v found = λ i. record v { hand = []; held = without_class c v.held; claims = v.claims ++ claims_of c (drop (log_length (sym found i)) y.log) }

-- the value of the slot in hand is exchanged
pub exchanged_me : (k : ℕ) (w : View) (a b : Option Holding) (m m' : Mine) (l : List (ℕ × Option Holding)) → m ≡ (w, (k, a) ∷ l) → l ≡ []
    → m' ≡ (m.0, (k, b) ∷ rest m.1) → m' ≡ (w, (k, b) ∷ [])
exchanged_me k w a b m m' l e nil x = x ∙ (ap (λ (q : Mine). (q.0, (k, b) ∷ rest q.1)) e ∙ (λ i. (w, (k, b) ∷ nil i)))

-- and after the store
pub stored_me : (k : ℕ) (x y : Holding) (v : View) (m m' : Mine) → find_held k v.held ≡ Some x → m ≡ (fetched k x v, (k, Some y) ∷ [])
    → m' ≡ (record m.0 { hand = []; claims = m.0.claims ++ beyond m.0.hand m.1 }, []) → m' ≡ (after_put k y v, [])
stored_me k x y v m m' found e s = s
    ∙ (ap (λ (q : Mine). (record q.0 { hand = []; claims = q.0.claims ++ beyond q.0.hand q.1 }, [])) e ∙ ap (λ (w : View). (w, [])) (put_view k x y v found))

-- one class more is held, and all are below n
pub took_more : (k n : ℕ) (x : Holding) (hs : List Held) → k < n → ((c : ℕ) (y : Holding) → TookAt c y hs → c < n) → (c : ℕ) (y : Holding)
    → TookAt c y (record { class = k; taken = x } ∷ hs) → c < n
took_more k n x hs lt f c y t = ⊎_elim (λ h. subst (λ m. m < n) h.0 lt) (λ h. f c y h) t
