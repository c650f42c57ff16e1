-- The first seat opens the table: it has all parts, and is the holder of all classes.
use Rattle.std.proofs.Common.{◌≡◌, ℕ, ◌<◌, Bool, true, false, List, [], ◌∷◌, ◌++◌, length, get_or, set, sym, refl, ap, ◌∙◌, subst, ⊎_elim, append-nil, zero-add, arith}
use mathlib.Core.Option.{some}
use lib.ListN.{get_elem?}
use Rattle.class_locks.specs.declared.view.View.{View}
use Rattle.class_locks.specs.Logs.{Holding}
use Rattle.class_locks.specs.Views.{StandsIn, TookAt, own, held_at_classes, fresh_view, opener}
use Rattle.class_locks.specs.Rule.{Locks, Grip, lies, Logged, ClassOk, Holds, SeatOk, IsOpen, IsShut}
use Rattle.class_locks.proofs.Lists.{at_within, at_end, at_some, counted, counted_within, held_there, there_held}
use Rattle.class_locks.proofs.Takes.{no_grip}
use Rattle.class_locks.proofs.Swapped.{word_same, longer}

module _ (n : ℕ) (starts : List Holding) (some_seat : 0 < n) (s : Locks) (shut : IsShut n starts s) where
  -- the number of the seat, and its view
  abbrev len : ℕ
  len = length s.views

  abbrev w : View
  w = opener (fresh_view n starts)

  -- the table with this seat
  abbrev s' : Locks
  s' = record { words = set s.words 0 1; homes = s.homes; views = s.views ++ w ∷ [] }

  -- each class is taken, and the first seat is its holder
  classes : (c : ℕ) → c < length starts → ClassOk n starts s' (λ _. len) (λ _. len) c
  classes c lt = let one = word_same s.words c ∙ (shut.classes c lt).0 in record {
    small = omega arith;
    free = λ z. absurd (omega arith);
    taken = λ z. longer s.views w len (omega arith);
  }

  -- no seat has claimed anything yet
  started : (c : ℕ) (x : Holding) → get_elem? starts c ≡ some x → Logged n starts (s.views ++ w ∷ []) c x
  started c x g = record {
    start = x;
    growth = [];
    given = g;
    kinds = refl;
    log = sym (append-nil x.log);
    owns = λ i u e k h. ⊎_elim
        (λ t. absurd (subst (λ (z : View). StandsIn k z.parts) (shut.seats i u t) h))
        (λ t. ap (λ (z : View). own n k c z.claims) t.1)
        (at_end s.views w u i e);
  }

  -- the seats that were there have no part
  old : (j : ℕ) (u : View) → j < len → u ≡ fresh_view n starts → SeatOk n starts s' (λ _. len) (λ _. len) j u
  old j u lt e = subst (SeatOk n starts s' (λ _. len) (λ _. len) j) (sym e) (record {
    same = λ k h. absurd h;
    parts_in = λ k h. absurd h;
    parts_all = λ k kn q. absurd (omega arith);
    grips = λ g c x r. absurd (no_grip g c x (fresh_view n starts) refl refl r);
    holds = λ c cl z q. absurd (omega arith);
    claimed = tt;
    idle = λ _. (refl, refl);
  })

  -- what it has a grip of is empty at home
  grips : (g : Bool) (c : ℕ) (x : Holding) → Grip g c x w → Holds n starts s' (λ _. len) (λ _. len) len c x × (get_elem? s.homes c ≡ some (lies g))
  grips true c x r = absurd r
  grips false c x r =
      let h = held_there 0 starts c x r in
      let e : c ≡ h.0 = (let q = h.1 in omega arith) in
      let given : get_elem? starts c ≡ some x = ap (get_elem? starts) e ∙ h.2 in
      let lt = at_within starts c x given in
      (record { there = lt; word = word_same s.words c ∙ (shut.classes c lt).0; mine = refl; logged = started c x given }, (shut.classes c lt).1)

  -- the first seat has all parts
  new : SeatOk n starts s' (λ _. len) (λ _. len) len w
  new = record {
    same = λ k h. (refl, refl);
    parts_in = λ k h. ((let t = counted_within 0 n k h in omega arith), refl);
    parts_all = λ k kn q. counted 0 n k (omega arith) (omega arith);
    grips = grips;
    holds = λ c cl z q. let x =
        at_some starts c cl in (false, x.0, subst (λ m. TookAt m x.0 (held_at_classes 0 starts)) (zero-add c) (there_held 0 starts c x.0 x.1));
    claimed = tt;
    idle = λ e. absurd (subst (StandsIn 0) e (counted 0 n 0 (omega arith) (omega (arith, some_seat))));
  }

  -- so all seats keep the rule
  seats : (j : ℕ) (u : View) → get_elem? (s.views ++ w ∷ []) j ≡ some u → SeatOk n starts s' (λ _. len) (λ _. len) j u
  seats j u e = ⊎_elim
      (λ t. old j u (at_within s.views j u t) (shut.seats j u t))
      (λ t. subst (SeatOk n starts s' (λ _. len) (λ _. len) j) t.1 (subst (λ m. SeatOk n starts s' (λ _. len) (λ _. len) m w) (sym t.0) new))
      (at_end s.views w u j e)

  -- the table is open
  pub first_opens : get_or (set s.words 0 1) 0 0 ≡ 1 → IsOpen n starts s'
  first_opens open_word = record {
    owner = λ _. len;
    holder = λ _. len;
    open_word = open_word;
    classes = classes;
    owners = λ k kn. longer s.views w len (omega arith);
    seats = seats;
  }
