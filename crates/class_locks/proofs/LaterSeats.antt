-- A seat that comes to an open table has no part, and changes nothing.
use Rattle.std.proofs.Common.{◌≡◌, ℕ, ◌<◌, List, [], ◌∷◌, ◌++◌, length, get_or, set, sym, refl, ◌∙◌, subst, ⊎_elim, arith}
use mathlib.Core.Option.{some}
use lib.ListN.{get_elem?}
use Rattle.class_locks.specs.declared.view.View.{View}
use Rattle.class_locks.specs.Logs.{Holding}
use Rattle.class_locks.specs.Views.{fresh_view, late_one}
use Rattle.class_locks.specs.Rule.{Locks, Logged, ClassOk, SeatOk, IsOpen}
use Rattle.class_locks.proofs.Lists.{at_end}
use Rattle.class_locks.proofs.Moves.{logged_end}
use Rattle.class_locks.proofs.Takes.{no_grip}
use Rattle.class_locks.proofs.Swapped.{word_same, longer}

module _ (n : ℕ) (starts : List Holding) (s : Locks) (o : IsOpen n starts s) where
  -- its view
  abbrev w : View
  w = late_one (fresh_view n starts)

  -- the table with this seat
  abbrev s' : Locks
  s' = record { words = set s.words 0 1; homes = s.homes; views = s.views ++ w ∷ [] }

  -- it has claimed nothing
  logs : (d : ℕ) (x : Holding) → Logged n starts s.views d x → Logged n starts (s.views ++ w ∷ []) d x
  logs d x l = logged_end n starts s.views w d x l (λ k h. absurd h)

  -- the classes are as they were
  classes : (c : ℕ) → c < length starts → ClassOk n starts s' o.owner o.holder c
  classes c lt = let q = o.classes c lt in record {
    small = subst (λ m. m < 2) (sym (word_same s.words c)) q.small;
    free = λ z. let f = q.free (sym (word_same s.words c) ∙ z) in (f.0, f.1, logs c f.0 f.2);
    taken = λ z. longer s.views w (o.holder c) (let r = q.taken (sym (word_same s.words c) ∙ z) in omega arith);
  }

  -- and so are the seats that were there
  old : (j : ℕ) (u : View) → get_elem? s.views j ≡ some u → SeatOk n starts s' o.owner o.holder j u
  old j u e = let q = o.seats j u e in record {
    same = q.same;
    parts_in = q.parts_in;
    parts_all = q.parts_all;
    grips = λ g d x r. let y =
        q.grips g d x r in (record { there = y.0.there; word = word_same s.words d ∙ y.0.word; mine = y.0.mine; logged = logs d x y.0.logged }, y.1);
    holds = λ d dl z m. q.holds d dl (sym (word_same s.words d) ∙ z) m;
    claimed = q.claimed;
    idle = q.idle;
  }

  -- the new seat has no part
  new : (j : ℕ) → j ≡ length s.views → SeatOk n starts s' o.owner o.holder j w
  new j e = record {
    same = λ k h. absurd h;
    parts_in = λ k h. absurd h;
    parts_all = λ k kn q. absurd (let r = o.owners k kn in omega arith);
    grips = λ g c x r. absurd (no_grip g c x w refl refl r);
    holds = λ c cl z m. absurd (let r = (o.classes c cl).taken (sym (word_same s.words c) ∙ z) in omega arith);
    claimed = tt;
    idle = λ _. (refl, refl);
  }

  -- so all seats keep the rule
  seats : (j : ℕ) (u : View) → get_elem? (s.views ++ w ∷ []) j ≡ some u → SeatOk n starts s' o.owner o.holder j u
  seats j u e = ⊎_elim (old j u) (λ t. subst (SeatOk n starts s' o.owner o.holder j) t.1 (new j t.0)) (at_end s.views w u j e)

  -- the table is open as before
  pub later_opens : get_or (set s.words 0 1) 0 0 ≡ 1 → IsOpen n starts s'
  later_opens open_word = record {
    owner = o.owner;
    holder = o.holder;
    open_word = open_word;
    classes = classes;
    owners = λ k kn. longer s.views w (o.owner k) (let q = o.owners k kn in omega arith);
    seats = seats;
  }
