-- Several classes that a seat holds: what a put and a take make of them.
use Rattle.std.proofs.Common.{◌≡◌, ℕ, ◌<◌, ◌≤◌, Bool, cond, not, Some, List, [], ◌∷◌, ◌++◌, length, drop, reverse, sym, refl, ap, ◌∙◌, subst, append_assoc, eq-eqb}
use Rattle.std.proofs.Common.{ne_eqb, inl, inr, arith}
use Rattle.std.specs.Prelude.{slice_get}
use Rattle.std.proofs.lemmas.List.{append-nil, map-append, drop_all}
use Rattle.std.proofs.lemmas.List.Elements.{All-nil, All-cons, All-append}
use Rattle.river_base.proofs.Lists.{reverse-push, got_last}
use lib.ListN.{get_elem?}
use Rattle.class_locks.specs.declared.log.LogEntry.{LogEntry}
use Rattle.class_locks.specs.declared.view.View.{View}
use Rattle.class_locks.specs.declared.view.Held.{Held}
use Rattle.class_locks.specs.declared.view.Claim.{Claim}
use Rattle.class_locks.specs.declared.view.Tried.{Tried}
use Rattle.class_locks.specs.Logs.{Holding}
use Rattle.class_locks.specs.Logs.{entries_of_part}
use Rattle.class_locks.specs.Rule.{IsLogged}
use Rattle.class_locks.specs.Views.{StandsIn, own, TookAt, find_held, without_class, claims_of, log_length, with_class, tried, after_put}
use Rattle.class_locks.specs.Seats.{MayPut, IsAboveHeld}
use Rattle.class_locks.specs.Piles.{Piled, AllBelow, Matches, IsPile, gained, HasLooked, HasTaken, HasPut, HasMoreTries, FoundTaken}
use Rattle.class_locks.proofs.Lists.{at_one}

-- CLASSES THAT DESCEND

below_more : (m n : ℕ) (hs : List Held) → m ≤ n → AllBelow m hs → AllBelow n hs
below_more m n [] le b = tt
below_more m n (h ∷ hs) le b = ((let lt = b.0 in omega (arith, le, lt)), b.1)

find_here : (c : ℕ) (h : Held) (hs : List Held) → h.class ≡ c → find_held c (h ∷ hs) ≡ Some h.taken
find_here c h hs e = ap (λ (t : Bool). cond t (Some h.taken) (find_held c hs)) (eq-eqb h.class c e)

without_below : (c : ℕ) (hs : List Held) → AllBelow c hs → without_class c hs ≡ hs
without_below c [] b = refl
without_below c (h ∷ hs) b =
    ap (λ (t : Bool). cond (not t) (h ∷ without_class c hs) (without_class c hs)) (ne_eqb h.class c (λ e. let lt = b.0 in omega (arith, lt, e)))
    ∙ ap (λ (l : List Held). h ∷ l) (without_below c hs (below_more h.class c hs (let lt = b.0 in omega (arith, lt)) b.1))

without_here : (c : ℕ) (h : Held) (hs : List Held) → h.class ≡ c → AllBelow h.class hs → without_class c (h ∷ hs) ≡ hs
without_here c h hs e b =
    ap (λ (t : Bool). cond (not t) (h ∷ without_class c hs) (without_class c hs)) (eq-eqb h.class c e) ∙ without_below c hs (subst (λ k. AllBelow k hs) e b)

took_below : (m c : ℕ) (x : Holding) (hs : List Held) → AllBelow m hs → TookAt c x hs → c < m
took_below m c x [] b t = absurd t
took_below m c x (h ∷ hs) b (inl t) = (let lt = b.0 in let e = t.0 in omega (arith, lt, e))
took_below m c x (h ∷ hs) b (inr t) = (let lt = b.0 in let k = took_below h.class c x hs b.1 t in omega (arith, lt, k))

-- A PUT

-- what the put of the last cell asks, and what it leaves
pub record Puts (v : View) (items : List Piled) (c : ℕ) (x : Holding) (held : List Held) : Type 0 where
  pub may : MayPut c x v
  pub pile : IsPile (after_put c x v) items
  pub claims : (after_put c x v).claims ++ gained (reverse items) (after_put c x v).held ≡ v.claims ++ gained ((c, x) ∷ reverse items) held

puts_held : (v : View) (items : List Piled) (c : ℕ) (x : Holding) (held : List Held) → v.held ≡ held → Matches v.seats v.parts ((c, x) ∷ reverse items) held
    → AllBelow (length v.starts) held → Puts v items c x held
puts_held v items c x [] e m b = absurd m
puts_held v items c x (h ∷ hs) e m b =
    let found : find_held c v.held ≡ Some h.taken = ap (find_held c) e ∙ find_here c h hs m.0 in
    let left : without_class c v.held ≡ hs = ap (without_class c) e ∙ without_here c h hs m.0 b.1 in
    record {
      may = record { taken = h.taken; more = m.1.more; held = found; kinds = m.1.kinds; log = m.1.log; belong = m.1.belong };
      pile = record {
        matches = subst (λ (l : List Held). Matches v.seats v.parts (reverse items) l) (sym left) m.2;
        descend = subst (λ (l : List Held). AllBelow (length v.starts) l) (sym left)
            (below_more h.class (length v.starts) hs (let lt = b.0 in omega (arith, lt)) b.1);
      };
      claims =
          ap (λ (o : ℕ). (v.claims ++ claims_of c (drop o x.log)) ++ gained (reverse items) (without_class c v.held)) (ap log_length found)
          ∙ (ap (λ (l : List Held). (v.claims ++ claims_of c (drop (length h.taken.log) x.log)) ++ gained (reverse items) l) left
          ∙ append_assoc v.claims (claims_of c (drop (length h.taken.log) x.log)) (gained (reverse items) hs));
    }

-- the last cell of a pile may be put
pub puts : (v : View) (items all : List Piled) (c : ℕ) (x : Holding) → all ≡ items ++ (c, x) ∷ [] → IsPile v all → Puts v items c x v.held
puts v items all c x e p =
    puts_held v items c x v.held refl (subst (λ (l : List Piled). Matches v.seats v.parts l v.held) (ap reverse e ∙ reverse-push items (c, x)) p.matches) p.descend

-- what a pile gained, the last cell first
pub gained_turned : (items all : List Piled) (c : ℕ) (x : Holding) (hs : List Held) → all ≡ items ++ (c, x) ∷ []
    → gained (reverse all) hs ≡ gained ((c, x) ∷ reverse items) hs
gained_turned items all c x hs e = ap (λ (l : List Piled). gained l hs) (ap reverse e ∙ reverse-push items (c, x))

-- an empty pile holds nothing
pub rests_held : (v : View) (held : List Held) → v.held ≡ held → Matches v.seats v.parts (reverse []) held → v.held ≡ []
rests_held v [] e m = e
rests_held v (h ∷ hs) e m = absurd m

-- A TAKE

-- all classes that are held are below this one
pub above_pile : (v : View) (m : ℕ) → AllBelow m v.held → IsAboveHeld m v
above_pile v m b c x t = took_below m c x v.held b t

pub logged_before : (v w : View) (c : ℕ) (x : Holding) → HasLooked v w → IsLogged w c x → IsLogged v c x
logged_before v w c x same l = record {
  start = l.start;
  growth = l.growth;
  given = ap (λ (s : List Holding). get_elem? s c) (sym same.starts) ∙ l.given;
  kinds = l.kinds;
  log = l.log;
  owns = λ j u e k h.
      let at = at_one v u j e in
      let there = subst (λ (ps : List ℕ). StandsIn k ps) (sym same.parts) (subst (λ (y : View). StandsIn k y.parts) (sym at.1) h) in
      let own_w = l.owns 0 w refl k there in
      ap (λ n. entries_of_part n k l.growth) (sym same.seats)
      ∙ (own_w ∙ (ap (λ (n : ℕ). own n k c w.claims) same.seats
      ∙ (ap (λ (q : List Claim). own v.seats k c q) same.claims ∙ ap (λ (y : View). own v.seats k c y.claims) at.1)));
}

-- nothing was taken
pub none_taken : (v : View) → v.held ≡ [] → HasTaken [] v v []
none_taken v rests = record {
  looked = record { seats = refl; starts = refl; parts = refl; claims = refl };
  pile = record {
    matches = subst (λ (l : List Held). Matches v.seats v.parts [] l) (sym rests) tt;
    descend = subst (λ (l : List Held). AllBelow (length v.starts) l) (sym rests) tt;
  };
  named = refl;
  as_taken = refl;
  logged = All-nil (λ p. IsLogged v p.0 p.1);
}

module _ (v w : View) (done : List ℕ) (items : List Piled) (t : HasTaken done v w items) (c : ℕ) where
  -- one class more was taken
  pub taken_more : (x : Holding) (w' : View) (all : List Piled) → AllBelow c w.held → c < length w.starts → w' ≡ with_class c x w → IsLogged w c x
      → all ≡ items ++ (c, x) ∷ [] → HasTaken (done ++ c ∷ []) v w' all
  taken_more x w' all below there e l a =
      subst (λ (u : View). HasTaken (done ++ c ∷ []) v u all) (sym e)
      (subst (λ (ps : List Piled). HasTaken (done ++ c ∷ []) v (with_class c x w) ps) (sym a) (record {
        looked = record { seats = t.looked.seats; starts = t.looked.starts; parts = t.looked.parts; claims = t.looked.claims };
        pile = record {
          matches = subst (λ (l : List Piled). Matches w.seats w.parts l (with_class c x w).held) (sym (reverse-push items (c, x)))
              (refl, record { more = []; kinds = refl; log = sym (append-nil x.log); belong = tt }, t.pile.matches);
          descend = (there, below);
        };
        named = map-append (λ (p : Piled). p.0) items ((c, x) ∷ []) ∙ ap (λ (l : List ℕ). l ++ c ∷ []) t.named;
        as_taken = ap (λ (l : List Piled). gained l (with_class c x w).held) (reverse-push items (c, x))
            ∙ (ap (λ (l : List LogEntry). claims_of c l ++ gained (reverse items) w.held) (drop_all (length x.log) x.log (omega arith)) ∙ t.as_taken);
        logged = All-append (λ p. IsLogged v p.0 p.1) items ((c, x) ∷ []) t.logged
            (All-cons (λ p. IsLogged v p.0 p.1) (c, x) [] (logged_before v w c x t.looked l) (All-nil (λ p. IsLogged v p.0 p.1)));
      }))

  -- a class that was found taken leaves the pile, which may be put
  pub tried_pile : (w' : View) → w' ≡ tried c 1 w → IsPile w' items
  tried_pile w' e = subst (λ (u : View). IsPile u items) (sym e) (record { matches = t.pile.matches; descend = t.pile.descend })

  -- and when it is put nothing has changed
  pub put_back : (w' u : View) → w' ≡ tried c 1 w → HasPut w' u items → HasLooked v u
  put_back w' u e p = record {
    seats = p.seats ∙ (ap (λ (y : View). y.seats) e ∙ t.looked.seats);
    starts = p.starts ∙ (ap (λ (y : View). y.starts) e ∙ t.looked.starts);
    parts = p.parts ∙ (ap (λ (y : View). y.parts) e ∙ t.looked.parts);
    claims = p.claims ∙ (ap (λ (y : View). y.claims ++ gained (reverse items) y.held) e
        ∙ (ap (λ (l : List Claim). w.claims ++ l) t.as_taken ∙ (append-nil w.claims ∙ t.looked.claims)));
  }

-- TRIES

-- no try came
pub none_tried : (v : View) → HasMoreTries v v
none_tried v = record { more = []; takes = sym (append-nil v.takes) }

-- one try more
one_tried : (v u w : View) (t : Tried) → (m : HasMoreTries v u) → w.takes ≡ u.takes ++ t ∷ [] → w.takes ≡ v.takes ++ (m.more ++ t ∷ [])
one_tried v u w t m e = e ∙ (ap (λ (l : List Tried). l ++ t ∷ []) m.takes ∙ append_assoc v.takes m.more (t ∷ []))

-- a try that found its class free
pub took_tried : (v u w : View) (c : ℕ) (x : Holding) → HasMoreTries v u → w ≡ with_class c x u → HasMoreTries v w
took_tried v u w c x m e =
    let t : Tried = record { class = c; found = 0 } in
    record { more = m.more ++ t ∷ []; takes = one_tried v u w t m (ap (λ (y : View). y.takes) e) }

-- a try that found its class taken, and puts after it
busy_takes : (v u w z : View) (c : ℕ) → (m : HasMoreTries v u) → w ≡ tried c 1 u → z.takes ≡ w.takes
    → z.takes ≡ v.takes ++ (m.more ++ record { class = c; found = 1 } ∷ [])
busy_takes v u w z c m e p = p ∙ one_tried v u w (record { class = c; found = 1 }) m (ap (λ (y : View). y.takes) e)

-- a try that found its lock busy is one more of the tries
pub busy_tried : (v u w z : View) (c : ℕ) → HasMoreTries v u → w ≡ tried c 1 u → z.takes ≡ w.takes → HasMoreTries v z
busy_tried v u w z c m e p = record { more = m.more ++ record { class = c; found = 1 } ∷ []; takes = busy_takes v u w z c m e p }

-- tells that it was taken
pub busy_found : (classes : List ℕ) (i : ℕ) (v u w z : View) (c : ℕ) → slice_get classes i ≡ Some c → HasMoreTries v u → w ≡ tried c 1 u → z.takes ≡ w.takes
    → FoundTaken classes v z
busy_found classes i v u w z c g m e p = record {
  more = m.more ++ record { class = c; found = 1 } ∷ [];
  takes = busy_takes v u w z c m e p;
  class = c;
  place = i;
  wanted = g;
  at = length m.more;
  found = got_last m.more (record { class = c; found = 1 });
}
