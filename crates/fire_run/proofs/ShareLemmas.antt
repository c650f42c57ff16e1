-- Tasks that are dealt to bundles, part by part.
use Rattle.std.proofs.Common.{◌≡◌, ℕ, zero, suc, ◌+◌, ◌%◌, ◌==◌, ◌<◌, ◌≤◌, cond, List, [], ◌∷◌, ◌++◌, length, take, refl, sym, ap, ◌∙◌, subst, arith, get_or, set}
use Rattle.std.proofs.Common.{get_or-set_other, eq-eqb, ne_eqb, append_assoc, length-append}
use mathlib.Core.List.{reverse}
use Rattle.std.proofs.lemmas.List.{append-nil, length-set, reverse-append, take_all, get_or_default}
use Rattle.std.proofs.lemmas.List.Elements.{filter-append}
use Rattle.river_base.proofs.Lists.{take_next}
use Rattle.class_locks.specs.Seats.{Chair}
use Rattle.fire_tasks.specs.declared.bundle.Bundle.{Bundle}
use Rattle.fire_tasks.specs.declared.task.Task.{Task}
use Rattle.fire_run.specs.Frames.{tasks_of_part}
use Rattle.fire_run.specs.Shares.{AreShares, IsShare, OthersStay}

-- TAKING A PART OUT

-- a task of a part that is exchanged for another of this part changes no other part
part_set : (n j : ℕ) (ts : List Task) (i : ℕ) (t : Task) → t.op ≡ (get_or ts i t).op → ((t.op % n) ≡ j → ⊥)
    → tasks_of_part n j (set ts i t) ≡ tasks_of_part n j ts
part_set n j [] i t e ne = refl
part_set n j (u ∷ ts) zero t e ne =
    ap (λ b. cond b (t ∷ tasks_of_part n j ts) (tasks_of_part n j ts)) (ne_eqb (t.op % n) j ne)
    ∙ sym (ap (λ b. cond b (u ∷ tasks_of_part n j ts) (tasks_of_part n j ts)) (ne_eqb (u.op % n) j (λ q. ne (ap (λ o. o % n) e ∙ q))))
part_set n j (u ∷ ts) (suc i) t e ne = ap (λ l. cond ((u.op % n) == j) (u ∷ l) l) (part_set n j ts i t e ne)

-- none was touched yet
pub stay_none : (n k : ℕ) (ts : List Task) → OthersStay n k ts ts
stay_none n k ts = record { many = refl; others = λ j ne. refl }

-- the tasks of part k among the first i are taken out
pub record Taking (n k : ℕ) (ts0 : List Task) (i : ℕ) (ts mine : List Task) : Type 0 where
  pub own : mine ≡ tasks_of_part n k (take i ts0)
  pub rest : (j : ℕ) (d : Task) → i ≤ j → get_or ts j d ≡ get_or ts0 j d
  pub stay : OthersStay n k ts0 ts

-- before the first none is
pub taking_first : (n k : ℕ) (ts own : List Task) → own ≡ [] → Taking n k ts 0 ts own
taking_first n k ts own e = record { own = e ∙ none ts; rest = λ j d le. refl; stay = stay_none n k ts }
  where
    none : (us : List Task) → [] ≡ tasks_of_part n k (take 0 us)
    none [] = refl
    none (u ∷ us) = refl

-- one task more, which is of the part
pub taking_in : (n k i : ℕ) (ts0 ts own : List Task) (t new : Task) → Taking n k ts0 i ts own → i < length ts → t ≡ get_or ts i t → new.op ≡ t.op
    → (t.op % n) ≡ k → Taking n k ts0 (i + 1) (set ts i new) (own ++ t ∷ [])
taking_in n k i ts0 ts own t new h lt e o q =
    let m = h.stay.many in
    let there : t ≡ get_or ts0 i t = e ∙ h.rest i t (omega arith) in
    let one : tasks_of_part n k (t ∷ []) ≡ t ∷ [] = ap (λ b. cond b (t ∷ []) []) (eq-eqb (t.op % n) k q) in
    record {
      own = ap (λ l. l ++ t ∷ []) h.own ∙ ap (λ l. tasks_of_part n k (take i ts0) ++ l) (sym one)
          ∙ sym (filter-append (λ (x : Task). (x.op % n) == k) (take i ts0) (t ∷ []))
          ∙ ap (tasks_of_part n k) (sym (take_next ts0 i t (omega (arith, lt, m)) there));
      rest = λ j d le. get_or-set_other ts i j new d (λ z. omega (arith, z, le)) ∙ h.rest j d (omega (arith, le));
      stay = record {
        many = length-set ts i new ∙ m;
        others = λ j ne.
            part_set n j ts i new (o ∙ ap (λ (x : Task). x.op) (e ∙ get_or_default ts i t new lt)) (λ z. ne (sym z ∙ ap (λ (x : ℕ). x % n) o ∙ q))
            ∙ h.stay.others j ne;
      };
    }

-- one task more, which is of another
pub taking_past : (n k i : ℕ) (ts0 ts own : List Task) (t : Task) → Taking n k ts0 i ts own → i < length ts → t ≡ get_or ts i t → ((t.op % n) ≡ k → ⊥)
    → Taking n k ts0 (i + 1) ts own
taking_past n k i ts0 ts own t h lt e ne =
    let m = h.stay.many in
    let there : t ≡ get_or ts0 i t = e ∙ h.rest i t (omega arith) in
    let none : tasks_of_part n k (t ∷ []) ≡ [] = ap (λ b. cond b (t ∷ []) []) (ne_eqb (t.op % n) k ne) in
    record {
      own = h.own ∙ sym (append-nil (tasks_of_part n k (take i ts0))) ∙ ap (λ l. tasks_of_part n k (take i ts0) ++ l) (sym none)
          ∙ sym (filter-append (λ (x : Task). (x.op % n) == k) (take i ts0) (t ∷ []))
          ∙ ap (tasks_of_part n k) (sym (take_next ts0 i t (omega (arith, lt, m)) there));
      rest = λ j d le. h.rest j d (omega (arith, le));
      stay = h.stay;
    }

-- behind the last one all are
pub taking_all : (n k i : ℕ) (ts0 ts own : List Task) → Taking n k ts0 i ts own → length ts0 ≤ i → own ≡ tasks_of_part n k ts0
taking_all n k i ts0 ts own h le = h.own ∙ ap (tasks_of_part n k) (take_all i ts0 le)

-- A BUNDLE FOR EACH SEAT

-- the last seats have their bundles, the last first
pub record Dealing (n : ℕ) (ts0 ts : List Task) (all now : List Chair) (bs : List Bundle) : Type 0 where
  pub done : List Chair
  pub seats : all ≡ now ++ done
  pub count : length now + length bs ≡ n
  pub shares : AreShares n ts0 all (length now) (reverse bs)
  pub left : (j : ℕ) → j < length now → tasks_of_part n j ts ≡ tasks_of_part n j ts0
  pub many : length ts ≡ length ts0

-- before the last none has
pub dealing_first : (n : ℕ) (ts : List Task) (seats : List Chair) (bs : List Bundle) → length seats ≡ n → bs ≡ [] → Dealing n ts ts seats seats bs
dealing_first n ts seats bs l e = subst (Dealing n ts ts seats seats) (sym e) (record {
  done = [];
  seats = sym (append-nil seats);
  count = omega (arith, l);
  shares = tt;
  left = λ j lt. refl;
  many = refl;
})

-- one bundle more
pub dealing_next : (n : ℕ) (ts0 ts ts' : List Task) (seats0 seats seats' : List Chair) (bs : List Bundle) (seat : Chair) (b : Bundle)
    → Dealing n ts0 ts seats0 seats bs → seats ≡ seats' ++ seat ∷ [] → IsShare n ts (length seats') seat b → OthersStay n (length seats') ts ts'
    → Dealing n ts0 ts' seats0 seats' (bs ++ b ∷ [])
dealing_next n ts0 ts ts' seats0 seats seats' bs seat b h e s o =
    let long : length seats ≡ length seats' + 1 = ap length e ∙ length-append seats' (seat ∷ []) in
    let all : seats0 ≡ seats' ++ (seat ∷ h.done) = h.seats ∙ ap (λ l. l ++ h.done) e ∙ append_assoc seats' (seat ∷ []) h.done in
    let c = h.count in
    let turned : reverse (bs ++ b ∷ []) ≡ b ∷ reverse bs = reverse-append bs (b ∷ []) in
    record {
      done = seat ∷ h.done;
      seats = all;
      count = (let l = length-append bs (b ∷ []) in omega (arith, long, c, l));
      shares = subst (AreShares n ts0 seats0 (length seats')) (sym turned) (
        λ d. record {
          tasks = s.tasks ∙ h.left (length seats') (omega (arith, long));
          seat = s.seat ∙ sym (ap (λ l. get_or l (length seats') d) all ∙ here seats' d);
          unmoved = s.unmoved;
          calm = s.calm;
        },
        (let z : length seats ≡ suc (length seats') = omega (arith, long) in subst (λ k. AreShares n ts0 seats0 k (reverse bs)) z h.shares),
      );
      left = λ j lt. o.others j (λ z. omega (arith, z, lt)) ∙ h.left j (omega (arith, lt, long));
      many = o.many ∙ h.many;
    }
  where
    here : (ss : List Chair) (d : Chair) → get_or (ss ++ (seat ∷ h.done)) (length ss) d ≡ seat
    here [] d = refl
    here (x ∷ ss) d = here ss d

-- behind the first all have
pub dealing_all : (n : ℕ) (ts0 ts : List Task) (seats0 seats : List Chair) (bs : List Bundle) → Dealing n ts0 ts seats0 seats bs → length seats ≡ 0
    → AreShares n ts0 seats0 0 (reverse bs)
dealing_all n ts0 ts seats0 seats bs h z = subst (λ k. AreShares n ts0 seats0 k (reverse bs)) z h.shares

-- the bundle of a part
pub share_at : (n : ℕ) (ts : List Task) (seats : List Chair) (m : ℕ) (bs : List Bundle) → AreShares n ts seats m bs
    → (k : ℕ) (d : Bundle) (e : Chair) → k < length bs → IsShare n ts (m + k) (get_or seats (m + k) e) (get_or bs k d)
share_at n ts seats m [] h k d e lt = absurd (omega (arith, lt))
share_at n ts seats m (b ∷ bs) h zero d e lt = let z : m ≡ m + 0 = omega arith in subst (λ j. IsShare n ts j (get_or seats j e) b) z (h.0 e)
share_at n ts seats m (b ∷ bs) h (suc k) d e lt =
    let z : suc m + k ≡ m + suc k = omega arith in
    subst (λ j. IsShare n ts j (get_or seats j e) (get_or bs k d)) z (share_at n ts seats (suc m) bs h.1 k d e (omega (arith, lt)))
