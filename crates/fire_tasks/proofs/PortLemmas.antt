-- Ends at their ports.
use Rattle.std.proofs.Common.{◌≡◌, ℕ, zero, suc, ◌<◌, List, [], ◌∷◌, ◌++◌, length, refl, sym, ap, ◌∙◌, arith, get_or, set, append_assoc, length-append, ◌+◌, Some, subst, drop}
use Rattle.std.specs.Prelude.{All, Bool, true, IsTrue, IsFalse, ◌↔◌, slice_get}
use Rattle.std.proofs.Common.{⊎_elim}
use Rattle.std.proofs.Math.ListN.{drop_of_length-le}
use Rattle.std.proofs.lemmas.Bool.{cases_lt}
use Rattle.std.proofs.lemmas.Option.{slice_get-get_or}
use Rattle.river_base.proofs.Lists.{got_map}
use Rattle.std.proofs.lemmas.List.Elements.{All-head, All-tail}
use mathlib.Core.List.{IsPrefix}
use Rattle.std.proofs.lemmas.List.{length-map, nil_from_length, set-get_or}
use Rattle.river_base.specs.declared.item.Item as item
use Rattle.river_base.specs.Places.{list_at, append_at}
use Rattle.fire_tasks.specs.Inlet as inlet
use Rattle.fire_tasks.specs.Outlet as outlet
use Rattle.fire_tasks.specs.Ports.{sent_count, received_count, received_of, in_end, in_ends, sent_of, sent_in, out_end, out_ends, received_in, given_at, MaySend, MaySendAll}

-- another state of the same end: all ends are the same
pub ins_set : (xs : List inlet.Inlet) (i : ℕ) (x : inlet.Inlet) → in_end x ≡ in_end (get_or xs i x) → in_ends (set xs i x) ≡ in_ends xs
ins_set [] i x e = refl
ins_set (y ∷ ys) zero x e = ap (λ n. n ∷ in_ends ys) e
ins_set (y ∷ ys) (suc i) x e = ap (λ ns. in_end y ∷ ns) (ins_set ys i x e)

-- an end that sent nothing
pub sent_same : (xs : List outlet.Outlet) (i : ℕ) (x : outlet.Outlet) → sent_of x ≡ sent_of (get_or xs i x) → sent_in (set xs i x) ≡ sent_in xs
sent_same [] i x e = refl
sent_same (y ∷ ys) zero x e = ap (λ l. l ∷ sent_in ys) e
sent_same (y ∷ ys) (suc i) x e = ap (λ l. sent_of y ∷ l) (sent_same ys i x e)

-- so at the ports that it sends to
pub outs_set : (xs : List outlet.Outlet) (i : ℕ) (x : outlet.Outlet) → out_end x ≡ out_end (get_or xs i x) → out_ends (set xs i x) ≡ out_ends xs
outs_set [] i x e = refl
outs_set (y ∷ ys) zero x e = ap (λ n. n ∷ out_ends ys) e
outs_set (y ∷ ys) (suc i) x e = ap (λ ns. out_end y ∷ ns) (outs_set ys i x e)

-- as many ends as before
pub ins_many : (xs ys : List inlet.Inlet) → in_ends ys ≡ in_ends xs → length ys ≡ length xs
ins_many xs ys e = sym (length-map ys in_end) ∙ ap length e ∙ length-map xs in_end

-- as many ports to send to
pub outs_many : (xs ys : List outlet.Outlet) → out_ends ys ≡ out_ends xs → length ys ≡ length xs
outs_many xs ys e = sym (length-map ys out_end) ∙ ap length e ∙ length-map xs out_end

-- an end that received nothing
pub received_same : (xs : List inlet.Inlet) (i : ℕ) (x : inlet.Inlet) → received_of x ≡ received_of (get_or xs i x) → received_in (set xs i x) ≡ received_in xs
received_same [] i x e = refl
received_same (y ∷ ys) zero x e = ap (λ l. l ∷ received_in ys) e
received_same (y ∷ ys) (suc i) x e = ap (λ l. received_of y ∷ l) (received_same ys i x e)

-- an end that received more
pub received_more : (xs : List inlet.Inlet) (i : ℕ) (x : inlet.Inlet) (more : List item.Item) → i < length xs
    → received_of x ≡ received_of (get_or xs i x) ++ more → received_in (set xs i x) ≡ append_at (received_in xs) i more
received_more [] i x more lt e = refl
received_more (y ∷ ys) zero x more lt e = ap (λ l. l ∷ received_in ys) e
received_more (y ∷ ys) (suc i) x more lt e = ap (λ l. received_of y ∷ l) (received_more ys i x more (omega (arith, lt)) e)

-- where one outlet has sent one item more, one more was sent in all
pub sent_more : (xs : List outlet.Outlet) (i : ℕ) (x : outlet.Outlet) (y : item.Item) → i < length xs → sent_of x ≡ sent_of (get_or xs i x) ++ y ∷ []
    → sent_count (set xs i x) ≡ sent_count xs + 1
sent_more [] i x y lt e = absurd (omega (arith, lt))
sent_more (o ∷ os) zero x y lt e = let a = ap length e in let b = length-append (sent_of o) (y ∷ []) in omega (arith, a, b)
sent_more (o ∷ os) (suc i) x y lt e = let h = sent_more os i x y (omega (arith, lt)) e in omega (arith, h)

-- one outlet sent one item more
pub sent_front : (xs : List outlet.Outlet) (i : ℕ) (x : outlet.Outlet) (y : item.Item) → sent_of x ≡ sent_of (get_or xs i x) ++ y ∷ []
    → sent_in (set xs i x) ≡ append_at (sent_in xs) i (y ∷ [])
sent_front [] i x y e = refl
sent_front (o ∷ os) zero x y e = ap (λ l. l ∷ sent_in os) e
sent_front (o ∷ os) (suc i) x y e = ap (λ ls. sent_of o ∷ ls) (sent_front os i x y e)

-- the front of what is pending moved
pub given_moved : (xs : List outlet.Outlet) (ls : List (List item.Item)) (i : ℕ) (x : outlet.Outlet) (l : List item.Item) (y : item.Item) → i < length xs
    → i < length ls → get_or ls i l ≡ y ∷ l → sent_of x ≡ sent_of (get_or xs i x) ++ y ∷ []
    → (j : ℕ) → given_at (set xs i x) (set ls i l) j ≡ given_at xs ls j
given_moved [] ls i x l y lt lt' e s j = absurd (omega (arith, lt))
given_moved (o ∷ os) [] i x l y lt lt' e s j = absurd (omega (arith, lt'))
given_moved (o ∷ os) (m ∷ ls) zero x l y lt lt' e s zero =
    ap (λ t. t ++ l) s ∙ append_assoc (sent_of o) (y ∷ []) l ∙ ap (λ t. sent_of o ++ t) (sym e)
given_moved (o ∷ os) (m ∷ ls) zero x l y lt lt' e s (suc j) = refl
given_moved (o ∷ os) (m ∷ ls) (suc i) x l y lt lt' e s zero = refl
given_moved (o ∷ os) (m ∷ ls) (suc i) x l y lt lt' e s (suc j) = given_moved os ls i x l y (omega (arith, lt)) (omega (arith, lt')) e s j

-- what holds of all elements holds of one in the middle
pub all_mid : {A : Type 0} (P : A → Type 0) (xs ys : List A) (x : A) → All P (xs ++ x ∷ ys) → P x
all_mid P [] ys x h = All-head P x ys h
all_mid P (y ∷ xs) ys x h = all_mid P xs ys x (All-tail P y (xs ++ x ∷ ys) h)

-- what is pending in front may be sent
pub may_front : (xs : List outlet.Outlet) (ls : List (List item.Item)) (i : ℕ) (x : outlet.Outlet) (l : List item.Item) (y : item.Item) → MaySendAll xs ls
    → i < length xs → x ≡ get_or xs i x → list_at ls i ≡ y ∷ l → MaySend (out_end x) y
may_front xs ls i x l y h lt e p =
    let at : slice_get (out_ends xs) i ≡ Some (out_end x) = got_map out_end xs i x (slice_get-get_or xs i x lt ∙ ap Some (sym e)) in
    let sent = list_at (sent_in xs) i in
    let all : All (MaySend (out_end x)) (sent ++ y ∷ l) = subst (λ m. All (MaySend (out_end x)) (sent ++ m)) p (h i (out_end x) at) in
    all_mid (MaySend (out_end x)) sent l y all

-- nothing moved
pub given_stays : (xs : List outlet.Outlet) (ls : List (List item.Item)) (i : ℕ) (x : outlet.Outlet) (l : List item.Item) → i < length xs → i < length ls
    → l ≡ get_or ls i l → sent_of x ≡ sent_of (get_or xs i x)
    → (j : ℕ) → given_at (set xs i x) (set ls i l) j ≡ given_at xs ls j
given_stays [] ls i x l lt lt' e s j = absurd (omega (arith, lt))
given_stays (o ∷ os) [] i x l lt lt' e s j = absurd (omega (arith, lt'))
given_stays (o ∷ os) (m ∷ ls) zero x l lt lt' e s zero = ap (λ t. t ++ l) s ∙ ap (λ t. sent_of o ++ t) e
given_stays (o ∷ os) (m ∷ ls) zero x l lt lt' e s (suc j) = refl
given_stays (o ∷ os) (m ∷ ls) (suc i) x l lt lt' e s zero = refl
given_stays (o ∷ os) (m ∷ ls) (suc i) x l lt lt' e s (suc j) = given_stays os ls i x l (omega (arith, lt)) (omega (arith, lt')) e s j

-- an element that comes back
pub set_back : {A : Type 0} (ls : List A) (i : ℕ) (l m : A) → m ≡ get_or ls i m → set (set ls i l) i m ≡ ls
set_back [] i l m e = refl
set_back (x ∷ ls) zero l m e = ap (λ t. t ∷ ls) e
set_back (x ∷ ls) (suc i) l m e = ap (λ t. x ∷ t) (set_back ls i l m e)

-- an end that sent nothing
pub given_only : (xs : List outlet.Outlet) (ls : List (List item.Item)) (i : ℕ) (x : outlet.Outlet) → sent_of x ≡ sent_of (get_or xs i x)
    → (j : ℕ) → given_at (set xs i x) ls j ≡ given_at xs ls j
given_only [] ls i x s j = refl
given_only (o ∷ os) ls zero x s zero = ap (λ t. t ++ list_at ls 0) s
given_only (o ∷ os) [] zero x s (suc j) = refl
given_only (o ∷ os) (m ∷ ls) zero x s (suc j) = refl
given_only (o ∷ os) [] (suc i) x s zero = refl
given_only (o ∷ os) (m ∷ ls) (suc i) x s zero = refl
given_only (o ∷ os) [] (suc i) x s (suc j) = given_only os [] i x s j
given_only (o ∷ os) (m ∷ ls) (suc i) x s (suc j) = given_only os ls i x s j

-- as many were received
pub count_same : (xs ys : List inlet.Inlet) → received_in xs ≡ received_in ys → received_count xs ≡ received_count ys
count_same [] [] e = refl
count_same [] (y ∷ ys) e = absurd (cc e)
count_same (x ∷ xs) [] e = absurd (cc e)
count_same (x ∷ xs) (y ∷ ys) e =
    let h : received_of x ≡ received_of y = cc e in
    let t : received_in xs ≡ received_in ys = cc e in
    let a = ap length h in
    let i = count_same xs ys t in
    omega (arith, a, i)

-- as many were sent
pub sent_count_same : (xs ys : List outlet.Outlet) → sent_in xs ≡ sent_in ys → sent_count xs ≡ sent_count ys
sent_count_same [] [] e = refl
sent_count_same [] (y ∷ ys) e = absurd (cc e)
sent_count_same (x ∷ xs) [] e = absurd (cc e)
sent_count_same (x ∷ xs) (y ∷ ys) e =
    let h : sent_of x ≡ sent_of y = cc e in
    let t : sent_in xs ≡ sent_in ys = cc e in
    let a = ap length h in
    let i = sent_count_same xs ys t in
    omega (arith, a, i)

-- one more was received
pub count_more : (xs ys : List inlet.Inlet) (port : ℕ) (x : item.Item) → port < length xs → received_in ys ≡ append_at (received_in xs) port (x ∷ [])
    → received_count ys ≡ received_count xs + 1
count_more [] ys port x lt e = absurd (omega (arith, lt))
count_more (a ∷ xs) [] zero x lt e = absurd (cc e)
count_more (a ∷ xs) [] (suc port) x lt e = absurd (cc e)
count_more (a ∷ xs) (y ∷ ys) zero x lt e =
    let h : received_of y ≡ received_of a ++ x ∷ [] = cc e in
    let t : received_in ys ≡ received_in xs = cc e in
    let l = ap length h in
    let m = length-append (received_of a) (x ∷ []) in
    let i = count_same ys xs t in
    omega (arith, l, m, i)
count_more (a ∷ xs) (y ∷ ys) (suc port) x lt e =
    let h : received_of y ≡ received_of a = cc e in
    let t : received_in ys ≡ append_at (received_in xs) port (x ∷ []) = cc e in
    let l = ap length h in
    let i = count_more xs ys port x (omega (arith, lt)) t in
    omega (arith, l, i)

-- lists of which each has nothing
pub idle_all : (ls : List (List item.Item)) → All (λ l. length l ≡ 0) ls → (j : ℕ) → list_at ls j ≡ []
idle_all [] h j = refl
idle_all (l ∷ ls) h zero = nil_from_length l (All-head (λ m. length m ≡ 0) l ls h)
idle_all (l ∷ ls) h (suc j) = idle_all ls (All-tail (λ m. length m ≡ 0) l ls h) j

-- as many were sent
pub sent_none : (xs : List outlet.Outlet) (i : ℕ) (x : outlet.Outlet) → sent_of x ≡ sent_of (get_or xs i x) → sent_count (set xs i x) ≡ sent_count xs
sent_none [] i x e = refl
sent_none (o ∷ os) zero x e = let a = ap length e in omega (arith, a)
sent_none (o ∷ os) (suc i) x e = let h = sent_none os i x e in omega (arith, h)

-- a front of nothing is nothing
pub prefix_none : {A : Type 0} (xs ys : List A) → IsPrefix xs ys → ys ≡ [] → xs ≡ []
prefix_none [] ys h e = refl
prefix_none (x ∷ xs) ys h e = let l = ap length (h.1 ∙ e) in absurd (omega (arith, l))

-- an element that did not change
pub put_back : {A : Type 0} (xs : List A) (i : ℕ) (old new : A) → old ≡ get_or xs i old → new ≡ old → set xs i new ≡ xs
put_back xs i old new e n = ap (set xs i) (n ∙ e) ∙ set-get_or xs i old

-- what is left where the one in front is dropped
pub left_behind : {A : Type 0} (old new rest : List A) (y : A) → old ≡ y ∷ rest → new ≡ drop 1 old → new ≡ rest
left_behind old new rest y e n = n ∙ ap (drop 1) e

-- nothing lies behind the last element
pub none_behind : {A : Type 0} (xs : List A) (n : ℕ) (r : Bool) → IsTrue r ↔ (n < length xs) → IsFalse r → drop n xs ≡ []
none_behind xs n r h f =
    ⊎_elim
    (λ lt. let t : r ≡ true = h.1 lt in absurd (cc (t, f)))
    (λ ge. drop_of_length-le xs ge)
    (cases_lt n (length xs))
