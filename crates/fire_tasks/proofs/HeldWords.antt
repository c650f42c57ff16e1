-- Words of items that queues held, and the words that they stand for.
use Rattle.std.proofs.Common.{◌≡◌, ◌≢◌, ℕ, zero, suc, ◌<◌, ◌≤◌, Some, List, [], ◌∷◌, ◌++◌, length, take, drop, refl, sym, ap, ◌∙◌, subst, arith, ⊎_elim}
use Rattle.std.proofs.Common.{◌⊎◌, inl, inr, length-append}
use Rattle.std.specs.Prelude.{All, slice_get}
use Rattle.std.proofs.lemmas.Bool.{cases_eq}
use Rattle.std.proofs.lemmas.List.{take-append-drop, length-take, take_at, nil_from_length}
use Rattle.std.proofs.lemmas.List.Elements.{All-head, All-tail, All-cons, All-nil}
use Rattle.river_base.proofs.Lists.{head_same, tail_same}
use Rattle.river_base.specs.declared.item.Item as item
use Rattle.river_base.specs.declared.kind.QueueType.{QueueType}
use Rattle.river_base.specs.Held.{held}
use Rattle.river_base.proofs.HeldLemmas.{held-append, length-held}
use Rattle.river_plan.specs.Forms.{Name}
use Rattle.brooklet_model.specs.Histories.{History, lists_of}
use Rattle.brooklet_model.specs.Machine.{at_key}
use Rattle.brooklet_model.specs.Received.{IsFront}
use Rattle.brooklet_model.specs.Typed.{IsOf, IsWordOf}
use Rattle.brooklet_model.specs.Words.{Word, at_port, PortsBelow}
use Rattle.brooklet_model.proofs.Swaps.{at_port_here, at_port_past}
use Rattle.brooklet_model.proofs.Traces.{at_key_same, at_key_other}
use Rattle.fire_tasks.specs.Fired.{ports_of}

-- FRONTS OF WHAT A QUEUE HOLDS

same_front : {A : Type 0} (xs ys a b : List A) → xs ++ a ≡ ys ++ b → length xs ≡ length ys → xs ≡ ys
same_front xs ys a b e l = sym (take_at xs a (length xs) refl) ∙ ap (take (length xs)) e ∙ take_at ys b (length xs) (sym l)

-- a front of what a queue holds is what it holds for the front as long
pub held_front : (t : QueueType) (xs hs : List item.Item) → IsFront xs (held t [] hs) → xs ≡ held t [] (take (length xs) hs)
held_front t xs hs f =
    let n = length xs in
    let parts : held t [] hs ≡ held t [] (take n hs) ++ held t (take n hs) (drop n hs) =
    ap (held t []) (sym (take-append-drop n hs)) ∙ held-append t [] (take n hs) (drop n hs) in
    let long : length (held t [] (take n hs)) ≡ n =
    (let a = length-held t [] (take n hs) in
    let b = length-take n hs in
    let c = length-held t [] hs in
    let d = ap length f.1 in
    let e = length-append xs f.0 in
    omega (arith, a, b, c, d, e)) in
    same_front xs (held t [] (take n hs)) f.0 (held t (take n hs) (drop n hs)) (f.1 ∙ parts) (sym long)

-- a front of what a queue holds is not longer than what it holds it for
pub held_fewer : (t : QueueType) (xs hs : List item.Item) → IsFront xs (held t [] hs) → length xs ≤ length hs
held_fewer t xs hs f = let a = ap length f.1 in let b = length-append xs f.0 in let c = length-held t [] hs in omega (arith, a, b, c)

-- what holds of all elements holds of those in front
pub all_left : {A : Type 0} (P : A → Type 0) (xs ys : List A) → All P (xs ++ ys) → All P xs
all_left P [] ys h = All-nil P
all_left P (x ∷ xs) ys h = All-cons P x xs (All-head P x (xs ++ ys) h) (all_left P xs ys (All-tail P x (xs ++ ys) h))

-- WORDS WITH OTHER ITEMS

first_or : item.Item → List item.Item → item.Item
first_or d [] = d
first_or d (x ∷ xs) = x

-- the word with these items at its ports
pub relabel : Word → (ℕ → List item.Item) → Word
relabel [] l = []
relabel (e ∷ es) l = (e.0, first_or e.1 (l e.0)) ∷ relabel es (at_key e.0 (drop 1 (l e.0)) l)

-- it has the same ports
pub relabel_ports : (w : Word) (l : ℕ → List item.Item) → ports_of (relabel w l) ≡ ports_of w
unfolding relabel
relabel_ports [] l = refl
relabel_ports (e ∷ es) l = ap (λ ps. e.0 ∷ ps) (relabel_ports es (at_key e.0 (drop 1 (l e.0)) l))

put_back : (d : item.Item) (xs : List item.Item) (n : ℕ) → length xs ≡ suc n → first_or d xs ∷ drop 1 xs ≡ xs
unfolding first_or
put_back d [] n e = absurd (omega (arith, e))
put_back d (x ∷ xs) n e = refl

length_rest : (xs : List item.Item) (n : ℕ) → length xs ≡ suc n → length (drop 1 xs) ≡ n
length_rest [] n e = absurd (omega (arith, e))
length_rest (x ∷ xs) n e = omega (arith, e)

-- the word with these items has them at its ports
pub relabel_at : (w : Word) (l : ℕ → List item.Item) → ((port : ℕ) → length (l port) ≡ length (at_port port w)) → (port : ℕ)
    → at_port port (relabel w l) ≡ l port
unfolding relabel
relabel_at [] l h port = sym (nil_from_length (l port) (h port))
relabel_at (e ∷ es) l h port =
    let x = first_or e.1 (l e.0) in
    let l' = at_key e.0 (drop 1 (l e.0)) l in
    let here : length (l e.0) ≡ suc (length (at_port e.0 es)) = h e.0 ∙ ap length (at_port_here e.0 e es refl) in
    let rest = relabel_at es l' (λ i. ⊎_elim
    (λ q. subst (λ j. length (l' j) ≡ length (at_port j es)) q
    (ap length (at_key_same e.0 (drop 1 (l e.0)) l) ∙ length_rest (l e.0) (length (at_port e.0 es)) here))
    (λ n. ap length (at_key_other e.0 (drop 1 (l e.0)) l i n) ∙ h i ∙ ap length (at_port_past i e es n))
    (cases_eq e.0 i)) in
    ⊎_elim
    (λ q.
    subst (λ j. at_port j (relabel (e ∷ es) l) ≡ l j) q
    (at_port_here e.0 (e.0, x) (relabel es l') refl ∙ ap (λ t. x ∷ t) (rest e.0 ∙ at_key_same e.0 (drop 1 (l e.0)) l)
    ∙ put_back e.1 (l e.0) (length (at_port e.0 es)) here))
    (λ n. at_port_past port (e.0, x) (relabel es l') n ∙ rest port ∙ at_key_other e.0 (drop 1 (l e.0)) l port n)
    (cases_eq e.0 port)

-- WORDS BY THEIR PORTS

-- a word is typed where its ports are
pub typed_ports : (types : List QueueType) (w : Word) → ((port : ℕ) → All (IsOf types port) (at_port port w)) → IsWordOf types w
typed_ports types [] h = tt
typed_ports types (e ∷ es) h = (
  All-head (IsOf types e.0) e.1 (at_port e.0 es) (subst (All (IsOf types e.0)) (at_port_here e.0 e es refl) (h e.0)),
  typed_ports types es (λ i. ⊎_elim
      (λ q. subst (λ j. All (IsOf types j) (at_port j es)) q
      (All-tail (IsOf types e.0) e.1 (at_port e.0 es) (subst (All (IsOf types e.0)) (at_port_here e.0 e es refl) (h e.0))))
      (λ n. subst (All (IsOf types i)) (at_port_past i e es n) (h i))
      (cases_eq e.0 i)),
)

pub ports_typed : (types : List QueueType) (w : Word) → IsWordOf types w → (port : ℕ) → All (IsOf types port) (at_port port w)
ports_typed types [] a port = All-nil (IsOf types port)
ports_typed types (e ∷ es) a port = ⊎_elim
    (λ q. subst (All (IsOf types port)) (sym (at_port_here port e es q))
    (All-cons (IsOf types port) e.1 (at_port port es) (subst (λ j. IsOf types j e.1) q a.0) (ports_typed types es a.1 port)))
    (λ n. subst (All (IsOf types port)) (sym (at_port_past port e es n)) (ports_typed types es a.1 port))
    (cases_eq e.0 port)

-- words with the same ports have ports below the same number
pub below_same : (n : ℕ) (w is : Word) → ports_of w ≡ ports_of is → PortsBelow n is → PortsBelow n w
below_same n [] is e b = tt
below_same n (x ∷ w) [] e b = absurd (cc e)
below_same n (x ∷ w) (i ∷ is) e b = (
  subst (λ k. k < n) (sym (head_same x.0 i.0 (ports_of w) (ports_of is) e)) b.0,
  below_same n w is (tail_same x.0 i.0 (ports_of w) (ports_of is) e) b.1,
)

-- beyond the ports nothing came
pub nothing_beyond : (n : ℕ) (w : Word) (port : ℕ) → PortsBelow n w → n ≤ port → at_port port w ≡ []
nothing_beyond n [] port b le = refl
nothing_beyond n (e ∷ es) port b le =
    let ne : e.0 ≢ port = (let lt = b.0 in omega (arith, lt, le)) in
    at_port_past port e es ne ∙ nothing_beyond n es port b.1 le

-- beyond the names there is no list
pub no_list : (h : History) (rs : List Name) (port : ℕ) → length rs ≤ port → lists_of h rs port ≡ []
no_list h [] port le = refl
no_list h (r ∷ rs) zero le = absurd (omega (arith, le))
no_list h (r ∷ rs) (suc port) le = no_list h rs port (omega (arith, le))

-- there is an element at a place, or the place is behind the list
pub found : {A : Type 0} (xs : List A) (n : ℕ) → ((x : A) × (slice_get xs n ≡ Some x)) ⊎ (length xs ≤ n)
found [] n = inr (omega arith)
found (x ∷ xs) zero = inl (x, refl)
found (x ∷ xs) (suc n) = ⊎_elim (λ f. inl f) (λ le. inr (omega (arith, le))) (found xs n)
