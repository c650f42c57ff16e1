-- A word of items that is longer by one firing.
use Rattle.std.proofs.Common.{◌≡◌, ℕ, suc, List, [], ◌∷◌, ◌++◌, length, take, drop, refl, sym, ap, ◌∙◌, subst, arith, ⊎_elim, length-append}
use Rattle.std.proofs.lemmas.Bool.{cases_eq}
use Rattle.std.proofs.lemmas.List.{append-nil, take_at, drop_at}
use Rattle.river_base.proofs.Lists.{head_same, tail_same}
use Rattle.river_base.specs.declared.item.Item as item
use Rattle.river_base.specs.declared.kind.QueueType.{QueueType}
use Rattle.brooklet_model.specs.Typed.{IsOf, IsWordOf}
use Rattle.brooklet_model.specs.Words.{Word, at_port}
use Rattle.brooklet_model.proofs.Free.{at_port-append}
use Rattle.brooklet_model.proofs.Swaps.{at_port_here, at_port_past}
use Rattle.brooklet_step.specs.Given.{held_at}
use Rattle.brooklet_step.proofs.GivenLemmas.{at-append, at-length, at_next}
use Rattle.fire_tasks.specs.Fired.{IsHeldAs, ports_of}

-- THE LAST FIRING OF A WORD

pub record Last {A : Type 0} (xs : List A) : Type 0 where
  pub front : List A
  pub last : A
  pub is : xs ≡ front ++ last ∷ []

last_of : {A : Type 0} (x : A) (xs : List A) → Last (x ∷ xs)
last_of x [] = record { front = []; last = x; is = refl }
last_of x (y ∷ ys) = let l = last_of y ys in record { front = x ∷ l.front; last = l.last; is = ap (λ t. x ∷ t) l.is }

ports-append : (u v : Word) → ports_of (u ++ v) ≡ ports_of u ++ ports_of v
ports-append [] v = refl
ports-append (e ∷ u) v = ap (λ t. e.0 ∷ t) (ports-append u v)

snoc_front : (xs ys : List ℕ) (x y : ℕ) → xs ++ x ∷ [] ≡ ys ++ y ∷ [] → xs ≡ ys
snoc_front [] [] x y e = refl
snoc_front [] (b ∷ ys) x y e = let l = ap length e in let m = length-append ys (y ∷ []) in absurd (omega (arith, l, m))
snoc_front (a ∷ xs) [] x y e = let l = ap length e in let m = length-append xs (x ∷ []) in absurd (omega (arith, l, m))
snoc_front (a ∷ xs) (b ∷ ys) x y e =
    let h = head_same a b (xs ++ x ∷ []) (ys ++ y ∷ []) e in
    let t = snoc_front xs ys x y (tail_same a b (xs ++ x ∷ []) (ys ++ y ∷ []) e) in
    ap (λ c. c ∷ xs) h ∙ ap (λ t'. b ∷ t') t

snoc_last : (xs ys : List ℕ) (x y : ℕ) → xs ++ x ∷ [] ≡ ys ++ y ∷ [] → x ≡ y
snoc_last [] [] x y e = head_same x y [] [] e
snoc_last [] (b ∷ ys) x y e = let l = ap length e in let m = length-append ys (y ∷ []) in absurd (omega (arith, l, m))
snoc_last (a ∷ xs) [] x y e = let l = ap length e in let m = length-append xs (x ∷ []) in absurd (omega (arith, l, m))
snoc_last (a ∷ xs) (b ∷ ys) x y e = snoc_last xs ys x y (tail_same a b (xs ++ x ∷ []) (ys ++ y ∷ []) e)

-- as many items at each port
port_lengths : (u v : Word) → ports_of u ≡ ports_of v → (p : ℕ) → length (at_port p u) ≡ length (at_port p v)
port_lengths [] [] e p = refl
port_lengths [] (b ∷ v) e p = let l = ap length e in absurd (omega (arith, l))
port_lengths (a ∷ u) [] e p = let l = ap length e in absurd (omega (arith, l))
port_lengths (a ∷ u) (b ∷ v) e p =
    let h = head_same a.0 b.0 (ports_of u) (ports_of v) e in
    let t = port_lengths u v (tail_same a.0 b.0 (ports_of u) (ports_of v) e) p in
    ⊎_elim
    (λ q. ap length (at_port_here p a u q) ∙ ap suc t ∙ sym (ap length (at_port_here p b v (sym h ∙ q))))
    (λ n. ap length (at_port_past p a u n) ∙ t ∙ sym (ap length (at_port_past p b v (λ q. n (h ∙ q)))))
    (cases_eq a.0 p)

typed_front : (types : List QueueType) (u v : Word) → IsWordOf types (u ++ v) → IsWordOf types u
typed_front types [] v a = tt
typed_front types (e ∷ u) v a = (a.0, typed_front types u v a.1)

typed_back : (types : List QueueType) (u v : Word) → IsWordOf types (u ++ v) → IsWordOf types v
typed_back types [] v a = a
typed_back types (e ∷ u) v a = typed_back types u v a.1

-- the word of one item more: the word before, and the item that the last one stands for
pub record Longer (types : List QueueType) (w is : Word) (port : ℕ) (i : item.Item) : Type 0 where
  pub before : Word
  pub item : item.Item
  pub splits : w ≡ before ++ (port, item) ∷ []
  pub typed : IsWordOf types before
  pub is_of : IsOf types port item
  pub held : IsHeldAs types before is
  pub next : held_at types port (at_port port before) (item ∷ []) ≡ i ∷ []

-- a word of these types that is held as one item more is a longer word
pub longer_word : (types : List QueueType) (w is : Word) (port : ℕ) (i : item.Item) → IsWordOf types w → IsHeldAs types w (is ++ (port, i) ∷ [])
    → Longer types w is port i
longer_word types [] is port i a h =
    let l = ap length (h.ports ∙ ports-append is ((port, i) ∷ [])) in
    let m = length-append (ports_of is) (port ∷ []) in
    absurd (omega (arith, l, m))
longer_word types (e ∷ es) is port i a h = record {
  before = l.front;
  item = l.last.1;
  splits = split;
  typed = typed_front types l.front ((port, l.last.1) ∷ []) typed2;
  is_of = (typed_back types l.front ((port, l.last.1) ∷ []) typed2).0;
  held = record { ports = same; items = items };
  next = drop_front2;
}
  where
    l : Last (e ∷ es)
    l = last_of e es

    ports : ports_of l.front ++ l.last.0 ∷ [] ≡ ports_of is ++ port ∷ []
    ports = sym (ports-append l.front (l.last ∷ [])) ∙ ap ports_of (sym l.is) ∙ h.ports ∙ ports-append is ((port, i) ∷ [])

    same : ports_of l.front ≡ ports_of is
    same = snoc_front (ports_of l.front) (ports_of is) l.last.0 port ports

    port_is : l.last.0 ≡ port
    port_is = snoc_last (ports_of l.front) (ports_of is) l.last.0 port ports

    split : e ∷ es ≡ l.front ++ (port, l.last.1) ∷ []
    split = l.is ∙ ap (λ p. l.front ++ (p, l.last.1) ∷ []) port_is

    typed2 : IsWordOf types (l.front ++ (port, l.last.1) ∷ [])
    typed2 = subst (IsWordOf types) split a

    here : at_port port is ++ i ∷ [] ≡ held_at types port [] (at_port port l.front) ++ held_at types port (at_port port l.front) (l.last.1 ∷ [])
    here = sym (at_next port is i) ∙ h.items port ∙ ap (λ w. held_at types port [] (at_port port w)) split
        ∙ ap (held_at types port []) (at_next port l.front l.last.1)
        ∙ at-append types port [] (at_port port l.front) (l.last.1 ∷ [])

    long : length (at_port port is) ≡ length (held_at types port [] (at_port port l.front))
    long = sym (port_lengths l.front is same port) ∙ sym (at-length types port [] (at_port port l.front))

    fronts : at_port port is ≡ held_at types port [] (at_port port l.front)
    fronts =
        let n = length (at_port port is) in
        sym (take_at (at_port port is) (i ∷ []) n refl) ∙ ap (take n) here
        ∙ take_at (held_at types port [] (at_port port l.front)) (held_at types port (at_port port l.front) (l.last.1 ∷ [])) n (sym long)

    drop_front2 : held_at types port (at_port port l.front) (l.last.1 ∷ []) ≡ i ∷ []
    drop_front2 =
        let n = length (at_port port is) in
        sym (drop_at (held_at types port [] (at_port port l.front)) (held_at types port (at_port port l.front) (l.last.1 ∷ [])) n (sym long))
        ∙ ap (drop n) (sym here) ∙ drop_at (at_port port is) (i ∷ []) n refl

    items : (p : ℕ) → at_port p is ≡ held_at types p [] (at_port p l.front)
    items p = ⊎_elim
        (λ q. subst (λ n. at_port n is ≡ held_at types n [] (at_port n l.front)) q fronts)
        (λ ne.
        let none = λ (u : Word) (x : item.Item). at_port-append p u ((port, x) ∷ []) ∙ ap (λ t. at_port p u ++ t) (at_port_past p (port, x) [] ne)
        ∙ append-nil (at_port p u) in
        sym (none is i) ∙ h.items p ∙ ap (λ w. held_at types p [] (at_port p w)) split ∙ ap (held_at types p []) (none l.front l.last.1))
        (cases_eq port p)
