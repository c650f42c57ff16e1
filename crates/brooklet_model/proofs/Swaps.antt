-- Firings at different ports may be exchanged.
use Rattle.std.proofs.Common.{◌≡◌, ◌≢◌, ℕ, ℤ, ◌+◌, ◌<◌, List, [], ◌∷◌, ◌++◌, refl, sym, ap, ◌∙◌, subst, arith, append_assoc, nat_eq, ⊎_elim}
use Rattle.std.specs.Prelude.{if◌then◌else◌, count_by}
use Rattle.std.proofs.lemmas.Bool.{cases_eq}
use Rattle.river_base.proofs.PlaceLemmas.{if_eq, if_ne}
use Rattle.river_base.proofs.Lists.{count_by-append, head_same, tail_same}
use Rattle.river_base.specs.declared.item.Item as item
use Rattle.brooklet_model.specs.Firings.{Kept, Fired, and_then, Same}
use Rattle.river_base.specs.Bags.{SameBag}
use Rattle.brooklet_model.specs.Words.{Word, run, at_port, PortsBelow, Alike}

pub alike_refl : (r : Fired) → Alike r r
alike_refl r = record { outs = λ p. refl; adds = λ t test. refl; states = refl }

-- alike is transitive
pub alike_trans : (r s t : Fired) → Alike r s → Alike s t → Alike r t
alike_trans r s t a b = record { outs = λ p. a.outs p ∙ b.outs p; adds = λ u test. a.adds u test ∙ b.adds u test; states = a.states ∙ b.states }

-- alike is symmetric
pub alike_sym : (r s : Fired) → Alike r s → Alike s r
alike_sym r s a = record { outs = λ p. sym (a.outs p); adds = λ u test. sym (a.adds u test); states = sym a.states }

-- what is the same is alike
pub alike_same : (r s : Fired) → Same r s → Alike r s
alike_same r s a = record { outs = a.outs; adds = λ u test. ap (count_by test) (a.adds u); states = a.states }

-- lists that are one bag, put behind lists that are one bag, are one bag with them
pub bag_append : (xs xs' ys ys' : List (List ℤ)) → SameBag xs xs' → SameBag ys ys' → SameBag (xs ++ ys) (xs' ++ ys')
bag_append xs xs' ys ys' a b test =
    let h = a test in let j = b test in
    omega (arith, count_by-append test xs ys, count_by-append test xs' ys', h, j)

pub alike_then : (r s s' : Fired) → Alike s s' → Alike (and_then r s) (and_then r s')
alike_then r s s' a = record {
  outs = λ p. ap (λ l. r.outs p ++ l) (a.outs p);
  adds = λ t. bag_append (r.adds t) (r.adds t) (s.adds t) (s'.adds t) (λ test. refl) (a.adds t);
  states = a.states;
}

pub alike_first : (r r' : Fired) (g : List Kept → Fired) → Alike r r' → Alike (and_then r (g r.states)) (and_then r' (g r'.states))
alike_first r r' g a = record {
  outs = λ p. ap (λ l. l ++ (g r.states).outs p) (a.outs p) ∙ ap (λ ss. r'.outs p ++ (g ss).outs p) a.states;
  adds =
      λ t. bag_append (r.adds t) (r'.adds t) ((g r.states).adds t) ((g r'.states).adds t) (a.adds t)
      (λ test. ap (λ ss. count_by test ((g ss).adds t)) a.states);
  states = ap (λ ss. (g ss).states) a.states;
}

pub same_assoc : (a b c : Fired) → Same (and_then (and_then a b) c) (and_then a (and_then b c))
same_assoc a b c =
    record { outs = λ p. append_assoc (a.outs p) (b.outs p) (c.outs p); adds = λ t. append_assoc (a.adds t) (b.adds t) (c.adds t); states = refl }

-- the first item of a word, at its port
pub at_port_here : (p : ℕ) (e : ℕ × item.Item) (es : Word) → e.0 ≡ p → at_port p (e ∷ es) ≡ e.1 ∷ at_port p es
at_port_here p e es h = if_eq e.0 p (e.1 ∷ at_port p es) (at_port p es) h

-- the first item of a word is at no other port
pub at_port_past : (p : ℕ) (e : ℕ × item.Item) (es : Word) → e.0 ≢ p → at_port p (e ∷ es) ≡ at_port p es
at_port_past p e es h = if_ne e.0 p (e.1 ∷ at_port p es) (at_port p es) h

-- the word without the first firing at a port
pub pull : ℕ → Word → Word
pull p [] = []
pull p (e ∷ es) = if nat_eq e.0 p then es else e ∷ pull p es

pull_here : (p : ℕ) (e : ℕ × item.Item) (es : Word) → e.0 ≡ p → pull p (e ∷ es) ≡ es
unfolding pull
pull_here p e es h = if_eq e.0 p es (e ∷ pull p es) h

pull_past : (p : ℕ) (e : ℕ × item.Item) (es : Word) → e.0 ≢ p → pull p (e ∷ es) ≡ e ∷ pull p es
unfolding pull
pull_past p e es h = if_ne e.0 p es (e ∷ pull p es) h

pull_below : (n p : ℕ) (w : Word) → PortsBelow n w → PortsBelow n (pull p w)
unfolding pull
pull_below n p [] b = tt
pull_below n p (e ∷ es) b = ⊎_elim
    (λ h. subst (PortsBelow n) (sym (pull_here p e es h)) b.1)
    (λ h. subst (PortsBelow n) (sym (pull_past p e es h)) (b.0, pull_below n p es b.1))
    (cases_eq e.0 p)

no_head : {B : Type 0} (x : item.Item) (xs : List item.Item) → [] ≡ x ∷ xs → B
no_head x xs h = absurd (cc h)

at_port_pulled : (p : ℕ) (x : item.Item) (xs : List item.Item) (w : Word) → at_port p w ≡ x ∷ xs → at_port p (pull p w) ≡ xs
unfolding pull
at_port_pulled p x xs [] h = no_head x xs h
at_port_pulled p x xs (e ∷ es) h = ⊎_elim
    (λ eq. ap (at_port p) (pull_here p e es eq) ∙ tail_same e.1 x (at_port p es) xs (sym (at_port_here p e es eq) ∙ h))
    (λ ne. ap (at_port p) (pull_past p e es ne) ∙ at_port_past p e (pull p es) ne ∙ at_port_pulled p x xs es (sym (at_port_past p e es ne) ∙ h))
    (cases_eq e.0 p)

at_port_other : (p q : ℕ) (w : Word) → q ≢ p → at_port q (pull p w) ≡ at_port q w
unfolding pull
at_port_other p q [] ne = refl
at_port_other p q (e ∷ es) ne = ⊎_elim
    (λ eq. ap (at_port q) (pull_here p e es eq) ∙ sym (at_port_past q e es (λ h. ne (sym h ∙ eq))))
    (λ no. ap (at_port q) (pull_past p e es no) ∙ ⊎_elim
    (λ eq. at_port_here q e (pull p es) eq ∙ ap (λ l. e.1 ∷ l) (at_port_other p q es ne) ∙ sym (at_port_here q e es eq))
    (λ nq. at_port_past q e (pull p es) nq ∙ at_port_other p q es ne ∙ sym (at_port_past q e es nq))
    (cases_eq e.0 q))
    (cases_eq e.0 p)

-- firings at different ports below n may be exchanged
pub record Swaps (n : ℕ) (f : ℕ → item.Item → List Kept → Fired) (P : List Kept → Type 0) : Type 0 where
  pub kept : (p : ℕ) (x : item.Item) (ss : List Kept) → P ss → P (f p x ss).states
  pub swap : (p q : ℕ) (x y : item.Item) (ss : List Kept) → p < n → q < n → p ≢ q → P ss
      → Alike (and_then (f p x ss) (f q y (f p x ss).states)) (and_then (f q y ss) (f p x (f q y ss).states))

module _ (n : ℕ) (f : ℕ → item.Item → List Kept → Fired) (P : List Kept → Type 0) (s : Swaps n f P) where
  -- a port's first firing may come first
  move : (p : ℕ) (x : item.Item) (xs : List item.Item) (w : Word) (ss : List Kept) → p < n → PortsBelow n w → P ss → at_port p w ≡ x ∷ xs
      → Alike (run f w ss) (run f ((p, x) ∷ pull p w) ss)
  move p x xs [] ss hp hb h e = no_head x xs e
  move p x xs (e ∷ es) ss hp hb h is = ⊎_elim
      (λ eq.
      let e1 : e.1 ≡ x = head_same e.1 x (at_port p es) xs (sym (at_port_here p e es eq) ∙ is) in
      let a : Alike (run f (e ∷ es) ss) (run f ((p, e.1) ∷ es) ss) =
      subst (λ o. Alike (run f (e ∷ es) ss) (run f ((o, e.1) ∷ es) ss)) eq (alike_refl (run f (e ∷ es) ss)) in
      let b : Alike (run f (e ∷ es) ss) (run f ((p, x) ∷ es) ss) = subst (λ o. Alike (run f (e ∷ es) ss) (run f ((p, o) ∷ es) ss)) e1 a in
      subst (λ o. Alike (run f (e ∷ es) ss) (run f ((p, x) ∷ o) ss)) (sym (pull_here p e es eq)) b)
      (λ ne.
      let r = f e.0 e.1 ss in
      let t = f p x ss in
      let g : List Kept → Fired = run f (pull p es) in
      let ih = move p x xs es r.states hp hb.1 (s.kept e.0 e.1 ss h) (sym (at_port_past p e es ne) ∙ is) in
      let c1 = alike_then r (run f es r.states) (run f ((p, x) ∷ pull p es) r.states) ih in
      let c2 = alike_sym _ _ (alike_same _ _ (same_assoc r (f p x r.states) (g (f p x r.states).states))) in
      let c3 = alike_first (and_then r (f p x r.states)) (and_then t (f e.0 e.1 t.states)) g (s.swap e.0 p e.1 x ss hb.0 hp ne h) in
      let c4 = alike_same _ _ (same_assoc t (f e.0 e.1 t.states) (g (f e.0 e.1 t.states).states)) in
      let all : Alike (run f (e ∷ es) ss) (run f ((p, x) ∷ e ∷ pull p es) ss) = alike_trans _ _ _ c1 (alike_trans _ _ _ c2 (alike_trans _ _ _ c3 c4)) in
      subst (λ o. Alike (run f (e ∷ es) ss) (run f ((p, x) ∷ o) ss)) (sym (pull_past p e es ne)) all)
      (cases_eq e.0 p)

  -- words with the same items at each port
  pub same_lists : (w' w : Word) (ss : List Kept) → PortsBelow n w → PortsBelow n w' → P ss → ((p : ℕ) → p < n → at_port p w ≡ at_port p w')
      → Alike (run f w ss) (run f w' ss)
  same_lists [] [] ss b b' h same = alike_refl (run f [] ss)
  same_lists [] (e ∷ es) ss b b' h same = no_head e.1 (at_port e.0 es) (sym (same e.0 b.0) ∙ at_port_here e.0 e es refl)
  same_lists (e ∷ es) w ss b b' h same =
      let is : at_port e.0 w ≡ e.1 ∷ at_port e.0 es = same e.0 b'.0 ∙ at_port_here e.0 e es refl in
      let first = move e.0 e.1 (at_port e.0 es) w ss b'.0 b h is in
      let rest = same_lists es (pull e.0 w) (f e.0 e.1 ss).states (pull_below n e.0 w b) b'.1 (s.kept e.0 e.1 ss h)
      (λ q hq. ⊎_elim
      (λ eq. subst (λ o. at_port o (pull e.0 w) ≡ at_port o es) (sym eq) (at_port_pulled e.0 e.1 (at_port e.0 es) w is))
      (λ ne. at_port_other e.0 q w ne ∙ same q hq ∙ at_port_past q e es (λ o. ne (sym o)))
      (cases_eq q e.0)) in
      alike_trans _ _ _ first (alike_then (f e.0 e.1 ss) _ _ rest)
