-- The order of the ports is free.
use Rattle.std.proofs.Common.{◌≡◌, ◌≢◌, ℕ, zero, suc, ℤ, ◌+◌, ◌-◌, ◌<◌, ◌≤◌, List, [], ◌∷◌, ◌++◌, length, take, drop, refl, sym, ap, ◌∙◌, arith, nat_lt, ⊎_elim}
use Rattle.std.specs.Prelude.{if◌then◌else◌, count_by}
use Rattle.std.proofs.lemmas.Bool.{cases_eq, cases_lt}
use Rattle.std.proofs.lemmas.List.{append-nil}
use Rattle.river_base.proofs.PlaceLemmas.{if_lt, if_ge}
use Rattle.river_base.specs.declared.item.Item as item
use Rattle.river_base.specs.Held.{items_of}
use Rattle.kern_rows.specs.Turns.{shares, ones, itself}
use Rattle.river_kernels.specs.Kern.{Kern, collect, unpack, cross, fused}
use Rattle.brooklet_model.specs.Firings.{Kept, Fired, feed, splice, beside, fused_of}
use Rattle.brooklet_model.specs.Fire.{fire, ins, outs, tabs, privates}
use Rattle.brooklet_model.specs.Laws.{OrderIsFree}
use Rattle.brooklet_model.specs.Shapes.{IsShaped, HasShape}
use Rattle.river_base.specs.Bags.{SameBag}
use Rattle.brooklet_model.specs.Words.{Word, run, at_port, PortsBelow, Alike, word_of, port_by_port, feed_all, IsInterleaving}
use Rattle.brooklet_model.proofs.FusedRun.{fused_runs}
use Rattle.brooklet_model.proofs.Joins.{join_swap, cross_swap}
use Rattle.brooklet_model.proofs.Ports.{formed_shaped}
use Rattle.brooklet_model.proofs.Shapes.{fire_shape}
use Rattle.brooklet_model.proofs.Swaps.{Swaps, same_lists, alike_trans, alike_sym, alike_same, at_port_here, at_port_past}

-- KERNELS THAT ARE ONE PART

one_port : (k : Kern) → ins k ≡ 1 → IsShaped k → Swaps (ins k) (fire k) (HasShape k)
one_port k e f = record {
  kept = λ p x ss h. fire_shape k p x ss f h;
  swap = λ p q x y ss hp hq ne h. absurd (let p0 : p ≡ q = omega (arith, hp, hq, e) in ne p0);
}

collect_swaps : (ws : List ℤ) → IsShaped (collect ws) → Swaps (length ws) (fire (collect ws)) (HasShape (collect ws))
collect_swaps ws f = record {
  kept = λ p x ss h. fire_shape (collect ws) p x ss f h;
  swap = λ p q x y ss hp hq ne h. join_swap itself (shares ws) (length ws) p q x y ss hp hq ne h;
}

unpack_swaps : (n : ℕ) → IsShaped (unpack n) → Swaps n (fire (unpack n)) (HasShape (unpack n))
unpack_swaps n f = record {
  kept = λ p x ss h. fire_shape (unpack n) p x ss f h;
  swap = λ p q x y ss hp hq ne h. join_swap items_of (ones n) n p q x y ss hp hq ne h;
}

cross_swaps : IsShaped cross → Swaps 2 (fire cross) (HasShape cross)
cross_swaps f = record {
  kept = λ p x ss h. fire_shape cross p x ss f h;
  swap = λ p q x y ss hp hq ne h. cross_swap p q x y ss hp hq ne h;
}

-- KERNELS OF TWO PARTS

splice_first : {A : Type 0} (at n : ℕ) (f f' g : ℕ → A) → ((q : ℕ) → f q ≡ f' q) → (p : ℕ) → splice at n f g p ≡ splice at n f' g p
splice_first at n f f' g h p =
    ap (λ l. if nat_lt p at then l else (if nat_lt (p - at) n then g (p - at) else f (p - n + 1))) (h p)
    ∙ ap (λ l. if nat_lt p at then f' p else (if nat_lt (p - at) n then g (p - at) else l)) (h (p - n + 1))

beside_bag : (n : ℕ) (f f' g g' : ℕ → List (List ℤ)) → ((q : ℕ) → SameBag (f q) (f' q)) → ((q : ℕ) → SameBag (g q) (g' q)) → (t : ℕ)
    → SameBag (beside n f g t) (beside n f' g' t)
beside_bag n f f' g g' hf hg t test = ⊎_elim
    (λ lt. ap (count_by test) (if_lt t n (f t) _ lt) ∙ hf t test ∙ sym (ap (count_by test) (if_lt t n (f' t) _ lt)))
    (λ ge. ap (count_by test) (if_ge t n _ (g (t - n)) ge) ∙ hg (t - n) test ∙ sym (ap (count_by test) (if_ge t n _ (g' (t - n)) ge)))
    (cases_lt t n)

alike_fused : (at n t : ℕ) (r s : Fired) (second : List item.Item → Fired) → Alike r s → Alike (fused_of at n t r second) (fused_of at n t s second)
alike_fused at n t r s second a = record {
  outs = λ p. splice_first at n r.outs s.outs (second (r.outs at)).outs a.outs p ∙ ap (λ l. splice at n s.outs (second l).outs p) (a.outs at);
  adds =
      λ u. beside_bag t r.adds s.adds (second (r.outs at)).adds (second (s.outs at)).adds a.adds
      (λ q test. ap (λ l. count_by test ((second l).adds q)) (a.outs at)) u;
  states = ap (λ us. us ++ (second (r.outs at)).states) a.states ∙ ap (λ l. s.states ++ (second l).states) (a.outs at);
}

-- any two words with the same items at each port are alike
pub free : (k : Kern) (w w' : Word) (ss : List Kept) → IsShaped k → HasShape k ss → PortsBelow (ins k) w → PortsBelow (ins k) w'
    → ((p : ℕ) → p < ins k → at_port p w ≡ at_port p w') → Alike (run (fire k) w ss) (run (fire k) w' ss)
free (collect ws) w w' ss f h b b' e = same_lists (length ws) (fire (collect ws)) (HasShape (collect ws)) (collect_swaps ws f) w' w ss b b' h e
free (unpack n) w w' ss f h b b' e = same_lists n (fire (unpack n)) (HasShape (unpack n)) (unpack_swaps n f) w' w ss b b' h e
free cross w w' ss f h b b' e = same_lists 2 (fire cross) (HasShape cross) (cross_swaps f) w' w ss b b' h e
free (fused a b at) w w' ss f h bw bw' e =
    let second = λ (xs : List item.Item). feed (fire b 0) xs (drop (privates a) ss) in
    let ih = free a w w' (take (privates a) ss) f.0 h.0 bw bw' e in
    alike_trans _ _ _ (alike_same _ _ (fused_runs a b at w ss f h))
    (alike_trans _ _ _ (alike_fused at (outs b) (tabs a) _ _ second ih)
    (alike_sym _ _ (alike_same _ _ (fused_runs a b at w' ss f h))))
free kernel w w' ss f h b b' e = same_lists 1 (fire kernel) (HasShape kernel) (one_port kernel refl f) w' w ss b b' h e

-- THE ORDER OF FEEDING

-- the items of a port in two words, one after the other
pub at_port-append : (p : ℕ) (u v : Word) → at_port p (u ++ v) ≡ at_port p u ++ at_port p v
at_port-append p [] v = refl
at_port-append p (e ∷ es) v = ⊎_elim
    (λ h. at_port_here p e (es ++ v) h ∙ ap (λ t. e.1 ∷ t) (at_port-append p es v) ∙ ap (λ t. t ++ at_port p v) (sym (at_port_here p e es h)))
    (λ h. at_port_past p e (es ++ v) h ∙ at_port-append p es v ∙ ap (λ t. t ++ at_port p v) (sym (at_port_past p e es h)))
    (cases_eq e.0 p)

-- the word of a list at a port has that list there
pub at_port-word_same : (p : ℕ) (xs : List item.Item) → at_port p (word_of p xs) ≡ xs
at_port-word_same p [] = refl
at_port-word_same p (x ∷ xs) = at_port_here p (p, x) (word_of p xs) refl ∙ ap (λ t. x ∷ t) (at_port-word_same p xs)

-- a word of another port has nothing at this one
pub at_port-word_other : (p q : ℕ) (xs : List item.Item) → q ≢ p → at_port p (word_of q xs) ≡ []
at_port-word_other p q [] ne = refl
at_port-word_other p q (x ∷ xs) ne = at_port_past p (q, x) (word_of q xs) ne ∙ at_port-word_other p q xs ne

at_port-in_order_below : (n q : ℕ) (h : ℕ → List item.Item) (p : ℕ) → p < q → at_port p (port_by_port n q h) ≡ []
at_port-in_order_below zero q h p lt = refl
at_port-in_order_below (suc n) q h p lt =
    at_port-append p (word_of q (h q)) (port_by_port n (suc q) h)
    ∙ ap (λ t. t ++ at_port p (port_by_port n (suc q) h)) (at_port-word_other p q (h q) (omega arith))
    ∙ at_port-in_order_below n (suc q) h p (omega arith)

-- a word that feeds n ports one after another, from port q on, has at each of them its list
pub at_port-port_by_port : (n q : ℕ) (h : ℕ → List item.Item) (p : ℕ) → q ≤ p → p < q + n → at_port p (port_by_port n q h) ≡ h p
at_port-port_by_port zero q h p le lt = absurd (omega arith)
at_port-port_by_port (suc n) q h p le lt =
    at_port-append p (word_of q (h q)) (port_by_port n (suc q) h)
    ∙ ⊎_elim
    (λ eq.
    ap (λ o. at_port p (word_of o (h o)) ++ at_port p (port_by_port n (suc q) h)) eq
    ∙ ap (λ t. t ++ at_port p (port_by_port n (suc q) h)) (at_port-word_same p (h p))
    ∙ ap (λ t. h p ++ t) (at_port-in_order_below n (suc q) h p (omega arith))
    ∙ append-nil (h p))
    (λ ne.
    ap (λ t. t ++ at_port p (port_by_port n (suc q) h)) (at_port-word_other p q (h q) ne)
    ∙ at_port-port_by_port n (suc q) h p (omega arith) (omega arith))
    (cases_eq q p)

-- two words whose ports are below n, one after the other
pub below-append : (n : ℕ) (u v : Word) → PortsBelow n u → PortsBelow n v → PortsBelow n (u ++ v)
below-append n [] v a b = b
below-append n (e ∷ es) v a b = (a.0, below-append n es v a.1 b)

below-word : (n p : ℕ) (xs : List item.Item) → p < n → PortsBelow n (word_of p xs)
below-word n p [] h = tt
below-word n p (x ∷ xs) h = (h, below-word n p xs h)

-- the ports of a word that goes port by port are below the last one
pub below-port_by_port : (m n q : ℕ) (h : ℕ → List item.Item) → q + n ≤ m → PortsBelow m (port_by_port n q h)
below-port_by_port m zero q h le = tt
below-port_by_port m (suc n) q h le =
    below-append m (word_of q (h q)) (port_by_port n (suc q) h) (below-word m q (h q) (omega arith)) (below-port_by_port m n (suc q) h (omega arith))

-- any word that has these items at its ports does what feeding port by port does
pub order_is_free : (k : Kern) (h : ℕ → List item.Item) (w : Word) (ss : List Kept) → IsShaped k → HasShape k ss → IsInterleaving (ins k) h w
    → Alike (run (fire k) w ss) (feed_all k h ss)
order_is_free k h w ss f sh i =
    free k w (port_by_port (ins k) 0 h) ss f sh i.below (below-port_by_port (ins k) (ins k) 0 h (omega arith))
    (λ p lt. i.lists p lt ∙ sym (at_port-port_by_port (ins k) 0 h p (omega arith) (omega (arith, lt))))

-- in whatever order items come, a kernel gives the same
pub order_law : OrderIsFree
order_law k h w ss f sh i = order_is_free k h w ss (formed_shaped k f) sh i
