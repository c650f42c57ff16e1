-- A kernel in two parts, over any firings.
use Rattle.std.proofs.Common.{◌≡◌, ℕ, ℤ, ◌+◌, ◌-◌, List, [], ◌∷◌, ◌++◌, take, drop, sym, ap, ◌∙◌, subst, nat_lt, ⊎_elim}
use Rattle.std.specs.Prelude.{if◌then◌else◌}
use Rattle.std.proofs.lemmas.List.{take-append-drop, take_at, drop_at}
use Rattle.std.proofs.lemmas.Bool.{cases_lt}
use Rattle.river_base.proofs.PlaceLemmas.{if_lt, if_ge}
use Rattle.river_base.specs.declared.item.Item as item
use Rattle.river_base.specs.Places.{none}
use Rattle.river_kernels.specs.Kern.{Kern, fused}
use Rattle.brooklet_model.specs.Firings.{Kept, Fired, feed, splice, beside, fused_of, Same}
use Rattle.brooklet_model.specs.Fire.{fire, outs, tabs, privates}
use Rattle.brooklet_model.specs.Shapes.{IsShaped, HasShape}
use Rattle.brooklet_model.specs.Words.{Word, run}
use Rattle.brooklet_model.specs.Laws.{FusedRuns}
use Rattle.brooklet_model.proofs.Lists.{feed-append}
use Rattle.brooklet_model.proofs.Ports.{formed_shaped}
use Rattle.brooklet_model.proofs.Shapes.{fire_shape, shape_length}

pub splice-append : {A : Type 0} (at n : ℕ) (f f' g g' : ℕ → List A) (p : ℕ)
    → splice at n f g p ++ splice at n f' g' p ≡ splice at n (λ q. f q ++ f' q) (λ q. g q ++ g' q) p
splice-append at n f f' g g' p = ⊎_elim
    (λ lt. ap (λ t. t ++ splice at n f' g' p) (if_lt p at (f p) _ lt) ∙ ap (λ t. f p ++ t) (if_lt p at (f' p) _ lt) ∙ sym (if_lt p at (f p ++ f' p) _ lt))
    (λ ge. ap (λ t. t ++ splice at n f' g' p) (if_ge p at (f p) _ ge)
    ∙ ap (λ t. (if nat_lt (p - at) n then g (p - at) else f (p - n + 1)) ++ t) (if_ge p at (f' p) _ ge) ∙ ⊎_elim
    (λ lt. ap (λ t. t ++ (if nat_lt (p - at) n then g' (p - at) else f' (p - n + 1))) (if_lt (p - at) n (g (p - at)) _ lt)
    ∙ ap (λ t. g (p - at) ++ t) (if_lt (p - at) n (g' (p - at)) _ lt) ∙ sym (if_lt (p - at) n (g (p - at) ++ g' (p - at)) _ lt))
    (λ le. ap (λ t. t ++ (if nat_lt (p - at) n then g' (p - at) else f' (p - n + 1))) (if_ge (p - at) n _ (f (p - n + 1)) le)
    ∙ ap (λ t. f (p - n + 1) ++ t) (if_ge (p - at) n _ (f' (p - n + 1)) le) ∙ sym (if_ge (p - at) n _ (f (p - n + 1) ++ f' (p - n + 1)) le))
    (cases_lt (p - at) n)
    ∙ sym (if_ge p at (f p ++ f' p) _ ge))
    (cases_lt p at)

pub beside-append : {A : Type 0} (n : ℕ) (f f' g g' : ℕ → List A) (p : ℕ)
    → beside n f g p ++ beside n f' g' p ≡ beside n (λ q. f q ++ f' q) (λ q. g q ++ g' q) p
beside-append n f f' g g' p = ⊎_elim
    (λ lt. ap (λ t. t ++ beside n f' g' p) (if_lt p n (f p) _ lt) ∙ ap (λ t. f p ++ t) (if_lt p n (f' p) _ lt) ∙ sym (if_lt p n (f p ++ f' p) _ lt))
    (λ ge. ap (λ t. t ++ beside n f' g' p) (if_ge p n _ (g (p - n)) ge) ∙ ap (λ t. g (p - n) ++ t) (if_ge p n _ (g' (p - n)) ge)
    ∙ sym (if_ge p n _ (g (p - n) ++ g' (p - n)) ge))
    (cases_lt p n)

splice-none : (at n : ℕ) (p : ℕ) → [] ≡ splice {A = List item.Item} at n none none p
splice-none at n p = ⊎_elim
    (λ lt. sym (if_lt p at [] _ lt))
    (λ ge. ⊎_elim (λ lt. sym (if_lt (p - at) n [] [] lt)) (λ le. sym (if_ge (p - at) n [] [] le)) (cases_lt (p - at) n) ∙ sym (if_ge p at [] _ ge))
    (cases_lt p at)

beside-none : (n p : ℕ) → [] ≡ beside {A = List (List ℤ)} n none none p
beside-none n p = ⊎_elim (λ lt. sym (if_lt p n [] [] lt)) (λ ge. sym (if_ge p n [] [] ge)) (cases_lt p n)

pub same_trans : (r s t : Fired) → Same r s → Same s t → Same r t
same_trans r s t h k = record { outs = λ p. h.outs p ∙ k.outs p; adds = λ p. h.adds p ∙ k.adds p; states = h.states ∙ k.states }

pub splice_same : {A : Type 0} (at n : ℕ) (f g g' : ℕ → A) → ((q : ℕ) → g q ≡ g' q) → (p : ℕ) → splice at n f g p ≡ splice at n f g' p
splice_same at n f g g' h p = ap (λ l. if nat_lt p at then f p else (if nat_lt (p - at) n then l else f (p - n + 1))) (h (p - at))

pub beside_same : {A : Type 0} (n : ℕ) (f g g' : ℕ → A) → ((q : ℕ) → g q ≡ g' q) → (p : ℕ) → beside n f g p ≡ beside n f g' p
beside_same n f g g' h p = ap (λ l. if nat_lt p n then f p else l) (h (p - n))

-- a run of a fused kernel is one of its first part, and its second part fed with what that gave
pub fused_runs : (a b : Kern) (at : ℕ) (w : Word) (ss : List Kept) → IsShaped (fused a b at) → HasShape (fused a b at) ss
    → Same (run (fire (fused a b at)) w ss)
    (fused_of at (outs b) (tabs a) (run (fire a) w (take (privates a) ss)) (λ xs. feed (fire b 0) xs (drop (privates a) ss)))
fused_runs a b at [] ss f h = record {
  outs = splice-none at (outs b);
  adds = beside-none (tabs a);
  states = sym (take-append-drop (privates a) ss);
}
fused_runs a b at (e ∷ es) ss f h =
    let k = fused a b at in
    let ra = fire a e.0 e.1 (take (privates a) ss) in
    let rb = feed (fire b 0) (ra.outs at) (drop (privates a) ss) in
    let h' = fire_shape k e.0 e.1 ss f h in
    let la = shape_length a ra.states (fire_shape a e.0 e.1 (take (privates a) ss) f.0 h.0) in
    let ih = fused_runs a b at es (ra.states ++ rb.states) f h' in
    let ih' : Same (run (fire k) es (ra.states ++ rb.states)) (fused_of at (outs b) (tabs a) (run (fire a) es ra.states) (λ xs. feed (fire b 0) xs rb.states)) =
    subst (λ us. Same (run (fire k) es (ra.states ++ rb.states)) (fused_of at (outs b) (tabs a) (run (fire a) es us) (λ xs. feed (fire b 0) xs rb.states)))
    (take_at ra.states rb.states (privates a) la)
    (subst (λ us. Same (run (fire k) es (ra.states ++ rb.states))
    (fused_of at (outs b) (tabs a) (run (fire a) es (take (privates a) (ra.states ++ rb.states))) (λ xs. feed (fire b 0) xs us)))
    (drop_at ra.states rb.states (privates a) la) ih) in
    let sa = run (fire a) es ra.states in
    let sb = feed (fire b 0) (sa.outs at) rb.states in
    let fa = feed-append (fire b 0) (ra.outs at) (sa.outs at) (drop (privates a) ss) in
    record {
      outs = λ p.
          ap (λ l. splice at (outs b) ra.outs rb.outs p ++ l) (ih'.outs p)
          ∙ splice-append at (outs b) ra.outs sa.outs rb.outs sb.outs p
          ∙ splice_same at (outs b) (λ q. ra.outs q ++ sa.outs q) _ _ (λ q. sym (fa.outs q)) p;
      adds = λ p.
          ap (λ l. beside (tabs a) ra.adds rb.adds p ++ l) (ih'.adds p)
          ∙ beside-append (tabs a) ra.adds sa.adds rb.adds sb.adds p
          ∙ beside_same (tabs a) (λ q. ra.adds q ++ sa.adds q) _ _ (λ q. sym (fa.adds q)) p;
      states = ih'.states ∙ ap (λ us. sa.states ++ us) (sym fa.states);
    }

-- over any firings, a fused kernel gives what its two parts give
pub fused_law : FusedRuns
fused_law a b at w ss f h = fused_runs a b at w ss (formed_shaped (fused a b at) f) h
