-- What a fused operator gives.
use Rattle.std.proofs.Common.{◌≡◌, ℕ, zero, suc, ◌+◌, ◌-◌, ◌<◌, List, [], ◌∷◌, ◌++◌, length, drop, sym, ap, ◌∙◌, subst, arith, ⊎_elim, append_assoc, map}
use Rattle.std.specs.Prelude.{if◌then◌else◌, slice_get, Some}
use Rattle.std.proofs.lemmas.Bool.{cases_lt}
use Rattle.std.proofs.lemmas.List.{map-append, take_at, drop_at}
use Rattle.river_base.proofs.PlaceLemmas.{if_lt, if_ge, if_true, if_false}
use Rattle.river_base.specs.declared.item.Item as item
use Rattle.river_base.specs.Name.{name_eq}
use Rattle.river_kernels.specs.Kern.{fused}
use Rattle.river_kernels.specs.Fits.{spliced}
use Rattle.river_plan.specs.Forms.{Name, OpForm}
use Rattle.river_plan.specs.Names.{count, one_if}
use Rattle.river_plan.proofs.NameLemmas.{cases_name, count-append}
use Rattle.brooklet_model.specs.Firings.{Same, feed, splice, beside, fused_of}
use Rattle.brooklet_model.specs.Fire.{fire, ins, outs, tabs, privates, first_kept}
use Rattle.brooklet_model.specs.Shapes.{IsShaped}
use Rattle.brooklet_model.specs.Histories.{History, lists_of, given_on, joined, Lists}
use Rattle.brooklet_model.specs.Words.{run, port_by_port, feed_all}
use Rattle.brooklet_model.proofs.Feeds.{one_input}
use Rattle.brooklet_model.proofs.FusedRun.{fused_runs}
use Rattle.brooklet_model.proofs.Shapes.{first_shape, shape_length}
use Rattle.brooklet_model.proofs.Spliced.{splice_first, splice_second, splice_last, splice_next, spliced_next}
use Rattle.brooklet_model.proofs.Traces.{joined_cong, lists_cong}
use Rattle.plan_edits.specs.Lists.{place_of_name}
use Rattle.rw_local.specs.Fuse.{fused_op}

-- SPLICED LISTS

-- splicing and mapping
pub map-spliced : {A B : Type 0} (f : A → B) (at : ℕ) (ms bs : List A) → at < length ms → map f (spliced at ms bs) ≡ spliced at (map f ms) (map f bs)
map-spliced f at [] bs lt = absurd (omega (arith, lt))
map-spliced f zero (m ∷ ms) bs lt = map-append f bs ms
map-spliced f (suc at) (m ∷ ms) bs lt =
    ap (map f) (spliced_next at m ms bs) ∙ ap (λ l. f m ∷ l) (map-spliced f at ms bs (omega (arith, lt))) ∙ sym (spliced_next at (f m) (map f ms) (map f bs))

-- the lists of two lists of names
pub lists_append : (vs ws : List Name) (f g : ℕ → List item.Item) (h : History) → Lists vs f h → Lists ws g h → (k : ℕ → List item.Item)
    → ((j : ℕ) → j < length vs → k j ≡ f j) → ((j : ℕ) → k (length vs + j) ≡ g j) → Lists (vs ++ ws) k h
lists_append [] ws f g h a b k e e' = lists_cong ws g k h (λ j. let z : j ≡ 0 + j = omega arith in sym (ap k z ∙ e' j)) b
lists_append (v ∷ vs) ws f g h a b k e e' = (
  a.0 ∙ sym (e 0 (omega arith)),
  lists_append vs ws (λ j. f (suc j)) g h a.1 b (λ j. k (suc j)) (λ j lt. e (suc j) (omega (arith, lt)))
      (λ j. let z : suc (length vs + j) ≡ length (v ∷ vs) + j = omega arith in ap k z ∙ e' j),
)

-- the lists of spliced names
pub lists_spliced : (at : ℕ) (ws vs : List Name) (f g : ℕ → List item.Item) (h : History) → at < length ws → Lists ws f h → Lists vs g h
    → Lists (spliced at ws vs) (splice at (length vs) f g) h
lists_spliced at [] vs f g h lt a b = absurd (omega (arith, lt))
lists_spliced zero (w ∷ ws) vs f g h lt a b = lists_append vs ws g (λ j. f (suc j)) h b a.1 (splice 0 (length vs) f g)
    (λ j lt. let z : j - 0 ≡ j = omega arith in splice_second 0 (length vs) f g j (omega arith) (omega (arith, lt)) ∙ ap g z)
    (λ j. let z : length vs + j - length vs + 1 ≡ suc j = omega arith in splice_last 0 (length vs) f g (length vs + j) (omega arith) (omega arith) ∙ ap f z)
lists_spliced (suc at) (w ∷ ws) vs f g h lt a b =
    let tail : Lists (spliced at ws vs) (λ j. splice (suc at) (length vs) f g (suc j)) h =
    lists_cong (spliced at ws vs) _ _ h (splice_next at (length vs) f g) (lists_spliced at ws vs (λ j. f (suc j)) g h (omega (arith, lt)) a.1 b) in
    let both : Lists (w ∷ spliced at ws vs) (splice (suc at) (length vs) f g) h = (a.0 ∙ sym (splice_first (suc at) (length vs) f g 0 (omega arith)), tail) in
    subst (λ l. Lists l (splice (suc at) (length vs) f g) h) (sym (spliced_next at w ws vs)) both

-- PLACES

-- the place of a name that is there
pub place_below : (ws : List Name) (q : Name) → 0 < count q ws → place_of_name q ws < length ws
place_below [] q lt = absurd (omega (arith, lt))
place_below (w ∷ ws) q lt = ⊎_elim
    (λ c. let e = if_true (name_eq w q) 0 (suc (place_of_name q ws)) c.1 in omega (arith, e))
    (λ c. let e = if_false (name_eq w q) 0 (suc (place_of_name q ws)) c.1 in let z = ap one_if c.1 in
    let i = place_below ws q (omega (arith, z, lt)) in omega (arith, e, i))
    (cases_name w q)

-- the value at the place of a name
pub place_of : {A : Type 0} (f : Name → A) (ws : List Name) (q : Name) → 0 < count q ws → slice_get (map f ws) (place_of_name q ws) ≡ Some (f q)
place_of f [] q lt = absurd (omega (arith, lt))
place_of f (w ∷ ws) q lt = ⊎_elim
    (λ c. ap (slice_get (map f (w ∷ ws))) (if_true (name_eq w q) 0 (suc (place_of_name q ws)) c.1) ∙ ap (λ n. Some (f n)) c.0)
    (λ c. ap (slice_get (map f (w ∷ ws))) (if_false (name_eq w q) 0 (suc (place_of_name q ws)) c.1)
    ∙ place_of f ws q (let z = ap one_if c.1 in omega (arith, z, lt)))
    (cases_name w q)

-- the list at the place of a name
pub list_at_place : (ws : List Name) (q : Name) (f : ℕ → List item.Item) (h : History) → 0 < count q ws → Lists ws f h → h q ≡ f (place_of_name q ws)
list_at_place [] q f h lt l = absurd (omega (arith, lt))
list_at_place (w ∷ ws) q f h lt l = ⊎_elim
    (λ c. ap h (sym c.0) ∙ l.0 ∙ ap f (sym (if_true (name_eq w q) 0 (suc (place_of_name q ws)) c.1)))
    (λ c. list_at_place ws q (λ j. f (suc j)) h (let e = ap one_if c.1 in omega (arith, e, lt)) l.1
    ∙ ap f (sym (if_false (name_eq w q) 0 (suc (place_of_name q ws)) c.1)))
    (cases_name w q)

-- how often a name stands in spliced lists
pub count_spliced : (ws vs : List Name) (q x : Name) → 0 < count q ws
    → count x (spliced (place_of_name q ws) ws vs) + one_if (name_eq q x) ≡ count x ws + count x vs
count_spliced [] vs q x lt = absurd (omega (arith, lt))
count_spliced (w ∷ ws) vs q x lt = ⊎_elim
    (λ c.
    let e = ap (λ n. count x (spliced n (w ∷ ws) vs)) (if_true (name_eq w q) 0 (suc (place_of_name q ws)) c.1) in
    let d = ap (λ n. one_if (name_eq n x)) c.0 in
    let a = count-append x vs ws in
    omega (arith, e, d, a))
    (λ c.
    let e = ap (λ n. count x (spliced n (w ∷ ws) vs)) (if_false (name_eq w q) 0 (suc (place_of_name q ws)) c.1) in
    let n = ap (count x) (spliced_next (place_of_name q ws) w ws vs) in
    let z = ap one_if c.1 in
    let i = count_spliced ws vs q x (omega (arith, z, lt)) in
    omega (arith, e, n, i))
    (cases_name w q)

-- TABLES

beside_next : {A : Type 0} (n : ℕ) (f g : ℕ → A) (p : ℕ) → beside n (λ j. f (suc j)) g p ≡ beside (suc n) f g (suc p)
beside_next n f g p = ⊎_elim
    (λ lt. if_lt p n (f (suc p)) (g (p - n)) lt ∙ sym (if_lt (suc p) (suc n) (f (suc p)) (g (suc p - suc n)) (omega (arith, lt))))
    (λ ge. let e : p - n ≡ suc p - suc n = omega (arith, ge) in if_ge p n (f (suc p)) (g (p - n)) ge ∙ ap g e
    ∙ sym (if_ge (suc p) (suc n) (f (suc p)) (g (suc p - suc n)) (omega (arith, ge))))
    (cases_lt p n)

-- the rows of two operators in one
pub joined_beside : {A : Type 0} (ts us : List Name) (f g : ℕ → List A) (t : Name)
    → joined (ts ++ us) (beside (length ts) f g) t ≡ joined ts f t ++ joined us g t
joined_beside [] us f g t = joined_cong us (beside 0 f g) g t (λ j. let e : j - 0 ≡ j = omega arith in if_ge j 0 (f j) (g (j - 0)) (omega arith) ∙ ap g e)
joined_beside (w ∷ ts) us f g t =
    ap (λ l. (if name_eq w t then l else []) ++ joined (ts ++ us) (λ j. beside (suc (length ts)) f g (suc j)) t)
    (if_lt 0 (suc (length ts)) (f 0) (g (0 - suc (length ts))) (omega arith))
    ∙ ap (λ l. (if name_eq w t then f 0 else []) ++ l)
    (joined_cong (ts ++ us) _ _ t (λ j. sym (beside_next (length ts) f g j)) ∙ joined_beside ts us (λ j. f (suc j)) g t)
    ∙ sym (append_assoc (if name_eq w t then f 0 else []) (joined ts (λ j. f (suc j)) t) (joined us g t))

-- THE WHOLE

-- what the whole gives, by what its parts give
pub fused_given : (q : Name) (w r : OpForm) (h : History) → IsShaped (fused w.kernel r.kernel (place_of_name q w.writes)) → r.reads ≡ q ∷ []
    → h q ≡ (given_on w h).outs (place_of_name q w.writes)
    → Same (given_on (fused_op q w r) h) (fused_of (place_of_name q w.writes) (outs r.kernel) (tabs w.kernel) (given_on w h) (λ xs. given_on r h))
fused_given q w r h f reads eq =
    let a = w.kernel in let b = r.kernel in let at = place_of_name q w.writes in
    let fa = first_kept a in let fb = first_kept b in
    let word = port_by_port (ins a) 0 (lists_of h w.reads) in
    let sh = first_shape (fused a b at) f in
    let la = shape_length a fa (first_shape a f.0) in
    let l9 = fused_runs a b at word (fa ++ fb) f sh in
    let e1 = take_at fa fb (privates a) la in
    let e2 = drop_at fa fb (privates a) la in
    let W = given_on w h in
    let second : feed (fire b 0) (W.outs at) fb ≡ given_on r h =
    ap (λ xs. feed (fire b 0) xs fb) (sym eq) ∙ sym (one_input b (lists_of h (q ∷ [])) fb f.3) ∙ ap (λ rs. feed_all b (lists_of h rs) fb) (sym reads) in
    let l9' : Same (given_on (fused_op q w r) h) (fused_of at (outs b) (tabs a) W (λ xs. feed (fire b 0) xs fb)) =
    subst (λ us. Same (given_on (fused_op q w r) h) (fused_of at (outs b) (tabs a) W (λ xs. feed (fire b 0) xs us))) e2
    (subst (λ us. Same (given_on (fused_op q w r) h)
    (fused_of at (outs b) (tabs a) (run (fire a) word us) (λ xs. feed (fire b 0) xs (drop (privates a) (fa ++ fb))))) e1 l9) in
    subst (λ s. Same (given_on (fused_op q w r) h) (fused_of at (outs b) (tabs a) W (λ xs. s))) second l9'

-- one name in a list of one
pub one_counted : (ws : List Name) (q : Name) → length ws ≡ 1 → 0 < count q ws → ws ≡ q ∷ []
one_counted [] q e lt = absurd (omega (arith, e))
one_counted (r ∷ []) q e lt = ⊎_elim (λ c. ap (λ n. n ∷ []) c.0) (λ c. absurd (let z = ap one_if c.1 in omega (arith, z, lt))) (cases_name r q)
one_counted (r ∷ s ∷ rs) q e lt = absurd (omega (arith, e))
