-- Which kernels a selection passes, with which types and to what effect.
use Rattle.std.proofs.Common.{◌≡◌, ℕ, ◌+◌, ◌⊎◌, inl, inr, true, ◌&&◌, Some, None, List, [], ◌∷◌, length, refl, sym, ap, ◌∙◌, subst, arith, ⊎_elim}
use Rattle.std.specs.Prelude.{Option, Ok, slice_get, if◌then◌else◌, nat_eq}
use Rattle.std.specs.List.{list_all}
use Rattle.std.proofs.lemmas.Bool.{and_parts, and_from}
use Rattle.river_base.proofs.Options.{ok_same, not_ok}
use Rattle.river_base.proofs.Lists.{head_same}
use Rattle.river_base.specs.declared.item.Item as item
use Rattle.river_base.specs.declared.kind.FlatType.{FlatType}
use Rattle.river_base.specs.declared.kind.FlatType.TheVariants.{Stream, Relation}
use Rattle.river_base.specs.declared.kind.QueueType.{QueueType}
use Rattle.river_base.specs.declared.kind.QueueType.TheVariants.{Flat}
use Rattle.work_code.specs.Term.{Term}
use Rattle.kern_bags.specs.declared.kernel.Window.{Window}
use Rattle.kern_bags.specs.declared.kernel.Window.TheVariants.{Now, Range, Unbounded, Latest}
use Rattle.river_kernels.specs.Kern.{Kern, window, select, project, cross, streamer}
use Rattle.river_kernels.specs.Formed.{is_width, is_term}
use Rattle.river_kernels.specs.Fits.{Fits, relation, stream, width_of, is_sized, is_bag}
use Rattle.river_kernels.specs.declared.types.VarKind.{VarKind}
use Rattle.brooklet_model.specs.Fire.{tabs, first_kept}
use Rattle.brooklet_model.specs.Typed.{AreOf}
use Rattle.brooklet_model.specs.Words.{feed_all}
use Rattle.brooklet_model.proofs.Feeds.{one_input}
use Rattle.plan_edits.specs.declared.unfit.Unfit.TheVariants.{H3}
use Rattle.rw_local.specs.Hoist.{refielded, of_projection, of_first, of_second, at_side, either_side, past_window, or_h4, first_width, passes}
use Rattle.rw_local.proofs.Fields.{term_refielded, projected_below, first_is, second_is}
use Rattle.rw_local.proofs.Selected.{IsPassed}
use Rattle.rw_local.proofs.Passing.{sift, cross_pairs, pass_project, pass_window, pass_streamer, pass_first, pass_second}

-- these lists, with another at one place
abbrev pub with_at : ℕ → List item.Item → (ℕ → List item.Item) → ℕ → List item.Item
with_at side xs h p = if nat_eq p side then xs else h p

-- a selection by t passes the kernel, and stands then at this side with the condition t'
abbrev pub Passed : ℕ → Kern → Term → ℕ → Term → Type 0
Passed width (window w) t side t' = (side ≡ 0) × (t ≡ t') × IsPassed w
Passed width (project es) t side t' = (side ≡ 0) × (refielded (of_projection es) t ≡ Some t')
Passed width cross t side t' = ((side ≡ 0) × (refielded (of_first width) t ≡ Some t')) ⊎ ((side ≡ 1) × (refielded (of_second width) t ≡ Some t'))
Passed width (streamer s) t side t' = (side ≡ 0) × (t ≡ t')
Passed width kernel t side t' = ⊥

h4_some : (o : Option (ℕ × Term)) (x : ℕ × Term) → or_h4 o ≡ Ok x → o ≡ Some x
h4_some None x h = absurd (cc h)
h4_some (Some y) x h = cc h

side_some : (n : ℕ) (o : Option Term) (x : ℕ × Term) → at_side n o ≡ Some x → (x.0 ≡ n) × (o ≡ Some x.1)
side_some n None x h = absurd (cc h)
side_some n (Some t) x h = let e : (n, t) ≡ x = cc h in (sym (ap (λ y. y.0) e), ap (λ y. Some y.1) e)

either_some : (a b : Option (ℕ × Term)) (x : ℕ × Term) → either_side a b ≡ Some x → (a ≡ Some x) ⊎ (b ≡ Some x)
either_some None b x h = inr h
either_some (Some y) b x h = inl h

window_passed : (w : Window) (t : Term) (x : ℕ × Term) → past_window w t ≡ Ok x → (x.0 ≡ 0) × (t ≡ x.1) × IsPassed w
window_passed Now t x h = let e = ok_same (Ok (0, t)) (0, t) x refl h in (sym (ap (λ y. y.0) e), ap (λ y. y.1) e, tt)
window_passed (Range span) t x h = let e = ok_same (Ok (0, t)) (0, t) x refl h in (sym (ap (λ y. y.0) e), ap (λ y. y.1) e, tt)
window_passed Unbounded t x h = let e = ok_same (Ok (0, t)) (0, t) x refl h in (sym (ap (λ y. y.0) e), ap (λ y. y.1) e, tt)
window_passed (Latest n) t x h = absurd (not_ok H3 x h)

-- what a selection passes, by cases
pub passed : (width : ℕ) (k : Kern) (t : Term) (x : ℕ × Term) → passes width k t ≡ Ok x → Passed width k t x.0 x.1
passed width (window w) t x h = window_passed w t x h
passed width (project es) t x h = side_some 0 (refielded (of_projection es) t) x (h4_some (at_side 0 (refielded (of_projection es) t)) x h)
passed width cross t x h = ⊎_elim
    (λ a. inl (side_some 0 (refielded (of_first width) t) x a))
    (λ b. inr (side_some 1 (refielded (of_second width) t) x b))
    (either_some (at_side 0 (refielded (of_first width) t)) (at_side 1 (refielded (of_second width) t)) x (h4_some _ x h))
passed width (streamer s) t x h = let e = ok_same (Ok (0, t)) (0, t) x refl h in (sym (ap (λ y. y.0) e), ap (λ y. y.1) e)
passed width kernel t x h = absurd (not_ok H3 x h)

-- such a kernel has no table
pub passed_tables : (width : ℕ) (k : Kern) (t : Term) (side : ℕ) (t' : Term) → Passed width k t side t' → tabs k ≡ 0
passed_tables width (window w) t side t' h = refl
passed_tables width (project es) t side t' h = refl
passed_tables width cross t side t' h = refl
passed_tables width (streamer s) t side t' h = refl
passed_tables width kernel t side t' h = absurd h

-- TYPES

-- a selection of rows of this width
abbrev pub SelectsAt : ℕ → Term → Type 0
SelectsAt n t = (is_width n ≡ true) × (is_term n 0 t ≡ true)

flat_is : (t u : FlatType) (os : List QueueType) → Flat t ∷ [] ≡ Flat u ∷ os → t ≡ u
flat_is t u os h = cc h

selects : (t : Term) (m : QueueType) (os : List QueueType) (vs : List VarKind) (u : FlatType) → Fits (select t) (m ∷ []) os vs → m ≡ Flat u
    → SelectsAt (width_of u) t
selects t m os vs u h e =
    let f : u ≡ h.0 = flat_is u h.0 [] (ap (λ n. n ∷ []) (sym e) ∙ h.1) in
    let g = and_parts (is_sized h.0) (is_bag h.0 && is_term (width_of h.0) 0 t) h.4 in
    subst (λ n. SelectsAt (width_of n) t) (sym f) (g.0, (and_parts (is_bag h.0) (is_term (width_of h.0) 0 t) g.1).1)

fits_select : (t : Term) (u : FlatType) → is_bag u ≡ true → SelectsAt (width_of u) t → Fits (select t) (Flat u ∷ []) (Flat u ∷ []) []
fits_select t u b s =
    (u, refl, refl, refl, and_from (is_sized u) (is_bag u && is_term (width_of u) 0 t) s.0 (and_from (is_bag u) (is_term (width_of u) 0 t) b s.1))

got_type : (is : List QueueType) (js : List QueueType) (side n : ℕ) (s u : QueueType) → is ≡ js → side ≡ n → slice_get is side ≡ Some s
    → slice_get js n ≡ Some u → u ≡ s
got_type is js side n s u e f h g = cc (sym g ∙ sym (ap (slice_get js) f) ∙ sym (ap (λ l. slice_get l side) e) ∙ h)

-- at its new place the selection fits the type of the queue there, on both sides of it
pub passed_fits : (k : Kern) (is : List QueueType) (m : QueueType) (vs : List VarKind) (t : Term) (os : List QueueType) (us : List VarKind) (side : ℕ)
    (t' : Term) (s : QueueType)
    → Fits k is (m ∷ []) vs → Fits (select t) (m ∷ []) os us → Passed (first_width is) k t side t' → slice_get is side ≡ Some s
    → Fits (select t') (s ∷ []) (s ∷ []) []
passed_fits (window w) is m vs t os us side t' s f g h e =
    let z = selects t m os us (Relation f.0) g (head_same m (relation f.0) [] [] f.2) in
    subst (λ q. Fits (select t') (q ∷ []) (q ∷ []) []) (got_type is (stream f.0 ∷ []) side 0 s (stream f.0) f.1 h.0 e refl)
    (fits_select t' (Stream f.0) refl (subst (SelectsAt f.0) h.1 z))
passed_fits (project es) is m vs t os us side t' s f g h e =
    let z = selects t m os us (Relation (length es)) g (head_same m (relation (length es)) [] [] f.2) in
    let w = and_parts (is_width f.0) (is_width (length es) && list_all (is_term f.0 0) es) f.4 in
    let a = and_parts (is_width (length es)) (list_all (is_term f.0 0) es) w.1 in
    subst (λ q. Fits (select t') (q ∷ []) (q ∷ []) []) (got_type is (relation f.0 ∷ []) side 0 s (relation f.0) f.1 h.0 e refl)
    (fits_select t' (Relation f.0) refl (w.0, term_refielded (of_projection es) (length es) f.0 t t' (λ i j lt o. projected_below es f.0 i j a.1 o) z.1 h.1))
passed_fits cross is m vs t os us side t' s f g h e =
    let a = f.0 in
    let b = f.1 in
    let w = ap first_width f.2 in
    let z = selects t m os us (Relation (a + b)) g (head_same m (relation (a + b)) [] [] f.3) in
    let k = and_parts (is_width a) (is_width b && is_width (a + b)) f.5 in
    ⊎_elim
    (λ c.
    let r = subst (λ n. refielded (of_first n) t ≡ Some t') w c.1 in
    subst (λ q. Fits (select t') (q ∷ []) (q ∷ []) []) (got_type is (relation a ∷ relation b ∷ []) side 0 s (relation a) f.2 c.0 e refl)
    (fits_select t' (Relation a) refl
    (k.0, term_refielded (of_first a) (a + b) a t t' (λ i j lt o. let n = first_is a i j o in let x = n.0 in let y = n.1 in omega (arith, x, y)) z.1 r)))
    (λ c.
    let r = subst (λ n. refielded (of_second n) t ≡ Some t') w c.1 in
    subst (λ q. Fits (select t') (q ∷ []) (q ∷ []) []) (got_type is (relation a ∷ relation b ∷ []) side 1 s (relation b) f.2 c.0 e refl)
    (fits_select t' (Relation b) refl (
      (and_parts (is_width b) (is_width (a + b)) k.1).0,
      term_refielded (of_second a) (a + b) b t t' (λ i j lt o. let n = second_is a i j o in let x = n.0 in let y = n.1 in omega (arith, x, y, lt)) z.1 r,
    )))
    h
passed_fits (streamer c) is m vs t os us side t' s f g h e =
    let z = selects t m os us (Stream f.0) g (head_same m (stream f.0) [] [] f.2) in
    subst (λ q. Fits (select t') (q ∷ []) (q ∷ []) []) (got_type is (relation f.0 ∷ []) side 0 s (relation f.0) f.1 h.0 e refl)
    (fits_select t' (Relation f.0) refl (subst (SelectsAt f.0) h.1 z))
passed_fits kernel is m vs t os us side t' s f g h e = absurd h

-- EFFECT

-- to feed the kernel and then select is to select at the side and then feed
abbrev pub Commutes : Kern → Term → ℕ → Term → (ℕ → List item.Item) → Type 0
Commutes k t side t' h = sift t ((feed_all k h (first_kept k)).outs 0) ≡ (feed_all k (with_at side (sift t' (h side)) h) (first_kept k)).outs 0

-- a selection and what it passes change places
pub passed_commutes : (k : Kern) (is os : List QueueType) (vs : List VarKind) (t : Term) (side : ℕ) (t' : Term) → Fits k is os vs
    → Passed (first_width is) k t side t' → (h : ℕ → List item.Item) → AreOf is h → Commutes k t side t' h
passed_commutes (window w) is os vs t side t' f p h a =
    subst (λ n. Commutes (window w) t n t' h) (sym p.0)
    (subst (λ u. Commutes (window w) t 0 u h) p.1
    (pass_window t w p.2 h ∙ sym (ap (λ r. r.outs 0) (one_input (window w) (with_at 0 (sift t (h 0)) h) (first_kept (window w)) refl))))
passed_commutes (project es) is os vs t side t' f p h a =
    subst (λ n. Commutes (project es) t n t' h) (sym p.0)
    (pass_project es t t' p.1 h ∙ sym (ap (λ r. r.outs 0) (one_input (project es) (with_at 0 (sift t' (h 0)) h) (first_kept (project es)) refl)))
passed_commutes cross is os vs t side t' f p h a =
    let w = ap first_width f.2 in
    let r = subst (λ l. AreOf l h) f.2 a in
    ⊎_elim
    (λ c.
    subst (λ n. Commutes cross t n t' h) (sym c.0)
    (pass_first f.0 t t' (subst (λ n. refielded (of_first n) t ≡ Some t') w c.1) h (r 0) ∙ sym (cross_pairs (with_at 0 (sift t' (h 0)) h))))
    (λ c.
    subst (λ n. Commutes cross t n t' h) (sym c.0)
    (pass_second f.0 t t' f.1 (subst (λ n. refielded (of_second n) t ≡ Some t') w c.1) h (r 0) (r 1) ∙ sym (cross_pairs (with_at 1 (sift t' (h 1)) h))))
    p
passed_commutes (streamer s) is os vs t side t' f p h a =
    subst (λ n. Commutes (streamer s) t n t' h) (sym p.0)
    (subst (λ u. Commutes (streamer s) t 0 u h) p.1
    (pass_streamer t s h ∙ sym (ap (λ r. r.outs 0) (one_input (streamer s) (with_at 0 (sift t (h 0)) h) (first_kept (streamer s)) refl))))
passed_commutes kernel is os vs t side t' f p h a = absurd p
