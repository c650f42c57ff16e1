-- Pairs of changes pass a product, one after another.
use Rattle.std.proofs.Common.{◌≡◌, ◌<◌, ◌+◌, ℕ, ℤ, List, [], ◌∷◌, ◌++◌, length, refl, sym, ap, ◌∙◌, arith, subst, append_assoc, inl, inr, ⊎_elim, ◌⊎◌}
use Rattle.std.specs.Prelude.{All, sum_by}
use Rattle.std.proofs.lemmas.List.{append-nil}
use Rattle.std.proofs.lemmas.List.Elements.{All-head, All-tail}
use Rattle.std.proofs.lemmas.List.Sorted.{sum_by-IsPermutation}
use Rattle.std.proofs.lemmas.List.Sums.{sum_by-append}
use Rattle.river_base.specs.Held.{HaveWidth}
use Rattle.river_base.specs.declared.item.Batch.{Batch}
use Rattle.river_base.proofs.Counts.{permutation_from_copies}
use Rattle.kern_bags.specs.Contents.{difference, product}
use Rattle.kern_changes.proofs.Copies.{sum-cong}
use Rattle.river_base.specs.declared.item.Change.{Change}
use Rattle.river_base.specs.Changes.{change_to, changes, last_content, cancelled, LeadsTo, all_pairs, IsWideChange, GaveChanges}
use Rattle.kern_changes.specs.Counted.{AreSame}
use Rattle.kern_bags.specs.Following.{stamped_as, CrossKept, Crossing, crossing, passing, passed_pairs, StandsForCrossing, Crosses, IsCrossOf, CrossFits}
use Rattle.kern_bags.specs.Takes.{CanCrossChanges, CanMake, TakesChanges, HasNoChanges, JoinsChanges}
use Rattle.kern_changes.proofs.Leading.{sum-pairs, cancelled_is, change_leads, leads_in_order, leads_both, leads_left, leads_right, changes-append, last_content-append}
use Rattle.kern_changes.proofs.Widths.{wide_append, wide_changed, cancelled_of, gave_none, gave_more, gave_on}
use Rattle.kern_bags.proofs.Wide.{wide_pairs}
use Rattle.kern_bags.proofs.Streaming.{changed_same}

-- THE CHANGE OF A PRODUCT, BY BAGS

sum-same : (f : List ℤ → ℕ) (xs ys : List (List ℤ)) → AreSame xs ys → sum_by f xs ≡ sum_by f ys
sum-same f xs ys h = sym (sum_by-IsPermutation f xs ys (permutation_from_copies xs ys h.each))

sum-pairs_right : (f : List ℤ → ℕ) (xs ys zs : List (List ℤ)) → AreSame ys zs → sum_by f (all_pairs xs ys) ≡ sum_by f (all_pairs xs zs)
sum-pairs_right f xs ys zs h =
    sum-pairs f xs ys ∙ sum-cong (λ x. sum_by (λ y. f (x ++ y)) ys) (λ x. sum_by (λ y. f (x ++ y)) zs) xs (λ x. sum-same (λ y. f (x ++ y)) ys zs h)
    ∙ sym (sum-pairs f xs zs)

sum-pairs_left : (f : List ℤ → ℕ) (xs ys zs : List (List ℤ)) → AreSame xs ys → sum_by f (all_pairs xs zs) ≡ sum_by f (all_pairs ys zs)
sum-pairs_left f xs ys zs h = sum-pairs f xs zs ∙ sum-same (λ x. sum_by (λ y. f (x ++ y)) zs) xs ys h ∙ sym (sum-pairs f ys zs)

-- what comes and goes at the left meets a bag of the right side as it was, what comes and goes at the right meets one of the left side
-- as it will be
joined_change : (at : ℤ) (left left' right right' rights lefts : List (List ℤ)) → AreSame rights right → AreSame lefts left'
    → cancelled at (all_pairs (difference left' left) rights ++ all_pairs lefts (difference right' right))
    (all_pairs (difference left left') rights ++ all_pairs lefts
    (difference right right'))
    ≡ change_to (product left right) (record { at = at; rows = product left' right' })
joined_change at left left' right right' rights lefts hr hl =
    let p = difference left' left in let m = difference left left' in let q = difference right' right in let n = difference right right' in
    let exact : LeadsTo (all_pairs left right) (all_pairs left' right') (all_pairs p right ++ all_pairs left' q) (all_pairs m right ++ all_pairs left' n) =
    leads_both (all_pairs left right) (all_pairs left' right) (all_pairs left' right') (all_pairs p right) (all_pairs m right) (all_pairs left' q)
    (all_pairs left' n)
    (leads_left left left' p m right (change_leads left left')) (leads_right left' right right' q n (change_leads right right')) in
    let l : LeadsTo (all_pairs left right) (all_pairs left' right') (all_pairs p rights ++ all_pairs lefts q) (all_pairs m rights ++ all_pairs lefts n) =
    record {
      each = λ f.
          let e = exact.each f in
          let a = sum_by-append f (all_pairs p right) (all_pairs left' q) in let b = sum_by-append f (all_pairs m right) (all_pairs left' n) in
          let c = sum_by-append f (all_pairs p rights) (all_pairs lefts q) in let d = sum_by-append f (all_pairs m rights) (all_pairs lefts n) in
          let g = sum-pairs_right f p rights right hr in let h = sum-pairs_right f m rights right hr in
          let i = sum-pairs_left f lefts left' q hl in let j = sum-pairs_left f lefts left' n hl in
          omega (arith, e, a, b, c, d, g, h, i, j);
    } in
    sym (cancelled_is at (product left right) (product left' right') (all_pairs p rights ++ all_pairs lefts q) (all_pairs m rights ++ all_pairs lefts n)
    (leads_in_order (all_pairs left right) (all_pairs left' right') (all_pairs p rights ++ all_pairs lefts q) (all_pairs m rights ++ all_pairs lefts n) l))

-- ONE PAIR

first_is : (c : Change) (rest : List Change) (before : List (List ℤ)) (b : Batch) (bs : List Batch) → c ∷ rest ≡ changes before (b ∷ bs)
    → (c ≡ change_to before b)
    × (rest ≡ changes b.rows bs)
first_is c rest before b bs e = (cc e, cc e)

-- two waiting contents have passed: the change of their product was given, and what is kept stands for the rest
pub record PairPassed (now : CrossKept) (lefts rights : List (List ℤ)) (ls rs : List Batch) (out out' : List Change) : Type 0 where
  pub l : Batch
  pub r : Batch
  pub left : List Batch
  pub right : List Batch
  pub left_is : ls ≡ l ∷ left
  pub right_is : rs ≡ r ∷ right
  pub gave : out' ≡ out ++ change_to (product lefts rights) (stamped_as l (product l.rows r.rows)) ∷ []
  pub stands : StandsForCrossing now (crossing l.rows r.rows left right)

pair_passes : (s0 s1 s2 : CrossKept) (c d : Change) (out out' : List Change) → TakesChanges s0 s1 c d → JoinsChanges c d s1 s2 out out'
    → (lefts rights : List (List ℤ)) (ls rs : List Batch) → StandsForCrossing s0 (crossing lefts rights ls rs) → PairPassed s2 lefts rights ls rs out out'
pair_passes s0 s1 s2 c d out out' t j lefts rights [] rs s = absurd (let e : c ∷ s1.left ≡ [] = sym t.left ∙ s.left in cc e)
pair_passes s0 s1 s2 c d out out' t j lefts rights (l ∷ ls) [] s = absurd (let e : d ∷ s1.right ≡ [] = sym t.right ∙ s.right in cc e)
pair_passes s0 s1 s2 c d out out' t j lefts rights (l ∷ ls) (r ∷ rs) s =
    let a = first_is c s1.left lefts l ls (sym t.left ∙ s.left) in
    let b = first_is d s1.right rights r rs (sym t.right ∙ s.right) in
    let same_left : AreSame s1.lefts lefts = subst (λ x. AreSame x lefts) (sym t.lefts) s.lefts in
    let same_right : AreSame s1.rights rights = subst (λ x. AreSame x rights) (sym t.rights) s.rights in
    let next_left = changed_same c s1.lefts s2.lefts lefts l same_left a.0 j.lefts in
    let next_right = changed_same d s1.rights s2.rights rights r same_right b.0 j.rights in
    let C : Change → Change → Change =
    λ x y. cancelled x.at (all_pairs x.plus s1.rights ++ all_pairs s2.lefts y.plus) (all_pairs x.minus s1.rights ++ all_pairs s2.lefts y.minus) in
    record {
      l = l;
      r = r;
      left = ls;
      right = rs;
      left_is = refl;
      right_is = refl;
      gave = j.gave ∙ ap (λ x. out ++ x ∷ [])
          ((λ i. C (a.0 i) (b.0 i)) ∙ joined_change l.at lefts l.rows rights r.rows s1.rights s2.lefts same_right next_left);
      stands = record {
        lefts = next_left;
        rights = next_right;
        left = j.left ∙ a.1;
        right = j.right ∙ b.1;
      };
    }

-- WIDTHS

-- the two that left can be made, where all that waits and is kept is so wide
makes_of : (l r : ℕ) (s0 s1 : CrossKept) (c d : Change) → IsCrossOf l r s0 → TakesChanges s0 s1 c d → CanMake c d s1
makes_of l r s0 s1 c d of t = record {
  left = l;
  right = r;
  few = of.few;
  lefts = subst (HaveWidth l) (sym t.lefts) of.lefts;
  rights = subst (HaveWidth r) (sym t.rights) of.rights;
  first = All-head (IsWideChange l) c s1.left (subst (All (IsWideChange l)) t.left of.wait_left);
  second = All-head (IsWideChange r) d s1.right (subst (All (IsWideChange r)) t.right of.wait_right);
}

-- the two that left can be made
pub can_make : (s0 s1 : CrossKept) (c d : Change) → CanCrossChanges s0 → TakesChanges s0 s1 c d → CanMake c d s1
can_make s0 s1 c d can t = makes_of can.left can.right s0 s1 c d can.wide t

-- what is given is as wide as both sides together, and what is kept stays so wide
record PairFits (l r : ℕ) (s2 : CrossKept) (out out' : List Change) : Type 0 where
  gave : GaveChanges (l + r) out out'
  kept : IsCrossOf l r s2

pair_fits : (l r : ℕ) (s0 s1 s2 : CrossKept) (c d : Change) (out out' : List Change) → IsCrossOf l r s0 → TakesChanges s0 s1 c d
    → JoinsChanges c d s1 s2 out out'
    → PairFits l r s2 out out'
pair_fits l r s0 s1 s2 c d out out' of t j =
    let lefts : HaveWidth l s1.lefts = subst (HaveWidth l) (sym t.lefts) of.lefts in
    let rights : HaveWidth r s1.rights = subst (HaveWidth r) (sym t.rights) of.rights in
    let first : IsWideChange l c = All-head (IsWideChange l) c s1.left (subst (All (IsWideChange l)) t.left of.wait_left) in
    let second : IsWideChange r d = All-head (IsWideChange r) d s1.right (subst (All (IsWideChange r)) t.right of.wait_right) in
    let next : HaveWidth l s2.lefts = wide_changed l c s1.lefts s2.lefts lefts first.plus j.lefts in
    record {
      gave = gave_more (l + r) out out out'
          (cancelled c.at (all_pairs c.plus s1.rights ++ all_pairs s2.lefts d.plus) (all_pairs c.minus s1.rights ++ all_pairs s2.lefts d.minus))
          (gave_none (l + r) out) j.gave
          (cancelled_of (l + r) c.at (all_pairs c.plus s1.rights ++ all_pairs s2.lefts d.plus) (all_pairs c.minus s1.rights ++ all_pairs s2.lefts d.minus)
          (wide_append (l + r) (all_pairs c.plus s1.rights) (all_pairs s2.lefts d.plus) (wide_pairs l r c.plus s1.rights first.plus rights)
          (wide_pairs l r s2.lefts d.plus next second.plus))
          (wide_append (l + r) (all_pairs c.minus s1.rights) (all_pairs s2.lefts d.minus) (wide_pairs l r c.minus s1.rights first.minus rights)
          (wide_pairs l r s2.lefts d.minus next second.minus)));
      kept = record {
        few = of.few;
        lefts = next;
        rights = wide_changed r d s1.rights s2.rights rights second.plus j.rights;
        wait_left = subst (All (IsWideChange l)) (sym j.left) (All-tail (IsWideChange l) c s1.left (subst (All (IsWideChange l)) t.left of.wait_left));
        wait_right = subst (All (IsWideChange r)) (sym j.right) (All-tail (IsWideChange r) d s1.right (subst (All (IsWideChange r)) t.right of.wait_right));
      };
    }

can_more : (s0 s1 s2 : CrossKept) (c d : Change) (out out' : List Change) → CanCrossChanges s0 → TakesChanges s0 s1 c d → JoinsChanges c d s1 s2 out out'
    → CanCrossChanges s2
can_more s0 s1 s2 c d out out' can t j =
    record { left = can.left; right = can.right; wide = (pair_fits can.left can.right s0 s1 s2 c d out out' can.wide t j).kept }

-- ALL PAIRS

-- some pairs have passed of these contents
pub record SoFarIn (m : Crossing) (now : CrossKept) (out out' : List Change) : Type 0 where
  pub next : Crossing
  pub stands : StandsForCrossing now next
  pub given : List Batch
  pub grew : out' ≡ out ++ changes (product m.lefts m.rights) given
  pub last : last_content (product m.lefts m.rights) given ≡ product next.lefts next.rights
  pub all : given ++ (passed_pairs next).0 ≡ (passed_pairs m).0
  pub rest : (passed_pairs next).1 ≡ (passed_pairs m).1

-- the same for whatever contents there were, and what was given fits
pub record PairsSoFar (start now : CrossKept) (out out' : List Change) : Type 0 where
  pub can : CanCrossChanges now
  pub each : (m : Crossing) → StandsForCrossing start m → SoFarIn m now out out'
  pub fits : CrossFits start now out out'

-- no pair has
pub pairs_start : (s : CrossKept) (out : List Change) → CanCrossChanges s → PairsSoFar s s out out
pairs_start s out can = record {
  can = can;
  each = λ m h. record { next = m; stands = h; given = []; grew = sym (append-nil out); last = refl; all = refl; rest = refl };
  fits = record { each = λ l r of. (gave_none (l + r) out, of) };
}

-- one more has
pub pairs_step : (start s0 s1 s2 : CrossKept) (c d : Change) (out out' out'' : List Change) → PairsSoFar start s0 out out' → TakesChanges s0 s1 c d
    → JoinsChanges c d s1 s2 out' out'' → PairsSoFar start s2 out out''
pairs_step start s0 s1 s2 c d out out' out'' f t j = record {
  can = can_more s0 s1 s2 c d out' out'' f.can t j;
  each = λ m h. step m (f.each m h);
  fits = record {
    each = λ l r of.
        let g = f.fits.each l r of in
        let p = pair_fits l r s0 s1 s2 c d out' out'' g.1 t j in
        (gave_on (l + r) out out' out'' g.0 p.gave, p.kept);
  };
}
  where
    step : (m : Crossing) → SoFarIn m s0 out out' → SoFarIn m s2 out out''
    step m g =
        let n = g.next in
        let p = pair_passes s0 s1 s2 c d out' out'' t j n.lefts n.rights n.left n.right g.stands in
        let x : Batch = stamped_as p.l (product p.l.rows p.r.rows) in
        let before = product m.lefts m.rights in
        let e : passed_pairs n
        ≡ (x ∷ (passing p.l.rows p.r.rows p.left p.right).0, (passing p.l.rows p.r.rows p.left p.right).1) =
        (λ i. passing n.lefts n.rights (p.left_is i) (p.right_is i)) in
        record {
          next = crossing p.l.rows p.r.rows p.left p.right;
          stands = p.stands;
          given = g.given ++ x ∷ [];
          grew =
              p.gave ∙ ap (λ o. o ++ change_to (product n.lefts n.rights) x ∷ []) g.grew
              ∙ append_assoc out (changes before g.given) (change_to (product n.lefts n.rights) x ∷ [])
              ∙ ap (λ l. out ++ (changes before g.given ++ change_to l x ∷ [])) (sym g.last)
              ∙ ap (λ l. out ++ l) (sym (changes-append before g.given (x ∷ [])));
          last = last_content-append before g.given (x ∷ []);
          all = append_assoc g.given (x ∷ []) (passing p.l.rows p.r.rows p.left p.right).0 ∙ ap (λ l. g.given ++ l) (sym (ap (λ q. q.0) e)) ∙ g.all;
          rest = sym (ap (λ q. q.1) e) ∙ g.rest;
        }

none_waits : (before : List (List ℤ)) (bs : List Batch) → [] ≡ changes before bs → bs ≡ []
none_waits before [] e = refl
none_waits before (b ∷ bs) e = absurd (cc e)

nothing_passes : (lefts rights : List (List ℤ)) (ls rs : List Batch) → (ls ≡ []) ⊎ (rs ≡ []) → passing lefts rights ls rs ≡ ([], crossing lefts rights ls rs)
nothing_passes lefts rights [] rs h = refl
nothing_passes lefts rights (l ∷ ls) [] h = refl
nothing_passes lefts rights (l ∷ ls) (r ∷ rs) h = absurd (⊎_elim (λ e. cc e) (λ e. cc e) h)

-- no more can
pub pairs_end : (start now next : CrossKept) (out out' : List Change) → PairsSoFar start now out out' → HasNoChanges now next → Crosses start next out out'
pairs_end start now next out out' f stop = record {
  each = λ m h.
      let g = f.each m h in
      let n = g.next in
      let none : (n.left ≡ []) ⊎ (n.right ≡ []) = ⊎_elim (λ e. inl (none_waits n.lefts n.left (sym e ∙ g.stands.left))) (λ e. inr
      (none_waits n.rights n.right (sym e ∙ g.stands.right))) stop.none in
      let e : passed_pairs n ≡ ([], n) = nothing_passes n.lefts n.rights n.left n.right none in (
        g.grew ∙ ap (λ l. out ++ changes (product m.lefts m.rights) l) (sym (append-nil g.given) ∙ ap (λ q. g.given ++ q.0) (sym e) ∙ g.all),
        subst (λ s. StandsForCrossing s (passed_pairs m).1) (sym stop.same) (subst (StandsForCrossing now) (ap (λ q. q.1) (sym e) ∙ g.rest) g.stands),
      );
}

-- and at the end
pub pairs_fit : (start now next : CrossKept) (out out' : List Change) → PairsSoFar start now out out' → HasNoChanges now next → CrossFits start next out out'
pairs_fit start now next out out' f stop = subst (λ s. CrossFits start s out out') (sym stop.same) f.fits

-- one that passes does not wait any more
pub pairs_less : (s0 s1 s2 : CrossKept) (c d : Change) (out out' : List Change) → TakesChanges s0 s1 c d → JoinsChanges c d s1 s2 out out'
    → length s2.left < length s0.left
pairs_less s0 s1 s2 c d out out' t j = let a = ap length t.left in let b = ap length j.left in omega (arith, a, b)
