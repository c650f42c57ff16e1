-- Firings of a product with two kernels as one behind it, of which the first is a selection.
use Rattle.std.proofs.Common.{◌≡◌, ℕ, ℤ, ◌<◌, ◌-◌, List, [], ◌∷◌, ◌++◌, length, map, replicate, Box, Global, refl, sym, ap, ◌∙◌, subst, arith}
use Rattle.std.specs.Prelude.{All}
use Rattle.std.proofs.Math.ListN.{set}
use Rattle.std.proofs.lemmas.List.{length-replicate}
use Rattle.river_base.specs.declared.item.Change.{Change}
use Rattle.river_base.specs.declared.item.Item as item
use Rattle.river_base.specs.declared.kind.QueueType.{QueueType}
use Rattle.river_base.specs.Places.{each_grew, list_at}
use Rattle.river_base.proofs.PlaceLemmas.{each_grew_cong, if_ge, length-each_grew}
use Rattle.work_code.specs.Term.{Term}
use Rattle.kern_bags.specs.Following.{as_changes}
use Rattle.kern_bags.specs.Joined.{kept_of}
use Rattle.river_kernels.proofs.KernLemmas.{kern_of-fused}
use Rattle.river_kernels.specs.declared.kernel.Kernel.{Kernel}
use Rattle.river_kernels.specs.declared.kernel.Kernel as view
use Rattle.river_kernels.specs.declared.kernel.Kernel.TheOpen as layer
use Rattle.river_kernels.specs.declared.kernel.Kernel.TheVariants as kernel
use Rattle.river_kernels.specs.Kern.{Kern, kern_of, cross, select, fused}
use Rattle.brooklet_model.specs.Firings.{splice, beside}
use Rattle.brooklet_model.specs.Fire.{outs, tabs}
use Rattle.brooklet_model.specs.Shapes.{IsShaped}
use Rattle.brooklet_model.proofs.Ports.{shaped}
use Rattle.brooklet_model.proofs.Spliced.{splice_second}
use Rattle.brooklet_model.proofs.Typing.{between_is}
use Rattle.brooklet_step.specs.declared.emit.Emit.{Emit}
use Rattle.brooklet_step.specs.declared.state.State.{State}
use Rattle.brooklet_step.specs.Given.{IsHeldBy, IsHeldOf, FitState, CanTake, CanTakeAll, CanTakeOn, FiresAt, FiresEach, DoesAll, TookOn}
use Rattle.brooklet_step.specs.Joins.{one_port, CanKeep, KeptPairs}
use Rattle.brooklet_step.proofs.EachFused.{fused_each}
use Rattle.brooklet_step.proofs.Fires.{grown_list, blank_room}
use Rattle.brooklet_step.proofs.Fused.{Parts}
use Rattle.brooklet_step.proofs.GivenCode.{takes_on, both_fire}
use Rattle.brooklet_step.proofs.Growth.{blank_of}
use Rattle.brooklet_step.proofs.SelectedCross.{can_keep, all_kept}

-- IN THE TERMS OF THE CODE

-- the first part of two kernels as one
pub fused_first : (a b : Box Kernel Global) (n : ℕ) (a' b' : Box Kernel Global) (n' : ℕ) → kernel.Fused a b n ≡ kernel.Fused a' b' n' → a ≡ a'
fused_first a b n a' b' n' e =
    let l : layer.Fused a b n ≡ layer.Fused a' b' n' = sym (view.out-roll-Kernel (layer.Fused a b n))
    ∙ ap view.out-Kernel (kernel.rolls-Fused a b n ∙ e ∙ sym (kernel.rolls-Fused a' b' n')) ∙ view.out-roll-Kernel (layer.Fused a' b' n') in
    cc

-- the plain form of two kernels as one is that of the two
pub opened : (k first second : Kernel) (a b : Box Kernel Global) (n : ℕ) → k ≡ kernel.Fused a b n → first ≡ a.value → second ≡ b.value
    → kern_of k ≡ fused (kern_of first) (kern_of second) n
opened k first second a b n is ea eb =
    ap kern_of is ∙ kern_of-fused a b n ∙ ap (λ i. fused i (kern_of b.value) n) (sym (ap kern_of ea))
    ∙ ap (λ i. fused (kern_of first) i n) (sym (ap kern_of eb))

-- IN THE TERMS OF THE DEFINITION

-- two kernels as one, of which the first is a selection
abbrev pub behind : Term → Kern → ℕ → Kern
behind e c inner = fused (select e) c inner

abbrev nested : Term → Kern → ℕ → ℕ → Kern
nested e c inner at = fused cross (behind e c inner) at

-- what comes to them of a selection and a kernel behind it
abbrev last_of : Kern → ℕ → List Change → Emit → Emit
last_of k inner ks last = record {
  outs = each_grew (replicate (outs k) []) (splice inner (length last.outs) (list_at (as_changes ks ∷ [])) (list_at last.outs));
  adds = each_grew (replicate (tabs k) []) (beside 0 (list_at []) (list_at last.adds));
}

module _ (e : Term) (c : Kern) (inner at port : ℕ) (i : item.Item) (st mine rest : List State) (s : State) (out : Emit)
    (p : Parts (nested e c inner at) cross (behind e c inner) at 1 st mine rest) (alone : mine ≡ s ∷ [])
    (t : CanTake (nested e c inner at) port i st out) where
  abbrev k : Kern
  k = behind e c inner

  is_shaped : IsShaped (nested e c inner at)
  is_shaped = shaped (nested e c inner at) t.reads t.fitting.writes t.fitting.vars t.fitting.fits

  -- all are behind the only port
  nested_at : at ≡ 0
  nested_at = let h = is_shaped.2 in omega (arith, h)

  inner_at : inner ≡ 0
  inner_at = let h = is_shaped.1.2 in omega (arith, h)

  -- the state of the product can take what comes
  pub nested_can : CanKeep e port i s
  nested_can =
      let f = t.fitting.fits in
      let g = f.7 in
      can_keep e at port i s t.reads f.0 f.1 f.3 g.0 g.3 nested_at f.5 f.6 g.5
      (subst (FitState cross t.reads) (sym p.front ∙ alone) t.fitting.state.0) t.item

  -- what the condition keeps of the pairs was given
  module _ (given : Emit) (s' : State) (kept : KeptPairs e port i (one_port []) given s s') where
    abbrev ds : List Change
    ds = kept.whole

    abbrev ks : List Change
    ks = map (kept_of e) ds

    product : FiresAt cross port i (one_port []) (one_port ds) mine (s' ∷ [])
    product = subst (λ (l : List State). FiresAt cross port i (one_port []) (one_port ds) l (s' ∷ [])) (sym alone) kept.fires

    on_whole : CanTakeOn k at rest (one_port ds) out
    on_whole =
        takes_on (nested e c inner at) cross k at 1 port i st mine rest (s' ∷ []) out (one_port []) (one_port ds) p t (record { outs = refl; adds = refl })
        product

    whole_can : CanTakeAll k (as_changes ds) rest (blank_of k)
    whole_can =
        subst (λ n. CanTakeAll k (list_at (as_changes ds ∷ []) n) rest (blank_of k)) nested_at (on_whole.takes (blank_of k) (record { outs = refl; adds = refl }))

    outs_given : given.outs ≡ as_changes ks ∷ []
    outs_given = kept.took.outs

    adds_given : given.adds ≡ []
    adds_given = kept.took.adds

    selection_does : DoesAll (select e) whole_can.reads whole_can.fitting.fits.0 whole_can.fitting.fits.3 (as_changes ds) (one_port []) (one_port ks) [] []
    selection_does =
        (all_kept e ds).each whole_can.reads whole_can.fitting.fits.0 whole_can.fitting.fits.3 whole_can.fitting.fits.5 whole_can.fitting.state.0
        whole_can.items

    -- the third kernel can take it
    pub third_can : CanTakeOn c inner rest given out
    third_can =
        let f = whole_can.fitting.fits in
        let lo = ap length outs_given in
        let la = ap length adds_given in
        let oo = on_whole.outs in
        let oa = on_whole.adds in
        let mid : list_at given.outs inner ≡ selection_does.came.outs inner = ap (λ (l : List (List item.Item)). list_at l inner) outs_given
        ∙ grown_list 1 (one_port []).outs (one_port ks).outs selection_does.came.outs inner refl selection_does.came.outs_are is_shaped.1.2 in
        record {
          place = (let h = is_shaped.1.2 in omega (arith, h, lo));
          outs = omega (arith, oo, lo);
          adds = omega (arith, oa, la);
          takes = λ blank bl. record {
            reads = f.1 ∷ [];
            fitting = record {
              writes = f.2;
              vars = f.4;
              fits = f.7;
              state =
                  subst (λ (l : List QueueType). FitState c l rest) (between_is (select e) whole_can.reads f.0 f.1 f.3 inner f.5 f.6)
                  whole_can.fitting.state.1;
            };
            items = subst (λ (l : List item.Item). All (IsHeldOf (f.1 ∷ []) 0) l) (sym mid)
                (subst (λ o. All (IsHeldBy o) (selection_does.came.outs inner)) f.6 (selection_does.came.held inner));
            room = blank_room c blank bl;
          };
        }

    -- and what all three give is the firing
    module _ (out' : Emit) (rest' : List State) (r : TookOn c inner given out out' rest rest') where
      abbrev last : Emit
      last = last_of k inner ks r.last

      each : FiresEach k (as_changes ds) (blank_of k) last rest rest'
      each =
          fused_each (select e) c inner (as_changes ds) rest [] rest' (blank_of k) last (one_port []) (one_port ks) r.blank r.last
          (blank_room k (blank_of k) (record { outs = refl; adds = refl })) (record { outs = refl; adds = refl }) (all_kept e ds) r.is_blank
          (subst (λ (l : List (List item.Item)). FiresEach c (list_at l inner) r.blank r.last rest rest') outs_given r.fires) refl refl

      many : length last.outs ≡ outs k
      many = length-each_grew (replicate (outs k) []) (splice inner (length r.last.outs) (list_at (as_changes ks ∷ [])) (list_at r.last.outs))
          ∙ length-replicate (outs k) []

      took : TookOn k at (one_port ds) out out' rest rest'
      took = record {
        blank = blank_of k;
        last = last;
        is_blank = record { outs = refl; adds = refl };
        fires = subst (λ n. FiresEach k (list_at (as_changes ds ∷ []) n) (blank_of k) last rest rest') (sym nested_at) each;
        outs =
            r.outs
            ∙ each_grew_cong out.outs (splice inner (length r.last.outs) (list_at given.outs) (list_at r.last.outs))
            (splice at (length last.outs) (list_at (as_changes ds ∷ [])) (list_at last.outs)) (λ q lt. at_port q lt);
        adds =
            r.adds
            ∙ each_grew_cong out.adds (beside (length given.adds) (list_at given.adds) (list_at r.last.adds))
            (beside 0 (list_at []) (list_at last.adds)) (λ q lt. at_table q lt);
      }
        where
          at_port : (q : ℕ) → q < length out.outs
              → splice inner (length r.last.outs) (list_at given.outs) (list_at r.last.outs) q
              ≡ splice at (length last.outs) (list_at (as_changes ds ∷ [])) (list_at last.outs) q
          at_port q lt =
              let oo = on_whole.outs in
              let m = many in
              let z = nested_at in
              ap (λ (l : List (List item.Item)). splice inner (length r.last.outs) (list_at l) (list_at r.last.outs) q) outs_given
              ∙ sym (splice_second at (length last.outs) (list_at (as_changes ds ∷ [])) (list_at last.outs) q (omega (arith, z)) (omega (arith, oo, m, z, lt))
              ∙ ap (list_at last.outs) (let w : q - at ≡ q = omega (arith, z) in w)
              ∙ grown_list (outs k) (replicate (outs k) []) last.outs
              (splice inner (length r.last.outs) (list_at (as_changes ks ∷ [])) (list_at r.last.outs)) q refl refl (omega (arith, oo, lt)))

          at_table : (q : ℕ) → q < length out.adds
              → beside (length given.adds) (list_at given.adds) (list_at r.last.adds) q ≡ beside 0 (list_at []) (list_at last.adds) q
          at_table q lt =
              let oa = on_whole.adds in
              ap (λ (l : List (List (List ℤ))). beside (length l) (list_at l) (list_at r.last.adds) q) adds_given
              ∙ sym (if_ge q 0 (list_at [] q) (list_at last.adds (q - 0)) (omega arith)
              ∙ ap (list_at last.adds) (let w : q - 0 ≡ q = omega arith in w)
              ∙ grown_list (tabs k) (replicate (tabs k) []) last.adds (beside 0 (list_at []) (list_at r.last.adds)) q refl refl (omega (arith, oa, lt)))

      pub nested_fires : FiresAt (nested e c inner at) port i out out' st (set mine 0 s' ++ rest')
      nested_fires =
          subst (λ (l : List State). FiresAt (nested e c inner at) port i out out' st (l ++ rest')) (sym (ap (λ (l : List State). set l 0 s') alone))
          (both_fire (nested e c inner at) cross k at 1 port i st mine rest (s' ∷ []) rest' out out' (one_port []) (one_port ds) p t
          (record { outs = refl; adds = refl }) product took)
