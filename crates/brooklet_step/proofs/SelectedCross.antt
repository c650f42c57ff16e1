-- Firings of a product with a selection behind it.
use Rattle.std.proofs.Common.{◌≡◌, ℕ, zero, suc, ◌<◌, ◌+◌, true, List, [], ◌∷◌, ◌++◌, length, map, refl, sym, ap, ◌∙◌, arith, subst, append_assoc}
use Rattle.std.specs.Prelude.{Some, slice_get}
use Rattle.std.proofs.lemmas.List.{append-nil, map-append}
use Rattle.river_kernels.proofs.WellFormed.{term_within}
use Rattle.river_base.proofs.PlaceLemmas.{each_grew_cong}
use Rattle.river_base.specs.declared.item.Change.{Change}
use Rattle.river_base.specs.declared.item.Flat as flat
use Rattle.river_base.specs.declared.item.Flat.TheVariants.{Change as Changed}
use Rattle.river_base.specs.declared.item.Item as item
use Rattle.river_base.specs.declared.item.Item.TheVariants.{Flat}
use Rattle.river_base.specs.declared.kind.FlatType.{FlatType}
use Rattle.river_base.specs.declared.kind.FlatType.TheVariants.{Relation}
use Rattle.river_base.specs.declared.kind.QueueType.{QueueType}
use Rattle.river_base.specs.declared.kind.QueueType.TheVariants.{Flat as FlatOf}
use Rattle.river_base.specs.Places.{only, none, list_at}
use Rattle.work_code.specs.Term.{Term}
use Rattle.kern_bags.specs.Following.{CrossKept, CrossSteps, as_changes, put_change}
use Rattle.kern_bags.specs.Joined.{kept_of, CanJoinChanges, CanJoinFlat, JoinsFlat}
use Rattle.kern_bags.proofs.Stepping.{selects, select_fits}
use Rattle.river_kernels.specs.declared.types.VarKind.{VarKind}
use Rattle.river_kernels.specs.Fits.{Fits, relation, width_of}
use Rattle.river_kernels.specs.Formed.{is_term}
use Rattle.river_kernels.specs.Kern.{Kern, cross, select, fused}
use Rattle.brooklet_model.specs.Firings.{gives, splice, beside}
use Rattle.brooklet_model.proofs.Ports.{shaped}
use Rattle.brooklet_step.specs.declared.emit.Emit.{Emit}
use Rattle.brooklet_step.specs.declared.state.State.{State}
use Rattle.brooklet_step.specs.declared.state.State.TheVariants as state
use Rattle.brooklet_step.specs.Stands.{IsChange}
use Rattle.brooklet_step.specs.Took.{Took}
use Rattle.brooklet_step.specs.Given.{IsHeldOf, FitCross, FitState, CanTake, FiresAt, FiresEach}
use Rattle.brooklet_step.specs.Joins.{one_port, CanKeep, KeptPairs}
use Rattle.brooklet_step.proofs.BagLeaves.{cross_item, read_type}
use Rattle.brooklet_step.proofs.CrossFires.{put_wide, cross_flat_does}
use Rattle.brooklet_step.proofs.Fused.{Parts}
use Rattle.brooklet_step.proofs.GivenCode.{both_fire}
use Rattle.brooklet_step.proofs.GivenFires.{each_start, each_step}
use Rattle.brooklet_step.proofs.OnePort.{one_list}
use Rattle.brooklet_step.proofs.RowwiseFires.{select_does}

abbrev join : Term → ℕ → Kern
join e at = fused cross (select e) at

parts : (e : Term) (at : ℕ) (s : State) → Parts (join e at) cross (select e) at 1 (s ∷ []) (s ∷ []) []
parts e at s = record { kernel = refl; counted = refl; front = refl; back = refl }

same_some : (a b : QueueType) → Some a ≡ Some b → a ≡ b
same_some a b e = cc

same_change : (c d : Change) → Changed c ≡ Changed d → c ≡ d
same_change c d e = cc

same_types : (t : FlatType) (n : ℕ) (m : QueueType) → m ∷ [] ≡ FlatOf t ∷ [] → relation n ≡ m → t ≡ Relation n
same_types t n m e g = let h : FlatOf t ∷ [] ≡ relation n ∷ [] = sym e ∙ ap (λ q. q ∷ []) (sym g) in cc

same_state : (s t : State) → s ∷ [] ≡ t ∷ [] → s ≡ t
same_state s t e = cc

-- what the state of a product can take, where a selection stands behind the product
pub can_keep : (e : Term) (at port : ℕ) (i : item.Item) (s : State) (reads ms : List QueueType) (m : QueueType) (us : List VarKind) (bs : List QueueType)
    (ws : List VarKind)
    → at ≡ 0 → Fits cross reads ms us → slice_get ms at ≡ Some m → Fits (select e) (m ∷ []) bs ws → FitState cross reads (s ∷ []) → IsHeldOf reads port i
    → CanKeep e port i s
can_keep e at port i s reads ms m us bs ws z f g k fs hi =
    let n = f.0 + f.1 in
    let it = cross_item port i s (one_port []) (record {
      reads = reads;
      fitting = record { writes = ms; vars = us; fits = f; state = fs };
      item = hi;
      room = record { outs = refl; adds = refl };
    }) in
    let h : FitCross (relation f.0 ∷ relation f.1 ∷ []) (s ∷ []) = subst (λ l. FitCross l (s ∷ [])) f.2 fs in
    let here : IsHeldOf (relation f.0 ∷ relation f.1 ∷ []) port (Flat (Changed it.change)) =
    subst (λ x. IsHeldOf (relation f.0 ∷ relation f.1 ∷ []) port x) it.is (subst (λ l. IsHeldOf l port i) f.2 hi) in
    let mid : Some (relation n) ≡ Some m = (λ j. slice_get (sym f.3 j) (sym z j)) ∙ g in
    let kind : k.0 ≡ Relation n = same_types k.0 n m k.1 (same_some (relation n) m mid) in
    let reads_all : is_term n 0 e ≡ true = read_type k.0 n e k.4 (ap width_of kind) in
    record {
      now = h.now;
      change = it.change;
      code = same_state s (state.Cross h.now) h.code;
      is = it.is;
      can = record { left = f.0; right = f.1; wide = put_wide f.0 f.1 port it.change h.now here (h.wide f.0 f.1 refl); reads = term_within n 0 e reads_all };
    }

module _ (e : Term) (at port : ℕ) (i : item.Item) (s : State) (out : Emit) (t : CanTake (join e at) port i (s ∷ []) out) where
  -- it is behind the only port
  join_at : at ≡ 0
  join_at = let h = (shaped (join e at) t.reads t.fitting.writes t.fitting.vars t.fitting.fits).2 in omega (arith, h)

  -- the state can take what comes
  pub join_can : CanKeep e port i s
  join_can =
      let f = t.fitting.fits in
      can_keep e at port i s t.reads f.0 f.1 f.3 f.2 f.4 join_at f.5 f.6 f.7 t.fitting.state.0 t.item

  -- there is a list for what is given
  pub join_room : 0 < length out.outs
  join_room = one_list (join e at) out refl t.room

-- WHAT COMES, IN THE TERMS OF THE CODE

module _ (e : Term) (port : ℕ) (i : item.Item) (s : State) (k : CanKeep e port i s) where
  -- it is a change
  pub keep_item : IsChange i
  keep_item = record { change = k.change; is = k.is }

  -- and can come
  pub keep_flat : (now : CrossKept) (g : flat.Flat) → s ≡ state.Cross now → Flat g ≡ i → CanJoinFlat e port g now
  keep_flat now g is h =
      let same : now ≡ k.now = let c = k.code in cc in
      let f : g ≡ Changed k.change = let w = k.is in cc in
      subst (λ x. CanJoinFlat e port x now) (sym f) (subst (λ n. CanJoinChanges e (put_change port k.change n)) (sym same) k.can)

  -- what was given is told by the changes that the product gives
  pub keep_pairs : (now now' : CrossKept) (g : flat.Flat) (items : List item.Item) (out out' : Emit) → s ≡ state.Cross now → Flat g ≡ i
      → JoinsFlat e port g now now' [] items → Took out out' (gives 0 items []) → KeptPairs e port i out out' s (state.Cross now')
  keep_pairs now now' g items out out' is h j took =
      let f : g ≡ Changed k.change = let w = k.is in cc in
      let d = j.each k.change f in
      record {
        whole = d.whole;
        took = subst (λ (l : List item.Item). Took out out' (gives 0 l [])) d.grew took;
        fires =
            subst (λ (x : item.Item). FiresAt cross port x (one_port []) (one_port d.whole) (s ∷ []) (state.Cross now' ∷ [])) h
            (subst (λ (x : State). FiresAt cross port (Flat g) (one_port []) (one_port d.whole) (x ∷ []) (state.Cross now' ∷ [])) (sym is)
            (cross_flat_does port g (as_changes d.whole) now now' (one_port []) (one_port d.whole) (record { change = k.change; is = f }) (record {
              each = λ c same. record {
                given = d.whole;
                grew = refl;
                is = subst (λ y. CrossSteps (put_change port y now) now' d.whole) (same_change k.change c (sym f ∙ same)) d.is;
              };
            }) (record { outs = refl; adds = refl })));
      }

-- WHAT THE SELECTION GIVES

one_kept : (e : Term) (c : Change) (ks : List Change) → FiresAt (select e) 0 (Flat (Changed c)) (one_port ks) (one_port (ks ++ kept_of e c ∷ [])) [] []
one_kept e c ks =
    select_does e c (kept_of e c) (one_port ks) (one_port (ks ++ kept_of e c ∷ [])) (selects e c (kept_of e c) refl) (λ n. select_fits n e c (kept_of e c) refl)
    (record { outs = ap (λ l. l ∷ []) (map-append (λ (d : Change). Flat (Changed d)) ks (kept_of e c ∷ [])); adds = refl })

-- of changes, one after another, what is kept
each_kept : (e : Term) (done rest : List Change) → FiresEach (select e) (as_changes done) (one_port []) (one_port (map (kept_of e) done)) [] []
    → FiresEach (select e) (as_changes (done ++ rest)) (one_port []) (one_port (map (kept_of e) (done ++ rest))) [] []
each_kept e done [] f = subst (λ l. FiresEach (select e) (as_changes l) (one_port []) (one_port (map (kept_of e) l)) [] []) (sym (append-nil done)) f
each_kept e done (c ∷ cs) f =
    let ks = map (kept_of e) done in
    let next : FiresEach (select e) (as_changes done ++ Flat (Changed c) ∷ []) (one_port []) (one_port (ks ++ kept_of e c ∷ [])) [] [] =
    each_step (select e) (as_changes done) (Flat (Changed c)) [] [] [] (one_port []) (one_port ks) (one_port (ks ++ kept_of e c ∷ [])) f (one_kept e c ks) in
    let more : FiresEach (select e) (as_changes (done ++ c ∷ [])) (one_port []) (one_port (map (kept_of e) (done ++ c ∷ []))) [] [] =
    subst (λ l. FiresEach (select e) (as_changes (done ++ c ∷ [])) (one_port []) (one_port l) [] []) (sym (map-append (kept_of e) done (c ∷ [])))
    (subst (λ l. FiresEach (select e) l (one_port []) (one_port (ks ++ kept_of e c ∷ [])) [] []) (sym (map-append (λ (d : Change). Flat (Changed d)) done (c ∷ [])))
    next) in
    subst (λ l. FiresEach (select e) (as_changes l) (one_port []) (one_port (map (kept_of e) l)) [] []) (append_assoc done (c ∷ []) cs)
    (each_kept e (done ++ c ∷ []) cs more)

-- of the changes of a list, what is kept
pub all_kept : (e : Term) (ds : List Change) → FiresEach (select e) (as_changes ds) (one_port []) (one_port (map (kept_of e) ds)) [] []
all_kept e ds = each_kept e [] ds (each_start (select e) (one_port []) [])

-- BOTH

join_does : (e : Term) (port : ℕ) (i : item.Item) (s s' : State) (out out' : Emit) → CanTake (join e 0) port i (s ∷ []) out → KeptPairs e port i out out' s s'
    → FiresAt (join e 0) port i out out' (s ∷ []) (s' ∷ [])
join_does e port i s s' out out' t k =
    let ds = k.whole in
    let ks = map (kept_of e) ds in
    let one = t.room.outs in
    let no = t.room.adds in
    both_fire (join e 0) cross (select e) 0 1 port i (s ∷ []) (s ∷ []) [] (s' ∷ []) [] out out' (one_port [])
    (one_port ds) (parts e 0 s) t (record { outs = refl; adds = refl }) k.fires (record {
      blank = one_port [];
      last = one_port ks;
      is_blank = record { outs = refl; adds = refl };
      fires = all_kept e ds;
      outs =
          k.took.outs
          ∙ each_grew_cong out.outs (only 0 (as_changes ks)) (splice 0 1 (list_at (as_changes ds ∷ [])) (list_at (as_changes ks ∷ [])))
          (λ p lt. at p (omega (arith, one, lt)));
      adds = k.took.adds ∙ each_grew_cong out.adds none (beside 0 (list_at []) (list_at [])) (λ p lt. absurd (omega (arith, no, lt)));
    })
  where
    at : (p : ℕ) → p < 1
        → only 0 (as_changes (map (kept_of e) k.whole)) p
        ≡ splice 0 1 (list_at (as_changes k.whole ∷ [])) (list_at (as_changes (map (kept_of e) k.whole) ∷ [])) p
    at zero lt = refl
    at (suc p) lt = absurd (omega (arith, lt))

-- what a product with a selection behind it gives is the firing of both
pub join_fires : (e : Term) (at port : ℕ) (i : item.Item) (s s' : State) (out out' : Emit) → CanTake (join e at) port i (s ∷ []) out
    → KeptPairs e port i out out' s s' → FiresAt (join e at) port i out out' (s ∷ []) (s' ∷ [])
join_fires e at port i s s' out out' t k =
    let z = join_at e at port i s out t in
    subst (λ n. FiresAt (join e n) port i out out' (s ∷ []) (s' ∷ [])) (sym z)
    (join_does e port i s s' out out' (subst (λ n. CanTake (join e n) port i (s ∷ []) out) z t) k)
