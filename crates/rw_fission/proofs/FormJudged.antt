-- Which form an operator takes: the first that it has.
use Rattle.std.proofs.Common.{◌≡◌, ℕ, ◌<◌, inl, inr, Bool, true, ◌&&◌, Option, Some, None, List, [], ◌∷◌, length, refl, sym, ap, ◌∙◌, subst, arith, ⊎_elim}
use Rattle.std.specs.Prelude.{nat_le, nat_lt, nat_eq, is_none}
use Rattle.std.specs.List.{list_all}
use Rattle.std.proofs.lemmas.Bool.{and_from, lt-ltb, le-leb, eq-eqb}
use Rattle.std.proofs.lemmas.Option.{none-some}
use Rattle.river_base.proofs.PlaceLemmas.{if_true}
use Rattle.river_base.proofs.Options.{none_some}
use Rattle.river_base.proofs.Lists.{alone_same}
use Rattle.river_base.specs.declared.kind.FlatType.{FlatType}
use Rattle.river_base.specs.declared.kind.QueueType.{QueueType}
use Rattle.river_base.specs.declared.kind.QueueType.TheVariants.{Flat, Pack}
use Rattle.kern_rows.specs.Forms.{FilterForm}
use Rattle.river_kernels.specs.Fits.{rows}
use Rattle.river_kernels.specs.Kern.{filter}
use Rattle.river_kernels.specs.Limits.{either}
use Rattle.river_plan.specs.Forms.{Name, OpForm, PlanForm, all_decls, table_names}
use Rattle.river_plan.specs.Kinds.{kind_of}
use Rattle.river_plan.specs.Names.{count}
use Rattle.brooklet_model.proofs.Solutions.{count_here}
use Rattle.rw_fission.specs.Asked.{packs_to, packs_way, is_nil, blocks_way, adds_way, way_of}
use Rattle.rw_fission.specs.Fission.{Way, by_packs, by_blocks, by_adds}
use Rattle.rw_fission.specs.Made.{FissionNames}
use Rattle.rw_fission.specs.May.{MayPack, MayBlock, MayAdd}
use Rattle.rw_fission.specs.Splitting.{CanPack, CanBlock, CanAdd, SplitsBy}
use Rattle.rw_fission.proofs.Accepted.{packs_is, blocks_is, adds_is}

all_named : (t : Name → Bool) (ws : List Name) → ((x : Name) → 0 < count x ws → t x ≡ true) → list_all t ws ≡ true
all_named t [] h = refl
all_named t (w ∷ ws) h = and_from (t w) (list_all t ws) (h w (count_here w ws)) (all_named t ws (λ x lt. h x (omega (arith, lt))))

same_flat : (t u : FlatType) → Flat t ≡ Flat u → t ≡ u
same_flat t u h = cc h

same_filter : (f g : FilterForm) → filter f ≡ filter g → f ≡ g
same_filter f g h = cc h

not_flat : (t u : FlatType) → Pack t ≡ Flat u → ⊥
not_flat t u h = cc h

module _ (p : PlanForm) (op : OpForm) (m : FissionNames) (n : ℕ) (source : Name) where
  -- WHERE A FORM IS THERE

  packs_some : (out : Name) (t u : FlatType) → MayPack p op source out t u → packs_way p op m n op.writes op.vars ≡ Some (by_packs p op m n u)
  packs_some out t u k =
      ap (λ ws. packs_way p op m n ws op.vars) k.writes ∙ ap (packs_way p op m n (out ∷ [])) k.vars ∙ ap (packs_to p op m n) k.kind_out

  blocks_some : (f : FilterForm) → MayBlock p op source f → blocks_way p op m n op.kernel ≡ Some (by_blocks p op m n f.pop f.push)
  blocks_some f k =
      ap (blocks_way p op m n) k.kernel
      ∙ if_true (nat_eq f.peek f.pop && (is_nil f.starts && (is_none f.first && nat_le 1 f.push))) (Some (by_blocks p op m n f.pop f.push)) None
      (and_from (nat_eq f.peek f.pop) (is_nil f.starts && (is_none f.first && nat_le 1 f.push)) (eq-eqb f.peek f.pop k.whole)
      (and_from (is_nil f.starts) (is_none f.first && nat_le 1 f.push) (ap is_nil k.starts)
      (and_from (is_none f.first) (nat_le 1 f.push) (ap is_none k.usual) (le-leb 1 f.push k.gives))))

  adds_listed : (t : FlatType) (vs : List Name) → MayAdd p op source t → op.vars ≡ vs → 0 < length vs → adds_way p op m [] vs ≡ Some (by_adds p op m)
  adds_listed t [] k e lt = absurd (omega (arith, lt))
  adds_listed t (v ∷ vs) k e lt =
      if_true (list_all (λ x. nat_lt 0 (count x (table_names p.tables))) (v ∷ vs)) (Some (by_adds p op m)) None
      (all_named (λ x. nat_lt 0 (count x (table_names p.tables))) (v ∷ vs)
      (λ x l. lt-ltb 0 (count x (table_names p.tables)) (k.tables x (subst (λ ws. 0 < count x ws) (sym e) l))))

  adds_some : CanAdd p op source → adds_way p op m op.writes op.vars ≡ Some (by_adds p op m)
  adds_some k = ap (λ ws. adds_way p op m ws op.vars) k.1.writes ∙ adds_listed k.0 op.vars k.1 refl k.2

  -- at least one variable
  some_vars : (ws vs : List Name) (w : Way) → adds_way p op m ws vs ≡ Some w → 0 < length vs
  some_vars [] [] w h = absurd (none-some w h)
  some_vars [] (v ∷ vs) w h = omega arith
  some_vars (q ∷ qs) vs w h = absurd (none-some w h)

  -- WHICH IS TAKEN

  -- what is answered: the form by which the operator is split, or that it has none of the three
  abbrev pub WayJudged : Option Way → Type 0
  WayJudged (Some w) = SplitsBy p op m n source w
  WayJudged None = (CanPack p op source → ⊥) × (CanBlock p op source → ⊥) × (CanAdd p op source → ⊥)

  module _ (reads : op.reads ≡ source ∷ []) where
    flat : (t : FlatType) → kind_of (all_decls p) source ≡ Flat t → (a b c : Option Way) → packs_way p op m n op.writes op.vars ≡ a
        → blocks_way p op m n op.kernel ≡ b
        → adds_way p op m op.writes op.vars ≡ c
        → WayJudged (either a (either b c))
    flat t k (Some w) b c ea eb ec = let s = packs_is p op m n source t w op.writes op.vars reads k refl refl ea in inl (s.out, t, s.type, s.may, s.is)
    flat t k None (Some w) c ea eb ec =
        let s = blocks_is p op m n source w op.kernel reads refl eb in inr (inl ((λ h. none_some _ _ ea (packs_some h.0 h.1 h.2 h.3)), s.form, s.may, s.is))
    flat t k None None (Some w) ea eb ec =
        let s = adds_is p op m source t w op.writes op.vars reads k refl refl ec in
        inr (inr (
          (λ h. none_some _ _ ea (packs_some h.0 h.1 h.2 h.3)),
          (λ h. none_some _ _ eb (blocks_some h.0 h.1)),
          (t, s.may, some_vars op.writes op.vars w ec),
          s.is,
        ))
    flat t k None None None ea eb ec =
        ((λ h. none_some _ _ ea (packs_some h.0 h.1 h.2 h.3)), (λ h. none_some _ _ eb (blocks_some h.0 h.1)), (λ h. none_some _ _ ec (adds_some h)))

    by_kind : (k : QueueType) → kind_of (all_decls p) source ≡ k → ((f : FilterForm) → MayBlock p op source f → kind_of (all_decls p) source ≡ rows 1)
        → WayJudged (way_of p op m n k)
    by_kind (Flat t) e block = flat t e (packs_way p op m n op.writes op.vars) (blocks_way p op m n op.kernel)
        (adds_way p op m op.writes op.vars) refl refl refl
    by_kind (Pack t) e block = (
      (λ h. not_flat t h.1 (sym e ∙ h.3.kind_in)),
      (λ h. not_flat t _ (sym e ∙ block h.0 h.1)),
      (λ h. not_flat t h.0 (sym e ∙ h.1.kind_in)),
    )

    -- the way that is found is by the first form that there is
    pub way_judged : ((f : FilterForm) → MayBlock p op source f → kind_of (all_decls p) source ≡ rows 1)
        → WayJudged (way_of p op m n (kind_of (all_decls p) source))
    way_judged block = by_kind (kind_of (all_decls p) source) refl block

  -- there is one way
  pub one_way : (w u : Way) → SplitsBy p op m n source w → SplitsBy p op m n source u → w ≡ u
  one_way w u a b = ⊎_elim
      (λ x. ⊎_elim
      (λ y. packs_same x.0 x.1 x.2 y.0 y.1 y.2 w u x.3 x.4 y.3 y.4)
      (λ r. ⊎_elim (λ y. absurd (y.0 (x.0, x.1, x.2, x.3))) (λ y. absurd (y.0 (x.0, x.1, x.2, x.3))) r) b)
      (λ s. ⊎_elim
      (λ x. ⊎_elim
      (λ y. absurd (x.0 (y.0, y.1, y.2, y.3)))
      (λ r. ⊎_elim (λ y. blocks_same x.1 y.1 w u x.2 x.3 y.2 y.3) (λ y. absurd (y.1 (x.1, x.2))) r) b)
      (λ x. ⊎_elim
      (λ y. absurd (x.0 (y.0, y.1, y.2, y.3)))
      (λ r. ⊎_elim (λ y. absurd (x.1 (y.1, y.2))) (λ y. x.3 ∙ sym y.3) r) b) s) a
    where
      packs_same : (o : Name) (t v : FlatType) (o' : Name) (t' v' : FlatType) (w u : Way) → MayPack p op source o t v → w ≡ by_packs p op m n v
          → MayPack p op source o' t' v'
          → u ≡ by_packs p op m n v'
          → w ≡ u
      packs_same o t v o' t' v' w u x e y d =
          let same = alone_same o o' (sym x.writes ∙ y.writes) in
          let f = same_flat v v' (sym x.kind_out ∙ ap (kind_of (all_decls p)) same ∙ y.kind_out) in
          e ∙ ap (by_packs p op m n) f ∙ sym d

      blocks_same : (f g : FilterForm) (w u : Way) → MayBlock p op source f → w ≡ by_blocks p op m n f.pop f.push → MayBlock p op source g
          → u ≡ by_blocks p op m n g.pop g.push
          → w ≡ u
      blocks_same f g w u x e y d =
          let s = same_filter f g (sym x.kernel ∙ y.kernel) in e ∙ ap (λ (h : FilterForm). by_blocks p op m n h.pop h.push) s ∙ sym d
