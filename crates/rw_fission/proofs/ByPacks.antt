-- An operator without variables may be split.
use Rattle.std.proofs.Common.{◌≡◌, ℕ, ◌<◌, true, Some, [], ◌∷◌, ◌++◌, map, replicate, refl, sym, ap, ◌∙◌, subst, arith, IsTrue}
use Rattle.std.specs.Prelude.{count_by, nat_le, nat_lt, filter}
use Rattle.std.proofs.lemmas.Bool.{and_from}
use Rattle.river_plan.proofs.ValidLaw.{total-append}
use Rattle.river_base.specs.declared.kind.FlatType.{FlatType}
use Rattle.river_base.specs.declared.kind.QueueType.TheVariants.{Flat, Pack}
use Rattle.river_kernels.specs.Fits.{Fits, is_sized}
use Rattle.river_kernels.specs.Kern.{packed, unpack}
use Rattle.river_kernels.specs.Formed.{is_width}
use Rattle.river_kernels.specs.declared.types.VarKind.TheVariants.{Private}
use Rattle.river_plan.specs.Faults.{type_width}
use Rattle.river_plan.specs.Forms.{Name, OpForm, PlanForm, all_decls, table_names}
use Rattle.river_plan.specs.Kinds.{kind_of, var_kind, IsFit}
use Rattle.river_plan.specs.Names.{count}
use Rattle.river_plan.specs.Uses.{named_it, vars_it, writes_it, reads_it}
use Rattle.river_plan.specs.Valid.{IsPlan}
use Rattle.river_plan.proofs.NameLemmas.{count-append}
use Rattle.brooklet_model.specs.Firings.{Turn, feed}
use Rattle.brooklet_model.specs.Fire.{fire, first_kept, privates, deal_one}
use Rattle.brooklet_model.specs.Histories.{joined, tables_of}
use Rattle.brooklet_model.specs.Shapes.{IsShaped}
use Rattle.brooklet_model.proofs.Ports.{shaped, counts}
use Rattle.brooklet_model.proofs.Solutions.{count_here}
use Rattle.rw_fission.specs.Fission.{Way, each_op, by_packs, replica_op, joiner_ops, split_ops, split_by}
use Rattle.plan_edits.specs.Lists.{first_with}
use Rattle.rw_fission.specs.Made.{FissionNames}
use Rattle.rw_fission.specs.May.{MayPack}
use Rattle.rw_fission.proofs.ApartPlan.{IsApartPlan}
use Rattle.rw_fission.specs.Splits.{Splits, JoinerGives, dealt_to}
use Rattle.rw_fission.proofs.BlockLaw.{shares_are, are_shares}
use Rattle.rw_fission.proofs.Packs.{GivesFlat, packs_of, packed_is, packs_undo, none_first}
use Rattle.rw_fission.proofs.Sized.{named_sized}
use Rattle.plan_edits.proofs.Surgery.{found, at_most_all}
use Rattle.rw_fission.proofs.Swap.{it_is, swap_of}
use Rattle.rw_fission.proofs.WayLemmas.{deal_fits, sum_zero, copies_none}

module _ (p : PlanForm) (l : Name) (op : OpForm) (m : FissionNames) (n : ℕ) (source out : Name) (t u : FlatType) (v : IsPlan p)
    (here : first_with (named_it l) p.ops ≡ Some op) (some : 0 < n) (y : MayPack p op source out t u) where
  abbrev w : Way
  w = by_packs p op m n u

  -- the kernel fits
  pub fit : Fits op.kernel (Flat t ∷ []) (Flat u ∷ []) []
  fit =
      let h : IsFit p op =
      it_is p.ops _ op (split_ops op m n w) (swap_of l p.ops op (split_ops op m n w) (found (named_it l) p.ops op here)) (IsFit p) v.fits in
      let a = ap (map (kind_of (all_decls p))) y.reads ∙ ap (λ k. k ∷ []) y.kind_in in
      let b = ap (map (kind_of (all_decls p))) y.writes ∙ ap (λ k. k ∷ []) y.kind_out in
      let c = ap (map (var_kind p.tables p.vars)) y.vars in
      subst (Fits op.kernel (Flat t ∷ []) (Flat u ∷ [])) c
      (subst (λ ts. Fits op.kernel (Flat t ∷ []) ts (map (var_kind p.tables p.vars) op.vars)) b
      (subst (λ ts. Fits op.kernel ts (map (kind_of (all_decls p)) op.writes) (map (var_kind p.tables p.vars) op.vars)) a h))

  shape : IsShaped op.kernel
  shape = shaped op.kernel (Flat t ∷ []) (Flat u ∷ []) [] fit

  -- it has no private variable
  pub no_privates : privates op.kernel ≡ 0
  no_privates = sym (counts op.kernel (Flat t ∷ []) (Flat u ∷ []) [] fit).privates

  no_state : first_kept op.kernel ≡ []
  no_state = none_first op.kernel shape no_privates

  t_sized : is_sized t ≡ true
  t_sized =
      subst (λ k. IsTrue (is_width (type_width k))) y.kind_in
      (named_sized p v source
      (v.reads_declared source
      (let a = at_most_all l (reads_it source) p.ops op here in let b = ap (count source) y.reads in let c = count_here source [] in omega (arith, a, b, c))))

  u_sized : is_sized u ≡ true
  u_sized =
      subst (λ k. IsTrue (is_width (type_width k))) y.kind_out
      (named_sized p v out
      (v.writes_declared out
      (let a = at_most_all l (writes_it out) p.ops op here in let b = ap (count out) y.writes in let c = count_here out [] in omega (arith, a, b, c))))

  joins_packs : JoinerGives (GivesFlat op.kernel) op n w w.join
  joins_packs xs h good e =
      packs_undo n op.kernel xs h shape no_privates (are_shares n 1 some (omega arith)) good
      (λ i lt.
      e i lt
      ∙ ap (λ ss. (feed (fire (packed op.kernel) 0) (dealt_to n 1 xs i) ss).outs 0) no_state
      ∙ packed_is op.kernel (dealt_to n 1 xs i) shape no_privates
      ∙ ap (λ ws. packs_of op.kernel ((feed (deal_one ws) xs (Turn 0 0 ∷ [])).outs i)) (shares_are n 1))
      ∙ ap (λ ss. (feed (fire op.kernel 0) xs ss).outs 0) (sym no_state)

  -- an operator without variables may be split
  pub splits_packs : IsApartPlan (split_by p l op m n (Flat t) w) → Splits (GivesFlat op.kernel) p l op m n source (Flat t) w
  splits_packs apart = record {
    some = some;
    reads = y.reads;
    kind = y.kind_in;
    ends = (
      out,
      y.writes,
      u_sized,
      subst (λ k. Fits (unpack n) (replicate n (Pack u)) (k ∷ []) (Private ∷ [])) (sym y.kind_out)
          (u, refl, refl, refl, and_from (is_sized u) (nat_le 1 n) u_sized (grind (arith, some))),
    );
    queues_once = apart.queues_once;
    variables_once =
        λ x. let a = apart.variables_once x in let b = count-append x (table_names p.tables) (w.stay ++ w.new) in let c =
        count-append x w.stay w.new in omega (arith, a, b, c);
    labels_once = apart.labels_once;
    within = apart.within;
    deals = deal_fits n 1 t some (omega arith) t_sized;
    inner = λ kind a b i lt. (t, u, refl, refl, refl, fit);
    stay_in = λ x. omega arith;
    stay_but = λ x z. refl;
    splitter_new = count_here m.splitter (m.joiner ∷ []);
    joiner_new = λ j e. let a = count_here m.joiner [] in omega (arith, a);
    put_vars = λ x z.
        let a = total-append (vars_it x) (each_op (replica_op w m) n) (joiner_ops op m n w.join) in
        let b = copies_none x (replica_op w m) n (λ i. refl) in
        omega (arith, a, b);
    apart = λ i x lt. omega arith;
    joins = joins_packs;
    adds = λ xs x test.
        let a = sum_zero n (λ i. count_by test
        (joined (tables_of (table_names p.tables) (replica_op w m i)) (feed (fire w.inner 0) (dealt_to n 1 xs i) (first_kept w.inner)).adds x))
        (λ i lt. refl) in
        a ∙ ap (λ vs. count_by test
        (joined (filter (λ v. nat_lt 0 (count v (table_names p.tables))) vs) (feed (fire op.kernel 0) xs (first_kept op.kernel)).adds x)) (sym y.vars);
  }
