-- An operator that only adds to tables may be split.
use Rattle.std.proofs.Common.{◌≡◌, ℕ, ℤ, ◌<◌, ◌≤◌, Bool, true, Some, List, [], ◌∷◌, ◌++◌, map, length, replicate, refl, sym, ap, ◌∙◌, subst, arith, IsTrue}
use Rattle.std.proofs.Common.{⊎_elim}
use Rattle.std.specs.Prelude.{count_by}
use Rattle.std.proofs.lemmas.List.{length-replicate}
use Rattle.river_plan.proofs.ValidLaw.{total-append}
use Rattle.river_base.specs.declared.item.Item as item
use Rattle.river_base.specs.declared.kind.FlatType.{FlatType}
use Rattle.river_base.specs.declared.kind.QueueType.TheVariants.{Flat}
use Rattle.river_kernels.specs.Fits.{Fits, is_sized}
use Rattle.river_kernels.specs.Formed.{is_width}
use Rattle.river_kernels.specs.declared.types.VarKind.{VarKind}
use Rattle.river_plan.specs.Faults.{type_width}
use Rattle.river_plan.specs.Forms.{Name, OpForm, PlanForm, all_decls, table_names}
use Rattle.river_plan.specs.Kinds.{kind_of, var_kind, IsFit}
use Rattle.river_plan.specs.Names.{count}
use Rattle.river_plan.specs.Uses.{named_it, vars_it, reads_it}
use Rattle.river_plan.specs.Valid.{IsPlan}
use Rattle.river_plan.proofs.NameLemmas.{count-append, more_or_zero}
use Rattle.brooklet_model.specs.Firings.{Turn, feed}
use Rattle.brooklet_model.specs.Fire.{fire, first_kept, privates, deal_one}
use Rattle.brooklet_model.specs.Histories.{joined, tables_of}
use Rattle.brooklet_model.specs.Shapes.{IsShaped}
use Rattle.brooklet_model.specs.Words.{Word, at_port, PortsBelow}
use Rattle.brooklet_model.proofs.Ports.{shaped, counts}
use Rattle.brooklet_model.proofs.Shapes.{first_turn}
use Rattle.brooklet_model.proofs.Solutions.{count_here}
use Rattle.rw_fission.specs.Fission.{Way, each_op, by_adds, replica_op, joiner_ops, split_ops, split_by}
use Rattle.plan_edits.specs.Lists.{first_with}
use Rattle.rw_fission.specs.Made.{FissionNames}
use Rattle.rw_fission.specs.May.{MayAdd}
use Rattle.rw_fission.proofs.ApartPlan.{IsApartPlan}
use Rattle.rw_fission.specs.Splits.{Splits, dealt_to, sum_below}
use Rattle.rw_fission.proofs.BlockLaw.{shares_are, are_shares}
use Rattle.rw_fission.proofs.Dealt.{in_turns, dealt_is, turns_below}
use Rattle.plan_edits.proofs.Lookups.{map_agree}
use Rattle.rw_fission.proofs.Packs.{none_first}
use Rattle.rw_fission.proofs.Sized.{named_sized}
use Rattle.rw_fission.proofs.SplitLaw.{sum_same}
use Rattle.plan_edits.proofs.Surgery.{found, at_most_all}
use Rattle.rw_fission.proofs.Swap.{it_is, swap_of}
use Rattle.rw_fission.proofs.WayLemmas.{deal_fits, copies_none, all_tables}
use Rattle.rw_fission.proofs.Weighed.{weigh, weigh_ports, items_turns, one_adds, fed_adds}

module _ (p : PlanForm) (l : Name) (op : OpForm) (m : FissionNames) (n : ℕ) (source : Name) (t : FlatType) (v : IsPlan p)
    (here : first_with (named_it l) p.ops ≡ Some op) (some : 0 < n) (y : MayAdd p op source t) where
  abbrev w : Way
  w = by_adds p op m

  abbrev var : Name → VarKind
  var = var_kind p.tables p.vars

  fit : Fits op.kernel (Flat t ∷ []) [] (map var op.vars)
  fit =
      let h : IsFit p op =
      it_is p.ops _ op (split_ops op m n w) (swap_of l p.ops op (split_ops op m n w) (found (named_it l) p.ops op here)) (IsFit p) v.fits in
      let a = ap (map (kind_of (all_decls p))) y.reads ∙ ap (λ k. k ∷ []) y.kind_in in
      let b = ap (map (kind_of (all_decls p))) y.writes in
      subst (λ ts. Fits op.kernel (Flat t ∷ []) ts (map var op.vars)) b
      (subst (λ ts. Fits op.kernel ts (map (kind_of (all_decls p)) op.writes) (map var op.vars)) a h)

  shape : IsShaped op.kernel
  shape = shaped op.kernel (Flat t ∷ []) [] (map var op.vars) fit

  no_privates : privates op.kernel ≡ 0
  no_privates = sym (counts op.kernel (Flat t ∷ []) [] (map var op.vars) fit).privates ∙ all_tables p.tables p.vars op.vars y.tables

  no_state : first_kept op.kernel ≡ []
  no_state = none_first op.kernel shape no_privates

  t_sized : is_sized t ≡ true
  t_sized =
      subst (λ k. IsTrue (is_width (type_width k))) y.kind_in
      (named_sized p v source
      (v.reads_declared source
      (let a = at_most_all l (reads_it source) p.ops op here in let b = ap (count source) y.reads in let c = count_here source [] in omega (arith, a, b, c))))

  abbrev tabs : List Name
  tabs = tables_of (table_names p.tables) op

  same_adds : (xs : List item.Item) (x : Name) (test : List ℤ → Bool)
      → sum_below n (λ i. count_by test (joined tabs (feed (fire op.kernel 0) (dealt_to n 1 xs i) (first_kept op.kernel)).adds x)) ≡ count_by test
      (joined tabs (feed (fire op.kernel 0) xs (first_kept op.kernel)).adds x)
  same_adds xs x test =
      let k = op.kernel in
      let one = one_adds k tabs x test in
      let ws : List ℕ = replicate n 1 in
      let u : Word = in_turns ws 0 0 xs in
      let sh = are_shares n 1 some (omega arith) in
      let lw : length ws ≡ n = length-replicate n 1 in
      let fed = λ (ys : List item.Item). ap (λ ss. count_by test (joined tabs (feed (fire k 0) ys ss).adds x)) no_state
      ∙ fed_adds k tabs x test ys shape no_privates in
      sum_same n (λ i. count_by test (joined tabs (feed (fire k 0) (dealt_to n 1 xs i) (first_kept k)).adds x)) (λ i. weigh one (at_port i u))
      (λ i lt. fed (dealt_to n 1 xs i) ∙ ap (weigh one) (ap (λ ls. (feed (deal_one ls) xs (Turn 0 0 ∷ [])).outs i) (shares_are n 1) ∙ dealt_is ws 0 0 xs i))
      ∙ weigh_ports one n u (subst (λ j. PortsBelow j u) lw (turns_below ws 0 0 xs sh (first_turn ws sh)))
      ∙ ap (weigh one) (items_turns ws 0 0 xs)
      ∙ sym (fed xs)

  -- an operator that only adds may be split
  pub splits_adds : IsApartPlan (split_by p l op m n (Flat t) w) → Splits (λ x. Unit {0}) p l op m n source (Flat t) w
  splits_adds apart = record {
    some = some;
    reads = y.reads;
    kind = y.kind_in;
    ends = y.writes;
    queues_once = apart.queues_once;
    variables_once =
        λ x. let a = apart.variables_once x in let b = count-append x (table_names p.tables) (w.stay ++ w.new) in let c =
        count-append x w.stay w.new in omega (arith, a, b, c);
    labels_once = apart.labels_once;
    within = apart.within;
    deals = deal_fits n 1 t some (omega arith) t_sized;
    inner = λ kind a b i lt. subst (Fits op.kernel (Flat t ∷ []) []) (map_agree var kind op.vars (λ x h. sym (a x (y.tables x h)))) fit;
    stay_in = λ x. omega arith;
    stay_but = λ x z. refl;
    splitter_new = count_here m.splitter [];
    joiner_new = λ j e. absurd (cc e);
    put_vars = λ x z.
        let a = total-append (vars_it x) (each_op (replica_op w m) n) (joiner_ops op m n w.join) in
        let none : count x op.vars ≡ 0 = ⊎_elim (λ h. absurd (let k = y.tables x h in omega (arith, k, z))) (λ h. h) (more_or_zero (count x op.vars)) in
        let b = copies_none x (replica_op w m) n (λ i. none) in
        omega (arith, a, b);
    apart =
        λ i x lt. it_is p.ops _ op (split_ops op m n w) (swap_of l p.ops op (split_ops op m n w) (found (named_it l) p.ops op here))
        (λ o. (z : Name) → vars_it z o ≤ 1) v.vars_apart x;
    joins = tt;
    adds = same_adds;
  }
