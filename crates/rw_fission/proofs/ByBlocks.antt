-- A filter that takes whole blocks may be split.
use Rattle.std.proofs.Common.{◌≡◌, ℕ, pos, ◌+◌, ◌<◌, ◌≤◌, ◌&&◌, Some, List, [], ◌∷◌, ◌++◌, map, length, replicate, refl, sym, ap, ◌∙◌, subst, arith, ⊎_elim}
use Rattle.std.specs.Prelude.{count_by, nat_le, nat_eq, nat_lt, filter as kept_of}
use Rattle.std.proofs.lemmas.Bool.{and_parts}
use Rattle.river_plan.proofs.ValidLaw.{total-append}
use Rattle.river_base.proofs.PlaceLemmas.{if_ge}
use Rattle.river_base.specs.declared.kind.FlatType.TheVariants.{Rows}
use Rattle.kern_rows.specs.Forms.{FilterForm}
use Rattle.river_kernels.specs.Fits.{Fits, rows}
use Rattle.river_kernels.specs.Formed.{has_rates, is_steps, is_number, is_usual, is_first, pushes}
use Rattle.river_kernels.specs.Kern.{Kern, filter, collect}
use Rattle.river_kernels.specs.declared.types.VarKind.TheVariants.{Private}
use Rattle.river_plan.specs.Forms.{Name, OpForm, PlanForm, all_decls, table_names}
use Rattle.river_plan.specs.Kinds.{kind_of, var_kind, IsFit}
use Rattle.river_plan.specs.Names.{count}
use Rattle.river_plan.specs.Uses.{named_it, vars_it}
use Rattle.river_plan.specs.Valid.{IsPlan}
use Rattle.river_plan.proofs.NameLemmas.{count-append, more_or_zero}
use Rattle.brooklet_model.specs.Firings.{feed}
use Rattle.brooklet_model.specs.Fire.{fire, first_kept}
use Rattle.brooklet_model.specs.Words.{feed_all}
use Rattle.brooklet_model.specs.Histories.{joined, tables_of}
use Rattle.brooklet_model.proofs.Solutions.{count_here}
use Rattle.rw_fission.specs.Fission.{Way, equal_weights, each_op, by_blocks, replica_op, joiner_ops, split_ops, split_by}
use Rattle.plan_edits.specs.Lists.{first_with}
use Rattle.rw_fission.specs.Made.{FissionNames, each_name}
use Rattle.rw_fission.specs.May.{MayBlock}
use Rattle.rw_fission.proofs.ApartPlan.{IsApartPlan}
use Rattle.rw_fission.specs.Splits.{Splits, JoinerGives, dealt_to}
use Rattle.rw_fission.proofs.BlockLaw.{TakesBlocks, blocks_undo}
use Rattle.rw_fission.proofs.Declared.{count_each}
use Rattle.plan_edits.proofs.Surgery.{found}
use Rattle.rw_fission.proofs.Swap.{it_is, swap_of}
use Rattle.rw_fission.proofs.WayLemmas.{one_at_most, deal_fits, collect_fits, sum_zero, copies_vars, count-without, no_table, one_name}

-- an operator's only variable is no table
no_tables : (tables vs : List Name) (w : Name) → vs ≡ w ∷ [] → count w tables ≡ 0 → kept_of (λ v. nat_lt 0 (count v tables)) vs ≡ []
no_tables tables vs w e z = ap (kept_of (λ v. nat_lt 0 (count v tables))) e ∙ if_ge 0 (count w tables) (w ∷ []) [] (omega (arith, z))

module _ (p : PlanForm) (l : Name) (op : OpForm) (m : FissionNames) (n : ℕ) (source : Name) (f : FilterForm) (v : IsPlan p)
    (here : first_with (named_it l) p.ops ≡ Some op) (some : 0 < n) (y : MayBlock p op source f) where
  abbrev w : Way
  w = by_blocks p op m n f.pop f.push

  -- the operator fits
  fit : Fits (filter f) (map (kind_of (all_decls p)) op.reads) (map (kind_of (all_decls p)) op.writes) (map (var_kind p.tables p.vars) op.vars)
  fit = subst (λ k. Fits k (map (kind_of (all_decls p)) op.reads) (map (kind_of (all_decls p)) op.writes) (map (var_kind p.tables p.vars) op.vars)) y.kernel
      (it_is p.ops _ op (split_ops op m n w) (swap_of l p.ops op (split_ops op m n w) (found (named_it l) p.ops op here)) (IsFit p) v.fits)

  -- a filter reads rows of one value
  pub kind_in : kind_of (all_decls p) source ≡ rows 1
  kind_in = let e = sym (ap (map (kind_of (all_decls p))) y.reads) ∙ fit.0 in (let i : kind_of (all_decls p) source ≡ rows 1 = cc e in i)

  out : (x : Name) × (op.writes ≡ x ∷ []) × (kind_of (all_decls p) x ≡ rows 1)
  out = one_name (kind_of (all_decls p)) op.writes (rows 1) fit.1

  variable : (x : Name) × (op.vars ≡ x ∷ []) × (var_kind p.tables p.vars x ≡ Private)
  variable = one_name (var_kind p.tables p.vars) op.vars Private fit.2

  rates : (1 ≤ f.pop) × (f.pop ≤ f.peek)
  rates =
      let z = and_parts (is_usual f) (is_first f.body.slots f.first) fit.3 in
      let a = and_parts (has_rates f)
      (is_steps f.peek f.body.slots (pos 1 ∷ []) f.body.steps && (nat_le (length f.starts) f.body.slots && is_number (pushes f.body.steps) f.push)) z.0 in
      let b = and_parts (nat_eq f.body.inputs f.peek) (nat_le 1 f.pop && nat_le f.pop f.peek) a.0 in
      let c = and_parts (nat_le 1 f.pop) (nat_le f.pop f.peek) b.1 in
      (grind (arith, c.0), grind (arith, c.1))

  takes : TakesBlocks f
  takes = record { fits = fit.3; whole = y.whole; takes = rates.0; gives = y.gives; none = y.starts; usual = y.usual }

  joins_blocks : JoinerGives (λ x. Unit {0}) op n w w.join
  joins_blocks xs h good e = by_kernel op.kernel y.kernel e
    where
      by_kernel : (k : Kern) → k ≡ filter f → ((i : ℕ) → i < n → h i ≡ (feed (fire k 0) (dealt_to n f.pop xs i) (first_kept k)).outs 0)
          → (feed_all (collect (equal_weights n f.push)) h (first_kept (collect (equal_weights n f.push)))).outs 0 ≡ (feed (fire k 0) xs (first_kept k)).outs 0
      by_kernel k ek d =
          blocks_undo n f xs h some takes (λ i lt. d i lt ∙ ap (λ a. (feed (fire a 0) (dealt_to n f.pop xs i) (first_kept a)).outs 0) ek)
          ∙ ap (λ a. (feed (fire a 0) xs (first_kept a)).outs 0) (sym ek)

  module _ (apart : IsApartPlan (split_by p l op m n (rows 1) w)) where
    variables : (x : Name) → count x (table_names p.tables) + (count x w.stay + count x w.new) ≤ 1
    variables x =
        let a = apart.variables_once x in let b = count-append x (table_names p.tables) (w.stay ++ w.new) in let c = count-append x w.stay w.new in
        omega (arith, a, b, c)

    replica_new : (i : ℕ) → i < n → count (m.replica i) (table_names p.tables) ≡ 0
    replica_new i lt =
        let a = variables (m.replica i) in let c = count_each m.replica n i lt in let d = count-append (m.replica i) (each_name m.replica n) (m.joiner ∷ []) in
        omega (arith, a, c, d)

    -- a filter that takes whole blocks may be split
    pub splits_blocks : Splits (λ x. Unit {0}) p l op m n source (rows 1) w
    splits_blocks = record {
      some = some;
      reads = y.reads;
      kind = kind_in;
      ends = (
        out.0,
        out.1,
        refl,
        subst (λ k. Fits (collect (equal_weights n f.push)) (replicate n (rows 1)) (k ∷ []) (Private ∷ [])) (sym out.2)
            (collect_fits n f.push (Rows 1) some y.gives refl),
      );
      queues_once = apart.queues_once;
      variables_once = variables;
      labels_once = apart.labels_once;
      within = apart.within;
      deals = deal_fits n f.pop (Rows 1) some rates.0 refl;
      inner = λ kind a b i lt.
          let new : kind (m.replica i) ≡ Private =
          b (m.replica i) (let c = count_each m.replica n i lt in let d =
          count-append (m.replica i) (each_name m.replica n) (m.joiner ∷ []) in omega (arith, c, d)) in
          subst (λ k. Fits k (rows 1 ∷ []) (rows 1 ∷ []) (kind (m.replica i) ∷ [])) (sym y.kernel) (refl, refl, ap (λ k. k ∷ []) new, fit.3);
      stay_in =
          λ x. let c = count-without x op.vars p.vars in ⊎_elim (λ lt. let e = c.1 lt in omega (arith, e)) (λ z. let e = c.0 z in omega (arith, e))
          (more_or_zero (count x op.vars));
      stay_but = λ x z. (count-without x op.vars p.vars).0 z;
      splitter_new = count_here m.splitter (each_name m.replica n ++ m.joiner ∷ []);
      joiner_new = λ j e. let a = count_here m.joiner [] in let d = count-append m.joiner (each_name m.replica n) (m.joiner ∷ []) in omega (arith, a, d);
      put_vars = λ x z.
          let a = total-append (vars_it x) (each_op (replica_op w m) n) (joiner_ops op m n w.join) in
          let b = copies_vars x (replica_op w m) m.replica n (λ i. refl) in
          let d = count-append x (each_name m.replica n) (m.joiner ∷ []) in
          omega (arith, a, b, d);
      apart = λ i x lt. one_at_most (m.replica i) x;
      joins = joins_blocks;
      adds = λ xs x test.
          let tables = table_names p.tables in
          let a = sum_zero n (λ i. count_by test
          (joined (tables_of tables (replica_op w m i)) (feed (fire w.inner 0) (dealt_to n w.share xs i) (first_kept w.inner)).adds x))
          (λ i lt. ap (λ ts. count_by test (joined ts (feed (fire w.inner 0) (dealt_to n w.share xs i) (first_kept w.inner)).adds x))
          (no_tables tables (m.replica i ∷ []) (m.replica i) refl (replica_new i lt))) in
          let none = no_tables tables op.vars variable.0 variable.1 (no_table p.tables p.vars variable.0 variable.2) in
          a ∙ ap (λ ts. count_by test (joined ts (feed (fire op.kernel 0) xs (first_kept op.kernel)).adds x)) (sym none);
    }
