-- A plan in which an operator is split means the same.
use Rattle.std.proofs.Common.{◌≡◌, ℕ, ℤ, zero, suc, ◌+◌, ◌<◌, ◌≤◌, Bool, Option, Some, None, List, [], ◌∷◌, ◌++◌, map, length, refl, sym, ap, ◌∙◌, subst, arith}
use Rattle.std.proofs.Common.{⊎_elim}
use Rattle.std.specs.Prelude.{All, count_by, filter, nat_lt}
use Rattle.river_base.proofs.PlaceLemmas.{if_ge}
use Rattle.river_base.specs.declared.item.Item as item
use Rattle.river_base.specs.declared.kind.QueueType.{QueueType}
use Rattle.river_kernels.specs.Kern.{Kern}
use Rattle.river_plan.specs.Forms.{Name, OpForm, PlanForm, decl_names, table_names, all_decls}
use Rattle.river_plan.specs.Kinds.{var_kind, kind_of, IsFit}
use Rattle.river_plan.specs.Names.{count}
use Rattle.river_plan.specs.Uses.{Each, total, writes_it, reads_it, named_it}
use Rattle.river_plan.specs.Valid.{IsPlan}
use Rattle.river_plan.proofs.NameLemmas.{more_or_zero}
use Rattle.brooklet_model.specs.Firings.{feed}
use Rattle.brooklet_model.specs.Fire.{fire, first_kept, ins}
use Rattle.brooklet_model.specs.Histories.{History, lists_of, given_on, written, histories, joined, tables_of, adds, hist, Lists, Solves}
use Rattle.brooklet_model.specs.Laws.{given_to}
use Rattle.brooklet_model.proofs.Feeds.{one_input}
use Rattle.brooklet_model.proofs.Ports.{counts}
use Rattle.brooklet_model.proofs.Solutions.{count_here, lists_written, written_out, stays, plan_solves}
use Rattle.brooklet_model.proofs.Traces.{adds_it, lists_cong}
use Rattle.rw_fission.specs.Fission.{Way, outs_of, replica_op, splitter_op, joiner_ops, each_op, split_ops, split_by}
use Rattle.plan_edits.specs.Lists.{first_with}
use Rattle.rw_fission.specs.Made.{FissionNames, each_name}
use Rattle.rw_fission.specs.Splits.{Splits, JoinerFits, JoinerGives, given_names, dealt_to, sum_below}
use Rattle.plan_edits.specs.Meaning.{SameMeaning}
use Rattle.rw_fission.proofs.Swap.{it_is, stay, swapped_hist, swapped_adds}
use Rattle.rw_fission.proofs.SplitValid as split

-- the lists at names by place, and the other way
pub lists_at : (f : ℕ → Name) (n : ℕ) (g : ℕ → List item.Item) (h : History) → Lists (each_name f n) g h → (i : ℕ) → i < n → h (f i) ≡ g i
lists_at f zero g h l i lt = absurd (omega (arith, lt))
lists_at f (suc n) g h l zero lt = l.0
lists_at f (suc n) g h l (suc i) lt = lists_at (λ i. f (suc i)) n (λ i. g (suc i)) h l.1 i (omega (arith, lt))

-- the history at a made name
pub read_at : (f : ℕ → Name) (n : ℕ) (h : History) (i : ℕ) → i < n → lists_of h (each_name f n) i ≡ h (f i)
read_at f zero h i lt = absurd (omega (arith, lt))
read_at f (suc n) h zero lt = refl
read_at f (suc n) h (suc i) lt = read_at (λ i. f (suc i)) n h i (omega (arith, lt))

-- a sum over the replicas
pub total_copies : (f : OpForm → ℕ) (g : ℕ → OpForm) (n : ℕ) → total f (each_op g n) ≡ sum_below n (λ i. f (g i))
total_copies f g zero = refl
total_copies f g (suc n) = let e = total_copies f (λ i. g (suc i)) n in omega (arith, e)

-- sums of equal numbers
pub sum_same : (n : ℕ) (f g : ℕ → ℕ) → ((i : ℕ) → i < n → f i ≡ g i) → sum_below n f ≡ sum_below n g
sum_same zero f g h = refl
sum_same (suc n) f g h =
    let a = h 0 (omega arith) in let b = sum_same n (λ i. f (suc i)) (λ i. g (suc i)) (λ i lt. h (suc i) (omega (arith, lt))) in omega (arith, a, b)

-- an operator whose one variable is no table adds to none
no_adds : (tables : List Name) (h : History) (x : Name) (test : List ℤ → Bool) (o : OpForm) (w : Name) → o.vars ≡ w ∷ [] → count w tables ≡ 0
    → adds_it tables h x test o ≡ 0
no_adds tables h x test o w e z =
    let none : tables_of tables o ≡ [] = ap (filter (λ v. nat_lt 0 (count v tables))) e ∙ if_ge 0 (count w tables) (w ∷ []) [] (omega (arith, z)) in
    ap (λ ts. count_by test (joined ts (given_on o h).adds x)) none

-- an operator of one input
pub fed_one : (o : OpForm) (r : Name) (h : History) → o.reads ≡ r ∷ [] → ins o.kernel ≡ 1 → given_on o h ≡ feed (fire o.kernel 0) (h r) (first_kept o.kernel)
fed_one o r h e k =
    one_input o.kernel (lists_of h o.reads) (first_kept o.kernel) k ∙ ap (λ rs. feed (fire o.kernel 0) (lists_of h rs 0) (first_kept o.kernel)) e

module _ (Good : item.Item → Type 0) (p : PlanForm) (l : Name) (op : OpForm) (m : FissionNames) (n : ℕ) (source : Name) (t : QueueType) (w : Way) (v : IsPlan p)
    (here : first_with (named_it l) p.ops ≡ Some op) (y : Splits Good p l op m n source t w) where
  abbrev p' : PlanForm
  p' = split_by p l op m n t w

  abbrev da : List Name
  da = each_name m.dealt n

  abbrev pa : List Name
  pa = given_names m.given n w.join

  abbrev put : List OpForm
  put = split_ops op m n w

  one_in : ins op.kernel ≡ 1
  one_in =
      let c = counts op.kernel _ _ _ (it_is p.ops p'.ops op put (split.e Good p l op m n source t w v here y) (IsFit p) v.fits) in
      sym c.ins ∙ ap (λ rs. length (map (kind_of (all_decls p)) rs)) y.reads

  inner_in : ins w.inner ≡ 1
  inner_in =
      sym (counts w.inner _ _ _
      (y.inner (λ x. var_kind p.tables (w.stay ++ w.new) x) (λ x lt. sym (split.var_tables Good p l op m n source t w v here y x lt))
      (λ x lt. split.var_private Good p l op m n source t w v here y x lt) 0 y.some)).ins

  module _ (g : History) where
    abbrev h : History
    h = histories p.ops g

    abbrev dealt : ℕ → List item.Item
    dealt = dealt_to n w.share (h source)

    -- what each replica gives
    abbrev outs : ℕ → List item.Item
    outs i = (feed (fire w.inner 0) (dealt i) (first_kept w.inner)).outs 0

    -- the old histories, with the lists of the made queues
    abbrev h' : History
    h' = written da dealt (written pa outs h)

    old : (x : Name) → count x da + count x pa ≡ 0 → h' x ≡ h x
    old x z = written_out da dealt (written pa outs h) x (omega (arith, z)) ∙ written_out pa outs h x (omega (arith, z))

    made_once : (x : Name) → count x da + count x pa ≤ 1
    made_once x = split.made_once Good p l op m n source t w v here y x

    dealt_lists : Lists da dealt h'
    dealt_lists = lists_written da dealt (written pa outs h) h' (λ q. let o = made_once q in omega (arith, o)) (λ q lt. refl)

    outs_lists : Lists pa outs h'
    outs_lists =
        lists_written pa outs h h' (λ q. let o = made_once q in omega (arith, o))
        (λ q lt. written_out da dealt (written pa outs h) q (let o = made_once q in omega (arith, o, lt)))

    source_old : h' source ≡ h source
    source_old =
        old source (split.old_read Good p l op m n source t w v here y source
        (let a = split.reads_old Good p l op m n source t w v here y source in let b = ap (count source) y.reads in let c =
        count_here source [] in omega (arith, a, b, c)))

    splitter_solves : Solves h' (splitter_op op m n w)
    splitter_solves =
        lists_cong da dealt (given_on (splitter_op op m n w) h').outs h'
        (λ i. sym (ap (λ r. r.outs i) (fed_one (splitter_op op m n w) source h' y.reads refl) ∙ ap (λ xs. dealt_to n w.share xs i) source_old))
        dealt_lists

    dealt_at : (i : ℕ) → i < n → h' (m.dealt i) ≡ dealt i
    dealt_at i lt = lists_at m.dealt n dealt h' dealt_lists i lt

    copy_is : (i : ℕ) → i < n → given_on (replica_op w m i) h' ≡ feed (fire w.inner 0) (dealt i) (first_kept w.inner)
    copy_is i lt = fed_one (replica_op w m i) (m.dealt i) h' refl inner_in ∙ ap (λ xs. feed (fire w.inner 0) xs (first_kept w.inner)) (dealt_at i lt)

    given_at : (j : Option (Kern × QueueType)) → w.join ≡ j → (i : ℕ) → i < n → Lists (outs_of j (m.given i)) (given_on (replica_op w m i) h').outs h'
    given_at None e i lt = tt
    given_at (Some j) e i lt = (
      lists_at m.given n outs h' (subst (λ k. Lists (given_names m.given n k) outs h') e outs_lists) i lt ∙ sym (ap (λ r. r.outs 0) (copy_is i lt)),
      tt,
    )

    module _ (good : All Good (h source)) where
      joiner_solves : (j : Kern × QueueType) → w.join ≡ Some j
          → Solves h' (record { label = m.joiner; kernel = j.0; reads = each_name m.given n; writes = op.writes; vars = m.joiner ∷ [] })
      joiner_solves j e =
          let o : OpForm = record { label = m.joiner; kernel = j.0; reads = each_name m.given n; writes = op.writes; vars = m.joiner ∷ [] } in
          let en : JoinerFits p op n (Some j) = subst (JoinerFits p op n) e y.ends in
          let law : JoinerGives Good op n w (Some j) = subst (JoinerGives Good op n w) e y.joins in
          let lists = subst (λ k. Lists (given_names m.given n k) outs h') e outs_lists in
          let s : Lists (en.0 ∷ []) (given_on op h).outs h =
          subst (λ ws. Lists ws (given_on op h).outs h) en.1
          (it_is p.ops p'.ops op put (split.e Good p l op m n source t w v here y) (Solves h) (plan_solves p v g)) in
          let named = split.old_write Good p l op m n source t w v here y en.0
          (let a = split.writes_old Good p l op m n source t w v here y en.0 in let b = ap (count en.0) en.1 in let c =
          count_here en.0 [] in omega (arith, a, b, c)) in
          subst (λ ws. Lists ws (given_on o h').outs h') (sym en.1) (
            old en.0 named ∙ s.0
                ∙ ap (λ r. r.outs 0) (fed_one op source h y.reads one_in)
                ∙ sym (law (h source) (lists_of h' (each_name m.given n)) good (λ i lt. read_at m.given n h' i lt ∙ lists_at m.given n outs h' lists i lt)),
            tt,
          )

      put_solves : Each (Solves h') put
      put_solves = split.put_all Good p l op m n source t w v here y (Solves h') splitter_solves (λ i lt. given_at w.join refl i lt) joiner_solves

      same_h : (q : Name)
          → 0 < stay p.ops p'.ops op put (split.e Good p l op m n source t w v here y) (reads_it q) + stay p.ops p'.ops op put
          (split.e Good p l op m n source t w v here y) (writes_it q)
          → h q ≡ h' q
      same_h q lt =
          let a = split.reads_old Good p l op m n source t w v here y q in let b = split.writes_old Good p l op m n source t w v here y q in
          sym (old q (⊎_elim (λ k. split.old_read Good p l op m n source t w v here y q k)
          (λ z. split.old_write Good p l op m n source t w v here y q (omega (arith, a, b, z, lt))) (more_or_zero (total (reads_it q) p.ops))))

      in_put : (q : Name) → total (writes_it q) p'.ops ≡ 0 → h' q ≡ g q
      in_put q z = let a = split.writes_more Good p l op m n source t w v here y q in old q (omega (arith, a, z)) ∙ stays p.ops g q (omega (arith, a, z))

      -- these are the histories of the new plan
      pub is_hist : (q : Name) → h' q ≡ histories p'.ops g q
      is_hist q =
          swapped_hist p p' v (split.valid Good p l op m n source t w v here y) op put
          (split.e Good p l op m n source t w v here y) g h' put_solves same_h in_put q

      -- the outputs are the same
      pub out_same : (q : Name) → 0 < count q (decl_names p.outputs) → histories p'.ops g q ≡ h q
      out_same q lt =
          sym (is_hist q)
          ∙ old q (split.old_named Good p l op m n source t w v here y q
          (let i = split.ends_named Good p l op m n source t w v here y q in omega (arith, i, lt)))

      abbrev tables : List Name
      tables = table_names p.tables

      no_table : (x : Name) → 0 < count x w.new → count x tables ≡ 0
      no_table x lt = let o = y.variables_once x in omega (arith, o, lt)

      joiner_adds : (x : Name) (test : List ℤ → Bool) (j : Option (Kern × QueueType)) → w.join ≡ j → total (adds_it tables h' x test) (joiner_ops op m n j) ≡ 0
      joiner_adds x test None e = refl
      joiner_adds x test (Some j) e =
          let k = no_adds tables h' x test
          (record { label = m.joiner; kernel = j.0; reads = each_name m.given n; writes = op.writes; vars = m.joiner ∷ [] }) m.joiner refl
          (no_table m.joiner (y.joiner_new j e)) in
          omega (arith, k)

      -- the bags of rows are the same
      pub adds_same : (x : Name) (test : List ℤ → Bool) → count_by test (adds tables p'.ops (histories p'.ops g) x) ≡ count_by test (adds tables p.ops h x)
      adds_same x test =
          let a = swapped_adds p p' v (split.valid Good p l op m n source t w v here y) op put
          (split.e Good p l op m n source t w v here y) g h' put_solves same_h in_put tables x test in
          let b = split.put_sum Good p l op m n source t w v here y (adds_it tables h' x test) in
          let c = no_adds tables h' x test (splitter_op op m n w) m.splitter refl (no_table m.splitter y.splitter_new) in
          let d = joiner_adds x test w.join refl in
          let e = total_copies (adds_it tables h' x test) (replica_op w m) n in
          let f = sum_same n (λ i. adds_it tables h' x test (replica_op w m i))
          (λ i. count_by test (joined (tables_of tables (replica_op w m i)) (feed (fire w.inner 0) (dealt i) (first_kept w.inner)).adds x))
          (λ i lt. ap (λ r. count_by test (joined (tables_of tables (replica_op w m i)) r.adds x)) (copy_is i lt)) in
          let k = y.adds (h source) x test in
          let o = ap (λ r. count_by test (joined (tables_of tables op) r.adds x)) (fed_one op source h y.reads one_in) in
          omega (arith, a, b, c, d, e, f, k, o)

  -- the new plan means the same
  pub same_meaning : (inputs : List (List item.Item)) → All Good (hist p inputs source) → SameMeaning p p' inputs
  same_meaning inputs good = record {
    hist = λ q lt. out_same (given_to p inputs) good q lt;
    adds = λ x test. adds_same (given_to p inputs) good x test;
  }
